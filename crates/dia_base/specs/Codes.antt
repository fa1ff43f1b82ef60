-- The numbers of commands, of applications and of AVPs of vendor 0 that definitions name (RFC 6733, section 4.5; RFC 8506, sections 1.3, 3 and 8). They are apart from the constants of the same names, so that a wrong constant is refused.
use Rattle.std.specs.Prelude.{ℕ}

-- the Command Code of Credit-Control
abbrev pub credit_control_command : ℕ
credit_control_command = 272

-- the Application-ID of Credit-Control
abbrev pub credit_control_application : ℕ
credit_control_application = 4

-- ---- codes of AVPs

abbrev pub event_timestamp : ℕ
event_timestamp = 55

abbrev pub auth_application_id : ℕ
auth_application_id = 258

abbrev pub session_id : ℕ
session_id = 263

abbrev pub origin_host : ℕ
origin_host = 264

abbrev pub result_code : ℕ
result_code = 268

abbrev pub product_name : ℕ
product_name = 269

abbrev pub failed_avp : ℕ
failed_avp = 279

abbrev pub route_record : ℕ
route_record = 282

abbrev pub destination_realm : ℕ
destination_realm = 283

abbrev pub proxy_info : ℕ
proxy_info = 284

abbrev pub destination_host : ℕ
destination_host = 293

abbrev pub origin_realm : ℕ
origin_realm = 296

abbrev pub cc_request_number : ℕ
cc_request_number = 415

abbrev pub cc_request_type : ℕ
cc_request_type = 416

abbrev pub cc_service_specific_units : ℕ
cc_service_specific_units = 417

abbrev pub cc_session_failover : ℕ
cc_session_failover = 418

abbrev pub cc_time : ℕ
cc_time = 420

abbrev pub cc_total_octets : ℕ
cc_total_octets = 421

abbrev pub check_balance_result : ℕ
check_balance_result = 422

abbrev pub cost_information : ℕ
cost_information = 423

abbrev pub currency_code : ℕ
currency_code = 425

abbrev pub exponent : ℕ
exponent = 429

abbrev pub final_unit_indication : ℕ
final_unit_indication = 430

abbrev pub granted_service_unit : ℕ
granted_service_unit = 431

abbrev pub rating_group : ℕ
rating_group = 432

abbrev pub requested_action : ℕ
requested_action = 436

abbrev pub requested_service_unit : ℕ
requested_service_unit = 437

abbrev pub service_identifier : ℕ
service_identifier = 439

abbrev pub subscription_id : ℕ
subscription_id = 443

abbrev pub subscription_id_data : ℕ
subscription_id_data = 444

abbrev pub unit_value : ℕ
unit_value = 445

abbrev pub used_service_unit : ℕ
used_service_unit = 446

abbrev pub value_digits : ℕ
value_digits = 447

abbrev pub validity_time : ℕ
validity_time = 448

abbrev pub final_unit_action : ℕ
final_unit_action = 449

abbrev pub subscription_id_type : ℕ
subscription_id_type = 450

-- Multiple-Services-Credit-Control
abbrev pub multiple_services : ℕ
multiple_services = 456

abbrev pub service_context_id : ℕ
service_context_id = 461
