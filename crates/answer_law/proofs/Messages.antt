-- The requests and answers of the worked examples as AVPs, and what is read in them.
use Rattle.std.proofs.Common.{ℕ, List, [], ◌∷◌, Option}
use Rattle.std.specs.Prelude.{codes}
use Rattle.dia_avp.specs.declared.avp.RawAvp.{RawAvp}
use Rattle.dia_avp.specs.AvpExample.{avp, group}
use Rattle.dia_avp.specs.AvpList.{written_list}
use Rattle.dia_message.specs.declared.message.Message.{Message}
use Rattle.cc_view.specs.declared.request.CcRequest.{CcRequest}
use Rattle.cc_view.specs.declared.request.RequestKind.{RequestKind}
use Rattle.cc_view.specs.declared.request.RequestedAction.{RequestedAction}
use Rattle.cc_view.specs.declared.request.Service.{Service}
use Rattle.cc_view.specs.declared.request.Subscription.{Subscription}
use Rattle.cc_view.specs.Answer.Writing.{u32_avp, u64_avp}
use Rattle.cc_view.specs.FirstDebit.{debit_header}

-- ---- requests

-- the AVPs of a request of c1.example with this Session-Id and CC-Request-Type, and with these behind
abbrev pub leading_avps : List ℕ → ℕ → List RawAvp → List RawAvp
leading_avps session kind behind =
    avp 263 session ∷ avp 264 (codes "c1.example") ∷ avp 296 (codes "example") ∷ avp 283 (codes "ocs.example") ∷ u32_avp 258 4
    ∷ avp 461 (codes "32251@3gpp.org") ∷ u32_avp 416 kind ∷ behind

-- with a CC-Request-Number before those
abbrev pub asking_avps : List ℕ → ℕ → ℕ → List RawAvp → List RawAvp
asking_avps session kind number behind = leading_avps session kind (u32_avp 415 number ∷ behind)

abbrev pub asking : List ℕ → ℕ → ℕ → List RawAvp → Message
asking session kind number behind = record { header = debit_header; body = written_list (asking_avps session kind number behind) }

-- Requested-Action
abbrev pub action_avp : ℕ → RawAvp
action_avp action = u32_avp 436 action

-- Subscription-Id, of a telephone number
abbrev pub subscriber_avp : List ℕ → RawAvp
subscriber_avp number = group 443 (u32_avp 450 0 ∷ avp 444 number ∷ [])

-- Multiple-Services-Credit-Control
abbrev pub service_group : List RawAvp → RawAvp
service_group members = group 456 members

-- Requested-Service-Unit without a count, and with one of octets
abbrev pub any_units_avp : RawAvp
any_units_avp = group 437 []

abbrev pub octets_avp : ℕ → RawAvp
octets_avp n = group 437 (u64_avp 421 n ∷ [])

-- Used-Service-Unit
abbrev pub used_avp : ℕ → RawAvp
used_avp n = group 446 (u64_avp 421 n ∷ [])

-- Rating-Group and Service-Identifier
abbrev pub rating_avp : ℕ → RawAvp
rating_avp n = u32_avp 432 n

abbrev pub identifier_avp : ℕ → RawAvp
identifier_avp n = u32_avp 439 n

-- ---- what is read in them

-- a request of a session, or with an action
abbrev pub request_of : List ℕ → ℕ → RequestKind → Option RequestedAction → List Subscription → List Service → CcRequest
request_of session number kind action subscriptions services = record {
  session = session;
  number = number;
  kind = kind;
  action = action;
  subscriptions = subscriptions;
  services = services;
}

abbrev pub subscriber : List ℕ → Subscription
subscriber number = record { kind = 0; text = number }

-- ---- answers

-- the AVPs of an answer of f1.example with this Result-Code, and with these behind
abbrev pub answering : List ℕ → ℕ → ℕ → ℕ → List RawAvp → List RawAvp
answering session code kind number behind =
    avp 263 session ∷ u32_avp 268 code ∷ avp 264 (codes "f1.example") ∷ avp 296 (codes "ocs.example") ∷ u32_avp 258 4
    ∷ u32_avp 416 kind ∷ u32_avp 415 number ∷ behind

-- CC-Session-Failover: supported
abbrev pub failover_avp : RawAvp
failover_avp = u32_avp 418 1

-- Granted-Service-Unit
abbrev pub granted_avp : ℕ → RawAvp
granted_avp n = group 431 (u64_avp 421 n ∷ [])

-- Validity-Time
abbrev pub validity_avp : RawAvp
validity_avp = u32_avp 448 600

-- Result-Code
abbrev pub result_avp : ℕ → RawAvp
result_avp code = u32_avp 268 code

-- Final-Unit-Indication with the action TERMINATE
abbrev pub final_avp : RawAvp
final_avp = group 430 (u32_avp 449 0 ∷ [])
