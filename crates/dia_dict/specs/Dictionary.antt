-- The AVP dictionary: codes, names and kinds (RFC 6733, section 4.5; RFC 8506, section 8).
use Rattle.std.specs.Prelude.{ℕ, List, [], ◌∷◌, Option, option_map, find, codes, ◌==◌, ◌&&◌, bytes_eq}
use Rattle.dia_dict.specs.declared.row.Kind.{Kind}
use Rattle.dia_dict.specs.declared.row.Kind.TheVariants.{Unsigned32, Unsigned64, Integer32, Integer64, Time, Enumerated, Utf8String, DiameterIdentity, OctetString, Address, Grouped}
use Rattle.dia_dict.specs.declared.row.Row.{Row}

-- what the dictionary says of an AVP; the name is the octets of its ASCII
pub record Entry : Type 0 where
  pub code : ℕ
  pub vendor : ℕ
  pub name : List ℕ
  pub kind : Kind

-- a row of an AVP without vendor
abbrev pub row : ℕ → List ℕ → Kind → Entry
row code name kind = record { code = code; vendor = 0; name = name; kind = kind }

-- the 64 rows, by kind
abbrev pub rows : List Entry
rows =
    row 258 (codes "Auth-Application-Id") Unsigned32
    ∷ row 259 (codes "Acct-Application-Id") Unsigned32
    ∷ row 265 (codes "Supported-Vendor-Id") Unsigned32
    ∷ row 266 (codes "Vendor-Id") Unsigned32
    ∷ row 267 (codes "Firmware-Revision") Unsigned32
    ∷ row 268 (codes "Result-Code") Unsigned32
    ∷ row 278 (codes "Origin-State-Id") Unsigned32
    ∷ row 299 (codes "Inband-Security-Id") Unsigned32
    ∷ row 415 (codes "CC-Request-Number") Unsigned32
    ∷ row 420 (codes "CC-Time") Unsigned32
    ∷ row 425 (codes "Currency-Code") Unsigned32
    ∷ row 432 (codes "Rating-Group") Unsigned32
    ∷ row 439 (codes "Service-Identifier") Unsigned32
    ∷ row 448 (codes "Validity-Time") Unsigned32
    ∷ row 412 (codes "CC-Input-Octets") Unsigned64
    ∷ row 414 (codes "CC-Output-Octets") Unsigned64
    ∷ row 417 (codes "CC-Service-Specific-Units") Unsigned64
    ∷ row 419 (codes "CC-Sub-Session-Id") Unsigned64
    ∷ row 421 (codes "CC-Total-Octets") Unsigned64
    ∷ row 429 (codes "Exponent") Integer32
    ∷ row 447 (codes "Value-Digits") Integer64
    ∷ row 55 (codes "Event-Timestamp") Time
    ∷ row 273 (codes "Disconnect-Cause") Enumerated
    ∷ row 295 (codes "Termination-Cause") Enumerated
    ∷ row 416 (codes "CC-Request-Type") Enumerated
    ∷ row 418 (codes "CC-Session-Failover") Enumerated
    ∷ row 422 (codes "Check-Balance-Result") Enumerated
    ∷ row 426 (codes "Credit-Control") Enumerated
    ∷ row 427 (codes "Credit-Control-Failure-Handling") Enumerated
    ∷ row 428 (codes "Direct-Debiting-Failure-Handling") Enumerated
    ∷ row 436 (codes "Requested-Action") Enumerated
    ∷ row 449 (codes "Final-Unit-Action") Enumerated
    ∷ row 450 (codes "Subscription-Id-Type") Enumerated
    ∷ row 455 (codes "Multiple-Services-Indicator") Enumerated
    ∷ row 1 (codes "User-Name") Utf8String
    ∷ row 50 (codes "Acct-Multi-Session-Id") Utf8String
    ∷ row 263 (codes "Session-Id") Utf8String
    ∷ row 269 (codes "Product-Name") Utf8String
    ∷ row 281 (codes "Error-Message") Utf8String
    ∷ row 424 (codes "Cost-Unit") Utf8String
    ∷ row 444 (codes "Subscription-Id-Data") Utf8String
    ∷ row 461 (codes "Service-Context-Id") Utf8String
    ∷ row 264 (codes "Origin-Host") DiameterIdentity
    ∷ row 280 (codes "Proxy-Host") DiameterIdentity
    ∷ row 282 (codes "Route-Record") DiameterIdentity
    ∷ row 283 (codes "Destination-Realm") DiameterIdentity
    ∷ row 293 (codes "Destination-Host") DiameterIdentity
    ∷ row 296 (codes "Origin-Realm") DiameterIdentity
    ∷ row 33 (codes "Proxy-State") OctetString
    ∷ row 411 (codes "CC-Correlation-Id") OctetString
    ∷ row 257 (codes "Host-IP-Address") Address
    ∷ row 260 (codes "Vendor-Specific-Application-Id") Grouped
    ∷ row 279 (codes "Failed-AVP") Grouped
    ∷ row 284 (codes "Proxy-Info") Grouped
    ∷ row 413 (codes "CC-Money") Grouped
    ∷ row 423 (codes "Cost-Information") Grouped
    ∷ row 430 (codes "Final-Unit-Indication") Grouped
    ∷ row 431 (codes "Granted-Service-Unit") Grouped
    ∷ row 437 (codes "Requested-Service-Unit") Grouped
    ∷ row 443 (codes "Subscription-Id") Grouped
    ∷ row 445 (codes "Unit-Value") Grouped
    ∷ row 446 (codes "Used-Service-Unit") Grouped
    ∷ row 456 (codes "Multiple-Services-Credit-Control") Grouped
    ∷ row 458 (codes "User-Equipment-Info") Grouped
    ∷ []

-- the row with this code and vendor, if there is one
abbrev pub row_of : ℕ → ℕ → Option Entry
row_of code vendor = find (λ r. r.code == code && r.vendor == vendor) rows

-- the row with this name, compared with case, if there is one
abbrev pub row_named : List ℕ → Option Entry
row_named name = find (λ r. bytes_eq r.name name) rows

-- the name, the kind and the code that a look-up finds
abbrev pub name_of : ℕ → Option (List ℕ)
name_of code = option_map (λ r. r.name) (row_of code 0)

abbrev pub kind_of : ℕ → Option Kind
kind_of code = option_map (λ r. r.kind) (row_of code 0)

abbrev pub code_of_name : List ℕ → Option ℕ
code_of_name name = option_map (λ r. r.code) (row_named name)

-- a row as a call gives it
abbrev pub entry_of : Row → Entry
entry_of r = record { code = r.code.0; vendor = r.vendor; name = r.name.now; kind = r.kind }
