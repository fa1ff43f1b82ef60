-- How numbers, texts and kinds stand in a line.
use Rattle.std.specs.Prelude.{ℕ, ◌+◌, ◌/◌, ◌%◌, ◌==◌, ◌&&◌, nat_lt, not, Bool, List, [], ◌∷◌, codes, Option, None, Some, if◌then◌else◌}
use Rattle.std.specs.List.{concat, flat_map}
use Rattle.std.specs.Fmt.{decimal}
use Rattle.cc_rating.specs.declared.tariff.UnitKind.{UnitKind}
use Rattle.cc_rating.specs.declared.tariff.UnitKind.TheVariants.{Time, Octets, Units}
use Rattle.cc_view.specs.declared.request.RequestKind.{RequestKind}
use Rattle.cc_view.specs.declared.request.RequestKind.TheVariants.{Initial, Update, Termination, Event}
use Rattle.cc_view.specs.declared.request.RequestedAction.{RequestedAction}
use Rattle.cc_view.specs.declared.request.RequestedAction.TheVariants.{DirectDebiting, RefundAccount, CheckBalance, PriceEnquiry}

-- each line ends with it
abbrev pub line_feed : List ℕ
line_feed = 10 ∷ []

-- a number behind a space, or `-` where there is none
abbrev pub optional_text : Option ℕ → List ℕ
optional_text None = codes " -"
optional_text (Some number) = concat (codes " " ∷ decimal number ∷ [])

-- a visible ASCII character, but `"` and `%`
abbrev pub is_plain : ℕ → Bool
is_plain octet = nat_lt 32 octet && (nat_lt octet 127 && (not (octet == 34) && not (octet == 37)))

-- a hexadecimal digit
abbrev pub digit : ℕ → ℕ
digit value = if nat_lt value 10 then value + 48 else value + 55

-- a plain octet as itself, another one as `%` and two digits
abbrev pub octet_text : ℕ → List ℕ
octet_text octet = if is_plain octet then octet ∷ [] else 37 ∷ digit (octet / 16) ∷ digit (octet % 16) ∷ []

-- octets in quotes
abbrev pub quoted : List ℕ → List ℕ
quoted octets = concat (codes "\"" ∷ flat_map octet_text octets ∷ codes "\"" ∷ [])

-- CC-Request-Type
abbrev pub kind_word : RequestKind → List ℕ
kind_word Initial = codes "initial"
kind_word Update = codes "update"
kind_word Termination = codes "termination"
kind_word Event = codes "event"

-- Requested-Action
abbrev pub action_word : Option RequestedAction → List ℕ
action_word None = codes "-"
action_word (Some DirectDebiting) = codes "direct-debiting"
action_word (Some RefundAccount) = codes "refund-account"
action_word (Some CheckBalance) = codes "check-balance"
action_word (Some PriceEnquiry) = codes "price-enquiry"

-- what the units of a tariff are, as in a site file
abbrev pub unit_word : UnitKind → List ℕ
unit_word Time = codes "time"
unit_word Octets = codes "octets"
unit_word Units = codes "units"
