-- Worked examples: AVPs of a request and of a group. Values are octets.
use Rattle.std.specs.Prelude.{ℕ, List, [], ◌∷◌, ◌++◌, map, codes, Option}
use Rattle.dia_avp.specs.declared.avp.RawAvp.{RawAvp}
use Rattle.dia_avp.specs.AvpList.{raw_avp}
use Rattle.dia_dict.specs.declared.value.Typed.TheVariants.{Unsigned32}
use Rattle.dia_dict.specs.Reading.{avp_of}
use Rattle.dia_grammar.specs.declared.fault.GrammarFault.{GrammarFault}
use Rattle.dia_grammar.specs.Profile.{strict}
use Rattle.dia_grammar.specs.Grammar.{grammar_fault}

-- an AVP of vendor 0 with the flag M
abbrev pub avp : ℕ → List ℕ → RawAvp
avp code value = raw_avp code 64 0 value

-- one without a value that another vendor has, with the flag M
abbrev pub vendor_avp : ℕ → ℕ → RawAvp
vendor_avp vendor code = raw_avp code 64 vendor []

abbrev pub session : RawAvp
session = avp 263 (codes "1;1;1")

abbrev pub host : RawAvp
host = avp 264 (codes "c1.example")

abbrev pub realm : RawAvp
realm = avp 296 (codes "c.example")

abbrev pub destination : RawAvp
destination = avp 283 (codes "ocs.example")

abbrev pub context : RawAvp
context = avp 461 (codes "32251@3gpp.org")

abbrev pub number : RawAvp
number = avp 415 (0 ∷ 0 ∷ 0 ∷ 0 ∷ [])

-- a CC-Request-Type
abbrev pub initial : RawAvp
initial = avp 416 (0 ∷ 0 ∷ 0 ∷ 1 ∷ [])

abbrev pub event : RawAvp
event = avp 416 (0 ∷ 0 ∷ 0 ∷ 4 ∷ [])

-- a CC-Request-Type of three octets, which is no event
abbrev pub short_event : RawAvp
short_event = avp 416 (0 ∷ 0 ∷ 4 ∷ [])

-- a Requested-Action
abbrev pub action : RawAvp
action = avp 436 (0 ∷ 0 ∷ 0 ∷ 0 ∷ [])

-- the seven AVPs that a request begins with here: there is no CC-Request-Type among them
abbrev pub beginning : List RawAvp
beginning = session ∷ host ∷ realm ∷ destination ∷ avp 258 (0 ∷ 0 ∷ 0 ∷ 4 ∷ []) ∷ context ∷ number ∷ []

-- the fault of those with others behind them, where vendor 10415 is listed
abbrev pub fault_behind : List RawAvp → Option GrammarFault
fault_behind avps = grammar_fault (strict (10415 ∷ [])) (beginning ++ avps)

-- the fault of those with others behind them, where these codes are known and no vendor is listed
abbrev pub fault_knowing : List ℕ → List RawAvp → Option GrammarFault
fault_knowing known avps = grammar_fault (record { vendors = []; known = known; tolerated = [] }) (beginning ++ avps)

-- the members of a group: two of one code, and one of vendor 7 between them
abbrev pub group : List RawAvp
group = avp 450 (0 ∷ 0 ∷ 0 ∷ 0 ∷ []) ∷ vendor_avp 7 999 ∷ avp 450 (0 ∷ 0 ∷ 0 ∷ 1 ∷ []) ∷ []

-- what the dictionary writes for a number: a Rating-Group, a CC-Request-Number and a Rating-Group
abbrev pub written_group : List RawAvp
written_group = map (λ code. avp_of code (Unsigned32 10)) (432 ∷ 415 ∷ 432 ∷ [])
