-- Worked examples: what is tolerated in the AVPs of a request, and what is not.
use Rattle.std.specs.Prelude.{ℕ, List, [], ◌∷◌, ◌++◌, codes, Option}
use Rattle.dia_avp.specs.declared.avp.RawAvp.{RawAvp}
use Rattle.dia_grammar.specs.declared.fault.GrammarFault.{GrammarFault}
use Rattle.dia_grammar.specs.declared.profile.Tolerance.{Tolerance}
use Rattle.dia_grammar.specs.Profile.{RequestProfile}
use Rattle.dia_grammar.specs.Grammar.{grammar_fault}
use Rattle.dia_grammar.specs.RequestExample.{avp, context, destination, initial, number, session}
use Rattle.cc_view.specs.RequestView.Counting.{counted}

-- the profile that has these tolerances and nothing more
abbrev pub tolerant : List Tolerance → RequestProfile
tolerant tolerated = record { vendors = []; known = []; tolerated = tolerated }

-- an Auth-Application-Id
abbrev pub application : ℕ → RawAvp
application n = avp 258 (0 ∷ 0 ∷ 0 ∷ n ∷ [])

-- a Vendor-Specific-Application-Id of vendor 10415 with such a one in it
abbrev pub in_group : ℕ → RawAvp
in_group n = avp 260 (
    (0 ∷ 0 ∷ 1 ∷ 10 ∷ 64 ∷ 0 ∷ 0 ∷ 12 ∷ 0 ∷ 0 ∷ 40 ∷ 175 ∷ [])
    ++ 0 ∷ 0 ∷ 1 ∷ 2 ∷ 64 ∷ 0 ∷ 0 ∷ 12 ∷ 0 ∷ 0 ∷ 0 ∷ n ∷ [])

-- the host of the client as other octets: in letters of another case
abbrev pub host_in_capitals : RawAvp
host_in_capitals = avp 264 (codes "C1.example")

abbrev pub other_realm : RawAvp
other_realm = avp 296 (codes "d.example")

-- the five AVPs that a request begins with here
abbrev pub beginning : List RawAvp
beginning = session ∷ destination ∷ context ∷ number ∷ initial ∷ []

-- the fault of those with others behind them, where this is tolerated
abbrev pub fault_in : List Tolerance → List RawAvp → Option GrammarFault
fault_in tolerated avps = grammar_fault (tolerant tolerated) (counted (tolerant tolerated) (beginning ++ avps))
