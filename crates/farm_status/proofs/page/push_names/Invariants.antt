use Rattle.std.proofs.Common.{◌≡◌, ◌++◌, List, Bool, true, false, ℕ, drop, string_bytes}
use Rattle.std.specs.Global.{Global}
use Rattle.std.specs.declared.string.String.{String}
use Rattle.farm_status.specs.Figures.{names_behind, names_text}
use Rattle.farm_status.proofs.page.push_names.Given as goal

-- what is still to be put, by whether nothing is put yet
abbrev pub rest_text : Bool → List (String Global) → List ℕ
rest_text true names = names_text names
rest_text false names = names_behind names

abbrev pub invariant-loop-name : goal.invariant-loop-name
invariant-loop-name l =
    string_bytes l.fn.out ++ names_text l.names ≡ string_bytes l.out ++ rest_text l.is_first (drop l.name-index l.names)
