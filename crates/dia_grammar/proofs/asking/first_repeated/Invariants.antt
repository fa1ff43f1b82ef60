use Rattle.std.proofs.Common.{◌≡◌, take, drop}
use Rattle.dia_grammar.specs.Grammar.{second_of, second_behind}
use Rattle.dia_grammar.proofs.asking.first_repeated.Given as goal

-- the answer is that to what is left, behind the AVPs so far
abbrev pub invariant-loop-at : goal.invariant-loop-at
invariant-loop-at l = second_of l.codes l.avps ≡ second_behind l.codes (take l.at l.avps) (drop l.at l.avps)
