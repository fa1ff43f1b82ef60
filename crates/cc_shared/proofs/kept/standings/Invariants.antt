use Rattle.std.proofs.Common.{◌≡◌, map}
use Rattle.std.specs.List.{range_with_len}
use Rattle.cc_shared.specs.Sharing.{standing_at}
use Rattle.cc_shared.proofs.kept.standings.Given as goal

abbrev pub invariant-loop-account : goal.invariant-loop-account
invariant-loop-account l = l.pairs.items ≡ map (standing_at l.book.terms l.book.history) (range_with_len 0 l.account)
