use Rattle.std.proofs.Common.{◌≡◌, ◌++◌, length}
use Rattle.std.specs.List.{filter_map}
use Rattle.std.specs.Vec.Iter.{into_iter_items, into_iter_len}
use Rattle.farm_script.specs.TermsWords.{closing_of, joining_of, reopening_of}
use Rattle.farm_script.proofs.terms.Parted.of.Given as goal

abbrev pub invariant-loop-item : goal.invariant-loop-item
invariant-loop-item l =
    (l.yielded ++ into_iter_items l.item-iterator ≡ into_iter_items l.initial.item-iterator)
    × (into_iter_len l.item-iterator ≡ length (into_iter_items l.item-iterator))
    × (l.parted.joining.items ≡ filter_map joining_of l.yielded)
    × (l.parted.closing.items ≡ filter_map closing_of l.yielded)
    × (l.parted.reopening.items ≡ filter_map reopening_of l.yielded)
