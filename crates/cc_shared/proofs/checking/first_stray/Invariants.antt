use Rattle.std.specs.List.{AllWithin}
use Rattle.cc_shared.specs.Receipts.{Fits}
use Rattle.cc_shared.proofs.checking.first_stray.Given as goal

abbrev pub invariant-loop-receipt : goal.invariant-loop-receipt
invariant-loop-receipt l = AllWithin (λ receipt. Fits l.book.terms l.book.history receipt) l.receipts 0 l.receipt-index
