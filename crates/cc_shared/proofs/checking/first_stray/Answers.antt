use Rattle.std.proofs.Common.{Bool, ◌∙◌, subst, arith}
use Rattle.std.specs.Prelude.{MatchBool}
use Rattle.std.proofs.lemmas.List.{get_or_default}
use Rattle.std.proofs.lemmas.List.Elements.{AllWithin-more}
use Rattle.cc_shared.specs.declared.receipt.Receipt.{Receipt}
use Rattle.cc_shared.specs.Receipts.{Fits}
use Rattle.cc_shared.proofs.checking.first_stray.Goals as goal

pub loop-receipt-preserved : goal.loop-receipt-preserved
loop-receipt-preserved c =
    let P : Receipt → Type 0 = λ receipt. Fits c.args.book.now.terms c.args.book.now.history receipt in
    let xs = c.args.receipts.now in
    let i = c.loop-receipt.receipt-index in
    let fit : P c.receipt-item.result = subst (λ (b : Bool). MatchBool b (P c.receipt-item.result) (P c.receipt-item.result → ⊥)) c.if-not-fit.false c.in_ok-fit.ensures in
    AllWithin-more P xs 0 i c.loop-receipt.invariant (λ d. subst P (c.receipt-item.is ∙ get_or_default xs i c.receipt-item.result d c.loop-receipt-test.true) fit)

pub returns : goal.returns
returns c = λ k d lt. c.loop-receipt.invariant k d (omega arith) (omega arith)
