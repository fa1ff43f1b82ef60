use Rattle.std.specs.Prelude.{IfErr, Result}
use Rattle.cc_shared.specs.Serving.{IsRefused}
use Rattle.cc_shared.specs.declared.error.ServeError.{ServeError}
use Rattle.cc_shared.specs.declared.receipt.Receipt.{Receipt}
use Rattle.cc_shared.proofs.Each.{one_refusal}
use Rattle.cc_shared.proofs.Telling.{if_told}
use Rattle.cc_shared.proofs.locked.LockedBook.serve_stored.Goals as goal

pub returns-clause-refusal : goal.returns-clause-refusal
returns-clause-refusal g c =
    if_told c.settle.result c.ask-untold.result.told (λ (served : Result Receipt ServeError). IfErr served (λ error. IsRefused g.L.Sharing.shared c.args.request error.why)) c.settle.ensures
    (one_refusal g.L.Sharing.shared _ _ _ _ _ _ c.ask-untold.ensures.served)
