-- A message whose view refuses it.
use Rattle.std.proofs.Common.{◌≡◌, Some, None, Result, Ok, Err, refl, sym, ◌∙◌}
use Rattle.dia_message.specs.declared.message.Message.{Message}
use Rattle.cc_view.specs.declared.refusal.Refusal.{Refusal}
use Rattle.cc_view.specs.declared.request.CcRequest.{CcRequest}
use Rattle.cc_view.specs.Answer.{refusal_of}
use Rattle.cc_view.specs.RequestView.{view_under}
use Rattle.cc_shared.specs.History.{SharedLedger}
use Rattle.front_core.specs.declared.preparing.Prepared.{Prepared}
use Rattle.front_core.specs.declared.preparing.Prepared.TheVariants.{Refused}
use Rattle.front_core.specs.Charging.{preparation_of}
use Rattle.front_pool.specs.declared.site.PoolSite.{PoolSite}
use Rattle.front_pool.specs.Answering.{Answers, refuses}

same_refusal : (one other : Message) → Refused one ≡ Refused other → one ≡ other
same_refusal one other e = cc

refused_by :
    (site : PoolSite) (shared : SharedLedger) (message answer : Message) (view : Result CcRequest Refusal) → view_under site.profile message ≡ view
    → Refused answer ≡ preparation_of site.name site.realm message view → Answers site shared message (Some answer) None
refused_by site shared message answer (Ok request) is e = let other : ⊥ = cc in absurd other
refused_by site shared message answer (Err refusal) is e =
    refuses (Some answer) refusal is (same_refusal answer (refusal_of site.name site.realm message refusal) e)

pub refused :
    (site : PoolSite) (shared : SharedLedger) (message answer : Message) (prepared : Prepared) → prepared ≡ Refused answer
    → prepared ≡ preparation_of site.name site.realm message (view_under site.profile message) → Answers site shared message (Some answer) None
refused site shared message answer prepared is e = refused_by site shared message answer (view_under site.profile message) refl (sym is ∙ e)
