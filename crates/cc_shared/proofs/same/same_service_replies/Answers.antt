use Rattle.std.proofs.lemmas.Slice.Eq.{slice_eq-Decides}
use Rattle.cc_shared.proofs.Comparing.{service_reply_decides}
use Rattle.cc_shared.proofs.same.same_service_replies.Goals as goal

pub returns : goal.returns
returns c = slice_eq-Decides (λ a b. service_reply_decides a b) _ _ _ c.eq.ensures
