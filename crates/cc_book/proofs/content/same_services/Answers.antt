use Rattle.std.proofs.lemmas.Slice.Eq.{slice_eq-Decides}
use Rattle.cc_book.proofs.SameRequests.{service_decides}
use Rattle.cc_book.proofs.content.same_services.Goals as goal

pub returns : goal.returns
returns c = slice_eq-Decides (λ a b. service_decides a b) _ _ _ c.eq.ensures
