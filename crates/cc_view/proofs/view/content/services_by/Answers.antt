use Rattle.std.proofs.Common.{◌≡◌, ◌≢◌, List, [], ◌∷◌, length, eq-eqb, vec_len, refl, sym, subst, ◌∙◌, arith}
use Rattle.std.specs.Prelude.{IfOk}
use Rattle.std.proofs.lemmas.Bool.{eqb-true, false≢true}
use Rattle.dia_avp.specs.declared.avp.RawAvp.{RawAvp}
use Rattle.cc_view.specs.declared.request.Service.{Service}
use Rattle.cc_view.specs.RequestView.Content.{own_services_in, services_by}
use Rattle.cc_view.proofs.view.content.services_by.Goals as goal

services_by-some : (avps : List RawAvp) (services : List Service) → length services ≢ 0 → services_by avps services ≡ services
services_by-some avps [] h = absurd (h refl)
services_by-some avps (service ∷ services) h = refl

services_by-none : (avps : List RawAvp) (services : List Service) → length services ≡ 0 → services_by avps services ≡ own_services_in avps
services_by-none avps [] h = refl
services_by-none avps (service ∷ services) h = absurd (omega arith)

pub returns-then-not-is_empty : goal.returns-then-not-is_empty
returns-then-not-is_empty c =
    let named = c.args.named in
    let some : length named.items ≢ 0 = λ e. false≢true (c.if-not-is_empty.ensures ∙ eq-eqb (vec_len named) 0 (omega (arith, e, named.ok.0))) in
    sym (services_by-some c.args.avps.now named.items some)

pub returns : goal.returns
returns c =
    let named = c.args.named in
    let none : length named.items ≡ 0 = omega (arith, eqb-true (vec_len named) 0 (sym c.if-not-is_empty.ensures), named.ok.0) in
    subst (λ (l : List Service). IfOk c.own_services_in.result (λ found. found.items ≡ l)) (sym (services_by-none c.args.avps.now named.items none)) c.own_services_in.ensures
