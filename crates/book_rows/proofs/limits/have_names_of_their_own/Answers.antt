use Rattle.std.proofs.Common.{◌≡◌, ◌-◌, ◌≤◌, Bool, false, not, ◌&&◌, List, [], ◌∷◌, length, take, drop, get_or, sym, ap, ◌∙◌, arith}
use Rattle.std.proofs.lemmas.List.{take_all}
use Rattle.std.specs.List.{list_any}
use Rattle.cc_view.specs.declared.request.Service.{Service}
use Rattle.cc_view.specs.RequestView.Content.{have_names_of_their_own, same_name}
use Rattle.book_rows.proofs.limits.have_names_of_their_own.Goals as goal

-- the first service has a name of its own: the others are left
others : (xs : List Service) (d : Service) (whole : Bool) → 1 ≤ length xs → false ≡ list_any (same_name (get_or xs 0 d)) (take (length xs - 1) (drop 1 xs))
    → have_names_of_their_own xs ≡ whole → have_names_of_their_own (take (length xs - 1) (drop 1 xs)) ≡ whole
others [] d whole least none h = absurd (omega arith)
others (x ∷ ys) d whole least none h =
    let same : take (length (x ∷ ys) - 1) ys ≡ ys = take_all (length (x ∷ ys) - 1) ys (omega arith) in
    let unnamed : list_any (same_name x) ys ≡ false = ap (list_any (same_name x)) (sym same) ∙ sym none in
    ap have_names_of_their_own same ∙ ap (λ (b : Bool). not b && have_names_of_their_own ys) (sym unnamed) ∙ h

pub loop-rest-preserved : goal.loop-rest-preserved
loop-rest-preserved c = others c.loop-rest.rest.now _ _ c.in-len1-up.len_at_least c.if-is_named.ensures c.loop-rest.invariant
