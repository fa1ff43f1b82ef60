-- The route that is found, and what is so where none is.
use Rattle.std.proofs.Common.{◌≡◌, ◌≢◌, ℕ, ◌<◌, ◌==◌, Bool, true, false, List, length, get_or, Option, Some, None, refl}
use Rattle.std.specs.List.{find, list_any, All}
use Rattle.std.proofs.lemmas.Bool.{and_from, and_parts, eqb-true, eq-eqb}
use Rattle.std.proofs.lemmas.List.Folds.{Any-from_list_any, list_any_at}
use Rattle.dia_base.proofs.Finding.{IsFirst, find-none, found_first}
use Rattle.dia_base.specs.Folding.{folded_of}
use Rattle.relay_routes.specs.declared.routes.Route.{Route}
use Rattle.relay_routes.specs.Routing.{has_realm, has_realm_and_app, peers_of, candidates_of, IsFirstRoute, AreCandidates}
use Rattle.relay_routes.proofs.Loops.{same_folded-true, true-same_folded}

-- no element at any place passes
no_place : {X : Type 0} (p : X → Bool) (xs : List X) → list_any p xs ≡ false → (k : ℕ) (d : X) → k < length xs → p (get_or xs k d) ≡ true → ⊥
no_place p xs none k d lt e = let some = list_any_at p xs k d lt e in absurd cc

passes_both : (realm : List ℕ) (app : ℕ) (route : Route) → folded_of route.realm ≡ folded_of realm → route.app ≡ app → has_realm_and_app realm app route ≡ true
passes_both realm app route r a = and_from (has_realm realm route) (route.app == app) (true-same_folded route.realm realm r) (eq-eqb _ _ a)

none_for_both : (routes : List Route) (realm : List ℕ) (app : ℕ) → list_any (has_realm_and_app realm app) routes ≡ false → All (λ route. folded_of route.realm ≡ folded_of realm → route.app ≢ app) routes
none_for_both routes realm app none k d lt r a = no_place (has_realm_and_app realm app) routes none k d lt (passes_both realm app (get_or routes k d) r a)

first_route : (routes : List Route) (realm : List ℕ) (app : ℕ) (route : Route) → IsFirst (has_realm_and_app realm app) routes route → IsFirstRoute routes realm app route
first_route routes realm app route f =
    let parts = and_parts (has_realm realm route) (route.app == app) f.passes in
    record {
      before = f.before;
      after = f.after;
      among = f.among;
      for_realm = same_folded-true route.realm realm parts.0;
      for_app = eqb-true _ _ parts.1;
      first = none_for_both f.before realm app f.first;
    }

choose : (routes : List Route) (realm : List ℕ) (app : ℕ) (o : Option Route) (known : Bool) → find (has_realm_and_app realm app) routes ≡ o → list_any (has_realm realm) routes ≡ known
    → AreCandidates routes realm app (peers_of o known)
choose routes realm app (Some route) known e k = (route, first_route routes realm app route (found_first (has_realm_and_app realm app) routes route e), refl)
choose routes realm app None true e k =
    let some = Any-from_list_any (has_realm realm) routes k in (
      (some.0, some.1, some.2, some.3, same_folded-true some.1.realm realm some.4),
      none_for_both routes realm app (find-none (has_realm_and_app realm app) routes e),
    )
choose routes realm app None false e k = λ place d lt r. no_place (has_realm realm) routes k place d lt (true-same_folded (get_or routes place d).realm realm r)

pub chosen : (routes : List Route) (realm : List ℕ) (app : ℕ) → AreCandidates routes realm app (candidates_of routes realm app)
chosen routes realm app = choose routes realm app (find (has_realm_and_app realm app) routes) (list_any (has_realm realm) routes) refl refl
