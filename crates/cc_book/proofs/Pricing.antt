-- The prices of a session, and the price of a service after one more posting.
use Rattle.std.proofs.Common.{◌≡◌, ℕ, Bool, true, false, cond, not, ◌||◌, List, [], ◌∷◌, ◌++◌, Option, Some, None, refl, sym, ap, ◌∙◌, find, option_map}
use Rattle.std.specs.Prelude.{IfSome, IsTrue}
use Rattle.std.specs.List.{cons_option, filter, list_all}
use Rattle.std.specs.Option.{option_or}
use Rattle.std.proofs.lemmas.Bool.{and_from, and_parts}
use Rattle.std.proofs.lemmas.List.Folds.{list_all-append}
use Rattle.std.proofs.lemmas.List.Sums.{fold-append}
use Rattle.cc_view.specs.declared.request.ServiceName.{ServiceName}
use Rattle.cc_rating.specs.declared.tariff.Tariff.{Tariff}
use Rattle.cc_rating.specs.Tariffs.{in_range, rates}
use Rattle.cc_rating.proofs.Costs.{find-all}
use Rattle.cc_book.specs.declared.price.Price.{Price}
use Rattle.cc_book.specs.declared.session.Hold.{Hold}
use Rattle.cc_book.specs.Posting.{Posting}
use Rattle.cc_book.specs.Pricing.{AreInRange, granted_price, is_price, is_priced, new_prices, next_price, price_in, price_of, prices_after, prices_beside}
use Rattle.cc_book.specs.Session.{is_of, opens}
use Rattle.cc_book.proofs.Holding.{same_name-equal}

-- ---- prices after grants

module _ (name : ServiceName) where
  price_in-append : (new old : List Price) → price_in (new ++ old) name ≡ option_or (price_in new name) (price_in old name)
  price_in-append [] old = refl
  price_in-append (p ∷ new) old = by (is_price name p) (price_in-append new old) where
    by : (b : Bool) → price_in (new ++ old) name ≡ option_or (price_in new name) (price_in old name)
        → option_map (λ (price : Price). price.tariff) (cond b (Some p) (find (is_price name) (new ++ old)))
        ≡ option_or (option_map (λ (price : Price). price.tariff) (cond b (Some p) (find (is_price name) new))) (price_in old name)
    by true more = refl
    by false more = more

  none-priced : (new : List Price) → price_in new name ≡ None → is_priced new name ≡ false
  none-priced [] none = refl
  none-priced (p ∷ new) none = by (is_price name p) (none-priced new) none where
    by : (b : Bool) → (price_in new name ≡ None → is_priced new name ≡ false)
        → option_map (λ (price : Price). price.tariff) (cond b (Some p) (find (is_price name) new)) ≡ None → (b || is_priced new name) ≡ false
    by true more none = absurd cc
    by false more none = more none

  beside-same : (new old : List Price) → is_priced new name ≡ false → price_in (prices_beside new old) name ≡ price_in old name
  beside-same new [] none = refl
  beside-same new (p ∷ old) none = by (is_price name p) (is_priced new p.service) refl refl (beside-same new old none) where
    by : (same any : Bool) → is_price name p ≡ same → is_priced new p.service ≡ any → price_in (prices_beside new old) name ≡ price_in old name
        → price_in (cond (not any) (p ∷ prices_beside new old) (prices_beside new old)) name
        ≡ option_map (λ (price : Price). price.tariff) (cond same (Some p) (find (is_price name) old))
    by true true is e more = absurd (
        let own : p.service ≡ name = same_name-equal p.service name is in
        let no : true ≡ false = sym e ∙ ap (is_priced new) own ∙ none in cc)
    by true false is e more = ap (λ (b : Bool). option_map (λ (price : Price). price.tariff) (cond b (Some p) (find (is_price name) (prices_beside new old)))) is
    by false true is e more = more
    by false false is e more =
        ap (λ (b : Bool). option_map (λ (price : Price). price.tariff) (cond b (Some p) (find (is_price name) (prices_beside new old)))) is ∙ more

  or_where : (found one other : Option Tariff) → (found ≡ None → one ≡ other) → option_or found one ≡ option_or found other
  or_where None one other same = same refl
  or_where (Some t) one other same = refl

  -- the price of a service after grants: that of its grant, else the one before
  pub price_in-after : (tariffs : List Tariff) (prices : List Price) (grants : List Hold)
      → price_in (prices_after tariffs prices grants) name ≡ option_or (price_in (new_prices tariffs grants) name) (price_in prices name)
  price_in-after tariffs prices grants =
      price_in-append (new_prices tariffs grants) (prices_beside (new_prices tariffs grants) prices)
      ∙ or_where (price_in (new_prices tariffs grants) name) _ _
      (λ none. beside-same (new_prices tariffs grants) prices (none-priced (new_prices tariffs grants) none))

-- ---- they are in their ranges

pub new-ranged : (tariffs : List Tariff) (grants : List Hold) → IsTrue (list_all in_range tariffs) → AreInRange (new_prices tariffs grants)
new-ranged tariffs [] ranges = refl
new-ranged tariffs (hold ∷ grants) ranges =
    by (find (rates hold.service.group hold.service.ident) tariffs) refl (new-ranged tariffs grants ranges)
  where
    by : (found : Option Tariff) → find (rates hold.service.group hold.service.ident) tariffs ≡ found → AreInRange (new_prices tariffs grants)
        → AreInRange (cons_option (option_map (λ (t : Tariff). record { service = hold.service; tariff = t }) found) (new_prices tariffs grants))
    by None is more = more
    by (Some t) is more =
        and_from (in_range t) (list_all (λ (price : Price). in_range price.tariff) (new_prices tariffs grants))
        (find-all (rates hold.service.group hold.service.ident) in_range t tariffs ranges is) more

filter-ranged : (keep : Price → Bool) (prices : List Price) → AreInRange prices → AreInRange (filter keep prices)
filter-ranged keep [] ranges = refl
filter-ranged keep (p ∷ prices) ranges =
    let parts = and_parts (in_range p.tariff) (list_all (λ (price : Price). in_range price.tariff) prices) ranges in
    by (keep p) parts.0 (filter-ranged keep prices parts.1)
  where
    by : (b : Bool) → in_range p.tariff ≡ true → AreInRange (filter keep prices) → AreInRange (cond b (p ∷ filter keep prices) (filter keep prices))
    by true here more = and_from (in_range p.tariff) (list_all (λ (price : Price). in_range price.tariff) (filter keep prices)) here more
    by false here more = more

pub after-ranged : (tariffs : List Tariff) (prices : List Price) (grants : List Hold) → IsTrue (list_all in_range tariffs) → AreInRange prices
    → AreInRange (prices_after tariffs prices grants)
after-ranged tariffs prices grants ranges old =
    let new = new_prices tariffs grants in
    let beside = prices_beside new prices in
    list_all-append (λ (price : Price). in_range price.tariff) new beside
    ∙ and_from (list_all (λ (price : Price). in_range price.tariff) new) (list_all (λ (price : Price). in_range price.tariff) beside)
    (new-ranged tariffs grants ranges) (filter-ranged (λ (price : Price). not (is_priced new price.service)) prices old)

-- the price that is found is of a tariff in its ranges
pub price_in-ranged : (prices : List Price) (name : ServiceName) → AreInRange prices → IfSome (price_in prices name) (λ tariff. IsTrue (in_range tariff))
price_in-ranged [] name ranges = tt
price_in-ranged (p ∷ prices) name ranges =
    let parts = and_parts (in_range p.tariff) (list_all (λ (price : Price). in_range price.tariff) prices) ranges in
    by (is_price name p) parts.0 (price_in-ranged prices name parts.1)
  where
    by : (b : Bool) → in_range p.tariff ≡ true → IfSome (price_in prices name) (λ tariff. IsTrue (in_range tariff))
        → IfSome (option_map (λ (price : Price). price.tariff) (cond b (Some p) (find (is_price name) prices))) (λ tariff. IsTrue (in_range tariff))
    by true here more = here
    by false here more = more

-- ---- one more posting

pub price-push : (session : List ℕ) (name : ServiceName) (before : List Posting) (posting : Posting)
    → price_of session name (before ++ posting ∷ []) ≡ next_price session name (price_of session name before) posting
price-push session name before posting = fold-append (next_price session name) None before (posting ∷ [])

-- a posting of another session
pub price-other : (session : List ℕ) (name : ServiceName) (price : Option Tariff) (posting : Posting) → is_of session posting.entry ≡ false
    → next_price session name price posting ≡ price
price-other session name price posting other =
    ap (λ (b : Bool). cond b (cond (opens posting) (granted_price posting name) (option_or (granted_price posting name) price)) price) other

-- one of the session, which goes on
pub price-on : (session : List ℕ) (name : ServiceName) (price : Option Tariff) (posting : Posting) → is_of session posting.entry ≡ true
    → opens posting ≡ false → next_price session name price posting ≡ option_or (granted_price posting name) price
price-on session name price posting own unopened =
    ap (λ (b : Bool). cond b (cond (opens posting) (granted_price posting name) (option_or (granted_price posting name) price)) price) own
    ∙ ap (λ (b : Bool). cond b (granted_price posting name) (option_or (granted_price posting name) price)) unopened

-- one that opens the session
pub price-opened : (session : List ℕ) (name : ServiceName) (price : Option Tariff) (posting : Posting) → is_of session posting.entry ≡ true
    → opens posting ≡ true → next_price session name price posting ≡ granted_price posting name
price-opened session name price posting own does =
    ap (λ (b : Bool). cond b (cond (opens posting) (granted_price posting name) (option_or (granted_price posting name) price)) price) own
    ∙ ap (λ (b : Bool). cond b (granted_price posting name) (option_or (granted_price posting name) price)) does

-- one that grants nothing
pub price-none : (name : ServiceName) (posting : Posting) → posting.grants ≡ [] → granted_price posting name ≡ None
price-none name posting none = ap (λ (holds : List Hold). price_in (new_prices posting.tariffs holds) name) none
