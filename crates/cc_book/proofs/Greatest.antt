-- What a session holds for a service costs no more than the greatest grant of its tariff.
use Rattle.std.proofs.Common.{◌≡◌, ℕ, zero, suc, ◌+◌, ◌*◌, ◌<◌, ◌≤◌, Bool, true, false, cond, ◌&&◌, List, [], ◌∷◌, ◌++◌, length-append, All, find, Option, Some, None, option_map, refl, ap, sym, subst, ◌∙◌, arith, append_assoc}
use Rattle.std.specs.Prelude.{ℤ, IfSome, count_by, sum_by}
use Rattle.std.specs.List.{AllByRecursion}
use Rattle.std.specs.Option.{option_and_then}
use Rattle.std.proofs.Math.ListN.{get_or-append}
use Rattle.std.proofs.Math.Nat.{mul-le-mul_right}
use Rattle.std.proofs.lemmas.Grind.{div_ceil_times}
use Rattle.std.proofs.lemmas.List.{append-nil}
use Rattle.std.proofs.lemmas.List.Sums.{sum_by-cons}
use Rattle.dia_base.proofs.Counting.{one, count-cons}
use Rattle.cc_view.specs.Request.ServiceLimits.{name_of}
use Rattle.cc_view.specs.declared.code.ResultCode.{ResultCode}
use Rattle.cc_view.specs.declared.request.RequestKind.{RequestKind}
use Rattle.cc_view.specs.declared.request.RequestKind.TheVariants.{Initial, Update, Termination, Event}
use Rattle.cc_view.specs.declared.request.Service.{Service}
use Rattle.cc_view.specs.declared.request.ServiceName.{ServiceName}
use Rattle.cc_rating.specs.declared.tariff.Grant.{Grant}
use Rattle.cc_rating.specs.declared.tariff.Tariff.{Tariff}
use Rattle.cc_rating.specs.Rating.{blocks_of, cost_of, grant_of}
use Rattle.cc_rating.specs.Tariffs.{fault_of, in_range, rates}
use Rattle.cc_rating.proofs.Costs.{find-all, in_range-parts}
use Rattle.cc_rating.proofs.Faults.{fault_of-none}
use Rattle.cc_rating.proofs.Grants.{held-is, units-wanted}
use Rattle.cc_book.specs.declared.entry.Entry.{Entry}
use Rattle.cc_book.specs.declared.entry.Entry.TheVariants.{Take, Sweep, ChangeTerms}
use Rattle.cc_book.specs.declared.session.Hold.{Hold}
use Rattle.cc_book.specs.declared.terms.Terms.{Terms}
use Rattle.cc_book.specs.AccountMachine.{charged_account, free_behind, free_to_grant, grant_to, grants_by, grants_with, hold_of, holds_from, holds_on, is_closed, is_refused, made_grant, posting_of, postings_of, reply_after, settles_after, terms_of}
use Rattle.cc_book.specs.Laws.{GrantsAtMost, HasLimits, KeepsTerms, grants_alive}
use Rattle.cc_book.specs.Posting.{Posting}
use Rattle.cc_book.specs.Reservation.{held_by, is_alive, same_name}
use Rattle.cc_book.specs.ServiceRating.{asked_of, tariff_of}
use Rattle.cc_book.specs.Session.{is_of, is_success}
use Rattle.cc_book.proofs.Holding.{has_name-is, has_name-same, held-once}
use Rattle.cc_book.proofs.Postings.{all_push, postings_of-push, terms_of-kept}

-- ---- a grant costs no more than the greatest

blocks_of-more : (few many block : ℕ) → 0 < block → few ≤ many → blocks_of few block ≤ blocks_of many block
blocks_of-more few many block some le =
    let begun = (div_ceil_times few block some).1 in
    let held = (div_ceil_times many block some).0 in
    let never : blocks_of many block + 1 ≤ blocks_of few block → ⊥ = λ more. let a : (blocks_of many block + 1) * block ≤ blocks_of few block * block =
    mul-le-mul_right block more in omega arith in
    omega (arith, never)

grant-most : (tariff : Tariff) (free : ℤ) (asked : ℕ) → 0 < tariff.block → (grant_of tariff free asked).held ≤ cost_of tariff tariff.greatest
grant-most tariff free asked some =
    let wanted = units-wanted tariff free asked in
    let fewer : (grant_of tariff free asked).units ≤ tariff.greatest = omega arith in
    let cost = mul-le-mul_right tariff.price (blocks_of-more (grant_of tariff free asked).units tariff.greatest tariff.block some fewer) in
    let is = held-is tariff free asked in
    omega arith

-- each hold for a name costs at most so much
abbrev CostsAtMost : ServiceName → ℕ → List Hold → Type 0
CostsAtMost name most holds = AllByRecursion (λ (hold : Hold). same_name hold.service name ≡ true → hold.cost ≤ most) holds

made-most : (most : ℕ) (grant : Option Grant) → IfSome grant (λ made. made.held ≤ most) → IfSome (made_grant grant) (λ made. made.held ≤ most)
made-most most None le = tt
made-most most (Some grant) le = by (is_refused grant) where
  by : (b : Bool) → IfSome (cond b None (Some grant)) (λ made. made.held ≤ most)
  by true = tt
  by false = le

pub granted-most : (tariffs : List Tariff) (free : ℤ) (service : Service) (tariff : Tariff) → 0 < tariff.block → tariff_of tariffs service ≡ Some tariff
    → IfSome (grant_to tariffs free service) (λ made. made.held ≤ cost_of tariff tariff.greatest)
granted-most tariffs free service tariff some is =
    subst (λ (found : Option Tariff). IfSome (option_and_then (λ (t : Tariff). option_map (grant_of t free) (asked_of t service)) found)
    (λ made. made.held ≤ cost_of tariff tariff.greatest)) (sym is) (by (asked_of tariff service))
  where
    by : (asked : Option ℕ) → IfSome (option_map (grant_of tariff free) asked) (λ made. made.held ≤ cost_of tariff tariff.greatest)
    by None = tt
    by (Some units) = grant-most tariff free units some

hold-most : (name : ServiceName) (most : ℕ) (service : Service) (made : Option Grant) (rest : List Hold)
    → (same_name (name_of service) name ≡ true → IfSome made (λ grant. grant.held ≤ most)) → CostsAtMost name most rest
    → CostsAtMost name most (hold_of service made ++ rest)
hold-most name most service None rest le more = more
hold-most name most service (Some grant) rest le more = (le, more)

-- what a service is granted costs at most so much, where its name's greatest grant does
limited-most : (name : ServiceName) (most : ℕ) (tariffs : List Tariff) (free : ℤ) (service : Service) → GrantsAtMost tariffs name most
    → same_name (name_of service) name ≡ true → IfSome (grant_to tariffs free service) (λ made. made.held ≤ most)
limited-most name most tariffs free service limits same = by (tariff_of tariffs service) refl where
  named : name ≡ name_of service
  named = has_name-is name service (has_name-same name service same)

  weaker : (grant : Option Grant) (n : ℕ) → n ≤ most → IfSome grant (λ made. made.held ≤ n) → IfSome grant (λ made. made.held ≤ most)
  weaker None n le less = tt
  weaker (Some made) n le less = omega (arith, less)

  by : (found : Option Tariff) → tariff_of tariffs service ≡ found → IfSome (grant_to tariffs free service) (λ made. made.held ≤ most)
  by None is =
      subst (λ (found : Option Tariff). IfSome (option_and_then (λ (t : Tariff). option_map (grant_of t free) (asked_of t service)) found)
      (λ made. made.held ≤ most)) (sym is) tt
  by (Some tariff) is =
      let there : find (rates name.group name.ident) tariffs ≡ Some tariff =
      subst (λ (n : ServiceName). find (rates n.group n.ident) tariffs ≡ Some tariff) (sym named) is in
      let some = (in_range-parts tariff (find-all (rates name.group name.ident) in_range tariff tariffs (fault_of-none tariffs limits.sound) there)).0 in
      weaker (grant_to tariffs free service) (cost_of tariff tariff.greatest) (limits.greatest tariff there)
      (granted-most tariffs free service tariff some is)

holds-most : (name : ServiceName) (most : ℕ) (tariffs : List Tariff) (free : ℤ) (services : List Service) → GrantsAtMost tariffs name most
    → CostsAtMost name most (holds_from tariffs free services)
holds-most name most tariffs free [] limits = tt
holds-most name most tariffs free (service ∷ services) limits =
    let grant = grant_to tariffs free service in
    hold-most name most service (made_grant grant) (holds_from tariffs (free_behind free grant) services)
    (λ same. made-most most grant (limited-most name most tariffs free service limits same))
    (holds-most name most tariffs (free_behind free grant) services limits)

holds_on-most : (name : ServiceName) (most : ℕ) (terms : Terms) (account : Option ℕ) (free : ℤ) (services : List Service)
    → GrantsAtMost terms.tariffs name most → CostsAtMost name most (holds_on terms account free services)
holds_on-most name most terms account free services limits = by (is_closed terms account) where
  by : (b : Bool) → CostsAtMost name most (cond b [] (holds_from terms.tariffs free services))
  by true = tt
  by false = holds-most name most terms.tariffs free services limits

with-most : (name : ServiceName) (most : ℕ) (kind : RequestKind) (code : ResultCode) (holds : List Hold) → CostsAtMost name most holds
    → CostsAtMost name most (grants_with kind code holds)
with-most name most Initial code holds all = by (is_success code) where
  by : (b : Bool) → CostsAtMost name most (cond b holds [])
  by true = all
  by false = tt
with-most name most Update code holds all = all
with-most name most Termination code holds all = tt
with-most name most Event code holds all = tt

posting-most : (terms : Terms) (before : List Posting) (entry : Entry) (name : ServiceName) (most : ℕ) → GrantsAtMost terms.tariffs name most
    → CostsAtMost name most (posting_of terms before entry).grants
posting-most terms before (Sweep moment) name most limits = tt
posting-most terms before (ChangeTerms moment change) name most limits = tt
posting-most terms before (Take moment request) name most limits = by (settles_after terms before request) where
  by : (b : Bool) → CostsAtMost name most (grants_by terms before request b)
  by true =
      with-most name most request.kind (reply_after terms before request).code
      (holds_on terms (charged_account terms before request) (free_to_grant terms before request) request.services)
      (holds_on-most name most terms (charged_account terms before request) (free_to_grant terms before request) request.services limits)
  by false = tt

-- each entry of a history, under the terms of its place
abbrev AllCost : ServiceName → ℕ → List Posting → Type 0
AllCost name most postings = AllByRecursion (λ (posting : Posting). CostsAtMost name most posting.grants) postings

all_cost : (terms : Terms) (front history : List Entry) (name : ServiceName) (most : ℕ)
    → ((before after : List Entry) → front ++ history ≡ before ++ after → GrantsAtMost (terms_of terms before).tariffs name most)
    → AllCost name most (postings_of terms front) → AllCost name most (postings_of terms (front ++ history))
all_cost terms front [] name most each all = subst (λ (h : List Entry). AllCost name most (postings_of terms h)) (sym (append-nil front)) all
all_cost terms front (entry ∷ history) name most each all =
    let here = posting-most (terms_of terms front) (postings_of terms front) entry name most (each front (entry ∷ history) refl) in
    let next = all_push (λ (posting : Posting). CostsAtMost name most posting.grants) (postings_of terms front)
    (posting_of (terms_of terms front) (postings_of terms front) entry) all here in
    let same : (front ++ entry ∷ []) ++ history ≡ front ++ entry ∷ history = append_assoc front (entry ∷ []) history in
    subst (λ (h : List Entry). AllCost name most (postings_of terms h)) same
    (all_cost terms (front ++ entry ∷ []) history name most (λ before after e. each before after (sym same ∙ e))
    (subst (AllCost name most) (sym (postings_of-push terms front entry)) next))

-- ---- so what is held does not either

-- what is alive costs no more than so much for each grant
costs-most : (name : ServiceName) (most : ℕ) (alive : Bool) (holds : List Hold) → CostsAtMost name most holds
    → sum_by (λ (hold : Hold). cond (same_name hold.service name && alive) hold.cost 0) holds ≤ count_by
    (λ (hold : Hold). same_name hold.service name && alive) holds * most
costs-most name most alive [] all = omega arith
costs-most name most alive (hold ∷ holds) all =
    let more = costs-most name most alive holds all.1 in
    let here = by (same_name hold.service name) alive all.0 in
    omega (
      arith,
      sum_by-cons (λ (h : Hold). cond (same_name h.service name && alive) h.cost 0) hold holds,
      ap (λ (n : ℕ). n * most) (count-cons (λ (h : Hold). same_name h.service name && alive) hold holds),
    )
  where
    by : (same alive : Bool) → (same ≡ true → hold.cost ≤ most) → cond (same && alive) hold.cost 0 ≤ one (same && alive) * most
    by true true le = let some = le refl in omega arith
    by true false le = omega arith
    by false alive le = omega arith

held-most : (validity : ℕ) (session : List ℕ) (name : ServiceName) (most : ℕ) (postings : List Posting)
    → AllByRecursion (λ (posting : Posting). CostsAtMost name most posting.grants) postings
    → held_by validity session name postings ≤ grants_alive validity session name postings * most
held-most validity session name most [] all = omega arith
held-most validity session name most (posting ∷ after) all =
    let more = held-most validity session name most after all.1 in
    let here = by (is_of session posting.entry)
    (sum_by (λ (hold : Hold). cond (same_name hold.service name && is_alive validity posting.entry name after) hold.cost 0) posting.grants)
    (count_by (λ (hold : Hold). same_name hold.service name && is_alive validity posting.entry name after) posting.grants)
    (costs-most name most (is_alive validity posting.entry name after) posting.grants all.0) in
    omega arith
  where
    by : (b : Bool) (sum count : ℕ) → sum ≤ count * most → cond b sum 0 ≤ cond b count 0 * most
    by true sum count le = le
    by false sum count le = omega arith

one_most : (sum count most : ℕ) → sum ≤ count * most → count ≤ 1 → sum ≤ most
one_most sum zero most le one = omega arith
one_most sum (suc count) most le one = by count (omega arith) le where
  by : (n : ℕ) → n ≤ 0 → sum ≤ suc n * most → sum ≤ most
  by zero few le = omega arith
  by (suc n) few le = absurd (omega arith)

front_all : {X : Type 0} (P : X → Type 0) (xs ys : List X) → All P (xs ++ ys) → All P xs
front_all P xs ys all k d lt =
    let long = length-append xs ys in
    subst P (get_or-append xs ys d k lt) (all k d (omega arith))

none_cost : (terms : Terms) (name : ServiceName) (most : ℕ) → AllCost name most (postings_of terms [])
unfolding postings_of
none_cost terms name most = tt

pub held-limited : (terms : Terms) (history : List Entry) (session : List ℕ) (name : ServiceName) (most : ℕ) → All HasLimits history
    → ((before after : List Entry) → history ≡ before ++ after → GrantsAtMost (terms_of terms before).tariffs name most)
    → held_by terms.validity session name (postings_of terms history) ≤ most
held-limited terms history session name most limits each =
    one_most (held_by terms.validity session name (postings_of terms history)) (grants_alive terms.validity session name (postings_of terms history)) most
    (held-most terms.validity session name most (postings_of terms history) (all_cost terms [] history name most each (none_cost terms name most)))
    (held-once terms history session name limits)

-- where no entry changes the terms, the tariff is that of the opening
pub held-greatest : (terms : Terms) (history : List Entry) (session : List ℕ) (name : ServiceName) (tariff : Tariff) → All HasLimits history
    → All KeepsTerms history → fault_of terms.tariffs ≡ None → find (rates name.group name.ident) terms.tariffs ≡ Some tariff
    → held_by terms.validity session name (postings_of terms history) ≤ cost_of tariff tariff.greatest
held-greatest terms history session name tariff limits keeps none is =
    held-limited terms history session name (cost_of tariff tariff.greatest) limits
    (λ before after e. subst (λ (now : Terms). GrantsAtMost now.tariffs name (cost_of tariff tariff.greatest))
    (sym (terms_of-kept terms before (front_all KeepsTerms before after (subst (λ (h : List Entry). All KeepsTerms h) e keeps)))) opened)
  where
    same : (other : Tariff) → find (rates name.group name.ident) terms.tariffs ≡ Some other → tariff ≡ other
    same other there = let both : Some tariff ≡ Some other = sym is ∙ there in cc

    opened : GrantsAtMost terms.tariffs name (cost_of tariff tariff.greatest)
    opened = record {
      sound = none;
      greatest = λ other there. subst (λ (t : Tariff). cost_of t t.greatest ≤ cost_of tariff tariff.greatest) (same other there) (omega arith);
    }
