-- Nodes have refused more: each for a reason, and how often what stood under one identifier.
use Rattle.std.proofs.Common.{◌≡◌, ◌≤◌, ◌+◌, ℕ, Bool, true, false, List, [], ◌∷◌, ◌++◌, inl, inr, refl, sym, ap, ◌∙◌, append_assoc, append-nil, arith}
use Rattle.std.specs.Prelude.{count_by}
use Rattle.std.proofs.lemmas.List.Sums.{sum_by-append}
use Rattle.dia_base.specs.declared.number.ConnId.{ConnId}
use Rattle.dia_base.specs.declared.number.NodeNo.{NodeNo}
use Rattle.dia_base.proofs.Counting.{one, count-cons}
use Rattle.farm_law.specs.Farm.{Refused}
use Rattle.farm_law.specs.Lists.{Has}
use Rattle.farm_law.proofs.Lists.{all-end}
use Rattle.farm_model.specs.OwnCauses.{is_refused_as}
use Rattle.farm_model.proofs.Lists.Among.{Has-parts}

pub record HasRefused (HasReason : Refused → Type 0) (most : NodeNo → ℕ) (old new : List Refused) : Type 0 where
  pub more : List Refused
  pub grown : new ≡ old ++ more
  pub reasons : (r : Refused) → Has r more → HasReason r
  pub once : (node : NodeNo) (conn : ConnId) (hop : ℕ) → count_by (is_refused_as node conn hop) more ≤ most node

abbrev pub at_most_once : NodeNo → ℕ
at_most_once node = 1

pub count-append : {A : Type 0} (test : A → Bool) (xs ys : List A) → count_by test (xs ++ ys) ≡ count_by test xs + count_by test ys
count-append test xs ys = sum_by-append (λ x. one (test x)) xs ys

-- no more
pub none_refused : (HasReason : Refused → Type 0) (most : NodeNo → ℕ) (refused : List Refused) → HasRefused HasReason most refused refused
none_refused HasReason most refused = record { more = []; grown = sym (append-nil refused); reasons = λ r h. elim h [ ]; once = λ node conn hop. omega arith }

pub as_before : (HasReason : Refused → Type 0) (refused : List Refused) → HasRefused HasReason at_most_once refused refused
as_before HasReason refused = none_refused HasReason at_most_once refused

-- one more, for a reason
pub one_more_refused : (HasReason : Refused → Type 0) (refused : List Refused) (more : Refused) → HasReason more → HasRefused HasReason at_most_once refused
    (refused ++ more ∷ [])
one_more_refused HasReason refused more reason = record {
  more = more ∷ [];
  grown = refl;
  reasons = all-end HasReason [] more (λ r h. elim h [ ]) reason;
  once = λ node conn hop. let a = at_most (is_refused_as node conn hop more) in omega (arith, a, count-cons (is_refused_as node conn hop) more []);
}
  where
    at_most : (b : Bool) → one b ≤ 1
    at_most true = omega arith
    at_most false = omega arith

-- for another reason
pub refused_for : {HasReason HasOther : Refused → Type 0} {most : NodeNo → ℕ} {old new : List Refused} → ((r : Refused) → HasReason r → HasOther r) →
    HasRefused HasReason most old new → HasRefused HasOther most old new
refused_for f h = record { more = h.more; grown = h.grown; reasons = λ r among. f r (h.reasons r among); once = h.once }

-- no more often than this either
pub refused_within : {HasReason : Refused → Type 0} {most least : NodeNo → ℕ} {old new : List Refused} → ((node : NodeNo) → most node ≤ least node) →
    HasRefused HasReason most old new → HasRefused HasReason least old new
refused_within within h = record {
  more = h.more;
  grown = h.grown;
  reasons = h.reasons;
  once = λ node conn hop. let a = h.once node conn hop in let b = within
      node in omega arith;
}

-- some, and then more
pub refused_twice : {HasReason : Refused → Type 0} {first second : NodeNo → ℕ} (most : NodeNo → ℕ) {old between new : List Refused} →
    ((node : NodeNo) → first node + second node ≤ most node)
    → HasRefused HasReason first old between → HasRefused HasReason second between new → HasRefused HasReason most old new
refused_twice most {old = old} within a b = record {
  more = a.more ++ b.more;
  grown = b.grown ∙ ap (λ (rs : List Refused). rs ++ b.more) a.grown ∙ append_assoc old a.more b.more;
  reasons = λ r h. elim (Has-parts a.more h) [ inl g ↦ a.reasons r g | inr g ↦ b.reasons r g ];
  once = λ node conn hop.
      let c = a.once node conn hop in let d = b.once node conn hop in let e = within node in
      omega (arith, c, d, e, count-append (is_refused_as node conn hop) a.more b.more);
}
