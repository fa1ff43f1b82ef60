use Rattle.std.proofs.Common.{◌≡◌, ℕ, Bool, true, false, List, ◌∷◌, [], ◌++◌, map, Some, None, sym, ap, ◌∙◌, arith, rules, SFits, to_z, of_z}
use Rattle.std.specs.Prelude.{ℤ, if◌then◌else◌}
use Rattle.std.specs.Int.{w128}
use Rattle.std.specs.List.{range_with_len}
use Rattle.std.proofs.lemmas.Int.{to_z-of_z}
use Rattle.std.proofs.lemmas.List.FromFn.{map-range_with_len_more}
use Rattle.cc_shared.specs.Sharing.{standing_at}
use Rattle.cc_shared.proofs.kept.standings.Goals as goal

value_if : {A : Type 0} (b : Bool) (x y : A) → Some x ≡ (if b then Some y else None) → x ≡ y
value_if true x y e = cc
value_if false x y e = absurd cc

pub loop-account-preserved : goal.loop-account-preserved
loop-account-preserved c =
    let at : ℕ → ℤ × ℤ = standing_at c.args.book.now.terms c.args.book.now.history in
    let balance = value_if _ _ _ (sym c.in-Some-Some.is-0 ∙ c.balance.ensures.value) in
    let reserved = value_if _ _ _ (sym c.in-Some-Some.is-1 ∙ c.reserved.ensures) in
    let balance_fits : SFits w128 c.in-Some-Some.balance = search rules in
    let reserved_fits : SFits w128 c.in-Some-Some.reserved = search rules in
    let pushed : c.push.new.self.items ≡ c.loop-account.pairs.items ++ (to_z w128 (of_z w128 c.in-Some-Some.balance), to_z w128 (of_z w128 c.in-Some-Some.reserved)) ∷ [] = c.in_ok-push.ensures.items in
    pushed
    ∙ (λ i. c.loop-account.pairs.items ++ (to_z-of_z w128 c.in-Some-Some.balance balance_fits i, to_z-of_z w128 c.in-Some-Some.reserved reserved_fits i) ∷ [])
    ∙ ap (λ (xs : List (ℤ × ℤ)). xs ++ (c.in-Some-Some.balance, c.in-Some-Some.reserved) ∷ []) c.loop-account.invariant
    ∙ (λ i. map at (range_with_len 0 c.loop-account.account) ++ (balance i, reserved i) ∷ [])
    ∙ sym (map-range_with_len_more at 0 c.loop-account.account c.loop-account.account (omega arith))
