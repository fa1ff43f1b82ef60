use Rattle.std.proofs.Common.{◌≡◌, ◌+◌, ◌++◌, ◌^◌, [], ◌∷◌, All, List, SFits, take, ap, subst, sym, ◌∙◌, arith, append_assoc, rules}
use Rattle.std.specs.Prelude.{ℤ, negsuc, pos, ◌≤ℤ◌}
use Rattle.std.specs.Int.{w64}
use Rattle.std.proofs.lemmas.Int.{ints}
use Rattle.std.proofs.lemmas.List.Elements.{All-push}
use Rattle.cc_book.specs.declared.account.Account.{Account}
use Rattle.cc_book.specs.Standing.{openings_of}
use Rattle.cc_book.proofs.Amounts.{openings-more}
use Rattle.cc_list.proofs.standing.Lists.join.Goals as goal

pub loop-account-preserved : goal.loop-account-preserved
loop-account-preserved c =
    let fits : SFits w64 c.account-item.result.opening = search rules in
    let so_far = openings_of (take c.loop-account.account-index c.args.joining.now) in
    let opening = c.account-item.result.opening in
    let pushed : c.push_reserved.new.self.items ≡ c.loop-account.self.balances.items ++ opening ∷ [] = search rules in
    let more : openings_of (take (c.loop-account.account-index + 1) c.args.joining.now) ≡ so_far ++ opening ∷ [] =
    openings-more c.args.joining.now c.loop-account.account-index c.account-item.result c.loop-account-test.true
    ∙ ap (λ (a : Account). so_far ++ a.opening ∷ []) (sym c.account-item.is) in
    record {
      items = pushed ∙ ap (λ (bs : List ℤ). bs ++ opening ∷ []) c.loop-account.invariant.items
          ∙ append_assoc c.args.self.now.balances.items so_far (opening ∷ [])
          ∙ sym (ap (λ (bs : List ℤ). c.args.self.now.balances.items ++ bs) more);
      room = (let long = c.push_reserved.ensures.len in let cap = c.push_reserved.ensures.capacity in
          omega (arith, c.loop-account.invariant.room, c.loop-account-test.true));
      sessions = c.loop-account.invariant.sessions;
      least = subst (All (λ (b : ℤ). negsuc (2 ^ 63) ≤ℤ b)) (sym more)
          (All-push (λ (b : ℤ). negsuc (2 ^ 63) ≤ℤ b) so_far opening c.loop-account.invariant.least (omega (arith, ints)));
      most = subst (All (λ (b : ℤ). b ≤ℤ pos (2 ^ 63))) (sym more)
          (All-push (λ (b : ℤ). b ≤ℤ pos (2 ^ 63)) so_far opening c.loop-account.invariant.most (omega (arith, ints)));
    }
