use Rattle.std.proofs.Common.{◌≡◌, ◌++◌, ◌^◌, [], ◌∷◌, ap, subst, sym, ◌∙◌, arith, rules, List, All, SFits, get_or}
use Rattle.std.specs.Prelude.{ℤ, pos, negsuc, ◌≤ℤ◌}
use Rattle.std.specs.Int.{w64}
use Rattle.std.proofs.lemmas.Int.{ints}
use Rattle.std.proofs.lemmas.List.Elements.{All-push}
use Rattle.cc_book.specs.declared.account.Account.{Account}
use Rattle.cc_book.proofs.Amounts.{openings-more}
use Rattle.cc_list.proofs.standing.Lists.new.Goals as goal

pub loop-account-preserved : goal.loop-account-preserved
loop-account-preserved c =
    let fits : SFits w64 c.account-item.result.opening = search rules in
    let pushed : c.push.new.self.items ≡ c.loop-account.balances.items ++ c.account-item.result.opening ∷ [] = search rules in
    let more = openings-more c.args.accounts.now c.loop-account.account-index c.account-item.result c.loop-account-test.true in
    let here = ap (λ (a : Account). c.loop-account.balances.items ++ a.opening ∷ []) c.account-item.is in
    record {
      items = pushed ∙ here ∙ ap (λ (bs : List ℤ). bs ++ (get_or c.args.accounts.now c.loop-account.account-index c.account-item.result).opening ∷ [])
          c.loop-account.invariant.items ∙ sym more;
      least = subst (All (λ (b : ℤ). negsuc (2 ^ 63) ≤ℤ b)) (sym pushed)
          (All-push (λ (b : ℤ). negsuc (2 ^ 63) ≤ℤ b) c.loop-account.balances.items c.account-item.result.opening c.loop-account.invariant.least
          (omega (arith, ints)));
      most = subst (All (λ (b : ℤ). b ≤ℤ pos (2 ^ 63))) (sym pushed)
          (All-push (λ (b : ℤ). b ≤ℤ pos (2 ^ 63)) c.loop-account.balances.items c.account-item.result.opening c.loop-account.invariant.most
          (omega (arith, ints)));
    }
