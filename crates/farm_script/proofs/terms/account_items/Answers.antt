use Rattle.std.proofs.Common.{sym, ◌∙◌}
use Rattle.farm_script.proofs.TermsReading.{account_step}
use Rattle.farm_script.proofs.terms.account_items.Goals as goal

pub loop-rest-preserved : goal.loop-rest-preserved
loop-rest-preserved c =
    account_step c.args.items.now c.loop-rest.rest.now c.loop-rest.accounts.items c.push.new.self.items c.in_ok-item.item c.loop-rest.invariant
    c.in-len4-up.len_at_least (sym c.is_account.ensures ∙ c.if-not-is_account.false) c.in_ok-item.ensures c.in_ok-push.ensures.items
