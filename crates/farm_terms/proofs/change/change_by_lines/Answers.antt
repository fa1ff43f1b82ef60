use Rattle.std.proofs.Common.{List, Option, ap, subst, ◌∙◌}
use Rattle.std.specs.Prelude.{IfSome}
use Rattle.cc_book.specs.declared.account.Account.{Account}
use Rattle.farm_terms.proofs.Leading.{leads_with}
use Rattle.farm_terms.specs.Joining.{AreJoining}
use Rattle.farm_terms.specs.SiteAccounts.{terms_with}
use Rattle.farm_terms.proofs.change.change_by_lines.Goals as goal

pub returns-in-Ok : goal.returns-in-Ok
returns-in-Ok c =
    let site = c.args.site.now in
    let there = c.args.now.now.accounts in
    leads_with site c.args.text.now c.args.now.now c.in_ok-own.own c.in-Some.joining c.in-Ok.change c.with_joining.result
    (subst (λ (found : Option (List Account)). IfSome found (AreJoining site c.args.text.now there)) c.in-Some.is c.in_ok-joining.ensures)
    (c.in_ok-own.ensures ∙ ap (terms_with site) (c.list.ensures ∙ c.new.ensures.items))
    c.in-Ok.ensures.needed c.with_joining.ensures
