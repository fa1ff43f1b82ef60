use Rattle.std.proofs.Common.{List, rules, subst}
use mir.Syntax.{w32}
use mir.Val.{SFits}
use Rattle.std.proofs.lemmas.Int.{to_z-of_z}
use Rattle.cc_book.specs.declared.account.Account.{Account}
use Rattle.book_rows.specs.Form.{Adds, listed}
use Rattle.book_rows.specs.TermsParts.{account}
use Rattle.book_terms.proofs.Written.{terms_added}
use Rattle.book_terms.proofs.codec.push_terms.Goals as goal

pub returns : goal.returns
returns c =
    let fits : SFits w32 c.args.value.now.money.exponent = search rules in
    let accounts = subst (λ (xs : List Account). Adds (listed account) xs c.push_tariffs.new.out.items c.push_accounts.new.out.items) c.as_slice.ensures c.in_ok-push_accounts.ensures in
    terms_added c.args.value.now c.requires c.in_ok-push_u32.ensures (simp to_z-of_z at c.in_ok-push_i32.ensures) c.in_ok-push_u32-2.ensures c.in_ok-push_tariffs.ensures accounts
