use Rattle.std.proofs.Common.{◌≡◌, ◌++◌, ◌∷◌, [], ℤ, List, get_or, Bool, Result, Ok, Err, false, sym, ap, subst, ◌∙◌}
use Rattle.std.specs.Prelude.{IfOk, IsTrue}
use Rattle.std.specs.List.{list_any}
use Rattle.std.specs.Ordering.{int_eq}
use Rattle.cc_book.specs.declared.account.Account.{Account}
use Rattle.cc_book.specs.Owners.{account_with, owner_of, same_owner}
use Rattle.farm_terms.proofs.Naming.{named_joining, named_there}
use Rattle.farm_terms.proofs.joining.Named.name.Goals as goal

-- what follows from what two clauses say of a call that is done and says yes
where_done : {E P Q R : Type 0} (result : Result Bool E) → (P → Q → R) → IfOk result (λ done. IsTrue done → P) → IfOk result (λ done. IsTrue done → Q) → IfOk result (λ done. IsTrue done → R)
where_done (Ok done) follows one other = λ is. follows (one is) (other is)
where_done (Err error) follows one other = tt

-- one owner and one opening make one account
one_account : (one other : Account) → owner_of one ≡ owner_of other → one.opening ≡ other.opening → one ≡ other
one_account one other owner opening = λ i. record { id_kind = (owner i).kind; id = (owner i).text; opening = opening i }

pub returns-then-has_opening : goal.returns-then-has_opening
returns-then-has_opening c =
    let there = c.args.there.now in
    let place = c.in-Some-find.place in
    let other = c.index-as_slice-place.result in
    λ done. named_there there c.args.self.now c.mark.new.self c.args.account other place
    (ap (account_with there) (sym c.sought_of-sought.ensures.owner) ∙ sym c.find.ensures.value ∙ c.in-Some-find.is)
    (ap (λ (accounts : List Account). get_or accounts place other) (sym c.as_slice.ensures) ∙ sym c.index-as_slice-place.is)
    (ap (λ (opening : ℤ). int_eq opening other.opening) (sym c.sought_of-sought.ensures.opening) ∙ sym c.has_opening.ensures ∙ c.if-has_opening.true)
    (c.mark.ensures.fresh done) (c.mark.ensures.within done) (c.mark.ensures.marks done) c.mark.ensures.joining (c.mark.ensures.count ∙ c.in-Some.ensures.1)

pub returns-in-None : goal.returns-in-None
returns-in-None c =
    let there = c.args.there.now in
    let joining = c.args.self.now.joining in
    let same : c.account_of.result ≡ c.args.account =
    one_account c.account_of.result c.args.account (c.account_of.ensures.owner ∙ c.sought_of-sought.ensures.owner) (c.account_of.ensures.opening ∙ c.sought_of-sought.ensures.opening) in
    where_done c.join.result
    (λ fresh joined. named_joining there c.args.self.now c.join.new.self c.args.account
    (ap (account_with there) (sym c.sought_of-sought.ensures.owner) ∙ sym c.find.ensures.value ∙ c.in-None.is)
    (subst (λ (a : Account). list_any (same_owner a) joining ≡ false) same fresh)
    (joined ∙ ap (λ (a : Account). joining ++ a ∷ []) same) c.join.ensures.marks (c.join.ensures.count ∙ c.in-Some.ensures.1))
    c.join.ensures.fresh c.join.ensures.joining
