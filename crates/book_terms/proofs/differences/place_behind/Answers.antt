use Rattle.std.proofs.Common.{sym, ◌∙◌}
use Rattle.book_terms.specs.Difference.{same_account}
use Rattle.book_terms.proofs.Looking.{found_before, found_behind, in_neither}
use Rattle.book_terms.proofs.differences.place_behind.Goals as goal

pub returns-in-Some-clause-there : goal.returns-in-Some-clause-there
returns-in-Some-clause-there c = sym (found_behind (same_account c.args.account.now) c.args.there.now c.args.from c.in-Some.place (sym c.place_in.ensures ∙ c.in-Some.is))

pub returns-in-Some-place_in-clause-there : goal.returns-in-Some-place_in-clause-there
returns-in-Some-place_in-clause-there c =
    sym (found_before (same_account c.args.account.now) c.args.there.now c.args.from c.in-Some-place_in.place (sym c.place_in-in-None.ensures ∙ c.in-Some-place_in.is))

pub returns-in-None-place_in-clause-there : goal.returns-in-None-place_in-clause-there
returns-in-None-place_in-clause-there c =
    sym (in_neither (same_account c.args.account.now) c.args.there.now c.args.from (sym c.place_in.ensures ∙ c.in-None.is) (sym c.place_in-in-None.ensures ∙ c.in-None-place_in.is))
