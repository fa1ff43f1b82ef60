use Rattle.std.proofs.Common.{◌≡◌, Some, ap, sym, ◌∙◌}
use Rattle.cc_book.specs.declared.terms.Terms.{Terms}
use Rattle.cc_book.specs.declared.terms_change.ChangeRefusal.TheVariants.{OutOfMemory}
use Rattle.cc_book.specs.TermsChange.{fault_of_change}
use Rattle.cc_book.proofs.Changing.{changes-fault, fault-no_memory}
use Rattle.cc_book.proofs.state.BookState.quote_change.Goals as goal

pub returns-in-Some-clause-answer : goal.returns-in-Some-clause-answer
returns-in-Some-clause-answer c =
    changes-fault c.args.self.now c.args.change.now c.in-Some.fault
    (ap (λ (now : Terms). fault_of_change now c.args.change.now) (sym c.terms_now.ensures) ∙ sym c.in-Some.ensures)

pub returns-in-Some-clause-memory : goal.returns-in-Some-clause-memory
returns-in-Some-clause-memory c = λ memory.
    let same : c.in-Some.fault ≡ OutOfMemory = cc in
    fault-no_memory c.terms_now.result.now c.args.change.now (sym c.in-Some.ensures ∙ ap Some same)
