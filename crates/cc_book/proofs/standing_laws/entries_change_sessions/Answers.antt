use Rattle.std.proofs.Common.{◌≡◌, List, [], ◌∷◌, ◌++◌, ap, sym, ◌∙◌}
use Rattle.dia_base.specs.declared.number.Moment.{Moment}
use Rattle.cc_book.specs.declared.entry.Entry.{Entry}
use Rattle.cc_book.specs.declared.entry.Entry.TheVariants.{Take, Sweep, ChangeTerms}
use Rattle.cc_book.specs.declared.outcome.Change.{Change}
use Rattle.cc_book.specs.declared.plan.Taken.{Taken}
use Rattle.cc_book.specs.declared.terms.Terms.{Terms}
use Rattle.cc_book.specs.declared.terms_change.TermsChange.{TermsChange}
use Rattle.cc_book.specs.AccountMachine.{posting_of, postings_of, terms_of}
use Rattle.cc_book.specs.Posting.{Posting}
use Rattle.cc_book.specs.Planning.{IsTaking}
use Rattle.cc_book.specs.Standing.{after_change, next_sessions, sessions_after, sessions_in, without_due}
use Rattle.cc_book.specs.Taking.{Ledger, with_take}
use Rattle.cc_book.proofs.Books.{sessions_after-push}
use Rattle.cc_book.proofs.Postings.{postings_of-push}
use Rattle.cc_book.proofs.standing_laws.entries_change_sessions.Goals as goal

-- the sessions behind one more entry
sessions_in-push : (terms : Terms) (history : List Entry) (entry : Entry)
    → sessions_in terms (history ++ entry ∷ []) ≡ next_sessions terms.validity (sessions_in terms history) (posting_of (terms_of terms history) (postings_of terms history) entry)
sessions_in-push terms history entry =
    ap (λ (ps : List Posting). sessions_after terms.validity ps) (postings_of-push terms history entry)
    ∙ sessions_after-push terms.validity (postings_of terms history) (posting_of (terms_of terms history) (postings_of terms history) entry)

by_request : (ledger : Ledger) (taken : Taken) → IsTaking ledger taken
    → sessions_in ledger.terms (with_take ledger taken.moment taken.request).history ≡ after_change (sessions_in ledger.terms ledger.history) taken.outcome.change
by_request ledger taken taking =
    sessions_in-push ledger.terms ledger.history (Take taken.moment taken.request)
    ∙ sym (ap (λ (change : Change). after_change (sessions_in ledger.terms ledger.history) change) taking.outcome.change)

pub returns : goal.returns
returns c = record {
  by_request = by_request;
  by_sweep = λ terms history moment. sessions_in-push terms history (Sweep moment);
  by_change = λ terms history moment change. sessions_in-push terms history (ChangeTerms moment change);
}
