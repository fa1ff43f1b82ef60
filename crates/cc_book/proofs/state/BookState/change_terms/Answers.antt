use Rattle.std.proofs.Common.{◌≡◌, ◌^◌, ◌++◌, ◌∷◌, [], All, List, length, length-append, refl, ap, subst, sym, ◌∙◌, arith}
use Rattle.std.specs.Prelude.{ℤ, None, negsuc, pos, ◌≤ℤ◌}
use Rattle.std.proofs.lemmas.List.{length-map}
use Rattle.cc_book.specs.declared.account.Account.{Account}
use Rattle.cc_book.specs.declared.charges.Charge.{Charge}
use Rattle.cc_book.specs.declared.entry.Entry.{Entry}
use Rattle.cc_book.specs.declared.entry.Entry.TheVariants.{ChangeTerms}
use Rattle.cc_book.specs.declared.terms.Terms.{Terms}
use Rattle.cc_book.specs.declared.terms_change.TermsChange.{TermsChange}
use Rattle.cc_book.specs.AccountMachine.{terms_of}
use Rattle.cc_book.specs.Charging.{charges_of}
use Rattle.cc_book.specs.Changing.{change_answer}
use Rattle.cc_book.specs.Places.{HasPlaces, IsIndexed}
use Rattle.cc_book.specs.Standing.{openings_of}
use Rattle.cc_book.specs.Taking.{IsBook, Ledger}
use Rattle.cc_book.specs.TermsChange.{changed_terms}
use Rattle.cc_book.proofs.Books.{replies-long, same-book}
use Rattle.cc_book.proofs.Changing.{IsBook-change, made-change}
use Rattle.cc_book.proofs.Charging.{charges-long, charges-push}
use Rattle.cc_book.proofs.Placing.{IsIndexed-keyless}
use Rattle.cc_book.proofs.Postings.{terms_of-change}
use Rattle.cc_book.proofs.state.BookState.change_terms.Goals as goal

pub push_reserved-requires-2 : goal.push_reserved-requires-2
push_reserved-requires-2 c =
    let ledger : Ledger = record { terms = c.self.inside.terms.begun; limit = c.self.inside.limit; history = c.self.inside.history.items } in
    let made = made-change ledger c.args.change c.in_ok-place.place
    (ap (λ (l : Ledger). change_answer l c.args.change) c.self.view_is ∙ c.in_ok-place.ensures.answer) in
    let long = replies-long c.self.invariant.0 in
    omega (arith, made.1, c.self.invariant.1.for_replies, c.self.inside.replies.ok.0)

pub push_reserved-requires-3 : goal.push_reserved-requires-3
push_reserved-requires-3 c =
    let ledger : Ledger = record { terms = c.self.inside.terms.begun; limit = c.self.inside.limit; history = c.self.inside.history.items } in
    let room = (made-change ledger c.args.change c.in_ok-place.place
    (ap (λ (l : Ledger). change_answer l c.args.change) c.self.view_is ∙ c.in_ok-place.ensures.answer)).1 in
    let long = ap length c.self.invariant.7 ∙ charges-long c.self.inside.terms.begun c.self.inside.history.items in
    omega (arith, room, c.self.invariant.8, c.self.inside.charges.ok.0)

pub invariant_of-self-2 : goal.invariant_of-self-2
invariant_of-self-2 c =
    let inside = c.self.inside in
    let history = inside.history.items in
    let ledger : Ledger = record { terms = inside.terms.begun; limit = inside.limit; history = history } in
    let made = made-change ledger c.args.change c.in_ok-place.place
    (ap (λ (l : Ledger). change_answer l c.args.change) c.self.view_is ∙ c.in_ok-place.ensures.answer) in
    let joining = c.args.change.joining in
    let given = c.as_slice.ensures in
    let least = subst (λ (accounts : List Account). All (λ (z : ℤ). negsuc (2 ^ 63) ≤ℤ z) (openings_of accounts)) given c.join.ensures.least in
    let most = subst (λ (accounts : List Account). All (λ (z : ℤ). z ≤ℤ pos (2 ^ 63)) (openings_of accounts)) given c.join.ensures.most in
    let book = IsBook-change inside.terms.begun inside.limit history inside.replies.items inside.standing.balances.items inside.standing.sessions.items
    c.args.moment c.args.change c.self.invariant.0 made.1 made.0 least most in
    let balances : c.join.new.self.balances.items ≡ inside.standing.balances.items ++ openings_of joining =
    c.join.ensures.balances
    ∙ (λ i. c.reserve_accounts.ensures.balances i ++ openings_of (given i)) in
    let sessions = c.join.ensures.sessions ∙ c.reserve_accounts.ensures.sessions in
    let entry : Entry = ChangeTerms c.args.moment c.args.change in
    let pushed : c.push_reserved.new.self.items ≡ history ++ entry ∷ [] =
    c.push_reserved.ensures.items ∙ ap (λ (change : TermsChange). history ++ ChangeTerms c.args.moment change ∷ []) c.into_list-change.ensures in
    let long = length-append history (entry ∷ []) in (
      subst (λ (t : Terms). IsBook t inside.limit c.push_reserved.new.self.items c.push_reserved-2.new.self.items c.join.new.self.balances.items c.join.new.self.sessions.items)
          (sym c.in_ok-change.ensures.begun)
          (same-book _ c.push_reserved.new.self.items _ c.push_reserved-2.new.self.items _ c.join.new.self.balances.items _ c.join.new.self.sessions.items
          (sym pushed) (sym c.push_reserved-2.ensures.items) (sym balances) (sym sessions) book),
      record {
        for_entries = omega (arith, c.self.invariant.1.for_entries, c.push_reserved.ensures.capacity);
        for_replies = omega (arith, c.self.invariant.1.for_replies, c.push_reserved-2.ensures.capacity);
        for_sessions = (let more = ap length pushed in
            omega (arith, c.self.invariant.1.for_sessions, c.join.ensures.room, c.reserve_accounts.ensures.room));
      },
      (let more = length-append inside.standing.balances.items (openings_of joining) in
          let joined = length-map joining (λ (a : Account). a.opening) in
          let now = ap length balances in
          let count = ap length given in
          omega (arith, c.join.ensures.accounts, c.reserve_accounts.ensures.accounts, c.self.invariant.2)),
      subst (λ (es : List Entry). IsIndexed es inside.places) (sym pushed)
          (IsIndexed-keyless history inside.places entry refl c.self.invariant.3),
      subst (λ (es : List Entry). HasPlaces inside.limit (length es) inside.places) (sym pushed)
          (record { for_firsts = omega (arith, c.self.invariant.4.for_firsts); for_numbered = omega (arith, c.self.invariant.4.for_numbered) }),
      c.self.invariant.5,
      c.in_ok-change.ensures.ok
          ∙ ap (λ (now : Terms). changed_terms now c.args.change) c.self.invariant.6
          ∙ sym (ap (λ (es : List Entry). terms_of inside.terms.begun es) pushed
          ∙ terms_of-change inside.terms.begun history c.args.moment c.args.change)
          ∙ ap (λ (t : Terms). terms_of t c.push_reserved.new.self.items) (sym c.in_ok-change.ensures.begun),
      c.push_reserved-3.ensures.items
          ∙ ap (λ (cs : List Charge). cs ++ record { account = None; debit = pos 0 } ∷ []) c.self.invariant.7
          ∙ sym (ap (λ (es : List Entry). charges_of inside.terms.begun es) pushed ∙ charges-push inside.terms.begun history entry)
          ∙ ap (λ (t : Terms). charges_of t c.push_reserved.new.self.items) (sym c.in_ok-change.ensures.begun),
      omega (arith, c.self.invariant.8, c.push_reserved-3.ensures.capacity),
    )
