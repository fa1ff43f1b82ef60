use Rattle.std.proofs.Common.{◌≡◌, subst, sym, ap, ◌∙◌, List, length, Option, arith, map, []}
use Rattle.cc_view.specs.declared.reply.CcReply.{CcReply}
use Rattle.cc_book.specs.declared.account.Account.{Account}
use Rattle.cc_book.specs.declared.entry.Entry.{Entry}
use Rattle.cc_book.specs.declared.session.OpenSession.{OpenSession}
use Rattle.cc_book.specs.declared.terms.Terms.{Terms}
use Rattle.cc_book.specs.AccountMachine.{terms_of}
use Rattle.cc_book.specs.Charging.{charges_of}
use Rattle.cc_book.specs.Places.{HasPlaces, IsIndexed}
use Rattle.cc_book.specs.Taking.{IsBook}
use Rattle.cc_book.specs.TermsChange.{TermsOfBook}
use Rattle.cc_book.proofs.Books.{IsBook-empty}
use Rattle.cc_book.proofs.Charging.{charges-empty}
use Rattle.cc_book.proofs.Bounds.{bounded-empty, opens-small}
use Rattle.cc_book.proofs.Postings.{terms_of-empty}
use Rattle.cc_book.proofs.Stands.{empty-stands}
use Rattle.cc_book.proofs.state.BookState.under.Goals as goal

pub invariant_of-result : goal.invariant_of-result
invariant_of-result c =
    let terms : Terms = c.args.terms in
    let standing = c.in_ok-standing.standing in
    let openings = c.in_ok-standing.ensures.balances ∙ ap (map (λ (a : Account). a.opening)) c.as_slice.ensures in
    let stands = empty-stands terms standing.balances.items openings in
    let small = opens-small terms standing.balances.items openings c.in_ok-standing.ensures.least c.in_ok-standing.ensures.most in
    let bounded = bounded-empty terms standing.balances.items openings c.in_ok-standing.ensures.least c.in_ok-standing.ensures.most in
    let book =
    subst (λ (ss : List OpenSession). IsBook terms c.args.limit c.in_ok-with_capacity.field-0.items c.in_ok-with_capacity-2.field-0.items
    standing.balances.items ss) (sym c.in_ok-standing.ensures.sessions)
    (subst (λ (rs : List (Option CcReply)). IsBook terms c.args.limit c.in_ok-with_capacity.field-0.items rs standing.balances.items [])
    (sym c.in_ok-with_capacity-2.ensures.items)
    (subst (λ (es : List Entry). IsBook terms c.args.limit es [] standing.balances.items []) (sym c.in_ok-with_capacity.ensures.items)
    (IsBook-empty terms c.args.limit standing.balances.items small bounded stands))) in
    let kept = c.in_ok-of.field-0 in
    let begun : terms ≡ kept.begun = sym (ap (λ (k : TermsOfBook). k.begun) c.in_ok-of.ensures) in
    let current : kept.current ≡ terms = ap (λ (k : TermsOfBook). k.current) c.in_ok-of.ensures in
    let places = c.in_ok-new.field-0 in (
      subst (λ (t : Terms). IsBook t c.args.limit c.in_ok-with_capacity.field-0.items c.in_ok-with_capacity-2.field-0.items
          standing.balances.items standing.sessions.items) begun book,
      record {
        for_entries = omega (arith, c.in_ok-with_capacity.ensures.exact);
        for_replies = omega (arith, c.in_ok-with_capacity-2.ensures.exact);
        for_sessions = omega (arith, c.in_ok-standing.ensures.room);
      },
      c.in_ok-standing.ensures.accounts ∙ ap length c.as_slice.ensures ∙ sym stands.accounts,
      subst (λ (es : List Entry). IsIndexed es places) (sym c.in_ok-with_capacity.ensures.items) c.in_ok-new.ensures.indexed,
      subst (λ (es : List Entry). HasPlaces c.args.limit (length es) places) (sym c.in_ok-with_capacity.ensures.items) c.in_ok-new.ensures.room,
      omega arith,
      current ∙ sym (ap (λ (es : List Entry). terms_of terms es) c.in_ok-with_capacity.ensures.items ∙ terms_of-empty terms)
          ∙ ap (λ (t : Terms). terms_of t c.in_ok-with_capacity.field-0.items) begun,
      c.in_ok-with_capacity-3.ensures.items
          ∙ sym (ap (λ (es : List Entry). charges_of kept.begun es) c.in_ok-with_capacity.ensures.items ∙ charges-empty kept.begun),
      omega (arith, c.in_ok-with_capacity-3.ensures.exact),
    )
