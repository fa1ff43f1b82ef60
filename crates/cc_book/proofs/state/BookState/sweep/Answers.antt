use Rattle.std.proofs.Common.{◌≡◌, ℕ, ◌<◌, List, length, Ok, Vec, Global, ap, refl, subst, sym, ◌∙◌, arith, ◌∷◌, ◌++◌, [], length-append}
use Rattle.std.specs.Prelude.{ℤ, count_by, None, pos}
use Rattle.cc_book.specs.declared.charges.Charge.{Charge}
use Rattle.cc_book.specs.declared.entry.Entry.{Entry}
use Rattle.cc_book.specs.declared.entry.Entry.TheVariants.{Sweep}
use Rattle.cc_book.specs.AccountMachine.{terms_of}
use Rattle.cc_book.specs.Charging.{charges_of}
use Rattle.cc_book.specs.Places.{HasPlaces, IsIndexed}
use Rattle.cc_book.specs.Standing.{is_due, without_due}
use Rattle.cc_book.specs.Taking.{Ledger, sweep_answer}
use Rattle.cc_book.proofs.Books.{replies-long, same-book, small-book}
use Rattle.cc_book.proofs.Charging.{charges-long, charges-push}
use Rattle.cc_book.proofs.Placing.{IsIndexed-keyless}
use Rattle.cc_book.proofs.Postings.{terms_of-sweep}
use Rattle.cc_book.proofs.Sweeps.{IsBook-sweep, sweep-has_room, sweep-some}
use Rattle.cc_book.proofs.state.BookState.sweep.Goals as goal

pub push_reserved-requires-2 : goal.push_reserved-requires-2
push_reserved-requires-2 c =
    let answer = ap (λ (l : Ledger). sweep_answer l c.args.moment) c.self.view_is ∙ c.in_ok-ended.ensures.answer in
    let room : length c.self.inside.history.items < c.self.inside.limit = sweep-has_room _ c.args.moment c.in_ok-ended.ended c.if-ended-eq0.false answer in
    let long = replies-long c.self.invariant.0 in
    omega (arith, c.self.invariant.1.for_replies, c.self.inside.replies.ok.0)

pub push_reserved-requires-3 : goal.push_reserved-requires-3
push_reserved-requires-3 c =
    let answer = ap (λ (l : Ledger). sweep_answer l c.args.moment) c.self.view_is ∙ c.in_ok-ended.ensures.answer in
    let room : length c.self.inside.history.items < c.self.inside.limit = sweep-has_room _ c.args.moment c.in_ok-ended.ended c.if-ended-eq0.false answer in
    let long = ap length c.self.invariant.7 ∙ charges-long c.self.inside.terms.begun c.self.inside.history.items in
    omega (arith, room, c.self.invariant.8, c.self.inside.charges.ok.0)

pub sweep-requires : goal.sweep-requires
sweep-requires c = (small-book c.self.invariant.0).held

pub invariant_of-self : goal.invariant_of-self
invariant_of-self c =
    let answer = ap (λ (l : Ledger). sweep_answer l c.args.moment) c.self.view_is ∙ c.in_ok-ended.ensures.answer in
    let room : length c.self.inside.history.items < c.self.inside.limit = sweep-has_room _ c.args.moment c.in_ok-ended.ended c.if-ended-eq0.false answer in
    let sessions = c.self.inside.standing.sessions.items in
    let due : sweep_answer _ c.args.moment ≡ Ok (count_by (is_due c.self.inside.terms.begun.validity c.args.moment) sessions) = sweep-some c.self.invariant.0 c.args.moment room in
    let counted : count_by (is_due c.self.inside.terms.begun.validity c.args.moment) sessions ≡ c.in_ok-ended.ended = cc in
    let some : 0 < count_by (is_due c.self.inside.terms.begun.validity c.args.moment) sessions = omega (arith, counted, c.if-ended-eq0.false) in
    let book = IsBook-sweep c.self.inside.terms.begun c.self.inside.limit c.self.inside.history.items c.self.inside.replies.items
    c.self.inside.standing.balances.items sessions c.args.moment c.self.invariant.0 room some in
    let left = c.sweep.ensures.sessions ∙ ap (λ (v : ℕ). without_due v c.args.moment sessions) c.validity.ensures in
    let balances : c.sweep.new.self.balances.items ≡ c.self.inside.standing.balances.items = ap (λ (v : Vec ℤ Global). v.items) c.sweep.ensures.balances in (
      same-book _ c.push_reserved.new.self.items _ c.push_reserved-2.new.self.items _ c.sweep.new.self.balances.items _ c.sweep.new.self.sessions.items
          (sym c.push_reserved.ensures.items) (sym c.push_reserved-2.ensures.items) (sym balances) (sym left) book,
      record {
        for_entries = omega (arith, c.self.invariant.1.for_entries, c.push_reserved.ensures.capacity);
        for_replies = omega (arith, c.self.invariant.1.for_replies, c.push_reserved-2.ensures.capacity);
        for_sessions = (let pushed = ap length c.push_reserved.ensures.items in
            let long = length-append c.self.inside.history.items (Sweep c.args.moment ∷ []) in
            omega (arith, c.self.invariant.1.for_sessions, c.sweep.ensures.room));
      },
      c.sweep.ensures.accounts ∙ c.self.invariant.2 ∙ sym (ap length balances),
      subst (λ (es : List Entry). IsIndexed es c.self.inside.places) (sym c.push_reserved.ensures.items)
          (IsIndexed-keyless c.self.inside.history.items c.self.inside.places (Sweep c.args.moment) refl c.self.invariant.3),
      subst (λ (es : List Entry). HasPlaces c.self.inside.limit (length es) c.self.inside.places) (sym c.push_reserved.ensures.items)
          (let long = length-append c.self.inside.history.items (Sweep c.args.moment ∷ []) in
          record { for_firsts = omega (arith, c.self.invariant.4.for_firsts); for_numbered = omega (arith, c.self.invariant.4.for_numbered) }),
      c.self.invariant.5,
      c.self.invariant.6
          ∙ sym (ap (λ (es : List Entry). terms_of c.self.inside.terms.begun es) c.push_reserved.ensures.items
          ∙ terms_of-sweep c.self.inside.terms.begun c.self.inside.history.items c.args.moment),
      c.push_reserved-3.ensures.items
          ∙ ap (λ (cs : List Charge). cs ++ record { account = None; debit = pos 0 } ∷ []) c.self.invariant.7
          ∙ sym (ap (λ (es : List Entry). charges_of c.self.inside.terms.begun es) c.push_reserved.ensures.items
          ∙ charges-push c.self.inside.terms.begun c.self.inside.history.items (Sweep c.args.moment)),
      omega (arith, c.self.invariant.8, c.push_reserved-3.ensures.capacity),
    )
