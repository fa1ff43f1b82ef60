use Rattle.std.proofs.Common.{is_some, ◌≡◌, ◌++◌, ◌∷◌, [], List, Bool, length, ap, sym, subst, cond, ◌∙◌, arith, length-append}
use Rattle.cc_book.specs.declared.entry.Entry.TheVariants.{Take}
use Rattle.cc_book.specs.Planning.{IsGoodFor, after_plan, answer_planned}
use Rattle.cc_book.specs.Taking.{Ledger, with_take}
use Rattle.book_journal.specs.Kept.{IsKeptBy}
use Rattle.cc_shared.specs.declared.logged.Logged.{Logged}
use Rattle.cc_shared.specs.declared.logged.Logged.TheVariants.{Entered}
use Rattle.cc_shared.specs.History.{book_at, entries_in, is_closed}
use Rattle.cc_shared.specs.Sharing.{takes_in}
use Rattle.cc_shared.proofs.Histories.{book_at-take, one_take_more, open_goes_on, takes_are_few}
use Rattle.cc_shared.proofs.open.OpenBook.enter.Goals as goal

pub overflow_add-self : goal.overflow_add-self
overflow_add-self g c =
    let log = c.self.inside.seen in
    let more = Entered (Take c.args.moment c.args.request.now) in
    let added : c.add_take.new.self ≡ log ++ more ∷ [] = c.if-not-add_take.ensures ∙ ap (λ (l : List Logged). l ++ more ∷ []) c.again-seen.ensures in
    let few = takes_are_few log in
    let longer : length c.add_take.new.self ≡ length (log ++ more ∷ []) = ap length added in
    omega (arith, few, longer, length-append log (more ∷ []), c.self.invariant.2, c.seen.invariant.0, ap length c.seen.view_is, c.seen.ranges)

pub invariant_of-self-2 : goal.invariant_of-self-2
invariant_of-self-2 g c =
    let opened = g.L.Sharing.shared.opened in
    let log = c.self.inside.seen in
    let more = Entered (Take c.args.moment c.args.request.now) in
    let added : c.add_take.new.self ≡ log ++ more ∷ [] = c.if-not-add_take.ensures ∙ ap (λ (l : List Logged). l ++ more ∷ []) c.again-seen.ensures in
    let is : c.commit-answered.new.self ≡ book_at opened (log ++ more ∷ []) =
    c.commit-answered.ensures.after ∙ ap (λ (l : Ledger). after_plan l c.args.plan) c.self.invariant.0
    ∙ ap (λ (l : List Logged). after_plan (book_at opened l) c.args.plan) c.self.view_is
    ∙ c.requires.after
    ∙ ap (λ (l : List Logged). with_take (book_at opened l) c.args.moment c.args.request.now) (sym c.self.view_is)
    ∙ book_at-take opened log c.args.moment c.args.request.now in
    let before : Ledger = book_at opened c.args.self.now in
    let same : c.self.inside.book ≡ before = c.self.invariant.0 ∙ ap (λ (l : List Logged). book_at opened l) c.self.view_is in
    let after : after_plan before c.args.plan ≡ cond (answer_planned c.args.plan).fresh (with_take before c.args.moment c.args.request.now) before =
    c.requires.after ∙ sym (ap (λ (b : Bool). cond b (with_take before c.args.moment c.args.request.now) before) c.requires.fresh) in
    let there = c.self.inside.book in
    let good = subst (λ (l : Ledger). IsGoodFor l c.args.plan) (sym same) c.requires.good in
    let fresh = (answer_planned c.args.plan).fresh in
    let taken = subst (λ (l : Ledger). after_plan l c.args.plan ≡ cond fresh (with_take l c.args.moment c.args.request.now) l) (sym same) after in
    let same_journal = c.deref_mut-journal.ensures.value in
    let kept = subst (λ j. IsKeptBy g.S.RowStore.is_clean g.S.RowStore.is_ready g.S.RowStore.rows g.S.RowStore.beside j there) (sym same_journal) c.self.invariant.6 in
    let next = c.in-Ok.ensures.row good taken kept in
    let longer = c.add.ensures.kept there (after_plan there c.args.plan) (c.row_of_take.ensures.kept there kept) next in
    let end : after_plan there c.args.plan ≡ c.commit-answered.new.self = sym c.commit-answered.ensures.after in (
      is ∙ ap (λ (l : List Logged). book_at opened l) (sym added),
      ap is_closed added ∙ open_goes_on log (Take c.args.moment c.args.request.now) c.self.invariant.1,
      (let one = one_take_more log c.args.moment c.args.request.now in let same = ap (λ (l : List Logged). takes_in (entries_in l)) added in omega (arith, one, same, c.self.invariant.2)),
      (let counted = c.add_one.ensures.takes in omega (arith, counted, c.self.invariant.3)),
      c.self.invariant.4,
      c.self.invariant.5,
      subst (λ (l : Ledger). IsKeptBy g.S.RowStore.is_clean g.S.RowStore.is_ready g.S.RowStore.rows g.S.RowStore.beside c.add.new.self l) end longer,
      ap is_some (c.add.ensures.store ∙ c.row_of_take.ensures.store ∙ ap (λ j. j.store) same_journal) ∙ c.self.invariant.7,
    )
