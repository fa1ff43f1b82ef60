use Rattle.std.proofs.Common.{List, sym, subst, Err}
use Rattle.cc_book.specs.declared.book.BookRefusal.{BookRefusal}
use Rattle.cc_book.specs.declared.entry.Entry.{Entry}
use Rattle.cc_book.specs.Taking.{AnswersWith, answer_of}
use Rattle.cc_shared.specs.Receipts.{IsTakenAt}
use Rattle.cc_shared.proofs.Truth.{fits_where_same, never_full}
use Rattle.cc_shared.proofs.checking.fits.Goals as goal

pub unreachable-requires : goal.unreachable-requires
unreachable-requires c =
    let at = subst (λ (h : List Entry). IsTakenAt h c.args.receipt.now.place c.in-Some.taken.now) c.history-entries.ensures.entries c.in-Some.ensures.some in
    let may = c.may_tell_of.ensures.0 c.if-not-may_tell_of.false in
    let full = subst (λ (r : BookRefusal). AnswersWith (answer_of c.args.book.now c.args.receipt.now.request) (Err r)) c.in-Err-Full.field-0-is c.in-Err-Full.ensures in
    never_full c.args.book.now c.args.receipt.now c.in-Some.taken.now c.in-Err-Full.field-0-0 c.history-entries.ensures.legal at may.0 full

pub returns-in-Ok : goal.returns-in-Ok
returns-in-Ok c =
    let at = subst (λ (h : List Entry). IsTakenAt h c.args.receipt.now.place c.in-Some.taken.now) c.history-entries.ensures.entries c.in-Some.ensures.some in
    let may = c.may_tell_of.ensures.0 c.if-not-may_tell_of.false in
    fits_where_same c.args.book.now c.args.receipt.now c.in-Some.taken.now c.in-Ok.kept c.same_reply.result c.history-entries.ensures.legal at may c.in-Ok.ensures c.same_reply.ensures

pub returns-in_default : goal.returns-in_default
returns-in_default c = λ fits.
    c.in_default.ensures.none fits.taken (subst (λ (h : List Entry). IsTakenAt h c.args.receipt.now.place fits.taken) (sym c.history-entries.ensures.entries) fits.at)
