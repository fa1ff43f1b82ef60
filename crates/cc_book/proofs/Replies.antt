-- What the account machine replies, and what the book answers.
use Rattle.std.proofs.Common.{◌≡◌, ℕ, zero, suc, ◌<◌, ◌≤◌, Bool, true, false, cond, leb, List, [], ◌∷◌, length, take, Option, Some, None, Result, Ok, Err, sym, subst, ap, ◌∙◌, arith, rules}
use Rattle.std.specs.Prelude.{IfSome, IsSome, slice_index_or, unwrap_or}
use Rattle.std.specs.Bool.{Decides}
use Rattle.cc_view.specs.declared.code.ResultCode.TheVariants.{UnableToComply}
use Rattle.cc_view.specs.declared.reply.CcReply.{CcReply}
use Rattle.cc_view.specs.declared.request.CcRequest.{CcRequest}
use Rattle.cc_book.specs.declared.book.Answered.{Answered}
use Rattle.cc_book.specs.declared.book.BookRefusal.{BookRefusal}
use Rattle.cc_book.specs.declared.book.BookRefusal.TheVariants.{Full}
use Rattle.cc_book.specs.AccountMachine.{code_alone, repeat_reply, reply_to, kept_reply}
use Rattle.cc_book.specs.Content.{same_request}
use Rattle.cc_book.specs.Duplicate.{key_of}
use Rattle.cc_book.specs.History.{place_of, IsNew, IsKeptAt}
use Rattle.cc_book.specs.Taking.{AnswersRepeat, Ledger, answer_new, answer_by, answer_of}
use Rattle.cc_book.proofs.Keys.{kept_reply-at, kept_reply-new, place_of-at}
use Rattle.cc_book.proofs.SameRequests.{one_answer, same_request-decides}

answered : CcReply → ℕ → Bool → Result Answered BookRefusal
answered reply place fresh = Ok (record { reply = reply; place = place; fresh = fresh })

pub answer_of-kept : (ledger : Ledger) (request taken : CcRequest) (place : ℕ) (reply : CcReply) → IsKeptAt ledger.history (key_of request) place taken
    → reply ≡ repeat_reply ledger.terms (take place ledger.history) taken request
    → answer_of ledger request ≡ Ok (record { reply = reply; place = place; fresh = false })
unfolding answered
answer_of-kept ledger request taken place reply kept is =
    ap (λ (p : Option ℕ). answer_by ledger request (unwrap_or p 0) (kept_reply ledger.terms ledger.history request))
    (place_of-at ledger.history (key_of request) place taken kept)
    ∙ ap (λ (r : Option CcReply). answer_by ledger request place r) (kept_reply-at ledger.terms ledger.history request place taken kept)
    ∙ ap (λ (r : CcReply). answered r place false) (sym is)

answer_of-new : (ledger : Ledger) (request : CcRequest) → IsNew ledger.history (key_of request) → answer_of ledger request ≡ answer_new ledger request
answer_of-new ledger request new =
    ap (λ (r : Option CcReply). answer_by ledger request (unwrap_or (place_of ledger.history (key_of request)) 0) r)
    (kept_reply-new ledger.terms ledger.history request new)

full_test : (a b : ℕ) → a ≤ b → leb a b ≡ true
full_test a b h = search rules

room_test : (a b : ℕ) → b < a → leb a b ≡ false
room_test a b h = search rules

full : ℕ → Result Answered BookRefusal
full limit = Err (Full limit)

pub answer_of-full : (ledger : Ledger) (request : CcRequest) → IsNew ledger.history (key_of request) → ledger.limit ≤ length ledger.history
    → answer_of ledger request ≡ Err (Full ledger.limit)
unfolding full answered
answer_of-full ledger request new reached =
    answer_of-new ledger request new
    ∙ ap (λ (b : Bool). cond b (full ledger.limit) (answered (reply_to ledger.terms ledger.history request) (length ledger.history) true))
    (full_test ledger.limit (length ledger.history) reached)

pub answer_of-fresh : (ledger : Ledger) (request : CcRequest) (place : ℕ) (reply : CcReply) → IsNew ledger.history (key_of request)
    → place ≡ length ledger.history → place < ledger.limit → reply ≡ reply_to ledger.terms ledger.history request
    → answer_of ledger request ≡ Ok (record { reply = reply; place = place; fresh = true })
unfolding full answered
answer_of-fresh ledger request place reply new at room is =
    let less : length ledger.history < ledger.limit = omega arith in
    answer_of-new ledger request new
    ∙ ap (λ (b : Bool). cond b (full ledger.limit) (answered (reply_to ledger.terms ledger.history request) (length ledger.history) true))
    (room_test ledger.limit (length ledger.history) less)
    ∙ ap (λ (r : CcReply). answered r (length ledger.history) true) (sym is)
    ∙ ap (λ (p : ℕ). answered reply p true) (sym at)

-- ---- the answer to a request with a kept key

abbrev repeat : CcReply → ℕ → Answered
repeat reply place = record { reply = reply; place = place; fresh = false }

by_test : (taken request : CcRequest) (same b : Bool) (place : ℕ) (kept : CcReply) → Decides same (taken ≡ request) → same ≡ b
    → AnswersRepeat taken request place (repeat (cond b kept (code_alone UnableToComply)) place) kept
by_test taken request same b place kept decides e =
    ap (λ (c : Bool). repeat (cond c kept (code_alone UnableToComply)) place)
    (sym e ∙ one_answer same (same_request taken request) (taken ≡ request) decides (same_request-decides taken request))

pub other-answered : (taken request : CcRequest) (same : Bool) (place : ℕ) (reply : CcReply) (kept : Option CcReply)
    → Decides same (taken ≡ request) → same ≡ false → reply ≡ code_alone UnableToComply → IfSome kept (AnswersRepeat taken request place (repeat reply place))
other-answered taken request same place reply None decides e is = tt
other-answered taken request same place reply (Some kept) decides e is =
    ap (λ (r : CcReply). repeat r place) is ∙ by_test taken request same false place kept decides e

held-at : (replies : List (Option CcReply)) (place : ℕ) (found : Option CcReply) → IsSome (slice_index_or replies place None)
    → found ≡ slice_index_or replies place found → found ≡ slice_index_or replies place None
held-at [] place found some e = absurd cc
held-at (first ∷ replies) zero found some e = e
held-at (first ∷ replies) (suc place) found some e = held-at replies place found some e

pub same-answered : (taken request : CcRequest) (same : Bool) (place : ℕ) (replies : List (Option CcReply)) (found : Option CcReply) (kept reply : CcReply)
    → Decides same (taken ≡ request) → same ≡ true → IsSome (slice_index_or replies place None) → found ≡ slice_index_or replies place found
    → found ≡ Some kept → reply ≡ kept → IfSome (slice_index_or replies place None) (AnswersRepeat taken request place (repeat reply place))
same-answered taken request same place replies found kept reply decides e some at is copied =
    subst (λ (o : Option CcReply). IfSome o (AnswersRepeat taken request place (repeat reply place))) (sym is ∙ held-at replies place found some at)
    (ap (λ (r : CcReply). repeat r place) copied ∙ by_test taken request same true place kept decides e)
