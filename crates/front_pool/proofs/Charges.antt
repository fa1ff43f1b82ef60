-- Receipts are charges of a front.
use Rattle.std.proofs.Common.{◌≡◌, ℕ, ◌+◌, ◌<◌, ◌≤◌, zero, suc, add-one, arith, true, Option, Some, None, Ok}
use Rattle.std.proofs.Common.{List, [], ◌∷◌, ◌++◌, length, take, append_assoc, refl, sym, subst, ap, ◌∙◌}
use Rattle.std.specs.Prelude.{slice_get}
use Rattle.std.proofs.lemmas.List.{length-take-le}
use Rattle.dia_base.specs.declared.number.Moment.{Moment}
use Rattle.dia_message.specs.declared.message.Message.{Message}
use Rattle.cc_view.specs.declared.reply.CcReply.{CcReply}
use Rattle.cc_view.specs.declared.request.CcRequest.{CcRequest}
use Rattle.cc_view.specs.Answer.{answer_to}
use Rattle.cc_view.specs.RequestView.{view_under}
use Rattle.cc_book.specs.declared.entry.Entry.{Entry}
use Rattle.cc_book.specs.declared.entry.Entry.TheVariants.{Take}
use Rattle.cc_book.specs.declared.terms.Terms.{Terms}
use Rattle.cc_shared.specs.History.{SharedLedger}
use Rattle.cc_book.specs.AccountMachine.{kept_reply, repeat_reply, reply_to}
use Rattle.cc_book.specs.Duplicate.{key_of}
use Rattle.cc_book.specs.History.{IsLegal}
use Rattle.cc_book.specs.Taking.{Ledger, with_take}
use Rattle.cc_book.proofs.Keys.{kept_reply-of, key-same, keys-apart, repeat_reply-same}
use Rattle.cc_shared.specs.declared.receipt.Receipt.{Receipt}
use Rattle.cc_shared.specs.Receipts.{Fits}
use Rattle.cc_shared.proofs.Truth.{kept_there}
use Rattle.front_core.specs.declared.site.FrontSite.{FrontSite}
use Rattle.front_core.specs.ChargeCases.{IsCharge, repeats, takes}
use Rattle.front_pool.specs.declared.site.PoolSite.{PoolSite}
use Rattle.front_pool.specs.Answering.{Answers, is_too_busy, refuses, serves}
use Rattle.front_pool.specs.Charging.{IsChargedAt, answer_with, as_of, pool_of}

-- what is read in a message that was served is the request of its receipt
view_at :
    (site : PoolSite) (shared : SharedLedger) (message : Message) (answer : Option Message) (given : Option Receipt) (receipt : Receipt)
    → Answers site shared message answer given → given ≡ Some receipt → view_under site.profile message ≡ Ok receipt.request
view_at site shared message answer given receipt (serves a r view told written) e =
    let same : r ≡ receipt = cc in view ∙ ap (λ (x : Receipt). Ok x.request) same
view_at site shared message answer given receipt (refuses a refusal view written) e = let other : ⊥ = cc in absurd other
view_at site shared message answer given receipt (is_too_busy a written) e = let other : ⊥ = cc in absurd other

-- what stands behind an entry of a list
record Around (xs : List Entry) (i : ℕ) (x : Entry) : Type 0 where
  after : List Entry
  is : xs ≡ take i xs ++ x ∷ after
  within : i < length xs
  next : take (suc i) xs ≡ take i xs ++ x ∷ []

around : (xs : List Entry) (i : ℕ) (x : Entry) → slice_get xs i ≡ Some x → Around xs i x
around [] i x e = absurd cc
around (y ∷ ys) zero x e =
    let same : y ≡ x = cc in
    record { after = ys; is = ap (λ (z : Entry). z ∷ ys) same; within = omega arith; next = ap (λ (z : Entry). z ∷ []) same }
around (y ∷ ys) (suc i) x e =
    let rest = around ys i x e in
    let less : i < length ys = rest.within in
    record {
      after = rest.after;
      is = ap (λ (zs : List Entry). y ∷ zs) rest.is;
      within = omega arith;
      next = ap (λ (zs : List Entry). y ∷ zs) rest.next;
    }

-- before a request of a legal history no reply is kept for it
new_there :
    (terms : Terms) (before after : List Entry) (moment : Moment) (request : CcRequest) (kept : Option CcReply)
    → IsLegal terms (before ++ Take moment request ∷ after) → kept_reply terms before request ≡ kept → kept ≡ None
new_there terms before after moment request None legal is = refl
new_there terms before after moment request (Some reply) legal is =
    let e = kept_reply-of terms before request reply is in
    let P : List Entry → Type 0 = λ h. IsLegal terms h in
    let here = Take moment request ∷ after in
    let apart : (e.before ++ Take e.moment e.taken ∷ e.after) ++ here ≡ e.before ++ Take e.moment e.taken ∷ (e.after ++ here) =
    append_assoc e.before (Take e.moment e.taken ∷ e.after) here in
    let whole = subst P (ap (λ (h : List Entry). h ++ Take moment request ∷ after) e.among ∙ apart) legal in
    let parts = (key-same e.taken request).0 e.same in
    let keys : key_of e.taken ≡ key_of request = λ i. record { session = parts.0 i; number = parts.1 i } in
    absurd (keys-apart terms e.before e.after after e.moment moment e.taken request whole keys)

charged :
    (site : FrontSite) (ledger : Ledger) (message : Message) (receipt : Receipt) → IsLegal ledger.terms ledger.history
    → length ledger.history ≤ ledger.limit → view_under site.profile message ≡ Ok receipt.request → (fits : Fits ledger.terms ledger.history receipt)
    → fits.taken ≡ receipt.request → IsChargedAt site ledger message receipt
charged site ledger message receipt legal within view fits same =
    let request = receipt.request in let place = receipt.place in let moment = fits.at.moment in let terms = ledger.terms in
    let at : slice_get ledger.history place ≡ Some (Take moment request) = fits.at.entry ∙ ap (λ (r : CcRequest). Some (Take moment r)) same in
    let a = around ledger.history place (Take moment request) at in
    let before = take place ledger.history in
    let P : List Entry → Type 0 = λ h. IsLegal terms h in
    let new : kept_reply terms before request ≡ None =
    new_there terms before a.after moment request (kept_reply terms before request) (subst P a.is legal) refl in
    let inside = a.within in
    let long : length before ≡ place = length-take-le place ledger.history (omega arith) in
    let room : length before < ledger.limit = omega arith in
    let reply : receipt.reply ≡ reply_to terms before request =
    fits.told.reply ∙ ap (λ (r : CcRequest). repeat_reply terms before r request) same ∙ repeat_reply-same terms before request in
    let expected = answer_to site.name site.realm message request (reply_to terms before request) in
    let done : IsCharge site (as_of ledger place) moment message expected (with_take (as_of ledger place) moment request) =
    takes request view new room in
    let Q : List Entry → Type 0 =
    λ h. IsCharge site (as_of ledger place) moment message expected (record ledger { history = h }) in
    let R : CcReply → Type 0 =
    λ r. IsCharge site (as_of ledger place) moment message (answer_to site.name site.realm message request r) (as_of ledger (place + 1)) in
    let more : take (place + 1) ledger.history ≡ before ++ Take moment request ∷ [] = rw add-one a.next in
    record { moment = moment; at = at; charge = subst R (sym reply) (subst Q (sym more) done) }

pub fresh_is_charged :
    (site : FrontSite) (shared : SharedLedger) (ledger : Ledger) (message : Message) (answer : Option Message) (given : Option Receipt) (receipt : Receipt)
    → IsLegal ledger.terms ledger.history → length ledger.history ≤ ledger.limit → Answers (pool_of site) shared message answer given
    → given ≡ Some receipt → Fits ledger.terms ledger.history receipt → receipt.fresh ≡ true → IsChargedAt site ledger message receipt
fresh_is_charged site shared ledger message answer given receipt legal within answers is fits fresh =
    charged site ledger message receipt legal within (view_at (pool_of site) shared message answer given receipt answers is) fits (fits.told.own fresh)

pub repeat_is_charged :
    (site : FrontSite) (shared : SharedLedger) (ledger : Ledger) (moment : Moment) (message : Message) (answer : Option Message) (given : Option Receipt) (receipt : Receipt)
    → IsLegal ledger.terms ledger.history → Answers (pool_of site) shared message answer given → given ≡ Some receipt
    → Fits ledger.terms ledger.history receipt → IsCharge site ledger moment message (answer_with site message receipt) ledger
repeat_is_charged site shared ledger moment message answer given receipt legal answers is fits =
    let view = view_at (pool_of site) shared message answer given receipt answers is in
    let there = kept_there ledger.terms ledger.history receipt.place fits.at.moment fits.taken receipt.request legal fits.at.entry fits.told.same in
    repeats receipt.request receipt.reply view (there ∙ ap Some (sym fits.told.reply))
