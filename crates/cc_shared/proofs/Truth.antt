-- What the book answers makes a true receipt, and which receipts stand in its history.
use Rattle.std.proofs.Common.{◌≡◌, ℕ, zero, suc, ◌+◌, Bool, true, false, not, List, [], ◌∷◌, ◌++◌, length, take, Option, Some, Ok, Err, inl, inr, refl, sym, subst, ap, ◌∙◌, arith, append_assoc, length-append}
use Rattle.std.specs.Prelude.{◌⊎◌, IsTrue, MatchBool, slice_get, unwrap_or}
use Rattle.std.specs.Bool.{Decides}
use Rattle.std.specs.List.{list_all, IsDistinct, AllByRecursion}
use Rattle.std.proofs.lemmas.Bool.{and_from, cases_lt}
use Rattle.std.proofs.lemmas.List.{length-take-le}
use Rattle.std.proofs.lemmas.List.Elements.{filter_map-append}
use Rattle.std.proofs.lemmas.Option.{slice_get_within}
use Rattle.std.proofs.Math.Seq.{take-append_seam}
use Rattle.dia_base.specs.declared.number.Moment.{Moment}
use Rattle.cc_view.specs.declared.reply.CcReply.{CcReply}
use Rattle.cc_view.specs.declared.request.CcRequest.{CcRequest}
use Rattle.cc_book.specs.declared.book.Answered.{Answered}
use Rattle.cc_book.specs.declared.book.BookRefusal.TheVariants.{Full}
use Rattle.cc_book.specs.declared.entry.Entry.{Entry}
use Rattle.cc_book.specs.declared.entry.Entry.TheVariants.{Take, Sweep, ChangeTerms}
use Rattle.cc_book.specs.declared.terms.Terms.{Terms}
use Rattle.cc_book.specs.AccountMachine.{repeat_reply, reply_to, kept_reply}
use Rattle.cc_book.specs.Duplicate.{Key, has_key, key_of, same_key}
use Rattle.cc_book.specs.History.{IsKeptAt, IsLegal, IsNew, entry_key, keys_of, place_of}
use Rattle.cc_book.specs.Taking.{Ledger, answer_by, answer_of}
use Rattle.cc_book.proofs.Keys.{kept_reply-repeat, key-same, repeat_reply-same}
use Rattle.cc_book.proofs.Replies.{answer_of-fresh, answer_of-full, answer_of-kept}
use Rattle.cc_shared.specs.declared.receipt.Receipt.{Receipt}
use Rattle.cc_shared.specs.Receipts.{Fits, IsEnteredAt, IsReceiptOf, IsTakenAt, IsTrueReceipt, StandsIn, Tells}
use Rattle.cc_shared.specs.declared.logged.Logged.{Logged}
use Rattle.cc_shared.specs.declared.logged.Logged.TheVariants.{Entered}
use Rattle.cc_shared.specs.History.{SharedLedger, book_at}
use Rattle.cc_shared.specs.Serving.{answer_in, log_behind}
use Rattle.cc_shared.proofs.Histories.{book_at-take}

-- ---- the front of a legal history

all_front : (P : Key → Type 0) (xs ys : List Key) → AllByRecursion P (xs ++ ys) → AllByRecursion P xs
all_front P [] ys all = tt
all_front P (x ∷ xs) ys all = (all.0, all_front P xs ys all.1)

distinct_front : (xs ys : List Key) → IsDistinct same_key (xs ++ ys) → IsDistinct same_key xs
unfolding IsDistinct
distinct_front [] ys all = tt
distinct_front (x ∷ xs) ys all = (all_front (λ (k : Key). same_key x k ≡ false) xs ys all.0, distinct_front xs ys all.1)

pub legal_front : (terms : Terms) (before after : List Entry) → IsLegal terms (before ++ after) → IsLegal terms before
legal_front terms before after legal = record {
  distinct = distinct_front (keys_of before) (keys_of after) (subst (λ (keys : List Key). IsDistinct same_key keys) (filter_map-append entry_key before after) legal.distinct);
  sweeps = λ b a m e. legal.sweeps b (a ++ after) m (ap (λ (h : List Entry). h ++ after) e ∙ append_assoc b (Sweep m ∷ a) after);
  changes = λ b a m c e. legal.changes b (a ++ after) m c (ap (λ (h : List Entry). h ++ after) e ∙ append_assoc b (ChangeTerms m c ∷ a) after);
}

-- what stands behind an entry of a list
record Around (xs : List Entry) (i : ℕ) (x : Entry) : Type 0 where
  after : List Entry
  is : xs ≡ take i xs ++ x ∷ after

around : (xs : List Entry) (i : ℕ) (x : Entry) → slice_get xs i ≡ Some x → Around xs i x
around [] i x e = absurd cc
around (y ∷ ys) zero x e = let same : y ≡ x = cc in record { after = ys; is = ap (λ (z : Entry). z ∷ ys) same }
around (y ∷ ys) (suc i) x e = let rest = around ys i x e in record { after = rest.after; is = ap (λ (zs : List Entry). y ∷ zs) rest.is }

legal_take : (terms : Terms) (history : List Entry) (place : ℕ) (entry : Entry) → IsLegal terms history → slice_get history place ≡ Some entry → IsLegal terms (take place history)
legal_take terms history place entry legal at =
    let a = around history place entry at in
    legal_front terms (take place history) (entry ∷ a.after) (subst (λ (h : List Entry). IsLegal terms h) a.is legal)

-- ---- the first take with a key, if there is one

pub record Kept (history : List Entry) (key : Key) : Type 0 where
  pub place : ℕ
  pub taken : CcRequest
  pub at : IsKeptAt history key place taken

kept_next : (entry : Entry) (history : List Entry) (key : Key) → has_key key entry ≡ false → Kept history key → Kept (entry ∷ history) key
kept_next entry history key other kept = record {
  place = suc kept.place;
  taken = kept.taken;
  at = record {
    within = (let w = kept.at.within in omega (arith, w));
    new_before = and_from (not (has_key key entry)) (list_all (λ (e : Entry). not (has_key key e)) (take kept.place history)) (ap not other) kept.at.new_before;
    moment = kept.at.moment;
    entry = kept.at.entry;
    same = kept.at.same;
  };
}

new_next : (entry : Entry) (history : List Entry) (key : Key) → has_key key entry ≡ false → IsNew history key → IsNew (entry ∷ history) key
new_next entry history key other new = and_from (not (has_key key entry)) (list_all (λ (e : Entry). not (has_key key e)) history) (ap not other) new

later : (entry : Entry) (history : List Entry) (key : Key) → has_key key entry ≡ false → IsNew history key ⊎ Kept history key → IsNew (entry ∷ history) key ⊎ Kept (entry ∷ history) key
later entry history key other (inl new) = inl (new_next entry history key other new)
later entry history key other (inr kept) = inr (kept_next entry history key other kept)

here_or_later : (moment : Moment) (request : CcRequest) (history : List Entry) (key : Key) (b : Bool) → same_key (key_of request) key ≡ b → IsNew history key ⊎ Kept history key
    → IsNew (Take moment request ∷ history) key ⊎ Kept (Take moment request ∷ history) key
here_or_later moment request history key true same rest =
    inr (record { place = 0; taken = request; at = record { within = omega arith; new_before = refl; moment = moment; entry = refl; same = same } })
here_or_later moment request history key false same rest = later (Take moment request) history key same rest

new_or_kept : (history : List Entry) (key : Key) → IsNew history key ⊎ Kept history key
new_or_kept [] key = inl refl
new_or_kept (Take moment request ∷ history) key = here_or_later moment request history key (same_key (key_of request) key) refl (new_or_kept history key)
new_or_kept (Sweep moment ∷ history) key = later (Sweep moment) history key refl (new_or_kept history key)
new_or_kept (ChangeTerms moment change ∷ history) key = later (ChangeTerms moment change) history key refl (new_or_kept history key)

-- ---- what the book answers stands in its history

-- A receipt that was made of a book's answer stands in what was seen of the history behind it, and a fresh one's entry is the
-- take of its request at this moment.
pub record IsServed (opened : Ledger) (moment : Moment) (receipt : Receipt) : Type 0 where
  pub stands : StandsIn (book_at opened receipt.seen.log) receipt
  pub entered : receipt.fresh ≡ true → IsEnteredAt opened moment receipt

abbrev answered : CcReply → ℕ → Bool → Answered
answered reply place fresh = record { reply = reply; place = place; fresh = fresh }

same_key-self : (request : CcRequest) → same_key (key_of request) (key_of request) ≡ true
same_key-self request = (key-same request request).1 (refl, refl)

slice_get-seam : {A : Type 0} (xs : List A) (y : A) → slice_get (xs ++ y ∷ []) (length xs) ≡ Some y
slice_get-seam [] y = refl
slice_get-seam (x ∷ xs) y = slice_get-seam xs y

fresh_stands : (opened : Ledger) (before : List Logged) (moment : Moment) (receipt : Receipt)
    → IsLegal opened.terms (book_at opened receipt.seen.log).history
    → answered (reply_to opened.terms (book_at opened before).history receipt.request) (length (book_at opened before).history) true ≡ answer_in receipt
    → receipt.seen.log ≡ log_behind before moment receipt.request receipt.fresh → IsServed opened moment receipt
fresh_stands opened before moment receipt legal same behind =
    let history = (book_at opened before).history in
    let entry = Take moment receipt.request in
    let fresh : receipt.fresh ≡ true = ap (λ (a : Answered). a.fresh) (sym same) in
    let place : receipt.place ≡ length history = ap (λ (a : Answered). a.place) (sym same) in
    let reply : receipt.reply ≡ reply_to opened.terms history receipt.request = ap (λ (a : Answered). a.reply) (sym same) in
    let seen : receipt.seen.log ≡ before ++ Entered entry ∷ [] = behind ∙ ap (λ (b : Bool). log_behind before moment receipt.request b) fresh in
    let whole : (book_at opened receipt.seen.log).history ≡ history ++ entry ∷ [] =
    ap (λ (l : List Logged). (book_at opened l).history) seen ∙ sym (ap (λ (l : Ledger). l.history) (book_at-take opened before moment receipt.request)) in
    let at : slice_get (book_at opened receipt.seen.log).history receipt.place ≡ Some entry =
    ap (λ (h : List Entry). slice_get h receipt.place) whole ∙ ap (λ (n : ℕ). slice_get (history ++ entry ∷ []) n) place ∙ slice_get-seam history entry in
    let front : take receipt.place (book_at opened receipt.seen.log).history ≡ history =
    ap (λ (h : List Entry). take receipt.place h) whole ∙ ap (λ (n : ℕ). take n (history ++ entry ∷ [])) place ∙ take-append_seam history (entry ∷ []) in
    record {
      stands = record {
        legal = legal;
        fits = record {
          taken = receipt.request;
          at = record { moment = moment; entry = at };
          told = record {
            same = same_key-self receipt.request;
            reply = reply ∙ sym (repeat_reply-same opened.terms history receipt.request) ∙ ap (λ (h : List Entry). repeat_reply opened.terms h receipt.request receipt.request) (sym front);
            own = λ _. refl;
          };
        };
        last = λ _. ap length whole ∙ (length-append history (entry ∷ []) ∙ ap (λ (n : ℕ). n + 1) (sym place));
      };
      entered = λ _. at;
    }

kept_stands : (opened : Ledger) (before : List Logged) (moment : Moment) (receipt : Receipt)
    → IsLegal opened.terms (book_at opened receipt.seen.log).history → (kept : Kept (book_at opened before).history (key_of receipt.request))
    → answered (repeat_reply opened.terms (take kept.place (book_at opened before).history) kept.taken receipt.request) kept.place false ≡ answer_in receipt
    → receipt.seen.log ≡ log_behind before moment receipt.request receipt.fresh → IsServed opened moment receipt
kept_stands opened before moment receipt legal kept same behind =
    let history = (book_at opened before).history in
    let repeats : receipt.fresh ≡ false = ap (λ (a : Answered). a.fresh) (sym same) in
    let place : receipt.place ≡ kept.place = ap (λ (a : Answered). a.place) (sym same) in
    let reply : receipt.reply ≡ repeat_reply opened.terms (take kept.place history) kept.taken receipt.request = ap (λ (a : Answered). a.reply) (sym same) in
    let seen : receipt.seen.log ≡ before = behind ∙ ap (λ (b : Bool). log_behind before moment receipt.request b) repeats in
    let whole : (book_at opened receipt.seen.log).history ≡ history = ap (λ (l : List Logged). (book_at opened l).history) seen in
    let front : take receipt.place (book_at opened receipt.seen.log).history ≡ take kept.place history =
    ap (λ (h : List Entry). take receipt.place h) whole ∙ ap (λ (n : ℕ). take n history) place in
    record {
      stands = record {
        legal = legal;
        fits = record {
          taken = kept.taken;
          at = record {
            moment = kept.at.moment;
            entry = ap (λ (h : List Entry). slice_get h receipt.place) whole ∙ ap (λ (n : ℕ). slice_get history n) place ∙ kept.at.entry;
          };
          told = record {
            same = kept.at.same;
            reply = reply ∙ ap (λ (h : List Entry). repeat_reply opened.terms h kept.taken receipt.request) (sym front);
            own = λ fresh. absurd (let no = sym fresh ∙ repeats in cc);
          };
        };
        last = λ fresh. absurd (let no = sym fresh ∙ repeats in cc);
      };
      entered = λ fresh. absurd (let no = sym fresh ∙ repeats in cc);
    }

new_is_served : (opened : Ledger) (before : List Logged) (moment : Moment) (receipt : Receipt)
    → IsLegal opened.terms (book_at opened receipt.seen.log).history → IsNew (book_at opened before).history (key_of receipt.request)
    → answer_of (book_at opened before) receipt.request ≡ Ok (answer_in receipt)
    → receipt.seen.log ≡ log_behind before moment receipt.request receipt.fresh → IsServed opened moment receipt
new_is_served opened before moment receipt legal new is behind = elim (cases_lt (length (book_at opened before).history) opened.limit) as (λ _. IsServed opened moment receipt) [
  | inl room ↦ (let book = book_at opened before in
      let e = answer_of-fresh book receipt.request (length book.history) (reply_to opened.terms book.history receipt.request) new refl room refl in
      let same : answered (reply_to opened.terms book.history receipt.request) (length book.history) true ≡ answer_in receipt = cc in
      fresh_stands opened before moment receipt legal same behind)
  | inr reached ↦ absurd (let e = answer_of-full (book_at opened before) receipt.request new reached in cc)
]

old_is_served : (opened : Ledger) (before : List Logged) (moment : Moment) (receipt : Receipt)
    → IsLegal opened.terms (book_at opened receipt.seen.log).history → Kept (book_at opened before).history (key_of receipt.request)
    → answer_of (book_at opened before) receipt.request ≡ Ok (answer_in receipt)
    → receipt.seen.log ≡ log_behind before moment receipt.request receipt.fresh → IsServed opened moment receipt
old_is_served opened before moment receipt legal kept is behind =
    let book = book_at opened before in
    let reply = repeat_reply opened.terms (take kept.place book.history) kept.taken receipt.request in
    let e = answer_of-kept book receipt.request kept.taken kept.place reply kept.at refl in
    let same : answered reply kept.place false ≡ answer_in receipt = cc in
    kept_stands opened before moment receipt legal kept same behind

-- What an open book has answered stands in what was seen of its history behind that.
pub answer_is_served : (opened : Ledger) (before : List Logged) (moment : Moment) (receipt : Receipt)
    → IsLegal opened.terms (book_at opened receipt.seen.log).history
    → answer_of (book_at opened before) receipt.request ≡ Ok (answer_in receipt)
    → receipt.seen.log ≡ log_behind before moment receipt.request receipt.fresh → IsServed opened moment receipt
answer_is_served opened before moment receipt legal is behind =
    elim (new_or_kept (book_at opened before).history (key_of receipt.request)) as (λ _. IsServed opened moment receipt) [
      | inl new ↦ new_is_served opened before moment receipt legal new is behind
      | inr kept ↦ old_is_served opened before moment receipt legal kept is behind
    ]

-- a receipt that stands in a history is true
pub standing_is_true : (shared : SharedLedger) (receipt : Receipt) → IsReceiptOf shared receipt → IsTrueReceipt shared.opened.terms receipt
standing_is_true shared receipt is =
    let opened = shared.opened in
    let fits = is.stands.fits in
    let history = (book_at opened receipt.seen.log).history in record {
      before = take receipt.place history;
      legal = legal_take opened.terms history receipt.place (Take fits.at.moment fits.taken) is.stands.legal fits.at.entry;
      place = (let within = slice_get_within history receipt.place (Take fits.at.moment fits.taken) fits.at.entry in length-take-le receipt.place history (omega (arith, within)));
      taken = fits.taken;
      told = fits.told;
    }

-- ---- which receipts stand in the history

-- the reply that is kept for a request is by the take with its key
pub kept_there : (terms : Terms) (history : List Entry) (place : ℕ) (moment : Moment) (taken request : CcRequest) → IsLegal terms history → slice_get history place ≡ Some (Take moment taken)
    → IsTrue (same_key (key_of taken) (key_of request)) → kept_reply terms history request ≡ Some (repeat_reply terms (take place history) taken request)
kept_there terms history place moment taken request legal at same =
    let a = around history place (Take moment taken) at in
    ap (λ (h : List Entry). kept_reply terms h request) a.is
    ∙ kept_reply-repeat terms (take place history) a.after moment taken request (subst (λ (h : List Entry). IsLegal terms h) a.is legal) same

-- what a book answers to a request whose reply is kept
pub repeat_is_answered : (ledger : Ledger) (request : CcRequest) (reply : CcReply) (a : Answered) → kept_reply ledger.terms ledger.history request ≡ Some reply → answer_of ledger request ≡ Ok a → a.reply ≡ reply
repeat_is_answered ledger request reply a kept is =
    let e : answer_of ledger request ≡ Ok (answered reply (unwrap_or (place_of ledger.history (key_of request)) 0) false) = ap (λ (r : Option CcReply). answer_by ledger request (unwrap_or (place_of ledger.history (key_of request)) 0) r) kept in
    let same : a ≡ answered reply (unwrap_or (place_of ledger.history (key_of request)) 0) false = cc in
    ap (λ (x : Answered). x.reply) same

pub repeat_is_not_full : (ledger : Ledger) (request : CcRequest) (reply : CcReply) (limit : ℕ) → kept_reply ledger.terms ledger.history request ≡ Some reply → answer_of ledger request ≡ Err (Full limit) → ⊥
repeat_is_not_full ledger request reply limit kept is =
    let e : answer_of ledger request ≡ Ok (answered reply (unwrap_or (place_of ledger.history (key_of request)) 0) false) = ap (λ (r : Option CcReply). answer_by ledger request (unwrap_or (place_of ledger.history (key_of request)) 0) r) kept in
    cc

same_request_at : (history : List Entry) (place : ℕ) (one other : CcRequest) → IsTakenAt history place one → IsTakenAt history place other → one ≡ other
same_request_at history place one other a b =
    let same : Some (Take a.moment one) ≡ Some (Take b.moment other) = sym a.entry ∙ b.entry in
    cc

-- a receipt that stands in a history tells of the take at its place
pub told_at : (terms : Terms) (history : List Entry) (receipt : Receipt) (taken : CcRequest) → IsTakenAt history receipt.place taken → Fits terms history receipt
    → Tells terms (take receipt.place history) taken receipt
told_at terms history receipt taken at fits =
    subst (λ (x : CcRequest). Tells terms (take receipt.place history) x receipt) (same_request_at history receipt.place fits.taken taken fits.at at) fits.told

fits_by : (b : Bool) (P Q : Type 0) → Decides b Q → (Q → P) → (P → Q) → MatchBool b P (P → ⊥)
fits_by true P Q decides to from = to (decides.0 refl)
fits_by false P Q decides to from = λ p. absurd (let e = decides.1 (from p) in cc)

-- Whether a receipt stands in a history is whether its reply is the one that the book has kept, where it may tell of the
-- request at its place.
pub fits_where_same : (book : Ledger) (receipt : Receipt) (taken : CcRequest) (kept : Answered) (same : Bool) → IsLegal book.terms book.history → IsTakenAt book.history receipt.place taken
    → IsTrue (same_key (key_of taken) (key_of receipt.request)) × (receipt.fresh ≡ true → taken ≡ receipt.request) → answer_of book receipt.request ≡ Ok kept → Decides same (receipt.reply ≡ kept.reply)
    → MatchBool same (Fits book.terms book.history receipt) (Fits book.terms book.history receipt → ⊥)
fits_where_same book receipt taken kept same legal at may is decides =
    let reply = repeat_reply book.terms (take receipt.place book.history) taken receipt.request in
    let there = kept_there book.terms book.history receipt.place at.moment taken receipt.request legal at.entry may.0 in
    let answer : kept.reply ≡ reply = repeat_is_answered book receipt.request reply kept there is in
    fits_by same (Fits book.terms book.history receipt) (receipt.reply ≡ kept.reply) decides
    (λ e. record { taken = taken; at = at; told = record { same = may.0; reply = e ∙ answer; own = may.1 } })
    (λ fits. (told_at book.terms book.history receipt taken at fits).reply ∙ sym answer)

pub never_full : (book : Ledger) (receipt : Receipt) (taken : CcRequest) (limit : ℕ) → IsLegal book.terms book.history → IsTakenAt book.history receipt.place taken
    → IsTrue (same_key (key_of taken) (key_of receipt.request)) → answer_of book receipt.request ≡ Err (Full limit) → ⊥
never_full book receipt taken limit legal at same is =
    let there = kept_there book.terms book.history receipt.place at.moment taken receipt.request legal at.entry same in
    repeat_is_not_full book receipt.request (repeat_reply book.terms (take receipt.place book.history) taken receipt.request) limit there is
