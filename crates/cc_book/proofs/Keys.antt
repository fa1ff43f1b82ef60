-- Requests with a key, and the replies that are kept for them.
use Rattle.std.proofs.Common.{◌≡◌, ◌≢◌, ℕ, zero, suc, ◌+◌, ◌<◌, Bool, true, false, cond, not, ◌&&◌, eqb, ltb, List, [], ◌∷◌, ◌++◌, length, take, Option, Some, None, inl, inr, refl, sym, subst, ap, ◌∙◌, arith, rules, append_assoc}
use Rattle.std.specs.Prelude.{◌⊎◌, ◌↔◌, slice_get}
use Rattle.std.specs.List.{position_or_len, list_all, IsDistinct, AllByRecursion}
use Rattle.std.proofs.lemmas.List.{append-nil}
use Rattle.dia_base.specs.declared.number.Moment.{Moment}
use Rattle.cc_view.specs.declared.code.ResultCode.TheVariants.{UnableToComply}
use Rattle.cc_view.specs.declared.reply.CcReply.{CcReply}
use Rattle.cc_view.specs.declared.request.CcRequest.{CcRequest}
use Rattle.cc_book.specs.declared.entry.Entry.{Entry}
use Rattle.cc_book.specs.declared.entry.Entry.TheVariants.{Take, Sweep, ChangeTerms}
use Rattle.cc_book.specs.declared.terms.Terms.{Terms}
use Rattle.cc_book.specs.declared.terms_change.TermsChange.{TermsChange}
use Rattle.cc_book.specs.AccountMachine.{code_alone, reply_to, reply_at, repeat_reply, kept_from, kept_reply, terms_of}
use Rattle.cc_book.specs.Duplicate.{Key, key_of, same_session, same_key, has_key}
use Rattle.cc_book.specs.History.{entry_key, keys_of, ended_sessions, IsLegal, place_of, IsNew, IsKeptAt}
use Rattle.cc_book.specs.Laws.{RepliesToEntry}
use Rattle.cc_book.specs.TermsChange.{fault_of_change}
use Rattle.std.proofs.lemmas.Bool.{and_from, and_parts}
use Rattle.cc_book.proofs.SameRequests.{same_request-other, same_request-self}
use Rattle.cc_book.proofs.Sessions.{equal_number, same_number, same_session-equal, same_session-met, same_session-self}

not_true : (b : Bool) → not b ≡ true → b ≡ false
not_true true e = absurd cc
not_true false e = refl

-- ---- a kept request

kept_here : (terms : Terms) (before after : List Entry) (request : CcRequest) (entry : Entry) (moment : Moment) (taken : CcRequest)
    → Some entry ≡ Some (Take moment taken) → same_key (key_of taken) (key_of request) ≡ true
    → kept_from terms before (entry ∷ after) request ≡ Some (repeat_reply terms (before ++ []) taken request)
kept_here terms before after request entry moment taken is same =
    let entered : entry ≡ Take moment taken = cc in
    subst (λ (e : Entry). kept_from terms before (e ∷ after) request ≡ Some (repeat_reply terms (before ++ []) taken request)) (sym entered)
    (ap (λ (b : Bool). cond b (Some (repeat_reply terms before taken request)) (kept_from terms (before ++ Take moment taken ∷ []) after request)) same
    ∙ ap (λ (h : List Entry). Some (repeat_reply terms h taken request)) (sym (append-nil before)))

kept_later : (terms : Terms) (before after : List Entry) (request : CcRequest) (entry : Entry) → has_key (key_of request) entry ≡ false
    → kept_from terms before (entry ∷ after) request ≡ kept_from terms (before ++ entry ∷ []) after request
kept_later terms before after request entry other =
    ap (λ (b : Bool). cond b (reply_at terms before request entry) (kept_from terms (before ++ entry ∷ []) after request)) other

kept_from-at : (terms : Terms) (before history : List Entry) (request : CcRequest) (place : ℕ) (moment : Moment) (taken : CcRequest)
    → IsNew (take place history) (key_of request) → slice_get history place ≡ Some (Take moment taken) → same_key (key_of taken) (key_of request) ≡ true
    → kept_from terms before history request ≡ Some (repeat_reply terms (before ++ take place history) taken request)
kept_from-at terms before [] request place moment taken new is same = absurd cc
kept_from-at terms before (entry ∷ after) request zero moment taken new is same = kept_here terms before after request entry moment taken is same
kept_from-at terms before (entry ∷ after) request (suc place) moment taken new is same =
    let parts =
    and_parts (not (has_key (key_of request) entry)) (list_all (λ (e : Entry). not (has_key (key_of request) e)) (take place after)) new in
    kept_later terms before after request entry (not_true (has_key (key_of request) entry) parts.0)
    ∙ kept_from-at terms (before ++ entry ∷ []) after request place moment taken parts.1 is same
    ∙ ap (λ (h : List Entry). Some (repeat_reply terms h taken request)) (append_assoc before (entry ∷ []) (take place after))

pub kept_reply-at : (terms : Terms) (history : List Entry) (request : CcRequest) (place : ℕ) (taken : CcRequest)
    → IsKeptAt history (key_of request) place taken → kept_reply terms history request ≡ Some (repeat_reply terms (take place history) taken request)
unfolding kept_reply
kept_reply-at terms history request place taken kept =
    kept_from-at terms [] history request place kept.moment taken kept.new_before kept.entry kept.same

kept_from-new : (terms : Terms) (before history : List Entry) (request : CcRequest) → IsNew history (key_of request)
    → kept_from terms before history request ≡ None
kept_from-new terms before [] request new = refl
kept_from-new terms before (entry ∷ after) request new =
    let parts = and_parts (not (has_key (key_of request) entry)) (list_all (λ (e : Entry). not (has_key (key_of request) e)) after) new in
    kept_later terms before after request entry (not_true (has_key (key_of request) entry) parts.0)
    ∙ kept_from-new terms (before ++ entry ∷ []) after request parts.1

pub kept_reply-new : (terms : Terms) (history : List Entry) (request : CcRequest) → IsNew history (key_of request) → kept_reply terms history request ≡ None
unfolding kept_reply
kept_reply-new terms history request new = kept_from-new terms [] history request new

-- no reply is kept
new_by : (b : Bool) (entry : Option CcReply) (more : Bool) (later : Option CcReply) → (b ≡ true → entry ≢ None) → (later ≡ None → more ≡ true)
    → cond b entry later ≡ None → (not b && more) ≡ true
new_by true entry more later some next e = absurd (some refl e)
new_by false entry more later some next e = next e

takes_reply : (terms : Terms) (before : List Entry) (request : CcRequest) (entry : Entry) → has_key (key_of request) entry ≡ true
    → reply_at terms before request entry ≢ None
takes_reply terms before request (Take moment taken) has e = absurd cc
takes_reply terms before request (Sweep moment) has e = absurd cc
takes_reply terms before request (ChangeTerms moment change) has e = absurd cc

new_from : (terms : Terms) (before history : List Entry) (request : CcRequest) → kept_from terms before history request ≡ None → IsNew history (key_of request)
new_from terms before [] request e = refl
new_from terms before (entry ∷ after) request e =
    new_by (has_key (key_of request) entry) (reply_at terms before request entry) (list_all (λ (other : Entry). not (has_key (key_of request) other)) after)
    (kept_from terms (before ++ entry ∷ []) after request)
    (takes_reply terms before request entry) (new_from terms (before ++ entry ∷ []) after request) e

pub new-without_reply : (terms : Terms) (history : List Entry) (request : CcRequest) → kept_reply terms history request ≡ None → IsNew history (key_of request)
unfolding kept_reply
new-without_reply terms history request e = new_from terms [] history request e

-- ---- a kept reply is that to an entry

of_here : (terms : Terms) (before after : List Entry) (request : CcRequest) (entry : Entry) (reply : CcReply) → has_key (key_of request) entry ≡ true
    → reply_at terms before request entry ≡ Some reply
    → RepliesToEntry terms (before ++ entry ∷ after) request reply
of_here terms before after request (Take moment taken) reply same e =
    record { before = before; moment = moment; taken = taken; after = after; among = refl; same = same; is_reply = cc }
of_here terms before after request (Sweep moment) reply same e = absurd cc
of_here terms before after request (ChangeTerms moment change) reply same e = absurd cc

of_by : (terms : Terms) (before after : List Entry) (request : CcRequest) (entry : Entry) (reply : CcReply) (b : Bool) → has_key (key_of request) entry ≡ b
    → (kept_from terms (before ++ entry ∷ []) after request ≡ Some reply → RepliesToEntry terms (before ++ entry ∷ after) request reply)
    → cond b (reply_at terms before request entry) (kept_from terms (before ++ entry ∷ []) after request) ≡ Some reply
    → RepliesToEntry terms (before ++ entry ∷ after) request reply
of_by terms before after request entry reply true has later e = of_here terms before after request entry reply has e
of_by terms before after request entry reply false has later e = later e

kept_from-of : (terms : Terms) (before history : List Entry) (request : CcRequest) (reply : CcReply)
    → kept_from terms before history request ≡ Some reply → RepliesToEntry terms (before ++ history) request reply
kept_from-of terms before [] request reply e = absurd cc
kept_from-of terms before (entry ∷ after) request reply e =
    of_by terms before after request entry reply (has_key (key_of request) entry) refl
    (λ later. subst (λ (h : List Entry). RepliesToEntry terms h request reply) (append_assoc before (entry ∷ []) after)
    (kept_from-of terms (before ++ entry ∷ []) after request reply later)) e

pub kept_reply-of : (terms : Terms) (history : List Entry) (request : CcRequest) (reply : CcReply) → kept_reply terms history request ≡ Some reply
    → RepliesToEntry terms history request reply
unfolding kept_reply
kept_reply-of terms history request reply e = kept_from-of terms [] history request reply e

-- ---- its place

has_key-taken : (key : Key) (entry : Entry) (moment : Moment) (request : CcRequest) → Some entry ≡ Some (Take moment request)
    → same_key (key_of request) key ≡ true → has_key key entry ≡ true
has_key-taken key entry moment request is same = let taken : entry ≡ Take moment request = cc in ap (has_key key) taken ∙ same

position-at : (history : List Entry) (key : Key) (place : ℕ) (moment : Moment) (request : CcRequest) → IsNew (take place history) key
    → slice_get history place ≡ Some (Take moment request) → same_key (key_of request) key ≡ true
    → position_or_len (has_key key) history ≡ place
position-at [] key place moment request new is same = absurd cc
position-at (entry ∷ after) key zero moment request new is same =
    ap (λ (b : Bool). cond {A = ℕ} (not b) (1 + position_or_len (has_key key) after) 0) (has_key-taken key entry moment request is same)
position-at (entry ∷ after) key (suc place) moment request new is same =
    let parts = and_parts (not (has_key key entry)) (list_all (λ (e : Entry). not (has_key key e)) (take place after)) new in
    let more = position-at after key place moment request parts.1 is same in
    let first : position_or_len (has_key key) (entry ∷ after) ≡ 1 + position_or_len (has_key key) after =
    ap (λ (b : Bool). cond {A = ℕ} (not b) (1 + position_or_len (has_key key) after) 0) (not_true (has_key key entry) parts.0) in
    omega arith

within : (place len : ℕ) → place < len → cond (ltb place len) (Some place) None ≡ Some place
within place len lt = search rules

pub place_of-at : (history : List Entry) (key : Key) (place : ℕ) (request : CcRequest) → IsKeptAt history key place request → place_of history key ≡ Some place
place_of-at history key place request kept =
    let at = position-at history key place kept.moment request kept.new_before kept.entry kept.same in
    ap (λ (n : ℕ). cond (ltb n (length history)) (Some n) None) at ∙ within place (length history) kept.within

-- ---- distinct keys

others_push : (key : Key) (history : List Entry) (moment : Moment) (request : CcRequest)
    → AllByRecursion (λ (k : Key). same_key key k ≡ false) (keys_of history) → same_key key (key_of request) ≡ false
    → AllByRecursion (λ (k : Key). same_key key k ≡ false) (keys_of (history ++ Take moment request ∷ []))
others_push key [] moment request all other = (other, tt)
others_push key (Take m r ∷ history) moment request all other = (all.0, others_push key history moment request all.1 other)
others_push key (Sweep m ∷ history) moment request all other = others_push key history moment request all other
others_push key (ChangeTerms m change ∷ history) moment request all other = others_push key history moment request all other

distinct_push : (history : List Entry) (moment : Moment) (request : CcRequest) → IsDistinct same_key (keys_of history) → IsNew history (key_of request)
    → IsDistinct same_key (keys_of (history ++ Take moment request ∷ []))
unfolding IsDistinct
distinct_push [] moment request all new = (tt, tt)
distinct_push (Take m r ∷ history) moment request all new =
    let parts = and_parts (not (same_key (key_of r) (key_of request))) (list_all (λ (e : Entry). not (has_key (key_of request) e)) history) new in (
      others_push (key_of r) history moment request all.0 (not_true (same_key (key_of r) (key_of request)) parts.0),
      distinct_push history moment request all.1
          parts.1,
    )
distinct_push (Sweep m ∷ history) moment request all new = distinct_push history moment request all new
distinct_push (ChangeTerms m change ∷ history) moment request all new = distinct_push history moment request all new

-- an entry without a key adds none
distinct_keyless : (history : List Entry) (last : Entry) → entry_key last ≡ None → keys_of (history ++ last ∷ []) ≡ keys_of history
distinct_keyless [] (Take m r) none = absurd cc
distinct_keyless [] (Sweep m) none = refl
distinct_keyless [] (ChangeTerms m change) none = refl
distinct_keyless (Take m r ∷ history) last none = ap (λ (keys : List Key). key_of r ∷ keys) (distinct_keyless history last none)
distinct_keyless (Sweep m ∷ history) last none = distinct_keyless history last none
distinct_keyless (ChangeTerms m change ∷ history) last none = distinct_keyless history last none

-- ---- one more entry

not_empty : (before after : List Entry) (entry : Entry) → before ++ entry ∷ after ≡ [] → ⊥
not_empty [] after entry e = cc
not_empty (b ∷ before) after entry e = cc

head_same : (a b : Entry) (xs ys : List Entry) → a ∷ xs ≡ b ∷ ys → a ≡ b
head_same a b xs ys e = cc

tail_same : (a b : Entry) (xs ys : List Entry) → a ∷ xs ≡ b ∷ ys → xs ≡ ys
tail_same a b xs ys e = cc

-- an entry of a list that grew by one is that one, with the list before it, or one of the list
among_push : (history before after : List Entry) (last entry : Entry) → history ++ last ∷ [] ≡ before ++ entry ∷ after
    → ((last ≡ entry) × (before ≡ history)) ⊎ ((rest : List Entry) × (history ≡ before ++ entry ∷ rest))
among_push [] [] after last entry e = inl (head_same last entry [] after e, refl)
among_push [] (b ∷ before) after last entry e = absurd (not_empty before after entry (sym (tail_same last b [] (before ++ entry ∷ after) e)))
among_push (h ∷ history) [] after last entry e = inr (history, ap (λ (x : Entry). x ∷ history) (head_same h entry (history ++ last ∷ []) after e))
among_push (h ∷ history) (b ∷ before) after last entry e =
    let first = head_same h b (history ++ last ∷ []) (before ++ entry ∷ after) e in
    elim (among_push history before after last entry (tail_same h b (history ++ last ∷ []) (before ++ entry ∷ after) e)) as (λ _.
    ((last ≡ entry) × (b ∷ before ≡ h ∷ history)) ⊎ ((rest : List Entry) × (h ∷ history ≡ (b ∷ before) ++ entry ∷ rest))) [
      | inl p ↦ inl (p.0, cc)
      | inr p ↦ inr (p.0, cc)
    ]

-- a legal history stays legal with an entry that could be made
legal_push : (terms : Terms) (history : List Entry) (last : Entry) → IsLegal terms history → IsDistinct same_key (keys_of (history ++ last ∷ []))
    → ((moment : Moment) → last ≡ Sweep moment → 0 < ended_sessions terms history moment)
    → ((moment : Moment) (change : TermsChange) → last ≡ ChangeTerms moment change → fault_of_change (terms_of terms history) change ≡ None)
    → IsLegal terms (history ++ last ∷ [])
legal_push terms history last legal distinct ends sound = record {
  distinct = distinct;
  sweeps = λ before after m e. elim (among_push history before after last (Sweep m) e) as (λ _. 0 < ended_sessions terms before m) [
    | inl p ↦ subst (λ (h : List Entry). 0 < ended_sessions terms h m) (sym p.1) (ends m p.0)
    | inr p ↦ legal.sweeps before p.0 m p.1
  ];
  changes = λ before after m change e. elim (among_push history before after last (ChangeTerms m change) e) as (λ _.
      fault_of_change (terms_of terms before) change ≡ None) [
        | inl p ↦ subst (λ (h : List Entry). fault_of_change (terms_of terms h) change ≡ None) (sym p.1) (sound m change p.0)
        | inr p ↦ legal.changes before p.0 m change p.1
      ];
}

pub IsLegal-push : (terms : Terms) (history : List Entry) (moment : Moment) (request : CcRequest) → IsLegal terms history → IsNew history (key_of request)
    → IsLegal terms (history ++ Take moment request ∷ [])
IsLegal-push terms history moment request legal new =
    legal_push terms history (Take moment request) legal (distinct_push history moment request legal.distinct new)
    (λ m is. absurd cc) (λ m change is. absurd cc)

same_moment : (m n : Moment) → Sweep m ≡ Sweep n → m ≡ n
same_moment m n e = cc

pub IsLegal-sweep : (terms : Terms) (history : List Entry) (moment : Moment) → IsLegal terms history → 0 < ended_sessions terms history moment
    → IsLegal terms (history ++ Sweep moment ∷ [])
IsLegal-sweep terms history moment legal ends =
    legal_push terms history (Sweep moment) legal
    (subst (λ (keys : List Key). IsDistinct same_key keys) (sym (distinct_keyless history (Sweep moment) refl)) legal.distinct)
    (λ m is. subst (λ (n : Moment). 0 < ended_sessions terms history n) (same_moment moment m is) ends) (λ m change is. absurd cc)

same_change : (m n : Moment) (one other : TermsChange) → ChangeTerms m one ≡ ChangeTerms n other → one ≡ other
same_change m n one other e = cc

pub IsLegal-change : (terms : Terms) (history : List Entry) (moment : Moment) (change : TermsChange) → IsLegal terms history
    → fault_of_change (terms_of terms history) change ≡ None → IsLegal terms (history ++ ChangeTerms moment change ∷ [])
IsLegal-change terms history moment change legal sound =
    legal_push terms history (ChangeTerms moment change) legal
    (subst (λ (keys : List Key). IsDistinct same_key keys) (sym (distinct_keyless history (ChangeTerms moment change) refl)) legal.distinct)
    (λ m is. absurd cc)
    (λ m other is. subst (λ (c : TermsChange). fault_of_change (terms_of terms history) c ≡ None) (same_change moment m change other is) sound)

pub IsLegal-empty : (terms : Terms) → IsLegal terms []
unfolding IsDistinct
IsLegal-empty terms = record {
  distinct = tt;
  sweeps = λ before after moment e. absurd (not_empty before after (Sweep moment) (sym e));
  changes = λ before after moment change e. absurd (not_empty before after (ChangeTerms moment change) (sym e));
}

-- ---- laws

same_key-self : (key : Key) → same_key key key ≡ true
same_key-self key = and_from (eqb key.number key.number) (same_session key.session key.session) (same_number key.number) (same_session-self key.session)

-- two requests have one key exactly where both parts of it are equal
pub key-same : (one other : CcRequest) → (same_key (key_of one) (key_of other) ≡ true) ↔ ((one.session ≡ other.session) × (one.number ≡ other.number))
key-same one other = (parts, met) where
  parts : same_key (key_of one) (key_of other) ≡ true → (one.session ≡ other.session) × (one.number ≡ other.number)
  parts e =
      let both = and_parts (eqb one.number other.number) (same_session one.session other.session) e in
      (same_session-equal one.session other.session both.1, equal_number one.number other.number both.0)

  met : (one.session ≡ other.session) × (one.number ≡ other.number) → same_key (key_of one) (key_of other) ≡ true
  met e =
      and_from (eqb one.number other.number) (same_session one.session other.session)
      (subst (λ (n : ℕ). eqb one.number n ≡ true) e.1 (same_number one.number)) (same_session-met one.session other.session e.0)

kept_stays_by : (b : Bool) (here later grown : Option CcReply) (reply : CcReply) → (later ≡ Some reply → grown ≡ Some reply) → cond b here later ≡ Some reply
    → cond b here grown ≡ Some reply
kept_stays_by true here later grown reply more e = e
kept_stays_by false here later grown reply more e = more e

kept_from-stays : (terms : Terms) (before history more : List Entry) (request : CcRequest) (reply : CcReply)
    → kept_from terms before history request ≡ Some reply → kept_from terms before (history ++ more) request ≡ Some reply
kept_from-stays terms before [] more request reply e = absurd cc
kept_from-stays terms before (entry ∷ after) more request reply e =
    kept_stays_by (has_key (key_of request) entry) (reply_at terms before request entry) (kept_from terms (before ++ entry ∷ []) after request)
    (kept_from terms (before ++ entry ∷ []) (after ++ more) request) reply
    (kept_from-stays terms (before ++ entry ∷ []) after more request reply) e

pub kept_reply-stays : (terms : Terms) (history more : List Entry) (request : CcRequest) (reply : CcReply) → kept_reply terms history request ≡ Some reply
    → kept_reply terms (history ++ more) request ≡ Some reply
unfolding kept_reply
kept_reply-stays terms history more request reply e = kept_from-stays terms [] history more request reply e

-- a key that no later request has
others_at : (key : Key) (history after : List Entry) (moment : Moment) (request : CcRequest)
    → AllByRecursion (λ (k : Key). same_key key k ≡ false) (keys_of (history ++ Take moment request ∷ after)) → same_key key (key_of request) ≡ false
others_at key [] after moment request all = all.0
others_at key (Take m r ∷ history) after moment request all = others_at key history after moment request all.1
others_at key (Sweep m ∷ history) after moment request all = others_at key history after moment request all
others_at key (ChangeTerms m change ∷ history) after moment request all = others_at key history after moment request all

pub keys-distinct : (before between after : List Entry) (m n : Moment) (one other : CcRequest)
    → IsDistinct same_key (keys_of (before ++ Take m one ∷ (between ++ Take n other ∷ after))) → same_key (key_of one) (key_of other) ≡ false
unfolding IsDistinct
keys-distinct [] between after m n one other all = others_at (key_of one) between after n other all.0
keys-distinct (Take l r ∷ before) between after m n one other all = keys-distinct before between after m n one other all.1
keys-distinct (Sweep l ∷ before) between after m n one other all = keys-distinct before between after m n one other all
keys-distinct (ChangeTerms l change ∷ before) between after m n one other all = keys-distinct before between after m n one other all

pub keys-apart : (terms : Terms) (before between after : List Entry) (m n : Moment) (one other : CcRequest)
    → IsLegal terms (before ++ Take m one ∷ (between ++ Take n other ∷ after)) → key_of one ≢ key_of other
keys-apart terms before between after m n one other legal same =
    let apart = keys-distinct before between after m n one other legal.distinct in
    let met : same_key (key_of one) (key_of other) ≡ true = subst (λ (k : Key). same_key (key_of one) k ≡ true) same (same_key-self (key_of one)) in
    cc

not_false : (b : Bool) → b ≡ false → not b ≡ true
not_false b e = ap not e

new_before : (before after : List Entry) (moment : Moment) (request : CcRequest) → IsDistinct same_key (keys_of (before ++ Take moment request ∷ after))
    → IsNew before (key_of request)
unfolding IsDistinct
new_before [] after moment request all = refl
new_before (Take m r ∷ before) after moment request all =
    and_from (not (same_key (key_of r) (key_of request))) (list_all (λ (e : Entry). not (has_key (key_of request) e)) before)
    (not_false (same_key (key_of r) (key_of request)) (others_at (key_of r) before after moment request all.0)) (new_before before after moment request all.1)
new_before (Sweep m ∷ before) after moment request all = new_before before after moment request all
new_before (ChangeTerms m change ∷ before) after moment request all = new_before before after moment request all

get_behind : (before after : List Entry) (entry : Entry) → slice_get (before ++ entry ∷ after) (length before) ≡ Some entry
get_behind [] after entry = refl
get_behind (b ∷ before) after entry = get_behind before after entry

take_front : (before after : List Entry) → take (length before) (before ++ after) ≡ before
take_front [] after = refl
take_front (b ∷ before) after = ap (λ (xs : List Entry). b ∷ xs) (take_front before after)

key-new_before : (key : Key) (before : List Entry) (request : CcRequest) → same_key (key_of request) key ≡ true
    → IsNew before (key_of request) → IsNew before key
key-new_before key before request same new =
    let parts = and_parts (eqb request.number key.number) (same_session request.session key.session) same in
    let number : request.number ≡ key.number = equal_number request.number key.number parts.0 in
    let session : request.session ≡ key.session = same_session-equal request.session key.session parts.1 in
    let is : key_of request ≡ key = λ i. record { session = session i; number = number i } in
    subst (IsNew before) is new

-- a repeat of a request that was taken, whatever else it asks
pub kept_reply-repeat : (terms : Terms) (before after : List Entry) (moment : Moment) (taken request : CcRequest)
    → IsLegal terms (before ++ Take moment taken ∷ after) → same_key (key_of taken) (key_of request) ≡ true
    → kept_reply terms (before ++ Take moment taken ∷ after) request ≡ Some (repeat_reply terms before taken request)
unfolding kept_reply
kept_reply-repeat terms before after moment taken request legal same =
    let front = take_front before (Take moment taken ∷ after) in
    let new : IsNew (take (length before) (before ++ Take moment taken ∷ after)) (key_of request) =
    subst (λ (h : List Entry). IsNew h (key_of request)) (sym front)
    (key-new_before (key_of request) before taken same (new_before before after moment taken legal.distinct)) in
    kept_from-at terms [] (before ++ Take moment taken ∷ after) request (length before) moment taken new
    (get_behind before after (Take moment taken)) same
    ∙ ap (λ (h : List Entry). Some (repeat_reply terms h taken request)) front

-- the very request, and another content
pub repeat_reply-same : (terms : Terms) (before : List Entry) (request : CcRequest) → repeat_reply terms before request request ≡ reply_to terms before request
repeat_reply-same terms before request =
    ap (λ (b : Bool). cond b (reply_to terms before request) (code_alone UnableToComply)) (same_request-self request)

pub repeat_reply-other : (terms : Terms) (before : List Entry) (taken request : CcRequest) → taken ≢ request
    → repeat_reply terms before taken request ≡ code_alone UnableToComply
repeat_reply-other terms before taken request other =
    ap (λ (b : Bool). cond b (reply_to terms before taken) (code_alone UnableToComply)) (same_request-other taken request other)

pub kept_reply-first : (terms : Terms) (before after : List Entry) (moment : Moment) (request : CcRequest)
    → IsLegal terms (before ++ Take moment request ∷ after)
    → kept_reply terms (before ++ Take moment request ∷ after) request ≡ Some (reply_to terms before request)
kept_reply-first terms before after moment request legal =
    kept_reply-repeat terms before after moment request request legal (same_key-self (key_of request))
    ∙ ap (λ (r : CcReply). Some r) (repeat_reply-same terms before request)
