-- What a request does to its session can be done where the sessions are those of a book.
use Rattle.std.proofs.Common.{◌≡◌, ℕ, zero, suc, ◌^◌, ◌<◌, ◌≤◌, Bool, true, false, cond, eqb, List, [], ◌∷◌, ◌++◌, length, All, Option, Some, None, refl, sym, ap, subst, ◌∙◌, arith, length-append, slice_get, slice_set, find, unwrap_or}
use Rattle.std.proofs.Math.Seq.{get_or-append_seam}
use Rattle.std.proofs.lemmas.Option.{slice_get_within}
use Rattle.dia_base.specs.declared.number.Moment.{Moment}
use Rattle.cc_view.specs.declared.request.CcRequest.{CcRequest}
use Rattle.cc_view.specs.declared.request.RequestKind.{RequestKind}
use Rattle.cc_view.specs.declared.request.RequestKind.TheVariants.{Initial, Update, Termination, Event}
use Rattle.cc_book.specs.declared.outcome.Change.{Change}
use Rattle.cc_book.specs.declared.outcome.Change.TheVariants.{Opens, Stays}
use Rattle.cc_book.specs.declared.session.OpenSession.{OpenSession}
use Rattle.cc_book.specs.OpenSessions.{FitsIn, Sessions}
use Rattle.cc_book.specs.Posting.{Posting}
use Rattle.cc_book.specs.Session.{opens}
use Rattle.cc_book.specs.Standing.{after_change, change_at, change_open, held_in, holds_beside, is_session, place_in, prolonged, reserved_in, opened_session}
use Rattle.cc_book.proofs.Sessions.{OwnIds, find-at, is_at_place, open_at_place, same_number}
use Rattle.cc_book.specs.Pricing.{prices_after}

own-held : (session : OpenSession) → cond (eqb session.account session.account) (held_in session.holds) 0 ≡ held_in session.holds
own-held session = ap (λ (b : Bool). cond b (held_in session.holds) 0) (same_number session.account)

held-last : (sessions : List OpenSession) (session : OpenSession) → held_in session.holds ≤ reserved_in session.account (sessions ++ session ∷ [])
held-last [] session = let own = own-held session in omega arith
held-last (x ∷ sessions) session = let more = held-last sessions session in omega arith

held-set : (sessions : List OpenSession) (place : ℕ) (session : OpenSession) → place < length sessions
    → held_in session.holds ≤ reserved_in session.account (slice_set sessions place session)
held-set [] place session lt = absurd (omega arith)
held-set (x ∷ sessions) zero session lt = let own = own-held session in omega arith
held-set (x ∷ sessions) (suc place) session lt = let more = held-set sessions place session (omega arith) in omega arith

last-known : (count : ℕ) (sessions : List OpenSession) (session : OpenSession) → All (λ s. s.account < count) (sessions ++ session ∷ [])
    → session.account < count
last-known count sessions session known =
    let long = length-append sessions (session ∷ []) in
    subst (λ (s : OpenSession). s.account < count) (get_or-append_seam sessions session [] session) (known (length sessions) session (omega arith))

module _ (now : Sessions) (request : CcRequest) (moment : Moment) (posting : Posting) (own : OwnIds now.items) where
  -- where the sessions that a change leaves are small and of known accounts, the change fits
  abbrev pub Fits : Change → Type 0
  Fits change = ((account : ℕ) → reserved_in account (after_change now.items change) ≤ 2 ^ 124)
      → All (λ s. s.account < now.accounts) (after_change now.items change) → FitsIn now request.session change

  closed_by : (b : Bool) (account : ℕ) → place_in now.items request.session ≡ None
      → Fits (cond b (Opens (opened_session request moment posting.tariffs account posting.grants)) Stays)
  closed_by true account is most known =
      let session : OpenSession = opened_session request moment posting.tariffs account posting.grants in
      let last = held-last now.items session in
      let few = most account in
      (refl, is, last-known now.accounts now.items session known, omega arith)
  closed_by false account is most known = tt

  open_by : (place : ℕ) (session : OpenSession) (kind : RequestKind) → slice_get now.items place ≡ Some session
      → Fits (change_open request moment posting kind place session)
  open_by place session Initial there most known =
      let here = held-set now.items place (prolonged session moment session.holds session.prices) (slice_get_within now.items place session there) in
      let few = most session.account in
      (record { before = session; there = there; id = refl; account = refl }, omega arith)
  open_by place session Update there most known =
      let later = prolonged session moment (holds_beside request.services session.holds ++ posting.grants)
      (prices_after posting.tariffs session.prices posting.grants) in
      let here = held-set now.items place later (slice_get_within now.items place session there) in
      let few = most session.account in
      (record { before = session; there = there; id = refl; account = refl }, omega arith)
  open_by place session Termination there most known = slice_get_within now.items place session there
  open_by place session Event there most known = tt

  pub change-fits : Fits (change_at request moment posting (place_in now.items request.session) (find (is_session request.session) now.items))
  change-fits = by (place_in now.items request.session) (find (is_session request.session) now.items) refl refl where
    by : (place : Option ℕ) (found : Option OpenSession) → place_in now.items request.session ≡ place → find (is_session request.session) now.items ≡ found
        → Fits (change_at request moment posting place found)
    by (Some place) found is finds =
        let at = open_at_place request.session now.items place is in
        let met = find-at request.session now.items place at.0 (is_at_place request.session now.items place at.0 is at.1 own) in
        subst (λ (other : Option OpenSession). Fits (change_at request moment posting (Some place) other)) (sym met ∙ finds)
        (open_by place at.0 request.kind at.1)
    by None found is finds = closed_by (opens posting) (unwrap_or posting.account 0) is
