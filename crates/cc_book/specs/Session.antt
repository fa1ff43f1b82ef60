-- Sessions: which are open, and until when (RFC 8506, sections 5.1 and 13).
use Rattle.std.specs.Prelude.{ℕ, ◌+◌, ◌*◌, List, [], ◌∷◌, Bool, true, false, ◌&&◌, nat_le, if◌then◌else◌, Option, Some, None, is_some}
use Rattle.std.specs.List.{fold}
use Rattle.std.specs.Option.{option_and_then}
use Rattle.cc_view.specs.declared.code.ResultCode.{ResultCode}
use Rattle.cc_view.specs.declared.code.ResultCode.TheVariants.{Success}
use Rattle.cc_view.specs.declared.reply.CcReply.{CcReply}
use Rattle.cc_view.specs.declared.request.RequestKind.{RequestKind}
use Rattle.cc_view.specs.declared.request.RequestKind.TheVariants.{Initial, Termination, Event}
use Rattle.cc_book.specs.declared.entry.Entry.{Entry}
use Rattle.cc_book.specs.declared.entry.Entry.TheVariants.{Take, Sweep, ChangeTerms}
use Rattle.cc_book.specs.Duplicate.{same_session}
use Rattle.cc_book.specs.Posting.{Posting}

abbrev pub is_success : ResultCode → Bool
is_success Success = true
is_success _ = false

abbrev pub replies_success : Option CcReply → Bool
replies_success None = false
replies_success (Some reply) = is_success reply.code

-- whether a request begins a session
abbrev pub is_initial_kind : RequestKind → Bool
is_initial_kind Initial = true
is_initial_kind _ = false

abbrev pub is_initial : Entry → Bool
is_initial (Take moment request) = is_initial_kind request.kind
is_initial (Sweep moment) = false
is_initial (ChangeTerms moment change) = false

-- whether a posting is a request of this session
abbrev pub is_of : List ℕ → Entry → Bool
is_of session (Take moment request) = same_session request.session session
is_of session (Sweep moment) = false
is_of session (ChangeTerms moment change) = false

-- the Session-Id of an entry's request
abbrev pub session_in : Entry → List ℕ
session_in (Take moment request) = request.session
session_in (Sweep moment) = []
session_in (ChangeTerms moment change) = []

-- whether a posting opens its session: an INITIAL that is settled and answered 2001
abbrev pub opens : Posting → Bool
opens posting = posting.settles && (is_initial posting.entry && replies_success posting.reply)

-- a session ends by itself twice the validity, in milliseconds, after its last request
abbrev pub deadline_at : ℕ → ℕ → ℕ
deadline_at validity moment = moment + 2000 * validity

-- an open session: the account of the request that opened it, and when it ends by itself
pub record Opened : Type 0 where
  pub account : Option ℕ
  pub deadline : ℕ

-- a session that is open from a request at a moment on
abbrev pub opened_at : ℕ → Option ℕ → ℕ → Opened
opened_at validity account moment = record { account = account; deadline = deadline_at validity moment }

-- an open session after a request of that session: TERMINATION ends it, and all but EVENT prolong it
abbrev pub session_by : ℕ → Opened → ℕ → RequestKind → Option Opened
session_by validity opened moment Termination = None
session_by validity opened moment Event = Some opened
session_by validity opened moment _ = Some (opened_at validity opened.account moment)

-- an open session after an entry, none where that ended it
abbrev pub session_after : ℕ → List ℕ → Opened → Entry → Option Opened
session_after validity session opened (Take moment request) =
    if same_session request.session session then session_by validity opened moment.0 request.kind else Some opened
session_after validity session opened (Sweep moment) = if nat_le opened.deadline moment.0 then None else Some opened
session_after validity session opened (ChangeTerms moment change) = Some opened

abbrev pub moment_of : Entry → ℕ
moment_of (Take moment request) = moment.0
moment_of (Sweep moment) = moment.0
moment_of (ChangeTerms moment change) = moment.0

-- a session after one more posting: one that has ended does not come back
abbrev pub left_after : ℕ → List ℕ → Option Opened → Posting → Option Opened
left_after validity session opened posting = option_and_then (λ now. session_after validity session now posting.entry) opened

-- a session after one more posting, which may open it
abbrev pub next_session : ℕ → List ℕ → Option Opened → Posting → Option Opened
next_session validity session opened posting =
    if opens posting && is_of session posting.entry then Some (opened_at validity posting.account (moment_of posting.entry))
    else left_after validity session opened posting

-- a session after postings, none where it is not open
abbrev pub session_of : ℕ → List ℕ → List Posting → Option Opened
session_of validity session postings = fold (next_session validity session) None postings

abbrev pub is_open : ℕ → List ℕ → List Posting → Bool
is_open validity session postings = is_some (session_of validity session postings)

-- Whether the session that an entry opened, or kept open, is still open after these postings. Which account it
-- charges does not matter for that.
abbrev pub outlasts : ℕ → Entry → List Posting → Bool
outlasts validity (Take moment request) after = is_some (fold (left_after validity request.session) (Some (opened_at validity None moment.0)) after)
outlasts validity (Sweep moment) after = false
outlasts validity (ChangeTerms moment change) after = false

-- how many sessions are open: each was opened by a posting after which none ended it
abbrev pub open_count : ℕ → List Posting → ℕ
open_count validity [] = 0
open_count validity (posting ∷ after) = (if opens posting && outlasts validity posting.entry after then 1 else 0) + open_count validity after
