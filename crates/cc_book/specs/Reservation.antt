-- Reservations: what the grants of sessions hold of an account (RFC 8506, section 5.2).
use Rattle.std.specs.Prelude.{ℕ, ◌+◌, List, [], ◌∷◌, Bool, false, ◌&&◌, ◌==◌, not, if◌then◌else◌}
use Rattle.std.specs.List.{list_any, sum_by}
use Rattle.std.specs.Option.{option_eq}
use Rattle.cc_view.specs.declared.request.Service.{Service}
use Rattle.cc_view.specs.declared.request.ServiceName.{ServiceName}
use Rattle.cc_book.specs.declared.session.Hold.{Hold}
use Rattle.cc_book.specs.declared.entry.Entry.{Entry}
use Rattle.cc_book.specs.declared.entry.Entry.TheVariants.{Take, Sweep, ChangeTerms}
use Rattle.cc_book.specs.Posting.{Posting, is_account}
use Rattle.cc_book.specs.Session.{is_of, outlasts}

abbrev pub same_name : ServiceName → ServiceName → Bool
same_name one other = option_eq ◌==◌ one.group other.group && option_eq ◌==◌ one.ident other.ident

-- whether a service has this name
abbrev pub has_name : ServiceName → Service → Bool
has_name name service = option_eq ◌==◌ name.group service.group && option_eq ◌==◌ name.ident service.ident

abbrev pub names : ServiceName → Entry → Bool
names name (Take moment request) = list_any (has_name name) request.services
names name (Sweep moment) = false
names name (ChangeTerms moment change) = false

-- whether a posting settles a service of this session, which ends the service's earlier grant
abbrev pub replaces : List ℕ → ServiceName → Posting → Bool
replaces session name posting = posting.settles && (is_of session posting.entry && names name posting.entry)

-- whether a grant of an entry is alive after these postings: its session lasts, and none settles its service again
abbrev pub is_alive : ℕ → Entry → ServiceName → List Posting → Bool
is_alive validity (Take moment request) name after =
    not (list_any (replaces request.session name) after) && outlasts validity (Take moment request) after
is_alive validity (Sweep moment) name after = false
is_alive validity (ChangeTerms moment change) name after = false

-- what the grants of an entry still hold after these postings
abbrev pub held_after : ℕ → Entry → List Hold → List Posting → ℕ
held_after validity entry grants after = sum_by (λ grant. if is_alive validity entry grant.service after then grant.cost else 0) grants

-- what a session holds for a service
abbrev pub held_by : ℕ → List ℕ → ServiceName → List Posting → ℕ
held_by validity session name [] = 0
held_by validity session name (posting ∷ after) =
    (if is_of session posting.entry
    then sum_by (λ grant. if same_name grant.service name && is_alive validity posting.entry name after then grant.cost else 0) posting.grants
    else 0)
    + held_by validity session name after

-- what all sessions of an account hold
abbrev pub reserved_by : ℕ → ℕ → List Posting → ℕ
reserved_by validity account [] = 0
reserved_by validity account (posting ∷ after) =
    (if is_account account posting.account then held_after validity posting.entry posting.grants after else 0)
    + reserved_by validity account after
