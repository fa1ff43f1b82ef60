-- What the laws of the book speak of.
use Rattle.std.specs.Prelude.{◌≡◌, ℕ, zero, suc, ◌+◌, ◌≤◌, Some, List, [], ◌∷◌, ◌++◌, IsTrue, count_by, ◌&&◌, if◌then◌else◌, None, ℤ, pos, ◌+ℤ◌, find, sum_by, unwrap_or}
use Rattle.std.specs.Option.{option_and_then, option_map}
use Rattle.dia_base.specs.declared.number.Moment.{Moment}
use Rattle.cc_view.specs.declared.code.ResultCode.{ResultCode}
use Rattle.cc_view.specs.declared.reply.CcReply.{CcReply}
use Rattle.cc_view.specs.declared.reply.ServiceReply.{ServiceReply}
use Rattle.cc_view.specs.Request.ServiceLimits.{WithinLimits}
use Rattle.cc_view.specs.declared.request.CcRequest.{CcRequest}
use Rattle.cc_view.specs.declared.request.ServiceName.{ServiceName}
use Rattle.cc_book.specs.declared.entry.Entry.{Entry}
use Rattle.cc_book.specs.declared.entry.Entry.TheVariants.{Take, Sweep, ChangeTerms}
use Rattle.cc_rating.specs.declared.tariff.Tariff.{Tariff}
use Rattle.cc_book.specs.declared.terms.Terms.{Terms}
use Rattle.cc_book.specs.AccountMachine.{code_alone, grants_after, postings_of, repeat_reply, reply_to, terms_of}
use Rattle.cc_book.specs.Balance.{debit_of}
use Rattle.cc_book.specs.Duplicate.{key_of, same_key}
use Rattle.cc_book.specs.Posting.{Posting}
use Rattle.cc_book.specs.Reservation.{is_alive, same_name}
use Rattle.cc_book.specs.Session.{is_of}
use Rattle.cc_rating.specs.Rating.{cost_of}
use Rattle.cc_rating.specs.Tariffs.{fault_of, rates}

-- A reply is by an entry of the history, a taken request with the key of this one: the account machine's reply to it,
-- after the entries before it, if it is this very request, else DIAMETER_UNABLE_TO_COMPLY alone.
pub record RepliesToEntry (terms : Terms) (history : List Entry) (request : CcRequest) (reply : CcReply) : Type 0 where
  pub before : List Entry
  pub moment : Moment
  pub taken : CcRequest
  pub after : List Entry
  pub among : history ≡ before ++ Take moment taken ∷ after
  pub same : IsTrue (same_key (key_of taken) (key_of request))
  pub is_reply : reply ≡ repeat_reply terms before taken request

-- the sum of amounts of the accounts below a place
abbrev pub total_below : ℕ → (ℕ → ℤ) → ℤ
total_below zero amount = pos 0
total_below (suc n) amount = amount n +ℤ total_below n amount

-- all that postings debit, whatever the account
abbrev pub debits_of : List Posting → ℤ
debits_of [] = pos 0
debits_of (posting ∷ postings) = posting.debit +ℤ debits_of postings

-- what the units cost that a reply grants to a service
abbrev pub granted_cost : List Tariff → ServiceReply → ℕ
granted_cost tariffs service =
    unwrap_or (option_and_then (λ tariff. option_map (cost_of tariff) service.granted) (find (rates service.name.group service.name.ident) tariffs)) 0

-- what all units cost that a reply grants
abbrev pub cost_of_reply : List Tariff → CcReply → ℕ
cost_of_reply tariffs reply = sum_by (granted_cost tariffs) reply.services

-- how many grants of a session and a service are alive after postings
abbrev pub grants_alive : ℕ → List ℕ → ServiceName → List Posting → ℕ
grants_alive validity session name [] = 0
grants_alive validity session name (posting ∷ after) =
    (if is_of session posting.entry then count_by (λ grant. same_name grant.service name && is_alive validity posting.entry name after) posting.grants else 0)
    + grants_alive validity session name after

-- the services of an entry's request are within their limits
abbrev pub HasLimits : Entry → Type 0
HasLimits (Take moment request) = WithinLimits request.services
HasLimits (Sweep moment) = Unit {0}
HasLimits (ChangeTerms moment change) = Unit {0}

-- an entry that leaves the terms as they are
abbrev pub KeepsTerms : Entry → Type 0
KeepsTerms (Take moment request) = Unit {0}
KeepsTerms (Sweep moment) = Unit {0}
KeepsTerms (ChangeTerms moment change) = ⊥

-- nothing is wrong with these tariffs, and by them the greatest grant for a service costs at most so much
pub record GrantsAtMost (tariffs : List Tariff) (name : ServiceName) (most : ℕ) : Type 0 where
  pub sound : fault_of tariffs ≡ None
  pub greatest : (tariff : Tariff) → find (rates name.group name.ident) tariffs ≡ Some tariff → cost_of tariff tariff.greatest ≤ most

-- a request that is refused with this Result-Code: nothing is debited, and nothing reserved
pub record IsRefused (terms : Terms) (history : List Entry) (request : CcRequest) (code : ResultCode) : Type 0 where
  pub reply : reply_to terms history request ≡ code_alone code
  pub debit : debit_of terms history request ≡ pos 0
  pub grants : grants_after (terms_of terms history) (postings_of terms history) request ≡ []
