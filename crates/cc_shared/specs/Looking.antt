-- What a look at one account of a shared book finds.
use Rattle.std.specs.Prelude.{◌≡◌, ℕ, List, [], length, map, count_by, ◌==◌, Bool, filter_map, slice_get, Option, Some, None, MatchBool, pos}
use Rattle.cc_view.specs.declared.request.Subscription.{Subscription}
use Rattle.cc_view.specs.declared.reply.CcReply.{CcReply}
use Rattle.cc_book.specs.declared.charges.Charge.{Charge}
use Rattle.cc_book.specs.declared.entry.Entry.{Entry}
use Rattle.cc_book.specs.declared.entry.Entry.TheVariants.{Take}
use Rattle.cc_book.specs.declared.session.OpenSession.{OpenSession}
use Rattle.cc_book.specs.declared.terms.Terms.{Terms}
use Rattle.cc_book.specs.AccountMachine as machine
use Rattle.cc_book.specs.AccountMachine.{postings_of, terms_of}
use Rattle.cc_book.specs.Balance.{balance_of, reserved_of}
use Rattle.cc_book.specs.Charging.{charges_of, latest}
use Rattle.cc_book.specs.History.{IsLegal}
use Rattle.cc_book.specs.Standing.{sessions_in}
use Rattle.cc_book.specs.Taking.{Ledger}
use Rattle.cc_book.specs.TermsChange.{account_with}
use Rattle.cc_shared.specs.declared.looks.AccountCharge.{AccountCharge}
use Rattle.cc_shared.specs.declared.looks.AccountLook.{AccountLook}
use Rattle.cc_shared.specs.declared.looks.Found.{Found}
use Rattle.cc_shared.specs.declared.looks.Found.TheVariants.{Account, NoAccount, Closed}
use Rattle.cc_shared.specs.declared.looks.Standing.{Standing}
use Rattle.cc_shared.specs.History.{SharedLedger, book_at, is_closed}

-- whether a session charges an account
abbrev pub charges : ℕ → OpenSession → Bool
charges account session = session.account == account

-- what stands on the account at a place after the history
abbrev pub standing_of : Terms → List Entry → ℕ → Standing
standing_of terms history account = record {
  balance = balance_of terms history account;
  reserved = pos (reserved_of terms history account);
  sessions = count_by (charges account) (sessions_in terms history);
  closed = machine.is_closed (terms_of terms history) (Some account);
}

-- the same, where there is such a place
abbrev pub found_at : Terms → List Entry → Option ℕ → Found
found_at terms history None = NoAccount
found_at terms history (Some account) = Account (standing_of terms history account)

-- what stands on the account of a Subscription-Id after the history, if an account there has it
abbrev pub found_in : Terms → List Entry → Subscription → Found
found_in terms history id = found_at terms history (account_with (terms_of terms history).accounts id)

-- An open book was looked at: this is the account.
pub record IsFound (book : Ledger) (id : Subscription) (found : Found) : Type 0 where
  pub legal : IsLegal book.terms book.history
  pub found_is : found ≡ found_in book.terms book.history id

-- what is shown of an entry at a place with its reply and what it charged: none that is no request
abbrev pub shown_as : ℕ → Option Entry → Option (Option CcReply) → Option Charge → Option AccountCharge
shown_as place (Some (Take moment request)) (Some (Some reply)) (Some charge) = Some (record {
  place = place;
  moment = moment;
  session = request.session;
  number = request.number;
  kind = request.kind;
  debit = charge.debit;
  code = reply.code;
})
shown_as place _ _ _ = None

-- what is shown of the entry at a place of a history
abbrev pub shown_at : Terms → List Entry → ℕ → Option AccountCharge
shown_at terms history place =
    shown_as place (slice_get history place) (slice_get (map (λ posting. posting.reply) (postings_of terms history)) place)
    (slice_get (charges_of terms history) place)

-- the requests that charged an account last, the latest first
abbrev pub last_at : Terms → List Entry → Option ℕ → List AccountCharge
last_at terms history None = []
last_at terms history (Some account) =
    filter_map (shown_at terms history) (latest account (charges_of terms history) (length (charges_of terms history)) 10)

-- the requests that charged the account of a Subscription-Id last, if an account there has it
abbrev pub last_of : Terms → List Entry → Subscription → List AccountCharge
last_of terms history id = last_at terms history (account_with (terms_of terms history).accounts id)

-- A look through the lock: the account at one moment of the history with the requests that charged it last, and the word of a closed
-- book alone.
abbrev pub IsAccountLook : SharedLedger → Subscription → AccountLook → Type 0
IsAccountLook shared id look =
    (look.seen.book ≡ shared.log)
    × MatchBool (is_closed look.seen.log) ((look.found ≡ Closed) × (look.last.items ≡ []))
    (IsFound (book_at shared.opened look.seen.log) id look.found
    × (look.last.items ≡ last_of (book_at shared.opened look.seen.log).terms (book_at shared.opened look.seen.log).history id))
