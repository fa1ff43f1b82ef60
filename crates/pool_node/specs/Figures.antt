-- What a job that is collected adds to what the book has come to.
use Rattle.std.specs.Prelude.{◌≡◌, ◌==◌, ◌+◌, ℕ, min, max, length, Bool, true, false, MatchBool, if◌then◌else◌, Option, Some, None, Result, Ok, Err}
use Rattle.cc_view.specs.declared.code.ResultCode.{ResultCode}
use Rattle.cc_view.specs.declared.code.ResultCode.TheVariants.{Success, UnknownSessionId}
use Rattle.cc_view.specs.declared.request.RequestKind.{RequestKind}
use Rattle.cc_view.specs.declared.request.RequestKind.TheVariants.{Initial, Termination}
use Rattle.cc_book.specs.declared.book.BookRefusal.{BookRefusal}
use Rattle.cc_book.specs.Balance.{open_sessions_of}
use Rattle.cc_book.specs.Taking.{Ledger}
use Rattle.cc_shared.specs.declared.receipt.Receipt.{Receipt}
use Rattle.pool_node.specs.declared.figures.BookFigures.{BookFigures}
use Rattle.pool_node.specs.Served.{came_to, counted, no_requests}

-- a count that goes up stays at the greatest number
abbrev pub sum_of : ℕ → ℕ → ℕ
sum_of n more = min (n + more) 18446744073709551615

-- one more
abbrev pub next_of : ℕ → ℕ
next_of n = sum_of n 1

-- the first request of a session opens it, where it succeeds
abbrev pub opens : RequestKind → ResultCode → Bool
opens Initial Success = true
opens _ _ = false

-- the last request of a session ends it, where it is open
abbrev pub ends : RequestKind → ResultCode → Bool
ends Termination UnknownSessionId = false
ends Termination _ = true
ends _ _ = false

-- one more, or none
abbrev pub count_if : Bool → ℕ → ℕ
count_if one n = if one then next_of n else n

-- a request more was taken
pub record HasCharged (receipt : Receipt) (old new : BookFigures) : Type 0 where
  pub served : new.served ≡ counted (came_to receipt) old.served
  pub entries : new.entries ≡ max old.entries (next_of receipt.place)
  pub opened : new.opened ≡ count_if (opens receipt.request.kind receipt.reply.code) old.opened
  pub ended : new.ended ≡ count_if (ends receipt.request.kind receipt.reply.code) old.ended

-- a repeat was taken before, and is counted as one
abbrev pub HasTaken : Receipt → BookFigures → BookFigures → Type 0
HasTaken receipt old new = MatchBool receipt.fresh (HasCharged receipt old new) (new ≡ record old { served = counted (came_to receipt) old.served })

-- a job without a receipt was not charged
abbrev pub HasCollected : Option Receipt → BookFigures → BookFigures → Type 0
HasCollected None old new = new ≡ old
HasCollected (Some receipt) old new = HasTaken receipt old new

-- so many sessions have ended at once, by one entry
abbrev pub with_sweep : ℕ → BookFigures → BookFigures
with_sweep sessions old = record old { entries = next_of old.entries; ended = sum_of old.ended sessions }

-- a book as it is opened, of which no request was served
abbrev pub figures_of : Ledger → BookFigures
figures_of book = record { entries = length book.history; served = no_requests; opened = open_sessions_of book.terms book.history; ended = 0 }

-- A sweep came to this: one that ends no session is no entry, nor is one that was refused.
abbrev pub figures_after : Result ℕ BookRefusal → BookFigures → BookFigures
figures_after (Ok ended) old = if ended == 0 then old else with_sweep ended old
figures_after (Err refusal) old = old
