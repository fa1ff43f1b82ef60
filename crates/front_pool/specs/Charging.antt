-- What a pool's receipts are for a front: its charges, in the order of their places.
use Rattle.std.specs.Prelude.{◌≡◌, ℕ, ◌+◌, take, slice_get, Some}
use Rattle.dia_base.specs.declared.number.Moment.{Moment}
use Rattle.dia_message.specs.declared.message.Message.{Message}
use Rattle.cc_view.specs.Answer.{answer_to}
use Rattle.cc_book.specs.declared.entry.Entry.TheVariants.{Take}
use Rattle.cc_book.specs.Taking.{Ledger}
use Rattle.cc_shared.specs.declared.receipt.Receipt.{Receipt}
use Rattle.front_core.specs.declared.site.FrontSite.{FrontSite}
use Rattle.front_core.specs.ChargeCases.{IsCharge}
use Rattle.front_pool.specs.declared.site.PoolSite.{PoolSite}

-- the pool that answers in the name of a front
abbrev pub pool_of : FrontSite → PoolSite
pool_of site = record { name = site.name; realm = site.realm; profile = site.profile }

-- the answer of a front to a message, with the reply of a receipt
abbrev pub answer_with : FrontSite → Message → Receipt → Message
answer_with site message receipt = answer_to site.name site.realm message receipt.request receipt.reply

-- a book as it was when its history had so many entries
abbrev pub as_of : Ledger → ℕ → Ledger
as_of ledger count = record ledger { history = take count ledger.history }

-- The front's charge of a message takes the book from what it was before the receipt's place to what it was behind it, and
-- its answer has the receipt's reply. The moment is that of the entry.
pub record IsChargedAt (site : FrontSite) (ledger : Ledger) (message : Message) (receipt : Receipt) : Type 0 where
  pub moment : Moment
  pub at : slice_get ledger.history receipt.place ≡ Some (Take moment receipt.request)
  pub charge : IsCharge site (as_of ledger receipt.place) moment message (answer_with site message receipt) (as_of ledger (receipt.place + 1))
