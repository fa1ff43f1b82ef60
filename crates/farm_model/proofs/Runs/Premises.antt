-- What the proofs of runs take from the crates below: laws of the book, of fronts and relays, and of moves. The law of runs hands them over.
use Rattle.std.proofs.Common.{◌≡◌, ℕ, List, [], Ok}
use Rattle.std.specs.Prelude.{◌⊎◌}
use Rattle.dia_base.specs.declared.number.Moment.{Moment}
use Rattle.dia_avp.specs.declared.avp.RawAvp.{RawAvp}
use Rattle.dia_avp.specs.AvpList.{HasSpelling}
use Rattle.dia_avp.specs.AvpReading.{split_of}
use Rattle.dia_message.specs.declared.message.Message.{Message}
use Rattle.cc_book.specs.Taking.{Ledger}
use Rattle.cc_book.specs.History.{IsLegal}
use Rattle.front_core.specs.declared.site.FrontSite.{FrontSite}
use Rattle.front_core.specs.Answered.{IsBookAnswer, IsRefusedAtCharge}
use Rattle.front_core.specs.ChargeCases.{IsCharge}
use Rattle.front_core.specs.Charging.{answer_in, book_after}
use Rattle.front_core.specs.FrontStep.{preparation_at}
use Rattle.relay_routes.specs.Routing.{IsLoop, record_of}
use Rattle.relay_core.specs.Forwarding.{Descends, with_record}
use Rattle.farm_law.specs.Farm.{Farm}
use Rattle.farm_law.specs.Invariant.{IsKept, new_farm}
use Rattle.farm_law.specs.Moves.{Moves}
use Rattle.farm_law.specs.Parties.{Parties}
use Rattle.farm_law.specs.Tally.{OwesEach}
use Rattle.farm_model.proofs.Loops.LoopRefused.{LoopsAreRefused}
use Rattle.farm_model.proofs.Runs.PromiseLemmas.{RepliesAreOfEntries, RelaysKeepPromise}

pub record Premises : Type 0 where
  -- of a front
  pub charges : (site : FrontSite) (ledger : Ledger) (moment : Moment) (message : Message)
      → IsCharge site ledger moment message (answer_in site ledger message (preparation_at site message))
      (book_after ledger moment (preparation_at site message))
  pub answers : (site : FrontSite) (ledger book : Ledger) (moment : Moment) (message answer : Message) → IsLegal ledger.terms ledger.history → IsCharge site
      ledger moment message answer book
      → IsBookAnswer site book message answer ⊎ IsRefusedAtCharge site ledger message answer
  -- of relays
  pub loops : LoopsAreRefused
  pub comes_back : (node : List ℕ) (request last : Message) (avps : List RawAvp) → HasSpelling (record_of node) → split_of request.body ≡ Ok avps → Descends
      (with_record node request) last → IsLoop node last.body
  pub relays_keep : RelaysKeepPromise
  -- of the book
  pub of_entries : RepliesAreOfEntries
  -- of moves
  pub new_is_kept : (p : Parties) (book : Ledger) → book.history ≡ [] → IsKept p (new_farm book)
  pub moves_keep : (p : Parties) (old new : Farm) → Moves p old new → IsKept p old → IsKept p new
  pub moves_owe : (p : Parties) (old new : Farm) → Moves p old new → IsKept p old → OwesEach p old → OwesEach p new
