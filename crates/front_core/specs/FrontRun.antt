-- A front over a list of events: one event after the other, from no connection.
use Rattle.std.specs.Prelude.{List, [], ◌∷◌, ◌++◌, unwrap_or, if◌then◌else◌}
use Rattle.std.specs.List.{fold}
use Rattle.dia_message.specs.Traffic.{Traffic}
use Rattle.cc_book.specs.Taking.{Ledger, after_sweep}
use Rattle.front_core.specs.declared.event.FrontEvent.{FrontEvent}
use Rattle.front_core.specs.declared.event.FrontEvent.TheVariants.{Up, Message, Pick, Charge, Refuse, Emit, Sweep, ChangeTerms, Lost, Restart}
use Rattle.front_core.specs.declared.site.FrontSite.{FrontSite}
use Rattle.front_core.specs.ChangingTerms.{after_change}
use Rattle.front_core.specs.FrontState.{FrontState, new_front, is_among}
use Rattle.front_core.specs.FrontStep.{with_connection, without_connection, after_arrival, sent_at_arrival, after_pick, after_charge, after_refusal, after_emit, after_restart}

-- a front and its book after an event, and what is sent at it
pub record Turn : Type 0 where
  pub front : FrontState
  pub ledger : Ledger
  pub sent : Traffic

-- a turn that sends nothing
abbrev pub silent_turn : FrontState → Ledger → Turn
silent_turn front ledger = record { front = front; ledger = ledger; sent = [] }

-- what was sent, and the book as it was
abbrev pub sending_turn : FrontState × Traffic → Ledger → Turn
sending_turn turn ledger = record { front = turn.0; ledger = ledger; sent = turn.1 }

-- A step that does not apply changes nothing, nor does a message on a connection that is not up. Nor does a sweep that
-- ends nothing, or that meets the limit of the history, or a change of the terms that the book refuses.
abbrev pub after_event : FrontState → Ledger → FrontEvent → Turn
after_event front ledger (Up conn) = silent_turn (with_connection front conn) ledger
after_event front ledger (Message conn message) =
    if is_among front.connections conn then sending_turn (after_arrival front conn message, sent_at_arrival front conn message) ledger else silent_turn front ledger
after_event front ledger (Pick worker) = silent_turn (unwrap_or (after_pick front worker) front) ledger
after_event front ledger (Charge worker moment) =
    let turn = unwrap_or (after_charge front ledger moment worker) (front, ledger) in silent_turn turn.0 turn.1
after_event front ledger (Refuse worker) = silent_turn (unwrap_or (after_refusal front worker) front) ledger
after_event front ledger (Emit worker) = sending_turn (unwrap_or (after_emit front worker) (front, [])) ledger
after_event front ledger (Sweep moment) = silent_turn front (after_sweep ledger moment)
after_event front ledger (ChangeTerms moment change) = silent_turn front (after_change ledger moment change)
after_event front ledger (Lost conn) = silent_turn (without_connection front conn) ledger
after_event front ledger Restart = silent_turn (after_restart front) ledger

-- ---- one event after the other

-- a front and its book after some events, and what was sent at each
pub record FrontRun : Type 0 where
  pub front : FrontState
  pub ledger : Ledger
  pub sent : List Traffic

abbrev pub with_turn : List Traffic → Turn → FrontRun
with_turn sent turn = record { front = turn.front; ledger = turn.ledger; sent = sent ++ turn.sent ∷ [] }

abbrev pub run_with : FrontRun → FrontEvent → FrontRun
run_with run event = with_turn run.sent (after_event run.front run.ledger event)

abbrev pub new_run : FrontSite → Ledger → FrontRun
new_run site book = record { front = new_front site; ledger = book; sent = [] }

-- the run of a front of this site, with the book that is handed in
unfoldable pub run_of : FrontSite → Ledger → List FrontEvent → FrontRun
run_of site book events = fold run_with (new_run site book) events
