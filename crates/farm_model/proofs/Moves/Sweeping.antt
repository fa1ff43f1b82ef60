-- The book ends the sessions that are due: a move where it ends some and has room, else nothing.
use Rattle.std.proofs.Common.{◌≡◌, ℕ, zero, suc, ◌<◌, Bool, true, false, cond, List, length, Some, Ok, Err, refl, sym, subst, arith}
use Rattle.std.specs.Prelude.{nat_le}
use Rattle.std.proofs.lemmas.Bool.{leb-false}
use Rattle.dia_base.specs.declared.number.Moment.{Moment}
use Rattle.cc_book.specs.declared.book.BookRefusal.TheVariants.{Full}
use Rattle.cc_book.specs.History.{ended_sessions}
use Rattle.cc_book.specs.Taking.{Ledger, answer_to_sweep, after_sweep_with}
use Rattle.farm_law.specs.Farm.{Refused}
use Rattle.farm_law.specs.Moves.{Moves, done, sweeps}
use Rattle.farm_base.specs.declared.site.Site.{Site}
use Rattle.farm_model.specs.FarmStep.{Outcome, after_sweep_at}
use Rattle.farm_model.specs.Run.{Transition}
use Rattle.farm_model.specs.World.{Ends, WorldState}
use Rattle.farm_model.proofs.Moves.AsFarm.{parties, farm_of, LeadsTo}
use Rattle.farm_model.proofs.Moves.FrontRequests.{QueuesHoldRequests}
use Rattle.farm_model.proofs.Moves.Moving.{one_move}
use Rattle.farm_model.proofs.OwnCauses.Refusing.{at_most_once, as_before}
use Rattle.farm_model.proofs.Moves.StepGoes.{StepGoes, Reason}
use Rattle.farm_model.proofs.Wiring.Wired.{IsWired}

module _ (site : Site) (made : Ends) (refused : List Refused) (w : WorldState) (moment : Moment) where
  -- the book is this one, and the rest as before
  abbrev LeadsTo-book : Ledger → Type 0
  LeadsTo-book book = Moves (parties site made) (farm_of made refused w) (farm_of made refused (record w { book = book }))

  sweep_by : (ended : ℕ) → ended_sessions w.book.terms w.book.history moment ≡ ended → LeadsTo-book
      (after_sweep_with w.book moment (answer_to_sweep w.book ended))
  sweep_by zero e = done
  sweep_by (suc more) e = go (nat_le w.book.limit (length w.book.history)) refl
    where
      due : 0 < ended_sessions w.book.terms w.book.history moment
      due = omega (arith, e)

      go : (full : Bool) → nat_le w.book.limit (length w.book.history) ≡ full → LeadsTo-book
          (after_sweep_with w.book moment (cond full (Err (Full w.book.limit)) (Ok (suc more))))
      go true e = done
      go false e = one_move (sweeps moment due (leb-false w.book.limit (length w.book.history) e))

pub sweep_goes : (site : Site) (made : Ends) (t : Transition) (refused : List Refused) (moment : Moment) → Outcome (Some (after_sweep_at t.before moment))
    t.applied t.before t.after → IsWired site made t.before → QueuesHoldRequests t.before.fronts → StepGoes site made t refused
sweep_goes site made t refused moment out wired requests = record {
  leads = subst (λ (w : WorldState). LeadsTo (parties site made) made (Reason t) at_most_once (farm_of made refused t.before) w) (sym out.1) (record {
    refused = refused;
    moves = sweep_by site made refused t.before moment (ended_sessions t.before.book.terms t.before.book.history moment) refl;
    caused = as_before (Reason t) refused;
  });
  wired = subst (IsWired site made) (sym out.1) (record {
    begins = wired.begins;
    directions = wired.directions;
    fronts = wired.fronts;
    relays = wired.relays;
    alone = wired.alone;
  });
  requests = subst (λ (w : WorldState). QueuesHoldRequests w.fronts) (sym out.1) requests;
}
