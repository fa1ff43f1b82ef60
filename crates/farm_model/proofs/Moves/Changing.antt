-- The terms of the book change: a move where the book makes the change, else nothing.
use Rattle.std.proofs.Common.{◌≡◌, ℕ, List, Some, Result, Ok, Err, refl, sym, subst}
use Rattle.dia_base.specs.declared.number.Moment.{Moment}
use Rattle.cc_book.specs.declared.terms_change.ChangeRefusal.{ChangeRefusal}
use Rattle.cc_book.specs.declared.terms_change.TermsChange.{TermsChange}
use Rattle.cc_book.specs.Changing.{after_change_with, change_answer}
use Rattle.cc_book.proofs.Changing.{made-change}
use Rattle.farm_law.specs.Farm.{Refused}
use Rattle.farm_law.specs.Moves.{Moves, done, changes_terms}
use Rattle.farm_base.specs.declared.site.Site.{Site}
use Rattle.farm_model.specs.FarmStep.{Outcome, after_change_at}
use Rattle.farm_model.specs.Run.{Transition}
use Rattle.farm_model.specs.World.{Ends, WorldState}
use Rattle.farm_model.proofs.Moves.AsFarm.{parties, farm_of, LeadsTo}
use Rattle.farm_model.proofs.Moves.FrontRequests.{QueuesHoldRequests}
use Rattle.farm_model.proofs.Moves.Moving.{one_move}
use Rattle.farm_model.proofs.OwnCauses.Refusing.{at_most_once, as_before}
use Rattle.farm_model.proofs.Moves.StepGoes.{StepGoes, Reason}
use Rattle.farm_model.proofs.Wiring.Wired.{IsWired}

change_by : (site : Site) (made : Ends) (refused : List Refused) (w : WorldState) (moment : Moment) (change : TermsChange) (answer : Result ℕ ChangeRefusal) →
    change_answer w.book change ≡ answer → Moves (parties site made) (farm_of made refused w)
    (farm_of made refused (record w { book = after_change_with w.book moment change answer }))
change_by site made refused w moment change (Err refusal) e = done
change_by site made refused w moment change (Ok place) e =
    let may = made-change w.book change place e in one_move (changes_terms moment change may.0 may.1)

pub change_goes : (site : Site) (made : Ends) (t : Transition) (refused : List Refused) (moment : Moment) (change : TermsChange) → Outcome
    (Some (after_change_at t.before moment change)) t.applied t.before t.after → IsWired site made t.before → QueuesHoldRequests t.before.fronts
    → StepGoes site made t refused
change_goes site made t refused moment change out wired requests = record {
  leads = subst (λ (w : WorldState). LeadsTo (parties site made) made (Reason t) at_most_once (farm_of made refused t.before) w) (sym out.1) (record {
    refused = refused;
    moves = change_by site made refused t.before moment change (change_answer t.before.book change) refl;
    caused = as_before (Reason t) refused;
  });
  wired = subst (IsWired site made) (sym out.1) (record {
    begins = wired.begins;
    directions = wired.directions;
    fronts = wired.fronts;
    relays = wired.relays;
    alone = wired.alone;
  });
  requests = subst (λ (w : WorldState). QueuesHoldRequests w.fronts) (sym out.1) requests;
}
