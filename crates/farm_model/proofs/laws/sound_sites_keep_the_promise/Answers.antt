use Rattle.farm_model.proofs.Runs.Running.{promise_kept}
use Rattle.farm_model.proofs.laws.sound_sites_keep_the_promise.Goals as goal

pub returns : goal.returns
returns c = promise_kept (record {
  charges = c.charges_by_four_cases.ensures;
  answers = c.a_charge_answers_or_refuses.ensures;
  loops = c.loops_are_refused.ensures;
  comes_back = c.returning_requests_loop.ensures;
  relays_keep = λ site events outs past last run. c.relays_keep_their_promise.ensures site 0 events outs past last run;
  of_entries = c.kept_replies_are_of_entries.ensures;
  new_is_kept = c.moves_keep_a_farm.ensures.start;
  moves_keep = c.moves_keep_a_farm.ensures.moves;
  moves_owe = c.moves_keep_a_farm.ensures.owed;
})
