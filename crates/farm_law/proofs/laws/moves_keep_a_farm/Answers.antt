use Rattle.farm_law.proofs.Runs.{moves_keep, new_farm_kept}
use Rattle.farm_law.proofs.Tallying.{moves_owe}
use Rattle.farm_law.proofs.laws.moves_keep_a_farm.Goals as goal

pub returns-clause-start : goal.returns-clause-start
returns-clause-start c = new_farm_kept c.the_empty_history_is_legal.ensures

pub returns-clause-moves : goal.returns-clause-moves
returns-clause-moves c = moves_keep (record {
  legal_grows = c.legal_histories_grow.ensures.by_request;
  legal_sweeps = c.legal_histories_grow.ensures.by_sweep;
  legal_changes = c.legal_histories_grow.ensures.by_change;
  answers_stay = c.answers_stay.ensures;
  descends_on = c.descending_goes_on.ensures;
  same_view = c.descendants_read_alike.ensures.view;
  same_answer = c.descendants_read_alike.ensures.answer;
  same_refusal = c.descendants_read_alike.ensures.refusal;
})

pub returns-clause-owed : goal.returns-clause-owed
returns-clause-owed c = moves_owe (record {
  legal_grows = c.legal_histories_grow.ensures.by_request;
  legal_sweeps = c.legal_histories_grow.ensures.by_sweep;
  legal_changes = c.legal_histories_grow.ensures.by_change;
  answers_stay = c.answers_stay.ensures;
  descends_on = c.descending_goes_on.ensures;
  same_view = c.descendants_read_alike.ensures.view;
  same_answer = c.descendants_read_alike.ensures.answer;
  same_refusal = c.descendants_read_alike.ensures.refusal;
})
