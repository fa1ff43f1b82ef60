-- A farm that is played, beside what the records tell that passes at its nodes.
use Rattle.std.specs.Prelude.{◌≡◌, true, List, [], ◌∷◌, ◌++◌, Option, Some, None, is_some}
use Rattle.dia_base.specs.declared.number.NodeNo.{NodeNo}
use Rattle.farm_base.specs.Nodes.{is_node}
use Rattle.farm_base.specs.declared.step.Step.{Step}
use Rattle.farm_model.specs.Run.{start}
use Rattle.farm_player.specs.Awaiting.{AwaitedList, told_at}
use Rattle.farm_player.specs.Passing.{Passage, passage_of, passed_at}
use Rattle.farm_player.specs.PlayedRun.{PlayedRun, PlayedState, Turn, passages_in}
use Rattle.farm_player.specs.declared.reconciled.Due.{Due}
use Rattle.farm_player.specs.declared.reconciled.Due.TheVariants.{Free, Next, Other}

pub record Reconciling : Type 0 where
  pub farm : PlayedState
  -- what records tell that passes, at all nodes that are watched
  pub told : List Passage
  pub awaited : AwaitedList

-- what is told of a node: what has passed there, and behind that what is awaited; nothing of a node that is not watched
abbrev pub accounted : NodeNo → List Passage → Option (List Passage) → List Passage
accounted node passed None = []
accounted node passed (Some awaited) = passed_at node passed ++ awaited

abbrev pub IsAccounted : List Passage → List Passage → AwaitedList → Type 0
IsAccounted told passed awaited = (node : NodeNo) → passed_at node told ≡ accounted node passed (told_at node awaited)

-- as far as no memory was missing in the middle of a step
abbrev pub IsReconciled : Reconciling → Type 0
IsReconciled r = r.farm.is_whole ≡ true → IsAccounted r.told r.farm.passed r.awaited

-- nothing more is told, and the site is the same
abbrev pub Stays : Reconciling → Reconciling → Type 0
Stays old new = (new.told ≡ old.told) × (new.farm.site ≡ old.farm.site)

-- by a step passes what is told to pass next at a node
pub record IsToldNext (r : Reconciling) (step : Step) (node : NodeNo) : Type 0 where
  pub passage : Passage
  pub rest : List Passage
  pub passes : passage_of r.farm.world step ≡ passage ∷ []
  pub here : is_node passage.0.node node ≡ true
  pub awaits : told_at node r.awaited ≡ Some (passage ∷ rest)

-- what is known of a step: nothing passes by it at a node that is watched, or what is told to pass there next, or something else
abbrev pub IsDue : Reconciling → Step → Due → Type 0
IsDue r step Free = (node : NodeNo) → is_some (told_at node r.awaited) ≡ true → passed_at node (passage_of r.farm.world step) ≡ []
IsDue r step (Next node) = IsToldNext r step node
IsDue r step Other = Unit {0}

-- There is a run of the proved farm from its beginning in which at each node that is watched what its record tells has passed, in that order,
-- and nothing else.
pub record Agrees (r : Reconciling) : Type 0 where
  pub turns : List Turn
  pub run : PlayedRun r.farm.site (start r.farm.site) turns r.farm.world
  pub passes : (node : NodeNo) → is_some (told_at node r.awaited) ≡ true → passed_at node (passages_in turns) ≡ passed_at node r.told
