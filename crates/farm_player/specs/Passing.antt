-- The messages that pass between a node and its peers in a run.
use Rattle.std.specs.Prelude.{◌≡◌, Bool, false, true, List, [], ◌∷◌, filter, Option, Some, None, option_map, if◌then◌else◌}
use Rattle.dia_base.specs.declared.number.NodeNo.{NodeNo}
use Rattle.dia_message.specs.declared.message.Message.{Message}
use Rattle.farm_base.specs.Nodes.{is_node}
use Rattle.farm_base.specs.declared.step.Step.{Step}
use Rattle.farm_base.specs.declared.step.Step.TheVariants.{Up, Accept, Opened, Send, Deliver, Lose, Cut, Drop}
use Rattle.farm_base.specs.declared.step.Step.TheVariants.{Restart, Crash, Pick, Charge, Refuse, Emit, Sweep, ChangeTerms}
use Rattle.farm_model.specs.FarmStep.{Flight, flight_at}
use Rattle.farm_model.specs.World.{WorldState}
use Rattle.farm_player.specs.declared.passing.Passed.{Passed}

-- a message that a node receives, or that a client sends
abbrev pub Passage : Type 0
Passage = Passed × Message

-- a message that is in flight, if there is one
abbrev pub arrival : NodeNo → NodeNo → Option Flight → List Passage
arrival from to None = []
arrival from to (Some flight) = (record { node = to; peer = from; is_sent = false }, flight.message) ∷ []

-- what a step has a node receive, or a client send, where it applies
abbrev pub passage_of : WorldState → Step → List Passage
passage_of w (Deliver from to place) = arrival from to (flight_at w.directions from to place)
passage_of w (Send client to message) = (record { node = client; peer = to; is_sent = true }, message) ∷ []
passage_of w (Up a b) = []
passage_of w (Accept at from) = []
passage_of w (Opened a b) = []
passage_of w (Lose from to place) = []
passage_of w (Cut a b) = []
passage_of w (Drop a b) = []
passage_of w (Restart node) = []
passage_of w (Crash node) = []
passage_of w (Pick front worker) = []
passage_of w (Charge front worker moment) = []
passage_of w (Refuse front worker) = []
passage_of w (Emit front worker) = []
passage_of w (Sweep moment) = []
passage_of w (ChangeTerms moment change) = []

abbrev pub passed_by : WorldState → Step → Bool → List Passage
passed_by w step applied = if applied then passage_of w step else []

-- what has passed at this node, of all that has
abbrev pub passed_at : NodeNo → List Passage → List Passage
passed_at node = filter (λ passage. is_node passage.0.node node)

-- the message that is seen in flight is this one
abbrev pub IsSeen : Option Flight → Option Message → Type 0
IsSeen flight seen = seen ≡ option_map (λ f. f.message) flight
