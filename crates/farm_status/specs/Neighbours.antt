-- The numbers of a neighbour.
use Rattle.std.specs.Prelude.{◌/◌, ℕ, Bool, true, false, Option, Some, None, if◌then◌else◌}
use Rattle.std.specs.Option.{option_map}
use Rattle.farm_status.specs.Figures.{is_up}
use Rattle.farm_status.specs.declared.peers.PeerFigure.{PeerFigure}
use Rattle.farm_status.specs.declared.peers.PeerFigure.TheVariants.{Up, Since, Losses, Silences, Requests, Answers, Refusals}
use Rattle.farm_status.specs.declared.status.Peer.{Peer}
use Rattle.farm_status.specs.declared.status.PeerPast.{PeerPast}

-- of one that was ever up
abbrev pub figure_in : PeerFigure → PeerPast → ℕ
figure_in Up past = past.since / 1000
figure_in Since past = past.since / 1000
figure_in Losses past = past.count.losses
figure_in Silences past = past.count.silences
figure_in Requests past = past.count.requests
figure_in Answers past = past.count.answers
figure_in Refusals past = past.count.refusals

abbrev pub up_number : Bool → ℕ
up_number true = 1
up_number false = 0

-- One that was never up has but that it is not.
abbrev pub figure_of : PeerFigure → Peer → Option ℕ
figure_of Up peer = Some (up_number (is_up peer.state))
figure_of Since peer = option_map (figure_in Since) peer.past
figure_of Losses peer = option_map (figure_in Losses) peer.past
figure_of Silences peer = option_map (figure_in Silences) peer.past
figure_of Requests peer = option_map (figure_in Requests) peer.past
figure_of Answers peer = option_map (figure_in Answers) peer.past
figure_of Refusals peer = option_map (figure_in Refusals) peer.past
