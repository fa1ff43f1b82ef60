-- A node is of one kind.
use Rattle.std.proofs.Common.{◌≡◌, true, false, Option, Some, None, refl}
use Rattle.std.specs.Prelude.{◌||◌}
use Rattle.std.proofs.lemmas.Bool.{or_left}
use Rattle.dia_base.specs.declared.node.NodeKind.{NodeKind}
use Rattle.dia_base.specs.declared.node.NodeKind.TheVariants.{Relay, Front, Client}
use Rattle.farm_base.specs.Nodes.{means_client, means_front, means_relay}

pub server_no_client : (k : Option NodeKind) → (means_relay k || means_front k) ≡ true → means_client k ≡ false
server_no_client None e = refl
server_no_client (Some Client) e = absurd cc
server_no_client (Some Front) e = refl
server_no_client (Some Relay) e = refl

pub relay_no_client : (k : Option NodeKind) → means_relay k ≡ true → means_client k ≡ false
relay_no_client k e = server_no_client k (or_left (means_relay k) (means_front k) e)

pub relay_no_front : (kind : Option NodeKind) → means_relay kind ≡ true → means_front kind ≡ false
relay_no_front None e = refl
relay_no_front (Some Relay) e = refl
relay_no_front (Some Front) e = absurd cc
relay_no_front (Some Client) e = refl
