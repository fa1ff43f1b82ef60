-- Worked examples: two relays, a front and two clients, of which the first is linked with the first relay; and entries of
-- nodes, links and routes.
use Rattle.std.specs.Prelude.{ℕ, List, [], ◌∷◌, codes, None}
use Rattle.toml.specs.Data.{string, Members, no_members, member}
use Rattle.dia_base.specs.declared.node.NodeKind.{NodeKind}
use Rattle.dia_base.specs.declared.node.NodeKind.TheVariants.{Relay, Front, Client}
use Rattle.farm_base.specs.declared.site.Link.{Link}
use Rattle.farm_base.specs.declared.site.Node.{Node}
use Rattle.farm_site.specs.declared.key.Key.TheVariants as keys
use Rattle.farm_site.specs.Keys.{spelled}

abbrev pub node : List ℕ → NodeKind → Node
node of_name of_kind = record { name = of_name; kind = of_kind; address = None }

abbrev pub five_nodes : List Node
five_nodes =
    node (codes "r1.example") Relay ∷ node (codes "r2.example") Relay ∷ node (codes "f1.example") Front
    ∷ node (codes "c1.example") Client ∷ node (codes "c2.example") Client ∷ []

-- by the places of the nodes
abbrev pub link : ℕ → ℕ → Link
link of of_to = record { from = record { 0 = of }; to = record { 0 = of_to } }

abbrev pub one_link : List Link
one_link = link 3 0 ∷ []

abbrev pub entry_of_node : List ℕ → Members
entry_of_node name = member (spelled keys.Name) (string name) no_members

abbrev pub entry_of_link : List ℕ → List ℕ → Members
entry_of_link from to = member (spelled keys.From) (string from) (member (spelled keys.To) (string to) no_members)
