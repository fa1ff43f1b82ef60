-- Nodes and connections: those with the same number are the same.
use Rattle.std.proofs.Common.{◌≡◌, ℕ, true, false, refl, sym, ap, eq-eqb}
use Rattle.std.specs.Prelude.{◌==◌}
use Rattle.std.proofs.lemmas.Bool.{eqb-true, ne_eqb, eqb-false}
use Rattle.dia_base.specs.declared.number.NodeNo.{NodeNo}
use Rattle.dia_base.specs.declared.number.ConnId.{ConnId}
use Rattle.farm_base.specs.Nodes.{is_node}

pub same_node : (a b : NodeNo) → is_node a b ≡ true → a ≡ b
same_node a b e = ap (λ (n : ℕ). record { 0 = n }) (eqb-true a.0 b.0 e)

pub same_conn : (a b : ConnId) → (a.0 == b.0) ≡ true → a ≡ b
same_conn a b e = ap (λ (n : ℕ). record { 0 = n }) (eqb-true a.0 b.0 e)

pub is_same_node : (n m : NodeNo) → n ≡ m → is_node n m ≡ true
is_same_node n m e = eq-eqb n.0 m.0 (ap (λ (k : NodeNo). k.0) e)

pub node_itself : (node : NodeNo) → is_node node node ≡ true
node_itself node = eq-eqb node.0 node.0 refl

pub nodes_turned : (a b : NodeNo) → is_node a b ≡ false → is_node b a ≡ false
nodes_turned a b e = ne_eqb b.0 a.0 (λ same. eqb-false a.0 b.0 e (sym same))
