-- The two nodes of a connection: from one of them the other, and which of them is the client.
use Rattle.std.proofs.Common.{◌≡◌, ◌-◌, true, false, Option, Some, inl, inr, sym, ap, ◌∙◌}
use Rattle.std.specs.Prelude.{unwrap_or, ◌⊎◌, ◌&&◌, ◌||◌, slice_get}
use Rattle.std.proofs.lemmas.Bool.{cond-true, cond-false, or_left, or_right, and_right, and_left}
use Rattle.dia_base.specs.declared.number.ConnId.{ConnId}
use Rattle.dia_base.specs.declared.number.NodeNo.{NodeNo}
use Rattle.farm_base.specs.declared.site.Site.{Site}
use Rattle.farm_model.specs.World.{Ends}
use Rattle.farm_base.specs.Nodes.{is_node, is_client}
use Rattle.farm_model.specs.Promise.{HasOneClient}
use Rattle.farm_model.proofs.Moves.AsFarm.{other_in, ends_of, other_end, client_in, server_in}
use Rattle.farm_model.proofs.Lists.Numbering.{node_itself}
use Rattle.farm_model.proofs.Wiring.Wired.{Joins}

pub Joins-turned : {ends : Ends} {conn : ConnId} {a b : NodeNo} → Joins ends conn a b → Joins ends conn b a
Joins-turned j = record {
  numbered = j.numbered;
  nodes = j.nodes;
  made = j.made;
  pair = elim j.pair [ inl e ↦ inr e | inr e ↦ inl e ];
  apart = j.apart_turned;
  apart_turned = j.apart;
}

pub nodes_are : (ends : Ends) (conn : ConnId) (nodes : NodeNo × NodeNo) → slice_get ends (conn.0 - 1) ≡ Some nodes → ends_of ends conn ≡ nodes
nodes_are ends conn nodes made = ap (λ (o : Option (NodeNo × NodeNo)). unwrap_or o (record { 0 = 0 }, record { 0 = 0 })) made

other_first : (a b : NodeNo) → other_in (a, b) a ≡ b
other_first a b = cond-true (is_node a a) b a (node_itself a)

other_second : (a b : NodeNo) → is_node b a ≡ false → other_in (b, a) a ≡ b
other_second a b apart = cond-false (is_node b a) a b apart

-- the other end of the connection, from the first node
pub Joins-other : {ends : Ends} {conn : ConnId} {a b : NodeNo} → Joins ends conn a b → other_end ends conn a ≡ b
Joins-other {ends} {conn} {a} {b} j =
    elim j.pair [
      | inl e ↦ ap (λ (n : NodeNo × NodeNo). other_in n a) (nodes_are ends conn j.nodes j.made ∙ e) ∙ other_first a b
      | inr e ↦ ap (λ (n : NodeNo × NodeNo). other_in n a) (nodes_are ends conn j.nodes j.made ∙ e) ∙ other_second a b j.apart_turned
    ]

-- two ways to say which nodes a connection joins agree
pub Joins-same : {ends : Ends} {conn : ConnId} {a b c : NodeNo} → Joins ends conn a b → Joins ends conn a c → b ≡ c
Joins-same j k = sym (Joins-other j) ∙ Joins-other k

same_pair : {a b node peer : NodeNo} {nodes : NodeNo × NodeNo} → nodes ≡ (a, b) → nodes ≡ (node, peer) → (node ≡ a) × (peer ≡ b)
same_pair e f = let same = sym f ∙ e in (ap (λ (n : NodeNo × NodeNo). n.0) same, ap (λ (n : NodeNo × NodeNo). n.1) same)

-- a node that a connection joins with another one is one of its two ends
pub is_one_end : {ends : Ends} {conn : ConnId} {a b node peer : NodeNo} → Joins ends conn a b → Joins ends conn node peer → (node ≡ a) ⊎ (node ≡ b)
is_one_end {node} {peer} j k =
    let some : Some j.nodes ≡ Some k.nodes = sym j.made ∙ k.made in
    let same : j.nodes ≡ k.nodes = cc in
    elim j.pair [
      | inl e ↦ elim k.pair [ inl f ↦ inl (same_pair e (same ∙ f)).0 | inr f ↦ inr (same_pair e (same ∙ f)).1 ]
      | inr e ↦ elim k.pair [ inl f ↦ inr (same_pair e (same ∙ f)).0 | inr f ↦ inl (same_pair e (same ∙ f)).1 ]
    ]

-- ---- the client of a connection, and the node at its other end

module _ (site : Site) (ends : Ends) (conn : ConnId) (a b : NodeNo) (is : is_client site a ≡ true) (other : is_client site b ≡ false) where
  pub client_is : Joins ends conn a b → client_in site (ends_of ends conn) ≡ a
  client_is j = elim j.pair [
    | inl e ↦ ap (client_in site) (nodes_are ends conn j.nodes j.made ∙ e) ∙ cond-true (is_client site a) a b is
    | inr e ↦ ap (client_in site) (nodes_are ends conn j.nodes j.made ∙ e) ∙ cond-false (is_client site b) b a other
  ]

  pub server_is : Joins ends conn a b → server_in site (ends_of ends conn) ≡ b
  server_is j = elim j.pair [
    | inl e ↦ ap (server_in site) (nodes_are ends conn j.nodes j.made ∙ e) ∙ cond-true (is_client site a) b a is
    | inr e ↦ ap (server_in site) (nodes_are ends conn j.nodes j.made ∙ e) ∙ cond-false (is_client site b) a b other
  ]

-- a connection between a client and a node that is none
pub one_client : {site : Site} {all : Ends} {conn : ConnId} {client other : NodeNo} → Joins all conn client other → is_client site client ≡ true → is_client
    site other ≡ false → HasOneClient site all conn
one_client {site} {client = client} {other = other} j is none = record {
  numbered = j.numbered;
  nodes = j.nodes;
  made = j.made;
  a_client = elim j.pair [
    | inl e ↦ ap (λ (n : NodeNo × NodeNo). is_client site n.0 || is_client site n.1) e ∙ or_left (is_client site client) (is_client site other) is
    | inr e ↦ ap (λ (n : NodeNo × NodeNo). is_client site n.0 || is_client site n.1) e ∙ or_right (is_client site other) (is_client site client) is
  ];
  not_both = elim j.pair [
    | inl e ↦ ap (λ (n : NodeNo × NodeNo). is_client site n.0 && is_client site n.1) e ∙ and_right (is_client site client) (is_client site other) none
    | inr e ↦ ap (λ (n : NodeNo × NodeNo). is_client site n.0 && is_client site n.1) e ∙ and_left (is_client site other) (is_client site client) none
  ];
}
