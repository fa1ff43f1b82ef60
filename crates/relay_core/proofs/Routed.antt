-- A connection is found among links but for one that ends.
use Rattle.std.proofs.Common.{◌≡◌, ◌&&◌, not, Bool, true, false, cond, List, [], ◌∷◌, Option, Some, None, option_map, refl, ap, sym, ◌∙◌}
use Rattle.std.specs.List.{filter, find}
use Rattle.dia_base.specs.declared.number.ConnId.{ConnId}
use Rattle.dia_base.specs.declared.number.NodeNo.{NodeNo}
use Rattle.relay_peers.specs.declared.peers.Link.{Link}
use Rattle.relay_peers.specs.PeerTable.{conn_in, is_of, is_on}
use Rattle.relay_core.specs.RelayState.{links_but}
use Rattle.relay_core.specs.Routing.{stands}

both_front : {X : Type 0} (p : X → Bool) (passes stays : Bool) (x : X) (found : Option X) (left : List X) → p x ≡ passes → found ≡ find p left
    → cond (passes && stays) (Some x) found ≡ find p (cond stays (x ∷ left) left)
both_front p true true x found left is rest = ap (λ (b : Bool). cond b (Some x) (find p left)) (sym is)
both_front p true false x found left is rest = rest
both_front p false true x found left is rest = rest ∙ ap (λ (b : Bool). cond b (Some x) (find p left)) (sym is)
both_front p false false x found left is rest = rest

-- what passes both tests first is what passes the one first of what the other leaves
find_both : {X : Type 0} (p take : X → Bool) (xs : List X) → find (λ x. p x && take x) xs ≡ find p (filter take xs)
find_both p take [] = refl
find_both p take (x ∷ xs) = both_front p (p x) (take x) x (find (λ y. p y && take y) xs) (filter take xs) refl (find_both p take xs)

all_left : {X : Type 0} (xs : List X) → filter (λ x. true) xs ≡ xs
all_left [] = refl
all_left (x ∷ xs) = ap (λ rest. x ∷ rest) (all_left xs)

link_but : (ended : Option ConnId) (links : List Link) (peer : NodeNo) → find (stands peer ended) links ≡ find (is_of peer) (links_but ended links)
link_but None links peer = find_both (is_of peer) (λ link. true) links ∙ ap (find (is_of peer)) (all_left links)
link_but (Some ended) links peer = find_both (is_of peer) (λ link. not (is_on ended link)) links

pub conn_but : (ended : Option ConnId) (links : List Link) (peer : NodeNo)
    → option_map (λ (link : Link). link.conn) (find (stands peer ended) links) ≡ conn_in (links_but ended links) peer
conn_but ended links peer = ap (option_map (λ (link : Link). link.conn)) (link_but ended links peer)
