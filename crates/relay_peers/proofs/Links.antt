-- Links stay one to one, and what is found in them after a change.
use Rattle.std.proofs.Common.{◌≡◌, ℕ, ◌==◌, ◌&&◌, Bool, true, false, cond, not, is_some, List, [], ◌∷◌, Option, Some, None, option_map, refl, ap, sym, ◌∙◌, arith}
use Rattle.std.specs.List.{filter, find}
use Rattle.std.proofs.lemmas.Bool.{eqb-true, eq-eqb}
use Rattle.dia_base.specs.declared.number.NodeNo.{NodeNo}
use Rattle.dia_base.specs.declared.number.ConnId.{ConnId}
use Rattle.relay_peers.specs.declared.peers.Link.{Link}
use Rattle.relay_peers.specs.PeerTable.{IsOneToOne, is_of, is_on, conn_in, peer_in, is_other, with_link, with_staying, without_conn, but_for}
use Rattle.dia_base.proofs.Counting.{count_push, count-filter}
use Rattle.dia_base.proofs.Finding.{found_passes}
use Rattle.relay_peers.proofs.Finding.{find_push, or_else, found_by_both, kept, find-filter}

abbrev conn_of : Option Link → Option ConnId
conn_of o = option_map (λ link. link.conn) o

abbrev peer_of : Option Link → Option NodeNo
peer_of o = option_map (λ link. link.peer) o

no_conn : (o : Option Link) → is_some (conn_of o) ≡ false → o ≡ None
no_conn None e = refl
no_conn (Some link) e = absurd cc

no_peer : (o : Option Link) → is_some (peer_of o) ≡ false → o ≡ None
no_peer None e = refl
no_peer (Some link) e = absurd cc

-- a peer and a connection without a link get one
pub OneToOne-with_link : (links : List Link) (peer : NodeNo) (conn : ConnId) → is_some (conn_in links peer) ≡ false → is_some (peer_in links conn) ≡ false → IsOneToOne links
    → IsOneToOne (with_link links peer conn)
OneToOne-with_link links peer conn down free one =
    let link : Link = record { peer = peer; conn = conn } in
    record {
      peers = λ other. count_push (is_of other) links link (one.peers other)
          (λ here. ap (λ (n : ℕ). find (λ (l : Link). l.peer.0 == n) links) (sym (eqb-true _ _ here)) ∙ no_conn (find (is_of peer) links) down);
      conns = λ other. count_push (is_on other) links link (one.conns other)
          (λ here. ap (λ (n : ℕ). find (λ (l : Link). l.conn.0 == n) links) (sym (eqb-true _ _ here)) ∙ no_peer (find (is_on conn) links) free);
    }

pub OneToOne-without : (links : List Link) (conn : ConnId) → IsOneToOne links → IsOneToOne (without_conn links conn)
OneToOne-without links conn one = record {
  peers = λ peer. let le = one.peers peer in omega (arith, count-filter (is_of peer) (λ link. not (is_on conn link)) links);
  conns = λ other. let le = one.conns other in omega (arith, count-filter (is_on other) (λ link. not (is_on conn link)) links);
}

left_step : (taken passes : Bool) (test : Link → Bool) (link : Link) (rest : List Link) → test link ≡ passes → (taken ≡ true → passes ≡ false) → is_some (find test rest) ≡ false
    → is_some (find test (cond taken (link ∷ rest) rest)) ≡ false
left_step false passes test link rest is apart none = none
left_step true true test link rest is apart none = absurd (let both : true ≡ false = apart refl in cc)
left_step true false test link rest is apart none = ap (λ (b : Bool). is_some (cond b (Some link) (find test rest))) is ∙ none

-- nobody of a peer, and nobody on a connection, is left where those were taken out
none_left : (test take : Link → Bool) (links : List Link) → ((link : Link) → take link ≡ true → test link ≡ false) → is_some (find test (filter take links)) ≡ false
none_left test take [] apart = refl
none_left test take (link ∷ links) apart =
    left_step (take link) (test link) test link (filter take links) refl (apart link) (none_left test take links apart)

not_of : (a b : Bool) → (not a && not b) ≡ true → (a ≡ false) × (b ≡ false)
not_of true b e = absurd cc
not_of false true e = absurd cc
not_of false false e = (refl, refl)

no_link : (o : Option Link) → is_some o ≡ false → is_some (conn_of o) ≡ false
no_link None e = refl
no_link (Some link) e = absurd cc

no_link_peer : (o : Option Link) → is_some o ≡ false → is_some (peer_of o) ≡ false
no_link_peer None e = refl
no_link_peer (Some link) e = absurd cc

-- a peer comes up anew
pub OneToOne-staying : (links : List Link) (peer : NodeNo) (conn : ConnId) → IsOneToOne links → IsOneToOne (with_staying links peer conn)
OneToOne-staying links peer conn one =
    let others = filter (is_other peer conn) links in
    let left : IsOneToOne others = record {
      peers = λ other. let le = one.peers other in omega (arith, count-filter (is_of other) (is_other peer conn) links);
      conns = λ other. let le = one.conns other in omega (arith, count-filter (is_on other) (is_other peer conn) links);
    } in
    OneToOne-with_link others peer conn
    (no_link (find (is_of peer) others) (none_left (is_of peer) (is_other peer conn) links (λ link e. (not_of (is_of peer link) (is_on conn link) e).0)))
    (no_link_peer (find (is_on conn) others) (none_left (is_on conn) (is_other peer conn) links (λ link e. (not_of (is_of peer link) (is_on conn link) e).1)))
    left

joined : (b : Bool) (o : Option Link) (link : Link) → (b ≡ true → o ≡ None) → conn_of (or_else o (cond b (Some link) None)) ≡ cond b (Some link.conn) (conn_of o)
joined true None link e = refl
joined true (Some l) link e = absurd (let none = e refl in cc)
joined false None link e = refl
joined false (Some l) link e = refl

pub conn_in-with_link : (links : List Link) (peer other : NodeNo) (conn : ConnId) → conn_in links peer ≡ None → conn_in (with_link links peer conn) other ≡ cond (peer.0 == other.0) (Some conn) (conn_in links other)
conn_in-with_link links peer other conn down =
    let link : Link = record { peer = peer; conn = conn } in
    ap conn_of (find_push (is_of other) links link)
    ∙ joined (peer.0 == other.0) (find (is_of other) links) link
    (λ here. ap (λ (n : ℕ). find (λ (l : Link). l.peer.0 == n) links) (sym (eqb-true _ _ here)) ∙ no_conn (find (is_of peer) links) (ap is_some down))

left_on : (b : Bool) (link : Link) → conn_of (cond (not b) (Some link) None) ≡ cond b None (Some link.conn)
left_on true link = refl
left_on false link = refl

left : (conn : ConnId) (o : Option Link) → conn_of (kept (λ link. not (is_on conn link)) o) ≡ but_for conn (conn_of o)
left conn None = refl
left conn (Some link) = left_on (link.conn.0 == conn.0) link

pub conn_in-without : (links : List Link) (peer : NodeNo) (conn : ConnId) → IsOneToOne links → conn_in (without_conn links conn) peer ≡ but_for conn (conn_in links peer)
conn_in-without links peer conn one = ap conn_of (find-filter (is_of peer) (λ link. not (is_on conn link)) links (one.peers peer)) ∙ left conn (find (is_of peer) links)

-- what an answer was found in
conn_found : (o : Option Link) (conn : ConnId) → conn_of o ≡ Some conn → (link : Link) × (o ≡ Some link) × (link.conn ≡ conn)
conn_found None conn e = absurd cc
conn_found (Some link) conn e = (link, refl, cc)

peer_found : (o : Option Link) (peer : NodeNo) → peer_of o ≡ Some peer → (link : Link) × (o ≡ Some link) × (link.peer ≡ peer)
peer_found None peer e = absurd cc
peer_found (Some link) peer e = (link, refl, cc)

node : ℕ → NodeNo
node n = record { 0 = n }

conn_id : ℕ → ConnId
conn_id n = record { 0 = n }

pub peer_from_conn : (links : List Link) (peer : NodeNo) (conn : ConnId) → IsOneToOne links → conn_in links peer ≡ Some conn → peer_in links conn ≡ Some peer
unfolding node
peer_from_conn links peer conn one e =
    let found = conn_found (find (is_of peer) links) conn e in
    let its : found.0.peer.0 ≡ peer.0 = eqb-true _ _ (found_passes (is_of peer) links found.0 found.1) in
    let on : is_on conn found.0 ≡ true = eq-eqb _ _ (ap (λ (c : ConnId). c.0) found.2) in
    ap peer_of (found_by_both (is_of peer) (is_on conn) links found.0 found.1 on (one.conns conn)) ∙ ap (λ (n : ℕ). Some (node n)) its

pub conn_from_peer : (links : List Link) (peer : NodeNo) (conn : ConnId) → IsOneToOne links → peer_in links conn ≡ Some peer → conn_in links peer ≡ Some conn
unfolding conn_id
conn_from_peer links peer conn one e =
    let found = peer_found (find (is_on conn) links) peer e in
    let its : found.0.conn.0 ≡ conn.0 = eqb-true _ _ (found_passes (is_on conn) links found.0 found.1) in
    let of : is_of peer found.0 ≡ true = eq-eqb _ _ (ap (λ (p : NodeNo). p.0) found.2) in
    ap conn_of (found_by_both (is_on conn) (is_of peer) links found.0 found.1 of (one.peers peer)) ∙ ap (λ (n : ℕ). Some (conn_id n)) its
