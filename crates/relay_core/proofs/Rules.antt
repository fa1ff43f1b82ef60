-- The rules on candidates, and the way in which the code finds one.
use Rattle.std.proofs.Common.{◌≡◌, ◌∙◌, ℕ, not, ◌&&◌, ◌||◌, Bool, true, false, cond, is_some, is_none, List, [], ◌∷◌, ◌++◌, Option, Some, None, option_map, Result, Ok, Err, refl, ap, sym}
use Rattle.std.specs.List.{find}
use Rattle.std.proofs.lemmas.List.Folds.{list_any-append}
use Rattle.dia_base.specs.Codes.{destination_realm, destination_host}
use Rattle.dia_base.specs.declared.number.ConnId.{ConnId}
use Rattle.dia_base.specs.declared.number.NodeNo.{NodeNo}
use Rattle.dia_avp.specs.declared.avp.RawAvp.{RawAvp}
use Rattle.dia_message.specs.declared.message.Message.{Message}
use Rattle.dia_grammar.specs.Grammar.{is_of}
use Rattle.cc_view.specs.Refusal.{refusal_with}
use Rattle.cc_view.specs.declared.code.ResultCode.{ResultCode}
use Rattle.cc_view.specs.declared.code.ResultCode.TheVariants.{CommandUnsupported, UnableToDeliver, RealmNotServed, TooBusy, LoopDetected, ApplicationUnsupported}
use Rattle.cc_view.specs.declared.refusal.Refusal.{Refusal}
use Rattle.relay_peers.specs.declared.peers.LinkedPeer.{LinkedPeer}
use Rattle.relay_peers.specs.PeerTable.{conn_in, peer_numbered}
use Rattle.dia_base.specs.declared.node.NodeKind.{NodeKind}
use Rattle.dia_base.specs.declared.node.NodeKind.TheVariants.{Relay, Front, Client}
use Rattle.relay_routes.specs.declared.routes.RouteFault.{RouteFault}
use Rattle.relay_routes.specs.declared.routes.RouteFault.TheVariants.{RealmUnknown, NoApplication}
use Rattle.relay_routes.specs.Routing.{is_record_of, names_node, record_of}
use Rattle.relay_hops.specs.PendingTable.{is_full}
use Rattle.relay_core.specs.declared.node.RelayNode.{RelayNode}
use Rattle.relay_core.specs.RelayState.{RelayState}
use Rattle.relay_core.specs.Forwarding.{recorded, is_too_long}
use Rattle.relay_core.specs.NextHop.{host_in, realm_in, peer_for, candidates_for, outgoing, names_peer, conn_for, or_later, first_conn, deliverable, hop_to_host, hop_by_realm, hop_by_host, next_hop}
use Rattle.relay_core.specs.Verdict.{is_for_itself, is_kind_of_client, is_client, candidates, candidates_in, conn_among, is_of_unknown_realm, lacks_application, listed_candidates, with_no_avp, verdict}

-- a connection that was found, where there is room for a request more
abbrev pub with_room : Bool → Result ConnId ResultCode → Result ConnId Refusal
with_room full (Err code) = Err (refusal_with code)
with_room full (Ok conn) = cond full (Err (refusal_with TooBusy)) (Ok conn)

abbrev by_first : Bool → Option ConnId → Result ConnId Refusal
by_first full conn = cond (is_none conn) (Err (refusal_with UnableToDeliver)) (cond full (Err (refusal_with TooBusy)) (with_no_avp (deliverable conn)))

abbrev by_candidates : Bool → RelayNode → List RawAvp → Bool → Result (List NodeNo) RouteFault → Result ConnId Refusal
by_candidates full node avps client found =
    cond client (Err (refusal_with UnableToDeliver))
    (cond (is_of_unknown_realm found) (Err (refusal_with RealmNotServed))
    (cond (lacks_application found) (Err (refusal_with UnableToDeliver))
    (by_first full (first_conn node avps (listed_candidates found)))))

first-is : (full : Bool) (conn : Option ConnId) → by_first full conn ≡ with_room full (deliverable conn)
first-is full None = refl
first-is true (Some conn) = refl
first-is false (Some conn) = refl

alone : (o : Option ConnId) → or_later o None ≡ o
alone None = refl
alone (Some conn) = refl

host-is : (full : Bool) (node : RelayNode) (avps : List RawAvp) (peer : NodeNo) (kind : NodeKind)
    → by_candidates full node avps (is_kind_of_client kind) (Ok (peer ∷ [])) ≡ with_room full (hop_to_host node avps peer kind)
host-is full node avps peer Client = refl
host-is full node avps peer Relay = ap (by_first full) (alone (conn_for node avps peer)) ∙ first-is full (conn_for node avps peer)
host-is full node avps peer Front = ap (by_first full) (alone (conn_for node avps peer)) ∙ first-is full (conn_for node avps peer)

realm-is : (full : Bool) (node : RelayNode) (avps : List RawAvp) (found : Result (List NodeNo) RouteFault)
    → by_candidates full node avps false found ≡ with_room full (hop_by_realm node avps found)
realm-is full node avps (Err RealmUnknown) = refl
realm-is full node avps (Err NoApplication) = refl
realm-is full node avps (Ok peers) = first-is full (first_conn node avps peers)

hop-is : (full : Bool) (node : RelayNode) (avps : List RawAvp) (peer : Option LinkedPeer) (realm : Option (List ℕ)) (app : ℕ)
    → by_candidates full node avps (is_client peer) (candidates node peer realm app) ≡ with_room full (hop_by_host node avps peer realm app)
hop-is full node avps (Some peer) realm app = host-is full node avps peer.peer peer.kind
hop-is full node avps None realm app = realm-is full node avps (candidates_for node realm app)

-- ---- the Route-Record that is appended changes no other AVP

first_before : {X : Type 0} (p : X → Bool) (xs : List X) (x : X) → p x ≡ false → find p (xs ++ x ∷ []) ≡ find p xs
first_before p [] x e = ap (λ b. cond b (Some x) None) e
first_before p (y ∷ xs) x e = ap (λ rest. cond (p y) (Some y) rest) (first_before p xs x e)

abbrev going : List ℕ → List RawAvp → List RawAvp
going sender avps = outgoing (Some sender) avps

host-going : (sender : List ℕ) (avps : List RawAvp) → host_in (going sender avps) ≡ host_in avps
host-going sender avps = ap (option_map (λ (avp : RawAvp). avp.value)) (first_before (is_of destination_host) avps (record_of sender) refl)

realm-going : (sender : List ℕ) (avps : List RawAvp) → realm_in (going sender avps) ≡ realm_in avps
realm-going sender avps = ap (option_map (λ (avp : RawAvp). avp.value)) (first_before (is_of destination_realm) avps (record_of sender) refl)

-- where a request goes, by the AVPs as they came and the Route-Record behind them
pub next_hop_by_host : (node : RelayNode) (sender : Option (List ℕ)) (avps : List RawAvp) (app : ℕ)
    → hop_by_host node (outgoing sender avps) (peer_for node (host_in avps)) (realm_in avps) app ≡ next_hop node (outgoing sender avps) app
next_hop_by_host node None avps app = refl
next_hop_by_host node (Some sender) avps app =
    ap (λ (host : Option (List ℕ)). hop_by_host node (going sender avps) (peer_for node host) (realm_in avps) app) (sym (host-going sender avps))
    ∙ ap (λ (realm : Option (List ℕ)). hop_by_host node (going sender avps) (peer_for node (host_in (going sender avps))) realm app) (sym (realm-going sender avps))

hop_found : (node : RelayNode) (sender : Option (List ℕ)) (avps : List RawAvp) (app : ℕ) (host : Option LinkedPeer) (realm : Option (List ℕ)) (result : Result ConnId ResultCode)
    → result ≡ hop_by_host node (outgoing sender avps) host realm app → host ≡ peer_for node (host_in avps) → realm ≡ realm_in avps → result ≡ next_hop node (outgoing sender avps) app
hop_found node sender avps app host realm result found host_is realm_is =
    found
    ∙ ap (λ (h : Option LinkedPeer). hop_by_host node (outgoing sender avps) h realm app) host_is
    ∙ ap (λ (r : Option (List ℕ)). hop_by_host node (outgoing sender avps) (peer_for node (host_in avps)) r app) realm_is
    ∙ next_hop_by_host node sender avps app

-- ---- candidates go by the nodes that Route-Records name

-- AVPs that name the same nodes
abbrev pub NamesAlike : List RawAvp → List RawAvp → Type 0
NamesAlike avps others = (name : List ℕ) → names_node name avps ≡ names_node name others

outgoing-alike : (sender : Option (List ℕ)) (avps others : List RawAvp) → NamesAlike avps others → NamesAlike (outgoing sender avps) (outgoing sender others)
outgoing-alike None avps others alike name = alike name
outgoing-alike (Some sender) avps others alike name =
    list_any-append (is_record_of name) avps (record_of sender ∷ [])
    ∙ ap (λ (b : Bool). b || names_node name (record_of sender ∷ [])) (alike name)
    ∙ sym (list_any-append (is_record_of name) others (record_of sender ∷ []))

peer-alike : (avps others : List RawAvp) → NamesAlike avps others → (peer : Option LinkedPeer) → names_peer avps peer ≡ names_peer others peer
peer-alike avps others alike (Some peer) = let one = alike peer.name in cc
peer-alike avps others alike None = refl

conn-alike : (node : RelayNode) (avps others : List RawAvp) → NamesAlike avps others → (peer : NodeNo) → conn_for node avps peer ≡ conn_for node others peer
conn-alike node avps others alike peer =
    ap (λ (b : Bool). cond b None (conn_in node.peers.links peer)) (peer-alike avps others alike (peer_numbered node.peers.linked peer))

first-alike : (node : RelayNode) (avps others : List RawAvp) → NamesAlike avps others → (peers : List NodeNo) → first_conn node avps peers ≡ first_conn node others peers
first-alike node avps others alike [] = refl
first-alike node avps others alike (peer ∷ peers) =
    let one = conn-alike node avps others alike peer in
    let more = first-alike node avps others alike peers in cc

to_host-alike : (node : RelayNode) (avps others : List RawAvp) → NamesAlike avps others → (peer : NodeNo) (kind : NodeKind) → hop_to_host node avps peer kind ≡ hop_to_host node others peer kind
to_host-alike node avps others alike peer Client = let one = conn-alike node avps others alike peer in cc
to_host-alike node avps others alike peer Relay = let one = conn-alike node avps others alike peer in cc
to_host-alike node avps others alike peer Front = let one = conn-alike node avps others alike peer in cc

by_realm-alike : (node : RelayNode) (avps others : List RawAvp) → NamesAlike avps others → (found : Result (List NodeNo) RouteFault)
    → hop_by_realm node avps found ≡ hop_by_realm node others found
by_realm-alike node avps others alike (Err RealmUnknown) = refl
by_realm-alike node avps others alike (Err NoApplication) = refl
by_realm-alike node avps others alike (Ok peers) = ap deliverable (first-alike node avps others alike peers)

by_host-alike : (node : RelayNode) (avps others : List RawAvp) → NamesAlike avps others → (peer : Option LinkedPeer) (realm : Option (List ℕ)) (app : ℕ)
    → hop_by_host node avps peer realm app ≡ hop_by_host node others peer realm app
by_host-alike node avps others alike (Some peer) realm app = to_host-alike node avps others alike peer.peer peer.kind
by_host-alike node avps others alike None realm app = by_realm-alike node avps others alike (candidates_for node realm app)

-- by AVPs that name the same nodes, and what was read of the others
pub hop_read : (node : RelayNode) (sender : Option (List ℕ)) (part avps : List RawAvp) (app : ℕ) (host : Option LinkedPeer) (realm : Option (List ℕ)) (result : Result ConnId ResultCode)
    → NamesAlike part avps → result ≡ hop_by_host node (outgoing sender part) host realm app → host ≡ peer_for node (host_in avps) → realm ≡ realm_in avps
    → result ≡ next_hop node (outgoing sender avps) app
hop_read node sender part avps app host realm result alike found host_is realm_is =
    hop_found node sender avps app host realm result (found ∙ by_host-alike node (outgoing sender part) (outgoing sender avps) (outgoing-alike sender part avps alike) host realm app) host_is realm_is

none_of : (a b c d e : Bool) (p q r s t rest : Result ConnId Refusal) → a ≡ false → b ≡ false → c ≡ false → d ≡ false → e ≡ false
    → cond a p (cond b q (cond c r (cond d s (cond e t rest)))) ≡ rest
none_of true b c d e p q r s t rest x y z u v = absurd cc
none_of false true c d e p q r s t rest x y z u v = absurd cc
none_of false false true d e p q r s t rest x y z u v = absurd cc
none_of false false false true e p q r s t rest x y z u v = absurd cc
none_of false false false false true p q r s t rest x y z u v = absurd cc
none_of false false false false false p q r s t rest x y z u v = refl

-- where none of the rules on the request itself applies, candidates and room decide
pub verdict_by_hop : (relay : RelayState) (sender : List ℕ) (request : Message) (avps : List RawAvp)
    → names_node relay.node.name avps ≡ false → not request.header.proxiable ≡ false → (is_some (host_in avps) && is_none (realm_in avps)) ≡ false
    → is_for_itself relay.node.name (host_in avps) (realm_in avps) ≡ false → is_too_long (recorded sender request.body) ≡ false
    → verdict relay sender request (Ok avps) ≡ with_room (is_full relay.pending) (next_hop relay.node (outgoing (Some sender) avps) request.header.application)
verdict_by_hop relay sender request avps a b c d e =
    none_of (names_node relay.node.name avps) (not request.header.proxiable) (is_some (host_in avps) && is_none (realm_in avps))
    (is_for_itself relay.node.name (host_in avps) (realm_in avps)) (is_too_long (recorded sender request.body))
    (Err (refusal_with LoopDetected)) (Err (refusal_with CommandUnsupported)) (Err (refusal_with UnableToDeliver)) (Err (refusal_with ApplicationUnsupported)) (Err (refusal_with UnableToDeliver))
    (by_candidates (is_full relay.pending) relay.node (going sender avps) (is_client (peer_for relay.node (host_in avps))) (candidates_in relay.node avps request.header.application))
    a b c d e
    ∙ hop-is (is_full relay.pending) relay.node (going sender avps) (peer_for relay.node (host_in avps)) (realm_in avps) request.header.application
    ∙ ap (with_room (is_full relay.pending)) (next_hop_by_host relay.node (Some sender) avps request.header.application)

-- the same from the side of a result
pub by_rules : (relay : RelayState) (sender : List ℕ) (request : Message) (avps : List RawAvp) (hop : Result ConnId ResultCode) (result : Result ConnId Refusal)
    → names_node relay.node.name avps ≡ false → not request.header.proxiable ≡ false → (is_some (host_in avps) && is_none (realm_in avps)) ≡ false
    → is_for_itself relay.node.name (host_in avps) (realm_in avps) ≡ false → is_too_long (recorded sender request.body) ≡ false
    → hop ≡ next_hop relay.node (outgoing (Some sender) avps) request.header.application → result ≡ with_room (is_full relay.pending) hop
    → result ≡ verdict relay sender request (Ok avps)
by_rules relay sender request avps hop result a b c d e hop_is is =
    is ∙ ap (with_room (is_full relay.pending)) hop_is ∙ sym (verdict_by_hop relay sender request avps a b c d e)

sixth_of : (a b c d e : Bool) (p q r s t rest : Result ConnId Refusal) → a ≡ false → b ≡ false → c ≡ false → d ≡ false → e ≡ true
    → cond a p (cond b q (cond c r (cond d s (cond e t rest)))) ≡ t
sixth_of true b c d e p q r s t rest x y z u v = absurd cc
sixth_of false true c d e p q r s t rest x y z u v = absurd cc
sixth_of false false true d e p q r s t rest x y z u v = absurd cc
sixth_of false false false true e p q r s t rest x y z u v = absurd cc
sixth_of false false false false true p q r s t rest x y z u v = refl
sixth_of false false false false false p q r s t rest x y z u v = absurd cc

-- where only the length is wrong among those, the request is refused for it
pub verdict-too_long : (relay : RelayState) (sender : List ℕ) (request : Message) (avps : List RawAvp)
    → names_node relay.node.name avps ≡ false → not request.header.proxiable ≡ false → (is_some (host_in avps) && is_none (realm_in avps)) ≡ false
    → is_for_itself relay.node.name (host_in avps) (realm_in avps) ≡ false → is_too_long (recorded sender request.body) ≡ true
    → verdict relay sender request (Ok avps) ≡ Err (refusal_with UnableToDeliver)
verdict-too_long relay sender request avps a b c d e =
    sixth_of (names_node relay.node.name avps) (not request.header.proxiable) (is_some (host_in avps) && is_none (realm_in avps))
    (is_for_itself relay.node.name (host_in avps) (realm_in avps)) (is_too_long (recorded sender request.body))
    (Err (refusal_with LoopDetected)) (Err (refusal_with CommandUnsupported)) (Err (refusal_with UnableToDeliver)) (Err (refusal_with ApplicationUnsupported)) (Err (refusal_with UnableToDeliver))
    (by_candidates (is_full relay.pending) relay.node (going sender avps) (is_client (peer_for relay.node (host_in avps))) (candidates_in relay.node avps request.header.application))
    a b c d e

-- ---- a request is forwarded only where there is room

passed : (b : Bool) (refusal : Refusal) (rest : Result ConnId Refusal) (to : ConnId) → cond b (Err refusal) rest ≡ Ok to → rest ≡ Ok to
passed true refusal rest to e = absurd cc
passed false refusal rest to e = e

room : (full : Bool) (refusal : Refusal) (rest : Result ConnId Refusal) (to : ConnId) → cond full (Err refusal) rest ≡ Ok to → (full ≡ false) × (rest ≡ Ok to)
room true refusal rest to e = absurd cc
room false refusal rest to e = (refl, e)

hop-back : (full : Bool) (node : RelayNode) (avps : List RawAvp) (peer : Option LinkedPeer) (realm : Option (List ℕ)) (app : ℕ) (conn : ConnId)
    → by_candidates full node avps (is_client peer) (candidates node peer realm app) ≡ Ok conn → with_room full (hop_by_host node avps peer realm app) ≡ Ok conn
hop-back full node avps peer realm app conn is = sym (hop-is full node avps peer realm app) ∙ is

with_room-kept : (full : Bool) (hop : Result ConnId ResultCode) (to : ConnId) → full ≡ false → with_room full hop ≡ Ok to → hop ≡ Ok to
with_room-kept true hop to free is = absurd cc
with_room-kept false (Err code) to free is = absurd cc
with_room-kept false (Ok conn) to free is = let same : conn ≡ to = cc in ap (λ (c : ConnId). Ok c) same

-- nothing refuses a request that is forwarded, and it goes to the first candidate that is up and not passed over
pub forwarded-by : (relay : RelayState) (sender : List ℕ) (request : Message) (r : Result (List RawAvp) Refusal) (to : ConnId) → verdict relay sender request r ≡ Ok to
    → (is_full relay.pending ≡ false) × (is_too_long (recorded sender request.body) ≡ false) × ((avps : List RawAvp) × (r ≡ Ok avps) × (names_node relay.node.name avps ≡ false) × (next_hop relay.node (outgoing (Some sender) avps) request.header.application ≡ Ok to))
forwarded-by relay sender request (Err refusal) to e = absurd cc
forwarded-by relay sender request (Ok avps) to e =
    let found = candidates_in relay.node avps request.header.application in
    let client = is_client (peer_for relay.node (host_in avps)) in
    let second = room (names_node relay.node.name avps) _ _ to e in
    let sixth = room (is_too_long (recorded sender request.body)) _ _ to
    (passed (is_for_itself relay.node.name (host_in avps) (realm_in avps)) _ _ to
    (passed (is_some (host_in avps) && is_none (realm_in avps)) _ _ to
    (passed (not request.header.proxiable) _ _ to second.1))) in
    let eleventh = passed (is_none (conn_among relay.node sender avps found)) _ _ to (passed (lacks_application found) _ _ to (passed (is_of_unknown_realm found) _ _ to (passed client _ _ to sixth.1))) in
    let twelfth = room (is_full relay.pending) _ _ to eleventh in (
      twelfth.0,
      sixth.0,
      (
        avps,
        refl,
        second.0,
        sym (next_hop_by_host relay.node (Some sender) avps request.header.application)
            ∙ with_room-kept (is_full relay.pending) (hop_by_host relay.node (going sender avps) (peer_for relay.node (host_in avps)) (realm_in avps) request.header.application) to twelfth.0
            (hop-back (is_full relay.pending) relay.node (going sender avps) (peer_for relay.node (host_in avps)) (realm_in avps) request.header.application to sixth.1),
      ),
    )
