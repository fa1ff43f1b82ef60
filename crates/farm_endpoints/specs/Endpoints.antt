-- Where the nodes of a site listen, and who connects to whom.
use Rattle.std.specs.Prelude.{◌≡◌, ◌≢◌, ◌==◌, ◌⊎◌, ◌+◌, ◌&&◌, ℕ, Bool, true, false, List, [], ◌∷◌, ◌++◌, Option, Some, None, IfSome, IsSomeAnd, map, filter, position, slice_get}
use Rattle.std.specs.Net.Addr.{ipv4_octets, ipv6_octets}
use Rattle.std.specs.Net.Grammar.{IsSocketText}
use Rattle.std.specs.Net.Socket.{v4_ip, v6_ip}
use Rattle.std.specs.declared.net.socket_addr.SocketAddr.{SocketAddr}
use Rattle.std.specs.declared.net.socket_addr.SocketAddr.TheVariants as socket
use Rattle.std.specs.List.{list_any}
use Rattle.dia_base.specs.Folding.{same_folded}
use Rattle.dia_base.specs.Identity.{fault_of}
use Rattle.dia_base.specs.declared.node.NodeKind.{NodeKind}
use Rattle.dia_base.specs.declared.node.NodeKind.TheVariants as kind
use Rattle.dia_base.specs.declared.number.NodeNo.{NodeNo}
use Rattle.farm_base.specs.declared.site.Node.{Node}
use Rattle.farm_base.specs.declared.site.Site.{Site}
use Rattle.farm_base.specs.Nodes.{is_linked, is_node}
use Rattle.farm_watch.specs.declared.site.Application.{Application}
use Rattle.farm_watch.specs.declared.site.Application.TheVariants as application
use Rattle.farm_watch.specs.declared.site.Goodbyes.TheVariants.{EndAtOnce}
use Rattle.farm_watch.specs.declared.site.HostAddress.{HostAddress}
use Rattle.farm_watch.specs.declared.site.HostAddress.TheVariants as host
use Rattle.farm_watch.specs.declared.site.Neighbour.{Neighbour}
use Rattle.farm_watch.specs.declared.site.WatchSite.{WatchSite}
use Rattle.farm_endpoints.specs.declared.fault.Role.{Role}
use Rattle.farm_endpoints.specs.declared.fault.Role.TheVariants as role
use Rattle.farm_endpoints.specs.declared.endpoint.Endpoint.{Endpoint}

-- ---- who it is

abbrev pub is_kind : NodeKind → NodeKind → Bool
is_kind kind.Relay kind.Relay = true
is_kind kind.Relay kind.Front = false
is_kind kind.Relay kind.Client = false
is_kind kind.Front kind.Front = true
is_kind kind.Front kind.Relay = false
is_kind kind.Front kind.Client = false
is_kind kind.Client kind.Client = true
is_kind kind.Client kind.Relay = false
is_kind kind.Client kind.Front = false

-- of this kind, and of this name without case (RFC 6733, section 4.3.1)
abbrev pub is_called : NodeKind → List ℕ → Node → Bool
is_called of_kind name node = is_kind of_kind node.kind && same_folded node.name name

-- the place of the first such node; no two nodes of a checked site have one name
abbrev pub place_named : Site → NodeKind → List ℕ → Option ℕ
place_named site of_kind name = position (is_called of_kind name) site.nodes

-- ---- where it listens

abbrev pub IsWritten : Option (List ℕ) → SocketAddr → Type 0
IsWritten None address = ⊥
IsWritten (Some text) address = IsSocketText text address

abbrev pub IsAddressIn : Option Node → SocketAddr → Type 0
IsAddressIn None address = ⊥
IsAddressIn (Some node) address = IsWritten node.address address

-- the entry of the node writes this address
abbrev pub HasAddress : Site → NodeNo → SocketAddr → Type 0
HasAddress site node address = IsAddressIn (slice_get site.nodes node.0) address

abbrev pub HasNone : Site → NodeNo → Type 0
HasNone site node = (address : SocketAddr) → ¬ HasAddress site node address

-- ---- whom it connects to

-- of a link the first node connects
abbrev pub called_by : Site → NodeNo → List NodeNo
called_by site node = map (λ link. link.to) (filter (λ link. is_node link.from node) site.links)

-- the nodes that connect to this one
abbrev pub callers_of : Site → NodeNo → List NodeNo
callers_of site node = map (λ link. link.from) (filter (λ link. is_node link.to node) site.links)

-- ---- what its connections know (RFC 6733, section 5.3)

-- a relay advertises that it relays; the others speak Credit-Control
abbrev pub application_of : NodeKind → Application
application_of kind.Relay = application.Relay
application_of kind.Front = application.CreditControl
application_of kind.Client = application.CreditControl

-- Host-IP-Address: that of its own address, else 127.0.0.1
abbrev pub host_of : Option SocketAddr → HostAddress
host_of None = host.V4 (127 ∷ 0 ∷ 0 ∷ 1 ∷ [])
host_of (Some (socket.V4 address)) = host.V4 (ipv4_octets (v4_ip address))
host_of (Some (socket.V6 address)) = host.V6 (ipv6_octets (v6_ip address))

abbrev pub neighbour_if : Bool → ℕ → Node → List Neighbour
neighbour_if true place node = record { name = node.name; node = record { 0 = place } } ∷ []
neighbour_if false place node = []

-- the nodes among these, from a place on, that the site links with it
abbrev pub neighbours_from : Site → NodeNo → ℕ → List Node → List Neighbour
neighbours_from site at place [] = []
neighbours_from site at place (node ∷ nodes) = neighbour_if (is_linked site at (record { 0 = place })) place node ++ neighbours_from site at (place + 1) nodes

abbrev pub watch_site : Site → NodeNo → Node → Option SocketAddr → WatchSite
watch_site site at node address = record {
  name = node.name;
  realm = site.realm;
  address = host_of address;
  application = application_of node.kind;
  advertised = site.advertise;
  neighbours = neighbours_from site at 0 site.nodes;
  interval = site.watchdog;
  goodbyes = EndAtOnce;
  state = None;
}

-- ---- the endpoint of a node

-- the address that the entry of the node writes, if there is one
abbrev pub IsAddressOf : Site → NodeNo → Option SocketAddr → Type 0
IsAddressOf site node None = HasNone site node
IsAddressOf site node (Some address) = HasAddress site node address

-- this endpoint is that of a node of the site, which connects to these
pub record IsEndpoint (site : Site) (at : ℕ) (peers : List NodeNo) (endpoint : Endpoint) : Type 0 where
  pub node : endpoint.node ≡ record { 0 = at }
  pub address : IsAddressOf site (record { 0 = at }) endpoint.address
  pub calls : endpoint.calls.items ≡ peers
  pub watch : (entry : Node) × (slice_get site.nodes at ≡ Some entry) × (endpoint.watch ≡ watch_site site (record { 0 = at }) entry endpoint.address)

-- ---- why not

-- the name is no identity (RFC 6733, section 4.3.1), or no such node has it
abbrev pub IsNobody : Site → NodeKind → List ℕ → Type 0
IsNobody site of_kind name = (fault_of name ≢ None) ⊎ (place_named site of_kind name ≡ None)

-- the node itself connects to a node of this name
abbrev pub connects : Site → NodeNo → ℕ → Bool
connects site from to = list_any (λ node. node.0 == to) (called_by site from)

-- the place of the first node of this name, of any kind
abbrev pub place_of_name : Site → List ℕ → Option ℕ
place_of_name site name = position (λ node. same_folded node.name name) site.nodes

-- there is such a node, and its entry writes an address
abbrev pub IsReached : Site → Option ℕ → Type 0
IsReached site None = ⊥
IsReached site (Some to) = (address : SocketAddr) × HasAddress site (record { 0 = to }) address

-- the peer's name is no identity, or no node that the client at this place connects to has it
abbrev pub IsNoPeer : Site → ℕ → List ℕ → Type 0
IsNoPeer site at peer = (fault_of peer ≢ None) ⊎ IfSome (place_of_name site peer) (λ to. connects site (record { 0 = at }) to ≡ false)

-- which of the names of a client and its peer is wrong: no client has the one; or one has it, and the other is none of its peers
abbrev pub IsUnknown : Site → List ℕ → List ℕ → Role → Type 0
IsUnknown site client peer role.Name = ⊥
IsUnknown site client peer role.Client = IsNobody site kind.Client client
IsUnknown site client peer role.Peer = IsSomeAnd (place_named site kind.Client client) (λ at. IsNoPeer site at peer)

-- such a node is in the site, and its entry writes no address
abbrev pub IsSilent : Site → Option ℕ → Type 0
IsSilent site place = IsSomeAnd place (λ at. HasNone site (record { 0 = at }))

-- the client connects to a node of the other name, which has no address
abbrev pub HasSilentPeer : Site → List ℕ → List ℕ → Type 0
HasSilentPeer site client peer =
    IsSomeAnd (place_named site kind.Client client) (λ at. IsSomeAnd (place_of_name site peer) (λ to.
    (connects site (record { 0 = at }) to ≡ true) × HasNone site (record { 0 = to })))

-- ---- the fronts of a site

abbrev pub front_if : NodeKind → ℕ → List NodeNo
front_if kind.Front place = record { 0 = place } ∷ []
front_if kind.Relay place = []
front_if kind.Client place = []

abbrev pub fronts_from : ℕ → List Node → List NodeNo
fronts_from place [] = []
fronts_from place (node ∷ nodes) = front_if node.kind place ++ fronts_from (place + 1) nodes

-- the endpoint of a node that listens, and that connects where the site says so
abbrev pub Serves : Site → Endpoint → Type 0
Serves site endpoint = IsEndpoint site endpoint.node.0 (called_by site endpoint.node) endpoint × (endpoint.address ≢ None)
