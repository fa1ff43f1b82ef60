-- What a loop is, and which peers a request may be sent to (RFC 6733, sections 6.1.3, 6.1.6 and 6.1.9). Identities and realms are compared whole, without ASCII case.
use Rattle.std.specs.Prelude.{◌≡◌, ◌≢◌, ℕ, ◌==◌, ◌&&◌, Bool, true, false, List, ◌∷◌, ◌++◌, find, Any, All, Option, Some, None, Result, Ok, Err}
use Rattle.std.specs.List.{list_any}
use Rattle.dia_base.specs.Codes.{route_record}
use Rattle.dia_base.specs.Folding.{folded_of, same_folded}
use Rattle.dia_base.specs.declared.number.NodeNo.{NodeNo}
use Rattle.dia_avp.specs.declared.avp.RawAvp.{RawAvp}
use Rattle.dia_avp.specs.declared.fault.AvpFault.{AvpFault}
use Rattle.dia_avp.specs.AvpList.{IsSpelling}
use Rattle.dia_avp.specs.AvpReading.{split_of}
use Rattle.relay_routes.specs.declared.routes.Route.{Route}
use Rattle.relay_routes.specs.declared.routes.RouteFault.{RouteFault}
use Rattle.relay_routes.specs.declared.routes.RouteFault.TheVariants.{RealmUnknown, NoApplication}

-- ---- loops (6.1.3)

-- a Route-Record, code 282 of vendor 0, of the node with this identity
abbrev pub is_record_of : List ℕ → RawAvp → Bool
is_record_of node avp = (avp.code == route_record) && (avp.vendor == 0) && same_folded avp.value node

abbrev pub names_node : List ℕ → List RawAvp → Bool
names_node node avps = list_any (is_record_of node) avps

-- the Route-Record that is appended for the peer that sent the request, with the flag M (6.1.9)
abbrev pub record_of : List ℕ → RawAvp
record_of peer = record { code = route_record; flags = 64; vendor = 0; value = peer }

-- a request loops at a node where its body spells AVPs, of which one is a Route-Record of the node
abbrev pub named_in : List ℕ → Result (List RawAvp) AvpFault → Bool
named_in node (Ok avps) = names_node node avps
named_in node (Err fault) = false

abbrev pub loops : List ℕ → List ℕ → Bool
loops node body = named_in node (split_of body)

-- a Route-Record, code 282 of vendor 0, that is the node's identity
pub record IsRecordOf (node : List ℕ) (avp : RawAvp) : Type 0 where
  pub code : avp.code ≡ route_record
  pub vendor : avp.vendor ≡ 0
  pub value : folded_of avp.value ≡ folded_of node

-- what a loop is: the body of the request spells AVPs, and one of them is a Route-Record of the node
pub record IsLoop (node body : List ℕ) : Type 0 where
  pub avps : List RawAvp
  pub spelled : IsSpelling body avps
  pub named : Any (IsRecordOf node) avps

-- ---- candidates (6.1.6)

abbrev pub has_realm : List ℕ → Route → Bool
has_realm realm route = same_folded route.realm realm

abbrev pub has_realm_and_app : List ℕ → ℕ → Route → Bool
has_realm_and_app realm app route = has_realm realm route && (route.app == app)

abbrev pub peers_of : Option Route → Bool → Result (List NodeNo) RouteFault
peers_of (Some route) known = Ok route.peers
peers_of None true = Err NoApplication
peers_of None false = Err RealmUnknown

-- the peers of the first route for the realm and the application, else which of the two has no route
abbrev pub candidates_of : List Route → List ℕ → ℕ → Result (List NodeNo) RouteFault
candidates_of routes realm app = peers_of (find (has_realm_and_app realm app) routes) (list_any (has_realm realm) routes)

-- the route for a realm and an application: no route before it is for both
pub record IsFirstRoute (routes : List Route) (realm : List ℕ) (app : ℕ) (route : Route) : Type 0 where
  pub before : List Route
  pub after : List Route
  pub among : routes ≡ before ++ route ∷ after
  pub for_realm : folded_of route.realm ≡ folded_of realm
  pub for_app : route.app ≡ app
  pub first : All (λ other. folded_of other.realm ≡ folded_of realm → other.app ≢ app) before

-- what the candidates are: the peers of that route, in its order, or what no route is for
abbrev pub AreCandidates : List Route → List ℕ → ℕ → Result (List NodeNo) RouteFault → Type 0
AreCandidates routes realm app (Ok peers) = (route : Route) × IsFirstRoute routes realm app route × (route.peers ≡ peers)
AreCandidates routes realm app (Err RealmUnknown) = All (λ route. folded_of route.realm ≢ folded_of realm) routes
AreCandidates routes realm app (Err NoApplication) =
    Any (λ route. folded_of route.realm ≡ folded_of realm) routes
    × All (λ route. folded_of route.realm ≡ folded_of realm → route.app ≢ app) routes
