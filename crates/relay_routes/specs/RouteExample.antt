-- Worked examples: two relays in front of two fronts, and the Route-Records of a request. The second realm goes round
-- between the relays.
use Rattle.std.specs.Prelude.{ℕ, List, [], ◌∷◌, codes}
use Rattle.dia_base.specs.declared.number.NodeNo.{NodeNo}
use Rattle.dia_avp.specs.declared.avp.RawAvp.{RawAvp}
use Rattle.relay_routes.specs.declared.routes.Route.{Route}

-- ---- routes

abbrev pub node : ℕ → NodeNo
node number = record { 0 = number }

abbrev pub r1 : NodeNo
r1 = node 0

abbrev pub r2 : NodeNo
r2 = node 1

abbrev pub f1 : NodeNo
f1 = node 2

abbrev pub f2 : NodeNo
f2 = node 3

-- a route of credit control, application 4
abbrev pub route : List ℕ → List NodeNo → Route
route realm peers = record { realm = realm; app = 4; peers = peers }

abbrev pub routes_of_r1 : List Route
routes_of_r1 = route (codes "ocs.example") (f1 ∷ f2 ∷ r2 ∷ []) ∷ route (codes "loop.example") (r2 ∷ []) ∷ []

abbrev pub routes_of_r2 : List Route
routes_of_r2 = route (codes "ocs.example") (f1 ∷ f2 ∷ []) ∷ route (codes "loop.example") (r1 ∷ []) ∷ []

-- ---- Route-Records

abbrev pub avp : ℕ → ℕ → List ℕ → RawAvp
avp code vendor value = record { code = code; flags = 64; vendor = vendor; value = value }

-- none of these is a Route-Record of r1.example: that of another node, an AVP of a vendor, an Origin-Host, and a longer name
abbrev pub other_avps : List RawAvp
other_avps =
    avp 282 0 (codes "r2.example") ∷ avp 282 10415 (codes "r1.example")
    ∷ avp 264 0 (codes "r1.example") ∷ avp 282 0 (codes "r1.example.") ∷ []
