-- The row site: the site that a schedule runs over where no site file is given.
use Rattle.std.specs.Prelude.{ℕ, List, [], ◌∷◌, codes, Some, None, ℤ, pos, negsuc}
use Rattle.cc_book.specs.declared.account.Account.{Account}
use Rattle.cc_rating.specs.declared.tariff.Tariff.{Tariff}
use Rattle.cc_rating.specs.declared.tariff.UnitKind.TheVariants.{Octets}
use Rattle.dia_base.specs.declared.number.NodeNo.{NodeNo}
use Rattle.farm_base.specs.declared.site.Link.{Link}
use Rattle.farm_base.specs.declared.site.Node.{Node}
use Rattle.dia_base.specs.declared.node.NodeKind.{NodeKind}
use Rattle.dia_base.specs.declared.node.NodeKind.TheVariants.{Relay, Front, Client}
use Rattle.farm_base.specs.declared.site.Route.{Route}
use Rattle.farm_base.specs.declared.site.Site.{Site}

-- ---- nodes, by their numbers

abbrev pub r1 : NodeNo
r1 = record { 0 = 0 }

abbrev pub r2 : NodeNo
r2 = record { 0 = 1 }

abbrev pub f1 : NodeNo
f1 = record { 0 = 2 }

abbrev pub f2 : NodeNo
f2 = record { 0 = 3 }

abbrev pub c1 : NodeNo
c1 = record { 0 = 4 }

abbrev pub c2 : NodeNo
c2 = record { 0 = 5 }

-- a node without an address
abbrev pub node : List ℕ → NodeKind → Node
node called does = record { name = called; kind = does; address = None }

abbrev pub row_nodes : List Node
row_nodes =
    node (codes "r1.example") Relay ∷ node (codes "r2.example") Relay
    ∷ node (codes "f1.example") Front ∷ node (codes "f2.example") Front
    ∷ node (codes "c1.example") Client ∷ node (codes "c2.example") Client ∷ []

-- ---- links: the first connects

abbrev pub link : NodeNo → NodeNo → Link
link a b = record { from = a; to = b }

abbrev pub row_links : List Link
row_links =
    link c1 r1 ∷ link c2 r1 ∷ link c1 f1 ∷ link r1 r2 ∷ link r1 f1 ∷ link r1 f2 ∷ link r2 f1 ∷ link r2 f2 ∷ []

-- ---- routes

-- a route for application 4, credit control
abbrev pub route : NodeNo → List ℕ → List NodeNo → Route
route relay name candidates = record { at = relay; realm = name; app = 4; peers = candidates }

abbrev pub row_routes : List Route
row_routes =
    route r1 (codes "ocs.example") (f1 ∷ f2 ∷ r2 ∷ []) ∷ route r2 (codes "ocs.example") (f1 ∷ f2 ∷ [])
    ∷ route r1 (codes "loop.example") (r2 ∷ []) ∷ route r2 (codes "loop.example") (r1 ∷ []) ∷ []

-- ---- what the book is opened with

-- group 10: octets, 5 for each block of 1000
abbrev pub row_tariffs : List Tariff
row_tariffs =
    record {
      group = Some 10;
      ident = None;
      kind = Octets;
      block = 1000;
      price = 5;
      quantum = 5000;
      greatest = 10000;
    }
    ∷ []

-- the account of a telephone number, type 0
abbrev pub account : List ℕ → ℤ → Account
account number first = record { id_kind = 0; id = number; opening = first }

abbrev pub row_accounts : List Account
row_accounts =
    account (codes "491700000001") (pos 1000) ∷ account (codes "491700000002") (pos 12)
    ∷ account (codes "491700000003") (pos 4) ∷ account (codes "491700000004") (pos 27)
    ∷ account (codes "491700000005") (pos 25) ∷ []

abbrev pub the_row_site : Site
the_row_site = record {
  realm = codes "ocs.example";
  validity = 600;
  limit = 1048576;
  workers = 2;
  queue = 1024;
  vendors = 10415 ∷ [];
  known = [];
  tolerate = [];
  advertise = [];
  currency = 978;
  exponent = negsuc 1;
  watchdog = 30000;
  nodes = row_nodes;
  links = row_links;
  routes = row_routes;
  tariffs = row_tariffs;
  accounts = row_accounts;
}
