-- Worked examples: which identifier a table for two requests gives. It has four places.
use Rattle.std.specs.Prelude.{◌≡◌, ◌↔◌, ℕ, List, false, true, [], None}
use Rattle.relay_hops.specs.declared.row.Row.{Row}
use Rattle.relay_hops.specs.Identifiers.{IsGiven}
use Rattle.relay_hops.specs.PendingTable.{PendingTable}

-- a request that is pending under an identifier
abbrev pub row_under : ℕ → Row
row_under hop = record {
  conn = record { 0 = 1 };
  held = record {
    origin = None;
    request = record {
      header = record { request = true; proxiable = true; error = false; resent = false; command = 272; application = 4; hop = hop; end = 7 };
      body = [];
    };
  };
}

-- a table for two requests, with these rows and this count
abbrev pub of_two : List Row → ℕ → PendingTable
of_two rows next = record { limit = 2; rows = rows; next = next }

-- this identifier is given, and no other one
abbrev pub GivesOnly : PendingTable → ℕ → ℕ → Type 0
GivesOnly pending given count = (hop next : ℕ) → IsGiven pending hop next ↔ ((hop ≡ given) × (next ≡ count))
