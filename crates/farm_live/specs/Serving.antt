-- What a process serves as: what its site file spells.
use Rattle.std.specs.Prelude.{◌≡◌, ℕ, Bool, List, [], Option, Some, None, slice_get}
use Rattle.cc_book.specs.declared.terms.Terms.{Terms}
use Rattle.cc_book.specs.Taking.{Ledger}
use Rattle.book_opening.specs.Opened.{now_in}
use Rattle.book_terms.specs.Difference.{Hold}
use Rattle.dia_base.specs.declared.number.NodeNo.{NodeNo}
use Rattle.farm_base.specs.declared.site.Node.{Node}
use Rattle.farm_base.specs.declared.site.Site.{Site}
use Rattle.farm_access.specs.Rules.{Policy}
use Rattle.farm_access.specs.Spelling.{Spells}
use Rattle.farm_model.specs.Run.{relay_site}
use Rattle.farm_site.specs.Spelling.{IsSiteFile}
use Rattle.farm_terms.specs.SiteAccounts.{AreTermsOf}
use Rattle.relay_core.specs.Connecting.{new_node}
use Rattle.relay_core.specs.RelayState.{RelayState}

-- one file spells the site, and says who may come up
abbrev pub IsSpelled : Site → Policy → Type 0
IsSpelled site policy = (file : List ℕ) × IsSiteFile file site × Spells file policy

-- by the entry of the node
abbrev pub IsRelayIn : Site → NodeNo → Option Node → RelayState → Type 0
IsRelayIn site node None relay = ⊥
IsRelayIn site node (Some entry) relay = (relay.node ≡ new_node (relay_site site node entry.name)) × (relay.pending.rows ≡ [])

-- This relay is that of a node of the site, with its name, peers and routes. No peer is up, and nothing is pending.
abbrev pub IsRelayOf : Site → NodeNo → RelayState → Type 0
IsRelayOf site node relay = IsRelayIn site node (slice_get site.nodes node.0) relay

-- The terms of a site hold in a book, beside whose accounts others of a file may stand, and it has the site's limit.
abbrev pub IsServed : Site → Bool → Ledger → Type 0
IsServed site with_file book = (wanted : Terms) × AreTermsOf site with_file wanted × Hold (now_in book) wanted × (book.limit ≡ site.limit)
