-- What may look wrong in a site that is accepted.
use Rattle.std.specs.Prelude.{◌≡◌, ◌==◌, ◌++◌, ◌∷◌, ◌&&◌, ◌||◌, [], ℕ, List, Bool, true, false, not, is_none, string_bytes}
use Rattle.std.specs.List.{list_any}
use Rattle.dia_base.specs.declared.node.NodeKind.{NodeKind}
use Rattle.dia_base.specs.declared.node.NodeKind.TheVariants as kind
use Rattle.farm_access.specs.declared.strict.Strict.{Strict}
use Rattle.farm_access.specs.declared.strict.Strictness.{Strictness}
use Rattle.farm_access.specs.Strictness.{is_on}
use Rattle.farm_base.specs.declared.site.Node.{Node}
use Rattle.farm_base.specs.declared.site.Site.{Site}
use Rattle.farm_base.specs.Nodes.{is_relay}
use Rattle.farm_check.specs.declared.lines.Lines.{Lines}

-- a text with one line more
abbrev pub with_line : List ℕ → List ℕ → List ℕ
with_line [] line = line
with_line (octet ∷ text) line = (octet ∷ text) ++ 10 ∷ line

-- one line is told where there is a doubt, and nothing where there is none
abbrev pub IsToldIf : Bool → Lines → Lines → Type 0
IsToldIf true old new = (line : List ℕ) × (string_bytes new.text ≡ with_line (string_bytes old.text) line)
IsToldIf false old new = string_bytes new.text ≡ string_bytes old.text

-- the site does not ask for this
abbrev pub is_off : Strictness → Strict → Bool
is_off strictness word = not (is_on strictness word)

-- a link between this node and a relay
abbrev pub is_linked_with_relay : Site → ℕ → Bool
is_linked_with_relay site place =
    list_any (λ link. ((link.from.0 == place) && is_relay site link.to) || ((link.to.0 == place) && is_relay site link.from)) site.links

-- a relay or a front without an address cannot serve; a client that no relay knows reaches no realm
abbrev pub is_doubtful_as : NodeKind → Site → ℕ → Node → Bool
is_doubtful_as kind.Relay site place node = is_none node.address
is_doubtful_as kind.Front site place node = is_none node.address
is_doubtful_as kind.Client site place node = not (is_linked_with_relay site place)

abbrev pub is_doubtful : Site → ℕ → Node → Bool
is_doubtful site place node = is_doubtful_as node.kind site place node
