-- The Route-Record of each node of a checked site has a spelling.
use Rattle.std.proofs.Common.{◌≡◌, ℕ, ◌≤◌, List, [], length, Option, Some, None, refl, arith, leb-true, lit≤}
use Rattle.std.specs.Prelude.{nat_le, slice_get}
use Rattle.std.specs.List.{list_all}
use Rattle.std.proofs.lemmas.Bool.{and_parts}
use Rattle.dia_base.specs.declared.number.NodeNo.{NodeNo}
use Rattle.dia_avp.specs.AvpList.{HasSpelling}
use Rattle.relay_routes.specs.Routing.{record_of}
use Rattle.farm_base.specs.declared.site.Node.{Node}
use Rattle.farm_base.specs.declared.site.Site.{Site}
use Rattle.farm_base.specs.CheckedSite.{is_within, is_visible, is_sound_name}
use Rattle.farm_model.specs.SoundSite.{IsSound}
use Rattle.farm_base.specs.Nodes.{name_in, name_at}
use Rattle.farm_model.proofs.Lists.Among.{Has-get}
use Rattle.farm_model.proofs.Lists.Finding.{all_has}

short_spells : (name : List ℕ) → length name ≤ 255 → HasSpelling (record_of name)
short_spells name short = record { code = lit≤ tt; vendor = lit≤ tt; no_vendor = λ e. refl; long = (omega (arith, short)) }

pub spells : (site : Site) → IsSound site → (node : NodeNo) → HasSpelling (record_of (name_at site node))
spells site checked node = go (slice_get site.nodes node.0) refl
  where
    go : (found : Option Node) → slice_get site.nodes node.0 ≡ found → HasSpelling (record_of (name_in found))
    go None at = short_spells [] (omega arith)
    go (Some found) at =
        let sound = all_has is_sound_name checked.sound_names (Has-get site.nodes node.0 at) in
        let sized = (and_parts (is_within 1 255 (length found.name)) (list_all is_visible found.name) sound).0 in
        short_spells found.name (leb-true (length found.name) 255 (and_parts (nat_le 1 (length found.name)) (nat_le (length found.name) 255) sized).1)
