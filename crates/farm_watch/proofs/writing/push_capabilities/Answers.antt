use Rattle.std.proofs.Common.{◌≡◌, ℕ, List, ◌++◌, ap, ◌∙◌}
use Rattle.std.specs.Prelude.{flat_map}
use Rattle.dia_avp.specs.AvpList.{written, written_list}
use Rattle.farm_watch.specs.PeerMessages.{capabilities_part, own_part, state_part, vendor_part}
use Rattle.farm_watch.specs.declared.site.WatchSite.{WatchSite}
use Rattle.farm_watch.proofs.Adding.{OnOk-same, list_added}
use Rattle.farm_watch.proofs.writing.push_capabilities.Goals as goal

all : (site : WatchSite) (vendors b0 b1 b2 : List ℕ) → vendors ≡ site.advertised → b1 ≡ b0 ++ written_list (own_part site)
    → b2 ≡ b1 ++ written_list (state_part site)
    → b2 ++ written_list (flat_map vendor_part vendors) ≡ b0 ++ written_list (capabilities_part site)
all site vendors b0 b1 b2 is_vendors e1 e2 =
    ap (λ (them : List ℕ). b2 ++ written_list (flat_map vendor_part them)) is_vendors
    ∙ list_added written (state_part site) (flat_map vendor_part site.advertised) b1 b2 e2
    ∙ list_added written (own_part site) (state_part site ++ flat_map vendor_part site.advertised) b0 b1 e1

pub returns : goal.returns
returns c =
    OnOk-same c.push_vendors.result c.push_vendors.new.body.items
    (c.push_state.new.body.items ++ written_list (flat_map vendor_part c.as_slice.result.now))
    (c.args.body.now.items ++ written_list (capabilities_part c.args.site.now))
    c.push_vendors.ensures
    (all c.args.site.now c.as_slice.result.now c.args.body.now.items c.push_own.new.body.items c.push_state.new.body.items c.as_slice.ensures
    c.in_ok-push_own.ensures c.in_ok-push_state.ensures)
