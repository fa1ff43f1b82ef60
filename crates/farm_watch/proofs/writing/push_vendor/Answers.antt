use Rattle.std.proofs.Common.{◌≡◌, ℕ, List, ◌++◌, ap, ◌∙◌}
use Rattle.dia_avp.specs.AvpList.{written, written_list}
use Rattle.dia_dict.specs.declared.value.Typed.TheVariants.{Grouped, Unsigned32}
use Rattle.dia_dict.specs.Reading.{avp_of, avp_with}
use Rattle.farm_watch.specs.Numbers.{supported_vendor_id, vendor_specific_application_id}
use Rattle.farm_watch.specs.PeerMessages.{vendor_application, vendor_part}
use Rattle.farm_watch.proofs.Adding.{OnOk-same, two_added}
use Rattle.farm_watch.proofs.writing.push_vendor.Goals as goal

all : (vendor : ℕ) (group b0 b1 : List ℕ) → group ≡ written_list (vendor_application vendor)
    → b1 ≡ b0 ++ written (avp_of supported_vendor_id (Unsigned32 vendor))
    → b1 ++ written (avp_with vendor_specific_application_id group) ≡ b0 ++ written_list (vendor_part vendor)
all vendor group b0 b1 is_group e1 =
    ap (λ (octets : List ℕ). b1 ++ written (avp_with vendor_specific_application_id octets)) is_group
    ∙ two_added written (avp_of supported_vendor_id (Unsigned32 vendor))
    (avp_of vendor_specific_application_id (Grouped (written_list (vendor_application vendor)))) b0 b1 e1

pub returns : goal.returns
returns c =
    OnOk-same c.push.result c.push.new.body.items (c.push_u32.new.body.items ++ written (avp_with vendor_specific_application_id c.deref.result.now))
    (c.args.body.now.items ++ written_list (vendor_part c.args.vendor))
    c.push.ensures
    (all c.args.vendor c.deref.result.now c.args.body.now.items c.push_u32.new.body.items (c.deref.ensures.value ∙ c.in_ok-group.ensures.group)
    c.in_ok-push_u32.ensures)
