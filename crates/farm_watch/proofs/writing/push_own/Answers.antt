use Rattle.std.proofs.Common.{◌≡◌, ℕ, List, [], ◌∷◌, ◌++◌, codes, ap, ◌∙◌}
use Rattle.dia_base.specs.Codes.{auth_application_id, origin_host, origin_realm, product_name}
use Rattle.dia_avp.specs.AvpList.{written, written_list}
use Rattle.dia_dict.specs.declared.value.Typed.TheVariants.{Unsigned32, Utf8String, DiameterIdentity, Address}
use Rattle.dia_dict.specs.Reading.{avp_of}
use Rattle.farm_watch.specs.Numbers.{host_ip_address, vendor_id}
use Rattle.farm_watch.specs.PeerMessages.{address_octets, application_number, own_part, origin_part}
use Rattle.farm_watch.specs.declared.site.WatchSite.{WatchSite}
use Rattle.farm_watch.proofs.Adding.{OnOk-same, six_added}
use Rattle.farm_watch.proofs.writing.push_own.Goals as goal

all : (site : WatchSite) (n : ℕ) (text b0 b1 b2 b3 b4 : List ℕ) → text ≡ codes "Diameter relay farm" → n ≡ application_number site.application
    → b1 ≡ b0 ++ written_list (origin_part site)
    → b2 ≡ b1 ++ written (avp_of host_ip_address (Address (address_octets site.address)))
    → b3 ≡ b2 ++ written (avp_of vendor_id (Unsigned32 0)) → b4 ≡ b3 ++ written (avp_of product_name (Utf8String text))
    → b4 ++ written (avp_of auth_application_id (Unsigned32 n)) ≡ b0 ++ written_list (own_part site)
all site n text b0 b1 b2 b3 b4 is_text is_n e1 e2 e3 e4 =
    six_added written (avp_of origin_host (DiameterIdentity site.name)) (avp_of origin_realm (DiameterIdentity site.realm))
    (avp_of host_ip_address (Address (address_octets site.address)))
    (avp_of vendor_id (Unsigned32 0)) (avp_of product_name (Utf8String text)) (avp_of auth_application_id (Unsigned32 n)) b0 b1 b2 b3 b4 e1 e2 e3 e4
    ∙ ap (λ (t : List ℕ). b0 ++ written_list
    (origin_part site ++ avp_of host_ip_address (Address (address_octets site.address)) ∷ avp_of vendor_id (Unsigned32 0) ∷ avp_of product_name
    (Utf8String t) ∷ avp_of auth_application_id (Unsigned32 n) ∷ [])) is_text
    ∙ ap (λ (m : ℕ). b0 ++ written_list (origin_part site ++ avp_of host_ip_address (Address (address_octets site.address)) ∷ avp_of vendor_id
    (Unsigned32 0) ∷ avp_of product_name (Utf8String (codes "Diameter relay farm")) ∷ avp_of auth_application_id (Unsigned32 m) ∷ [])) is_n

pub returns : goal.returns
returns c =
    OnOk-same c.push_u32-2.result c.push_u32-2.new.body.items (c.push.new.body.items ++ written (avp_of auth_application_id (Unsigned32 c.number.result)))
    (c.args.body.now.items ++ written_list (own_part c.args.site.now))
    c.push_u32-2.ensures
    (all c.args.site.now c.number.result c.as_bytes.result.now c.args.body.now.items c.push_origin.new.body.items c.push_address.new.body.items
    c.push_u32.new.body.items c.push.new.body.items c.as_bytes.ensures.value c.number.ensures c.in_ok-push_origin.ensures c.in_ok-push_address.ensures
    c.in_ok-push_u32.ensures c.in_ok-push.ensures)
