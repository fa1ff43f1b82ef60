use Rattle.std.proofs.Common.{◌≡◌, ℕ, List, [], ◌++◌, ap, ◌∙◌}
use Rattle.std.specs.Prelude.{flat_map, None, Option}
use Rattle.std.proofs.lemmas.List.{append-nil}
use Rattle.dia_avp.specs.declared.avp.RawAvp.{RawAvp}
use Rattle.farm_watch.specs.Numbers.{capabilities_exchange}
use Rattle.farm_watch.specs.PeerMessages.{answer_header, capabilities_part, cea, cer, message_of, own_part, request_header, result_part, state_in, vendor_part}
use Rattle.farm_watch.specs.declared.site.WatchSite.{WatchSite}
use Rattle.farm_watch.proofs.laws.no_vendor_adds_no_octet.Goals as goal

own : (site : WatchSite) → site.state ≡ None → site.advertised ≡ [] → capabilities_part site ≡ own_part site
own site stateless none =
    ap (λ (state : Option ℕ). own_part site ++ state_in state ++ flat_map vendor_part site.advertised) stateless
    ∙ ap (λ (vendors : List ℕ). own_part site ++ flat_map vendor_part vendors) none
    ∙ append-nil (own_part site)

pub returns-clause-cer : goal.returns-clause-cer
unfolding cer
returns-clause-cer c = λ site identifier stateless none. ap (λ (avps : List RawAvp). message_of (request_header capabilities_exchange identifier) avps) (own site stateless none)

pub returns-clause-cea : goal.returns-clause-cea
unfolding cea
returns-clause-cea c = λ site code request stateless none. ap (λ (avps : List RawAvp). message_of (answer_header request) (result_part code ++ avps)) (own site stateless none)
