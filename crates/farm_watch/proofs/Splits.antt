-- What a split answers, as the AVPs that octets spell.
use Rattle.std.proofs.Common.{◌≡◌, ◌≢◌, ℕ, List, [], Result, Ok, Err, sym, ap, ◌∙◌}
use Rattle.std.specs.Global.{Vec}
use Rattle.dia_avp.specs.declared.avp.RawAvp.{RawAvp}
use Rattle.dia_avp.specs.declared.fault.AvpFault.{AvpFault}
use Rattle.dia_avp.specs.declared.fault.AvpFault.TheVariants.{ShortHeader, LengthTooSmall, Overrun, TooLong, TooDeep, OutOfMemory}
use Rattle.dia_avp.specs.AvpList.{Reads, Answers}
use Rattle.dia_avp.proofs.Splitting.{Reads-only}
use Rattle.farm_watch.specs.Capabilities.{read_avps, avps_in}

pub read-ok : (octets : List ℕ) (r : Result (Vec RawAvp) AvpFault) (avps : Vec RawAvp) → Answers (Reads octets) r → r ≡ Ok avps → avps.items ≡ avps_in octets
read-ok octets (Ok found) avps h e =
    let same : found ≡ avps = cc in
    ap (λ (v : Vec RawAvp). v.items) (sym same) ∙ ap read_avps (Reads-only octets (Ok found.items) h)
read-ok octets (Err fault) avps h e = absurd cc

pub read-err : (octets : List ℕ) (r : Result (Vec RawAvp) AvpFault) (fault : AvpFault) → Answers (Reads octets) r → r ≡ Err fault → fault ≢ OutOfMemory
    → avps_in octets ≡ []
read-err octets (Ok found) fault h e other = absurd cc
read-err octets (Err OutOfMemory) fault h e other = absurd (other (cc))
read-err octets (Err (ShortHeader at)) fault h e other = ap read_avps (sym (Reads-only octets (Err (ShortHeader at)) h))
read-err octets (Err (LengthTooSmall at code)) fault h e other = ap read_avps (sym (Reads-only octets (Err (LengthTooSmall at code)) h))
read-err octets (Err (Overrun at code)) fault h e other = ap read_avps (sym (Reads-only octets (Err (Overrun at code)) h))
read-err octets (Err TooLong) fault h e other = ap read_avps (sym (Reads-only octets (Err TooLong) h))
read-err octets (Err TooDeep) fault h e other = ap read_avps (sym (Reads-only octets (Err TooDeep) h))
