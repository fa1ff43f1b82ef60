-- What a split answers, by the one reading.
use Rattle.std.proofs.Common.{◌≡◌, ◌≢◌, ℕ, List, Some, None, Result, Ok, Err, sym, ap, ◌∙◌}
use Rattle.std.specs.Global.{Vec}
use Rattle.dia_avp.specs.declared.avp.RawAvp.{RawAvp}
use Rattle.dia_avp.specs.declared.fault.AvpFault.{AvpFault}
use Rattle.dia_avp.specs.declared.fault.AvpFault.TheVariants.{ShortHeader, LengthTooSmall, Overrun, TooLong, TooDeep, OutOfMemory}
use Rattle.dia_avp.specs.AvpList.{Reads, Answers}
use Rattle.dia_avp.specs.AvpReading.{split_of}
use Rattle.dia_avp.proofs.Splitting.{Reads-only}
use Rattle.cc_view.specs.declared.refusal.Refusal.{Refusal}
use Rattle.cc_view.specs.Refusal.{avps_by, avps_of, refusal_of_octets}
use Rattle.cc_view.specs.RequestView.Splitting.{readable_of}

abbrev read : List RawAvp → Result (List RawAvp) AvpFault
read avps = Ok avps

-- what is readable is what the octets split into
pub split-readable : (octets : List ℕ) (r : Result (Vec RawAvp) AvpFault) (avps : Vec RawAvp) → Answers (Reads octets) r → readable_of r ≡ Ok (Some avps) → split_of octets ≡ Ok avps.items
split-readable octets (Ok found) avps h e = let same : found ≡ avps = cc in sym (Reads-only octets (Ok found.items) h) ∙ ap (λ (v : Vec RawAvp). read v.items) same
split-readable octets (Err OutOfMemory) avps h e = absurd cc
split-readable octets (Err (ShortHeader at)) avps h e = absurd cc
split-readable octets (Err (LengthTooSmall at code)) avps h e = absurd cc
split-readable octets (Err (Overrun at code)) avps h e = absurd cc
split-readable octets (Err TooLong) avps h e = absurd cc
split-readable octets (Err TooDeep) avps h e = absurd cc

-- what is not readable has a fault
pub split-unreadable : (octets : List ℕ) (r : Result (Vec RawAvp) AvpFault) → Answers (Reads octets) r → readable_of r ≡ Ok None → (fault : AvpFault) × (split_of octets ≡ Err fault)
split-unreadable octets (Ok found) h e = absurd cc
split-unreadable octets (Err OutOfMemory) h e = absurd cc
split-unreadable octets (Err (ShortHeader at)) h e = (ShortHeader at, sym (Reads-only octets (Err (ShortHeader at)) h))
split-unreadable octets (Err (LengthTooSmall at code)) h e = (LengthTooSmall at code, sym (Reads-only octets (Err (LengthTooSmall at code)) h))
split-unreadable octets (Err (Overrun at code)) h e = (Overrun at code, sym (Reads-only octets (Err (Overrun at code)) h))
split-unreadable octets (Err TooLong) h e = (TooLong, sym (Reads-only octets (Err TooLong) h))
split-unreadable octets (Err TooDeep) h e = (TooDeep, sym (Reads-only octets (Err TooDeep) h))

abbrev listed : List RawAvp → Result (List RawAvp) Refusal
listed avps = Ok avps

unlisted : (octets : List ℕ) (fault given : AvpFault) → Err fault ≡ split_of octets → fault ≡ given → avps_of octets ≡ Err (refusal_of_octets octets given)
unlisted octets fault given is same = ap (avps_by octets) (sym is) ∙ ap (λ (x : AvpFault). avps_by octets (Err x)) same

-- the AVPs of a split are the list
pub listed-ok : (octets : List ℕ) (r : Result (Vec RawAvp) AvpFault) (avps : Vec RawAvp) → Answers (Reads octets) r → r ≡ Ok avps → avps_of octets ≡ Ok avps.items
listed-ok octets (Ok found) avps h e = let same : found ≡ avps = cc in ap (avps_by octets) (sym (Reads-only octets (Ok found.items) h)) ∙ ap (λ (v : Vec RawAvp). listed v.items) same
listed-ok octets (Err fault) avps h e = absurd cc

-- a fault of the octets is their refusal
pub listed-err : (octets : List ℕ) (r : Result (Vec RawAvp) AvpFault) (fault : AvpFault) → Answers (Reads octets) r → r ≡ Err fault → fault ≢ OutOfMemory → avps_of octets ≡ Err (refusal_of_octets octets fault)
listed-err octets (Ok found) fault h e other = absurd cc
listed-err octets (Err OutOfMemory) fault h e other = absurd (other (cc))
listed-err octets (Err (ShortHeader at)) fault h e other = unlisted octets (ShortHeader at) fault (Reads-only octets (Err (ShortHeader at)) h) (cc)
listed-err octets (Err (LengthTooSmall at code)) fault h e other = unlisted octets (LengthTooSmall at code) fault (Reads-only octets (Err (LengthTooSmall at code)) h) (cc)
listed-err octets (Err (Overrun at code)) fault h e other = unlisted octets (Overrun at code) fault (Reads-only octets (Err (Overrun at code)) h) (cc)
listed-err octets (Err TooLong) fault h e other = unlisted octets TooLong fault (Reads-only octets (Err TooLong) h) (cc)
listed-err octets (Err TooDeep) fault h e other = unlisted octets TooDeep fault (Reads-only octets (Err TooDeep) h) (cc)
