-- The AVPs that a refusal may name: one of the request's, at whatever depth, as it was received or in its
-- least form; one that is missing; or the one at which a list of AVPs is cut off.
use Rattle.std.specs.Prelude.{◌≡◌, ℕ, List, Contains, Some, Ok, Err}
use Rattle.dia_avp.specs.declared.avp.RawAvp.{RawAvp}
use Rattle.dia_avp.specs.declared.fault.AvpFault.{AvpFault}
use Rattle.dia_avp.specs.AvpReading.{split_of}
use Rattle.cc_view.specs.Refusal.FailedAvp.{broken_avp_in, least_form, missing_avp}

-- the body itself, and the value of each AVP in octets that are such a list
pub data Holds (body : List ℕ) : List ℕ → Type 0 where
  whole : Holds body body
  value : (octets : List ℕ) (avps : List RawAvp) (avp : RawAvp) → Holds body octets → split_of octets ≡ Ok avps → Contains avps avp → Holds body avp.value

-- an AVP of such a list
pub record IsIn (body : List ℕ) (avp : RawAvp) : Type 0 where
  pub octets : List ℕ
  pub avps : List RawAvp
  pub holds : Holds body octets
  pub list : split_of octets ≡ Ok avps
  pub among : Contains avps avp

pub data IsFaultOf (body : List ℕ) : RawAvp → Type 0 where
  received : (avp : RawAvp) → IsIn body avp → IsFaultOf body avp
  shortened : (avp : RawAvp) → IsIn body avp → IsFaultOf body (least_form avp.code avp.flags avp.vendor)
  lacking : (code : ℕ) → IsFaultOf body (missing_avp code)
  cut_off : (octets : List ℕ) (fault : AvpFault) (avp : RawAvp) → Holds body octets → split_of octets ≡ Err fault → broken_avp_in octets fault ≡ Some avp → IsFaultOf body avp
