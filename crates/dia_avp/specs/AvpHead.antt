-- The head of an AVP, which says where its value and its padding stand.
use Rattle.std.specs.Prelude.{◌≡◌, ◌≤◌, ◌+◌, List, ℕ, length, drop, if◌then◌else◌}
use Rattle.dia_avp.specs.declared.head.Head.{Head}
use Rattle.dia_avp.specs.AvpList.{code_in, flags_in, length_in, vendor_in, has_vendor, header_len, padding_of}

-- The octets begin with the header of an AVP, and hold its value. The places are counted from their beginning.
pub record IsHeadOf (octets : List ℕ) (head : Head) : Type 0 where
  pub header : 8 ≤ length octets
  pub code : head.code ≡ code_in octets
  pub flags : head.flags ≡ flags_in octets
  pub vendor : head.vendor ≡ (if has_vendor head.flags then vendor_in octets else 0)
  pub value : head.value ≡ header_len head.flags
  pub padding : head.padding ≡ length_in octets
  pub ordered : head.value ≤ head.padding
  pub within : head.padding ≤ length octets
  pub end : head.end ≤ length octets
  pub behind : drop head.end octets ≡ drop (length_in octets + padding_of (length_in octets)) octets
