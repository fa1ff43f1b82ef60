-- How many octets AVPs take where they are written, and that they are read back.
use Rattle.std.proofs.Common.{◌≡◌, ℕ, ◌+◌, ◌<◌, ◌≤◌, ◌^◌, ◌%◌, List, [], ◌∷◌, ◌++◌, length, All, Option, Some, None, refl, ap, ◌∙◌, length-append, arith, lit≤}
use Rattle.std.proofs.lemmas.List.Elements.{All-append, All-cons, All-nil}
use Rattle.dia_avp.specs.declared.avp.RawAvp.{RawAvp}
use Rattle.dia_avp.specs.AvpList.{HasSpelling, length_of, padding_of, written}
use Rattle.dia_avp.proofs.ReadBack.{length_spelling}
use Rattle.cc_view.specs.Answer.Carried.{padded_len}
use Rattle.cc_view.specs.Answer.Writing.{group_avp, octets_avp, spelling_of, u32_avp, u64_avp}
use Rattle.cc_view.specs.Answer.{optional_u32}
use Rattle.cc_view.proofs.Drafts.{spelled_len, spelled_len-append}

-- ---- lengths

pub spelled_len-cons : (avp : RawAvp) (avps : List RawAvp) → spelled_len (avp ∷ avps) ≡ padded_len avp + spelled_len avps
spelled_len-cons avp avps = length-append (written avp) (spelling_of avps) ∙ ap (λ (n : ℕ). n + spelled_len avps) (length_spelling avp)

pub padded-whole : (n : ℕ) → (n + padding_of n) % 4 ≡ 0
padded-whole n = omega arith

pub padding-small : (n : ℕ) → padding_of n ≤ 3
padding-small n = omega arith

-- what is written is a multiple of 4
pub spelling_of-whole : (avps : List RawAvp) → spelled_len avps % 4 ≡ 0
spelling_of-whole [] = refl
spelling_of-whole (avp ∷ avps) = omega (arith, spelled_len-cons avp avps, padded-whole (length_of avp), spelling_of-whole avps)

-- ---- AVPs that can be spelled, in at most so many octets

pub record Takes (n : ℕ) (avps : List RawAvp) : Type 0 where
  pub each : All HasSpelling avps
  pub most : spelled_len avps ≤ n

pub takes-nil : Takes 0 []
takes-nil = record { each = All-nil HasSpelling; most = lit≤ tt }

pub takes-append : (m n : ℕ) (xs ys : List RawAvp) → Takes m xs → Takes n ys → Takes (m + n) (xs ++ ys)
takes-append m n xs ys p q = record { each = All-append HasSpelling xs ys p.each q.each; most = omega (arith, p.most, q.most, spelled_len-append xs ys) }

pub takes-more : (m n : ℕ) (xs : List RawAvp) → m ≤ n → Takes m xs → Takes n xs
takes-more m n xs le p = record { each = p.each; most = omega (arith, le, p.most) }

pub spelling : (code : ℕ) (value : List ℕ) → code < 2 ^ 32 → length value ≤ 65536 → HasSpelling (octets_avp code value)
spelling code value fits short = record { code = fits; vendor = lit≤ tt; no_vendor = λ e. refl; long = omega (arith, short) }

one : (code n : ℕ) (value : List ℕ) → code < 2 ^ 32 → length value ≤ 65536 → spelled_len (octets_avp code value ∷ []) ≤ n → Takes n (octets_avp code value ∷ [])
one code n value fits short most = record { each = All-cons HasSpelling (octets_avp code value) [] (spelling code value fits short) (All-nil HasSpelling); most = most }

pub takes-octets : (code n : ℕ) (value : List ℕ) → code < 2 ^ 32 → length value ≤ n → n ≤ 65536 → Takes (11 + n) (octets_avp code value ∷ [])
takes-octets code n value fits le short =
    one code (11 + n) value fits (omega (arith, le, short)) (omega (arith, le, spelled_len-cons (octets_avp code value) [], padding-small (8 + length value)))

pub takes-u32 : (code n : ℕ) → code < 2 ^ 32 → Takes 12 (u32_avp code n ∷ [])
takes-u32 code n fits = record { each = All-cons HasSpelling (u32_avp code n) [] (record { code = fits; vendor = lit≤ tt; no_vendor = λ e. refl; long = lit≤ tt }) (All-nil HasSpelling); most = lit≤ tt }

pub takes-u64 : (code n : ℕ) → code < 2 ^ 32 → Takes 16 (u64_avp code n ∷ [])
takes-u64 code n fits = record { each = All-cons HasSpelling (u64_avp code n) [] (record { code = fits; vendor = lit≤ tt; no_vendor = λ e. refl; long = lit≤ tt }) (All-nil HasSpelling); most = lit≤ tt }

pub takes-optional : (code : ℕ) (n : Option ℕ) → code < 2 ^ 32 → Takes 12 (optional_u32 code n)
takes-optional code (Some n) fits = takes-u32 code n fits
takes-optional code None fits = takes-more 0 12 [] (lit≤ tt) takes-nil

-- a group takes its header and its members
pub takes-group : (code n : ℕ) (members : List RawAvp) → code < 2 ^ 32 → n ≤ 65536 → spelled_len members ≤ n → Takes (8 + n) (group_avp code members ∷ [])
takes-group code n members fits short le =
    one code (8 + n) (spelling_of members) fits (omega (arith, le, short))
    (omega (arith, le, spelling_of-whole members, spelled_len-cons (group_avp code members) []))
