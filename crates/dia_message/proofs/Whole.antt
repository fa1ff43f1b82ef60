-- Octets that begin with a whole message.
use Rattle.std.proofs.Common.{◌≡◌, ◌≢◌, ℕ, ◌+◌, ◌%◌, ◌<◌, ◌≤◌, Bool, true, false, not, ◌&&◌, ◌||◌, cond, ltb, leb, eqb, List, ◌++◌, length, drop, Option, Some, None, refl, sym, subst, ap, ◌∙◌, arith, length-append, length-drop}
use Rattle.std.specs.Prelude.{is_none}
use Rattle.std.proofs.lemmas.Bool.{leb-true}
use Rattle.std.proofs.lemmas.Bool.Decides.{nat_tests}
use Rattle.std.proofs.lemmas.List.{drop-append-le}
use Rattle.std.proofs.Math.ListN.{get_or-append}
use Rattle.byteorder.specs.Endian.{big_number}
use Rattle.byteorder.specs.Numbers.{big_from-append}
use Rattle.dia_base.specs.Limits.{message_limit}
use Rattle.dia_message.specs.declared.frames.FrameFault.{FrameFault}
use Rattle.dia_message.specs.declared.frames.FrameFault.TheVariants.{Version, Length, TooLong, OutOfMemory}
use Rattle.dia_message.specs.Header.{version_in, length_in}
use Rattle.dia_message.specs.Stream.{fault_at, is_whole}

-- what the tests of a whole message say
pub record Whole (octets : List ℕ) : Type 0 where
  pub version : version_in octets ≡ 1
  pub least : 20 ≤ length_in octets
  pub even : length_in octets % 4 ≡ 0
  pub most : length_in octets ≤ message_limit
  pub within : length_in octets ≤ length octets

-- the tests over plain numbers
abbrev faulty : ℕ → ℕ → ℕ → Option FrameFault
faulty size version len =
    cond (ltb size 1) None (cond (not (eqb version 1)) (Some Version) (cond (ltb size 4) None (cond (ltb len 20 || not (eqb (len % 4) 0)) (Some Length) (cond (ltb message_limit len) (Some TooLong) None))))

tests_tell : (size version len : ℕ) → (leb 4 size && is_none (faulty size version len) && leb len size) ≡ true
    → (version ≡ 1) × (20 ≤ len) × (len % 4 ≡ 0) × (len ≤ message_limit) × (len ≤ size)
tests_tell size version len e = grind (arith, nat_tests)

tests_pass : (size version len : ℕ) → version ≡ 1 → 20 ≤ len → len % 4 ≡ 0 → len ≤ message_limit → len ≤ size
    → (leb 4 size && is_none (faulty size version len) && leb len size) ≡ true
tests_pass size version len v l e m w = grind (arith, nat_tests)

pub Whole-from : (octets : List ℕ) → is_whole octets ≡ true → Whole octets
Whole-from octets e =
    let t = tests_tell (length octets) (version_in octets) (length_in octets) e in
    record { version = t.0; least = t.1; even = t.2; most = t.3; within = t.4 }

pub is_whole-true : (octets : List ℕ) → Whole octets → is_whole octets ≡ true
is_whole-true octets w = tests_pass (length octets) (version_in octets) (length_in octets) w.version w.least w.even w.most w.within

-- ---- more octets behind

pub length_in-append : (octets more : List ℕ) → 4 ≤ length octets → length_in (octets ++ more) ≡ length_in octets
length_in-append octets more h =
    ap (big_number 3) (drop-append-le 1 octets more (omega arith)) ∙ big_from-append 3 (drop 1 octets) more (omega (arith, length-drop 1 octets))

pub version_in-append : (octets more : List ℕ) → 1 ≤ length octets → version_in (octets ++ more) ≡ version_in octets
version_in-append octets more h = get_or-append octets more 0 0 (omega arith)

pub Whole-append : (octets more : List ℕ) → Whole octets → Whole (octets ++ more)
Whole-append octets more w =
    let least = w.least in
    let within = w.within in
    let len = length_in-append octets more (omega arith) in
    let all = length-append octets more in
    record {
      version = version_in-append octets more (omega arith) ∙ w.version;
      least = subst (λ (n : ℕ). 20 ≤ n) (sym len) w.least;
      even = subst (λ (n : ℕ). n % 4 ≡ 0) (sym len) w.even;
      most = subst (λ (n : ℕ). n ≤ message_limit) (sym len) w.most;
      within = subst (λ (n : ℕ). n ≤ length (octets ++ more)) (sym len) (omega arith);
    }

fault_more : (size more version len : ℕ) (f : FrameFault) → faulty size version len ≡ Some f → faulty (size + more) version len ≡ Some f
fault_more size more version len f e = grind (arith, nat_tests)

fault_short : (size more version len len' : ℕ) (f : FrameFault) → size < 4 → faulty size version len ≡ Some f → faulty (size + more) version len' ≡ Some f
fault_short size more version len len' f h e = grind (arith, nat_tests)

fault_some : (size version len : ℕ) (f : FrameFault) → faulty size version len ≡ Some f → 1 ≤ size
fault_some size version len f e = grind (arith, nat_tests)

-- a fault stays, whatever stands behind
pub fault_at-append : (octets more : List ℕ) (f : FrameFault) → fault_at octets ≡ Some f → fault_at (octets ++ more) ≡ Some f
fault_at-append octets more f e =
    let some : 1 ≤ length octets = fault_some (length octets) (version_in octets) (length_in octets) f e in
    let same : fault_at (octets ++ more) ≡ faulty (length octets + length more) (version_in octets) (length_in (octets ++ more)) =
    ap (λ (n : ℕ). faulty n (version_in (octets ++ more)) (length_in (octets ++ more))) (length-append octets more)
    ∙ ap (λ (n : ℕ). faulty (length octets + length more) n (length_in (octets ++ more))) (version_in-append octets more some) in
    same ∙ by_size (leb 4 (length octets)) refl
  where
    by_size : (long : Bool) → leb 4 (length octets) ≡ long → faulty (length octets + length more) (version_in octets) (length_in (octets ++ more)) ≡ Some f
    by_size true l =
        ap (λ (n : ℕ). faulty (length octets + length more) (version_in octets) n) (length_in-append octets more (leb-true 4 (length octets) l))
        ∙ fault_more (length octets) (length more) (version_in octets) (length_in octets) f e
    by_size false l = fault_short (length octets) (length more) (version_in octets) (length_in octets) (length_in (octets ++ more)) f (grind (arith, nat_tests)) e

none_whole : (a b : Bool) → ((a && false) && b) ≡ false
none_whole true b = refl
none_whole false b = refl

pub is_whole-fault : (octets : List ℕ) (f : FrameFault) → fault_at octets ≡ Some f → is_whole octets ≡ false
is_whole-fault octets f e =
    ap (λ (o : Option FrameFault). leb 4 (length octets) && is_none o && leb (length_in octets) (length octets)) e
    ∙ none_whole (leb 4 (length octets)) (leb (length_in octets) (length octets))

fault_memory : (size version len : ℕ) → faulty size version len ≢ Some OutOfMemory
fault_memory size version len e = grind (arith, nat_tests)

-- no octets are short of memory
pub fault_at-memory : (octets : List ℕ) → fault_at octets ≢ Some OutOfMemory
fault_at-memory octets e = fault_memory (length octets) (version_in octets) (length_in octets) e
