-- Decimal digits that are written, and read again.
use Rattle.std.proofs.Common.{◌≡◌, ℕ, suc, ◌+◌, ◌-◌, ◌*◌, ◌%◌, ◌^◌, ◌<◌, Bool, true, List, [], ◌∷◌, ◌++◌, length, decimal, Ok, refl, ◌∙◌, arith, length-append}
use Rattle.std.proofs.Math.Nat.{pow-suc}
use Rattle.std.specs.List.{list_all}
use Rattle.std.proofs.lemmas.Bool.{lt-ltb, le-leb}
use Rattle.std.proofs.lemmas.List.Folds.{list_all-append}
use Rattle.std.proofs.lemmas.Fmt.{decimal_by_steps, decimal_nonempty}
use Rattle.farm_script.specs.Words.{worth_of, number_of, is_digit}
use Rattle.record_reader.proofs.SpacedWords.{IsWord, is_ink, is_below_tilde}

worth_of-push : (digits : List ℕ) (digit : ℕ) → worth_of (digits ++ digit ∷ []) ≡ worth_of digits * 10 + (digit - 48)
worth_of-push [] digit = omega arith
worth_of-push (first ∷ digits) digit =
    let len : length (digits ++ digit ∷ []) ≡ suc (length digits) = omega (arith, length-append digits (digit ∷ [])) in
    let below = worth_of-push digits digit in
    rw (len, pow-suc 10 (length digits), below) (omega arith)

worth_of-decimal : (n : ℕ) → n < 2 ^ 64 → worth_of (decimal n) ≡ n
worth_of-decimal = decimal_by_steps (λ n digits. worth_of digits ≡ n) (λ n h. omega arith)
    (λ n digits h below. worth_of-push digits (48 + n % 10) ∙ rw below (omega arith))

-- a test that each digit passes
all_digits : (test : ℕ → Bool) → ((n : ℕ) → n < 10 → test (48 + n) ≡ true) → (n : ℕ) → n < 2 ^ 64 → list_all test (decimal n) ≡ true
all_digits test each = decimal_by_steps (λ n digits. list_all test digits ≡ true) (λ n h. rw (each n h) refl)
    (λ n digits h below. list_all-append test digits ((48 + n % 10) ∷ []) ∙ rw (below, each (n % 10) (omega arith)) refl)

digit_is : (n : ℕ) → n < 10 → is_digit (48 + n) ≡ true
digit_is n h =
    let least = le-leb 48 (48 + n) (omega arith) in
    let most = le-leb (48 + n) 57 (omega arith) in
    rw (least, most) refl

pub number_of-decimal : (n : ℕ) → n < 2 ^ 64 → number_of (decimal n) ≡ Ok n
number_of-decimal n h =
    let small = lt-ltb n (2 ^ 64) h in
    rw (all_digits is_digit digit_is n h, worth_of-decimal n h, small) refl

pub IsWord-decimal : (n : ℕ) → n < 2 ^ 64 → IsWord (decimal n)
IsWord-decimal n h = record {
  some = decimal_nonempty n h;
  ink = all_digits is_ink (λ m l. lt-ltb 32 (48 + m) (omega arith)) n h;
}

pub decimal_below_tilde : (n : ℕ) → n < 2 ^ 64 → list_all is_below_tilde (decimal n) ≡ true
decimal_below_tilde = all_digits is_below_tilde (λ m l. lt-ltb (48 + m) 126 (omega arith))
