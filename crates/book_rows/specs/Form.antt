-- How values are spelled as octets, and read again: a form has both directions, and forms are made of forms.
use Rattle.std.specs.Prelude.{◌≡◌, ℕ, zero, suc, ◌^◌, ◌<◌, ◌==◌, nat_lt, List, [], ◌∷◌, ◌++◌, length, take, drop, Option, Some, None, Result, Ok, Err, if◌then◌else◌}
use Rattle.byteorder.specs.Endian.{big_bytes, big_number}
use Rattle.book_rows.specs.declared.fault.Fault.{Fault}
use Rattle.book_rows.specs.declared.fault.Fault.TheVariants.{Short}
use Rattle.book_rows.specs.declared.fault.ReadError.{ReadError}
use Rattle.book_rows.specs.declared.fault.ReadError.TheVariants as errors

infixl 10 ◌>>=◌
abbrev pub ◌>>=◌ : {A B : Type 0} → Result A Fault → (A → Result B Fault) → Result B Fault
(Ok x) >>= f = f x
(Err e) >>= f = Err e

-- What a function returned, seen by view, is what reading gives, unless memory ran out.
abbrev pub Fails : {Y : Type 0} → ReadError → Result Y Fault → Type 0
Fails errors.OutOfMemory read = Unit {0}
Fails (errors.NoRow fault) read = read ≡ Err fault

abbrev pub Gives : {X Y : Type 0} → (X → Y) → Result X ReadError → Result Y Fault → Type 0
Gives view (Ok x) read = read ≡ Ok (view x)
Gives view (Err e) read = Fails e read

-- A value as octets, what is read at the front of octets, with the octets behind it, and which values have a spelling.
pub record Form (A : Type 0) : Type 1 where
  pub spell : A → List ℕ
  pub read : List ℕ → Result (A × List ℕ) Fault
  pub Fits : A → Type 0

-- what was written is the spelling of a value that has one
pub record Adds {A : Type 0} (form : Form A) (value : A) (old new : List ℕ) : Type 0 where
  pub spelled : new ≡ old ++ form.spell value
  pub fits : form.Fits value

-- ---- forms

-- a number in so many octets, the highest first
unfoldable pub number : ℕ → Form ℕ
number n = record {
  spell = λ x. big_bytes n x;
  read = λ octets. if nat_lt (length octets) n then Err Short else Ok (big_number n octets, drop n octets);
  Fits = λ x. x < 256 ^ n;
}

-- one value and then another
abbrev pub both : {A B : Type 0} → Form A → Form B → Form (A × B)
both f g = record {
  spell = λ x. f.spell x.0 ++ g.spell x.1;
  read = λ octets. f.read octets >>= λ a. g.read a.1 >>= λ b. Ok ((a.0, b.0), b.1);
  Fits = λ x. f.Fits x.0 × g.Fits x.1;
}

-- a value that stands for another, where it does
abbrev pub checked : {A B : Type 0} → Form A → (A → Result B Fault) → (B → A) → Form B
checked f to of = record {
  spell = λ b. f.spell (of b);
  read = λ octets. f.read octets >>= λ a. to a.0 >>= λ b. Ok (b, a.1);
  Fits = λ b. f.Fits (of b) × (to (of b) ≡ Ok b);
}

abbrev pub option_spelled : {A : Type 0} → (A → List ℕ) → Option A → List ℕ
option_spelled spell None = 0 ∷ []
option_spelled spell (Some x) = 1 ∷ spell x

abbrev pub OptionFits : {A : Type 0} → (A → Type 0) → Option A → Type 0
OptionFits Fits None = Unit {0}
OptionFits Fits (Some x) = Fits x

abbrev pub option_read : {A : Type 0} → Fault → (List ℕ → Result (A × List ℕ) Fault) → List ℕ → Result (Option A × List ℕ) Fault
option_read fault read [] = Err Short
option_read fault read (zero ∷ rest) = Ok (None, rest)
option_read fault read (suc zero ∷ rest) = read rest >>= λ a. Ok (Some a.0, a.1)
option_read fault read (suc (suc other) ∷ rest) = Err fault

-- an octet 0, or an octet 1 and a value; with another octet, this fault
unfoldable pub optional : {A : Type 0} → Fault → Form A → Form (Option A)
optional fault f = record {
  spell = option_spelled f.spell;
  read = option_read fault f.read;
  Fits = OptionFits f.Fits;
}

-- as many octets as a number of 8 octets says
unfoldable pub counted : Form (List ℕ)
counted = record {
  spell = λ text. (number 8).spell (length text) ++ text;
  read = λ octets. (number 8).read octets >>= λ n. if nat_lt (length n.1) n.0 then Err Short else Ok (take n.0 n.1, drop n.0 n.1);
  Fits = λ text. length text < 256 ^ 8;
}

abbrev pub all_spelled : {A : Type 0} → (A → List ℕ) → List A → List ℕ
all_spelled spell [] = []
all_spelled spell (x ∷ xs) = spell x ++ all_spelled spell xs

abbrev pub AllFit : {A : Type 0} → (A → Type 0) → List A → Type 0
AllFit Fits [] = Unit {0}
AllFit Fits (x ∷ xs) = Fits x × AllFit Fits xs

-- so many values, one after the other
unfoldable pub so_many : {A : Type 0} → (List ℕ → Result (A × List ℕ) Fault) → ℕ → List ℕ → Result (List A × List ℕ) Fault
so_many read zero octets = Ok ([], octets)
so_many read (suc n) octets = read octets >>= λ first. so_many read n first.1 >>= λ others. Ok (first.0 ∷ others.0, others.1)

-- what was written is the spelling of these values, each of which has one
pub record AddsAll {A : Type 0} (form : Form A) (values : List A) (old new : List ℕ) : Type 0 where
  pub spelled : new ≡ old ++ all_spelled form.spell values
  pub fits : AllFit form.Fits values

-- as many values as a number of 8 octets says
unfoldable pub listed : {A : Type 0} → Form A → Form (List A)
listed f = record {
  spell = λ xs. (number 8).spell (length xs) ++ all_spelled f.spell xs;
  read = λ octets. (number 8).read octets >>= λ n. so_many f.read n.0 n.1;
  Fits = λ xs. (length xs < 256 ^ 8) × AllFit f.Fits xs;
}

-- the first of these whose number it is
abbrev pub numbered : {K : Type 0} → Fault → (K → ℕ) → List K → ℕ → Result K Fault
numbered fault number_of [] n = Err fault
numbered fault number_of (k ∷ ks) n = if number_of k == n then Ok k else numbered fault number_of ks n
