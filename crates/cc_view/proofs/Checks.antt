-- Tests of AVPs one after the other, and one test after the other.
use Rattle.std.proofs.Common.{◌≡◌, ℕ, ◌+◌, ◌<◌, List, [], ◌∷◌, ◌++◌, length, take, drop, get_or, Option, Some, None, Result, Ok, Err, refl, sym, ap, subst, ◌∙◌, add-one}
use Rattle.std.proofs.Math.Seq.{take-suc}
use Rattle.std.proofs.lemmas.List.{take-append-drop}
use Rattle.std.specs.Option.{option_or}
use Rattle.dia_avp.specs.declared.avp.RawAvp.{RawAvp}
use Rattle.cc_view.specs.declared.refusal.Refusal.{Refusal}
use Rattle.cc_view.specs.declared.view.ViewError.{ViewError}
use Rattle.cc_view.specs.declared.view.ViewError.TheVariants.{Refused, OutOfMemory}
use Rattle.cc_view.specs.RequestView.Checking.{first_refusal, tested_in}
use Rattle.cc_view.specs.Finding.{GivesAll, Passes}

-- ---- one test after the other

pub Passes-first : (a b : Option Refusal) (e : ViewError) → Passes a (Err e) → Passes (option_or a b) (Err e)
Passes-first a b (Refused given) h = ap (λ (x : Option Refusal). option_or x b) h
Passes-first a b OutOfMemory h = tt

pub Passes-next : (a b : Option Refusal) (r : Result (Unit {0}) ViewError) → a ≡ None → Passes b r → Passes (option_or a b) r
Passes-next a b r none h = subst (λ (x : Option Refusal). Passes (option_or x b) r) (sym none) h

-- ---- a list

or_none : (a : Option Refusal) → option_or a None ≡ a
or_none None = refl
or_none (Some x) = refl

or_assoc : (a b c : Option Refusal) → option_or (option_or a b) c ≡ option_or a (option_or b c)
or_assoc None b c = refl
or_assoc (Some x) b c = refl

first_refusal-append : (t : RawAvp → Option Refusal) (xs ys : List RawAvp) → first_refusal t (xs ++ ys) ≡ option_or (first_refusal t xs) (first_refusal t ys)
first_refusal-append t [] ys = refl
first_refusal-append t (x ∷ xs) ys = ap (λ (o : Option Refusal). option_or (t x) o) (first_refusal-append t xs ys) ∙ sym (or_assoc (t x) (first_refusal t xs) (first_refusal t ys))

-- one more AVP
pub take-push : (xs : List RawAvp) (i : ℕ) (x : RawAvp) → i < length xs → x ≡ get_or xs i x → take (i + 1) xs ≡ take i xs ++ x ∷ []
take-push xs i x h e = rw add-one (take-suc xs i x h ∙ ap (λ (y : RawAvp). take i xs ++ y ∷ []) (sym e))

first_refusal-take : (t : RawAvp → Option Refusal) (xs : List RawAvp) (i : ℕ) (x : RawAvp) → i < length xs → x ≡ get_or xs i x → first_refusal t (take i xs) ≡ None → first_refusal t (take (i + 1) xs) ≡ t x
first_refusal-take t xs i x h e none =
    ap (first_refusal t) (take-push xs i x h e) ∙ first_refusal-append t (take i xs) (x ∷ []) ∙ ap (λ (o : Option Refusal). option_or o (first_refusal t (x ∷ []))) none ∙ or_none (t x)

pub first_refusal-more : (t : RawAvp → Option Refusal) (xs : List RawAvp) (i : ℕ) (x : RawAvp) → i < length xs → x ≡ get_or xs i x → first_refusal t (take i xs) ≡ None → t x ≡ None → first_refusal t (take (i + 1) xs) ≡ None
first_refusal-more t xs i x h e none passes = first_refusal-take t xs i x h e none ∙ passes

-- the AVP that is refused first
first_refusal-at : (t : RawAvp → Option Refusal) (xs : List RawAvp) (i : ℕ) (x : RawAvp) (r : Refusal) → i < length xs → x ≡ get_or xs i x → first_refusal t (take i xs) ≡ None → t x ≡ Some r → first_refusal t xs ≡ Some r
first_refusal-at t xs i x r h e none is =
    let front : first_refusal t (take (i + 1) xs) ≡ Some r = first_refusal-take t xs i x h e none ∙ is in
    ap (first_refusal t) (sym (take-append-drop (i + 1) xs)) ∙ first_refusal-append t (take (i + 1) xs) (drop (i + 1) xs)
    ∙ ap (λ (o : Option Refusal). option_or o (first_refusal t (drop (i + 1) xs))) front

pub Passes-at : (t : RawAvp → Option Refusal) (xs : List RawAvp) (i : ℕ) (x : RawAvp) (e : ViewError) → i < length xs → x ≡ get_or xs i x → first_refusal t (take i xs) ≡ None
    → Passes (t x) (Err e) → Passes (first_refusal t xs) (Err e)
Passes-at t xs i x (Refused given) h is none refused = first_refusal-at t xs i x given h is none refused
Passes-at t xs i x OutOfMemory h is none refused = tt

-- ---- the AVPs in a group

pub tested_in-refused : (t : List RawAvp → Option Refusal) (found : Result (List RawAvp) Refusal) (e : ViewError) → GivesAll found (Err e) → Passes (tested_in t found) (Err e)
tested_in-refused t found (Refused given) h = ap (tested_in t) h
tested_in-refused t found OutOfMemory h = tt

pub tested_in-listed : (t : List RawAvp → Option Refusal) (found : Result (List RawAvp) Refusal) (members : List RawAvp) (e : ViewError) → found ≡ Ok members → Passes (t members) (Err e) → Passes (tested_in t found) (Err e)
tested_in-listed t found members e is h = subst (λ (x : Result (List RawAvp) Refusal). Passes (tested_in t x) (Err e)) (sym is) h
