-- What is found among the AVPs that pass a test, where what is looked for passes it.
use Rattle.std.proofs.Common.{◌≡◌, Bool, true, false, ◌||◌, cond, List, [], ◌∷◌, Option, Some, None, refl, ap, sym, ◌∙◌}
use Rattle.std.specs.List.{filter, find, list_any}
use Rattle.std.specs.Option.{option_or}
use Rattle.dia_avp.specs.declared.avp.RawAvp.{RawAvp}
use Rattle.cc_view.specs.declared.refusal.Refusal.{Refusal}
use Rattle.cc_view.specs.RequestView.Checking.{first_refusal}

-- no AVP that is not kept passes the test
abbrev pub MissesBy : (RawAvp → Bool) → (RawAvp → Bool) → Type 0
MissesBy keep test = (avp : RawAvp) → keep avp ≡ false → test avp ≡ false

find_here : (b : Bool) (test : RawAvp → Bool) (x : RawAvp) (ys xs : List RawAvp) → (b ≡ false → test x ≡ false) → find test ys ≡ find test xs → find test (cond b (x ∷ ys) ys) ≡ find test (x ∷ xs)
find_here true test x ys xs misses same = ap (λ (o : Option RawAvp). cond (test x) (Some x) o) same
find_here false test x ys xs misses same = same ∙ sym (ap (λ (b : Bool). cond b (Some x) (find test xs)) (misses refl))

pub find-filter : (keep test : RawAvp → Bool) → MissesBy keep test → (avps : List RawAvp) → find test (filter keep avps) ≡ find test avps
find-filter keep test misses [] = refl
find-filter keep test misses (x ∷ xs) = find_here (keep x) test x (filter keep xs) xs (misses x) (find-filter keep test misses xs)

any_here : (b : Bool) (test : RawAvp → Bool) (x : RawAvp) (ys xs : List RawAvp) → (b ≡ false → test x ≡ false) → list_any test ys ≡ list_any test xs → list_any test (cond b (x ∷ ys) ys) ≡ list_any test (x ∷ xs)
any_here true test x ys xs misses same = ap (λ (o : Bool). test x || o) same
any_here false test x ys xs misses same = same ∙ sym (ap (λ (b : Bool). b || list_any test xs) (misses refl))

pub list_any-filter : (keep test : RawAvp → Bool) → MissesBy keep test → (avps : List RawAvp) → list_any test (filter keep avps) ≡ list_any test avps
list_any-filter keep test misses [] = refl
list_any-filter keep test misses (x ∷ xs) = any_here (keep x) test x (filter keep xs) xs (misses x) (list_any-filter keep test misses xs)

filter_here : (b : Bool) (test : RawAvp → Bool) (x : RawAvp) (ys xs : List RawAvp) → (b ≡ false → test x ≡ false) → filter test ys ≡ filter test xs → filter test (cond b (x ∷ ys) ys) ≡ filter test (x ∷ xs)
filter_here true test x ys xs misses same = ap (λ (zs : List RawAvp). cond (test x) (x ∷ zs) zs) same
filter_here false test x ys xs misses same = same ∙ sym (ap (λ (b : Bool). cond b (x ∷ filter test xs) (filter test xs)) (misses refl))

pub filter-filter : (keep test : RawAvp → Bool) → MissesBy keep test → (avps : List RawAvp) → filter test (filter keep avps) ≡ filter test avps
filter-filter keep test misses [] = refl
filter-filter keep test misses (x ∷ xs) = filter_here (keep x) test x (filter keep xs) xs (misses x) (filter-filter keep test misses xs)

refusal_here : (b : Bool) (test : RawAvp → Option Refusal) (x : RawAvp) (ys xs : List RawAvp) → (b ≡ false → test x ≡ None) → first_refusal test ys ≡ first_refusal test xs
    → first_refusal test (cond b (x ∷ ys) ys) ≡ first_refusal test (x ∷ xs)
refusal_here true test x ys xs misses same = ap (λ (o : Option Refusal). option_or (test x) o) same
refusal_here false test x ys xs misses same = same ∙ sym (ap (λ (o : Option Refusal). option_or o (first_refusal test xs)) (misses refl))

pub first_refusal-filter : (keep : RawAvp → Bool) (test : RawAvp → Option Refusal) → ((avp : RawAvp) → keep avp ≡ false → test avp ≡ None) → (avps : List RawAvp) → first_refusal test (filter keep avps) ≡ first_refusal test avps
first_refusal-filter keep test misses [] = refl
first_refusal-filter keep test misses (x ∷ xs) = refusal_here (keep x) test x (filter keep xs) xs (misses x) (first_refusal-filter keep test misses xs)
