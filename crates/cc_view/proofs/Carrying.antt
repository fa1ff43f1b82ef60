-- What is carried, as far as a loop has come.
use Rattle.std.proofs.Common.{◌≡◌, ℕ, ◌+◌, ◌<◌, ◌≤◌, List, [], ◌∷◌, ◌++◌, length, take, drop, get_or, Bool, true, false, cond, sum_by, filter, Some, ◌||◌, find, refl, sym, ap, ◌∙◌, add-one, arith, lit≤}
use Rattle.std.proofs.Math.Seq.{take-suc}
use Rattle.std.proofs.lemmas.List.{take-append-drop}
use Rattle.std.proofs.lemmas.List.Sums.{sum_by-append}
use Rattle.std.proofs.lemmas.List.Elements.{filter-append}
use Rattle.std.proofs.lemmas.Bool.{lt-ltb, ltb-false}
use Rattle.dia_avp.specs.declared.avp.RawAvp.{RawAvp}
use Rattle.dia_avp.specs.AvpList.{has_vendor}
use Rattle.dia_grammar.specs.Grammar.{is_of}
use Rattle.cc_view.specs.Answer.Carried.{is_carried, padded_len, carried_len, carries_too_much}
use Rattle.dia_base.specs.Codes.{session_id, proxy_info}

pub carried_len-append : (xs ys : List RawAvp) → carried_len (xs ++ ys) ≡ carried_len xs + carried_len ys
carried_len-append xs ys = ap (sum_by padded_len) (filter-append is_carried xs ys) ∙ sum_by-append padded_len (filter is_carried xs) (filter is_carried ys)

-- what one AVP adds
abbrev pub added_by : RawAvp → ℕ
added_by avp = carried_len (avp ∷ [])

added : (b : Bool) (avp : RawAvp) → b ≡ true → sum_by padded_len (cond b (avp ∷ []) []) ≡ padded_len avp
added true avp e = omega arith
added false avp e = absurd cc

left_out : (b : Bool) (avp : RawAvp) → b ≡ false → sum_by padded_len (cond b (avp ∷ []) []) ≡ 0
left_out true avp e = absurd cc
left_out false avp e = refl

-- one more AVP
pub carried_len-take : (xs : List RawAvp) (i : ℕ) (avp : RawAvp) → i < length xs → avp ≡ get_or xs i avp → carried_len (take (i + 1) xs) ≡ carried_len (take i xs) + added_by avp
carried_len-take xs i avp h e =
    let more : take (i + 1) xs ≡ take i xs ++ avp ∷ [] = rw add-one (take-suc xs i avp h ∙ ap (λ (x : RawAvp). take i xs ++ x ∷ []) (sym e)) in
    ap carried_len more ∙ carried_len-append (take i xs) (avp ∷ [])

-- the front carries no more than the whole
pub carried_len-take-le : (xs : List RawAvp) (i : ℕ) → carried_len (take i xs) ≤ carried_len xs
carried_len-take-le xs i = omega (arith, ap carried_len (take-append-drop i xs), carried_len-append (take i xs) (drop i xs))

-- an AVP that takes more than the room that is left
pub too_much : (xs : List RawAvp) (i : ℕ) (avp : RawAvp) (room : ℕ) → i < length xs → avp ≡ get_or xs i avp → room + carried_len (take i xs) ≡ 49152
    → is_carried avp ≡ true → room < padded_len avp → true ≡ carries_too_much xs
too_much xs i avp room h e kept carried over =
    let here : added_by avp ≡ padded_len avp = added (is_carried avp) avp carried in
    let more : carried_len (take (i + 1) xs) ≡ carried_len (take i xs) + added_by avp = carried_len-take xs i avp h e in
    let whole : carried_len (take (i + 1) xs) ≤ carried_len xs = carried_len-take-le xs (i + 1) in
    sym (lt-ltb 49152 (carried_len xs) (omega arith))

-- an AVP that is carried is counted
pub padded_len-carried : (xs : List RawAvp) (i : ℕ) (avp : RawAvp) → i < length xs → avp ≡ get_or xs i avp → carries_too_much xs ≡ false → is_carried avp ≡ true → padded_len avp ≤ 49152
padded_len-carried xs i avp h e few carried =
    let here : added_by avp ≡ padded_len avp = added (is_carried avp) avp carried in
    let more : carried_len (take (i + 1) xs) ≡ carried_len (take i xs) + added_by avp = carried_len-take xs i avp h e in
    let whole : carried_len (take (i + 1) xs) ≤ carried_len xs = carried_len-take-le xs (i + 1) in
    let most : carried_len xs ≤ 49152 = ltb-false 49152 (carried_len xs) few in
    omega arith

-- a Proxy-Info is carried
pub proxy_is_carried : (avp : RawAvp) → is_of proxy_info avp ≡ true → is_carried avp ≡ true
proxy_is_carried avp e = either (is_of session_id avp) (is_of proxy_info avp) e
  where
    either : (a b : Bool) → b ≡ true → (a || b) ≡ true
    either true b e = refl
    either false b e = e

carried_len-cons : (x : RawAvp) (xs : List RawAvp) → carried_len (x ∷ xs) ≡ added_by x + carried_len xs
carried_len-cons x xs = carried_len-append (x ∷ []) xs

session_carried : (b c : Bool) (avp : RawAvp) → b ≡ true → padded_len avp ≤ sum_by padded_len (cond (b || c) (avp ∷ []) [])
session_carried true c avp e = omega arith
session_carried false c avp e = absurd cc

header_least : (b : Bool) → 8 ≤ cond b 12 8
header_least true = lit≤ tt
header_least false = lit≤ tt

padded_least : (avp : RawAvp) → 8 + length avp.value ≤ padded_len avp
padded_least avp = omega (arith, header_least (has_vendor avp.flags))

found_in : (b : Bool) (x : RawAvp) (xs : List RawAvp) (avp : RawAvp) → is_of session_id x ≡ b → cond b (Some x) (find (is_of session_id) xs) ≡ Some avp
    → (find (is_of session_id) xs ≡ Some avp → 8 + length avp.value ≤ carried_len xs) → 8 + length avp.value ≤ carried_len (x ∷ xs)
found_in true x xs avp is e more =
    let same : x ≡ avp = cc in
    let here : padded_len x ≤ added_by x = session_carried (is_of session_id x) (is_of proxy_info x) x is in
    omega (arith, carried_len-cons x xs, padded_least x, ap (λ (a : RawAvp). length a.value) same)
found_in false x xs avp is e more = omega (arith, carried_len-cons x xs, more e)

-- the Session-Id that is found is counted
pub length-found : (xs : List RawAvp) (avp : RawAvp) → find (is_of session_id) xs ≡ Some avp → 8 + length avp.value ≤ carried_len xs
length-found [] avp e = absurd cc
length-found (x ∷ xs) avp e = found_in (is_of session_id x) x xs avp refl e (length-found xs avp)

pub length-carried : (xs : List RawAvp) (avp : RawAvp) → carries_too_much xs ≡ false → find (is_of session_id) xs ≡ Some avp → 8 + length avp.value ≤ 49152
length-carried xs avp few e =
    let least : 8 + length avp.value ≤ carried_len xs = length-found xs avp e in
    let most : carried_len xs ≤ 49152 = ltb-false 49152 (carried_len xs) few in
    omega arith
