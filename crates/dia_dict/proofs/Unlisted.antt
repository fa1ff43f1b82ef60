-- Codes that no row has.
use Rattle.std.proofs.Common.{◌≡◌, ◌≢◌, ◌<◌, ℕ, List, [], ◌∷◌, Bool, true, false, cond, eqb, ◌&&◌, Some, None, refl, ap, ◌∙◌, arith}
use Rattle.std.specs.Prelude.{find}
use Rattle.std.specs.List.{AllByRecursion}
use Rattle.std.proofs.lemmas.Bool.{eqb-true}
use Rattle.dia_dict.specs.Dictionary.{Entry, rows, row_of}

-- whether a row is the one that is looked up
abbrev pub fits : ℕ → ℕ → Entry → Bool
fits code vendor r = eqb r.code code && eqb r.vendor vendor

false_from_not : (b : Bool) → (b ≡ true → ⊥) → b ≡ false
false_from_not true h = absurd (h refl)
false_from_not false h = refl

pub and-left : (a b : Bool) → (a && b) ≡ true → a ≡ true
and-left true b h = refl
and-left false b h = h

and-right : (a b : Bool) → (a && b) ≡ true → b ≡ true
and-right true b h = h
and-right false b h = absurd (cc)

-- a list none of whose entries fits has no such row
none_found : (test : Entry → Bool) (rs : List Entry) → AllByRecursion (λ r. test r ≡ true → ⊥) rs → find test rs ≡ None
none_found test [] all = refl
none_found test (r ∷ rs) all =
    ap (λ (b : Bool). cond b (Some r) (find test rs)) (false_from_not (test r) all.0) ∙ none_found test rs all.1

-- the rows have no other vendor than 0
other_in : (code vendor : ℕ) → vendor ≢ 0 → (rs : List Entry) → AllByRecursion (λ r. r.vendor ≡ 0) rs → AllByRecursion (λ r. fits code vendor r ≡ true → ⊥) rs
other_in code vendor other [] all = tt
other_in code vendor other (r ∷ rs) all =
    (λ h. let e : r.vendor ≡ vendor = eqb-true r.vendor vendor (and-right (eqb r.code code) (eqb r.vendor vendor) h) in let z : r.vendor ≡ 0 = all.0 in other (omega arith), other_in code vendor other rs all.1)

pub other_vendor : (code vendor : ℕ) → vendor ≢ 0 → row_of code vendor ≡ None
other_vendor code vendor other = none_found (fits code vendor) rows (other_in code vendor other rows (refl, (refl, (refl, (refl, (refl, (refl, (refl, (refl, (refl, (refl, (refl, (refl, (refl, (refl, (refl, (refl, (refl, (refl, (refl, (refl, (refl, (refl, (refl, (refl, (refl, (refl, (refl, (refl, (refl, (refl, (refl, (refl, (refl, (refl, (refl, (refl, (refl, (refl, (refl, (refl, (refl, (refl, (refl, (refl, (refl, (refl, (refl, (refl, (refl, (refl, (refl, (refl, (refl, (refl, (refl, (refl, (refl, (refl, (refl, (refl, (refl, (refl, (refl, (refl, tt)))))))))))))))))))))))))))))))))))))))))))))))))))))))))))))))))

-- a code that is none of the rows'
unlisted_in : (code vendor : ℕ) (rs : List Entry) → AllByRecursion (λ r. r.code ≢ code) rs → AllByRecursion (λ r. fits code vendor r ≡ true → ⊥) rs
unlisted_in code vendor [] all = tt
unlisted_in code vendor (r ∷ rs) all =
    (λ h. all.0 (eqb-true r.code code (and-left (eqb r.code code) (eqb r.vendor vendor) h)), unlisted_in code vendor rs all.1)

unlisted : (code vendor : ℕ) → AllByRecursion (λ r. r.code ≢ code) rows → row_of code vendor ≡ None
unlisted code vendor all = none_found (fits code vendor) rows (unlisted_in code vendor rows all)

pub gap_from_1 : (code vendor : ℕ) → code < 274 → code ≢ 1 → code ≢ 33 → code ≢ 50 → code ≢ 55 → code ≢ 257 → code ≢ 258 → code ≢ 259 → code ≢ 260 → code ≢ 263 → code ≢ 264 → code ≢ 265 → code ≢ 266 → code ≢ 267 → code ≢ 268 → code ≢ 269 → code ≢ 273 → row_of code vendor ≡ None
gap_from_1 code vendor most n1 n33 n50 n55 n257 n258 n259 n260 n263 n264 n265 n266 n267 n268 n269 n273 = unlisted code vendor (omega arith, (omega arith, (omega arith, (omega arith, (omega arith, (omega arith, (omega arith, (omega arith, (omega arith, (omega arith, (omega arith, (omega arith, (omega arith, (omega arith, (omega arith, (omega arith, (omega arith, (omega arith, (omega arith, (omega arith, (omega arith, (omega arith, (omega arith, (omega arith, (omega arith, (omega arith, (omega arith, (omega arith, (omega arith, (omega arith, (omega arith, (omega arith, (omega arith, (omega arith, (omega arith, (omega arith, (omega arith, (omega arith, (omega arith, (omega arith, (omega arith, (omega arith, (omega arith, (omega arith, (omega arith, (omega arith, (omega arith, (omega arith, (omega arith, (omega arith, (omega arith, (omega arith, (omega arith, (omega arith, (omega arith, (omega arith, (omega arith, (omega arith, (omega arith, (omega arith, (omega arith, (omega arith, (omega arith, (omega arith, tt))))))))))))))))))))))))))))))))))))))))))))))))))))))))))))))))

pub gap_from_278 : (code vendor : ℕ) → 273 < code → code < 416 → code ≢ 278 → code ≢ 279 → code ≢ 280 → code ≢ 281 → code ≢ 282 → code ≢ 283 → code ≢ 284 → code ≢ 293 → code ≢ 295 → code ≢ 296 → code ≢ 299 → code ≢ 411 → code ≢ 412 → code ≢ 413 → code ≢ 414 → code ≢ 415 → row_of code vendor ≡ None
gap_from_278 code vendor least most n278 n279 n280 n281 n282 n283 n284 n293 n295 n296 n299 n411 n412 n413 n414 n415 = unlisted code vendor (omega arith, (omega arith, (omega arith, (omega arith, (omega arith, (omega arith, (omega arith, (omega arith, (omega arith, (omega arith, (omega arith, (omega arith, (omega arith, (omega arith, (omega arith, (omega arith, (omega arith, (omega arith, (omega arith, (omega arith, (omega arith, (omega arith, (omega arith, (omega arith, (omega arith, (omega arith, (omega arith, (omega arith, (omega arith, (omega arith, (omega arith, (omega arith, (omega arith, (omega arith, (omega arith, (omega arith, (omega arith, (omega arith, (omega arith, (omega arith, (omega arith, (omega arith, (omega arith, (omega arith, (omega arith, (omega arith, (omega arith, (omega arith, (omega arith, (omega arith, (omega arith, (omega arith, (omega arith, (omega arith, (omega arith, (omega arith, (omega arith, (omega arith, (omega arith, (omega arith, (omega arith, (omega arith, (omega arith, (omega arith, tt))))))))))))))))))))))))))))))))))))))))))))))))))))))))))))))))

pub gap_from_432 : (code vendor : ℕ) → 431 < code → code ≢ 432 → code ≢ 436 → code ≢ 437 → code ≢ 439 → code ≢ 443 → code ≢ 444 → code ≢ 445 → code ≢ 446 → code ≢ 447 → code ≢ 448 → code ≢ 449 → code ≢ 450 → code ≢ 455 → code ≢ 456 → code ≢ 458 → code ≢ 461 → row_of code vendor ≡ None
gap_from_432 code vendor least n432 n436 n437 n439 n443 n444 n445 n446 n447 n448 n449 n450 n455 n456 n458 n461 = unlisted code vendor (omega arith, (omega arith, (omega arith, (omega arith, (omega arith, (omega arith, (omega arith, (omega arith, (omega arith, (omega arith, (omega arith, (omega arith, (omega arith, (omega arith, (omega arith, (omega arith, (omega arith, (omega arith, (omega arith, (omega arith, (omega arith, (omega arith, (omega arith, (omega arith, (omega arith, (omega arith, (omega arith, (omega arith, (omega arith, (omega arith, (omega arith, (omega arith, (omega arith, (omega arith, (omega arith, (omega arith, (omega arith, (omega arith, (omega arith, (omega arith, (omega arith, (omega arith, (omega arith, (omega arith, (omega arith, (omega arith, (omega arith, (omega arith, (omega arith, (omega arith, (omega arith, (omega arith, (omega arith, (omega arith, (omega arith, (omega arith, (omega arith, (omega arith, (omega arith, (omega arith, (omega arith, (omega arith, (omega arith, (omega arith, tt))))))))))))))))))))))))))))))))))))))))))))))))))))))))))))))))
