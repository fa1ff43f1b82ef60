-- The totals of accounts that join: nothing is held of them.
use Rattle.std.proofs.Common.{◌≡◌, ℕ, zero, suc, ◌<◌, List, [], ◌∷◌, ◌++◌, length, length-append, refl, ◌∙◌, arith, slice_index_or}
use Rattle.std.specs.Prelude.{replicate}
use Rattle.std.specs.List.{AllByRecursion}
use Rattle.std.specs.Map.{values_of}
use Rattle.cc_book.specs.declared.session.OpenSession.{OpenSession}
use Rattle.cc_book.specs.OpenSessions.{IsKept}

zeros : (count place : ℕ) → slice_index_or {A = ℕ} (replicate count 0) place 0 ≡ 0
zeros zero place = refl
zeros (suc count) zero = refl
zeros (suc count) (suc place) = zeros count place

padded : (totals : List ℕ) (count place : ℕ) → slice_index_or (totals ++ replicate count 0) place 0 ≡ slice_index_or totals place 0
padded [] count place = zeros count place
padded (total ∷ totals) count zero = refl
padded (total ∷ totals) count (suc place) = padded totals count place

still_known : (few many : ℕ) (sessions : List OpenSession) → few < suc many → AllByRecursion (λ session. session.account < few) sessions
    → AllByRecursion (λ session. session.account < many) sessions
still_known few many [] le all = tt
still_known few many (session ∷ sessions) le all =
    let here = all.0 in (omega arith, still_known few many sessions le all.1)

-- sessions stay kept when accounts join
pub kept-more : (entries : List (List ℕ × OpenSession)) (totals : List ℕ) (count : ℕ) → IsKept entries totals → IsKept entries (totals ++ replicate count 0)
kept-more entries totals count kept =
    let long = length-append totals (replicate count 0) in
    record {
      own = kept.own;
      known = still_known (length totals) (length (totals ++ replicate count 0)) (values_of entries) (omega arith) kept.known;
      summed = λ account. padded totals count account ∙ kept.summed account;
    }
