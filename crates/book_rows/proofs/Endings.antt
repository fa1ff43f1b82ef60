-- The moment and the sum in the octets of a row.
use Rattle.std.proofs.Common.{◌≡◌, ℕ, ◌+◌, ◌-◌, ◌^◌, ◌<◌, ◌≤◌, ltb, false, List, [], ◌++◌, length, drop, refl, sym, ap, ◌∙◌, append_assoc, arith}
use Rattle.std.proofs.lemmas.Bool.{le-ltb}
use Rattle.std.proofs.lemmas.List.{append-nil, drop_at, length-append}
use Rattle.byteorder.specs.Endian.{big_bytes, big_number}
use Rattle.byteorder.specs.Numbers.{big_number-reads_back, length-bytes_high_first}
use Rattle.book_rows.specs.declared.row.Row.{Row}
use Rattle.book_rows.specs.Form.{number}
use Rattle.book_rows.specs.About.{moment_in, sum_in}
use Rattle.book_rows.specs.Row.{IsRow, body, row, spelled, step}

-- the octets of a row: its place, its moment, what it holds, and its sum
parts_are : (r : Row) → spelled r ≡ (big_bytes 8 r.place ++ (big_bytes 8 r.moment.0 ++ step.spell r.step)) ++ big_bytes 16 r.sum.0
unfolding row body number
parts_are r = refl

fits_are : (r : Row) → IsRow r → (r.moment.0 < 256 ^ 8) × (r.sum.0 < 256 ^ 16)
unfolding row body number
fits_are r fits = (fits.0.0.1.0, fits.0.1)

moment_at : (a b c d : List ℕ) (m : ℕ) → length a ≡ 8 → length d ≡ 16 → m < 256 ^ 8 → b ≡ big_bytes 8 m → moment_in ((a ++ (b ++ c)) ++ d) ≡ m
unfolding moment_in
moment_at a b c d m long tail lt is =
    let wide : length b ≡ 8 = ap length is ∙ length-bytes_high_first 8 m in
    let enough : ltb (length ((a ++ (b ++ c)) ++ d)) 32 ≡ false = le-ltb (length ((a ++ (b ++ c)) ++ d)) 32 (omega (arith, length-append (a ++ (b ++ c)) d, length-append a (b ++ c), length-append b c)) in
    let front : (a ++ (b ++ c)) ++ d ≡ a ++ (b ++ (c ++ d)) = append_assoc a (b ++ c) d ∙ ap (λ (l : List ℕ). a ++ l) (append_assoc b c d) in
    let behind : drop 8 ((a ++ (b ++ c)) ++ d) ≡ big_bytes 8 m ++ (c ++ d) = ap (drop 8) front ∙ drop_at a (b ++ (c ++ d)) 8 long ∙ ap (λ (l : List ℕ). l ++ (c ++ d)) is in
    rw enough (ap (big_number 8) behind ∙ big_number-reads_back 8 m (c ++ d) lt)

sum_at : (front d : List ℕ) (s : ℕ) → 16 ≤ length front → s < 256 ^ 16 → d ≡ big_bytes 16 s → sum_in (front ++ d) ≡ s
unfolding sum_in
sum_at front d s long lt is =
    let wide : length d ≡ 16 = ap length is ∙ length-bytes_high_first 16 s in
    let enough : ltb (length (front ++ d)) 32 ≡ false = le-ltb (length (front ++ d)) 32 (omega (arith, length-append front d)) in
    let at : length front ≡ length (front ++ d) - 16 = omega (arith, length-append front d) in
    let behind : drop (length (front ++ d) - 16) (front ++ d) ≡ big_bytes 16 s = drop_at front d (length (front ++ d) - 16) at ∙ is in
    rw enough (ap (big_number 16) (behind ∙ sym (append-nil (big_bytes 16 s))) ∙ big_number-reads_back 16 s [] lt)

pub moment_of_row : (r : Row) → IsRow r → moment_in (spelled r) ≡ r.moment.0
moment_of_row r fits =
    ap moment_in (parts_are r)
    ∙ moment_at (big_bytes 8 r.place) (big_bytes 8 r.moment.0) (step.spell r.step) (big_bytes 16 r.sum.0) r.moment.0 (length-bytes_high_first 8 r.place) (length-bytes_high_first 16 r.sum.0) (fits_are r fits).0 refl

pub sum_of_row : (r : Row) → IsRow r → sum_in (spelled r) ≡ r.sum.0
sum_of_row r fits =
    let front = big_bytes 8 r.place ++ (big_bytes 8 r.moment.0 ++ step.spell r.step) in
    let long : 16 ≤ length front = omega (arith, length-append (big_bytes 8 r.place) (big_bytes 8 r.moment.0 ++ step.spell r.step), length-append (big_bytes 8 r.moment.0) (step.spell r.step), length-bytes_high_first 8 r.place, length-bytes_high_first 8 r.moment.0) in
    ap sum_in (parts_are r) ∙ sum_at front (big_bytes 16 r.sum.0) r.sum.0 long (fits_are r fits).1 refl
