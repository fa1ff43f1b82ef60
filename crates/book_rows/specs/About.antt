-- What a stored book is, and where it stands, as octets.
use Rattle.std.specs.Prelude.{◌≡◌, ℕ, ◌-◌, ◌==◌, nat_lt, List, [], ◌∷◌, length, drop, slice_index_or, Result, Ok, Err, if◌then◌else◌}
use Rattle.byteorder.specs.Endian.{big_number}
use Rattle.book_rows.specs.declared.about.About.{About}
use Rattle.book_rows.specs.declared.about.Standing.{Standing}
use Rattle.book_rows.specs.declared.fault.Fault.{Fault}
use Rattle.book_rows.specs.declared.fault.Fault.TheVariants.{LeftOver, OtherFormat}
use Rattle.book_rows.specs.Form.{Form, ◌>>=◌, both, checked, counted, number}

-- the value that octets spell, all of them, or the first fault from the left
unfoldable pub whole : {A : Type 0} → Form A → List ℕ → Result A Fault
whole form octets = form.read octets >>= λ x. if length x.1 == 0 then Ok x.0 else Err LeftOver

-- ---- what a book is

-- the format of what this release stores
abbrev pub format_of : ℕ → Result (Unit {0}) Fault
format_of n = if n == 1 then Ok tt else Err OtherFormat

abbrev pub format_number : Unit {0} → ℕ
format_number _ = 1

-- a number that tells this format, before anything that another format may spell otherwise
unfoldable pub format : Form (Unit {0})
format = checked (number 4) format_of format_number

abbrev pub about_of : Unit {0} × (ℕ × List ℕ) → Result About Fault
about_of x = Ok (record { identity = record { 0 = x.1.0 }; terms = x.1.1 })

abbrev pub about_parts : About → Unit {0} × (ℕ × List ℕ)
about_parts about = (tt, (about.identity.0, about.terms))

-- the number of the format, the identity, and the octets of the terms
unfoldable pub about : Form About
about = checked (both format (both (number 16) counted)) about_of about_parts

-- ---- where a book stands

abbrev pub standing_of : ℕ × (ℕ × ℕ) → Result Standing Fault
standing_of x = Ok (record { count = x.0; moment = record { 0 = x.1.0 }; sum = record { 0 = x.1.1 } })

abbrev pub standing_parts : Standing → ℕ × (ℕ × ℕ)
standing_parts s = (s.count, (s.moment.0, s.sum.0))

-- how many rows there are, and the moment and the sum of the last
unfoldable pub standing : Form Standing
standing = checked (both (number 8) (both (number 8) (number 16))) standing_of standing_parts

-- the moment in the octets of a row, 0 where they are too few
unfoldable pub moment_in : List ℕ → ℕ
moment_in octets = if nat_lt (length octets) 32 then 0 else big_number 8 (drop 8 octets)

-- the sum in the octets of a row, 0 where they are too few
unfoldable pub sum_in : List ℕ → ℕ
sum_in octets = if nat_lt (length octets) 32 then 0 else big_number 16 (drop (length octets - 16) octets)

-- the last of these rows, no octet where there is none
abbrev pub last_of : List (List ℕ) → List ℕ
last_of rows = slice_index_or rows (length rows - 1) []

-- where a book with these rows stands
abbrev pub standing_with : List (List ℕ) → Standing
standing_with rows = record { count = length rows; moment = record { 0 = moment_in (last_of rows) }; sum = record { 0 = sum_in (last_of rows) } }
