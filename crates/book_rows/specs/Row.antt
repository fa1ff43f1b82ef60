-- A row of the book: one entry, what was answered and debited for it, and a sum that chains it to all rows before it.
use Rattle.std.specs.Prelude.{◌≡◌, ℕ, zero, suc, ◌==◌, List, [], ◌∷◌, length, ◌++◌, ℤ, Result, Ok, Err, if◌then◌else◌}
use Rattle.byteorder.specs.Endian.{big_bytes, big_number}
use Rattle.sha2.specs.Sha256.{sha256}
use Rattle.cc_view.specs.declared.reply.CcReply.{CcReply}
use Rattle.cc_view.specs.declared.request.CcRequest.{CcRequest}
use Rattle.book_rows.specs.declared.fault.Fault.{Fault}
use Rattle.book_rows.specs.declared.fault.Fault.TheVariants.{LeftOver, Short, UnknownKind}
use Rattle.book_rows.specs.declared.row.Row.{Row}
use Rattle.book_rows.specs.declared.row.Step.{Step}
use Rattle.book_rows.specs.declared.row.Step.TheVariants.{Take, Sweep, ChangeTerms}
use Rattle.book_rows.specs.declared.row.Taken.{Taken}
use Rattle.book_rows.specs.Form.{Form, ◌>>=◌, both, checked, number}
use Rattle.book_rows.specs.Parts.{reply, request, signed}
use Rattle.book_rows.specs.TermsParts.{change}

abbrev pub taken_of : CcRequest × (CcReply × ℤ) → Result Taken Fault
taken_of x = Ok (record { request = x.0; reply = x.1.0; debit = x.1.1 })

abbrev pub taken_parts : Taken → CcRequest × (CcReply × ℤ)
taken_parts t = (t.request, (t.reply, t.debit))

unfoldable pub taken : Form Taken
taken = checked (both request (both reply signed)) taken_of taken_parts

abbrev pub step_spelled : Step → List ℕ
step_spelled Sweep = 0 ∷ []
step_spelled (Take t) = 1 ∷ taken.spell t
step_spelled (ChangeTerms c) = 2 ∷ change.spell c

abbrev pub step_read : List ℕ → Result (Step × List ℕ) Fault
step_read [] = Err Short
step_read (zero ∷ rest) = Ok (Sweep, rest)
step_read (suc zero ∷ rest) = taken.read rest >>= λ t. Ok (Take t.0, t.1)
step_read (suc (suc zero) ∷ rest) = change.read rest >>= λ c. Ok (ChangeTerms c.0, c.1)
step_read (suc (suc (suc other)) ∷ rest) = Err UnknownKind

abbrev pub StepFits : Step → Type 0
StepFits Sweep = Unit {0}
StepFits (Take t) = taken.Fits t
StepFits (ChangeTerms c) = change.Fits c

-- An octet says the kind of an entry: 0 a sweep, 1 a request that was taken, 2 a change of the terms. No other number is one yet.
unfoldable pub step : Form Step
step = record { spell = step_spelled; read = step_read; Fits = StepFits }

-- ---- the whole row

-- what the sum is worked out of, besides the sum before
abbrev pub body_of : Row → ℕ × (ℕ × Step)
body_of row = (row.place, (row.moment.0, row.step))

unfoldable pub body : Form (ℕ × (ℕ × Step))
body = both (number 8) (both (number 8) step)

abbrev pub row_by : (ℕ × (ℕ × Step)) × ℕ → Result Row Fault
row_by x = Ok (record { place = x.0.0; moment = record { 0 = x.0.1.0 }; step = x.0.1.1; sum = record { 0 = x.1 } })

abbrev pub row_parts : Row → (ℕ × (ℕ × Step)) × ℕ
row_parts row = (body_of row, row.sum.0)

unfoldable pub row : Form Row
row = checked (both body (number 16)) row_by row_parts

-- the octets of a row
abbrev pub spelled : Row → List ℕ
spelled r = row.spell r

-- what has a spelling
abbrev pub IsRow : Row → Type 0
IsRow r = row.Fits r

-- the row that octets spell, all of them, or the first fault from the left
unfoldable pub row_of : List ℕ → Result Row Fault
row_of octets = row.read octets >>= λ x. if length x.1 == 0 then Ok x.0 else Err LeftOver

-- ---- the chain of sums

-- the first 16 octets of the SHA-256 of the sum before and of these octets
unfoldable pub sum_after : ℕ → List ℕ → ℕ
sum_after before octets = big_number 16 (sha256 (big_bytes 16 before ++ octets))

-- the sum of the row is that of the sum before it and of its other octets
abbrev pub Chains : ℕ → Row → Type 0
Chains before row = row.sum.0 ≡ sum_after before (body.spell (body_of row))
