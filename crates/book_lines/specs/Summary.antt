-- What a book comes to, as text.
use Rattle.std.specs.Prelude.{ℕ, ◌-◌, ◌*◌, ◌==◌, nat_lt, if◌then◌else◌, Bool, true, false, List, [], ◌∷◌, length, codes, count_by, Option, None, Some, slice_get}
use Rattle.std.specs.List.{concat}
use Rattle.std.specs.Fmt.{decimal}
use Rattle.byteorder.specs.Endian.{big_bytes}
use Rattle.hex.specs.Hex.{encode_lower}
use Rattle.book_rows.specs.declared.about.Identity.{Identity}
use Rattle.book_rows.specs.declared.row.Sum.{Sum}
use Rattle.cc_book.specs.declared.entry.Entry.{Entry}
use Rattle.cc_book.specs.declared.entry.Entry.TheVariants.{Take, Sweep, ChangeTerms}
use Rattle.book_lines.specs.Words.{line_feed, optional_text}

-- whether an entry is a request that was taken
abbrev pub is_charge : Entry → Bool
is_charge (Take moment request) = true
is_charge (Sweep moment) = false
is_charge (ChangeTerms moment change) = false

-- whether an entry is a sweep
abbrev pub is_sweep : Entry → Bool
is_sweep (Take moment request) = false
is_sweep (Sweep moment) = true
is_sweep (ChangeTerms moment change) = false

-- whether an entry is a change of the terms
abbrev pub is_change : Entry → Bool
is_change (Take moment request) = false
is_change (Sweep moment) = false
is_change (ChangeTerms moment change) = true

abbrev pub moment_in : Option Entry → Option ℕ
moment_in None = None
moment_in (Some (Take moment request)) = Some moment.0
moment_in (Some (Sweep moment)) = Some moment.0
moment_in (Some (ChangeTerms moment change)) = Some moment.0

-- the moment of the last entry, if there is one
abbrev pub last_moment : List Entry → Option ℕ
last_moment history = moment_in (slice_get history (length history - 1))

-- a number of 16 octets as 32 hexadecimal digits
abbrev pub digits : ℕ → List ℕ
digits number = encode_lower (big_bytes 16 number)

-- `made book IDENTITY`
abbrev pub made_line : Identity → List ℕ
made_line identity = concat (codes "made book " ∷ digits identity.0 ∷ line_feed ∷ [])

-- `entries N charges C sweeps S`
abbrev pub counts_text : ℕ → ℕ → ℕ → List ℕ
counts_text entries charges sweeps = concat (
    line_feed ∷ codes "entries " ∷ decimal entries ∷ codes " charges " ∷ decimal charges ∷ codes " sweeps " ∷ decimal sweeps ∷ [])

-- `changes N` behind them, where the terms changed
abbrev pub changes_text : ℕ → List ℕ
changes_text changes = if changes == 0 then [] else concat (codes " changes " ∷ decimal changes ∷ [])

-- a book has 90 hundredths of the entries that it can have, or more
abbrev pub is_nearly_full : ℕ → ℕ → Bool
is_nearly_full entries limit = if nat_lt (entries * 100) (limit * 90) then false else true

-- `look: ..` of a book that is nearly full
abbrev pub filling_text : ℕ → ℕ → List ℕ
filling_text entries limit = concat (
    codes "look: the book is nearly full: " ∷ decimal entries ∷ codes " of " ∷ decimal limit ∷ codes " entries" ∷ line_feed ∷ [])

-- none of another one
abbrev pub filling_line : ℕ → ℕ → List ℕ
filling_line entries limit = if is_nearly_full entries limit then filling_text entries limit else []

-- `book IDENTITY` and `entries N charges C sweeps S changes T`, a line each
unfoldable pub heading_text : Identity → List Entry → List ℕ
heading_text identity history = concat (
    codes "book " ∷ digits identity.0 ∷ counts_text (length history) (count_by is_charge history) (count_by is_sweep history)
    ∷ changes_text (count_by is_change history) ∷ line_feed ∷ [])

-- `last MOMENT` and `sum SUM`, a line each
unfoldable pub ending_text : List Entry → Sum → List ℕ
ending_text history sum = concat (codes "last" ∷ optional_text (last_moment history) ∷ line_feed ∷ codes "sum " ∷ digits sum.0 ∷ line_feed ∷ [])

-- which book it is, how many entries it has, of each kind, the moment and the sum of the last, and one line more where it is nearly full
abbrev pub summary_of : Identity → List Entry → Sum → ℕ → List ℕ
summary_of identity history sum limit = concat (heading_text identity history ∷ ending_text history sum ∷ filling_line (length history) limit ∷ [])
