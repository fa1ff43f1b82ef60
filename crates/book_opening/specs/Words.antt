-- How the terms of a book and those of a site differ, in words.
use Rattle.std.specs.Prelude.{ℕ, ◌==◌, List, ◌++◌, codes, Bool, true, false, if◌then◌else◌}
use Rattle.std.specs.Fmt.{decimal}
use Rattle.book_opening.specs.declared.fault.TermsDifference.{TermsDifference}

-- what so many accounts are called
abbrev pub noun_of : ℕ → List ℕ
noun_of accounts = if accounts == 1 then codes "account" else codes "accounts"

abbrev pub difference_by : ℕ → Bool → List ℕ
difference_by accounts true = decimal accounts ++ codes " " ++ noun_of accounts ++ codes " would join, and the tariffs would change"
difference_by accounts false = decimal accounts ++ codes " " ++ noun_of accounts ++ codes " would join, and the tariffs would not change"

abbrev pub difference_text : TermsDifference → List ℕ
difference_text difference = difference_by difference.accounts difference.tariffs
