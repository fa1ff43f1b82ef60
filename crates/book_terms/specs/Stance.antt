-- Where an account stands among those that are there.
use Rattle.std.specs.Prelude.{◌≡◌, ◌≤◌, List, length, true, false}
use Rattle.cc_book.specs.declared.account.Account.{Account}
use Rattle.book_terms.specs.Difference.{has_other_opening, is_known}
use Rattle.book_terms.specs.declared.differences.Stance.{Stance}
use Rattle.book_terms.specs.declared.differences.Stance.TheVariants as stance

-- it is there with its opening, and its owner has no other one; its owner has another opening; or none
abbrev pub IsStance : List Account → Account → Stance → Type 0
IsStance there account (stance.There before) = (has_other_opening there account ≡ false) × (is_known there account ≡ true) × (before ≤ length there)
IsStance there account stance.OtherOpening = has_other_opening there account ≡ true
IsStance there account stance.Unknown = is_known there account ≡ false
