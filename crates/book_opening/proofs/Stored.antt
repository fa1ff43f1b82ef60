use Rattle.std.proofs.Common.{◌≡◌, true, Option, Some, None, refl}
use Rattle.std.specs.Prelude.{is_some}
use Rattle.book_journal.specs.Kept.{IsStoredIn}

pub has_store : {S : Type 0} (store : Option S) → IsStoredIn store → is_some store ≡ true
has_store None stored = absurd stored
has_store (Some store) stored = refl
