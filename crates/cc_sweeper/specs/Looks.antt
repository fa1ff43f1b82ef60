-- Looks at accounts of a shared book, in threads of their own.
use Rattle.std.specs.Prelude.{◌≡◌, Option, Some, None, Result, Ok, Err}
use Rattle.std.specs.declared.alloc.AllocError.{AllocError}
use Rattle.cc_view.specs.declared.request.Subscription.{Subscription}
use Rattle.cc_shared.specs.declared.looks.AccountLook.{AccountLook}
use Rattle.cc_shared.specs.History.{SharedLedger}
use Rattle.cc_shared.specs.Looking.{IsAccountLook}
use Rattle.cc_sweeper.specs.declared.looks.LookFault.{LookFault}
use Rattle.cc_sweeper.specs.declared.looks.LookFault.TheVariants.{Busy, OutOfMemory}

-- The account of this Subscription-Id was looked at, at one moment of the one history; or memory is missing.
abbrev pub IsLookedAt : SharedLedger → Subscription → Result AccountLook AllocError → Type 0
IsLookedAt shared id (Ok look) = IsAccountLook shared id look
IsLookedAt shared id (Err error) = Unit {0}

-- A look is under way from now on; or one was before, or memory is missing, and nothing has changed.
abbrev pub BeginsLook : Subscription → Option Subscription → Result (Unit {0}) LookFault → Option Subscription → Type 0
BeginsLook id old (Ok begun) new = (old ≡ None) × (new ≡ Some id)
BeginsLook id old (Err Busy) new = ((under_way : Subscription) × (old ≡ Some under_way)) × (new ≡ old)
BeginsLook id old (Err OutOfMemory) new = (old ≡ None) × (new ≡ None)

-- The look that was under way is collected, and none is from then on: it was at the account whose Subscription-Id was said. Or it is not
-- done, or none is under way, and nothing has changed.
abbrev pub CollectsLook : SharedLedger → Option Subscription → Option (Result AccountLook AllocError) → Option Subscription → Type 0
CollectsLook shared old None new = new ≡ old
CollectsLook shared old (Some result) new = ((id : Subscription) × (old ≡ Some id) × IsLookedAt shared id result) × (new ≡ None)
