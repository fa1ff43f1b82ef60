-- Requests that a front had when its process died.
use Rattle.std.specs.Prelude.{◌≡◌, ◌≢◌, None}
use Rattle.record_state.specs.declared.fronts.Request.{Request}
use Rattle.record_state.specs.declared.fronts.RequestState.TheVariants.{NotSent}

-- it has come, and no line tells what became of it
abbrev pub IsUnderWay : Request → Type 0
IsUnderWay request = (request.outcome ≡ None) × (request.state ≢ NotSent)
