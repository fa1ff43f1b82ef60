-- Why neighbours were lost last.
use Rattle.std.specs.Prelude.{◌≡◌, ◌==◌, ◌&&◌, ◌++◌, ◌∷◌, ◌⊎◌, [], ℕ, Bool, List, Option, Some, None, set, slice_get}
use Rattle.std.specs.List.{position}
use Rattle.std.specs.Option.{option_map}
use Rattle.dia_base.specs.declared.number.NodeNo.{NodeNo}
use Rattle.farm_event_loop.specs.declared.causes.Cause.{Cause}
use Rattle.farm_event_loop.specs.declared.why.Why.{Why}

abbrev pub is_of : NodeNo → NodeNo → Cause → Bool
is_of local peer cause = (cause.local.0 == local.0) && (cause.peer.0 == peer.0)

abbrev pub place_of : NodeNo → NodeNo → List Cause → Option ℕ
place_of local peer causes = position (is_of local peer) causes

-- a cause takes the place of the one before of the same neighbour; without that, it is the last, or, without memory, none
abbrev pub IsSet : Cause → Option ℕ → List Cause → List Cause → Type 0
IsSet cause (Some place) old new = new ≡ set old place cause
IsSet cause None old new = (new ≡ old ++ cause ∷ []) ⊎ (new ≡ old)

abbrev pub why_of : Option ℕ → List Cause → Option Why
why_of None causes = None
why_of (Some place) causes = option_map (λ (cause : Cause). cause.why) (slice_get causes place)
