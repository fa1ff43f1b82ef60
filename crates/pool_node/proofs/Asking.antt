-- When a tick asks for a sweep.
use Rattle.std.proofs.Common.{◌≡◌, Bool, true, false, true≢false, not, refl, sym, ap, ◌∙◌}
use Rattle.std.specs.Prelude.{◌&&◌, Option, Some, None, is_some, if◌then◌else◌}
use Rattle.dia_base.specs.declared.number.Moment.{Moment}
use Rattle.pool_node.specs.declared.sweeping.NextSweep.{NextSweep}
use Rattle.pool_node.specs.Fronts.{FrontsState, after_asking}
use Rattle.pool_node.specs.Sweeping.{asked_at, is_due}

pub nothing_under_way : (asked : Option Moment) → is_some asked ≡ false → asked ≡ None
nothing_under_way None idle = refl
nothing_under_way (Some moment) idle = absurd (true≢false idle)

asked : (next : NextSweep) (moment : Moment) (was : Option Moment) → is_due next moment ≡ true → is_some was ≡ false → asked_at next moment was ≡ Some moment
asked next moment was due idle =
    ap (λ (b : Bool). if b && not (is_some was) then Some moment else was) due ∙ ap (λ (b : Bool). if true && not b then Some moment else was) idle

early : (next : NextSweep) (moment : Moment) (was : Option Moment) → is_due next moment ≡ false → asked_at next moment was ≡ was
early next moment was due = ap (λ (b : Bool). if b && not (is_some was) then Some moment else was) due

waits : (next : NextSweep) (moment : Moment) (was : Option Moment) → is_due next moment ≡ true → is_some was ≡ true → asked_at next moment was ≡ was
waits next moment was due busy =
    ap (λ (b : Bool). if b && not (is_some was) then Some moment else was) due ∙ ap (λ (b : Bool). if true && not b then Some moment else was) busy

pub asks :
    (old new : FrontsState) (moment : Moment) → is_due old.next_sweep moment ≡ true → is_some old.under_way ≡ false
    → new ≡ record old { under_way = Some moment } → new ≡ after_asking old moment
asks old new moment due idle is =
    is ∙ ap (λ (at : Option Moment). record old { under_way = at }) (sym (asked old.next_sweep moment old.under_way due idle))

pub is_early : (old new : FrontsState) (moment : Moment) → is_due old.next_sweep moment ≡ false → new ≡ old → new ≡ after_asking old moment
is_early old new moment due is = is ∙ ap (λ (at : Option Moment). record old { under_way = at }) (sym (early old.next_sweep moment old.under_way due))

pub waits_still :
    (old new : FrontsState) (moment : Moment) → is_due old.next_sweep moment ≡ true → is_some old.under_way ≡ true → new ≡ old
    → new ≡ after_asking old moment
waits_still old new moment due busy is =
    is ∙ ap (λ (at : Option Moment). record old { under_way = at }) (sym (waits old.next_sweep moment old.under_way due busy))
