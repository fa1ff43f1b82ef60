use Rattle.std.proofs.Common.{◌≡◌, ℕ, ◌+◌, ◌<◌, List, length, ◌++◌, map, take, drop, get_or, arith, ap, ◌∙◌, slice_set}
use Rattle.std.proofs.lemmas.List.{get_or_default}
use Rattle.std.proofs.lemmas.List.Edits.{map_over_more}
use Rattle.farm_event_loop.specs.declared.dial.Dial.{Dial}
use Rattle.farm_event_loop.specs.Dialing.{ended_on}
use Rattle.farm_event_loop.proofs.dial.end_on.Goals as goal

-- one more of them is what it becomes
one_more : (f : Dial → Dial) (xs ys : List Dial) (i : ℕ) (d : Dial) → i < length xs → i < length ys → ys ≡ map f (take i xs) ++ drop i xs
    → slice_set ys i (f (get_or ys i d)) ≡ map f (take (i + 1) xs) ++ drop (i + 1) xs
one_more f xs ys i d lt within so_far = map_over_more f xs ys i (get_or ys i d) lt so_far (get_or_default ys i d (get_or ys i d) within)

pub loop-dial-preserved : goal.loop-dial-preserved
loop-dial-preserved c =
    ap (λ (d : Dial). slice_set c.loop-dial.dials c.loop-dial.dial-index d) c.end_one.ensures
    ∙ one_more (ended_on c.args.conn c.args.moment c.args.wait) c.args.dials.now c.loop-dial.dials c.loop-dial.dial-index _
    (omega (arith, c.loop-dial-test.true)) (omega (arith, c.loop-dial-test.true, c.loop-dial.auto.dials)) c.loop-dial.invariant
