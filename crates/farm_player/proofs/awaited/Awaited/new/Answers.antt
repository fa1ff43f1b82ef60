use Rattle.std.proofs.Common.{◌++◌, ◌∷◌, [], ap, ◌∙◌, List, Option, None}
use Rattle.std.proofs.lemmas.List.{replicate-append-replicate}
use Rattle.farm_player.specs.Passing.{Passage}
use Rattle.farm_player.proofs.awaited.Awaited.new.Goals as goal

pub loop-made-preserved : goal.loop-made-preserved
loop-made-preserved c =
    c.in_ok-push.ensures.items
    ∙ ap (λ (all : List (Option (List Passage))). all ++ None ∷ []) c.loop-made.invariant
    ∙ replicate-append-replicate c.loop-made.made 1 None
