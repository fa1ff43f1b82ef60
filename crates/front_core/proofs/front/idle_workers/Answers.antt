use Rattle.std.proofs.Common.{◌++◌, ◌∷◌, [], ap, ◌∙◌, List}
use Rattle.std.proofs.lemmas.List.{replicate-append-replicate}
use Rattle.front_core.specs.declared.worker.Worker.{Worker}
use Rattle.front_core.specs.declared.worker.Worker.TheVariants.{Idle}
use Rattle.front_core.proofs.front.idle_workers.Goals as goal

pub loop-made-preserved : goal.loop-made-preserved
loop-made-preserved c =
    c.in_ok-push.ensures.items
    ∙ ap (λ (ws : List Worker). ws ++ Idle ∷ []) c.loop-made.invariant
    ∙ replicate-append-replicate c.loop-made.made 1 Idle
