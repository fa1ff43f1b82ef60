use Rattle.relay_core.proofs.step_examples.unknown_connections_change_nothing.Goals as goal

pub returns-clause-message : goal.returns-clause-message
returns-clause-message c = λ items after. (λ p. p, λ p. p)

pub returns-clause-lost : goal.returns-clause-lost
returns-clause-lost c = λ items after. (λ p. p, λ p. p)
