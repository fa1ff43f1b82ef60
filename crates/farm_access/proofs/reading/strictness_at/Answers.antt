use Rattle.std.proofs.Common.{[], sym, subst}
use Rattle.toml.specs.View.{view}
use Rattle.farm_access.specs.Spelling.{Asks, IsStrictFault, for_nothing}
use Rattle.farm_access.specs.declared.strict.Strictness.{Strictness}
use Rattle.farm_access.proofs.Telling.{asks_more, handed_on, twice_told, word_told}
use Rattle.farm_access.proofs.reading.strictness_at.Goals as goal

pub loop-entry-init : goal.loop-entry-init
loop-entry-init c =
    subst (λ (strictness : Strictness). Asks [] strictness) (sym c.lenient-strictness.ensures) for_nothing

pub returns-in_err-word-clause-fault : goal.returns-in_err-word-clause-fault
returns-in_err-word-clause-fault c =
    handed_on (IsStrictFault (view c.args.value.now)) c.from_residual.result c.in_err-word.field-0.0 c.from_residual.ensures.1
    (word_told (view c.args.value.now) c.in-Some.words.now c.loop-entry.entry-index c.entry-item.result c.in_err-word.field-0.0
    c.in-Some.ensures.some c.loop-entry-test.true c.entry-item.is c.in_err-word.ensures.fault)

pub returns-in_default-with-clause-fault : goal.returns-in_default-with-clause-fault
returns-in_default-with-clause-fault c =
    twice_told (view c.args.value.now) c.in-Some.words.now c.loop-entry.entry-index c.entry-item.result c.in_ok-word.word c.loop-entry.strictness
    c.in-Some.ensures.some c.loop-entry-test.true c.entry-item.is c.loop-entry.invariant c.in_ok-word.ensures.spelled c.in_default-with.ensures.none

pub loop-entry-preserved : goal.loop-entry-preserved
loop-entry-preserved c =
    asks_more c.in-Some.words.now c.loop-entry.entry-index c.entry-item.result c.in_ok-word.word c.loop-entry.strictness c.in-Some-with.more
    c.loop-entry-test.true c.entry-item.is c.loop-entry.invariant c.in_ok-word.ensures.spelled c.in-Some-with.ensures.fresh c.in-Some-with.ensures.some
