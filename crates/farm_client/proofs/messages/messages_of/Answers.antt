use Rattle.std.proofs.Common.{◌≡◌, ◌<◌, ◌∙◌, ℕ, List, [], Some, None, length, map, sym, arith, Bor}
use Rattle.farm_client.specs.Lines.{lines_in}
use Rattle.farm_client.proofs.Reading.{first_of_rest, told_next}
use Rattle.farm_client.proofs.messages.messages_of.Goals as goal

pub returns-in-None-clause-err : goal.returns-in-None-clause-err
returns-in-None-clause-err c =
    let lines = c.deref-line-items.result.now in
    let nobody : Bor (List ℕ) = record { ref_ptr = (0, 0); now = [] } in
    let is : map (λ line. line.now) lines ≡ lines_in c.args.text.now = rw c.deref-line-items.ensures.value c.in_ok-lines.ensures in
    let within : c.loop-place.place < length lines = omega arith in
    sym c.loop-place.invariant.1
    ∙ first_of_rest lines (lines_in c.args.text.now) c.loop-place.place nobody None is within (sym c.in-None.is ∙ c.in_ok-message.ensures)

pub loop-place-preserved : goal.loop-place-preserved
loop-place-preserved c =
    let lines = c.deref-line-items.result.now in
    let nobody : Bor (List ℕ) = record { ref_ptr = (0, 0); now = [] } in
    let is : map (λ line. line.now) lines ≡ lines_in c.args.text.now = rw c.deref-line-items.ensures.value c.in_ok-lines.ensures in
    let within : c.loop-place.place < length lines = omega arith in
    let told = sym c.in-Some.is ∙ c.in_ok-message.ensures in (
      rw c.in_ok-push-in-Some.ensures.items
          (told_next lines (lines_in c.args.text.now) c.loop-place.place nobody c.loop-place.messages.items c.in-Some.message is within told c.loop-place.invariant.0),
      sym (first_of_rest lines (lines_in c.args.text.now) c.loop-place.place nobody (Some c.in-Some.message) is within told) ∙ c.loop-place.invariant.1,
    )
