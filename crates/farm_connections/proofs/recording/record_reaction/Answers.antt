use Rattle.std.proofs.Common.{◌≡◌, rules, subst, sym, ◌∙◌}
use Rattle.farm_record.specs.Recording.{TellsAll, sent_word}
use Rattle.farm_connections.specs.Recording.{IsTakenBack, StaysTold}
use Rattle.farm_connections.proofs.Untold.{stays_told, taken_back}
use Rattle.farm_connections.proofs.recording.record_reaction.Goals as goal
use Rattle.farm_connections.proofs.recording.record_reaction.Goals.{else-is_err, then-is_err}

pub returns : goal.returns
returns c =
    let outcome = c.args.reaction.now.outcome in
    let stays : StaysTold outcome c.args.recorder.now c.if-is_err.recorder =
    elim c.if-is_err.branch [
      | then-is_err w ↦
          let back : IsTakenBack c.args.recorder.now w.refused.new.self = record { lines = w.refused.ensures.lines; off = w.refused.ensures.off; only = w.refused.ensures.only } in
          taken_back outcome c.args.recorder.now c.if-is_err.recorder (sym c.is_err.ensures.value ∙ w.if-is_err.true) (subst (λ kept. IsTakenBack c.args.recorder.now kept) (sym w.recorder-is) back)
      | else-is_err w ↦ stays_told outcome c.args.recorder.now c.if-is_err.recorder (sym c.is_err.ensures.value ∙ w.if-is_err.false) w.recorder-is
    ] in
    let seen : c.as_slice.result.now ≡ c.args.reaction.now.out.items = search rules in
    let kept = c.if-is_err.recorder in
    record { mid = kept; stays = stays; sends = subst (λ sent. TellsAll (sent_word kept.is_client) kept sent c.sent.new.self) seen c.sent.ensures }
