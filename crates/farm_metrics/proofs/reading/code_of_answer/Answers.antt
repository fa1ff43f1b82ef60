use Rattle.std.proofs.Common.{◌≡◌, ◌≢◌, ◌<◌, ◌∙◌, ℕ, List, [], Some, None, length, drop, sym, ap, subst, arith, length-drop}
use Rattle.std.proofs.lemmas.List.{drop_all}
use Rattle.farm_metrics.specs.Reading.{code_in, code_of, code_within, room_of}
use Rattle.farm_metrics.proofs.Codes.{HasCode, code_behind, code_first, code_of_none, code_without, drop_behind, take_behind}
use Rattle.farm_metrics.proofs.reading.code_of_answer.Goals as goal

pub returns-in-Some : goal.returns-in-Some
returns-in-Some c =
    let i = c.loop-at.invariant in
    let here = drop c.loop-at.at c.args.body.now in
    let some : 0 < length here = simp length-drop (omega arith) in
    let code : code_in here ≡ Some c.in-Some.code =
    ap code_in (sym (take_behind c.args.body.now c.loop-at.at)) ∙ (sym c.code_in.ensures ∙ c.in-Some.is) in
    code_first i.0 here c.in-Some.code some i.1 code ∙ i.2

pub returns-then-room-eq0 : goal.returns-then-room-eq0
returns-then-room-eq0 c =
    let i = c.loop-at.invariant in
    let here = drop c.loop-at.at c.args.body.now in
    let code : code_in here ≡ None =
    ap code_in (sym (take_behind c.args.body.now c.loop-at.at)) ∙ (sym c.code_in.ensures ∙ c.in_default.is) in
    let room : room_of here ≡ 0 =
    ap room_of (sym (take_behind c.args.body.now c.loop-at.at)) ∙ (sym c.room_of-room.ensures ∙ c.if-room-eq0.true) in
    code_without i.0 here code room ∙ i.2

pub loop-at-preserved : goal.loop-at-preserved
loop-at-preserved c =
    let i = c.loop-at.invariant in
    let body = c.args.body.now in
    let here = drop c.loop-at.at body in
    let some : 0 < length here = simp length-drop (omega arith) in
    let code : code_in here ≡ None =
    ap code_in (sym (take_behind body c.loop-at.at)) ∙ (sym c.code_in.ensures ∙ c.in_default.is) in
    let room : c.room_of-room.result ≡ room_of here = c.room_of-room.ensures ∙ ap room_of (take_behind body c.loop-at.at) in
    let far : room_of here ≢ 0 = λ nought. c.if-room-eq0.false (room ∙ nought) in
    let behind : drop c.saturating_add-at.result body ≡ drop (room_of here) here =
    drop_behind body c.loop-at.at c.room_of-room.result c.saturating_add-at.result (omega arith) c.saturating_add-at.ensures ∙ ap (λ (n : ℕ). drop n here) room in
    subst (λ (avps : List ℕ). HasCode avps (code_of body)) (sym behind)
    (subst (HasCode (drop (room_of here) here)) i.2 (code_behind i.0 here some i.1 code far))

pub returns : goal.returns
returns c =
    let i = c.loop-at.invariant in
    let none : drop c.loop-at.at c.args.body.now ≡ [] = drop_all c.loop-at.at c.args.body.now (omega arith) in
    sym (code_of_none i.0) ∙ (ap (code_within i.0) (sym none) ∙ i.2)
