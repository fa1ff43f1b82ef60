use Rattle.std.proofs.Common.{◌≡◌, ◌+◌, ◌∷◌, ◌++◌, [], ℕ, List, take, sym, subst, ap, ◌∙◌}
use Rattle.std.proofs.lemmas.List.{take_more}
use Rattle.dia_base.specs.declared.number.ConnId.{ConnId}
use Rattle.dia_message.specs.declared.message.Message.{Message}
use Rattle.farm_record.specs.Recording.{Tells, TellsAll, passed_line, sent_word, tells_none, tells_more}
use Rattle.farm_record.proofs.recorder.Recorder.sent.Goals as goal

pub loop-conn-init : goal.loop-conn-init
loop-conn-init c = tells_none

pub loop-conn-preserved : goal.loop-conn-preserved
loop-conn-preserved c =
    let messages = c.args.messages.now in
    let at = c.loop-conn.conn-index in
    let item = c.loop-conn-item.result in
    let word = sent_word c.args.self.now.is_client in
    let more : take (at + 1) messages ≡ take at messages ++ (item.0, item.1) ∷ [] =
    take_more messages at item c.loop-conn-test.true ∙ ap (λ (x : ConnId × Message). take at messages ++ x ∷ []) (sym c.loop-conn-item.is) in
    let tells : Tells (passed_line word item.0 item.1) c.loop-conn.self c.tell_message.new.self =
    subst (λ (w : List ℕ). Tells (passed_line w item.0 item.1) c.loop-conn.self c.tell_message.new.self) c.sent_word-word.ensures c.tell_message.ensures in
    subst (λ (told : List (ConnId × Message)). TellsAll word c.args.self.now told c.tell_message.new.self) (sym more)
    (tells_more (take at messages) c.loop-conn.self c.tell_message.new.self item.0 item.1 c.loop-conn.invariant tells)
