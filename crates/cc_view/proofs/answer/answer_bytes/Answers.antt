use Rattle.std.proofs.Common.{◌∙◌}
use Rattle.dia_avp.specs.AvpReading.{split_of}
use Rattle.cc_view.specs.Answer.{answer_avps, answer_to, command_part, units_part}
use Rattle.cc_view.specs.Answer.Carried.{carriable_avps, proxies_in}
use Rattle.cc_view.proofs.Drafts.{from_nothing, three_added}
use Rattle.cc_view.proofs.Messages.{message_of-same}
use Rattle.cc_view.proofs.answer.answer_bytes.Goals as goal

pub returns : goal.returns
unfolding answer_to
returns g c =
    let front = c.args.front.now in
    let realm = c.args.realm.now in
    let request = c.args.request.now in
    let reply = c.args.reply.now in
    let carried = proxies_in (carriable_avps (split_of c.args.message.now.body)) in
    let avps = three_added _ _ _ _ (command_part front realm request reply.code) (units_part reply) carried c.in_ok-push_command.ensures c.in_ok-push_units.ensures c.in_ok-push_proxies_of.ensures in
    message_of-same _ _ _ _ c.answer_header.ensures (c.in_ok-finish.ensures ∙ from_nothing _ _ (answer_avps front realm c.args.message.now request reply) c.in_ok-draft.ensures avps)
