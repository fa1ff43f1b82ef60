use Rattle.std.proofs.Common.{Some, ap, ◌∙◌}
use Rattle.cc_view.specs.declared.reply.CcReply.{CcReply}
use Rattle.cc_book.proofs.Keys.{kept_reply-repeat, repeat_reply-other}
use Rattle.cc_book.proofs.laws.other_contents_are_refused.Goals as goal

pub returns : goal.returns
returns c = λ terms before after moment taken request legal same other.
    kept_reply-repeat terms before after moment taken request legal same
    ∙ ap (λ (r : CcReply). Some r) (repeat_reply-other terms before taken request other)
