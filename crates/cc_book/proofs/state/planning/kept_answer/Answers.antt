use Rattle.cc_book.proofs.Replies.{other-answered, same-answered}
use Rattle.cc_book.proofs.state.planning.kept_answer.Goals as goal

pub returns-then-not-same_request : goal.returns-then-not-same_request
returns-then-not-same_request c =
    other-answered c.args.taken.now c.args.request.now c.same_request.result c.args.place c.code_alone.result _ c.same_request.ensures
    c.if-not-same_request.true c.code_alone.ensures

pub returns : goal.returns
returns c =
    same-answered c.args.taken.now c.args.request.now c.same_request.result c.args.place c.args.replies.now c.index-replies-place.result c.in-Some.reply
    c.in_ok-copy_of_reply-in-Some.field-0 c.same_request.ensures c.if-not-same_request.false c.requires c.index-replies-place.is c.in-Some.is
    c.in_ok-copy_of_reply-in-Some.ensures
