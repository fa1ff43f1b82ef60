use denote.Exit.{yes}
use denote.Param.Send.{arg_send, param_send}
use Rattle.std.proofs.Common.{◌∙◌, is_some}
use Rattle.book_file.proofs.Crossing.{file_book_send}
use Rattle.farm_live.proofs.Crossing.{boxed_send}
use Rattle.farm_live.proofs.Served.{led_terms_hold}
use Rattle.farm_live.proofs.fronts.serve_fronts.Goals as goal

pub serve_on-requires-send-S : goal.serve_on-requires-send-S
serve_on-requires-send-S g c κs within = param_send 1 _ (arg_send _ yes _ (boxed_send _ (file_book_send _ _ _)))

pub serve_on-requires-clause-serves : goal.serve_on-requires-clause-serves
serve_on-requires-clause-serves g c κs within =
    led_terms_hold c.args.setting.now.site.now (is_some c.args.setting.now.accounts) c.in_ok-opened.opened.1 c.in_ok-journal.book c.in_ok-opened.change
    c.in_ok-opened.ensures.leads c.in_ok-journal.ensures.hold (c.in_ok-journal.ensures.limit ∙ c.in_ok-opened.ensures.limit)

pub serve_on-requires-clause-kept : goal.serve_on-requires-clause-kept
serve_on-requires-clause-kept g c κs within = c.in_ok-journal-2.ensures.kept c.in_ok-journal.book c.in_ok-journal.ensures.kept
