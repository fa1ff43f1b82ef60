use denote.Exit.{yes}
use denote.Param.Send.{arg_send, param_send}
use Rattle.book_file.proofs.Crossing.{file_book_send}
use Rattle.farm_live.proofs.serving.serve_alone.Goals as goal

pub serve_over-requires-send-S : goal.serve_over-requires-send-S
serve_over-requires-send-S g c κs within = param_send 2 _ (arg_send _ yes _ (file_book_send _ _ _))
