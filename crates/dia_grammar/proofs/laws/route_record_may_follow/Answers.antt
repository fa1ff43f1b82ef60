use Rattle.std.proofs.Common.{refl}
use Rattle.dia_grammar.specs.Request.{route_record}
use Rattle.dia_grammar.proofs.Following.{fault-follows, record-known}
use Rattle.dia_grammar.proofs.laws.route_record_may_follow.Goals as goal

pub returns : goal.returns
returns c = λ profile avps flags value. fault-follows profile avps (route_record flags value) (record-known profile flags value) refl
