use Rattle.std.proofs.Common.{◌≡◌, ◌≤◌, None, false, length}
use Rattle.dia_message.specs.Stream.{is_whole, stream_of}
use Rattle.farm_net.specs.Turn.{HasRead}
use Rattle.farm_net.proofs.turn.read_turn.Given as goal

abbrev pub invariant-loop : goal.invariant-loop
invariant-loop g l = record {
  read : HasRead (g.R.Read.remaining l.initial.reader) (g.R.Read.remaining l.reader) l.initial.frames l.messages.items l.frames;
  sound : (stream_of l.frames).fault ≡ None;
  unread : is_whole l.frames ≡ false;
  few : length l.messages.items ≤ l.initial.most;
}
