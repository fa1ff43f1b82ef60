use Rattle.std.proofs.Common.{◌≡◌, ◌+◌, ◌++◌, drop, map, Some}
use Rattle.std.specs.List.{position_from}
use Rattle.farm_client.specs.Lines.{has_none, lines_in, message_on}
use Rattle.farm_client.proofs.messages.messages_of.Given as goal

abbrev pub invariant-loop-place : goal.invariant-loop-place
invariant-loop-place l =
    (map Some l.messages.items ++ map message_on (drop l.place (lines_in l.text)) ≡ map message_on (lines_in l.text))
    × (position_from has_none (l.place + 1) (drop l.place (lines_in l.text)) ≡ position_from has_none 1 (lines_in l.text))
