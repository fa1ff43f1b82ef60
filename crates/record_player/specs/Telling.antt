-- What an event of a record tells that passes at its node.
use Rattle.std.specs.Prelude.{true, false, List, [], ◌∷◌, ◌++◌, if◌then◌else◌}
use Rattle.dia_message.specs.declared.message.Message.{Message}
use Rattle.farm_base.specs.Nodes.{is_front}
use Rattle.farm_base.specs.declared.site.Site.{Site}
use Rattle.farm_player.specs.Passing.{Passage}
use Rattle.farm_player.specs.declared.passing.Passed.{Passed}
use Rattle.record_reader.specs.declared.entry.Action.{Action}
use Rattle.record_reader.specs.declared.entry.Action.TheVariants.{Dial, Accept, Opened, Send, Receive, Drop}
use Rattle.record_reader.specs.declared.entry.End.{End}

-- a message more passes; what passes at fronts comes in the book's order, and is not told so
abbrev pub told_with : Site → Passed → Message → List Passage → List Passage
told_with site passed message told = if is_front site passed.node then told else told ++ (passed, message) ∷ []

abbrev pub told_by : Site → End → Action → List Passage → List Passage
told_by site end (Receive message) told = told_with site (record { node = end.node; peer = end.peer; is_sent = false }) message told
told_by site end (Send message) told = told_with site (record { node = end.node; peer = end.peer; is_sent = true }) message told
told_by site end Dial told = told
told_by site end Accept told = told
told_by site end Opened told = told
told_by site end (Drop was_up) told = told
