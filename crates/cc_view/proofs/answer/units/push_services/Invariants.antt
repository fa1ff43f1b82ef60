use Rattle.std.proofs.Common.{◌≡◌, ◌++◌, take}
use Rattle.cc_view.specs.Answer.{services_part}
use Rattle.cc_view.specs.Answer.Writing.{spelling_of}
use Rattle.cc_view.proofs.answer.units.push_services.Given as goal

abbrev pub invariant-loop-service : goal.invariant-loop-service
invariant-loop-service l = l.draft ≡ l.initial.draft ++ spelling_of (services_part (take l.service-index l.services))
