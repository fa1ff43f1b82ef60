use Rattle.std.proofs.Common.{◌≡◌, ◌++◌, filter, take}
use Rattle.dia_grammar.specs.Grammar.{is_of}
use Rattle.dia_base.specs.Codes.{auth_application_id}
use Rattle.cc_view.proofs.view.counting.push_applications.Given as goal

abbrev pub invariant-loop-avp : goal.invariant-loop-avp
invariant-loop-avp l = l.found.items ≡ l.initial.found.items ++ filter (is_of auth_application_id) (take l.avp-index l.members)
