use Rattle.std.proofs.Common.{◌≡◌, ◌++◌, drop, None}
use Rattle.std.specs.Option.{option_copied}
use Rattle.dia_grammar.specs.Profile.{profile_of}
use Rattle.cc_view.specs.RequestView.Counting.{kept_behind}
use Rattle.cc_view.proofs.view.counting.kept_of.Given as goal

-- what is kept so far, and what is kept of the AVPs that are left, is the whole
abbrev pub invariant-loop-avp : goal.invariant-loop-avp
invariant-loop-avp l = l.kept.items ++ kept_behind (profile_of l.profile) (option_copied l.host) (option_copied l.realm) (drop l.avp-index l.avps) ≡ kept_behind (profile_of l.profile) None None l.avps
