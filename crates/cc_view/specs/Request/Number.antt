-- The numbers of what a request names by number (RFC 8506, sections 8.3 and 8.41).
use Rattle.std.specs.Prelude.{ℕ}
use Rattle.cc_view.specs.declared.request.RequestKind.{RequestKind}
use Rattle.cc_view.specs.declared.request.RequestKind.TheVariants.{Initial, Update, Termination, Event}
use Rattle.cc_view.specs.declared.request.RequestedAction.{RequestedAction}
use Rattle.cc_view.specs.declared.request.RequestedAction.TheVariants.{DirectDebiting, RefundAccount, CheckBalance, PriceEnquiry}

abbrev pub kind_number : RequestKind → ℕ
kind_number Initial = 1
kind_number Update = 2
kind_number Termination = 3
kind_number Event = 4

abbrev pub action_number : RequestedAction → ℕ
action_number DirectDebiting = 0
action_number RefundAccount = 1
action_number CheckBalance = 2
action_number PriceEnquiry = 3
