-- What a request asks: all that is read in it. Two requests with one key are one request where they ask the same; what
-- is not read, as a flag, a time or the way of the message, is none of it.
use Rattle.std.specs.Prelude.{ℕ, List, Bool, Option, nat_eq, ◌&&◌, ◌==◌}
use Rattle.std.specs.Option.{option_eq}
use lib.Pointwise.{pointwise}
use mathlib.Core.Bool.{beq}
use Rattle.cc_view.specs.declared.request.CcRequest.{CcRequest}
use Rattle.cc_view.specs.declared.request.RequestKind.{RequestKind}
use Rattle.cc_view.specs.declared.request.RequestedAction.{RequestedAction}
use Rattle.cc_view.specs.declared.request.Service.{Service}
use Rattle.cc_view.specs.declared.request.Subscription.{Subscription}
use Rattle.cc_view.specs.Request.Number.{action_number, kind_number}

abbrev pub same_kind : RequestKind → RequestKind → Bool
same_kind one other = kind_number one == kind_number other

abbrev pub same_action : RequestedAction → RequestedAction → Bool
same_action one other = action_number one == action_number other

abbrev pub same_subscription : Subscription → Subscription → Bool
same_subscription one other = (one.kind == other.kind) && pointwise nat_eq one.text other.text

-- counts of time, octets and service-specific units, each of which may be absent
abbrev pub same_counts : List (Option ℕ) → List (Option ℕ) → Bool
same_counts = pointwise (option_eq nat_eq)

abbrev pub same_service : Service → Service → Bool
same_service one other =
    option_eq nat_eq one.group other.group
    && (option_eq nat_eq one.ident other.ident
    && (beq one.bare other.bare && (option_eq same_counts one.asked other.asked && pointwise nat_eq one.used other.used)))

-- whether two requests ask the same under one key, down to the order of their subscriptions and of their services
abbrev pub same_request : CcRequest → CcRequest → Bool
same_request one other =
    pointwise nat_eq one.session other.session
    && ((one.number == other.number)
    && (same_kind one.kind other.kind
    && (option_eq same_action one.action other.action
    && (pointwise same_subscription one.subscriptions other.subscriptions && pointwise same_service one.services other.services))))
