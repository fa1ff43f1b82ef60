use Rattle.std.proofs.Common.{refl}
use Rattle.cc_view.specs.RequestView.{view_under}
use Rattle.cc_view.proofs.Forwarding.{view_under-forwarded}
use Rattle.cc_view.proofs.Unread.{view-unread}
use Rattle.cc_view.proofs.laws.profiles_read_no_more.Goals as goal

pub returns-clause-identifiers : goal.returns-clause-identifiers
unfolding view_under
returns-clause-identifiers c = λ profile message hop end resent. refl

pub returns-clause-unread : goal.returns-clause-unread
returns-clause-unread c = view-unread

pub returns-clause-forwarded : goal.returns-clause-forwarded
returns-clause-forwarded c = view_under-forwarded
