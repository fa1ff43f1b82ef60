use Rattle.cc_book.proofs.Refusing.{refused-open, refused-stranger, refused-termination, refused-update}
use Rattle.cc_book.proofs.laws.other_requests_are_refused.Goals as goal

pub returns : goal.returns
returns c = record { open_already = refused-open; no_account = refused-stranger; update = refused-update; termination = refused-termination }
