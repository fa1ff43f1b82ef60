use Rattle.std.proofs.Common.{rules, ◌≡◌, length, ap, sym, ◌∙◌}
use Rattle.cc_book.specs.Balance.{open_sessions_of}
use Rattle.cc_book.specs.Taking.{Ledger}
use Rattle.cc_book.proofs.Books.{open_sessions_of-is}
use Rattle.cc_book.proofs.state.BookState.open_sessions.Goals as goal

pub returns : goal.returns
returns c =
    let count : c.len.result ≡ length c.self.inside.standing.sessions.items = search rules in
    count ∙ sym (open_sessions_of-is c.self.inside.terms.begun c.self.inside.history.items c.self.invariant.0.stands)
    ∙ ap (λ (l : Ledger). open_sessions_of l.terms l.history) c.self.view_is
