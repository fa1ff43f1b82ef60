use Rattle.std.proofs.Common.{◌≡◌, ◌-◌}
use Rattle.book_rows.specs.Form.{so_many}
use Rattle.book_rows.proofs.Repeated.{with_front}
use Rattle.book_rows.specs.TermsParts.{account}
use Rattle.book_rows.proofs.accounts.so_many_accounts_at.Given as goal

abbrev pub invariant-loop : goal.invariant-loop
invariant-loop l = with_front l.values.items (so_many account.read (l.count - l.counter) l.rest) ≡ so_many account.read l.count l.octets
