use Rattle.std.proofs.Common.{◌≡◌, ◌-◌}
use Rattle.book_rows.specs.Form.{so_many}
use Rattle.book_rows.proofs.Repeated.{with_front}
use Rattle.book_rows.specs.TermsParts.{tariff}
use Rattle.book_rows.proofs.tariffs.so_many_tariffs_at.Given as goal

abbrev pub invariant-loop : goal.invariant-loop
invariant-loop l = with_front l.values.items (so_many tariff.read (l.count - l.counter) l.rest) ≡ so_many tariff.read l.count l.octets
