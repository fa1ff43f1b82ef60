use Rattle.std.proofs.Common.{◌≡◌, ℕ, ◌+◌, length, ap, arith}
use Rattle.std.specs.Prelude.{nat_lt}
use Rattle.dia_message.specs.Spelling.{octets_of}
use Rattle.dia_message.proofs.Spelled.{length-octets_of}
use Rattle.farm_net.proofs.conn.is_too_much.Goals as goal

pub returns : goal.returns
returns c =
    let waiting : c.len.result + (20 + length c.as_slice.result.now) ≡ length c.args.outbox.now.items + length (octets_of c.args.message.now) =
    omega (arith, c.len.ensures.value, ap length c.as_slice.ensures, length-octets_of c.args.message.now) in
    ap (λ (n : ℕ). nat_lt 1048576 n) waiting
