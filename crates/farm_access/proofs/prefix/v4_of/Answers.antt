use Rattle.std.proofs.Common.{rules, ◌≡◌}
use Rattle.farm_access.proofs.Lengths.{no_v4}
use Rattle.farm_access.proofs.prefix.v4_of.Goals as goal

pub returns-in-Err-clause-none : goal.returns-in-Err-clause-none
returns-in-Err-clause-none c =
    let same : c.as_bytes.result.now ≡ c.args.text.now = search rules in
    no_v4 c.as_bytes.result.now c.args.text.now same c.in-Err.ensures
