use Rattle.std.proofs.Common.{rules, ◌≡◌, ℕ, List, subst}
use Rattle.std.specs.Net.Grammar.{IsIpv6Text}
use Rattle.farm_access.proofs.Lengths.{neither}
use Rattle.farm_access.proofs.prefix.v6_of.Goals as goal

pub returns-in-Ok-clause-some : goal.returns-in-Ok-clause-some
returns-in-Ok-clause-some c =
    let same : c.as_bytes.result.now ≡ c.args.text.now = search rules in
    (subst (λ (text : List ℕ). IsIpv6Text text c.in-Ok.address) same c.in-Ok.ensures, c.requires)

pub returns-in-Err-clause-none : goal.returns-in-Err-clause-none
returns-in-Err-clause-none c =
    let same : c.as_bytes.result.now ≡ c.args.text.now = search rules in
    neither c.as_bytes.result.now c.args.text.now same c.requires c.in-Err.ensures
