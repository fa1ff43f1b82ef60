use Rattle.std.proofs.Common.{◌≡◌, ◌^◌, All, map, take}
use Rattle.std.specs.Prelude.{pos, negsuc, ◌≤ℤ◌}
use Rattle.cc_list.proofs.standing.Lists.new.Given as goal

abbrev pub invariant-loop-account : goal.invariant-loop-account
invariant-loop-account l = record {
  items : l.balances.items ≡ map (λ account. account.opening) (take l.account-index l.accounts);
  least : All (λ balance. negsuc (2 ^ 63) ≤ℤ balance) l.balances.items;
  most : All (λ balance. balance ≤ℤ pos (2 ^ 63)) l.balances.items;
}
