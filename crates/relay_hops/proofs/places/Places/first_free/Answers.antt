use Rattle.std.proofs.Common.{◌≡◌, ◌+◌, ◌∙◌, None, is_some, refl, ap, arith, rules}
use Rattle.relay_hops.specs.Identifiers.{identifier_of, key_in}
use Rattle.relay_hops.proofs.Numbers.{none_free}
use Rattle.relay_hops.proofs.Slab.{taken-key}
use Rattle.relay_hops.proofs.places.Places.first_free.Goals as goal

pub returns-then-is_none-clause-given : goal.returns-then-is_none-clause-given
returns-then-is_none-clause-given c =
    let none : key_in c.args.self.now.index.keys.items c.identifier_of-hop.result ≡ None = search rules in
    record {
      passed = c.loop-passed.passed;
      taken = λ k lt. taken-key c.args.self.now.slab.slots c.args.self.now.index.keys.items (identifier_of (c.args.from + k)) c.requires.indexed ∙ c.loop-passed.invariant k lt;
      free = taken-key c.args.self.now.slab.slots c.args.self.now.index.keys.items c.identifier_of-hop.result c.requires.indexed ∙ ap is_some none;
      hop_is = c.identifier_of-hop.ensures;
      next_is = refl;
    }

pub unreachable-requires : goal.unreachable-requires
unreachable-requires c =
    let all = none_free c.args.self.now.index.keys.items c.args.from c.requires.power (λ k lt. c.loop-passed.invariant k (omega (arith, c.loop-passed-test.false, c.size-passed-end.ensures))) in
    omega (arith, c.requires.room, c.requires.indexed.many)
