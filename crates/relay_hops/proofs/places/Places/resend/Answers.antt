use Rattle.std.proofs.Common.{rules, ◌≡◌, ◌∙◌, ℕ, Some, Option, true, is_some, IfSome, ap, sym, subst}
use Rattle.slab.specs.Slab.{get, with_value}
use Rattle.relay_hops.specs.declared.row.Row.{Row}
use Rattle.relay_hops.specs.PendingTable.{resent, hop_of, IsMoved}
use Rattle.relay_hops.specs.PlaceTable.{rows_at, row_under, if_key, key_at, AreIndexed}
use Rattle.relay_hops.proofs.Slab.{moved_elsewhere, slab_elsewhere, its_hop}
use Rattle.relay_hops.proofs.places.Places.resend.Goals as goal

there : (c : goal.After-self-2-1) → get c.args.self.now.slab c.in_ok-key.key ≡ Some c.in_ok-row.row.now
there c = search rules

keyed : (c : goal.After-self-2-1) → key_at c.args.self.now.index c.args.hop ≡ Some c.in_ok-key.key
keyed c = search rules

found : (c : goal.After-self-2-1) → row_under c.args.self.now c.args.conn c.args.hop (key_at c.args.self.now.index c.args.hop) ≡ if_key c.args.conn c.args.hop (Some c.in_ok-row.row.now)
found c = ap (row_under c.args.self.now c.args.conn c.args.hop) (keyed c) ∙ ap (if_key c.args.conn c.args.hop) (there c)

pub returns-clause-moved : goal.returns-clause-moved
returns-clause-moved c =
    subst
    (λ (o : Option Row). IfSome o
    (λ row. IsMoved row (resent c.args.to c.args.hop row) (rows_at c.args.self.now.slab.slots) (rows_at (with_value c.args.self.now.slab c.in_ok-key.key c.resend.new.self).slots)))
    (sym (found c))
    (subst
    (λ (new : Row). IfSome (if_key c.args.conn c.args.hop (Some c.in_ok-row.row.now))
    (λ row. IsMoved row (resent c.args.to c.args.hop row) (rows_at c.args.self.now.slab.slots) (rows_at (with_value c.args.self.now.slab c.in_ok-key.key new).slots)))
    (sym c.resend.ensures) (moved_elsewhere c.args.self.now.slab c.args.conn c.args.to c.args.hop c.in_ok-key.key c.in_ok-row.row.now (there c)))

pub returns-clause-indexed : goal.returns-clause-indexed
returns-clause-indexed c =
    let some : is_some (row_under c.args.self.now c.args.conn c.args.hop (key_at c.args.self.now.index c.args.hop)) ≡ true = search rules in
    let its : hop_of c.in_ok-row.row.now ≡ c.args.hop = its_hop c.args.conn c.args.hop c.in_ok-row.row.now (ap is_some (sym (found c)) ∙ some) in
    subst (λ (new : Row). AreIndexed (with_value c.args.self.now.slab c.in_ok-key.key new).slots c.args.self.now.index.keys.items) (sym c.resend.ensures)
    (subst (λ (hop : ℕ). AreIndexed (with_value c.args.self.now.slab c.in_ok-key.key (resent c.args.to hop c.in_ok-row.row.now)).slots c.args.self.now.index.keys.items) its
    (slab_elsewhere c.args.self.now.slab c.args.self.now.index.keys.items c.args.to c.in_ok-key.key c.in_ok-row.row.now c.requires.indexed (there c)))
