use Rattle.std.proofs.Common.{◌≡◌, ◌∙◌, ◌==◌, true, false, ap, sym, subst, is_some, IfSome, None, rules, refl}
use Rattle.dia_base.specs.declared.number.ConnId.{ConnId}
use Rattle.relay_hops.specs.PendingTable.{held_at}
use Rattle.relay_hops.specs.PlaceTable.{row_at, rows_of}
use Rattle.relay_hops.proofs.Slab.{IsMap-indexed}
use Rattle.relay_hops.proofs.Going.{told_by, conn_is, as_held, same_if_free, free_there, moved_held}
use Rattle.relay_hops.proofs.pending.Pending.move_to.Goals as goal

-- ---- on its own connection

own : (c : goal.After-renumber) → c.args.to ≡ c.args.conn
own c = let same : (c.args.to.0 == c.args.conn.0) ≡ true = search rules in conn_is c.args.to c.args.conn same

pub returns-then-eq-clause-free : goal.returns-then-eq-clause-free
returns-then-eq-clause-free c = subst (λ (to : ConnId). IfSome c.renumber.result (λ fresh. held_at c.args.self.now.rows to fresh ≡ None)) (sym (own c)) c.renumber.ensures.free

pub returns-then-eq-clause-same : goal.returns-then-eq-clause-same
returns-then-eq-clause-same c =
    same_if_free c.renumber.result (held_at c.args.self.now.rows c.args.to c.args.hop) c.args.hop
    (subst (λ (to : ConnId). is_some c.renumber.result ≡ is_some (held_at c.args.self.now.rows to c.args.hop)) (sym (own c)) c.renumber.ensures.variant)

-- ---- on another one

pub returns-clause-variant : goal.returns-clause-variant
returns-clause-variant c =
    rw (← c.self.view_is)
    (c.resend.ensures.variant ∙ as_held (row_at c.self.inside.places c.args.conn c.args.hop)
    ∙ sym (ap is_some (told_by c.self.inside.places c.args.conn c.args.hop (row_at c.self.inside.places c.args.conn c.args.hop) c.self.invariant.in_place refl)))

pub returns-clause-free : goal.returns-clause-free
returns-clause-free c =
    let other : (c.args.to.0 == c.args.conn.0) ≡ false = search rules in
    rw (← c.self.view_is) (free_there c.self.inside.places c.args.conn c.args.to c.args.hop c.resend.result c.self.invariant.in_place c.resend.ensures.same c.resend.ensures.variant other)

pub returns-clause-moved : goal.returns-clause-moved
returns-clause-moved c =
    rw (← c.self.view_is, told_by c.self.inside.places c.args.conn c.args.hop (row_at c.self.inside.places c.args.conn c.args.hop) c.self.invariant.in_place refl)
    (moved_held c.self.inside.places c.args.conn c.args.to c.args.hop c.resend.result (rows_of c.resend.new.self) c.resend.ensures.moved)

pub returns-clause-map_before : goal.returns-clause-map_before
returns-clause-map_before c = rw (← c.self.view_is) (IsMap-indexed c.self.inside.places.slab.slots c.self.inside.places.index.keys.items c.self.invariant.in_place)

pub returns-clause-map : goal.returns-clause-map
returns-clause-map c = IsMap-indexed c.resend.new.self.slab.slots c.resend.new.self.index.keys.items c.resend.ensures.indexed
