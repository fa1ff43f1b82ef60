use Rattle.std.proofs.Common.{◌≡◌, ◌+◌, ◌-◌, length, ap, ◌∙◌, arith}
use Rattle.cc_view.proofs.Groups.{length_written, overwritten}
use Rattle.cc_view.proofs.answer.draft.Draft.close_group.Goals as goal

pub returns : goal.returns
returns c =
    let same : c.deref_mut.result.now ≡ c.args.self.now = c.deref_mut.ensures.value ∙ c.self.view_is in
    let written = overwritten c.args.self.now c.deref_mut.result.now c.self.inside.octets.items c.write_u24.new.buf (c.args.start + 5) c.self.inside.octets.len (c.len.result - c.args.start)
    same c.deref_mut.ensures.len (omega (arith, ap length same)) c.write_u24.ensures in
    λ front code members is_start is_old.
    length_written front c.args.self.now _ c.args.start (c.len.result - c.args.start) code members is_start is_old (omega (arith, ap length same)) written
