use Rattle.std.proofs.Common.{◌≡◌, ℕ, List, ◌++◌, ap, ◌∙◌, append_assoc}
use Rattle.dia_message.specs.Spelling.{octets_of}
use Rattle.farm_net.proofs.conn.push_message.Goals as goal

pushed : (old mid new header body spelled : List ℕ) → mid ≡ old ++ header → new ≡ mid ++ body → header ++ body ≡ spelled → new ≡ old ++ spelled
pushed old mid new header body spelled first second is =
    second ∙ ap (λ (xs : List ℕ). xs ++ body) first ∙ append_assoc old header body ∙ ap (λ (xs : List ℕ). old ++ xs) is

pub returns-in-Ok-clause-ok : goal.returns-in-Ok-clause-ok
returns-in-Ok-clause-ok c =
    pushed c.args.outbox.now.items c.extend_from_slice.new.self.items c.extend_from_slice-2.new.self.items c.spell_header-header.result
    c.args.message.now.body (octets_of c.args.message.now)
    c.in_ok-extend_from_slice.ensures.ok (c.in-Ok.ensures.ok ∙ ap (λ (xs : List ℕ). c.extend_from_slice.new.self.items ++ xs) c.as_slice.ensures)
    c.spell_header-header.ensures
