use Rattle.std.proofs.Common.{◌≡◌, ℕ, List, Some, None, false, sym, ap, ◌∙◌}
use Rattle.std.specs.List.{list_any}
use Rattle.dia_base.specs.Folding.{same_folded}
use Rattle.dia_base.specs.Identity.{fault_of}
use Rattle.farm_base.specs.declared.site.Node.{Node}
use Rattle.toml.specs.Data.{string}
use Rattle.farm_site.proofs.Following.{node_may_follow}
use Rattle.farm_site.proofs.node.node_of.Goals as goal

pub returns-clause-follows : goal.returns-clause-follows
returns-clause-follows c =
    let sound : fault_of c.name.inside.octets.items ≡ None = ap (λ (xs : List ℕ). fault_of xs) c.name.view_is ∙ c.in_ok-name.ensures.sound in
    let new : list_any (λ (other : Node). same_folded other.name c.name.inside.octets.items) c.args.before.now ≡ false =
    ap (λ (xs : List ℕ). list_any (λ (other : Node). same_folded other.name xs) c.args.before.now) c.name.view_is ∙ sym c.if-is_named.ensures in
    node_may_follow c.args.before.now (record { name = c.name.inside.octets.items; kind = c.in_ok-kind_of.field-0; address = c.in_ok-address_of.field-0 }) sound new

pub returns-clause-spelled : goal.returns-clause-spelled
returns-clause-spelled c = record {
  name = c.in_ok-name.ensures.value ∙ ap (λ (xs : List ℕ). Some (string xs)) (sym c.name.view_is);
  kind = c.in_ok-text.ensures.value ∙ ap (λ (xs : List ℕ). Some (string xs)) c.in_ok-kind_of.ensures.value;
  address = c.in_ok-address_of.ensures.value;
  written = c.in_ok-address_of.ensures.written;
}
