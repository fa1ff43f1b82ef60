use Rattle.std.proofs.Common.{◌≡◌, Option, Some, None, refl, ap, sym, ◌∙◌}
use Rattle.std.specs.Option.{is_some, option_map}
use Rattle.dia_dict.specs.Dictionary.{entry_of}
use Rattle.dia_grammar.specs.Grammar.{has_row}
use Rattle.dia_grammar.proofs.asking.has_row.Goals as goal

is_some-map : {X Y : Type 0} (f : X → Y) (o : Option X) → is_some (option_map f o) ≡ is_some o
is_some-map f None = refl
is_some-map f (Some x) = refl

pub returns : goal.returns
unfolding has_row
returns c = c.is_some.ensures ∙ sym (is_some-map entry_of c.row_of.result) ∙ ap is_some c.row_of.ensures
