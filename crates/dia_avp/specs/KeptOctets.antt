-- Octets that are kept, as contracts see them.
use Rattle.std.specs.Prelude.{ℕ, List}
use Rattle.dia_avp.specs.declared.octets.Kept.{Kept}
use Rattle.dia_avp.specs.declared.octets.Kept.TheVariants.{Own, Cut}

abbrev pub kept_octets : Kept → List ℕ
kept_octets (Own octets) = octets.items
kept_octets (Cut octets) = octets
