-- What clap reads of the command line.
use Rattle.std.proofs.Common.{◌≡◌, Bool, true, false, List, [], ◌∷◌, Option, Some, None, refl, ap, ap₂, ◌∙◌, find, option_map, cond, inl, inr}
use Rattle.std.specs.Prelude.{◌⊎◌}
use Rattle.clap.specs.Walk.{Row, Text, answers_to, stop_after}
use Rattle.clap.specs.Simple.{App, Shape, built, entered, is_simple, label_of, names_of, rows_at, subcommand_of, with_subcommand}
use Rattle.clap.specs.Faults.{is_simple_and_free}
use Rattle.clap.proofs.OnLiterals.{clap_on_literals}
use Rattle.farm_command.specs.declared.fault.CliFault.TheVariants as fault
use Rattle.farm_command.specs.declared.subcommand.Subcommand.{Subcommand}
use Rattle.farm_command.specs.declared.subcommand.Subcommand.TheVariants as sub
use Rattle.farm_command.specs.CommandLine.{command_line, name_of}
use Rattle.farm_command.specs.Asked.{IsFaultIn, IsUnknown}

-- clap's words say exactly what it reads of this command line, and how it fails
pub line_is_simple : is_simple command_line ≡ true
unfolding clap_on_literals
line_is_simple = refl

pub line_is_free : is_simple_and_free command_line ≡ true
unfolding clap_on_literals
line_is_free = refl

-- one more subcommand
pub one_more : (made above known sub line : App) → made ≡ with_subcommand above sub.top → above ≡ known → sub ≡ line → made ≡ with_subcommand known line.top
one_more made above known sub line is e f = is ∙ ap₂ with_subcommand e (ap (λ (a : App). a.top) f)

-- ---- each subcommand that clap enters has a name

abbrev pub IsKnown : Option (Text × List Row) → Type 0
IsKnown None = Unit {0}
IsKnown (Some found) = (s : Subcommand) × (found.0 ≡ name_of s)

abbrev AreKnown : List Shape → Type 0
AreKnown [] = Unit {0}
AreKnown (shape ∷ shapes) = ((s : Subcommand) × (shape.name ≡ name_of s)) × AreKnown shapes

known_if : (p : Bool) (shape : Shape) (rest : Option Shape) (words : List Text) → ((s : Subcommand) × (shape.name ≡ name_of s))
    → IsKnown (option_map (λ s. rows_at s words) rest)
    → IsKnown (option_map (λ s. rows_at s words) (cond p (Some shape) rest))
known_if true shape rest words is others = is
known_if false shape rest words is others = others

known_among : (p : Shape → Bool) (shapes : List Shape) (words : List Text) → AreKnown shapes
    → IsKnown (option_map (λ s. rows_at s words) (find p shapes))
known_among p [] words known = tt
known_among p (shape ∷ shapes) words known = known_if (p shape) shape (find p shapes) words known.0 (known_among p shapes words known.1)

all_are_known : AreKnown (built command_line).subs
all_are_known = (
  (sub.Replay, refl),
  (
    (sub.Report, refl),
    (
      (sub.Relay, refl),
      (
        (sub.Front, refl),
        (
          (sub.Send, refl),
          ((sub.Check, refl), ((sub.Audit, refl), ((sub.Schedule, refl), ((sub.Book, refl), ((sub.Picture, refl), ((sub.Words, refl), tt)))))),
        ),
      ),
    ),
  ),
)

pub entered_is_known : (words : List Text) → IsKnown (subcommand_of command_line words)
entered_is_known words = go (stop_after (built command_line).top.rules (names_of (built command_line)) words)
  where
    go : (stop : Option (Text × List Text)) → IsKnown (entered (built command_line) stop)
    go None = tt
    go (Some (name, rest)) = known_among (λ s. answers_to name (label_of s)) (built command_line).subs rest all_are_known

-- memory may run out at each of them
pub no_memory_in : (found : Option (Text × List Row)) → IsKnown found → IsFaultIn found fault.OutOfMemory
no_memory_in None known = refl
no_memory_in (Some found) known = (known.0, known.1, tt)

-- so none is unknown
pub never_unknown : {A : Type 0} (found : Option (Text × List Row)) → IsKnown found → A ⊎ IsUnknown found → A
never_unknown found known (inl fact) = fact
never_unknown None known (inr unknown) = absurd unknown
never_unknown (Some found) known (inr unknown) = absurd (unknown known.0 known.1)
