-- What `==` says of two messages.
use Rattle.std.proofs.Common.{◌≡◌, Bool, ◌&&◌, eqb, refl, ap}
use Rattle.std.specs.Bool.{Decides}
use Rattle.std.specs.Cmp.{booleans_Decides}
use Rattle.std.specs.Cmp.Lexicographic.{pointwise}
use Rattle.std.proofs.Math.Bool.{beq}
use Rattle.std.proofs.lemmas.Bool.Decides.{Decides-and, Decides-eqb, Decides-like}
use Rattle.std.proofs.lemmas.Slice.Eq.{slice_eq-Decides}
use Rattle.dia_message.specs.declared.header.Header.{Header}
use Rattle.dia_message.specs.declared.message.Message.{Message}

-- the fields are the same, one by one
SameFields : Header → Header → Type 0
SameFields a b =
    (a.request ≡ b.request) × ((a.proxiable ≡ b.proxiable) × ((a.error ≡ b.error) × ((a.resent ≡ b.resent)
    × ((a.command ≡ b.command) × ((a.application ≡ b.application) × ((a.hop ≡ b.hop) × (a.end ≡ b.end)))))))

header_from : (a b : Header) → SameFields a b → a ≡ b
unfolding SameFields
header_from a b h = λ i. record {
  request = h.0 i;
  proxiable = h.1.0 i;
  error = h.1.1.0 i;
  resent = h.1.1.1.0 i;
  command = h.1.1.1.1.0 i;
  application = h.1.1.1.1.1.0 i;
  hop = h.1.1.1.1.1.1.0 i;
  end = h.1.1.1.1.1.1.1 i;
}

header_to : (a b : Header) → a ≡ b → SameFields a b
unfolding SameFields
header_to a b e = (
  ap (λ (h : Header). h.request) e,
  (
    ap (λ (h : Header). h.proxiable) e,
    (
      ap (λ (h : Header). h.error) e,
      (
        ap (λ (h : Header). h.resent) e,
        (ap (λ (h : Header). h.command) e, (ap (λ (h : Header). h.application) e, (ap (λ (h : Header). h.hop) e, ap (λ (h : Header). h.end) e))),
      ),
    ),
  ),
)

abbrev header_eq : Header → Header → Bool
header_eq a b =
    beq a.request b.request && (beq a.proxiable b.proxiable && (beq a.error b.error && (beq a.resent b.resent
    && (eqb a.command b.command && (eqb a.application b.application && (eqb a.hop b.hop && eqb a.end b.end))))))

header_decides : (a b : Header) → Decides (header_eq a b) (a ≡ b)
unfolding SameFields
header_decides a b =
    Decides-like _ (header_from a b) (header_to a b)
    (Decides-and _ _ (booleans_Decides a.request b.request) (Decides-and _ _ (booleans_Decides a.proxiable b.proxiable)
    (Decides-and _ _ (booleans_Decides a.error b.error)
    (Decides-and _ _ (booleans_Decides a.resent b.resent) (Decides-and _ _ (Decides-eqb a.command b.command)
    (Decides-and _ _ (Decides-eqb a.application b.application)
    (Decides-and _ _ (Decides-eqb a.hop b.hop) (Decides-eqb a.end b.end))))))))

message_from : (a b : Message) → (a.header ≡ b.header) × (a.body ≡ b.body) → a ≡ b
message_from a b h = λ i. record { header = h.0 i; body = h.1 i }

pub message_decides : (a b : Message) → Decides (header_eq a.header b.header && pointwise eqb a.body b.body) (a ≡ b)
message_decides a b =
    Decides-like _ (message_from a b) (λ e. (ap (λ (m : Message). m.header) e, ap (λ (m : Message). m.body) e))
    (Decides-and _ _ (header_decides a.header b.header) (slice_eq-Decides Decides-eqb a.body b.body _ refl))
