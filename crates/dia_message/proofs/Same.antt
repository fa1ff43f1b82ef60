-- What the derived `==` of messages says: that they are the same.
use Rattle.std.proofs.Common.{◌≡◌, Bool, true, false, ◌&&◌, eqb, refl, ap}
use Rattle.std.specs.Bool.{Decides}
use Rattle.std.specs.Cmp.Lexicographic.{pointwise}
use Rattle.std.proofs.Math.Bool.{beq}
use Rattle.std.proofs.lemmas.Bool.Decides.{Decides-and, Decides-eqb, Decides-like, Decides-at}
use Rattle.std.proofs.lemmas.Slice.Eq.{bytes_eq-Decides}
use Rattle.dia_message.specs.declared.header.Header.{Header}
use Rattle.dia_message.specs.declared.message.Message.{Message}

Decides-beq : (x y : Bool) → Decides (beq x y) (x ≡ y)
Decides-beq true true = (λ _. refl, λ _. refl)
Decides-beq true false = (λ e. absurd cc, λ e. absurd cc)
Decides-beq false true = (λ e. absurd cc, λ e. absurd cc)
Decides-beq false false = (λ _. refl, λ _. refl)

-- `==` of two headers, field by field
abbrev pub header_eq : Header → Header → Bool
header_eq a b = beq a.request b.request && (beq a.proxiable b.proxiable && (beq a.error b.error && (beq a.resent b.resent && (eqb a.command b.command && (eqb a.application b.application && (eqb a.hop b.hop && eqb a.«end» b.«end»))))))

pub header_eq-Decides : (a b : Header) → Decides (header_eq a b) (a ≡ b)
header_eq-Decides a b =
    Decides-like (header_eq a b)
    (λ s i. record { request = s.0 i; proxiable = s.1.0 i; error = s.1.1.0 i; resent = s.1.1.1.0 i; command = s.1.1.1.1.0 i; application = s.1.1.1.1.1.0 i; hop = s.1.1.1.1.1.1.0 i; «end» = s.1.1.1.1.1.1.1 i })
    (λ e. (ap (λ (h : Header). h.request) e, (ap (λ (h : Header). h.proxiable) e, (ap (λ (h : Header). h.error) e, (ap (λ (h : Header). h.resent) e, (ap (λ (h : Header). h.command) e, (ap (λ (h : Header). h.application) e, (ap (λ (h : Header). h.hop) e, ap (λ (h : Header). h.«end») e))))))))
    (Decides-and _ _ (Decides-beq a.request b.request) (Decides-and _ _ (Decides-beq a.proxiable b.proxiable) (Decides-and _ _ (Decides-beq a.error b.error) (Decides-and _ _ (Decides-beq a.resent b.resent) (Decides-and _ _ (Decides-eqb a.command b.command) (Decides-and _ _ (Decides-eqb a.application b.application) (Decides-and _ _ (Decides-eqb a.hop b.hop) (Decides-eqb a.«end» b.«end»))))))))

-- `==` of two messages
abbrev pub message_eq : Message → Message → Bool
message_eq a b = header_eq a.header b.header && pointwise eqb a.body b.body

-- at an answer `r` of `==`, as its contract says it
pub message_eq-Decides : (a b : Message) (r : Bool) → r ≡ message_eq a b → Decides r (a ≡ b)
message_eq-Decides a b r e =
    Decides-at r (message_eq a b) e (
    Decides-like (message_eq a b)
    (λ s i. record { header = s.0 i; body = s.1 i })
    (λ same. (ap (λ (m : Message). m.header) same, ap (λ (m : Message). m.body) same))
    (Decides-and _ _ (header_eq-Decides a.header b.header) (bytes_eq-Decides a.body b.body))
    )
