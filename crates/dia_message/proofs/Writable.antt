-- A message that octets spell has a spelling that is written.
use Rattle.std.proofs.Common.{◌≡◌, ℕ, ◌-◌, ◌^◌, ◌<◌, List, length, drop, get_or, ⊎_elim, sym, subst, ap, ◌∙◌, arith, length-drop}
use Rattle.std.specs.Prelude.{All}
use Rattle.std.proofs.lemmas.List.{get_or_past}
use Rattle.std.proofs.lemmas.List.Elements.{All-drop}
use Rattle.std.proofs.lemmas.Bool.{cases_lt}
use Rattle.byteorder.specs.Numbers.{big_from-lt}
use Rattle.byteorder.specs.Endian.{big_number}
use Rattle.dia_message.specs.declared.message.Message.{Message}
use Rattle.dia_message.specs.Header.{header_in, HasOctets}
use Rattle.dia_message.specs.Spelling.{Spells, HasSpelling}

abbrev Octets : List ℕ → Type 0
Octets octets = All (λ octet. octet < 256) octets

octet_at : (octets : List ℕ) → Octets octets → (k : ℕ) → get_or octets k 0 < 256
octet_at octets all k = ⊎_elim (λ lt. all k 0 lt) (λ ge. subst (λ (n : ℕ). n < 256) (sym (get_or_past octets k 0 ge)) (omega arith)) (cases_lt k (length octets))

three : (octets : List ℕ) → Octets octets → big_number 3 octets < 2 ^ 24
three octets all = big_from-lt 0 3 octets (octet_at octets all)

four : (octets : List ℕ) → Octets octets → big_number 4 octets < 2 ^ 32
four octets all = big_from-lt 0 4 octets (octet_at octets all)

from : (n : ℕ) (octets : List ℕ) → Octets octets → Octets (drop n octets)
from n octets all = All-drop (λ octet. octet < 256) n octets all

has : (octets : List ℕ) → Octets octets → HasOctets (header_in octets)
has octets all = record {
  command = three (drop 5 octets) (from 5 octets all);
  application = four (drop 8 octets) (from 8 octets all);
  hop = four (drop 12 octets) (from 12 octets all);
  «end» = four (drop 16 octets) (from 16 octets all);
}

pub HasSpelling-read : (octets : List ℕ) (message : Message) → Octets octets → Spells octets message → HasSpelling message
HasSpelling-read octets message all s =
    let body : length message.body ≡ length octets - 20 = ap length s.body ∙ length-drop 20 octets in
    let least = s.least in
    let most = s.most in
    let whole = s.whole in
    record {
      header = subst HasOctets (sym s.header) (has octets all);
      whole = omega arith;
      most = omega arith;
    }
