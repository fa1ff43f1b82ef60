-- What is put behind others, and then more.
use Rattle.std.proofs.Common.{◌≡◌, ℕ, List, [], ◌++◌, sym, ap, ◌∙◌, append_assoc}
use Rattle.std.proofs.lemmas.List.{append-nil}
use Rattle.farm_record.specs.Growing.{Grows}

pub grows_same : (octets : List ℕ) → Grows octets octets
grows_same octets = record { more = []; all = sym (append-nil octets) }

pub grows_by : (old more new : List ℕ) → new ≡ old ++ more → Grows old new
grows_by old more new all = record { more = more; all = all }

pub grows_then : (old mid new : List ℕ) → Grows old mid → Grows mid new → Grows old new
grows_then old mid new first second = record {
  more = first.more ++ second.more;
  all = second.all ∙ ap (λ (octets : List ℕ). octets ++ second.more) first.all ∙ append_assoc old first.more second.more;
}
