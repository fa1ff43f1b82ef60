-- Finished jobs that are taken out of the queue, one after the other.
use Rattle.std.proofs.Common.{◌≡◌, ℕ, ◌+◌, List, [], ◌∷◌, ◌++◌, length, length-append, arith, ap, subst, sym, ◌∙◌, append-nil, append_assoc}
use Rattle.std.proofs.lemmas.List.Elements.{All-nil}
use Rattle.front_pool.specs.declared.job.Finished.{Finished}
use Rattle.front_pool.specs.Keeping.{FoundNone, IsStranger, PoolState, more_by}
use Rattle.front_pool.proofs.Rule.{all_append}

none_more : (count : ℕ) → count ≡ more_by count 0
none_more count = omega arith

-- nothing was taken out yet
pub passes_none : (old : PoolState) → FoundNone old old
passes_none old = record {
  strangers = [];
  are_strangers = All-nil (IsStranger old);
  is =
      ap (λ (l : List Finished). record old { taken = l }) (sym (append-nil old.taken))
      ∙ ap (λ (n : ℕ). record old { taken = old.taken ++ []; strangers = n }) (none_more old.strangers);
}

-- the pool behind some that it has passed over, and one more that was taken out
behind :
    (old mid after : PoolState) (strangers : List Finished) (finished : Finished)
    → mid ≡ record old { taken = old.taken ++ strangers; strangers = more_by old.strangers (length strangers) }
    → after ≡ record mid { taken = mid.taken ++ finished ∷ [] }
    → after ≡ record old { taken = old.taken ++ (strangers ++ finished ∷ []); strangers = more_by old.strangers (length strangers) }
behind old mid after strangers finished was taken =
    taken ∙ ap (λ (p : PoolState). record p { taken = p.taken ++ finished ∷ [] }) was
    ∙ ap (λ (l : List Finished). record old { taken = l; strangers = more_by old.strangers (length strangers) }) (append_assoc old.taken strangers (finished ∷ []))

one_more : (count : ℕ) (strangers : List Finished) (finished : Finished)
    → more_by (more_by count (length strangers)) 1 ≡ more_by count (length (strangers ++ finished ∷ []))
one_more count strangers finished = omega (arith, length-append strangers (finished ∷ []))

-- the same, once the one that was taken out is counted
counted :
    (old after new : PoolState) (strangers : List Finished) (finished : Finished)
    → after ≡ record old { taken = old.taken ++ (strangers ++ finished ∷ []); strangers = more_by old.strangers (length strangers) }
    → new ≡ record after { strangers = more_by after.strangers 1 }
    → new ≡ record old { taken = old.taken ++ (strangers ++ finished ∷ []); strangers = more_by old.strangers (length (strangers ++ finished ∷ [])) }
counted old after new strangers finished is more =
    more ∙ ap (λ (p : PoolState). record p { strangers = more_by p.strangers 1 }) is
    ∙ ap (λ (n : ℕ). record old { taken = old.taken ++ (strangers ++ finished ∷ []); strangers = n }) (one_more old.strangers strangers finished)

pub passes_over :
    (old mid after new : PoolState) (finished : Finished) → FoundNone old mid → after ≡ record mid { taken = mid.taken ++ finished ∷ [] }
    → IsStranger after finished → new ≡ record after { strangers = more_by after.strangers 1 } → FoundNone old new
passes_over old mid after new finished found taken stranger more =
    let is = behind old mid after found.strangers finished found.is taken in
    let ours : IsStranger old finished = subst (λ (p : PoolState). IsStranger p finished) is stranger in
    record {
      strangers = found.strangers ++ finished ∷ [];
      are_strangers = all_append (IsStranger old) found.strangers finished found.are_strangers ours;
      is = counted old after new found.strangers finished is more;
    }
