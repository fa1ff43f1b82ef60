-- Which identifier a table gives: there is one.
use Rattle.std.proofs.Common.{◌≡◌, ℕ, ◌+◌, ◌%◌, ◌<◌, true, false, inl, inr, ap, sym, subst, ◌∙◌, arith}
use Rattle.std.proofs.lemmas.Bool.{cases_lt}
use Rattle.relay_hops.specs.PendingTable.{PendingTable}
use Rattle.relay_hops.specs.Identifiers.{IsGiven, identifier_of, is_taken, places_for}
use Rattle.relay_hops.specs.IdentifierExample.{GivesOnly}

not_passed : (pending : PendingTable) (hop other next later : ℕ) (a : IsGiven pending hop next) (b : IsGiven pending other later) → a.passed < b.passed → ⊥
not_passed pending hop other next later a b lt =
    let taken = b.taken a.passed lt in
    let free = ap (is_taken (places_for pending.limit) pending.rows) (sym a.hop_is) ∙ a.free in
    absurd (let both : true ≡ false = sym taken ∙ free in cc)

pub same_given : (pending : PendingTable) (hop other next later : ℕ) → IsGiven pending hop next → IsGiven pending other later → (hop ≡ other) × (next ≡ later)
same_given pending hop other next later a b =
    let same : a.passed ≡ b.passed = elim (cases_lt a.passed b.passed) [
      | inl less ↦ absurd (not_passed pending hop other next later a b less)
      | inr more ↦ elim (cases_lt b.passed a.passed) [
        | inl less ↦ absurd (not_passed pending other hop later next b a less)
        | inr equal ↦ omega arith
      ]
    ] in (
      a.hop_is ∙ ap (λ n. identifier_of (pending.next + n)) same ∙ sym b.hop_is,
      a.next_is ∙ ap (λ n. (pending.next + n + 1) % 2147483648) same ∙ sym b.next_is,
    )

pub gives_only : (pending : PendingTable) (given count : ℕ) → IsGiven pending given count → GivesOnly pending given count
gives_only pending given count is hop next = (
  λ other. same_given pending hop given next count other is,
  λ same. subst (λ (h : ℕ). IsGiven pending h next) (sym same.0) (subst (λ (n : ℕ). IsGiven pending given n) (sym same.1) is),
)
