use Rattle.std.proofs.Common.{◌≡◌, ◌+◌, ◌<◌, ℕ, ap, sym, arith, ◌∙◌, length, true, false, get_or, eqb, ne_eqb, inl, inr}
use Rattle.std.proofs.lemmas.Bool.Decides.{eqb_tells}
use Rattle.std.proofs.lemmas.List.Sums.{count_by_more_no, count_by_more_yes}
use Rattle.std.proofs.lemmas.Option.{get_or_from_slice_get, slice_get_within}
use Rattle.cc_book.specs.Standing.{sessions_in}
use Rattle.cc_shared.specs.Looking.{charges}
use Rattle.cc_shared.proofs.kept.sessions_of.Goals as goal
use Rattle.cc_shared.proofs.kept.sessions_of.Goals.{then-session-account, else-session-account}

same : (a b : ℕ) → a ≡ b → eqb a b ≡ true
same a b is = elim (eqb_tells a b) as (λ _. eqb a b ≡ true) [
  | inl is_same ↦ is_same.0
  | inr apart ↦ absurd (apart.1 is)
]

pub loop-place-preserved : goal.loop-place-preserved
loop-place-preserved c =
    let account = c.args.account in
    let xs = sessions_in c.args.book.now.terms c.args.book.now.history in
    let place = c.loop-place.place in
    let session = c.in-Some.session.now in
    let within : place < length xs = slice_get_within xs place session c.in-Some.ensures in
    let here : get_or xs place session ≡ session = get_or_from_slice_get xs place session session c.in-Some.ensures in
    elim c.if-session-account.branch [
      | then-session-account w ↦ record {
        counted = w.count-is ∙ ap (λ (n : ℕ). n + 1) c.loop-place.invariant.counted
            ∙ sym (count_by_more_yes (charges account) xs place session within (ap (charges account) here ∙ same session.account account w.if-session-account.true));
        few = omega (arith, w.count-is, c.loop-place.invariant.few);
      }
      | else-session-account w ↦ record {
        counted = w.count-is ∙ c.loop-place.invariant.counted
            ∙ sym (count_by_more_no (charges account) xs place session within (ap (charges account) here ∙ ne_eqb session.account account w.if-session-account.false));
        few = omega (arith, w.count-is, c.loop-place.invariant.few);
      }
    ]
