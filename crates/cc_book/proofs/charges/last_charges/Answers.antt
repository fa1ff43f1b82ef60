use Rattle.std.proofs.Common.{◌≡◌, ℕ, ◌<◌, ◌≤◌, ◌-◌, ◌++◌, ◌∷◌, [], List, length, length-append, append_assoc, append-nil, refl, ap, sym, ◌∙◌, arith, true, false}
use Rattle.std.proofs.lemmas.Option.{slice_get-get_or}
use Rattle.cc_book.specs.Charging.{is_charge_to, latest}
use Rattle.cc_book.proofs.Charging.{latest-next, latest-none}
use Rattle.cc_book.proofs.charges.last_charges.Goals as goal
use Rattle.cc_book.proofs.charges.last_charges.Goals.{else-loop-place-test, then-loop-place-test+then-len-most}

pub loop-place-preserved-in-Continue-1 : goal.loop-place-preserved-in-Continue-1
loop-place-preserved-in-Continue-1 c =
    let account = c.args.account in
    let charges = c.args.charges.now in
    let places = c.loop-place.places.items in
    let place = c.loop-place.place in
    let most = c.args.most in
    let more : length places < most = omega (arith, c.loop-place.invariant.few, c.if-len-most.false, c.len.ensures) in
    let within : place - 1 < length charges = omega (arith, c.loop-place.auto.place, c.loop-place-test.true) in
    let here = ap (is_charge_to account) (slice_get-get_or charges (place - 1) _ within) in
    let next = latest-next account charges place (most - length places) true c.loop-place-test.true (omega (arith, more)) (here ∙ sym c.is_to.ensures ∙ c.if-is_to.true) in
    let long = length-append places ((place - 1) ∷ []) in
    let pushed : c.push.new.self.items ≡ places ++ (place - 1) ∷ [] = c.in_ok-push.ensures.items in
    let count : most - length places - 1 ≡ most - length c.push.new.self.items = omega (arith, more, long, ap length pushed) in
    record {
      few = omega (arith, more, long, ap length pushed);
      found = c.loop-place.invariant.found
          ∙ ap (λ (ps : List ℕ). places ++ ps) next
          ∙ sym (append_assoc places ((place - 1) ∷ []) (latest account charges (place - 1) (most - length places - 1)))
          ∙ (λ i. sym pushed i ++ latest account charges (place - 1) (count i));
    }

pub loop-place-preserved : goal.loop-place-preserved
loop-place-preserved c =
    let account = c.args.account in
    let charges = c.args.charges.now in
    let places = c.loop-place.places.items in
    let place = c.loop-place.place in
    let most = c.args.most in
    let more : length places < most = omega (arith, c.loop-place.invariant.few, c.if-len-most.false, c.len.ensures) in
    let within : place - 1 < length charges = omega (arith, c.loop-place.auto.place, c.loop-place-test.true) in
    let here = ap (is_charge_to account) (slice_get-get_or charges (place - 1) _ within) in
    let next = latest-next account charges place (most - length places) false c.loop-place-test.true (omega (arith, more)) (here ∙ sym c.is_to.ensures ∙ c.if-is_to.false) in
    record {
      few = c.loop-place.invariant.few;
      found = c.loop-place.invariant.found ∙ ap (λ (ps : List ℕ). places ++ ps) next;
    }

pub returns : goal.returns
returns c =
    let account = c.args.account in
    let charges = c.args.charges.now in
    let places = c.loop-place.places.items in
    let most = c.args.most in elim c.loop-place-test.branch [
      | else-loop-place-test w ↦
          (let none : c.loop-place.place ≡ 0 = omega (arith, w.loop-place-test.false) in
          sym (c.loop-place.invariant.found ∙ ap (λ (n : ℕ). places ++ latest account charges n (most - length places)) none ∙ append-nil places))
      | then-loop-place-test+then-len-most w ↦
          (let none : most - length places ≡ 0 = omega (arith, w.if-len-most.true, w.len.ensures, c.loop-place.invariant.few) in
          sym (c.loop-place.invariant.found
          ∙ ap (λ (n : ℕ). places ++ latest account charges c.loop-place.place n) none
          ∙ ap (λ (ps : List ℕ). places ++ ps) (latest-none account charges c.loop-place.place)
          ∙ append-nil places))
    ]
