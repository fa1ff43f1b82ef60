-- Each step of an errand's users keeps what they know of it.
use Rattle.std.proofs.Common.{◌≡◌, ◌≢◌, ◌⊎◌, ℕ, zero, suc, Bool, true, false, not, true≢false, List, [], ◌∷◌, ◌++◌, length, set, refl, sym, ap, ◌∙◌, subst, inl, inr, ⊎_elim, arith}
use Rattle.std.specs.Prelude.{Option, Some, None, is_some}
use mathlib.Core.Option.{some, some-injective, some-ne-none}
use lib.ListN.{get_elem?}
use Rattle.atomic_table.proofs.Lists.{at_set}
use Rattle.crossbeam_utils.specs.Register.{Forks, Turns}
use Rattle.dia_base.specs.declared.number.Moment.{Moment}
use Rattle.cc_shared.specs.History.{SharedLedger}
use Rattle.cc_sweeper.specs.declared.errand.SweepDone.{SweepDone}
use Rattle.cc_sweeper.specs.declared.errand.Errand.{Errand}
use Rattle.cc_sweeper.specs.declared.errand.Errand.TheVariants.{Nothing, Asked, Done}
use Rattle.cc_sweeper.specs.declared.errand.User.{User}
use Rattle.cc_sweeper.specs.declared.errand.User.TheVariants.{Asker, Hand}
use Rattle.cc_sweeper.specs.Errands.{Agree, HasSeen, IsFor, IsTaken, Knows, idle_asker, idle_hand, is_open, new_asker, taken_in}
use Rattle.cc_sweeper.specs.Sweeps.{IsSweptTo}

-- ---- lists of users

at_end : (l : List User) (a b : User) (j : ℕ) → get_elem? (l ++ a ∷ []) j ≡ some b → (get_elem? l j ≡ some b) ⊎ ((j ≡ length l) × (a ≡ b))
at_end [] a b zero e = inr (refl, some-injective a b e)
at_end [] a b (suc j) e = absurd (some-ne-none b (sym e))
at_end (x ∷ l) a b zero e = inl e
at_end (x ∷ l) a b (suc j) e = ⊎_elim
    (λ (was : get_elem? l j ≡ some b). inl was)
    (λ (new : (j ≡ length l) × (a ≡ b)). let at : j ≡ length l = new.0 in let here : suc j ≡ length (x ∷ l) = omega (arith, at) in inr (here, new.1))
    (at_end l a b j e)

knows_set :
    (K : ℕ → User → Type 0) (users : List User) (user : ℕ) (w : User) → ((j : ℕ) (u : User) → j ≢ user → get_elem? users j ≡ some u → K j u) → K user w
    → (j : ℕ) (u : User) → get_elem? (set users user w) j ≡ some u → K j u
knows_set K users user w others mine j u e = ⊎_elim
    (λ (x : (j ≡ user) × (w ≡ u)). subst (λ (y : ℕ × User). K y.0 y.1) (λ i. (sym x.0 i, x.1 i)) mine)
    (λ (x : (j ≢ user) × (get_elem? users j ≡ some u)). others j u x.0 x.1)
    (at_set users user j w u e)

no_false : {A : Type 0} → false ≡ true → A
no_false wrong = absurd (true≢false (sym wrong))

none_some : (asked : Option Moment) (moment : Moment) → asked ≡ None → asked ≡ Some moment → ⊥
none_some asked moment none some_at = true≢false (sym (ap is_some (sym none ∙ some_at)))

-- ---- who asks

pub begins : (shared : SharedLedger) → Agree shared Nothing (new_asker ∷ [])
begins shared = record { asker = 0; hand = 0; hired = false; asked = None; is_for = refl; each = first }
  where
    first : (user : ℕ) (u : User) → get_elem? (new_asker ∷ []) user ≡ some u → Knows 0 0 false None Nothing user u
    first zero u e =
        let none : ℕ = zero in
        subst (λ (k : User). Knows none none false None Nothing none k) (some-injective new_asker u e) (refl, refl, refl, λ wrong. no_false wrong)
    first (suc user) u e = absurd (some-ne-none u (sym e))

not_asked : (shared : SharedLedger) (asked : Option Moment) (errand : Errand) (moment : Moment) → IsFor shared asked errand → asked ≡ None → errand ≡ Asked moment → ⊥
not_asked shared asked errand moment is_for none is = none_some asked moment none (subst (λ (x : Errand). IsFor shared asked x) is is_for)

others_of_asked :
    (shared : SharedLedger) (asker hand : ℕ) (hired : Bool) (asked : Option Moment) (errand : Errand) (moment : Moment) (user j : ℕ) (u : User) → IsFor shared asked errand
    → asked ≡ None → user ≡ asker → j ≢ user → Knows asker hand hired asked errand j u → Knows asker hand hired (Some moment) (Asked moment) j u
others_of_asked shared asker hand hired asked errand moment user j (Asker h a s) is_for none me apart knows = absurd (apart (knows.0 ∙ sym me))
others_of_asked shared asker hand hired asked errand moment user j (Hand None) is_for none me apart knows = (knows.0, knows.1, tt)
others_of_asked shared asker hand hired asked errand moment user j (Hand (Some at)) is_for none me apart knows =
    absurd (not_asked shared asked errand at is_for none knows.2)

pub asks :
    (shared : SharedLedger) (user : ℕ) (seen : Bool) (moment : Moment)
    → Turns (Agree shared) user (Asker true None seen) (λ x. Asked moment) (λ v x y w. w ≡ Asker true (taken_in y) false)
asks shared user seen moment errand users rule at =
    let mine = rule.each user (Asker true None seen) at in
    let now : User = Asker true (Some moment) false in (
      now,
      record {
        asker = rule.asker;
        hand = rule.hand;
        hired = rule.hired;
        asked = Some moment;
        is_for = refl;
        each = knows_set (λ j u. Knows rule.asker rule.hand rule.hired (Some moment) (Asked moment) j u) users user now
            (λ j u apart e. others_of_asked shared rule.asker rule.hand rule.hired rule.asked errand moment user j u rule.is_for (sym mine.2) mine.0 apart (rule.each j u e))
            (mine.0, mine.1, refl, λ wrong. no_false wrong);
      },
      refl,
    )

not_open : (errand : Errand) → not (is_open errand) ≡ true → is_open errand ≡ false
not_open Nothing e = refl
not_open (Asked moment) e = no_false e
not_open (Done done) e = refl

pub sees :
    (shared : SharedLedger) (user : ℕ) (asked : Option Moment) (seen : Bool)
    → Turns (Agree shared) user (Asker true asked seen) (λ x. x) (λ v x y w. HasSeen shared v y w)
sees shared user asked seen errand users rule at =
    let mine = rule.each user (Asker true asked seen) at in
    let now : User = Asker true asked (not (is_open errand)) in (
      now,
      record {
        asker = rule.asker;
        hand = rule.hand;
        hired = rule.hired;
        asked = rule.asked;
        is_for = rule.is_for;
        each = knows_set (λ j u. Knows rule.asker rule.hand rule.hired rule.asked errand j u) users user now (λ j u apart e. rule.each j u e)
            (mine.0, mine.1, mine.2, not_open errand);
      },
      record { knows = refl; is_for = subst (λ (a : Option Moment). IsFor shared a errand) (sym mine.2) rule.is_for },
    )

others_of_collected :
    (asker hand : ℕ) (hired : Bool) (asked : Option Moment) (errand : Errand) (user j : ℕ) (u : User) → is_open errand ≡ false
    → user ≡ asker → j ≢ user → Knows asker hand hired asked errand j u → Knows asker hand hired None Nothing j u
others_of_collected asker hand hired asked errand user j (Asker h a s) shut me apart knows = absurd (apart (knows.0 ∙ sym me))
others_of_collected asker hand hired asked errand user j (Hand None) shut me apart knows = (knows.0, knows.1, tt)
others_of_collected asker hand hired asked errand user j (Hand (Some at)) shut me apart knows =
    absurd (true≢false (sym (ap is_open knows.2) ∙ shut))

pub collects :
    (shared : SharedLedger) (user : ℕ) (asked : Option Moment)
    → Turns (Agree shared) user (Asker true asked true) (λ x. Nothing) (λ v x y w. w ≡ idle_asker)
collects shared user asked errand users rule at =
    let mine = rule.each user (Asker true asked true) at in (
      idle_asker,
      record {
        asker = rule.asker;
        hand = rule.hand;
        hired = rule.hired;
        asked = None;
        is_for = refl;
        each = knows_set (λ j u. Knows rule.asker rule.hand rule.hired None Nothing j u) users user idle_asker
            (λ j u apart e. others_of_collected rule.asker rule.hand rule.hired rule.asked errand user j u (mine.3 refl) mine.0 apart (rule.each j u e))
            (mine.0, mine.1, refl, λ wrong. no_false wrong);
      },
      refl,
    )

-- ---- the sweeper

others_of_hired :
    (asker hand new : ℕ) (hired : Bool) (asked : Option Moment) (errand : Errand) (user j : ℕ) (u : User) → hired ≡ false
    → user ≡ asker → j ≢ user → Knows asker hand hired asked errand j u → Knows asker new true asked errand j u
others_of_hired asker hand new hired asked errand user j (Asker h a s) alone me apart knows = absurd (apart (knows.0 ∙ sym me))
others_of_hired asker hand new hired asked errand user j (Hand taken) alone me apart knows = no_false (sym alone ∙ knows.1)

pub hires : (shared : SharedLedger) (user : ℕ) → Forks (Agree shared) user new_asker idle_asker idle_hand
hires shared user errand users rule at =
    let mine = rule.each user new_asker at in
    let new : ℕ = length (set users user idle_asker) in
    let K : ℕ → User → Type 0 = λ j u. Knows rule.asker new true rule.asked errand j u in
    record {
      asker = rule.asker;
      hand = new;
      hired = true;
      asked = rule.asked;
      is_for = rule.is_for;
      each = λ j u e. ⊎_elim
          (λ (was : get_elem? (set users user idle_asker) j ≡ some u). knows_set K users user idle_asker
          (λ i v apart e'. others_of_hired rule.asker rule.hand new rule.hired rule.asked errand user i v (sym mine.1) mine.0 apart (rule.each i v e'))
          (mine.0, refl, mine.2, λ wrong. no_false wrong) j u was)
          (λ (t : (j ≡ new) × (idle_hand ≡ u)). subst (λ (v : User). K j v) t.1 (t.0, refl, tt))
          (at_end (set users user idle_asker) idle_hand u j e);
    }

is_taken : (errand : Errand) → IsTaken (taken_in errand) errand
is_taken Nothing = tt
is_taken (Asked moment) = refl
is_taken (Done done) = tt

pub takes : (shared : SharedLedger) (user : ℕ) (taken : Option Moment) → Turns (Agree shared) user (Hand taken) (λ x. x) (λ v x y w. w ≡ Hand (taken_in y))
takes shared user taken errand users rule at =
    let mine = rule.each user (Hand taken) at in
    let now : User = Hand (taken_in errand) in (
      now,
      record {
        asker = rule.asker;
        hand = rule.hand;
        hired = rule.hired;
        asked = rule.asked;
        is_for = rule.is_for;
        each = knows_set (λ j u. Knows rule.asker rule.hand rule.hired rule.asked errand j u) users user now (λ j u apart e. rule.each j u e) (mine.0, mine.1, is_taken errand);
      },
      refl,
    )

others_of_answered :
    (asker hand : ℕ) (hired : Bool) (asked : Option Moment) (errand : Errand) (done : SweepDone) (user j : ℕ) (u : User)
    → user ≡ hand → j ≢ user → Knows asker hand hired asked errand j u → Knows asker hand hired asked (Done done) j u
others_of_answered asker hand hired asked errand done user j (Asker h a s) me apart knows = (knows.0, knows.1, knows.2, λ seen. refl)
others_of_answered asker hand hired asked errand done user j (Hand taken) me apart knows = absurd (apart (knows.0 ∙ sym me))

pub answers :
    (shared : SharedLedger) (user : ℕ) (done : SweepDone) → IsSweptTo shared done.moment done.swept
    → Turns (Agree shared) user (Hand (Some done.moment)) (λ x. Done done) (λ v x y w. w ≡ idle_hand)
answers shared user done swept errand users rule at =
    let mine = rule.each user (Hand (Some done.moment)) at in
    let asked : rule.asked ≡ Some done.moment = subst (λ (x : Errand). IsFor shared rule.asked x) mine.2 rule.is_for in (
      idle_hand,
      record {
        asker = rule.asker;
        hand = rule.hand;
        hired = rule.hired;
        asked = rule.asked;
        is_for = record { asked_for = asked; swept_to = swept };
        each = knows_set (λ j u. Knows rule.asker rule.hand rule.hired rule.asked (Done done) j u) users user idle_hand
            (λ j u apart e. others_of_answered rule.asker rule.hand rule.hired rule.asked errand done user j u mine.0 apart (rule.each j u e))
            (mine.0, mine.1, tt);
      },
      refl,
    )

-- ---- the steps, at what is known

pub asks_as :
    (shared : SharedLedger) (user : ℕ) (v : User) (seen : Bool) (moment : Moment) → v ≡ Asker true None seen
    → Turns (Agree shared) user v (λ x. Asked moment) (λ v x y w. w ≡ Asker true (taken_in y) false)
asks_as shared user v seen moment is =
    subst (λ (u : User). Turns (Agree shared) user u (λ x. Asked moment) (λ v x y w. w ≡ Asker true (taken_in y) false)) (sym is) (asks shared user seen moment)

pub sees_as :
    (shared : SharedLedger) (user : ℕ) (v : User) (asked : Option Moment) (seen : Bool) → v ≡ Asker true asked seen
    → Turns (Agree shared) user v (λ x. x) (λ v x y w. HasSeen shared v y w)
sees_as shared user v asked seen is =
    subst (λ (u : User). Turns (Agree shared) user u (λ x. x) (λ v x y w. HasSeen shared v y w)) (sym is) (sees shared user asked seen)

pub collects_as :
    (shared : SharedLedger) (user : ℕ) (v : User) (asked : Option Moment) → v ≡ Asker true asked true
    → Turns (Agree shared) user v (λ x. Nothing) (λ v x y w. w ≡ idle_asker)
collects_as shared user v asked is =
    subst (λ (u : User). Turns (Agree shared) user u (λ x. Nothing) (λ v x y w. w ≡ idle_asker)) (sym is) (collects shared user asked)

pub hires_as : (shared : SharedLedger) (user : ℕ) (v : User) → v ≡ new_asker → Forks (Agree shared) user v idle_asker idle_hand
hires_as shared user v is = subst (λ (u : User). Forks (Agree shared) user u idle_asker idle_hand) (sym is) (hires shared user)

pub takes_as :
    (shared : SharedLedger) (user : ℕ) (v : User) (taken : Option Moment) → v ≡ Hand taken
    → Turns (Agree shared) user v (λ x. x) (λ v x y w. w ≡ Hand (taken_in y))
takes_as shared user v taken is =
    subst (λ (u : User). Turns (Agree shared) user u (λ x. x) (λ v x y w. w ≡ Hand (taken_in y))) (sym is) (takes shared user taken)

pub answers_as :
    (shared : SharedLedger) (user : ℕ) (v : User) (done : SweepDone) → v ≡ Hand (Some done.moment) → IsSweptTo shared done.moment done.swept
    → Turns (Agree shared) user v (λ x. Done done) (λ v x y w. w ≡ idle_hand)
answers_as shared user v done is swept =
    subst (λ (u : User). Turns (Agree shared) user u (λ x. Done done) (λ v x y w. w ≡ idle_hand)) (sym is) (answers shared user done swept)
