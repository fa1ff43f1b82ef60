-- A connection that comes up, one that is cut, and a node that begins anew: the small steps in a row lead to the same farm.
use Rattle.std.proofs.Common.{◌≡◌, ◌≤◌, Bool, true, false, cond, List, [], ◌∷◌, ◌++◌, map, Option, Some, None, inl, inr, refl, sym, subst, ap, ◌∙◌, arith}
use Rattle.std.proofs.Common.{append-nil, true≢false}
use Rattle.std.specs.Prelude.{◌&&◌, ◌||◌, MatchBool, count_by, filter, flat_map, is_some, slice_get}
use Rattle.std.specs.List.{find}
use Rattle.std.proofs.lemmas.Bool.{or_cases}
use Rattle.std.proofs.lemmas.Grind.{flat_map-append}
use Rattle.dia_base.proofs.Counting.{one, count-cons}
use Rattle.dia_base.proofs.Finding.{found_passes}
use Rattle.dia_base.specs.declared.number.NodeNo.{NodeNo}
use Rattle.dia_message.specs.declared.message.Message.{Message}
use Rattle.farm_base.specs.Lists.{replace_first}
use Rattle.farm_base.specs.Nodes.{is_node}
use Rattle.farm_base.specs.declared.site.Site.{Site}
use Rattle.farm_base.specs.declared.step.Step.{Step}
use Rattle.farm_base.specs.declared.step.Step.TheVariants.{Up, Accept, Opened, Send, Deliver, Lose, Cut, Drop}
use Rattle.farm_base.specs.declared.step.Step.TheVariants.{Restart, Crash, Pick, Charge, Refuse, Emit, Sweep, ChangeTerms}
use Rattle.farm_model.specs.declared.state.Direction.{Direction}
use Rattle.farm_model.specs.FarmStep.{FarmStep, Outcome, Flight, flight_in, flight_of, loss_at, after_lost_message, after_accept}
use Rattle.farm_model.specs.FarmStep.{after_opened, opened_if, can_cut, can_restart, after_crash_at}
use Rattle.farm_model.specs.InFlight.{goes}
use Rattle.farm_model.specs.Loss.{LossAt, CutsBoth, DropAll, all_dropped, drops_too, after_losing_all, after_crash, end_with, peers_of}
use Rattle.farm_model.specs.Run.{Past, Run, Transition, steps_in}
use Rattle.farm_model.specs.SmallSteps.{loses_all, small_steps, losses_in, GoesInSmallSteps}
use Rattle.farm_model.specs.World.{Ends, WorldState, is_between, is_heard, emptied, knows}
use Rattle.farm_model.proofs.Lists.Finding.{any_found, Has-found}
use Rattle.farm_model.proofs.Wiring.Apart.{one_left, none_passes, AreApart, goes_once}
use Rattle.farm_model.proofs.Wiring.Sides.{Side, side_of, sides}
use Rattle.farm_model.proofs.Wiring.Wired.{IsWired}
use Rattle.farm_model.proofs.Wiring.WorldLemmas.{direction_nodes, heard_between}

-- ---- rows of steps

Run-append : (site : Site) (old middle new : WorldState) (first second : Past) → Run site old first middle → Run site middle second new → Run site old
    (first ++ second) new
Run-append site old middle new [] second one other = subst (λ (w : WorldState). Run site w second new) one other
Run-append site old middle new (t ∷ first) second one other = (one.0, one.1, Run-append site t.after middle new first second one.2 other)

steps-append : (first second : Past) → steps_in (first ++ second) ≡ steps_in first ++ steps_in second
steps-append [] second = refl
steps-append (t ∷ first) second = ap (λ (steps : List Step). t.step ∷ steps) (steps-append first second)

-- the steps lead from the one farm to the other, and these losses are learned
pub record Row (site : Site) (old new : WorldState) (steps : List Step) (losses : List LossAt) : Type 0 where
  pub row : Past
  pub steps_are : steps_in row ≡ steps
  pub run : Run site old row new
  pub losses_are : losses_in row ≡ losses

no_row : (site : Site) (w : WorldState) → Row site w w [] []
no_row site w = record { row = []; steps_are = refl; run = refl; losses_are = refl }

row_of : (site : Site) (old new : WorldState) (step : Step) (applied : Bool) (losses : List LossAt) → FarmStep site old step applied losses new → Row site old
    new (step ∷ []) losses
row_of site old new step applied losses made = record {
  row = record { step = step; before = old; applied = applied; losses = losses; after = new } ∷ [];
  steps_are = refl;
  run = (refl, made, refl);
  losses_are = append-nil losses;
}

rows : {site : Site} {old middle new : WorldState} {first second : List Step} {some more : List LossAt} → Row site old middle first some → Row site middle new
    second more → Row site old new (first ++ second) (some ++ more)
rows {site} {old} {middle} {new} {first} {second} {some} {more} one other = record {
  row = one.row ++ other.row;
  steps_are = steps-append one.row other.row ∙ ap (λ (steps : List Step). steps ++ steps_in other.row) one.steps_are ∙ ap
      (λ (steps : List Step). first ++ steps) other.steps_are;
  run = Run-append site old middle new one.row other.row one.run other.run;
  losses_are = flat_map-append (λ (t : Transition). t.losses) one.row other.row ∙ ap (λ (ls : List LossAt). ls ++ losses_in other.row) one.losses_are ∙ ap
      (λ (ls : List LossAt). some ++ ls) other.losses_are;
}

-- ---- the first that passes is changed, and changed again

replace_same : {A : Type 0} (test : A → Bool) (x : A) (xs : List A) → find test xs ≡ Some x → replace_first test x xs ≡ xs
replace_same test x [] e = refl
replace_same {A} test x (y ∷ ys) e = go (test y) (replace_same test x ys) e
  where
    go : (b : Bool) → (find test ys ≡ Some x → replace_first test x ys ≡ ys) → cond b (Some y) (find test ys) ≡ Some x → cond b (x ∷ ys)
        (y ∷ replace_first test x ys) ≡ y ∷ ys
    go true more k = let same : x ≡ y = cc in ap (λ (v : A). v ∷ ys) same
    go false more k = ap (λ (vs : List A). y ∷ vs) (more k)

find_replaced : {A : Type 0} (test : A → Bool) (x y : A) (xs : List A) → find test xs ≡ Some x → test y ≡ true → find test (replace_first test y xs) ≡ Some y
find_replaced test x y [] e passes = absurd cc
find_replaced {A} test x y (z ∷ zs) e passes = go (test z) refl (find_replaced test x y zs) e
  where
    go : (b : Bool) → test z ≡ b → (find test zs ≡ Some x → test y ≡ true → find test (replace_first test y zs) ≡ Some y)
        → cond b (Some z) (find test zs) ≡ Some x → find test (cond b (y ∷ zs) (z ∷ replace_first test y zs)) ≡ Some y
    go true is more k = ap (λ (b : Bool). cond b (Some y) (find test zs)) passes
    go false is more k = ap (λ (b : Bool). cond b (Some z) (find test (replace_first test y zs))) is ∙ more k passes

replace_twice : {A : Type 0} (test : A → Bool) (y z : A) (xs : List A) → test y ≡ true
    → replace_first test z (replace_first test y xs) ≡ replace_first test z xs
replace_twice test y z [] passes = refl
replace_twice {A} test y z (x ∷ xs) passes = go (test x) refl (replace_twice test y z xs passes)
  where
    go : (b : Bool) → test x ≡ b → replace_first test z (replace_first test y xs) ≡ replace_first test z xs → replace_first test z
        (cond b (y ∷ xs) (x ∷ replace_first test y xs)) ≡ cond b (z ∷ xs) (x ∷ replace_first test z xs)
    go true is more = ap (λ (b : Bool). cond b (z ∷ xs) (y ∷ replace_first test z xs)) passes
    go false is more = ap (λ (b : Bool). cond b (z ∷ replace_first test y xs) (x ∷ replace_first test z (replace_first test y xs))) is ∙ ap
        (λ (vs : List A). x ∷ vs) more

-- where none passes nothing changes, and where one does it alone
map_none : {A : Type 0} (test : A → Bool) (f : A → A) (xs : List A) → count_by test xs ≡ 0 → map (λ x. cond (test x) (f x) x) xs ≡ xs
map_none test f [] none = refl
map_none {A} test f (x ∷ xs) none = go (test x) refl (map_none test f xs)
  where
    go : (b : Bool) → test x ≡ b → (count_by test xs ≡ 0 → map (λ x. cond (test x) (f x) x) xs ≡ xs) → cond b (f x) x ∷ map (λ x. cond (test x) (f x) x) xs ≡ x
        ∷ xs
    go true is more = let this : one (test x) ≡ 1 = ap one is in absurd (omega (arith, count-cons test x xs, none))
    go false is more = let this : one (test x) ≡ 0 = ap one is in ap (λ (vs : List A). x ∷ vs) (more (omega (arith, count-cons test x xs, none)))

map_one : {A : Type 0} (test : A → Bool) (f : A → A) (x : A) (xs : List A) → count_by test xs ≤ 1 → find test xs ≡ Some x → map
    (λ x. cond (test x) (f x) x) xs ≡ replace_first test (f x) xs
map_one test f x [] most e = absurd cc
map_one {A} test f x (y ∷ ys) most e = go (test y) refl (map_one test f x ys) e
  where
    go : (b : Bool) → test y ≡ b → (count_by test ys ≤ 1 → find test ys ≡ Some x → map (λ x. cond (test x) (f x) x) ys ≡ replace_first test (f x) ys) → cond b
        (Some y) (find test ys) ≡ Some x → cond b (f y) y ∷ map (λ x. cond (test x) (f x) x) ys ≡ cond b (f x ∷ ys) (y ∷ replace_first test (f x) ys)
    go true is more k =
        let this : one (test y) ≡ 1 = ap one is in
        let same : y ≡ x = cc in
        ap (λ (v : A). f v ∷ map (λ x. cond (test x) (f x) x) ys) same ∙ ap (λ (vs : List A). f x ∷ vs)
        (map_none test f ys (omega (arith, count-cons test y ys, most)))
    go false is more k =
        let this : one (test y) ≡ 0 = ap one is in
        ap (λ (vs : List A). y ∷ vs) (more (omega (arith, count-cons test y ys, most)) k)

map_nothing : {A : Type 0} (test : A → Bool) (f : A → A) (xs : List A) → find test xs ≡ None → map (λ x. cond (test x) (f x) x) xs ≡ xs
map_nothing test f [] e = refl
map_nothing {A} test f (x ∷ xs) e = go (test x) (map_nothing test f xs) e
  where
    go : (b : Bool) → (find test xs ≡ None → map (λ x. cond (test x) (f x) x) xs ≡ xs) → cond b (Some x) (find test xs) ≡ None → cond b (f x) x ∷ map
        (λ x. cond (test x) (f x) x) xs ≡ x ∷ xs
    go true more k = absurd cc
    go false more k = ap (λ (vs : List A). x ∷ vs) (more k)

-- ---- all in flight from a node to another is lost

abbrev without_messages : Direction → Direction
without_messages direction = record direction { messages = [] }

abbrev emptied_way : NodeNo → NodeNo → Direction → Direction
emptied_way from to direction = cond (is_between from to direction) (without_messages direction) direction

module _ (site : Site) (from to : NodeNo) where
  abbrev with_first : WorldState → Direction → WorldState
  with_first w direction = record w { directions = replace_first (is_between from to) direction w.directions }

  abbrev losses_of : List Message → List Step
  losses_of messages = map (λ message. Lose from to 0) messages

  lose_first : (w : WorldState) (first : Direction) (message : Message) (messages : List Message) → find (is_between from to) w.directions ≡ Some first →
      first.messages ≡ message ∷ messages → FarmStep site w (Lose from to 0) true [] (with_first w (record first { messages = messages }))
  lose_first w first message messages found e = (subst (λ (o : Option Flight). Outcome (after_lost_message w o) true w then) (sym flight_is) (refl, refl), refl)
    where
      less : Direction
      less = record first { messages = messages }

      then : WorldState
      then = with_first w less

      flight : Flight
      flight = record { conn = first.conn; message = message; directions = then.directions }

      taken : (all : List Message) → first.messages ≡ all → all ≡ message ∷ messages → flight_of (is_between from to) w.directions 0 first
          (slice_get first.messages 0) ≡ Some flight
      taken all is k =
          subst (λ (ms : List Message). flight_of (is_between from to) w.directions 0 (record first { messages = ms }) (slice_get ms 0) ≡ Some flight)
          (sym (is ∙ k)) refl

      flight_is : loss_at w.directions from to 0 ≡ Some flight
      flight_is = ap (flight_in (is_between from to) w.directions 0) found ∙ taken first.messages refl e

  lose_rows : (messages : List Message) (w : WorldState) (first : Direction) → find (is_between from to) w.directions ≡ Some first → first.messages ≡ messages →
      Row site w (with_first w (without_messages first)) (losses_of messages) []
  lose_rows [] w first found e =
      let empty : first ≡ without_messages first = ap (λ (ms : List Message). record first { messages = ms }) e in
      let same : with_first w (without_messages first) ≡ w = ap (λ (d : Direction). with_first w d) (sym empty) ∙ ap
      (λ (ds : List Direction). record w { directions = ds }) (replace_same (is_between from to) first w.directions found) in
      subst (λ (v : WorldState). Row site w v [] []) (sym same) (no_row site w)
  lose_rows (message ∷ messages) w first found e =
      let less : Direction = record first { messages = messages } in
      let passes : is_between from to first ≡ true = found_passes (is_between from to) w.directions first found in
      let one = row_of site w (with_first w less) (Lose from to 0) true [] (lose_first w first message messages found e) in
      let more = lose_rows messages (with_first w less) less (find_replaced (is_between from to) first less w.directions found passes) refl in
      let same : with_first (with_first w less) (without_messages first) ≡ with_first w (without_messages first) =
      ap (λ (ds : List Direction). record w { directions = ds }) (replace_twice (is_between from to) less (without_messages first) w.directions passes) in
      subst (λ (v : WorldState). Row site w v (losses_of (message ∷ messages)) []) same (rows one more)

  abbrev lost_way : WorldState → WorldState
  lost_way w = record w { directions = map (emptied_way from to) w.directions }

  lose_way : (w : WorldState) → count_by (is_between from to) w.directions ≤ 1 → Row site w (lost_way w) (loses_all from to w.directions) []
  lose_way w most = go (find (is_between from to) w.directions) refl
    where
      go : (found : Option Direction) → find (is_between from to) w.directions ≡ found → Row site w (lost_way w) (loses_all from to w.directions) []
      go None f =
          let same : lost_way w ≡ w = ap (λ (ds : List Direction). record w { directions = ds })
          (map_nothing (is_between from to) without_messages w.directions f) in
          let none : loses_all from to w.directions ≡ [] = ap (λ (ds : List Direction). flat_map (λ direction. losses_of direction.messages) ds)
          (none_passes (is_between from to) w.directions f) in
          subst (λ (steps : List Step). Row site w (lost_way w) steps []) (sym none)
          (subst (λ (v : WorldState). Row site w v [] []) (sym same) (no_row site w))
      go (Some first) f =
          let same : lost_way w ≡ with_first w (without_messages first) = ap (λ (ds : List Direction). record w { directions = ds })
          (map_one (is_between from to) without_messages first w.directions most f) in
          let all : loses_all from to w.directions ≡ losses_of first.messages =
          ap (λ (ds : List Direction). flat_map (λ direction. losses_of direction.messages) ds) (one_left (is_between from to) first w.directions most f)
          ∙ append-nil (losses_of first.messages) in
          subst (λ (steps : List Step). Row site w (lost_way w) steps []) (sym all)
          (subst (λ (v : WorldState). Row site w v (losses_of first.messages) []) (sym same) (lose_rows first.messages w first f refl))

-- ---- a cut

module _ (site : Site) (a b : NodeNo) where
  -- what goes back is lost after what goes forth, and both are empty then
  emptied_both : (directions : List Direction) → map (emptied_way b a) (map (emptied_way a b) directions) ≡ map (emptied a b) directions
  emptied_both [] = refl
  emptied_both (direction ∷ directions) = ap (λ (d : Direction). d ∷ map (emptied_way b a) (map (emptied_way a b) directions)) (go (is_between a b direction))
      ∙ ap (λ (ds : List Direction). emptied a b direction ∷ ds) (emptied_both directions)
    where
      still : (c : Bool) → cond c (without_messages direction) (without_messages direction) ≡ without_messages direction
      still true = refl
      still false = refl

      go : (c : Bool) → emptied_way b a (cond c (without_messages direction) direction) ≡ cond (c || is_between b a direction) (without_messages direction)
          direction
      go true = still (is_between b a direction)
      go false = refl

  sides_of_way : (directions : List Direction) → sides (map (emptied_way a b) directions) ≡ sides directions
  sides_of_way [] = refl
  sides_of_way (direction ∷ directions) = ap (λ (s : Side). s ∷ sides (map (emptied_way a b) directions)) (go (is_between a b direction)) ∙ ap
      (λ (ss : List Side). side_of direction ∷ ss) (sides_of_way directions)
    where
      go : (c : Bool) → side_of (cond c (without_messages direction) direction) ≡ side_of direction
      go true = refl
      go false = refl

  -- what goes back is still there, once what goes forth is lost
  abbrev lost_there : List Direction → List Step
  lost_there directions = flat_map (λ direction. losses_of site b a direction.messages) directions

  back_stays : is_node a b ≡ false → (directions : List Direction) → loses_all b a (map (emptied_way a b) directions) ≡ loses_all b a directions
  back_stays two [] = refl
  back_stays two (direction ∷ directions) = go (is_between a b direction) refl (back_stays two directions)
    where
      left : List Direction
      left = filter (goes b a) (map (emptied_way a b) directions)

      stayed : List Direction
      stayed = filter (goes b a) directions

      pick : (e : Bool) → lost_there left ≡ lost_there stayed → lost_there (cond e (direction ∷ left) left) ≡ lost_there (cond e (direction ∷ stayed) stayed)
      pick true more = ap (λ (steps : List Step). losses_of site b a direction.messages ++ steps) more
      pick false more = more

      go : (c : Bool) → is_between a b direction ≡ c → lost_there left ≡ lost_there stayed → lost_there
          (filter (goes b a) (cond c (without_messages direction) direction ∷ map (emptied_way a b) directions)) ≡ lost_there (filter (goes b a)
          (direction ∷ directions))
      go false is more = pick (goes b a direction) more
      go true is more =
          let from_is = (direction_nodes a b direction is).0 in
          let off : is_node direction.from b ≡ false = ap (λ (n : NodeNo). is_node n b) from_is ∙ two in
          let no : goes b a direction ≡ false = ap (λ (e : Bool). e && is_node direction.to a) off in
          ap (λ (e : Bool). lost_there (cond e (without_messages direction ∷ left) left)) no ∙ more ∙ sym
          (ap (λ (e : Bool). lost_there (cond e (direction ∷ stayed) stayed)) no)

  module _ (ends : Ends) (w : WorldState) (wired : IsWired site ends w) (apart : AreApart (sides w.directions)) where
    -- a node knows no connection with itself
    one_knows : (x y : NodeNo) → knows w.directions x y ≡ true → (is_node x y ≡ false) × (is_node y x ≡ false)
    one_knows x y e =
        let found = any_found (is_heard y x) w.directions e in
        let nodes = direction_nodes y x found.0 (heard_between y x found.0 (found_passes (is_heard y x) w.directions found.0 found.1)) in
        let joins = (wired.directions found.0 (Has-found (is_heard y x) w.directions found.1)).joins in (
          ap (λ (n : NodeNo). is_node n y) (sym nodes.1) ∙ ap (λ (n : NodeNo). is_node found.0.to n) (sym nodes.0) ∙ joins.apart_turned,
          ap (λ (n : NodeNo). is_node n x) (sym nodes.0) ∙ ap (λ (n : NodeNo). is_node found.0.from n) (sym nodes.1) ∙ joins.apart,
        )

    two_nodes : can_cut w a b ≡ true → is_node a b ≡ false
    two_nodes can = elim (or_cases (knows w.directions a b) (knows w.directions b a) can) [
      | inl e ↦ (one_knows a b e).0
      | inr e ↦ (one_knows b a e).1
    ]

    lose_both : can_cut w a b ≡ true → Row site w (after_losing_all w a b) (loses_all a b w.directions ++ loses_all b a w.directions) []
    lose_both can =
        let forth = lose_way site a b w (goes_once w.directions apart a b) in
        let then = lost_way site a b w in
        let back = lose_way site b a then (goes_once then.directions (subst AreApart (sym (sides_of_way w.directions)) apart) b a) in
        let steps = subst (λ (ss : List Step). Row site w (lost_way site b a then) (loses_all a b w.directions ++ ss) [])
        (back_stays (two_nodes can) w.directions) (rows forth back) in
        subst (λ (ds : List Direction). Row site w (record w { directions = ds }) (loses_all a b w.directions ++ loses_all b a w.directions) [])
        (emptied_both w.directions) steps

    cut_row : (next : WorldState) (losses : List LossAt) → can_cut w a b ≡ true → CutsBoth w a b losses next → Row site w next (small_steps (Cut a b) w) losses
    cut_row next losses can cut =
        let none = after_losing_all w a b in
        let one = row_of site none cut.middle (Drop a b) (is_some (end_with none.directions a b)) cut.first (refl, cut.one) in
        let other = row_of site cut.middle next (Drop b a) (is_some (end_with cut.middle.directions b a)) cut.second (refl, cut.other) in
        let all = rows (lose_both can) (rows one other) in
        subst (λ (ls : List LossAt). Row site w next (small_steps (Cut a b) w) ls) (sym cut.both) all

-- ---- a node begins anew

all_drop_rows : (site : Site) {node : NodeNo} {peers : List NodeNo} {w last : WorldState} {losses : List LossAt} → DropAll node peers w losses last → Row site w
    last (map (λ peer. Drop peer node) peers) losses
all_drop_rows site (all_dropped {w = w}) = no_row site w
all_drop_rows site {node} (drops_too {peer = peer} {peers = peers} {w = w} {next = middle} {last = last} now later is one more) =
    subst (λ (ls : List LossAt). Row site w last (Drop peer node ∷ map (λ peer. Drop peer node) peers) ls) (sym is)
    (rows (row_of site w middle (Drop peer node) (is_some (end_with w.directions peer node)) now (refl, one)) (all_drop_rows site more))

restart_row : (site : Site) (w next : WorldState) (node : NodeNo) (losses : List LossAt) → can_restart site node ≡ true → DropAll node
    (peers_of node w.directions) (after_crash w node) losses next
    → Row site w next (small_steps (Restart node) w) losses
restart_row site w next node losses can made =
    let crash : Outcome (after_crash_at site w node) true w (after_crash w node) =
    subst (λ (c : Bool). Outcome (cond c (Some (after_crash w node)) None) true w (after_crash w node)) (sym can) (refl, refl) in
    rows (row_of site w (after_crash w node) (Crash node) true [] (crash, refl)) (all_drop_rows site made)

-- ---- a connection comes up

up_row : (site : Site) (w next : WorldState) (a b : NodeNo) → (middle : Option WorldState) → after_accept site w b a ≡ middle → (last : Option WorldState) →
    opened_if a b middle ≡ last → Outcome last true w next
    → Row site w next (small_steps (Up a b) w) []
up_row site w next a b None accepts last opens made = absurd (true≢false (subst (λ (o : Option WorldState). Outcome o true w next) (sym opens) made).0)
up_row site w next a b (Some middle) accepts None opens made = absurd (true≢false made.0)
up_row site w next a b (Some middle) accepts (Some last) opens made =
    let accept : Outcome (after_accept site w b a) true w middle = subst (λ (o : Option WorldState). Outcome o true w middle) (sym accepts) (refl, refl) in
    let open_it : Outcome (after_opened middle a b) true middle next =
    subst (λ (o : Option WorldState). Outcome o true middle next) (sym opens) (refl, made.1) in
    rows (row_of site w middle (Accept b a) true [] (accept, refl)) (row_of site middle next (Opened a b) true [] (open_it, refl))

-- ---- any step

pub goes_in_small_steps : (site : Site) (ends : Ends) (t : Transition) → IsWired site ends t.before → AreApart (sides t.before.directions) →
    FarmStep site t.before t.step t.applied t.losses t.after → t.applied ≡ true → GoesInSmallSteps site t
goes_in_small_steps site ends t wired apart made applied = go t.step refl made
  where
    in_row : (step : Step) → t.step ≡ step → Row site t.before t.after (small_steps step t.before) t.losses → GoesInSmallSteps site t
    in_row step is row = record {
      row = row.row;
      steps = row.steps_are ∙ ap (λ (s : Step). small_steps s t.before) (sym is);
      run = row.run;
      losses = row.losses_are;
    }

    alone : (step : Step) → FarmStep site t.before step t.applied t.losses t.after → Row site t.before t.after (step ∷ []) t.losses
    alone step made = row_of site t.before t.after step t.applied t.losses made

    cuts : (a b : NodeNo) (can : Bool) → can_cut t.before a b ≡ can → MatchBool can ((t.applied ≡ true) × CutsBoth t.before a b t.losses t.after)
        ((t.applied ≡ false) × (t.losses ≡ []) × (t.after ≡ t.before)) → Row site t.before t.after (small_steps (Cut a b) t.before) t.losses
    cuts a b true can made = cut_row site a b ends t.before wired apart t.after t.losses can made.1
    cuts a b false can made = absurd (true≢false (sym applied ∙ made.0))

    restarts : (node : NodeNo) (can : Bool) → can_restart site node ≡ can → MatchBool can
        ((t.applied ≡ true) × DropAll node (peers_of node t.before.directions) (after_crash t.before node) t.losses t.after)
        ((t.applied ≡ false) × (t.losses ≡ []) × (t.after ≡ t.before)) → Row site t.before t.after (small_steps (Restart node) t.before) t.losses
    restarts node true can made = restart_row site t.before t.after node t.losses can made.1
    restarts node false can made = absurd (true≢false (sym applied ∙ made.0))

    go : (step : Step) → t.step ≡ step → FarmStep site t.before step t.applied t.losses t.after → GoesInSmallSteps site t
    go (Up a b) is made =
        let row = up_row site t.before t.after a b (after_accept site t.before b a) refl (opened_if a b (after_accept site t.before b a)) refl
        (subst (λ (c : Bool). Outcome (opened_if a b (after_accept site t.before b a)) c t.before t.after) applied made.0) in
        in_row (Up a b) is (subst (Row site t.before t.after (small_steps (Up a b) t.before)) (sym made.1) row)
    go (Cut a b) is made = in_row (Cut a b) is (cuts a b (can_cut t.before a b) refl made)
    go (Restart node) is made = in_row (Restart node) is (restarts node (can_restart site node) refl made)
    go (Accept at from) is made = in_row (Accept at from) is (alone (Accept at from) made)
    go (Opened a b) is made = in_row (Opened a b) is (alone (Opened a b) made)
    go (Send client to message) is made = in_row (Send client to message) is (alone (Send client to message) made)
    go (Deliver from to place) is made = in_row (Deliver from to place) is (alone (Deliver from to place) made)
    go (Lose from to place) is made = in_row (Lose from to place) is (alone (Lose from to place) made)
    go (Drop a b) is made = in_row (Drop a b) is (alone (Drop a b) made)
    go (Crash node) is made = in_row (Crash node) is (alone (Crash node) made)
    go (Pick front worker) is made = in_row (Pick front worker) is (alone (Pick front worker) made)
    go (Charge front worker moment) is made = in_row (Charge front worker moment) is (alone (Charge front worker moment) made)
    go (Refuse front worker) is made = in_row (Refuse front worker) is (alone (Refuse front worker) made)
    go (Emit front worker) is made = in_row (Emit front worker) is (alone (Emit front worker) made)
    go (Sweep moment) is made = in_row (Sweep moment) is (alone (Sweep moment) made)
    go (ChangeTerms moment change) is made = in_row (ChangeTerms moment change) is (alone (ChangeTerms moment change) made)
