-- What a relay learns where connections end: of each end of its own that goes, if it knew the connection.
use Rattle.std.proofs.Common.{◌≡◌, Bool, true, false, cond, List, [], ◌∷◌, ◌++◌, map, Option, Some, None, refl, sym, ap, ◌∙◌, append-nil}
use Rattle.std.specs.Prelude.{◌&&◌, ◌||◌, filter, option_map}
use Rattle.std.specs.List.{find}
use Rattle.std.proofs.lemmas.Bool.{both_ways}
use Rattle.dia_base.specs.declared.number.NodeNo.{NodeNo}
use Rattle.dia_base.proofs.Finding.{found_passes}
use Rattle.relay_core.specs.declared.run.RelayEvent.{RelayEvent}
use Rattle.relay_core.specs.declared.run.RelayEvent.TheVariants.{Lost}
use Rattle.farm_law.specs.Lists.{Has}
use Rattle.farm_base.specs.declared.site.Site.{Site}
use Rattle.farm_model.specs.declared.state.Direction.{Direction}
use Rattle.farm_base.specs.declared.step.Step.TheVariants.{Cut, Drop, Restart}
use Rattle.farm_model.specs.FarmStep.{can_restart}
use Rattle.farm_model.specs.InFlight.{goes, knows_other, ends_at}
use Rattle.farm_base.specs.Nodes.{is_node}
use Rattle.farm_model.specs.RelayRuns.{event_if, lost_events}
use Rattle.farm_model.proofs.Lists.Finding.{find_none}
use Rattle.farm_model.proofs.Lists.Numbering.{same_node}
use Rattle.farm_model.proofs.Wiring.Apart.{one_left, none_passes, is_way, AreApart, goes_once}
use Rattle.farm_model.proofs.Wiring.Sides.{Side, side_of, sides}
use Rattle.farm_model.proofs.Wiring.WorldLemmas.{direction_nodes}

-- ---- lists and tests

-- the same is left by tests that agree
left_alike : {A : Type 0} (test other : A → Bool) (xs : List A) → ((x : A) → test x ≡ other x) → filter test xs ≡ filter other xs
left_alike test other [] same = refl
left_alike {A} test other (x ∷ xs) same =
    ap (λ (b : Bool). cond b (x ∷ filter test xs) (filter test xs)) (same x) ∙ ap (λ (ys : List A). cond (other x) (x ∷ ys) ys) (left_alike test other xs same)

nothing_left : {A : Type 0} (test : A → Bool) (xs : List A) → ((x : A) → Has x xs → test x ≡ false) → filter test xs ≡ []
nothing_left test xs none = none_passes test xs (find_none test xs none)

-- first by the one test, and then by the other
left_in_turn : {A : Type 0} (p q test : A → Bool) (xs : List A) → ((x : A) → test x ≡ (p x && q x)) → filter test xs ≡ filter q (filter p xs)
left_in_turn p q test [] same = refl
left_in_turn {A} p q test (x ∷ xs) same = ap (λ (b : Bool). cond b (x ∷ filter test xs) (filter test xs)) (same x) ∙ go (p x) (left_in_turn p q test xs same)
  where
    go : (b : Bool) → filter test xs ≡ filter q (filter p xs) → cond (b && q x) (x ∷ filter test xs) (filter test xs) ≡ filter q
        (cond b (x ∷ filter p xs) (filter p xs))
    go true more = ap (λ (ys : List A). cond (q x) (x ∷ ys) ys) more
    go false more = more

abbrev lost_on : Direction → RelayEvent
lost_on direction = Lost direction.conn

-- ---- an end

-- what the node learns where the other node's end goes, or its own: the loss, if it knew the connection
abbrev pub end_events : NodeNo → NodeNo → Option Side → List RelayEvent
end_events k node None = []
end_events k node (Some side) = event_if (side.3 && is_node node k) (Lost side.0)

pub no_end_events : (k node : NodeNo) (found : Option Side) → is_node node k ≡ false → end_events k node found ≡ []
no_end_events k node None apart = refl
no_end_events k node (Some side) apart = ap (λ (b : Bool). event_if (side.3 && b) (Lost side.0)) apart ∙ go side.3
  where
    go : (b : Bool) → event_if (b && false) (Lost side.0) ≡ []
    go true = refl
    go false = refl

-- a direction that is found is found by its side
pub found_side : (from to : NodeNo) (directions : List Direction) → find (is_way from to) (sides directions) ≡ option_map side_of
    (find (goes from to) directions)
found_side from to [] = refl
found_side from to (direction ∷ directions) = go (goes from to direction) (found_side from to directions)
  where
    go : (b : Bool) → find (is_way from to) (sides directions) ≡ option_map side_of (find (goes from to) directions) → cond b (Some (side_of direction))
        (find (is_way from to) (sides directions)) ≡ option_map side_of (cond b (Some direction) (find (goes from to) directions))
    go true more = refl
    go false more = more

module _ (k from to : NodeNo) (directions : List Direction) (apart : AreApart (sides directions)) where
  abbrev is_its_own : Direction → Bool
  is_its_own direction = is_node direction.to k && direction.known

  abbrev IsTold : Option Direction → Type 0
  IsTold found = map lost_on (filter (λ direction. goes from to direction && is_node direction.to k && direction.known) directions) ≡ end_events k to
      (option_map side_of found)

  split : (a b c : Bool) → ((a && b) && c) ≡ (a && (b && c))
  split true b c = refl
  split false b c = refl

  in_turn : filter (λ direction. goes from to direction && is_node direction.to k && direction.known) directions ≡ filter is_its_own
      (filter (goes from to) directions)
  in_turn = left_in_turn (goes from to) is_its_own (λ direction. goes from to direction && is_node direction.to k && direction.known) directions
      (λ direction. split (goes from to direction) (is_node direction.to k) direction.known)

  told_of : (found : Option Direction) → find (goes from to) directions ≡ found → IsTold found
  told_of None f = ap (map lost_on) (in_turn ∙ ap (filter is_its_own) (none_passes (goes from to) directions f))
  told_of (Some first) f =
      ap (map lost_on) (in_turn ∙ ap (filter is_its_own) (one_left (goes from to) first directions (goes_once directions apart from to) f))
      ∙ ap (λ (n : NodeNo). map lost_on (cond (is_node n k && first.known) (first ∷ []) []))
      (direction_nodes from to first (found_passes (goes from to) directions first f)).1
      ∙ go (is_node to k) first.known
    where
      go : (b c : Bool) → map lost_on (cond (b && c) (first ∷ []) []) ≡ event_if (c && b) (Lost first.conn)
      go true true = refl
      go true false = refl
      go false true = refl
      go false false = refl

  -- of the one direction from the one node to the other
  pub way_events : map lost_on (filter (λ direction. goes from to direction && is_node direction.to k && direction.known) directions) ≡ end_events k to
      (find (is_way from to) (sides directions))
  way_events = told_of (find (goes from to) directions) refl ∙ ap (end_events k to) (sym (found_side from to directions))

-- ---- steps

module _ (site : Site) (k : NodeNo) (directions : List Direction) (apart : AreApart (sides directions)) where
  -- an end that is dropped
  pub drop_events : (a b : NodeNo) → lost_events site (Drop a b) k directions ≡ end_events k a (find (is_way b a) (sides directions))
  drop_events a b = way_events k b a directions apart

  -- ---- a cut

  module _ (a b : NodeNo) where
    abbrev can : Bool
    can = knows_other directions a b || knows_other directions b a

    abbrev comes_to : Direction → Bool
    comes_to direction = can && (goes a b direction || goes b a direction) && is_node direction.to k && direction.known

    pub no_cut_events : can ≡ false → lost_events site (Cut a b) k directions ≡ []
    no_cut_events cannot = ap (map lost_on) (nothing_left comes_to directions (λ direction h. ap
        (λ (c : Bool). c && (goes a b direction || goes b a direction) && is_node direction.to k && direction.known) cannot))

    module _ (cuts : can ≡ true) (two : is_node a b ≡ false) where
      -- what goes to one of the two nodes does not go to one that is another
      not_to : (from to : NodeNo) (direction : Direction) → is_node to k ≡ false → goes from to direction ≡ true → is_node direction.to k ≡ false
      not_to from to direction other e = ap (λ (n : NodeNo). is_node n k) (direction_nodes from to direction e).1 ∙ other

      of_first : (g1 g2 tk kn : Bool) → (g1 ≡ true → tk ≡ false) → ((true && (g1 || g2)) && tk && kn) ≡ (g2 && tk && kn)
      of_first false g2 tk kn other = refl
      of_first true g2 true kn other = let no = other refl in absurd cc
      of_first true true false kn other = refl
      of_first true false false kn other = refl

      of_second : (g1 g2 tk kn : Bool) → (g2 ≡ true → tk ≡ false) → ((true && (g1 || g2)) && tk && kn) ≡ (g1 && tk && kn)
      of_second true false tk kn other = refl
      of_second false false tk kn other = refl
      of_second g1 true true kn other = let no = other refl in absurd cc
      of_second true true false kn other = refl
      of_second false true false kn other = refl

      of_none : (g1 g2 tk kn : Bool) → (g1 ≡ true → tk ≡ false) → (g2 ≡ true → tk ≡ false) → ((true && (g1 || g2)) && tk && kn) ≡ false
      of_none false false tk kn one other = refl
      of_none true g2 true kn one other = let no = one refl in absurd cc
      of_none false true true kn one other = let no = other refl in absurd cc
      of_none true g2 false kn one other = refl
      of_none false true false kn one other = refl

      when_cut : (direction : Direction)
          → comes_to direction ≡ ((true && (goes a b direction || goes b a direction)) && is_node direction.to k && direction.known)
      when_cut direction = ap (λ (c : Bool). c && (goes a b direction || goes b a direction) && is_node direction.to k && direction.known) cuts

      abbrev at_first : List RelayEvent
      at_first = end_events k a (find (is_way b a) (sides directions))

      abbrev at_second : List RelayEvent
      at_second = end_events k b (find (is_way a b) (sides directions))

      by_nodes : (first second : Bool) → is_node a k ≡ first → is_node b k ≡ second → lost_events site (Cut a b) k directions ≡ at_first ++ at_second
      by_nodes true true is_a is_b = absurd (both_ways (is_node a b) two (ap (is_node a) (same_node b k is_b) ∙ is_a))
      by_nodes true false is_a is_b =
          ap (map lost_on) (left_alike comes_to (λ direction. goes b a direction && is_node direction.to k && direction.known) directions
          (λ direction. when_cut direction ∙ of_first (goes a b direction) (goes b a direction) (is_node direction.to k) direction.known
          (not_to a b direction is_b)))
          ∙ way_events k b a directions apart
          ∙ sym (append-nil at_first)
          ∙ ap (λ (es : List RelayEvent). at_first ++ es) (sym (no_end_events k b (find (is_way a b) (sides directions)) is_b))
      by_nodes false true is_a is_b =
          ap (map lost_on) (left_alike comes_to (λ direction. goes a b direction && is_node direction.to k && direction.known) directions
          (λ direction. when_cut direction ∙ of_second (goes a b direction) (goes b a direction) (is_node direction.to k) direction.known
          (not_to b a direction is_a)))
          ∙ way_events k a b directions apart
          ∙ ap (λ (es : List RelayEvent). es ++ at_second) (sym (no_end_events k a (find (is_way b a) (sides directions)) is_a))
      by_nodes false false is_a is_b =
          ap (map lost_on) (nothing_left comes_to directions
          (λ direction h. when_cut direction ∙ of_none (goes a b direction) (goes b a direction) (is_node direction.to k) direction.known
          (not_to a b direction is_b) (not_to b a direction is_a)))
          ∙ ap (λ (es : List RelayEvent). es ++ []) (sym (no_end_events k a (find (is_way b a) (sides directions)) is_a))
          ∙ ap (λ (es : List RelayEvent). at_first ++ es) (sym (no_end_events k b (find (is_way a b) (sides directions)) is_b))

      -- each of the two of its own end
      pub cut_events : lost_events site (Cut a b) k directions ≡ end_events k a (find (is_way b a) (sides directions)) ++ end_events k b
          (find (is_way a b) (sides directions))
      cut_events = by_nodes (is_node a k) (is_node b k) refl refl

  -- ---- a restart

  module _ (node : NodeNo) where
    -- a client has no restart
    pub no_restart_events : can_restart site node ≡ false → lost_events site (Restart node) k directions ≡ []
    no_restart_events cannot = ap (map lost_on)
        (nothing_left (λ direction. ends_at site (Restart node) directions direction && is_node direction.to k && direction.known) directions
        (λ direction h. ap (λ (c : Bool). c && (is_node direction.from node || is_node direction.to node) && is_node direction.to k && direction.known) cannot))

    -- another node learns of its own connection
    pub restart_events : can_restart site node ≡ true → is_node k node ≡ false → lost_events site (Restart node) k directions ≡ end_events k k
        (find (is_way node k) (sides directions))
    restart_events can other =
        ap (map lost_on) (left_alike (λ direction. ends_at site (Restart node) directions direction && is_node direction.to k && direction.known)
        (λ direction. goes node k direction && is_node direction.to k && direction.known) directions
        (λ direction. ap (λ (c : Bool). c && (is_node direction.from node || is_node direction.to node) && is_node direction.to k && direction.known) can
        ∙ go (is_node direction.from node) (is_node direction.to node) (is_node direction.to k) direction.known
        (λ is. ap (λ (n : NodeNo). is_node n node) (same_node direction.to k is) ∙ other)))
        ∙ way_events k node k directions apart
      where
        go : (f t tk kn : Bool) → (tk ≡ true → t ≡ false) → ((true && (f || t)) && tk && kn) ≡ ((f && tk) && tk && kn)
        go f true true kn away = let no = away refl in absurd cc
        go true false true kn away = refl
        go false false true kn away = refl
        go true t false kn away = refl
        go false true false kn away = refl
        go false false false kn away = refl
