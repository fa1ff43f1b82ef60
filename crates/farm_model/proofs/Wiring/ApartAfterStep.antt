-- Where connections come and go, there is still one way at most from a node to another, and one back.
use Rattle.std.proofs.Common.{◌≡◌, ◌≤◌, Bool, true, false, List, [], ◌∷◌, ◌++◌, ◌+◌, Some, inl, inr, refl, sym, subst, ap, ◌∙◌, arith, true≢false}
use Rattle.std.specs.Prelude.{◌&&◌, ◌⊎◌, filter, count_by}
use Rattle.std.specs.List.{find}
use Rattle.std.proofs.lemmas.Bool.{and_parts, false_from_ne_true}
use Rattle.std.proofs.lemmas.List.Sums.{sum_by-append}
use Rattle.dia_base.specs.declared.number.ConnId.{ConnId}
use Rattle.dia_base.specs.declared.number.NodeNo.{NodeNo}
use Rattle.dia_base.proofs.Counting.{one, count-cons, count-map, count-filter}
use Rattle.farm_law.specs.Lists.{Has}
use Rattle.farm_model.specs.declared.state.Direction.{Direction}
use Rattle.farm_model.specs.FarmStep.{empty_direction}
use Rattle.farm_base.specs.Lists.{replace_first}
use Rattle.farm_base.specs.Nodes.{is_node}
use Rattle.farm_model.specs.World.{is_connected}
use Rattle.farm_model.proofs.Lists.Among.{Has-map}
use Rattle.farm_model.proofs.Wiring.Apart.{is_way, AreApart}
use Rattle.farm_model.proofs.Lists.Finding.{none_pass, Has-found}
use Rattle.farm_model.proofs.Lists.Replacing.{Has-replaced, count_replaced}
use Rattle.farm_model.proofs.Wiring.KnowsAfterUp.{sides_of_new}
use Rattle.farm_model.proofs.Lists.Numbering.{same_node, nodes_turned}
use Rattle.farm_model.proofs.Wiring.Sides.{Side, side_of, sides, side_was, old_side, side_connects, direction_of}

-- ---- some are left

pub apart_without : (keep : Direction → Bool) (directions : List Direction) → AreApart (sides directions) → AreApart (sides (filter keep directions))
apart_without keep directions apart = record {
  once = λ from to. omega (
    arith,
    apart.once from to,
    count-map (is_way from to) side_of directions,
    count-map (is_way from to) side_of (filter keep directions),
    count-filter (λ direction. is_way from to (side_of direction)) keep directions,
  );
  same = λ c d a b k l h g. apart.same c d a b k l (old_side directions (c, a, b, k) (side_was keep directions (c, a, b, k) h).0)
      (old_side directions (d, b, a, l) (side_was keep directions (d, b, a, l) g).0);
}

-- ---- a connection more

way_is : (from to : NodeNo) (side : Side) → is_way from to side ≡ true → side ≡ (side.0, from, to, side.3)
way_is from to side e =
    let parts = and_parts (is_node side.1 from) (is_node side.2 to) e in
    ap (λ (n : NodeNo). (side.0, n, side.2, side.3)) (same_node side.1 from parts.0)
    ∙ ap (λ (n : NodeNo). (side.0, from, n, side.3)) (same_node side.2 to parts.1)

no_way : (all : List Side) (from to : NodeNo) → ((conn : ConnId) (known : Bool) → Has (conn, from, to, known) all → ⊥) → count_by (is_way from to) all ≡ 0
no_way all from to none = none_pass (is_way from to) all (λ side h. false_from_ne_true (is_way from to side)
    (λ e. none side.0 side.3 (subst (λ (s : Side). Has s all) (way_is from to side e) h)))

module _ (directions : List Direction) (conn : ConnId) (a b : NodeNo) (two_nodes : is_node a b ≡ false) (free : is_connected directions a b ≡ false)
    (apart : AreApart (sides directions)) where
  abbrev more : List Direction
  more = empty_direction conn a b true ∷ empty_direction conn b a false ∷ []

  none_forth : (c : ConnId) (known : Bool) → Has (c, a, b, known) (sides directions) → ⊥
  none_forth c known h = true≢false (sym (side_connects directions c a b known h).0 ∙ free)

  none_back : (c : ConnId) (known : Bool) → Has (c, b, a, known) (sides directions) → ⊥
  none_back c known h = true≢false (sym (side_connects directions c b a known h).1 ∙ free)

  -- a way that one of the two goes was free
  was_free : (from to : NodeNo) (c : Bool) → (is_node a from && is_node b to) ≡ c → (d : Bool) → (is_node b from && is_node a to) ≡ d → count_by
      (is_way from to) (sides directions) + (one c + one d) ≤ 1
  was_free from to false e false f = let old = apart.once from to in omega (arith, old)
  was_free from to true e d f =
      let nodes = and_parts (is_node a from) (is_node b to) e in
      let none = no_way (sides directions) from to (λ c k h. none_forth c k
      (subst (λ (n : NodeNo). Has (c, a, n, k) (sides directions)) (sym (same_node b to nodes.1))
      (subst (λ (n : NodeNo). Has (c, n, to, k) (sides directions)) (sym (same_node a from nodes.0)) h))) in
      let other : d ≡ false = sym f ∙ ap (λ (n : NodeNo). is_node b n && is_node a to) (sym (same_node a from nodes.0)) ∙ ap (λ (c : Bool). c && is_node a to)
      (nodes_turned a b two_nodes) in
      let one_way : one d ≡ 0 = ap one other in
      omega (arith, none, one_way)
  was_free from to false e true f =
      let nodes = and_parts (is_node b from) (is_node a to) f in
      let none = no_way (sides directions) from to (λ c k h. none_back c k
      (subst (λ (n : NodeNo). Has (c, b, n, k) (sides directions)) (sym (same_node a to nodes.1))
      (subst (λ (n : NodeNo). Has (c, n, to, k) (sides directions)) (sym (same_node b from nodes.0)) h))) in
      omega (arith, none)

  abbrev first_new : Side
  first_new = (conn, a, b, true)

  abbrev second_new : Side
  second_new = (conn, b, a, false)

  abbrev IsNew : Side → Type 0
  IsNew side = (first_new ≡ side) ⊎ (second_new ≡ side)

  on_new : {e : ConnId} {u v : NodeNo} {n : Bool} → IsNew (e, u, v, n) → e ≡ conn
  on_new new = elim new [ inl forth ↦ ap (λ (s : Side). s.0) (sym forth) | inr backward ↦ ap (λ (s : Side). s.0) (sym backward) ]

  -- a way that stood does not go back from the new one
  not_back : (c : ConnId) (x y : NodeNo) (k : Bool) (d : ConnId) (l : Bool) → Has (c, x, y, k) (sides directions) → IsNew (d, y, x, l) → ⊥
  not_back c x y k d l old new = elim new [
    | inl forth ↦ none_back c k (subst (λ (n : NodeNo). Has (c, n, a, k) (sides directions)) (ap (λ (s : Side). s.2) (sym forth))
        (subst (λ (n : NodeNo). Has (c, x, n, k) (sides directions)) (ap (λ (s : Side). s.1) (sym forth)) old))
    | inr backward ↦ none_forth c k (subst (λ (n : NodeNo). Has (c, n, b, k) (sides directions)) (ap (λ (s : Side). s.2) (sym backward))
        (subst (λ (n : NodeNo). Has (c, x, n, k) (sides directions)) (ap (λ (s : Side). s.1) (sym backward)) old))
  ]

  abbrev passes : NodeNo → NodeNo → Direction → Bool
  passes from to direction = is_way from to (side_of direction)

  pub apart_after_up : AreApart (sides (directions ++ more))
  apart_after_up = record {
    once = λ from to.
        let free_way = was_free from to (is_node a from && is_node b to) refl (is_node b from && is_node a to) refl in
        omega (
          arith,
          free_way,
          count-map (is_way from to) side_of directions,
          count-map (is_way from to) side_of (directions ++ more),
          sum_by-append (λ (d : Direction). one (passes from to d)) directions more,
          count-cons (passes from to) (empty_direction conn a b true) (empty_direction conn b a false ∷ []),
          count-cons (passes from to) (empty_direction conn b a false) [],
        );
    same = λ c d x y k l h g. elim (sides_of_new directions conn a b (c, x, y, k) h) [
      | inl old ↦ elim (sides_of_new directions conn a b (d, y, x, l) g) [
        | inl other ↦ apart.same c d x y k l old other
        | inr new ↦ absurd (not_back c x y k d l old new)
      ]
      | inr new ↦ elim (sides_of_new directions conn a b (d, y, x, l) g) [
        | inl other ↦ absurd (not_back d y x l c k other new)
        | inr more_new ↦ on_new new ∙ sym (on_new more_new)
      ]
    ];
  }

-- ---- one is known, and others are emptied

pub apart_known : (test : Direction → Bool) (direction : Direction) (directions : List Direction) → find test directions ≡ Some direction → AreApart
    (sides directions) → AreApart (sides (replace_first test (record direction { known = true }) directions))
apart_known test direction directions found apart = record {
  once = λ from to. omega (
    arith,
    apart.once from to,
    count-map (is_way from to) side_of directions,
    count-map (is_way from to) side_of (replace_first test (record direction { known = true }) directions),
    count_replaced (λ d. is_way from to (side_of d)) test direction (record direction { known = true }) directions found refl,
  );
  same = λ c d a b k l h g. let p = was c a b k h in let q = was d b a l g in apart.same c d a b p.0 q.0 p.1 q.1;
}
  where
    was : (c : ConnId) (a b : NodeNo) (k : Bool) → Has (c, a, b, k) (sides (replace_first test (record direction { known = true }) directions)) → (l : Bool) ×
        Has (c, a, b, l) (sides directions)
    was c a b k h =
        let of = direction_of (replace_first test (record direction { known = true }) directions) (c, a, b, k) h in
        elim (Has-replaced test (record direction { known = true }) directions of.among) [
          | inl is ↦ (
            direction.known,
            subst (λ (s : Side). Has s (sides directions))
                (ap (λ (d : Direction). (d.conn, d.from, d.to, direction.known)) (sym is) ∙ ap (λ (s : Side). (s.0, s.1, s.2, direction.known)) of.side_is)
                (Has-map side_of (Has-found test directions found)),
          )
          | inr old ↦ (k, subst (λ (s : Side). Has s (sides directions)) of.side_is (Has-map side_of old))
        ]
