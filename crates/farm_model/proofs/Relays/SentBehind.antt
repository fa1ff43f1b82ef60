-- What a node sends comes behind what is in flight from it, each message on its connection, and what others send does not.
use Rattle.std.proofs.Common.{◌≡◌, ◌≤◌, Bool, true, false, cond, List, [], ◌∷◌, ◌++◌, map, Option, Some, None, inl, inr, refl, sym, subst, ap, ◌∙◌}
use Rattle.std.proofs.Common.{append_assoc, append-nil, arith}
use Rattle.std.specs.Prelude.{◌==◌, ◌&&◌, ⊤, filter, count_by}
use Rattle.std.specs.List.{find}
use Rattle.std.proofs.lemmas.Bool.{and_parts, and_from, both_ways}
use Rattle.std.proofs.lemmas.Grind.{flat_map-append}
use Rattle.dia_base.specs.declared.number.ConnId.{ConnId}
use Rattle.dia_base.specs.declared.number.NodeNo.{NodeNo}
use Rattle.dia_base.proofs.Counting.{one, count-cons, count-map}
use Rattle.dia_base.proofs.Finding.{found_passes}
use Rattle.dia_message.specs.declared.message.Message.{Message}
use Rattle.dia_message.specs.declared.message.Out.{Out}
use Rattle.dia_message.specs.Traffic.{Traffic}
use Rattle.farm_law.specs.Lists.{Has}
use Rattle.farm_base.specs.declared.site.Site.{Site}
use Rattle.farm_model.specs.declared.state.Direction.{Direction}
use Rattle.farm_model.specs.InFlight.{goes}
use Rattle.farm_base.specs.Nodes.{is_node}
use Rattle.farm_model.specs.RelayRuns.{messages_on, sent_on}
use Rattle.farm_model.specs.World.{Ends, is_outward, with_message, with_message_in, with_message_from, with_traffic_from}
use Rattle.farm_model.proofs.Wiring.Apart.{fewer, the_one, AreApart, goes_once}
use Rattle.farm_model.proofs.Lists.Finding.{Has-found, not_found, none_pass}
use Rattle.farm_model.proofs.Wiring.Joined.{Joins-same}
use Rattle.farm_model.proofs.Lists.Numbering.{is_same_node}
use Rattle.farm_model.proofs.Lists.Replacing.{count_replaced, Has-replacement, Has-beside}
use Rattle.farm_model.proofs.Wiring.Sides.{Side, side_of, sides}
use Rattle.farm_model.proofs.Wiring.Wired.{Joins, DirectionIsWired}
use Rattle.farm_model.proofs.Wiring.WorldLemmas.{outward_is}

-- ---- a connection has one direction from each of its nodes

abbrev pub OneOut : List Direction → Type 0
OneOut directions = (node : NodeNo) (conn : ConnId) → count_by (is_outward node conn) directions ≤ 1

pub one_out : (site : Site) (ends made : Ends) (directions : List Direction) → AreApart (sides directions) →
    ((d : Direction) → Has d directions → DirectionIsWired site ends made d) → OneOut directions
one_out site ends made directions apart wired node conn = go (find (is_outward node conn) directions) refl
  where
    go : (found : Option Direction) → find (is_outward node conn) directions ≡ found → count_by (is_outward node conn) directions ≤ 1
    go None f = let none = none_pass (is_outward node conn) directions (λ d h. not_found (is_outward node conn) f h) in omega (arith, none)
    go (Some first) f =
        let first_is = outward_is node conn first (found_passes (is_outward node conn) directions first f) in
        let first_joins = (wired first (Has-found (is_outward node conn) directions f)).joins in
        let same_way : (d : Direction) → Has d directions → is_outward node conn d ≡ true → goes node first.to d ≡ true = λ d h e.
        let is = outward_is node conn d e in
        let joins = subst (λ (n : NodeNo). Joins ends first.conn n d.to) (is.0 ∙ sym first_is.0)
        (subst (λ (c : ConnId). Joins ends c d.from d.to) (is.1 ∙ sym first_is.1) (wired d h).joins) in
        and_from (is_node d.from node) (is_node d.to first.to) (is_same_node d.from node is.0) (is_same_node d.to first.to (Joins-same joins first_joins)) in
        let less = fewer (is_outward node conn) (goes node first.to) directions same_way in
        let most = goes_once directions apart node first.to in
        omega (arith, less, most)

-- it is so with other messages, and where directions go
pub one_out_with : (test : Direction → Bool) (first : Direction) (messages : List Message) (directions : List Direction) → find test directions ≡ Some first →
    OneOut directions → OneOut (Rattle.farm_base.specs.Lists.replace_first test (record first { messages = messages }) directions)
one_out_with test first messages directions f single node conn =
    let same = count_replaced (is_outward node conn) test first (record first { messages = messages }) directions f refl in
    let most = single node conn in
    omega (arith, same, most)

-- and where they have the same sides
pub one_out_by_sides : (old new : List Direction) → sides new ≡ sides old → OneOut old → OneOut new
one_out_by_sides old new same single node conn =
    let was = count-map (λ (s : Side). is_node s.1 node && (s.0.0 == conn.0)) side_of old in
    let then = count-map (λ (s : Side). is_node s.1 node && (s.0.0 == conn.0)) side_of new in
    let is = ap (count_by (λ (s : Side). is_node s.1 node && (s.0.0 == conn.0))) same in
    let most = single node conn in
    omega (arith, was, then, is, most)

posted_one_out : (test : Direction → Bool) (message : Message) (directions : List Direction) (found : Option Direction) → find test directions ≡ found → OneOut
    directions → OneOut (with_message_in test message directions found)
posted_one_out test message directions None f single = single
posted_one_out test message directions (Some first) f single = one_out_with test first (first.messages ++ message ∷ []) directions f single

pub traffic_one_out : (node : NodeNo) (directions : List Direction) (items : Traffic) → OneOut directions → OneOut (with_traffic_from node directions items)
traffic_one_out node directions [] single = single
traffic_one_out node directions (item ∷ items) single =
    traffic_one_out node (with_message_from node directions item.0 item.1) items
    (posted_one_out (is_outward node item.0) item.1 directions (find (is_outward node item.0) directions) refl single)

count_left : {A : Type 0} (test keep : A → Bool) (xs : List A) → count_by test (filter keep xs) ≤ count_by test xs
count_left test keep [] = omega arith
count_left {A} test keep (x ∷ xs) = go (keep x) (count_left test keep xs)
  where
    go : (b : Bool) → count_by test (filter keep xs) ≤ count_by test xs → count_by test (cond b (x ∷ filter keep xs) (filter keep xs)) ≤ count_by test (x ∷ xs)
    go true rest = omega (arith, rest, count-cons test x xs, count-cons test x (filter keep xs))
    go false rest = omega (arith, rest, count-cons test x xs)

pub left_one_out : (keep : Direction → Bool) (directions : List Direction) → OneOut directions → OneOut (filter keep directions)
left_one_out keep directions single node conn = let most = single node conn in let less = count_left (is_outward node conn) keep directions in omega
    (arith, most, less)

-- ---- what a node sends

pub as_it_was : {directions : List Direction} (direction : Direction) → Has direction directions
    → Has (record direction { messages = direction.messages ++ [] }) directions
as_it_was {directions} direction h = subst (λ (ms : List Message). Has (record direction { messages = ms }) directions) (sym (append-nil direction.messages)) h

own_message : (node : NodeNo) (conn : ConnId) (message : Message) (directions : List Direction) → OneOut directions → (direction : Direction) → Has direction
    directions → is_node direction.from node ≡ true → (found : Option Direction) → find (is_outward node conn) directions ≡ found
    → (on : Bool) → (direction.conn.0 == conn.0) ≡ on → Has (record direction { messages = direction.messages ++ cond on (message ∷ []) [] })
    (with_message_in (is_outward node conn) message directions found)
own_message node conn message directions single direction h from None f true on = absurd
    (both_ways (is_outward node conn direction) (not_found (is_outward node conn) f h)
    (and_from (is_node direction.from node) (direction.conn.0 == conn.0) from on))
own_message node conn message directions single direction h from None f false off = as_it_was direction h
own_message node conn message directions single direction h from (Some first) f true on =
    let is = the_one (is_outward node conn) first directions (single node conn) f h
    (and_from (is_node direction.from node) (direction.conn.0 == conn.0) from on) in
    subst (λ (d : Direction). Has (record d { messages = d.messages ++ message ∷ [] })
    (with_message_in (is_outward node conn) message directions (Some first))) (sym is)
    (Has-replacement (is_outward node conn) first (with_message message first) directions f)
own_message node conn message directions single direction h from (Some first) f false off = elim
    (Has-beside (is_outward node conn) first (with_message message first) directions f h) [
      | inl is ↦
          let passes = found_passes (is_outward node conn) directions first f in
          absurd (both_ways (direction.conn.0 == conn.0) off (ap (λ (d : Direction). d.conn.0 == conn.0) is ∙
          (and_parts (is_node first.from node) (first.conn.0 == conn.0) passes).1))
      | inr left ↦ as_it_was direction left
    ]

pub own_traffic : (node : NodeNo) (directions : List Direction) (items : Traffic) → OneOut directions → (direction : Direction) → Has direction directions →
    is_node direction.from node ≡ true
    → Has (record direction { messages = direction.messages ++ messages_on direction.conn items }) (with_traffic_from node directions items)
own_traffic node directions [] single direction h from = as_it_was direction h
own_traffic node directions (item ∷ items) single direction h from =
    subst (λ (ms : List Message). Has (record direction { messages = ms }) (with_traffic_from node directions (item ∷ items)))
    (together (direction.conn.0 == item.0.0))
    (own_traffic node (with_message_from node directions item.0 item.1) items
    (posted_one_out (is_outward node item.0) item.1 directions (find (is_outward node item.0) directions) refl single)
    (record direction { messages = direction.messages ++ cond (direction.conn.0 == item.0.0) (item.1 ∷ []) [] })
    (own_message node item.0 item.1 directions single direction h from (find (is_outward node item.0) directions) refl (direction.conn.0 == item.0.0) refl)
    from)
  where
    later : Traffic
    later = filter (λ i. direction.conn.0 == i.0.0) items

    together : (on : Bool) → (direction.messages ++ cond on (item.1 ∷ []) []) ++ map (λ i. i.1) later ≡ direction.messages ++ map (λ i. i.1)
        (cond on (item ∷ later) later)
    together true = append_assoc direction.messages (item.1 ∷ []) (map (λ i. i.1) later)
    together false = ap (λ (ms : List Message). ms ++ map (λ i. i.1) later) (append-nil direction.messages)

-- ---- what another one sends

-- directions from the node stay as they are
abbrev pub Untouched : NodeNo → List Direction → List Direction → Type 0
Untouched node old new = (direction : Direction) → Has direction old → is_node direction.from node ≡ true → Has direction new

pub untouched_by : (k : NodeNo) (test : Direction → Bool) (message : Message) (directions : List Direction) →
    ((d : Direction) → test d ≡ true → is_node d.from k ≡ false) → (found : Option Direction) → find test directions ≡ found → Untouched k directions
    (with_message_in test message directions found)
untouched_by k test message directions others None f direction h from = h
untouched_by k test message directions others (Some first) f direction h from = elim (Has-beside test first (with_message message first) directions f h) [
  | inl is ↦ absurd (both_ways (is_node direction.from k) (ap (λ (d : Direction). is_node d.from k) is ∙ others first (found_passes test directions first f))
      from)
  | inr left ↦ left
]

pub others_traffic : (k node : NodeNo) (directions : List Direction) (items : Traffic) → is_node node k ≡ false → Untouched k directions
    (with_traffic_from node directions items)
others_traffic k node directions [] apart direction h from = h
others_traffic k node directions (item ∷ items) apart direction h from =
    others_traffic k node (with_message_from node directions item.0 item.1) items apart direction
    (untouched_by k (is_outward node item.0) item.1 directions (λ d e. ap (λ (n : NodeNo). is_node n k) (outward_is node item.0 d e).0 ∙ apart)
    (find (is_outward node item.0) directions) refl direction h from) from

-- ---- behind

-- what a node has sent in one turn after another comes behind on each connection
abbrev pub Behind : NodeNo → List Out → List Direction → List Direction → Type 0
Behind node outs old new = (direction : Direction) → Has direction old → is_node direction.from node ≡ true → Has
    (record direction { messages = direction.messages ++ sent_on direction.conn outs }) new

pub behind_nothing : (node : NodeNo) (old new : List Direction) → Untouched node old new → Behind node [] old new
behind_nothing node old new stays direction h from = as_it_was direction (stays direction h from)

pub behind_one : (node : NodeNo) (old : List Direction) (out : Out) → OneOut old → Behind node (out ∷ []) old (with_traffic_from node old out.items)
behind_one node old out single direction h from =
    subst (λ (ms : List Message). Has (record direction { messages = direction.messages ++ ms }) (with_traffic_from node old out.items))
    (sym (append-nil (messages_on direction.conn out.items))) (own_traffic node old out.items single direction h from)

-- so it is in the directions of these sides
abbrev pub BehindOn : (Side → Type 0) → NodeNo → List Out → List Direction → List Direction → Type 0
BehindOn Stands node outs old new = (direction : Direction) → Has direction old → is_node direction.from node ≡ true → Stands (side_of direction) → Has
    (record direction { messages = direction.messages ++ sent_on direction.conn outs }) new

pub behind_on_more : (Stands : Side → Type 0) (node : NodeNo) (first second : List Out) (one two three : List Direction) → BehindOn Stands node first one two →
    BehindOn Stands node second two three → BehindOn Stands node (first ++ second) one three
behind_on_more Stands node first second one two three before after direction h from stands =
    subst (λ (ms : List Message). Has (record direction { messages = ms }) three)
    (append_assoc direction.messages (sent_on direction.conn first) (sent_on direction.conn second) ∙ ap (λ (ms : List Message). direction.messages ++ ms)
    (sym (flat_map-append (λ (out : Out). messages_on direction.conn out.items) first second)))
    (after (record direction { messages = direction.messages ++ sent_on direction.conn first }) (before direction h from stands) from stands)

pub behind_more : (node : NodeNo) (first second : List Out) (one two three : List Direction) → Behind node first one two → Behind node second two three →
    Behind node (first ++ second) one three
behind_more node first second one two three before after direction h from = behind_on_more (λ side. ⊤) node first second one two three
    (λ d k f stands. before d k f) (λ d k f stands. after d k f) direction h from tt
