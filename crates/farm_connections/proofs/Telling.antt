-- One way behind another.
use Rattle.std.proofs.Common.{◌≡◌, ℕ, true, ◌+◌, ◌<◌, List, [], ◌∷◌, ◌++◌, Result, Ok, Err, get_or, length, sym, subst, ap, ◌∙◌}
use Rattle.std.specs.List.{remove}
use Rattle.std.specs.Prelude.{slice_set}
use Rattle.std.proofs.lemmas.List.{map-append}
use Rattle.dia_message.specs.declared.message.Message.{Message}
use Rattle.dia_base.specs.declared.number.NodeNo.{NodeNo}
use Rattle.dia_message.specs.Traffic.{Traffic}
use Rattle.farm_node.specs.Events.{NodeEvent, up, message, leaving, lost}
use Rattle.farm_node.specs.declared.error.NodeError.{NodeError}
use Rattle.farm_connections.specs.declared.link.Link.{Link}
use Rattle.farm_connections.specs.declared.link.Standing.{Standing}
use Rattle.farm_connections.specs.declared.link.Standing.TheVariants.{Waiting, Up, Over}
use Rattle.farm_connections.specs.Turns.{Goes, IsDown, IsOfNone, Kept, Mark, Told, may_come_up, standing_as, told_of}
use Rattle.farm_connections.specs.Turns.{rests, comes_up, is_refused, hears, leaves, ends, wakes, makes, lets_go}
use Rattle.farm_connections.specs.Desks.{mark_of, marks_of, standing_after}
use Rattle.farm_connections.proofs.Placing.{keeping, marks_split, marks_left}
use Rattle.farm_connections.proofs.Turning.{goes_then}

abbrev pub Way : {N : Type 0} → (N → NodeEvent → Traffic → Result (Unit {0}) NodeError → N → Type 0) → Kept N → Kept N → Type 0
Way On old new = (told : List Told) × Goes On old told new

pub way_then : {N : Type 0} {On : N → NodeEvent → Traffic → Result (Unit {0}) NodeError → N → Type 0} {old mid new : Kept N} → Way On old mid
    → Way On mid new → Way On old new
way_then first more = (first.0 ++ more.0, goes_then more.0 _ first.1 more.1)

pub no_way : {N : Type 0} {On : N → NodeEvent → Traffic → Result (Unit {0}) NodeError → N → Type 0} (old new : Kept N) → new ≡ old → Way On old new
no_way {N} {On} old new same = ([], subst (λ (kept : Kept N). Goes On old [] kept) (sym same) rests)

-- a way, and then nothing that is told
pub way_still : {N : Type 0} {On : N → NodeEvent → Traffic → Result (Unit {0}) NodeError → N → Type 0} (old mid new : Kept N) → Way On old mid → new ≡ mid
    → Way On old new
way_still {N} {On} old mid new way same = (way.0, subst (λ (kept : Kept N). Goes On old way.0 kept) (sym same) way.1)

up_goes : {N : Type 0} {On : N → NodeEvent → Traffic → Result (Unit {0}) NodeError → N → Type 0} {first : Kept N} (node next : N) (told : List Told)
    (front back : List Mark) (made : ℕ) (mark : Mark) (peer : NodeNo) (sent : Traffic) (outcome : Result (Unit {0}) NodeError)
    → Goes On first told (keeping node (front ++ mark ∷ back) made) → mark.standing ≡ Waiting → may_come_up mark peer ≡ true
    → On node (up mark.local peer mark.id) sent outcome next
    → Goes On first (told ++ told_of (up mark.local peer mark.id) outcome) (keeping next (front ++ standing_as mark (standing_after peer outcome) ∷ back) made)
up_goes node next told front back made mark peer sent (Ok tt) goes waits may does = comes_up told node next front back made mark peer sent goes waits may does
up_goes node next told front back made mark peer sent (Err error) goes waits may does =
    is_refused told node next front back made mark peer sent error goes waits may does

-- ---- one thing is told

-- that a node is up
pub up_way : {N R W : Type 0} {On : N → NodeEvent → Traffic → Result (Unit {0}) NodeError → N → Type 0} (node next : N) (links : List (Link R W)) (place : ℕ)
    (link other : Link R W) (made : ℕ) (peer : NodeNo) (sent : Traffic)
    (outcome : Result (Unit {0}) NodeError) → place < length links → link ≡ get_or links place link → link.standing ≡ Waiting
    → may_come_up (mark_of link) peer ≡ true → mark_of other ≡ standing_as (mark_of link) (standing_after peer outcome)
    → On node (up link.local peer link.id) sent outcome next
    → Way On (record { node = node; marks = marks_of links; made = made })
    (record { node = next; marks = marks_of (slice_set links place other); made = made })
up_way {N} {R} {W} {On} node next links place link other made peer sent outcome within read waits may is does =
    let s = marks_split links place link within read in
    let begun = subst (λ (marks : List Mark). Goes On (keeping node (marks_of links) made) [] (keeping node marks made)) s.is rests in (
      told_of (up link.local peer link.id) outcome,
      subst (λ (marks : List Mark). Goes On (record { node = node; marks = marks_of links; made = made }) (told_of (up link.local peer link.id) outcome)
          (record { node = next; marks = marks; made = made }))
          (sym (s.set other ∙ ap (λ (mark : Mark). s.front ++ mark ∷ s.back) is))
          (up_goes node next [] s.front s.back made (mark_of link) peer sent outcome begun waits may does),
    )

-- a message
pub message_way : {N R W : Type 0} {On : N → NodeEvent → Traffic → Result (Unit {0}) NodeError → N → Type 0} (node next : N) (links : List (Link R W))
    (place : ℕ) (link other : Link R W) (made : ℕ) (peer : NodeNo) (m : Message) (sent : Traffic)
    (outcome : Result (Unit {0}) NodeError) → place < length links → link ≡ get_or links place link → link.standing ≡ Up peer → mark_of other ≡ mark_of link
    → On node (message link.id m) sent outcome next → Way On (keeping node (marks_of links) made) (keeping next (marks_of (slice_set links place other)) made)
message_way {N} {R} {W} {On} node next links place link other made peer m sent outcome within read is_up is does =
    let s = marks_split links place link within read in
    let begun = subst (λ (marks : List Mark). Goes On (keeping node (marks_of links) made) [] (keeping node marks made)) s.is rests in (
      told_of (message link.id m) outcome,
      subst (λ (marks : List Mark). Goes On (keeping node (marks_of links) made) (told_of (message link.id m) outcome) (keeping next marks made))
          (sym (s.set other ∙ ap (λ (mark : Mark). s.front ++ mark ∷ s.back) is))
          (hears [] node next s.front s.back made (mark_of link) peer m sent outcome begun is_up does),
    )

-- that the other end leaves
pub leaving_way : {N R W : Type 0} {On : N → NodeEvent → Traffic → Result (Unit {0}) NodeError → N → Type 0} (node next : N) (links : List (Link R W))
    (place : ℕ) (link other : Link R W) (made : ℕ) (peer : NodeNo) (sent : Traffic)
    (outcome : Result (Unit {0}) NodeError) → place < length links → link ≡ get_or links place link → link.standing ≡ Up peer → mark_of other ≡ mark_of link
    → On node (leaving link.id) sent outcome next → Way On (keeping node (marks_of links) made) (keeping next (marks_of (slice_set links place other)) made)
leaving_way {N} {R} {W} {On} node next links place link other made peer sent outcome within read is_up is does =
    let s = marks_split links place link within read in
    let begun = subst (λ (marks : List Mark). Goes On (keeping node (marks_of links) made) [] (keeping node marks made)) s.is rests in (
      told_of (leaving link.id) outcome,
      subst (λ (marks : List Mark). Goes On (keeping node (marks_of links) made) (told_of (leaving link.id) outcome) (keeping next marks made))
          (sym (s.set other ∙ ap (λ (mark : Mark). s.front ++ mark ∷ s.back) is))
          (leaves [] node next s.front s.back made (mark_of link) peer sent outcome begun is_up does),
    )

-- an end
pub lost_way : {N R W : Type 0} {On : N → NodeEvent → Traffic → Result (Unit {0}) NodeError → N → Type 0} (node next : N) (links : List (Link R W))
    (place : ℕ) (link other : Link R W) (made : ℕ) (peer : NodeNo) (sent : Traffic)
    (outcome : Result (Unit {0}) NodeError) → place < length links → link ≡ get_or links place link → link.standing ≡ Up peer
    → mark_of other ≡ standing_as (mark_of link) (Over peer)
    → On node (lost link.id) sent outcome next → Way On (keeping node (marks_of links) made) (keeping next (marks_of (slice_set links place other)) made)
lost_way {N} {R} {W} {On} node next links place link other made peer sent outcome within read is_up is does =
    let s = marks_split links place link within read in
    let begun = subst (λ (marks : List Mark). Goes On (keeping node (marks_of links) made) [] (keeping node marks made)) s.is rests in (
      told_of (lost link.id) outcome,
      subst (λ (marks : List Mark). Goes On (keeping node (marks_of links) made) (told_of (lost link.id) outcome) (keeping next marks made))
          (sym (s.set other ∙ ap (λ (mark : Mark). s.front ++ mark ∷ s.back) is))
          (ends [] node next s.front s.back made (mark_of link) peer sent outcome begun is_up does),
    )

-- an event of no connection
pub other_way : {N : Type 0} {On : N → NodeEvent → Traffic → Result (Unit {0}) NodeError → N → Type 0} (node next : N) (marks : List Mark) (made : ℕ)
    (event : NodeEvent) (sent : Traffic) (outcome : Result (Unit {0}) NodeError)
    → IsOfNone event → On node event sent outcome next → Way On (keeping node marks made) (keeping next marks made)
other_way node next marks made event sent outcome of_none does = (told_of event outcome, wakes [] node next marks made event sent outcome rests of_none does)

-- ---- connections come and go

-- a new one, of which nothing was told
pub made_way : {N R W : Type 0} {On : N → NodeEvent → Traffic → Result (Unit {0}) NodeError → N → Type 0} (node : N) (links : List (Link R W))
    (link : Link R W) (made : ℕ) → link.id.0 ≡ made + 1 → link.standing ≡ Waiting
    → Way On (keeping node (marks_of links) made) (keeping node (marks_of (links ++ link ∷ [])) link.id.0)
made_way {N} {R} {W} {On} node links link made next waits =
    let with : ℕ → Standing → Kept N =
    λ n standing. keeping node (marks_of links ++ record { id = record { 0 = n }; local = link.local; accepted = link.accepted; standing = standing; barred = link.barred.items; names = link.names } ∷ [])
    n in
    let first = keeping node (marks_of links) made in
    let begun : Goes On first [] (with (made + 1) Waiting) = makes [] node (marks_of links) made link.local link.accepted link.barred.items link.names rests in
    let there : Goes On first [] (with link.id.0 link.standing) =
    subst (λ (standing : Standing). Goes On first [] (with link.id.0 standing)) (sym waits)
    (subst (λ (n : ℕ). Goes On first [] (with n Waiting)) (sym next) begun) in
    ([], subst (λ (marks : List Mark). Goes On first [] (keeping node marks link.id.0)) (sym (map-append mark_of links (link ∷ []))) there)

-- one on which nobody is up is let go
pub left_way : {N R W : Type 0} {On : N → NodeEvent → Traffic → Result (Unit {0}) NodeError → N → Type 0} (node : N) (links : List (Link R W)) (place : ℕ)
    (made : ℕ) → place < length links
    → ((link : Link R W) → link ≡ get_or links place link → IsDown link.standing)
    → Way On (keeping node (marks_of links) made) (keeping node (marks_of (remove links place)) made)
left_way {N} {R} {W} {On} node links place made within down =
    let s = marks_left links place within in
    let first = keeping node (marks_of links) made in
    let begun : Goes On first [] (keeping node (s.front ++ mark_of s.link ∷ s.back) made) =
    subst (λ (marks : List Mark). Goes On first [] (keeping node marks made)) s.is rests in (
      [],
      subst (λ (marks : List Mark). Goes On first [] (keeping node marks made)) (sym s.left)
          (lets_go [] node s.front s.back made (mark_of s.link) begun (down s.link s.read)),
    )
