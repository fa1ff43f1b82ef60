-- The plan of a failover, and how it is carried out.
use Rattle.std.proofs.Common.{◌≡◌, ℕ, ◌+◌, ◌<◌, ◌≤◌, ◌==◌, Bool, true, false, cond, is_some, List, [], ◌∷◌, ◌++◌, length, map, Option, Some, None, option_map, option_to_list, take, get_or, ◌&&◌, Result, Ok, Err, refl, ap, sym, subst, ◌∙◌, append_assoc, arith}
use Rattle.std.specs.List.{AllByRecursion}
use Rattle.std.proofs.lemmas.Bool.{eq-eqb, ne_eqb}
use Rattle.std.proofs.lemmas.Cmp.{nat_eq_equiv}
use Rattle.std.proofs.lemmas.List.{append-nil, take_more}
use Rattle.dia_base.specs.declared.number.ConnId.{ConnId}
use Rattle.dia_message.specs.declared.message.Message.{Message}
use Rattle.dia_message.specs.Traffic.{Traffic}
use Rattle.cc_view.specs.declared.code.ResultCode.{ResultCode}
use Rattle.cc_view.specs.Answer.{refusal_of}
use Rattle.cc_view.specs.Refusal.{refusal_with}
use Rattle.relay_hops.specs.declared.row.Held.{Held}
use Rattle.relay_hops.specs.declared.row.Origin.{Origin}
use Rattle.relay_hops.specs.declared.row.Row.{Row}
use Rattle.relay_hops.specs.PendingTable.{held_at, has_key, under, resent, AreInUse, IsMap, IsWith, IsMoved, without_origin}
use Rattle.relay_hops.proofs.InUse.{first-held, first-least, rest-in_use, its_hop, held-without}
use Rattle.relay_hops.proofs.LookUps.{held-orphaned, held-with, moved-rest}
use Rattle.relay_core.specs.declared.failover.FailoverChoice.{FailoverChoice}
use Rattle.relay_core.specs.declared.failover.FailoverChoice.TheVariants.{Forget, SendAgain, GiveUp}
use Rattle.relay_core.specs.declared.failover.PlannedFailover.{PlannedFailover}
use Rattle.relay_core.specs.declared.node.RelayNode.{RelayNode}
use Rattle.relay_core.specs.Failover.{RequestFailover, Failover, none_left, least_first, next_hop_again, without_origins}
use Rattle.relay_core.specs.FailoverPlan.{repeated, choice_by_hop, choice_by_origin, choice_of, choice_at, planned_for, Fits, IsFailoverPlan}

-- ---- what a choice says of the request

forget-by_hop : (node : RelayNode) (request : Message) (origin : Origin) (hop : Result ConnId ResultCode) → Forget ≡ choice_by_hop node request origin hop → ⊥
forget-by_hop node request origin (Ok to) e = cc
forget-by_hop node request origin (Err code) e = cc

forget-by_origin : (node : RelayNode) (request : Message) (o : Option Origin) → Forget ≡ choice_by_origin node request o → o ≡ None
forget-by_origin node request None e = refl
forget-by_origin node request (Some origin) e = absurd (forget-by_hop node request origin (next_hop_again node request) e)

pub forget-is : (node : RelayNode) (held : Held) → Forget ≡ choice_of node held → held.origin ≡ None
forget-is node held e = forget-by_origin node held.request held.origin e

send-by_hop : (node : RelayNode) (request : Message) (origin : Origin) (to : ConnId) (copy : Message) (hop : Result ConnId ResultCode) → SendAgain to copy ≡ choice_by_hop node request origin hop
    → (hop ≡ Ok to) × (copy ≡ repeated request)
send-by_hop node request origin to copy (Ok other) e = let same : to ≡ other = cc in (ap (λ (c : ConnId). Ok c) (sym same), cc)
send-by_hop node request origin to copy (Err code) e = absurd cc

send-by_origin : (node : RelayNode) (request : Message) (to : ConnId) (copy : Message) (o : Option Origin) → SendAgain to copy ≡ choice_by_origin node request o
    → (origin : Origin) × (o ≡ Some origin) × (next_hop_again node request ≡ Ok to) × (copy ≡ repeated request)
send-by_origin node request to copy None e = absurd cc
send-by_origin node request to copy (Some origin) e = let parts = send-by_hop node request origin to copy (next_hop_again node request) e in (origin, refl, parts.0, parts.1)

pub send-is : (node : RelayNode) (held : Held) (to : ConnId) (copy : Message) → SendAgain to copy ≡ choice_of node held
    → (origin : Origin) × (held.origin ≡ Some origin) × (next_hop_again node held.request ≡ Ok to) × (copy ≡ repeated held.request)
send-is node held to copy e = send-by_origin node held.request to copy held.origin e

give-by_hop : (node : RelayNode) (request : Message) (origin : Origin) (conn : ConnId) (answer : Message) (hop : Result ConnId ResultCode) → GiveUp conn answer ≡ choice_by_hop node request origin hop
    → (code : ResultCode) × (hop ≡ Err code) × (conn ≡ origin.conn) × (answer ≡ under origin.hop (refusal_of node.name node.realm request (refusal_with code)))
give-by_hop node request origin conn answer (Ok other) e = absurd cc
give-by_hop node request origin conn answer (Err code) e = (code, refl, cc, cc)

give-by_origin : (node : RelayNode) (request : Message) (conn : ConnId) (answer : Message) (o : Option Origin) → GiveUp conn answer ≡ choice_by_origin node request o
    → (origin : Origin) × (code : ResultCode) × (o ≡ Some origin) × (next_hop_again node request ≡ Err code) × (conn ≡ origin.conn) × (answer ≡ under origin.hop (refusal_of node.name node.realm request (refusal_with code)))
give-by_origin node request conn answer None e = absurd cc
give-by_origin node request conn answer (Some origin) e =
    let parts = give-by_hop node request origin conn answer (next_hop_again node request) e in (origin, parts.0, refl, parts.1, parts.2, parts.3)

pub give-is : (node : RelayNode) (held : Held) (conn : ConnId) (answer : Message) → GiveUp conn answer ≡ choice_of node held
    → (origin : Origin) × (code : ResultCode) × (held.origin ≡ Some origin) × (next_hop_again node held.request ≡ Err code) × (conn ≡ origin.conn) × (answer ≡ under origin.hop (refusal_of node.name node.realm held.request (refusal_with code)))
give-is node held conn answer e = give-by_origin node held.request conn answer held.origin e

-- ---- the plan is made

at_held : (node : RelayNode) (o : Option Held) (held : Held) → o ≡ Some held → choice_at node o ≡ choice_of node held
at_held node None held e = absurd cc
at_held node (Some other) held e = let same : other ≡ held = cc in ap (choice_of node) same

all_fit : (node : RelayNode) (lost : ConnId) (rows : List Row) (hops : List ℕ) → AllByRecursion (Fits node lost rows) (map (planned_for node lost rows) hops)
all_fit node lost rows [] = tt
all_fit node lost rows (hop ∷ hops) = (λ held e. at_held node (held_at rows lost hop) held e, all_fit node lost rows hops)

same_hops : (node : RelayNode) (lost : ConnId) (rows : List Row) (hops : List ℕ) → map (λ (p : PlannedFailover). p.hop) (map (planned_for node lost rows) hops) ≡ hops
same_hops node lost rows [] = refl
same_hops node lost rows (hop ∷ hops) = ap (λ (hs : List ℕ). hop ∷ hs) (same_hops node lost rows hops)

is_some-map : {X Y : Type 0} (f : X → Y) (o : Option X) → is_some (option_map f o) ≡ is_some o
is_some-map f None = refl
is_some-map f (Some x) = refl

in_use-without_origins : (rows : List Row) (lost : ConnId) (hops : List ℕ) → AreInUse rows lost hops → AreInUse (without_origins lost rows) lost hops
in_use-without_origins rows lost hops u = record {
  used = λ hop. ap is_some (held-orphaned rows lost lost hop) ∙ is_some-map (without_origin lost) (held_at rows lost hop) ∙ u.used hop;
  rising = u.rising;
}

pub plan_made : (node : RelayNode) (lost : ConnId) (rows : List Row) (hops : List ℕ) (plan : List PlannedFailover) → AreInUse rows lost hops
    → plan ≡ map (planned_for node lost (without_origins lost rows)) hops → IsFailoverPlan node lost (without_origins lost rows) plan
plan_made node lost rows hops plan u is = subst (λ (ps : List PlannedFailover). IsFailoverPlan node lost (without_origins lost rows) ps) (sym is) (record {
  hops = subst (λ (hs : List ℕ). AreInUse (without_origins lost rows) lost hs) (sym (same_hops node lost (without_origins lost rows) hops)) (in_use-without_origins rows lost hops u);
  choices = all_fit node lost (without_origins lost rows) hops;
})

choice_some : (node : RelayNode) (lost : ConnId) (rows : List Row) (hop : ℕ) (o : Option Held) (held : Held) → held_at rows lost hop ≡ o → o ≡ Some held
    → choice_at node (held_at (without_origins lost rows) lost hop) ≡ choice_of node (without_origin lost held)
choice_some node lost rows hop o held e f =
    ap (choice_at node) (held-orphaned rows lost lost hop ∙ ap (option_map (without_origin lost)) (e ∙ f))

pub planned-some : (node : RelayNode) (lost : ConnId) (rows : List Row) (hop : ℕ) (held : Held) (choice : FailoverChoice) → held_at rows lost hop ≡ Some held → choice ≡ choice_of node (without_origin lost held)
    → record { hop = hop; choice = choice } ≡ planned_for node lost (without_origins lost rows) hop
planned-some node lost rows hop held choice e is =
    ap (λ (c : FailoverChoice). record { hop = hop; choice = c }) (is ∙ sym (choice_some node lost rows hop (held_at rows lost hop) held refl e))

pub planned-none : (node : RelayNode) (lost : ConnId) (rows : List Row) (hop : ℕ) (choice : FailoverChoice) → held_at rows lost hop ≡ None → choice ≡ Forget
    → record { hop = hop; choice = choice } ≡ planned_for node lost (without_origins lost rows) hop
planned-none node lost rows hop choice e is =
    ap (λ (c : FailoverChoice). record { hop = hop; choice = c }) (is ∙ sym (ap (choice_at node) (held-orphaned rows lost lost hop ∙ ap (option_map (without_origin lost)) e)))

map-push : (f : ℕ → PlannedFailover) (hops : List ℕ) (hop : ℕ) → map f (hops ++ hop ∷ []) ≡ map f hops ++ f hop ∷ []
map-push f [] hop = refl
map-push f (h ∷ hops) hop = ap (λ (ps : List PlannedFailover). f h ∷ ps) (map-push f hops hop)

pub planned_more : (f : ℕ → PlannedFailover) (hops : List ℕ) (i : ℕ) (plan new : List PlannedFailover) (planned : PlannedFailover) → i < length hops → plan ≡ map f (take i hops)
    → planned ≡ f (get_or hops i 0) → new ≡ plan ++ planned ∷ [] → new ≡ map f (take (i + 1) hops)
planned_more f hops i plan new planned lt before is e =
    e ∙ ap (λ (ps : List PlannedFailover). ps ++ planned ∷ []) before ∙ ap (λ (p : PlannedFailover). map f (take i hops) ++ p ∷ []) is
    ∙ sym (map-push f (take i hops) (get_or hops i 0)) ∙ ap (map f) (sym (take_more hops i 0 lt))

-- ---- on the lost connection one identifier is in use no more

abbrev row : ConnId → Held → Row
row conn held = record { conn = conn; held = held }

own_key : (lost : ConnId) (other hop : ℕ) (held : Held) → held.request.header.hop ≡ hop → has_key lost other (row lost held) ≡ (other == hop)
own_key lost other hop held e =
    ap (λ b. b && (held.request.header.hop == other)) (eq-eqb lost.0 lost.0 refl) ∙ ap (λ (n : ℕ). n == other) e ∙ nat_eq_equiv.symm hop other

pub held-taken_out : (lost : ConnId) (hop : ℕ) (held : Held) (rows left : List Row) → held_at rows lost hop ≡ Some held → IsWith (row lost held) left rows → IsMap rows
    → (other : ℕ) → held_at left lost other ≡ cond (other == hop) None (held_at rows lost other)
held-taken_out lost hop held rows left e w m other =
    held-without (row lost held) left rows lost other w m
    ∙ ap (λ b. cond b None (held_at rows lost other)) (own_key lost other hop held (its_hop rows lost hop held e))

elsewhere : (b c : Bool) (held : Held) (rest : Option Held) → b ≡ false → cond (b && c) (Some held) rest ≡ rest
elsewhere true c held rest e = absurd cc
elsewhere false c held rest e = refl

pub held-moved_away : (lost to : ConnId) (hop fresh : ℕ) (held : Held) (rows left : List Row) → held_at rows lost hop ≡ Some held → IsMoved (row lost held) (resent to fresh (row lost held)) rows left → IsMap rows → IsMap left
    → (to ≡ lost → ⊥) → (other : ℕ) → held_at left lost other ≡ cond (other == hop) None (held_at rows lost other)
held-moved_away lost to hop fresh held rows left e w m n ne other =
    let parts = moved-rest (row lost held) (resent to fresh (row lost held)) rows left w in
    held-with (resent to fresh (row lost held)) parts.0 left lost other parts.2 n
    ∙ elsewhere (to.0 == lost.0) (fresh == other) (resent to fresh (row lost held)).held (held_at parts.0 lost other) (ne_eqb to.0 lost.0 (λ same. ne (ap conn_id same)))
    ∙ held-taken_out lost hop held rows parts.0 e parts.1 m other
  where
    conn_id : ℕ → ConnId
    conn_id x = record { 0 = x }

-- ---- the plan is carried out

-- what is done so far
pub data DoneSoFar (node : RelayNode) (lost : ConnId) (first : List Row) : Traffic → List Row → Type 0 where
  none_yet : DoneSoFar node lost first [] first
  one_more : (hop : ℕ) (held : Held) (rows between : List Row) (sent more : Traffic) → DoneSoFar node lost first sent rows →
      held_at rows lost hop ≡ Some held → ((other : ℕ) → is_some (held_at rows lost other) ≡ true → hop ≤ other) → RequestFailover node lost held rows more between →
      DoneSoFar node lost first (sent ++ more) between

pub begun : (node : RelayNode) (lost : ConnId) (rows : List Row) (sent : Traffic) → sent ≡ [] → DoneSoFar node lost rows sent rows
begun node lost rows sent e = subst (λ (s : Traffic). DoneSoFar node lost rows s rows) (sym e) none_yet

then_rest : {node : RelayNode} {lost : ConnId} {first rows left : List Row} {sent more : Traffic} → DoneSoFar node lost first sent rows → Failover node lost rows more left
    → Failover node lost first (sent ++ more) left
then_rest none_yet rest = rest
then_rest {node = node} {lost = lost} {first = first} {left = left} {more = more} (one_more hop held rows between sent here before e least turn) rest =
    subst (λ (s : Traffic). Failover node lost first s left) (sym (append_assoc sent here more))
    (then_rest before (least_first hop held rows between left here more e least turn rest))

held_there : (o : Option Held) → is_some o ≡ true → (held : Held) × (o ≡ Some held)
held_there None e = absurd cc
held_there (Some held) e = (held, refl)

still_held : (b : Bool) (o : Option Held) (held : Held) → cond b None o ≡ Some held → o ≡ Some held
still_held true o held e = absurd cc
still_held false o held e = e

fit_still : (node : RelayNode) (lost : ConnId) (rows left : List Row) (hop : ℕ) (plan : List PlannedFailover)
    → ((other : ℕ) → held_at left lost other ≡ cond (other == hop) None (held_at rows lost other)) → AllByRecursion (Fits node lost rows) plan → AllByRecursion (Fits node lost left) plan
fit_still node lost rows left hop [] frame all = tt
fit_still node lost rows left hop (p ∷ plan) frame all =
    (λ held e. all.0 held (still_held (p.hop == hop) (held_at rows lost p.hop) held (sym (frame p.hop) ∙ e)), fit_still node lost rows left hop plan frame all.1)

pub done_more : (node : RelayNode) (lost : ConnId) (first rows left : List Row) (planned : PlannedFailover) (plan : List PlannedFailover) (sent new : Traffic) (item : Option (ConnId × Message))
    → DoneSoFar node lost first sent rows → IsFailoverPlan node lost rows (planned ∷ plan)
    → ((held : Held) → held_at rows lost planned.hop ≡ Some held → planned.choice ≡ choice_of node held → RequestFailover node lost held rows (option_to_list item) left)
    → ((held : Held) → held_at rows lost planned.hop ≡ Some held → planned.choice ≡ choice_of node held → (other : ℕ) → held_at left lost other ≡ cond (other == planned.hop) None (held_at rows lost other))
    → new ≡ sent ++ option_to_list item
    → DoneSoFar node lost first new left × IsFailoverPlan node lost left plan
done_more node lost first rows left planned plan sent new item before p turn frame is =
    let hops = map (λ (q : PlannedFailover). q.hop) plan in
    let there = held_there (held_at rows lost planned.hop) (first-held rows lost planned.hop hops p.hops) in
    let choice = p.choices.0 there.0 there.1 in
    let other_held = frame there.0 there.1 choice in (
      subst (λ (s : Traffic). DoneSoFar node lost first s left) (sym is)
          (one_more planned.hop there.0 rows left sent (option_to_list item) before there.1 (first-least rows lost planned.hop hops p.hops) (turn there.0 there.1 choice)),
      record {
        hops = rest-in_use rows left lost planned.hop hops p.hops other_held;
        choices = fit_still node lost rows left planned.hop plan other_held p.choices.1;
      },
    )

-- what is held under the first identifier of a plan, and its choice
pub first-planned : (node : RelayNode) (lost : ConnId) (rows : List Row) (planned : PlannedFailover) (plan : List PlannedFailover) → IsFailoverPlan node lost rows (planned ∷ plan)
    → (held : Held) × (held_at rows lost planned.hop ≡ Some held) × (planned.choice ≡ choice_of node held)
first-planned node lost rows planned plan p =
    let there = held_there (held_at rows lost planned.hop) (first-held rows lost planned.hop (map (λ (q : PlannedFailover). q.hop) plan) p.hops) in
    (there.0, there.1, p.choices.0 there.0 there.1)

nothing : (o : Option Held) → is_some o ≡ false → o ≡ None
nothing None e = refl
nothing (Some held) e = absurd cc

-- after the last one nothing is left
pub all_done : (node : RelayNode) (lost : ConnId) (first rows : List Row) (plan : List PlannedFailover) (sent : Traffic) → plan ≡ [] → DoneSoFar node lost first sent rows → IsFailoverPlan node lost rows plan
    → Failover node lost first sent rows
all_done node lost first rows plan sent e before p =
    let q : IsFailoverPlan node lost rows [] = subst (λ (ps : List PlannedFailover). IsFailoverPlan node lost rows ps) e p in
    subst (λ (s : Traffic). Failover node lost first s rows) (append-nil sent)
    (then_rest before (none_left rows (λ hop. nothing (held_at rows lost hop) (q.hops.used hop))))

pub empty_of : (plan : List PlannedFailover) → length plan ≡ 0 → plan ≡ []
empty_of [] e = refl
empty_of (planned ∷ plan) e = absurd (omega (arith, e))
