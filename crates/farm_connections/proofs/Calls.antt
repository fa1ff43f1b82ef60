-- What a call tells the node, from what its parts do.
use Rattle.std.proofs.Common.{◌≡◌, ℕ, ◌≤◌, true, false, List, [], ◌∷◌, ◌++◌, Option, Some, None, Result, is_some, length, sym, subst, ap, ◌∙◌}
use Rattle.std.specs.Prelude.{MatchOption, slice_set}
use Rattle.std.proofs.lemmas.List.{append-nil, append_assoc}
use Rattle.dia_base.specs.declared.number.Moment.{Moment}
use Rattle.dia_message.specs.declared.message.Message.{Message}
use Rattle.dia_message.specs.Traffic.{Traffic}
use Rattle.farm_net.specs.declared.loss.Loss.{Loss}
use Rattle.farm_node.specs.Events.{NodeEvent}
use Rattle.farm_node.specs.declared.error.NodeError.{NodeError}
use Rattle.farm_connections.specs.declared.desk.Desk.{Desk}
use Rattle.farm_connections.specs.declared.link.Link.{Link}
use Rattle.farm_connections.specs.declared.local.LocalNode.{LocalNode}
use Rattle.farm_connections.specs.Calls.{Brings, BringsHere, EndsIfLost, HearsAll, Reads, hears_more}
use Rattle.farm_connections.specs.Desks.{account_of}
use Rattle.farm_connections.specs.Doing.{AtPlace, Hears, IsStill}
use Rattle.farm_connections.proofs.Doing.{becomes_at}

-- messages that were heard, and those that are left
pub record HeardSo {N R W : Type 0} (On : N → NodeEvent → Traffic → Result (Unit {0}) NodeError → N → Type 0) (locals : List LocalNode) (moment : Moment)
    (place : ℕ) (first : Desk N R W) (all left : List Message) (now : Desk N R W) : Type 0 where
  pub done : List Message
  pub all_is : all ≡ done ++ left
  pub hears : HearsAll On locals moment place first done now

pub one_heard : {N R W : Type 0} {On : N → NodeEvent → Traffic → Result (Unit {0}) NodeError → N → Type 0} (locals : List LocalNode) (moment : Moment) (place : ℕ)
    (first mid new : Desk N R W) (all left rest : List Message) (m : Message) → HeardSo On locals moment place first all left mid → left ≡ m ∷ rest
    → AtPlace mid place (λ link. Hears On locals moment m place link mid new) → HeardSo On locals moment place first all rest new
one_heard locals moment place first mid new all left rest m before is hears = record {
  done = before.done ++ m ∷ [];
  all_is = before.all_is ∙ ap (λ (messages : List Message). before.done ++ messages) is ∙ sym (append_assoc before.done (m ∷ []) rest);
  hears = hears_more before.done mid new m before.hears hears;
}

pub all_heard : {N R W : Type 0} {On : N → NodeEvent → Traffic → Result (Unit {0}) NodeError → N → Type 0} (locals : List LocalNode) (moment : Moment) (place : ℕ)
    (first now : Desk N R W) (all left : List Message) → HeardSo On locals moment place first all left now → length left ≡ 0
    → HearsAll On locals moment place first all now
all_heard {N} {R} {W} {On} locals moment place first now all [] before none =
    subst (λ (messages : List Message). HearsAll On locals moment place first messages now) (sym (before.all_is ∙ append-nil before.done)) before.hears
all_heard locals moment place first now all (m ∷ left) before none = absurd cc

-- what is said where a connection has ended, and where it has not
pub where_over : {E : Type 0} (A B : Type 0) (end : Option E) → is_some end ≡ true → B → MatchOption end A (λ why. B)
where_over A B (Some e) is b = b
where_over A B None is b = absurd cc

pub where_open : {E : Type 0} (A B : Type 0) (end : Option E) → is_some end ≡ false → A → MatchOption end A (λ why. B)
where_open A B (Some e) is a = absurd cc
where_open A B None is a = a

-- what a connection has brought that had not ended: it has read, all its messages were heard, and it has ended where it was lost
pub brings_here : {N R W : Type 0} {On : N → NodeEvent → Traffic → Result (Unit {0}) NodeError → N → Type 0} {remaining : R → Option (List ℕ)}
    (locals : List LocalNode) (most : ℕ) (moment : Moment) (place : ℕ) (seen here link next : Link R W) (old mid heard new : Desk N R W)
    (all left messages : List Message) (outcome : Result (Unit {0}) Loss) → HeardSo On locals moment place mid all left heard → length left ≡ 0
    → all ≡ messages → seen ≡ link → here ≡ link → is_some seen.end ≡ false → length messages ≤ most
    → Reads remaining messages outcome here next → account_of mid ≡ account_of old → mid.links.items ≡ slice_set old.links.items place next
    → EndsIfLost outcome moment place heard new → BringsHere On remaining locals most moment place link old new
brings_here {N} {R} {W} {On} {remaining} locals most moment place seen here link next old mid heard new all left messages outcome hears none is same also stands few reads account links ends =
    where_open (Brings On remaining locals most moment place link old new) (IsStill old new) link.end
    (subst (λ (l : Link R W). is_some l.end ≡ false) same stands)
    (record {
      messages = messages;
      few = few;
      outcome = outcome;
      mid = mid;
      heard = heard;
      reads = becomes_at (Reads remaining messages outcome) here link next place old mid also reads account links;
      hears = subst (λ (ms : List Message). HearsAll On locals moment place mid ms heard) is (all_heard locals moment place mid heard all left hears none);
      ends = ends;
    })
