-- The cases of a relay, at the table of pending requests as its calls leave it.
use Rattle.std.proofs.Common.{◌≡◌, ℕ, List, [], ◌∷◌, Option, Some, None, Result, Ok, Err, IfOk, IfSome, Bool, true, false, MatchBool, ap, sym, subst, ◌∙◌}
use Rattle.dia_base.specs.declared.number.ConnId.{ConnId}
use Rattle.dia_message.specs.declared.message.Message.{Message}
use Rattle.dia_message.specs.Traffic.{Traffic}
use Rattle.cc_view.specs.declared.refusal.Refusal.{Refusal}
use Rattle.relay_hops.specs.declared.row.Held.{Held}
use Rattle.relay_hops.specs.declared.row.Origin.{Origin}
use Rattle.relay_hops.specs.PendingTable.{PendingTable, held_at, under, IsWith}
use Rattle.relay_core.specs.declared.node.RelayNode.{RelayNode}
use Rattle.relay_core.specs.RelayState.{RelayState}
use Rattle.relay_core.specs.Forwarding.{with_record}
use Rattle.relay_core.specs.RelayStep.{OnRequest, refused, forwarded, refusal_to, OnAnswer, sent_back, dropped, ignored, held_for, row_of}
use Rattle.relay_core.specs.Verdict.{decision}

-- ---- facts of outcomes

pub if_ok : {T E : Type 0} (r : Result T E) (P Q : T → Type 0) → ((x : T) → P x → Q x) → IfOk r P → IfOk r Q
if_ok (Ok x) P Q f p = f x p
if_ok (Err e) P Q f p = p

pub at_some : {X : Type 0} (o : Option X) (x : X) (P : X → Type 0) → o ≡ Some x → IfSome o P → P x
at_some None x P e p = absurd cc
at_some (Some y) x P e p = let same : y ≡ x = cc in subst P same p

pub to_some : {X : Type 0} (o : Option X) (x : X) (P : X → Type 0) → o ≡ Some x → P x → IfSome o P
to_some None x P e p = absurd cc
to_some (Some y) x P e p = let same : x ≡ y = cc in subst P same p

pub if_some : {X : Type 0} (o : Option X) (P Q : X → Type 0) → ((x : X) → P x → Q x) → IfSome o P → IfSome o Q
if_some None P Q f p = p
if_some (Some x) P Q f p = f x p

pub at_true : (b : Bool) (P Q : Type 0) → b ≡ true → P → MatchBool b P Q
at_true true P Q e p = p
at_true false P Q e p = absurd cc

pub at_false : (b : Bool) (P Q : Type 0) → b ≡ false → Q → MatchBool b P Q
at_false true P Q e q = absurd cc
at_false false P Q e q = q

-- ---- a message came

-- a table with the same limit is the old one with other rows and another count
pub same_limit : (old new : PendingTable) → new.limit ≡ old.limit → record old { rows = new.rows; next = new.next } ≡ new
same_limit old new e = ap (λ (n : ℕ). record { limit = n; rows = new.rows; next = new.next }) (sym e)

-- with the same count too it is the old one with other rows
pub same_but_rows : (old new : PendingTable) → new.limit ≡ old.limit → new.next ≡ old.next → record old { rows = new.rows } ≡ new
same_but_rows old new e f =
    let limits : record old { rows = new.rows } ≡ record new { next = old.next } = ap (λ (n : ℕ). with_both n old.next) (sym e) in
    limits ∙ ap (λ (n : ℕ). with_both new.limit n) (sym f)
  where
    with_both : ℕ → ℕ → PendingTable
    with_both limit next = record { limit = limit; rows = new.rows; next = next }

abbrev pub state : RelayNode → PendingTable → RelayState
state node pending = record { node = node; pending = pending }

pub request_forwarded : (node : RelayNode) (old new : PendingTable) (conn : ConnId) (sender : List ℕ) (request : Message) (to : ConnId) (hop : ℕ) (sent : Traffic)
    → decision (state node old) sender request ≡ Ok to → held_at old.rows to hop ≡ None
    → IsWith (row_of to (held_for conn request (under hop (with_record sender request)))) old.rows new.rows → new.limit ≡ old.limit
    → sent ≡ (to, under hop (with_record sender request)) ∷ []
    → OnRequest (state node old) conn sender request sent (state node new)
request_forwarded node old new conn sender request to hop sent way free more limit is =
    subst (λ (t : PendingTable). OnRequest (state node old) conn sender request sent (state node t)) (same_limit old new limit)
    (subst (λ (s : Traffic). OnRequest (state node old) conn sender request s (state node (record old { rows = new.rows; next = new.next }))) (sym is)
    (forwarded to hop new.rows new.next way free more))

pub request_refused : (node : RelayNode) (old : PendingTable) (conn : ConnId) (sender : List ℕ) (request : Message) (refusal : Refusal) (sent : Traffic)
    → decision (state node old) sender request ≡ Err refusal → sent ≡ refusal_to node conn request refusal
    → OnRequest (state node old) conn sender request sent (state node old)
request_refused node old conn sender request refusal sent way is =
    subst (λ (s : Traffic). OnRequest (state node old) conn sender request s (state node old)) (sym is) (refused refusal way)

pub answer_sent_back : (node : RelayNode) (old new : PendingTable) (conn : ConnId) (answer : Message) (held : Held) (origin : Origin) (sent : Traffic)
    → held_at old.rows conn answer.header.hop ≡ Some held → held.origin ≡ Some origin → IsWith (row_of conn held) new.rows old.rows → new.limit ≡ old.limit → new.next ≡ old.next
    → sent ≡ (origin.conn, under origin.hop answer) ∷ []
    → OnAnswer (state node old) conn answer sent (state node new)
answer_sent_back node old new conn answer held origin sent at_hop from less limit next is =
    subst (λ (t : PendingTable). OnAnswer (state node old) conn answer sent (state node t)) (same_but_rows old new limit next)
    (subst (λ (s : Traffic). OnAnswer (state node old) conn answer s (state node (record old { rows = new.rows }))) (sym is)
    (sent_back held origin new.rows at_hop from less))

pub answer_dropped : (node : RelayNode) (old new : PendingTable) (conn : ConnId) (answer : Message) (held : Held) (sent : Traffic)
    → held_at old.rows conn answer.header.hop ≡ Some held → held.origin ≡ None → IsWith (row_of conn held) new.rows old.rows → new.limit ≡ old.limit → new.next ≡ old.next → sent ≡ []
    → OnAnswer (state node old) conn answer sent (state node new)
answer_dropped node old new conn answer held sent at_hop from less limit next is =
    subst (λ (t : PendingTable). OnAnswer (state node old) conn answer sent (state node t)) (same_but_rows old new limit next)
    (subst (λ (s : Traffic). OnAnswer (state node old) conn answer s (state node (record old { rows = new.rows }))) (sym is)
    (dropped held new.rows at_hop from less))

pub answer_ignored : (node : RelayNode) (old new : PendingTable) (conn : ConnId) (answer : Message) (sent : Traffic)
    → held_at old.rows conn answer.header.hop ≡ None → new ≡ old → sent ≡ []
    → OnAnswer (state node old) conn answer sent (state node new)
answer_ignored node old new conn answer sent none same is =
    subst (λ (t : PendingTable). OnAnswer (state node old) conn answer sent (state node t)) (sym same)
    (subst (λ (s : Traffic). OnAnswer (state node old) conn answer s (state node old)) (sym is)
    (ignored none))
