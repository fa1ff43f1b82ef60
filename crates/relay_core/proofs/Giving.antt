-- What becomes of identifiers at the events of a relay.
use Rattle.std.proofs.Common.{◌≡◌, ℕ, ◌&&◌, ◌||◌, ◌==◌, Bool, true, false, cond, List, [], ◌∷◌, ◌++◌, map, Option, Some, option_map, is_some, refl, ap, sym, subst, ◌∙◌, inl, inr}
use Rattle.std.specs.List.{find, list_any}
use Rattle.std.proofs.lemmas.Bool.{eq-eqb, eqb-true, or_cases}
use Rattle.std.proofs.lemmas.List.Folds.{list_any-append}
use Rattle.dia_base.specs.declared.number.ConnId.{ConnId}
use Rattle.dia_message.specs.declared.message.Message.{Message}
use Rattle.dia_message.specs.Traffic.{Traffic}
use Rattle.cc_view.specs.declared.refusal.Refusal.{Refusal}
use Rattle.cc_view.specs.Answer.{refusal_of}
use Rattle.relay_hops.specs.declared.row.Held.{Held}
use Rattle.relay_hops.specs.declared.row.Row.{Row}
use Rattle.relay_hops.specs.PendingTable.{PendingTable, hop_of, is_sent_on, has_key, held_at, IsWith, IsMoved, under, orphaned}
use Rattle.relay_core.specs.declared.node.RelayNode.{RelayNode}
use Rattle.relay_core.specs.RelayState.{RelayState}
use Rattle.relay_core.specs.RelayStep.{OnAnswer, sent_back, dropped, ignored, refusal_to, row_of}
use Rattle.relay_core.specs.Giving.{request_hops, has_hop, GivesNone, SendsAgain, GivesOne, none_given}
use Rattle.relay_core.proofs.Promising.{refusal-flag}

-- ---- rows with an identifier

or_right : (b c : Bool) → c ≡ true → (b || c) ≡ true
or_right true c e = refl
or_right false c e = e

or_left : (b c : Bool) → b ≡ true → (b || c) ≡ true
or_left true c e = refl
or_left false c e = absurd cc

test : ℕ → Row → Bool
test hop row = hop_of row == hop

has-with : (row : Row) (others rows : List Row) (hop : ℕ) → IsWith row others rows → has_hop others hop ≡ true → has_hop rows hop ≡ true
unfolding test
has-with row others rows hop w e =
    ap (list_any (test hop)) w.whole ∙ list_any-append (test hop) w.before (row ∷ w.after)
    ∙ elim (or_cases (list_any (test hop) w.before) (list_any (test hop) w.after) (sym (list_any-append (test hop) w.before w.after) ∙ ap (list_any (test hop)) (sym w.without) ∙ e)) [
      | inl before ↦ or_left (list_any (test hop) w.before) _ before
      | inr after ↦ or_right (list_any (test hop) w.before) _ (or_right (hop_of row == hop) _ after)
    ]

has-own : (row : Row) (others rows : List Row) → IsWith row others rows → has_hop rows (hop_of row) ≡ true
unfolding test
has-own row others rows w =
    ap (list_any (test (hop_of row))) w.whole ∙ list_any-append (test (hop_of row)) w.before (row ∷ w.after)
    ∙ or_right (list_any (test (hop_of row)) w.before) _ (or_left (hop_of row == hop_of row) _ (eq-eqb (hop_of row) (hop_of row) refl))

-- a row with the identifier is the one that is added, or was there
has-split : (row : Row) (others rows : List Row) (hop : ℕ) → IsWith row others rows → has_hop rows hop ≡ true → (b : Bool) → (hop_of row == hop) ≡ b → (b ≡ false → has_hop others hop ≡ true)
unfolding test
has-split row others rows hop w e b is no_row =
    let parts = sym (ap (list_any (test hop)) w.whole ∙ list_any-append (test hop) w.before (row ∷ w.after)) ∙ e in
    ap (list_any (test hop)) w.without ∙ list_any-append (test hop) w.before w.after
    ∙ elim (or_cases (list_any (test hop) w.before) (list_any (test hop) (row ∷ w.after)) parts) [
      | inl before ↦ or_left (list_any (test hop) w.before) _ before
      | inr after ↦ or_right (list_any (test hop) w.before) _ (elim (or_cases (hop_of row == hop) (list_any (test hop) w.after) after) [
        | inl own ↦ absurd (let both : true ≡ false = sym own ∙ is ∙ no_row in cc)
        | inr later ↦ later
      ])
    ]

pub has-moved : (row other : Row) (old new : List Row) (hop : ℕ) → IsMoved row other old new → hop_of other ≡ hop_of row → has_hop new hop ≡ true → has_hop old hop ≡ true
has-moved row other old new hop m same e = by_test (hop_of other == hop) refl
  where
    by_test : (b : Bool) → (hop_of other == hop) ≡ b → has_hop old hop ≡ true
    by_test true is = let own = has-own row m.rest old m.was in subst (λ (n : ℕ). has_hop old n ≡ true) (sym same ∙ eqb-true (hop_of other) hop is) own
    by_test false is = has-with row m.rest old hop m.was (has-split other m.rest new hop m.is e false is refl)

has-orphaned : (conn : ConnId) (rows : List Row) (hop : ℕ) → has_hop (map (orphaned conn) rows) hop ≡ has_hop rows hop
has-orphaned conn [] hop = refl
has-orphaned conn (row ∷ rows) hop = ap (λ b. (hop_of row == hop) || b) (has-orphaned conn rows hop)

found_front : (sent same any : Bool) (row : Row) (rest : Option Row) → is_some (option_map (λ (r : Row). r.held) (cond (sent && same) (Some row) rest)) ≡ true
    → (is_some (option_map (λ (r : Row). r.held) rest) ≡ true → any ≡ true) → (same || any) ≡ true
found_front true true any row rest e f = refl
found_front true false any row rest e f = f e
found_front false true any row rest e f = refl
found_front false false any row rest e f = f e

has-found : (rows : List Row) (conn : ConnId) (hop : ℕ) → is_some (held_at rows conn hop) ≡ true → has_hop rows hop ≡ true
has-found [] conn hop e = absurd cc
has-found (row ∷ rows) conn hop e = found_front (is_sent_on conn row) (hop_of row == hop) (has_hop rows hop) row (find (has_key conn hop) rows) e (has-found rows conn hop)

pub has-held : (rows : List Row) (conn : ConnId) (hop : ℕ) (held : Held) → held_at rows conn hop ≡ Some held → has_hop rows hop ≡ true
has-held rows conn hop held e = has-found rows conn hop (ap is_some e)

-- ---- tables

pub none-same : (old new : PendingTable) → new ≡ old → GivesNone old new
none-same old new e = subst (λ table. GivesNone old table) (sym e) (record { next = refl; limit = refl; kept = λ hop has. has })

pub none-then : (first second third : PendingTable) → GivesNone first second → GivesNone second third → GivesNone first third
none-then first second third a b = record { next = b.next ∙ a.next; limit = b.limit ∙ a.limit; kept = λ hop has. a.kept hop (b.kept hop has) }

pub none-less : (old new : PendingTable) (row : Row) → IsWith row new.rows old.rows → new.next ≡ old.next → new.limit ≡ old.limit → GivesNone old new
none-less old new row w next limit = record { next = next; limit = limit; kept = λ hop has. has-with row new.rows old.rows hop w has }

pub none-moved : (old new : PendingTable) (row other : Row) → IsMoved row other old.rows new.rows → hop_of other ≡ hop_of row → new.next ≡ old.next → new.limit ≡ old.limit → GivesNone old new
none-moved old new row other m same next limit = record { next = next; limit = limit; kept = λ hop has. has-moved row other old.rows new.rows hop m same has }

pub none-orphaned : (old new : PendingTable) (conn : ConnId) → new ≡ record old { rows = map (orphaned conn) old.rows } → GivesNone old new
none-orphaned old new conn e = subst (λ table. GivesNone old table) (sym e) (record { next = refl; limit = refl; kept = λ hop has. sym (has-orphaned conn old.rows hop) ∙ has })

-- ---- messages

hops-append : (sent more : Traffic) → request_hops (sent ++ more) ≡ request_hops sent ++ request_hops more
hops-append [] more = refl
hops-append (item ∷ items) more = front item.1.header.request (hops-append items more)
  where
    front : (b : Bool) → request_hops (items ++ more) ≡ request_hops items ++ request_hops more
        → cond b (item.1.header.hop ∷ request_hops (items ++ more)) (request_hops (items ++ more)) ≡ cond b (item.1.header.hop ∷ request_hops items) (request_hops items) ++ request_hops more
    front true e = ap (λ (hops : List ℕ). item.1.header.hop ∷ hops) e
    front false e = e

pub again-none : (old new : PendingTable) (sent : Traffic) → sent ≡ [] → GivesNone old new → SendsAgain old sent new
again-none old new sent e none = subst (λ s. SendsAgain old s new) (sym e) (record { none = none; same = λ hop h. absurd cc })

pub again-then : (first second third : PendingTable) (sent more all : Traffic) → SendsAgain first sent second → SendsAgain second more third → all ≡ sent ++ more → SendsAgain first all third
again-then first second third sent more all a b e = subst (λ s. SendsAgain first s third) (sym e) (record {
  none = none-then first second third a.none b.none;
  same = λ hop h. elim (or_cases (list_any (λ x. x == hop) (request_hops sent)) (list_any (λ x. x == hop) (request_hops more))
      (sym (list_any-append (λ x. x == hop) (request_hops sent) (request_hops more)) ∙ ap (list_any (λ x. x == hop)) (sym (hops-append sent more)) ∙ h)) [
        | inl before ↦ a.same hop before
        | inr after ↦ a.none.kept hop (b.same hop after)
      ];
})

pub again-behind : (first second third : PendingTable) (sent : Traffic) → GivesNone first second → SendsAgain second sent third → SendsAgain first sent third
again-behind first second third sent a b = record { none = none-then first second third a b.none; same = λ hop h. a.kept hop (b.same hop h) }

answer-hops : (to : ConnId) (message : Message) → message.header.request ≡ false → request_hops ((to, message) ∷ []) ≡ []
answer-hops to message e = ap (λ b. cond b (message.header.hop ∷ []) []) e

pub again-answer : (old new : PendingTable) (to : ConnId) (message : Message) → message.header.request ≡ false → GivesNone old new → SendsAgain old ((to, message) ∷ []) new
again-answer old new to message e none = record { none = none; same = λ hop h. absurd (let both : false ≡ true = sym (ap (list_any (λ x. x == hop)) (answer-hops to message e)) ∙ h in cc) }

-- what goes out again under the identifier of a row
pub again-sent : (old new : PendingTable) (to : ConnId) (message : Message) → has_hop old.rows message.header.hop ≡ true → GivesNone old new → SendsAgain old ((to, message) ∷ []) new
again-sent old new to message has none = record { none = none; same = λ hop h. at_flag message.header.request hop h }
  where
    at_flag : (b : Bool) (hop : ℕ) → list_any (λ x. x == hop) (cond b (message.header.hop ∷ []) []) ≡ true → has_hop old.rows hop ≡ true
    at_flag true hop h = elim (or_cases (message.header.hop == hop) false h) [
      | inl own ↦ subst (λ (n : ℕ). has_hop old.rows n ≡ true) (eqb-true message.header.hop hop own) has
      | inr none ↦ absurd cc
    ]
    at_flag false hop h = absurd cc

-- ---- one message comes

pub one-nothing : (old new : PendingTable) (sent : Traffic) → sent ≡ [] → new ≡ old → GivesOne old sent new
one-nothing old new sent e same = none_given sent new (ap request_hops e) (none-same old new same)

pub one-refused : (node : RelayNode) (conn : ConnId) (request : Message) (refusal : Refusal) (old new : PendingTable) (sent : Traffic) → sent ≡ refusal_to node conn request refusal → new ≡ old → GivesOne old sent new
one-refused node conn request refusal old new sent e same =
    none_given sent new (ap request_hops e ∙ answer-hops conn (refusal_of node.name node.realm request refusal) (refusal-flag node.name node.realm request refusal)) (none-same old new same)

pub one-answered : {relay : RelayState} {conn : ConnId} {answer : Message} {sent : Traffic} {next : RelayState} → OnAnswer relay conn answer sent next → answer.header.request ≡ false → GivesOne relay.pending sent next.pending
one-answered {relay = relay} {conn = conn} {answer = answer} (sent_back held origin rows e f w) flag =
    none_given _ _ (answer-hops origin.conn (under origin.hop answer) flag) (none-less relay.pending _ (row_of conn held) w refl refl)
one-answered {relay = relay} {conn = conn} (dropped held rows e f w) flag = none_given _ _ refl (none-less relay.pending _ (row_of conn held) w refl refl)
one-answered {relay = relay} (ignored e) flag = none_given _ _ refl (none-same relay.pending relay.pending refl)
