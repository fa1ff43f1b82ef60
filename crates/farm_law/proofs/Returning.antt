-- What is kept where an answer comes back to a relay: nothing else goes on from the request that it answers.
use Rattle.std.proofs.Common.{◌≡◌, ℕ, ◌≤◌, Bool, true, false, List, inl, inr, Option, Some, refl, arith, sym, subst, ap, ◌∙◌}
use Rattle.std.specs.List.{count_by}
use Rattle.dia_base.specs.declared.number.ConnId.{ConnId}
use Rattle.dia_base.specs.declared.number.NodeNo.{NodeNo}
use Rattle.dia_base.proofs.Counting.{one}
use Rattle.dia_message.specs.Traffic.{Traffic}
use Rattle.cc_book.specs.Taking.{Ledger}
use Rattle.relay_hops.specs.PendingTable.{under}
use Rattle.farm_law.specs.Answers.{Answers}
use Rattle.farm_law.specs.Counts.{Class, with_hop, with_both, item_in, asker_in, held_in, row_in, open_in}
use Rattle.farm_law.specs.Farm.{Item, Asker, PendingRow, Refused, waiting_node}
use Rattle.farm_law.specs.Invariant.{Asks, Fits, IsSound, IsAsked, ComesFrom, Keeps}
use Rattle.farm_law.specs.Lists.{Has, Without}
use Rattle.farm_law.specs.Parties.{Parties}
use Rattle.farm_law.proofs.Lists.{count-without, count-has, Has-without, Has-more, Has-split, all-in}
use Rattle.farm_law.proofs.Premises.{Premises}
use Rattle.farm_law.proofs.Weighing.{clash, waiting_answer, weight_answer, weight_any, weight_most, with_hop-at}
use Rattle.farm_law.proofs.Answering.{identifiers, Fits-hop}
use Rattle.farm_law.proofs.Asking.{Asks-less, IsAsked-map}
use Rattle.farm_law.proofs.Relaying.{to_asker}

-- what is known of an answer under the identifier of a row
record Matches (p : Parties) (has_ended : NodeNo → ConnId → Bool) (rest : List Item) (rows left : List PendingRow) (book : Ledger)
    (refused : List Refused) (sent : Traffic) (item : Item) (row : PendingRow) : Type 0 where
  pub answers : Answers p book refused item.from item.conn row.request item.message
  pub weighs : (class : Class) → item_in p class item ≡ row_in class row
  pub sound : (other : Item) → Has other rest → IsSound p has_ended left book refused sent other
  pub asked : (other : PendingRow) → Has other rows → IsAsked p has_ended left sent other.request other.asker

module _ (p : Parties) {has_ended : NodeNo → ConnId → Bool} {items rest : List Item} {rows left : List PendingRow} {book : Ledger}
    {refused : List Refused} {sent received : Traffic} {item : Item} {row : PendingRow}
    (wo : Without item items rest) (flag : item.message.header.request ≡ false) (server : p.is_client item.from ≡ false)
    (live : has_ended item.to item.conn ≡ false)
    (wr : Without row rows left) (at_conn : row.conn ≡ item.conn) (at_relay : row.relay ≡ item.to) (at_hop : row.request.header.hop ≡ item.message.header.hop)
    (v : Keeps p has_ended items rows book refused sent received) where
  matched : Matches p has_ended rest rows left book refused sent item row
  matched = record { answers = answers; weighs = weighs; sound = sound; asked = asked }
    where
      relay : p.is_client row.relay ≡ false
      relay = v.askers row (Has-without wr)

      class_of : Class
      class_of = with_hop row.conn row.relay row.request.header.hop

      own : row_in class_of row ≡ true
      own = with_hop-at row.conn row.relay row.request.header.hop row.request.header.end refl refl refl

      -- it is the one row under its identifier
      alone : count_by (row_in class_of) left ≡ 0
      alone = let a = v.single row.conn row.relay row.request.header.hop in let b = count-without (row_in class_of) wr in let c = ap one own in omega arith

      found : (z : PendingRow) × Has z rows × (z.conn ≡ item.conn) × (z.relay ≡ waiting_node item)
          × Fits p book refused item.from item.conn item.message z.request
      found = (v.sound item (Has-without wo) (inr server)).relay (ap p.is_client (waiting_answer item flag ∙ sym at_relay) ∙ relay)
          (ap (λ (n : NodeNo). has_ended n item.conn) (waiting_answer item flag) ∙ live)

      found_is : found.0 ≡ row
      found_is = elim (Has-split wr found.1) [
        | inl e ↦ e
        | inr g ↦
            let t : row_in class_of found.0 ≡ true = with_hop-at row.conn row.relay row.request.header.hop found.0.request.header.end
            (found.2 ∙ sym at_conn) (found.3 ∙ waiting_answer item flag ∙ sym at_relay)
            (Fits-hop p book refused item.from item.conn item.message found.0.request found.4 ∙ sym at_hop) in
            let a = count-has (row_in class_of) g t in let b = alone in
            absurd (omega arith)
      ]

      answers : Answers p book refused item.from item.conn row.request item.message
      answers = subst (λ (z : PendingRow). Answers p book refused item.from item.conn z.request item.message) found_is ((found.4).answer flag)

      weighs : (class : Class) → item_in p class item ≡ row_in class row
      weighs class =
          weight_answer p class item flag server
          ∙ ap (λ (c : ConnId). class c item.to item.message.header.hop item.message.header.end) (sym at_conn)
          ∙ ap (λ (n : NodeNo). class row.conn n item.message.header.hop item.message.header.end) (sym at_relay)
          ∙ ap (λ (h : ℕ). class row.conn row.relay h item.message.header.end) (sym at_hop)
          ∙ ap (λ (d : ℕ). class row.conn row.relay row.request.header.hop d) (identifiers answers).end

      bound : open_in p class_of items rows ≤ count_by (row_in class_of) rows
      bound = v.relays row.conn row.relay row.request.header.hop relay
          (ap (λ (n : NodeNo). has_ended n row.conn) at_relay ∙ ap (λ (c : ConnId). has_ended item.to c) at_conn ∙ live)

      no_rest : count_by (item_in p class_of) rest ≡ 0
      no_rest =
          let a = count-without (item_in p class_of) wo in let b = count-without (row_in class_of) wr in
          let c = ap one (weighs class_of) in let d = ap one own in
          let f = bound in let g = alone in omega arith

      no_held : count_by (held_in class_of) rows ≡ 0
      no_held =
          let a = count-without (item_in p class_of) wo in let b = count-without (row_in class_of) wr in
          let c = ap one (weighs class_of) in let d = ap one own in
          let f = bound in let g = alone in omega arith

      sound : (other : Item) → Has other rest → IsSound p has_ended left book refused sent other
      sound other h q = Asks-less p wr (λ _ u w f.
          let t : item_in p class_of other ≡ true = weight_any p class_of other q
          ∙ with_hop-at row.conn row.relay row.request.header.hop other.message.header.end (sym u) (sym w)
          (sym (Fits-hop p book refused other.from other.conn other.message row.request f)) in
          let a = count-has (item_in p class_of) h t in let b = no_rest in
          absurd (omega arith)) (v.sound other (Has-more wo h) q)

      asked : (other : PendingRow) → Has other rows → IsAsked p has_ended left sent other.request other.asker
      asked other h = IsAsked-map p other.asker (λ asker at a. Asks-less p wr (λ _ u w s.
          let t : held_in class_of other ≡ true = ap (λ (o : Option Asker). asker_in class_of o other.request.header.end) at
          ∙ with_hop-at row.conn row.relay row.request.header.hop other.request.header.end (sym u) (sym w) (sym s.hop) in
          let b = count-has (held_in class_of) h t in let c = no_held in
          absurd (omega arith)) a) (v.asked other h)

  pub keep_forgets : Keeps p has_ended rest left book refused sent received
  keep_forgets = let m = matched in record {
    clients = λ c h d k.
        let a = count-without (item_in p (with_both c (p.client_on c) h d)) wo in let b = count-without (held_in (with_both c (p.client_on c) h d)) wr in
        let u = v.clients c h d k in omega arith;
    relays = λ c node h k still.
        let a = count-without (item_in p (with_hop c node h)) wo in let b = count-without (held_in (with_hop c node h)) wr in
        let g = count-without (row_in (with_hop c node h)) wr in
        let s = ap one (m.weighs (with_hop c node h)) in
        let u = v.relays c node h k still in omega arith;
    single = λ c node h. let g = count-without (row_in (with_hop c node h)) wr in let u = v.single c node h in omega arith;
    sound = m.sound;
    asked = λ z h. m.asked z (Has-more wr h);
    owed = v.owed;
    to_servers = λ y h. v.to_servers y (Has-more wo h);
    askers = λ z h. v.askers z (Has-more wr h);
    requests = λ z h. v.requests z (Has-more wr h);
    items_come = λ y h. v.items_come y (Has-more wo h);
    rows_come = λ z h. v.rows_come z (Has-more wr h);
    taken = v.taken;
    legal = v.legal;
    within = v.within;
  }

  pub keep_returns : (l : Premises) (asker : Asker) (next : List Item) → p.is_relay item.to ≡ true → p.is_linked item.to item.from ≡ true →
      row.asker ≡ Some asker →
      Without (record { conn = asker.conn; from = item.to; to = asker.node; message = under asker.hop item.message }) next rest →
      Keeps p has_ended next left book refused sent received
  keep_returns l asker next is_relay linked at wi = let m = matched in record {
    clients = λ c h d k.
        let a = count-without (item_in p (with_both c (p.client_on c) h d)) wo in let b = count-without (held_in (with_both c (p.client_on c) h d)) wr in
        let f = count-without (item_in p (with_both c (p.client_on c) h d)) wi in let n = less m.answers (with_both c (p.client_on c) h d) in
        let u = v.clients c h d k in omega arith;
    relays = λ c node h k still.
        let a = count-without (item_in p (with_hop c node h)) wo in let b = count-without (held_in (with_hop c node h)) wr in
        let g = count-without (row_in (with_hop c node h)) wr in
        let f = count-without (item_in p (with_hop c node h)) wi in let n = less m.answers (with_hop c node h) in
        let s = ap one (m.weighs (with_hop c node h)) in
        let u = v.relays c node h k still in omega arith;
    single = λ c node h. let g = count-without (row_in (with_hop c node h)) wr in let u = v.single c node h in omega arith;
    sound = all-in (IsSound p has_ended left book refused sent) wi m.sound
        (λ _. subst (λ (n : NodeNo). Asks p has_ended left sent asker.conn n (Fits p book refused item.to asker.conn other.message))
        (sym (waiting_answer other flag)) (to_asker l p is_relay (inl linked) flag m.answers
        (subst (λ (o : Option Asker). IsAsked p has_ended left sent row.request o) at (m.asked row (Has-without wr)))));
    asked = λ z h. m.asked z (Has-more wr h);
    owed = v.owed;
    to_servers = all-in (λ (y : Item). y.message.header.request ≡ true → p.is_client y.to ≡ false) wi
        (λ y h. v.to_servers y (Has-more wo h)) (λ f. absurd (clash f flag));
    askers = λ z h. v.askers z (Has-more wr h);
    requests = λ z h. v.requests z (Has-more wr h);
    items_come = all-in (λ (y : Item). y.message.header.request ≡ true → ComesFrom sent y.message) wi
        (λ y h. v.items_come y (Has-more wo h)) (λ f. absurd (clash f flag));
    rows_come = λ z h. v.rows_come z (Has-more wr h);
    taken = v.taken;
    legal = v.legal;
    within = v.within;
  }
    where
      other : Item
      other = record { conn = asker.conn; from = item.to; to = asker.node; message = under asker.hop item.message }

      less : Answers p book refused item.from item.conn row.request item.message → (class : Class) → one (item_in p class other) ≤ one (held_in class row)
      less a class =
          let m = weight_most p class other in
          let b : class asker.conn (waiting_node other) asker.hop item.message.header.end ≡ held_in class row =
          ap (λ (n : NodeNo). class asker.conn n asker.hop item.message.header.end) (waiting_answer other flag)
          ∙ ap (λ (d : ℕ). class asker.conn asker.node asker.hop d) (identifiers a).end
          ∙ sym (ap (λ (o : Option Asker). asker_in class o row.request.header.end) at) in
          let c = ap one b in omega arith
