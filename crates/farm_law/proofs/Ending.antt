-- What is kept where connections have ended: askers are lost, and what relays have sent there is dropped, sent again or refused.
use Rattle.std.proofs.Common.{◌≡◌, ℕ, ◌≤◌, Bool, true, false, List, inl, inr, Option, Some, None, refl, arith, sym, subst, ap, ◌∙◌}
use Rattle.std.specs.List.{count_by}
use Rattle.dia_base.specs.declared.number.ConnId.{ConnId}
use Rattle.dia_base.specs.declared.number.NodeNo.{NodeNo}
use Rattle.dia_base.proofs.Counting.{one, count-cons}
use Rattle.dia_message.specs.declared.message.Message.{Message}
use Rattle.dia_message.specs.Traffic.{Traffic}
use Rattle.cc_book.specs.Taking.{Ledger}
use Rattle.relay_core.specs.Forwarding.{sent_again}
use Rattle.relay_hops.specs.PendingTable.{under, again}
use Rattle.farm_law.specs.Answers.{Answers}
use Rattle.farm_law.specs.Counts.{Class, with_hop, with_both, item_in, asker_in, held_in, row_in}
use Rattle.farm_law.specs.Farm.{Item, Asker, PendingRow, Refused, waiting_node}
use Rattle.farm_law.specs.Invariant.{Asks, Fits, IsSound, IsAsked, HasDescended, ComesFrom, on_its_way, Keeps}
use Rattle.farm_law.specs.Lists.{Has, here, there, Without, Left}
use Rattle.farm_law.specs.Moves.{Orphaned, none, as_it_was, orphan, row_again}
use Rattle.farm_law.specs.Parties.{Parties}
use Rattle.farm_law.proofs.Lists.{count-without, count-left, count-left_same, Has-without, Has-more, Has-split, Has-left, Has-stays, all-in}
use Rattle.farm_law.proofs.Premises.{Premises}
use Rattle.farm_law.proofs.Weighing.{clash, waiting_request, waiting_answer, weight_request, weight_most, other_node, other_conn, single-more}
use Rattle.farm_law.proofs.Answering.{HasIdentifiers, Fits-self}
use Rattle.farm_law.proofs.Asking.{Asks-map, Asks-grows, Asks-rows, IsAsked-map}
use Rattle.farm_law.proofs.Relaying.{to_asker}

-- ---- rows that have lost their askers

count-orphaned : (class : Class) {old new : List PendingRow} → Orphaned old new → count_by (row_in class) new ≡ count_by (row_in class) old
count-orphaned class none = refl
count-orphaned class (as_it_was {row = row} {old = old} {new = new} h) = let e = count-orphaned class h in
    omega (arith, count-cons (row_in class) row old, count-cons (row_in class) row new)
count-orphaned class (orphan {row = row} {old = old} {new = new} h) = let e = count-orphaned class h in
    omega (arith, count-cons (row_in class) row old, count-cons (row_in class) (record row { asker = None }) new)

held-orphaned : (class : Class) {old new : List PendingRow} → Orphaned old new → count_by (held_in class) new ≤ count_by (held_in class) old
held-orphaned class none = omega arith
held-orphaned class (as_it_was {row = row} {old = old} {new = new} h) = let e = held-orphaned class h in
    omega (arith, count-cons (held_in class) row old, count-cons (held_in class) row new)
held-orphaned class (orphan {row = row} {old = old} {new = new} h) = let e = held-orphaned class h in
    omega (arith, count-cons (held_in class) row old, count-cons (held_in class) (record row { asker = None }) new)

-- each row is still there, with or without its asker
Has-orphaned : {old new : List PendingRow} {row : PendingRow} → Orphaned old new → Has row old →
    (next : PendingRow) × Has next new × (next.conn ≡ row.conn) × (next.relay ≡ row.relay) × (next.request ≡ row.request)
Has-orphaned none h = elim h [ ]
Has-orphaned {row = row} (as_it_was o) here = (row, here, refl, refl, refl)
Has-orphaned (as_it_was o) (there h) = let t = Has-orphaned o h in (t.0, there t.1, t.2, t.3, t.4)
Has-orphaned {row = row} (orphan o) here = (record row { asker = None }, here, refl, refl, refl)
Has-orphaned (orphan o) (there h) = let t = Has-orphaned o h in (t.0, there t.1, t.2, t.3, t.4)

all-orphaned : (P : PendingRow → Type 0) {old new : List PendingRow} → Orphaned old new →
    ((row : PendingRow) → P row → P (record row { asker = None })) → ((row : PendingRow) → Has row old → P row) →
    (row : PendingRow) → Has row new → P row
all-orphaned P none f all row h = elim h [ ]
all-orphaned P (as_it_was o) f all row here = all row here
all-orphaned P (as_it_was o) f all row (there h) = all-orphaned P o f (λ z g. all z (there g)) row h
all-orphaned P (orphan {row = was} o) f all row here = f was (all was here)
all-orphaned P (orphan o) f all row (there h) = all-orphaned P o f (λ z g. all z (there g)) row h

module _ (p : Parties) {has_ended : NodeNo → ConnId → Bool} {items : List Item} {rows : List PendingRow} {book : Ledger}
    {refused : List Refused} {sent received : Traffic} (v : Keeps p has_ended items rows book refused sent received) where
  pub keep_orphans : {next_rows : List PendingRow} → Orphaned rows next_rows → Keeps p has_ended items next_rows book refused sent received
  keep_orphans {next_rows} o = record {
    clients = λ conn hop end k. let a = held-orphaned (with_both conn (p.client_on conn) hop end) o in let b = v.clients conn hop end k in omega arith;
    relays = λ conn node hop k live.
        let a = held-orphaned (with_hop conn node hop) o in let b = count-orphaned (with_hop conn node hop) o in
        let c = v.relays conn node hop k live in omega arith;
    single = λ conn node hop. let b = count-orphaned (with_hop conn node hop) o in let c = v.single conn node hop in omega arith;
    sound = λ item h q. over (v.sound item h q);
    asked = all-orphaned (λ (z : PendingRow). IsAsked p has_ended next_rows sent z.request z.asker) o (λ row a. tt)
        (λ z h. IsAsked-map p z.asker (λ asker _ a. over a) (v.asked z h));
    owed = v.owed;
    to_servers = v.to_servers;
    askers = all-orphaned (λ (z : PendingRow). p.is_client z.relay ≡ false) o (λ row a. a) v.askers;
    requests = all-orphaned (λ (z : PendingRow). z.request.header.request ≡ true) o (λ row a. a) v.requests;
    items_come = v.items_come;
    rows_come = all-orphaned (λ (z : PendingRow). HasDescended sent z.request) o (λ row a. a) v.rows_come;
    taken = v.taken;
    legal = v.legal;
    within = v.within;
  }
    where
      over : {conn : ConnId} {node : NodeNo} {P : Message → Type 0} → Asks p has_ended rows sent conn node P → Asks p has_ended next_rows sent conn node P
      over {P = P} a = Asks-grows p (λ item h. h) (λ n c e. e) (λ live row h u w t.
          let z = Has-orphaned o h in (z.0, z.1, z.2 ∙ u, z.3 ∙ w, subst P (sym z.4) t)) a

  pub keep_drops : {next_rows : List PendingRow} → Left (λ (row : PendingRow). has_ended row.relay row.conn ≡ true) rows next_rows →
      Keeps p has_ended items next_rows book refused sent received
  keep_drops {next_rows} left = record {
    clients = λ conn hop end k.
        let a = count-left (held_in (with_both conn (p.client_on conn) hop end)) left in let b = v.clients conn hop end k in omega arith;
    relays = λ conn node hop k live.
        let a = count-left (held_in (with_hop conn node hop)) left in
        let b = count-left_same (row_in (with_hop conn node hop))
        (λ z gone. other_conn has_ended conn node hop z.conn z.relay z.request.header.hop z.request.header.end live gone) left in
        let c = v.relays conn node hop k live in omega arith;
    single = λ conn node hop. let a = count-left (row_in (with_hop conn node hop)) left in let b = v.single conn node hop in omega arith;
    sound = λ item h q. over (v.sound item h q);
    asked = λ z h. IsAsked-map p z.asker (λ asker _ a. over a) (v.asked z (Has-left left h));
    owed = v.owed;
    to_servers = v.to_servers;
    askers = λ z h. v.askers z (Has-left left h);
    requests = λ z h. v.requests z (Has-left left h);
    items_come = v.items_come;
    rows_come = λ z h. v.rows_come z (Has-left left h);
    taken = v.taken;
    legal = v.legal;
    within = v.within;
  }
    where
      over : {conn : ConnId} {node : NodeNo} {P : Message → Type 0} → Asks p has_ended rows sent conn node P → Asks p has_ended next_rows sent conn node P
      over {conn = conn} {node = node} a = Asks-rows p (λ live z h at of. Has-stays (λ gone.
          clash (ap (λ (m : NodeNo). has_ended m conn) (sym of) ∙ ap (λ (x : ConnId). has_ended z.relay x) (sym at) ∙ gone) live) left h) a

  -- a row of a connection that has ended is gone: no other claim rests on it
  Asks-but : {row : PendingRow} {next_rows : List PendingRow} {conn : ConnId} {node : NodeNo} {P : Message → Type 0} →
      Without row rows next_rows → has_ended row.relay row.conn ≡ true →
      Asks p has_ended rows sent conn node P → Asks p has_ended next_rows sent conn node P
  Asks-but {row = row} {conn = conn} wr gone a = Asks-rows p (λ live z h at of. elim (Has-split wr h) [
    | inl e ↦ absurd (clash (ap (λ (m : NodeNo). has_ended m conn) (sym of ∙ ap (λ (y : PendingRow). y.relay) e)
        ∙ ap (λ (x : ConnId). has_ended row.relay x) (sym at ∙ ap (λ (y : PendingRow). y.conn) e) ∙ gone) live)
    | inr g ↦ g
  ]) a

  pub keep_sends_again : {row : PendingRow} {left next_rows : List PendingRow} {next : List Item} (conn : ConnId) (peer : NodeNo) (hop : ℕ) →
      Without row rows left → has_ended row.relay row.conn ≡ true →
      p.is_client peer ≡ false → count_by (row_in (with_hop conn row.relay hop)) left ≡ 0 →
      Without (record { conn = conn; from = row.relay; to = peer; message = again hop row.request }) next items →
      Without (row_again conn hop row) next_rows left →
      Keeps p has_ended next next_rows book refused sent received
  keep_sends_again {row} {left} {next_rows} {next} conn peer hop wr gone server free wi wn = record {
    clients = λ c h d k.
        let a = count-without (held_in (with_both c (p.client_on c) h d)) wr in let b = count-without (held_in (with_both c (p.client_on c) h d)) wn in
        let g = count-without (item_in p (with_both c (p.client_on c) h d)) wi in
        let m = ap one (weight_request p (with_both c (p.client_on c) h d) other e) in
        let z = other_node p c (p.client_on c) h d conn row.relay hop row.request.header.end k relay in
        let u = v.clients c h d k in omega arith;
    relays = λ c node h k live.
        let a = count-without (held_in (with_hop c node h)) wr in let b = count-without (held_in (with_hop c node h)) wn in
        let g = count-without (row_in (with_hop c node h)) wr in let f = count-without (row_in (with_hop c node h)) wn in
        let i = count-without (item_in p (with_hop c node h)) wi in
        let m = ap one (weight_request p (with_hop c node h) other e) in
        let z = other_conn has_ended c node h row.conn row.relay row.request.header.hop row.request.header.end live gone in
        let u = v.relays c node h k live in omega arith;
    single = λ c node h.
        let g = count-without (row_in (with_hop c node h)) wr in let f = count-without (row_in (with_hop c node h)) wn in let u = v.single c node h in
        let s = single-more left c node h conn row.relay hop row.request.header.end (omega arith) free in omega arith;
    sound = all-in (IsSound p has_ended next_rows book refused sent) wi (λ y h q. over (v.sound y h q))
        (λ _. subst (λ (n : NodeNo). Asks p has_ended next_rows sent conn n (Fits p book refused row.relay conn other.message))
        (sym (waiting_request other e)) (record {
          client = λ k. absurd (clash k relay);
          relay = λ _ _. (moved, Has-without wn, refl, refl, Fits-self p book refused row.relay conn other.message e);
        }));
    asked = all-in (λ (z : PendingRow). IsAsked p has_ended next_rows sent z.request z.asker) wn
        (λ z h. IsAsked-map p z.asker (λ asker _ a. over a) (v.asked z (Has-more wr h)))
        (IsAsked-map p row.asker (λ asker _ a. over (Asks-map p
        (λ asked s. record { hop = s.hop; avps = s.avps; splits = s.splits; descends = sent_again hop s.descends }) a))
        (v.asked row (Has-without wr)));
    owed = v.owed;
    to_servers = all-in (λ (y : Item). y.message.header.request ≡ true → p.is_client y.to ≡ false) wi v.to_servers (λ _. server);
    askers = all-in (λ (z : PendingRow). p.is_client z.relay ≡ false) wn (λ z h. v.askers z (Has-more wr h)) relay;
    requests = all-in (λ (z : PendingRow). z.request.header.request ≡ true) wn (λ z h. v.requests z (Has-more wr h)) e;
    items_come = all-in (λ (y : Item). y.message.header.request ≡ true → ComesFrom sent y.message) wi v.items_come (λ _. on_its_way descended);
    rows_come = all-in (λ (z : PendingRow). HasDescended sent z.request) wn (λ z h. v.rows_come z (Has-more wr h)) descended;
    taken = v.taken;
    legal = v.legal;
    within = v.within;
  }
    where
      e : row.request.header.request ≡ true
      e = v.requests row (Has-without wr)

      relay : p.is_client row.relay ≡ false
      relay = v.askers row (Has-without wr)

      other : Item
      other = record { conn = conn; from = row.relay; to = peer; message = again hop row.request }

      moved : PendingRow
      moved = row_again conn hop row

      descended : HasDescended sent (again hop row.request)
      descended = let d = v.rows_come row (Has-without wr) in record {
        conn = d.conn;
        first = d.first;
        was_sent = d.was_sent;
        request = d.request;
        avps = d.avps;
        splits = d.splits;
        descends = sent_again hop d.descends;
      }

      over : {c : ConnId} {node : NodeNo} {P : Message → Type 0} → Asks p has_ended rows sent c node P → Asks p has_ended next_rows sent c node P
      over a = Asks-rows p (λ live z h at of. Has-more wn h) (Asks-but wr gone a)

  pub keep_gives_up : (l : Premises) {row : PendingRow} {next_rows : List PendingRow} {next : List Item} (asker : Asker) (answer : Message) →
      Without row rows next_rows → has_ended row.relay row.conn ≡ true →
      row.asker ≡ Some asker → p.is_relay row.relay ≡ true → HasIdentifiers row.request answer →
      Answers p book refused row.relay row.conn row.request answer →
      Without (record { conn = asker.conn; from = row.relay; to = asker.node; message = under asker.hop answer }) next items →
      Keeps p has_ended next next_rows book refused sent received
  keep_gives_up l {row} {next_rows} {next} asker answer wr gone at is_relay ids a wi = record {
    clients = λ c h d k.
        let u = count-without (held_in (with_both c (p.client_on c) h d)) wr in let b = count-without (item_in p (with_both c (p.client_on c) h d)) wi in
        let m = less (with_both c (p.client_on c) h d) in let n = v.clients c h d k in omega arith;
    relays = λ c node h k live.
        let u = count-without (held_in (with_hop c node h)) wr in let b = count-without (item_in p (with_hop c node h)) wi in
        let g = count-without (row_in (with_hop c node h)) wr in
        let m = less (with_hop c node h) in
        let z = other_conn has_ended c node h row.conn row.relay row.request.header.hop row.request.header.end live gone in
        let n = v.relays c node h k live in omega arith;
    single = λ c node h. let g = count-without (row_in (with_hop c node h)) wr in let u = v.single c node h in omega arith;
    sound = all-in (IsSound p has_ended next_rows book refused sent) wi (λ y h q. Asks-but wr gone (v.sound y h q))
        (λ _. subst (λ (n : NodeNo). Asks p has_ended next_rows sent asker.conn n (Fits p book refused row.relay asker.conn other.message))
        (sym (waiting_answer other ids.flag)) (to_asker l p is_relay (inr refl) ids.flag a (Asks-but wr gone
        (subst (λ (o : Option Asker). IsAsked p has_ended rows sent row.request o) at (v.asked row (Has-without wr))))));
    asked = λ z h. IsAsked-map p z.asker (λ one _ b. Asks-but wr gone b) (v.asked z (Has-more wr h));
    owed = v.owed;
    to_servers = all-in (λ (y : Item). y.message.header.request ≡ true → p.is_client y.to ≡ false) wi v.to_servers (λ f. absurd (clash f ids.flag));
    askers = λ z h. v.askers z (Has-more wr h);
    requests = λ z h. v.requests z (Has-more wr h);
    items_come = all-in (λ (y : Item). y.message.header.request ≡ true → ComesFrom sent y.message) wi v.items_come (λ f. absurd (clash f ids.flag));
    rows_come = λ z h. v.rows_come z (Has-more wr h);
    taken = v.taken;
    legal = v.legal;
    within = v.within;
  }
    where
      other : Item
      other = record { conn = asker.conn; from = row.relay; to = asker.node; message = under asker.hop answer }

      less : (class : Class) → one (item_in p class other) ≤ one (held_in class row)
      less class =
          let m = weight_most p class other in
          let b : class asker.conn (waiting_node other) asker.hop answer.header.end ≡ held_in class row =
          ap (λ (n : NodeNo). class asker.conn n asker.hop answer.header.end) (waiting_answer other ids.flag)
          ∙ ap (λ (d : ℕ). class asker.conn asker.node asker.hop d) ids.end
          ∙ sym (ap (λ (o : Option Asker). asker_in class o row.request.header.end) at) in
          let c = ap one b in omega arith
