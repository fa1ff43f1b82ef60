-- What is kept where a relay forwards a request, and who gets the answer to what a relay has sent.
use Rattle.std.proofs.Common.{◌≡◌, ℕ, Bool, true, false, List, inl, Ok, refl, arith, sym, subst, ap}
use Rattle.std.specs.List.{count_by}
use Rattle.dia_base.specs.declared.number.ConnId.{ConnId}
use Rattle.dia_base.specs.declared.number.NodeNo.{NodeNo}
use Rattle.dia_base.proofs.Counting.{one}
use Rattle.dia_avp.specs.declared.avp.RawAvp.{RawAvp}
use Rattle.dia_avp.specs.AvpList.{HasSpelling}
use Rattle.dia_avp.specs.AvpReading.{split_of}
use Rattle.dia_message.specs.declared.message.Message.{Message}
use Rattle.dia_message.specs.Traffic.{Traffic}
use Rattle.cc_book.specs.Taking.{Ledger}
use Rattle.relay_core.specs.Forwarding.{same, renumbered, recorded_by}
use Rattle.relay_hops.specs.PendingTable.{under}
use Rattle.relay_routes.specs.Routing.{record_of}
use Rattle.farm_law.specs.Answers.{Answers}
use Rattle.farm_law.specs.Counts.{with_hop, with_both, item_in, held_in, row_in}
use Rattle.farm_law.specs.Farm.{Item, Asker, PendingRow, Refused}
use Rattle.farm_law.specs.Invariant.{Asks, Fits, Stems, IsSound, IsAsked, HasDescended, ComesFrom, as_sent, on_its_way, Keeps}
use Rattle.farm_law.specs.Lists.{Has, Without}
use Rattle.farm_law.specs.Moves.{forwarded, row_for}
use Rattle.farm_law.specs.Parties.{Parties}
use Rattle.farm_law.proofs.Lists.{count-without, Has-without, Has-more, all-in}
use Rattle.farm_law.proofs.Premises.{Premises}
use Rattle.farm_law.proofs.Weighing.{clash, waiting_request, weight_request, other_node, single-more}
use Rattle.farm_law.proofs.Answering.{HasFrom, Fits-self, Fits-answer, answers_back}
use Rattle.farm_law.proofs.Asking.{Asks-map, Asks-rows, IsAsked-map}

-- the answer to what a relay has sent goes to the asker
pub to_asker : (l : Premises) (p : Parties) {has_ended : NodeNo → ConnId → Bool} {rows : List PendingRow} {book : Ledger}
    {refused : List Refused} {sent : Traffic} {node relay : NodeNo} {conn : ConnId} {asker : Asker} {request answer : Message} →
    p.is_relay relay ≡ true → HasFrom p relay node → answer.header.request ≡ false → Answers p book refused node conn request answer →
    Asks p has_ended rows sent asker.conn asker.node (Stems asker request) →
    Asks p has_ended rows sent asker.conn asker.node (Fits p book refused relay asker.conn (under asker.hop answer))
to_asker l p {book = book} {refused = refused} {relay = relay} {asker = asker} {answer = answer} is_relay from flag a asks = Asks-map p (λ asked s.
    Fits-answer flag (subst (λ (h : ℕ). Answers p book refused relay asker.conn asked (under h answer)) s.hop
    (answers_back l p s.avps is_relay from s.splits s.descends a))) asks

module _ (p : Parties) {has_ended : NodeNo → ConnId → Bool} {items : List Item} {rows : List PendingRow} {book : Ledger}
    {refused : List Refused} {sent received : Traffic} (v : Keeps p has_ended items rows book refused sent received) where
  pub keep_forwards : {item : Item} {rest next : List Item} {next_rows : List PendingRow} (conn : ConnId) (peer : NodeNo) (hop : ℕ) (avps : List RawAvp) →
      Without item items rest → item.message.header.request ≡ true → split_of item.message.body ≡ Ok avps → HasSpelling (record_of (p.name_of item.from)) →
      p.is_client item.to ≡ false → p.is_client peer ≡ false → count_by (row_in (with_hop conn item.to hop)) rows ≡ 0 →
      Without (record { conn = conn; from = item.to; to = peer; message = forwarded p hop item }) next rest → Without (row_for p conn hop item) next_rows rows →
      Keeps p has_ended next next_rows book refused sent received
  keep_forwards {item} {rest} {next} {next_rows} conn peer hop avps wo e splits spelled relay server free wi wr = record {
    clients = λ c h d k.
        let a = count-without (item_in p (with_both c (p.client_on c) h d)) wo in let b = count-without (item_in p (with_both c (p.client_on c) h d)) wi in
        let g = count-without (held_in (with_both c (p.client_on c) h d)) wr in
        let m = ap one (weight_request p (with_both c (p.client_on c) h d) other e) in
        let z = other_node p c (p.client_on c) h d conn item.to hop item.message.header.end k relay in
        let n = ap one (weight_request p (with_both c (p.client_on c) h d) item e) in
        let u = v.clients c h d k in omega arith;
    relays = λ c node h k live.
        let a = count-without (item_in p (with_hop c node h)) wo in let b = count-without (item_in p (with_hop c node h)) wi in
        let g = count-without (held_in (with_hop c node h)) wr in let f = count-without (row_in (with_hop c node h)) wr in
        let m = ap one (weight_request p (with_hop c node h) other e) in
        let n = ap one (weight_request p (with_hop c node h) item e) in
        let u = v.relays c node h k live in omega arith;
    single = λ c node h.
        let f = count-without (row_in (with_hop c node h)) wr in
        let s = single-more rows c node h conn item.to hop item.message.header.end (v.single c node h) free in omega arith;
    sound = all-in (IsSound p has_ended next_rows book refused sent) wi (λ y h q. Asks-rows p more (v.sound y (Has-more wo h) q))
        (λ _. subst (λ (n : NodeNo). Asks p has_ended next_rows sent conn n (Fits p book refused item.to conn other.message))
        (sym (waiting_request other e)) (record {
          client = λ k. absurd (clash k relay);
          relay = λ _ _. (row, Has-without wr, refl, refl, Fits-self p book refused item.to conn other.message e);
        }));
    asked = all-in IsRowAsked wr (λ z h. IsAsked-map p z.asker (λ asker _ a. Asks-rows p more a) (v.asked z h))
        (Asks-rows p more (Asks-map p (λ asked f. subst (λ (m : Message). Stems asker row.request m) (f.request e) stems)
        (subst (λ (n : NodeNo). Asks p has_ended rows sent item.conn n (Fits p book refused item.from item.conn item.message))
        (waiting_request item e) (v.sound item (Has-without wo) (inl e)))));
    owed = v.owed;
    to_servers = all-in (λ (y : Item). y.message.header.request ≡ true → p.is_client y.to ≡ false) wi (λ y h. v.to_servers y (Has-more wo h)) (λ _. server);
    askers = all-in (λ (z : PendingRow). p.is_client z.relay ≡ false) wr v.askers relay;
    requests = all-in (λ (z : PendingRow). z.request.header.request ≡ true) wr v.requests e;
    items_come = all-in (λ (y : Item). y.message.header.request ≡ true → ComesFrom sent y.message) wi
        (λ y h. v.items_come y (Has-more wo h)) (λ _. on_its_way (descended (v.items_come item (Has-without wo) e)));
    rows_come = all-in (λ (z : PendingRow). HasDescended sent z.request) wr v.rows_come (descended (v.items_come item (Has-without wo) e));
    taken = v.taken;
    legal = v.legal;
    within = v.within;
  }
    where
      asker : Asker
      asker = record { conn = item.conn; node = item.from; hop = item.message.header.hop }

      other : Item
      other = record { conn = conn; from = item.to; to = peer; message = forwarded p hop item }

      row : PendingRow
      row = row_for p conn hop item

      IsRowAsked : PendingRow → Type 0
      IsRowAsked z = IsAsked p has_ended next_rows sent z.request z.asker

      more : {c : ConnId} {n : NodeNo} → has_ended n c ≡ false → (z : PendingRow) → Has z rows → z.conn ≡ c → z.relay ≡ n → Has z next_rows
      more live z h at of = Has-more wr h

      stems : Stems asker row.request item.message
      stems = record { hop = refl; avps = avps; splits = splits; descends = renumbered hop (recorded_by (p.name_of item.from) spelled same) }

      descended : ComesFrom sent item.message → HasDescended sent (forwarded p hop item)
      descended (as_sent c h) = record {
        conn = c;
        first = item.message;
        was_sent = h;
        request = e;
        avps = avps;
        splits = splits;
        descends = renumbered hop (recorded_by (p.name_of item.from) spelled same);
      }
      descended (on_its_way d) = record {
        conn = d.conn;
        first = d.first;
        was_sent = d.was_sent;
        request = d.request;
        avps = d.avps;
        splits = d.splits;
        descends = renumbered hop (recorded_by (p.name_of item.from) spelled d.descends);
      }
