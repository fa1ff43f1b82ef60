-- What moves keep where no relay asks: clients, losses, the book and ends of connections.
use Rattle.std.proofs.Common.{◌≡◌, ℕ, ◌<◌, ◌≤◌, Bool, true, false, cond, not, ◌&&◌, ◌||◌, eqb, List, [], ◌∷◌}
use Rattle.std.proofs.Common.{◌++◌, length, inl, inr, None, Ok, refl, arith, sym, subst, ap, ◌∙◌, eq-eqb}
use Rattle.std.specs.List.{count_by}
use Rattle.std.proofs.lemmas.List.{length-append}
use Rattle.dia_base.specs.declared.number.ConnId.{ConnId}
use Rattle.dia_base.specs.declared.number.NodeNo.{NodeNo}
use Rattle.dia_base.specs.declared.number.Moment.{Moment}
use Rattle.dia_base.proofs.Counting.{one}
use Rattle.dia_message.specs.declared.message.Message.{Message}
use Rattle.dia_message.specs.Traffic.{Traffic}
use Rattle.cc_view.specs.RequestView.{view_under}
use Rattle.cc_view.specs.declared.request.CcRequest.{CcRequest}
use Rattle.cc_book.specs.declared.entry.Entry.{Entry}
use Rattle.cc_book.specs.declared.entry.Entry.TheVariants.{Take, Sweep, ChangeTerms}
use Rattle.cc_book.specs.declared.terms_change.TermsChange.{TermsChange}
use Rattle.cc_book.specs.AccountMachine.{kept_reply, terms_of}
use Rattle.cc_book.specs.Changing.{with_change}
use Rattle.cc_book.specs.History.{IsLegal, ended_sessions}
use Rattle.cc_book.specs.Taking.{Ledger, with_take, with_sweep}
use Rattle.cc_book.specs.TermsChange.{fault_of_change}
use Rattle.front_core.specs.Counts.{is_with}
use Rattle.farm_law.specs.Answers.{Answers}
use Rattle.farm_law.specs.Counts.{Class, with_hop, with_both, item_in}
use Rattle.farm_law.specs.Farm.{Item, PendingRow, Refused, waiting_node, reply_to}
use Rattle.farm_law.specs.Invariant.{Asks, Fits, IsSound, IsOwed, HasDescended, ComesFrom, as_sent, on_its_way, IsTaken, Keeps}
use Rattle.farm_law.specs.Lists.{Has, Without, Left}
use Rattle.farm_law.specs.Parties.{Parties}
use Rattle.farm_law.proofs.Lists.{count-end, count-without, count-left, Has-without, Has-more, Has-append, Has-last, Has-left, all-end, all-in}
use Rattle.farm_law.proofs.Premises.{Premises}
use Rattle.farm_law.proofs.Weighing.{clash, same_conn, waiting_request, waiting_answer, weight_request, weight_answer, weight_most, with_hop-is, none_if}
use Rattle.farm_law.proofs.Answering.{HasIdentifiers, Grows, Answers-grows, Fits-grows, Fits-self, Fits-answer}
use Rattle.farm_law.proofs.Asking.{Asks-map, Asks-sent, Asks-ends, IsAsked-map}

-- without the test of the node no less is counted
without_node : (a b c d : Bool) → one (((a && b) && c) && d) ≤ one ((a && c) && d)
without_node true true c d = omega arith
without_node true false c d = omega arith
without_node false b c d = omega arith

-- what comes to the client of a connection counts for it
at_client : (p : Parties) (conn : ConnId) (hop end : ℕ) (c : ConnId) (node : NodeNo) (message : Message) → node ≡ p.client_on c →
    one (is_with conn hop end (c, message)) ≤ one (with_both conn (p.client_on conn) hop end c node message.header.hop message.header.end)
at_client p conn hop end c node message e = go (eqb c.0 conn.0) refl
  where
    go : (b : Bool) → eqb c.0 conn.0 ≡ b → one ((b && eqb message.header.hop hop) && eqb message.header.end end) ≤
        one (((b && eqb node.0 (p.client_on conn).0) && eqb message.header.hop hop) && eqb message.header.end end)
    go false t = omega arith
    go true t = rw (eq-eqb node.0 (p.client_on conn).0 (ap (λ (n : NodeNo). n.0) (e ∙ ap p.client_on (same_conn c conn t)))) (omega arith)

IsOwed-grows : {p : Parties} {book next_book : Ledger} {refused next_refused : List Refused} {sent : Traffic} {conn : ConnId}
    {answer : Message} → Grows book refused next_book next_refused → IsOwed p book refused sent conn answer →
    IsOwed p next_book next_refused sent conn answer
IsOwed-grows g o = record { flag = o.flag; message = o.message; was_sent = o.was_sent; request = o.request; answers = Answers-grows g o.answers }

HasDescended-sent : {sent : Traffic} {message : Message} (more : Traffic) → HasDescended sent message → HasDescended (sent ++ more) message
HasDescended-sent more d = record {
  conn = d.conn;
  first = d.first;
  was_sent = Has-append more d.was_sent;
  request = d.request;
  avps = d.avps;
  splits = d.splits;
  descends = d.descends;
}

ComesFrom-sent : {sent : Traffic} {message : Message} (more : Traffic) → ComesFrom sent message → ComesFrom (sent ++ more) message
ComesFrom-sent more (as_sent conn h) = as_sent conn (Has-append more h)
ComesFrom-sent more (on_its_way d) = on_its_way (HasDescended-sent more d)

IsTaken-sent : (p : Parties) (sent more : Traffic) (entry : Entry) → IsTaken p sent entry → IsTaken p (sent ++ more) entry
IsTaken-sent p sent more (Take moment request) t = (t.0, t.1, Has-append more t.2, t.3, t.4)
IsTaken-sent p sent more (Sweep moment) t = t
IsTaken-sent p sent more (ChangeTerms moment change) t = t

module _ (p : Parties) {has_ended : NodeNo → ConnId → Bool} {items : List Item} {rows : List PendingRow} {book : Ledger}
    {refused : List Refused} {sent received : Traffic} (v : Keeps p has_ended items rows book refused sent received) where
  pub keep_ends : (ends : NodeNo → ConnId → Bool) → ((node : NodeNo) (conn : ConnId) → has_ended node conn ≡ true → ends node conn ≡ true) →
      Keeps p ends items rows book refused sent received
  keep_ends ends more = record {
    clients = v.clients;
    relays = λ conn node hop k live. v.relays conn node hop k (still node conn live);
    single = v.single;
    sound = λ item h k. Asks-ends p still (v.sound item h k);
    asked = λ row h. IsAsked-map p row.asker (λ asker e a. Asks-ends p still a) (v.asked row h);
    owed = v.owed;
    to_servers = v.to_servers;
    askers = v.askers;
    requests = v.requests;
    items_come = v.items_come;
    rows_come = v.rows_come;
    taken = v.taken;
    legal = v.legal;
    within = v.within;
  }
    where
      still : (node : NodeNo) (conn : ConnId) → ends node conn ≡ false → has_ended node conn ≡ false
      still node conn live = go (has_ended node conn) refl
        where
          go : (b : Bool) → has_ended node conn ≡ b → has_ended node conn ≡ false
          go true e = absurd (clash (more node conn e) live)
          go false e = e

  pub keep_grows : (next_book : Ledger) (next_refused : List Refused) → Grows book refused next_book next_refused →
      ((entry : Entry) → Has entry next_book.history → IsTaken p sent entry) →
      IsLegal next_book.terms next_book.history → length next_book.history ≤ next_book.limit →
      Keeps p has_ended items rows next_book next_refused sent received
  keep_grows next_book next_refused g taken legal within = record {
    clients = v.clients;
    relays = v.relays;
    single = v.single;
    sound = λ item h k. Asks-map p (λ message f. Fits-grows g f) (v.sound item h k);
    asked = v.asked;
    owed = λ conn answer h. IsOwed-grows g (v.owed conn answer h);
    to_servers = v.to_servers;
    askers = v.askers;
    requests = v.requests;
    items_come = v.items_come;
    rows_come = v.rows_come;
    taken = taken;
    legal = legal;
    within = within;
  }

  pub keep_refused : (more : List Refused) → Keeps p has_ended items rows book (refused ++ more) sent received
  keep_refused more = keep_grows book (refused ++ more)
      (record { answered = λ site message answer a. a; refused_still = λ at h. Has-append more h }) v.taken v.legal v.within

  pub keep_takes : (l : Premises) {item : Item} (moment : Moment) (request : CcRequest) → Has item items →
      item.message.header.request ≡ true → view_under p.profile item.message ≡ Ok request →
      kept_reply book.terms book.history request ≡ None → length book.history < book.limit →
      Keeps p has_ended items rows (with_take book moment request) refused sent received
  keep_takes l {item} moment request h e view new room = keep_grows (with_take book moment request) refused
      (record { answered = λ site message answer a. l.answers_stay site book (Take moment request ∷ []) message answer a; refused_still = λ at k. k })
      (all-end (IsTaken p sent) book.history (Take moment request) v.taken (taken (v.items_come item h e)))
      (l.legal_grows book.terms book.history moment request v.legal new)
      (omega (arith, length-append book.history (Take moment request ∷ [])))
    where
      taken : ComesFrom sent item.message → IsTaken p sent (Take moment request)
      taken (as_sent conn was_sent) = (conn, item.message, was_sent, e, view)
      taken (on_its_way d) = (d.conn, d.first, d.was_sent, d.request, sym (l.same_view p.profile d.first item.message d.avps d.splits d.descends) ∙ view)

  pub keep_sweeps : (l : Premises) (moment : Moment) → 0 < ended_sessions book.terms book.history moment → length book.history < book.limit →
      Keeps p has_ended items rows (with_sweep book moment) refused sent received
  keep_sweeps l moment ends room = keep_grows (with_sweep book moment) refused
      (record { answered = λ site message answer a. l.answers_stay site book (Sweep moment ∷ []) message answer a; refused_still = λ at k. k })
      (all-end (IsTaken p sent) book.history (Sweep moment) v.taken tt)
      (l.legal_sweeps book.terms book.history moment v.legal ends)
      (omega (arith, room, length-append book.history (Sweep moment ∷ [])))

  pub keep_changes : (l : Premises) (moment : Moment) (change : TermsChange) → fault_of_change (terms_of book.terms book.history) change ≡ None →
      length book.history < book.limit → Keeps p has_ended items rows (with_change book moment change) refused sent received
  keep_changes l moment change sound room = keep_grows (with_change book moment change) refused
      (record { answered = λ site message answer a. l.answers_stay site book (ChangeTerms moment change ∷ []) message answer a; refused_still = λ at k. k })
      (all-end (IsTaken p sent) book.history (ChangeTerms moment change) v.taken tt)
      (l.legal_changes book.terms book.history moment change v.legal sound)
      (omega (arith, room, length-append book.history (ChangeTerms moment change ∷ [])))

  with_items : {next : List Item} → ((class : Class) → count_by (item_in p class) next ≤ count_by (item_in p class) items) →
      ((item : Item) → Has item next → IsSound p has_ended rows book refused sent item) →
      ((item : Item) → Has item next → item.message.header.request ≡ true → p.is_client item.to ≡ false) →
      ((item : Item) → Has item next → item.message.header.request ≡ true → ComesFrom sent item.message) →
      Keeps p has_ended next rows book refused sent received
  with_items less sound to_servers items_come = record {
    clients = λ conn hop end k. let a = less (with_both conn (p.client_on conn) hop end) in let b = v.clients conn hop end k in omega arith;
    relays = λ conn node hop k live. let a = less (with_hop conn node hop) in let b = v.relays conn node hop k live in omega arith;
    single = v.single;
    sound = sound;
    asked = v.asked;
    owed = v.owed;
    to_servers = to_servers;
    askers = v.askers;
    requests = v.requests;
    items_come = items_come;
    rows_come = v.rows_come;
    taken = v.taken;
    legal = v.legal;
    within = v.within;
  }

  pub keep_loses : {Gone : Item → Type 0} {rest : List Item} → Left Gone items rest → Keeps p has_ended rest rows book refused sent received
  keep_loses left = with_items (λ class. count-left (item_in p class) left) (λ item h. v.sound item (Has-left left h))
      (λ item h. v.to_servers item (Has-left left h)) (λ item h. v.items_come item (Has-left left h))

  -- a message gives way to one that counts no more, and is sound
  keep_turns : {item : Item} {rest next : List Item} (other : Item) → Without item items rest → Without other next rest →
      ((class : Class) → one (item_in p class other) ≤ one (item_in p class item)) →
      IsSound p has_ended rows book refused sent other → (other.message.header.request ≡ true → p.is_client other.to ≡ false) →
      (other.message.header.request ≡ true → ComesFrom sent other.message) →
      Keeps p has_ended next rows book refused sent received
  keep_turns other wo wi less sound to_server comes = with_items
      (λ class. let a = count-without (item_in p class) wo in let b = count-without (item_in p class) wi in let c = less class in omega arith)
      (all-in (IsSound p has_ended rows book refused sent) wi (λ item h. v.sound item (Has-more wo h)) sound)
      (all-in (λ (item : Item). item.message.header.request ≡ true → p.is_client item.to ≡ false) wi (λ item h. v.to_servers item (Has-more wo h)) to_server)
      (all-in (λ (item : Item). item.message.header.request ≡ true → ComesFrom sent item.message) wi (λ item h. v.items_come item (Has-more wo h)) comes)

  pub keep_moves_on : {item : Item} {rest next : List Item} → Without item items rest → Without item next rest →
      Keeps p has_ended next rows book refused sent received
  keep_moves_on {item} wo wi = keep_turns item wo wi (λ class. omega arith) (v.sound item (Has-without wo))
      (v.to_servers item (Has-without wo)) (v.items_come item (Has-without wo))

  -- a request gives way to its answer
  pub keep_answers : {item : Item} {rest next : List Item} (answer : Message) → Without item items rest →
      item.message.header.request ≡ true → HasIdentifiers item.message answer →
      Answers p book refused item.to item.conn item.message answer → Without (reply_to item answer) next rest →
      Keeps p has_ended next rows book refused sent received
  keep_answers {item} answer wo e ids a wi = keep_turns other wo wi less sound (λ f. absurd (clash f ids.flag)) (λ f. absurd (clash f ids.flag))
    where
      other : Item
      other = reply_to item answer

      less : (class : Class) → one (item_in p class other) ≤ one (item_in p class item)
      less class =
          let m = weight_most p class other in
          let b : class item.conn (waiting_node other) answer.header.hop answer.header.end ≡ item_in p class item =
          ap (λ (n : NodeNo). class item.conn n answer.header.hop answer.header.end) (waiting_answer other ids.flag)
          ∙ ap (λ (h : ℕ). class item.conn item.from h answer.header.end) ids.hop
          ∙ ap (λ (d : ℕ). class item.conn item.from item.message.header.hop d) ids.end
          ∙ sym (weight_request p class item e) in
          let c = ap one b in omega arith

      sound : IsSound p has_ended rows book refused sent other
      sound _ = subst (λ (n : NodeNo). Asks p has_ended rows sent item.conn n (Fits p book refused item.to item.conn answer))
          (waiting_request item e ∙ sym (waiting_answer other ids.flag)) (Asks-map p
          (λ asked f. subst (λ (m : Message). Fits p book refused item.to item.conn answer m) (f.request e) (Fits-answer ids.flag a))
          (v.sound item (Has-without wo) (inl e)))

  pub keep_receives : {item : Item} {rest : List Item} → Without item items rest → p.is_client item.to ≡ true →
      p.is_client item.from ≡ false → item.to ≡ p.client_on item.conn → item.from ≡ p.server_on item.conn →
      Keeps p has_ended rest rows book refused sent (received ++ (item.conn, item.message) ∷ [])
  keep_receives {item} {rest} wo client no_client at_end from_server = record {
    clients = λ conn hop end k.
        let class : Class = with_both conn (p.client_on conn) hop end in
        let a = count-without (item_in p class) wo in let b = count-end (is_with conn hop end) received (item.conn, item.message) in
        let c = ap one (weight_answer p class item flag no_client) in let d = at_client p conn hop end item.conn item.to item.message at_end in
        let e = v.clients conn hop end k in omega arith;
    relays = λ conn node hop k live. let a = count-without (item_in p (with_hop conn node hop)) wo in let b = v.relays conn node hop k live in omega arith;
    single = v.single;
    sound = λ other h. v.sound other (Has-more wo h);
    asked = v.asked;
    owed = λ conn answer h. all-end IsDue received (item.conn, item.message) (λ due g. v.owed due.0 due.1 g) due (conn, answer) h;
    to_servers = λ other h. v.to_servers other (Has-more wo h);
    askers = v.askers;
    requests = v.requests;
    items_come = λ other h. v.items_come other (Has-more wo h);
    rows_come = v.rows_come;
    taken = v.taken;
    legal = v.legal;
    within = v.within;
  }
    where
      IsDue : ConnId × Message → Type 0
      IsDue due = IsOwed p book refused sent due.0 due.1

      flag : item.message.header.request ≡ false
      flag = go item.message.header.request refl
        where
          go : (b : Bool) → item.message.header.request ≡ b → item.message.header.request ≡ false
          go true e = absurd (clash client (v.to_servers item (Has-without wo) e))
          go false e = e

      due : IsOwed p book refused sent item.conn item.message
      due =
          let a : Asks p has_ended rows sent item.conn item.to (Fits p book refused item.from item.conn item.message) =
          subst (λ (n : NodeNo). Asks p has_ended rows sent item.conn n (Fits p book refused item.from item.conn item.message))
          (waiting_answer item flag) (v.sound item (Has-without wo) (inr no_client)) in
          let t = a.client client in
          record {
            flag = flag;
            message = t.0;
            was_sent = t.1;
            request = t.2;
            answers = subst (λ (n : NodeNo). Answers p book refused n item.conn t.0 item.message) from_server ((t.3).answer flag);
          }

  pub keep_sends : {next : List Item} (conn : ConnId) (to : NodeNo) (message : Message) → p.is_client (p.client_on conn) ≡ true → p.is_client to ≡ false →
      Without (record { conn = conn; from = p.client_on conn; to = to; message = message }) next items →
      Keeps p has_ended next rows book refused (sent ++ (conn, message) ∷ []) received
  keep_sends {next} conn to message client to_server wi = record {
    clients = λ c hop end k.
        let a = count-without (item_in p (with_both c (p.client_on c) hop end)) wi in
        let b = count-end (λ (item : ConnId × Message). item.1.header.request && is_with c hop end item) sent (conn, message) in
        let d = less c hop end in let e = v.clients c hop end k in omega arith;
    relays = λ c node hop k live.
        let a = count-without (item_in p (with_hop c node hop)) wi in let z = none c node hop k in
        let d = v.relays c node hop k live in omega arith;
    single = v.single;
    sound = all-in (IsSound p has_ended rows book refused (sent ++ more)) wi (λ other h q. Asks-sent p still (v.sound other h q)) (elim [
      | inl e ↦ subst (λ (n : NodeNo). Asks p has_ended rows (sent ++ more) conn n (Fits p book refused (p.client_on conn) conn message))
          (sym (waiting_request item e)) (record {
            client = λ _. (message, Has-last (conn, message) sent, e, Fits-self p book refused (p.client_on conn) conn message e);
            relay = λ no_client. absurd (clash client no_client);
          })
      | inr f ↦ absurd (clash client f)
    ]);
    asked = λ row h. IsAsked-map p row.asker (λ asker e a. Asks-sent p still a) (v.asked row h);
    owed = λ c answer h. let o = v.owed c answer h in record {
      flag = o.flag;
      message = o.message;
      was_sent = Has-append more o.was_sent;
      request = o.request;
      answers = o.answers;
    };
    to_servers = all-in (λ (other : Item). other.message.header.request ≡ true → p.is_client other.to ≡ false) wi v.to_servers (λ _. to_server);
    askers = v.askers;
    requests = v.requests;
    items_come = all-in (λ (other : Item). other.message.header.request ≡ true → ComesFrom (sent ++ more) other.message) wi
        (λ other h e. ComesFrom-sent more (v.items_come other h e)) (λ _. as_sent conn (Has-last (conn, message) sent));
    rows_come = λ row h. HasDescended-sent more (v.rows_come row h);
    taken = λ entry h. IsTaken-sent p sent more entry (v.taken entry h);
    legal = v.legal;
    within = v.within;
  }
    where
      more : Traffic
      more = (conn, message) ∷ []

      item : Item
      item = record { conn = conn; from = p.client_on conn; to = to; message = message }

      still : (t : ConnId × Message) → Has t sent → Has t (sent ++ more)
      still t h = Has-append more h

      less : (c : ConnId) (hop end : ℕ) →
          one (item_in p (with_both c (p.client_on c) hop end) item) ≤ one (message.header.request && is_with c hop end (conn, message))
      less c hop end = go message.header.request (p.is_client (p.client_on conn)) client
        where
          go : (b k : Bool) → k ≡ true → one ((b || not k) && with_both c (p.client_on c) hop end conn (cond b (p.client_on conn) to)
              message.header.hop message.header.end) ≤ one (b && is_with c hop end (conn, message))
          go true k e = without_node (eqb conn.0 c.0) (eqb (p.client_on conn).0 (p.client_on c).0) (eqb message.header.hop hop) (eqb message.header.end end)
          go false k e = rw e (omega arith)

      none : (c : ConnId) (node : NodeNo) (hop : ℕ) → p.is_client node ≡ false → one (item_in p (with_hop c node hop) item) ≡ 0
      none c node hop k = go message.header.request (p.is_client (p.client_on conn)) client
        where
          go : (b d : Bool) → d ≡ true → one ((b || not d) && with_hop c node hop conn (cond b (p.client_on conn) to) message.header.hop message.header.end) ≡ 0
          go true d e = none_if _ (λ t. clash (ap p.is_client
              (sym (with_hop-is c node hop conn (p.client_on conn) message.header.hop message.header.end t).1) ∙ client) k)
          go false d e = rw e refl
