-- The promise, by what holds at the end of a run.
use Rattle.std.proofs.Common.{◌≡◌, ℕ, ◌≤◌, Bool, true, false, cond, List, [], ◌∷◌, ◌++◌, length, Option, Some, None, inl, inr, refl, sym, subst, ap}
use Rattle.std.proofs.Common.{◌∙◌, arith, true≢false}
use Rattle.std.specs.Prelude.{◌&&◌, ◌||◌, ◌==◌, slice_get}
use Rattle.std.proofs.lemmas.Bool.{and_parts, eqb-true}
use Rattle.std.proofs.Math.Bool.{or-true}
use Rattle.dia_base.specs.declared.node.NodeKind.{NodeKind}
use Rattle.dia_base.specs.declared.node.NodeKind.TheVariants.{Relay, Front, Client}
use Rattle.dia_base.specs.declared.number.ConnId.{ConnId}
use Rattle.dia_base.specs.declared.number.NodeNo.{NodeNo}
use Rattle.dia_base.proofs.Counting.{count-cons, one}
use Rattle.dia_message.specs.declared.message.Message.{Message}
use Rattle.dia_message.specs.declared.message.Out.{Out}
use Rattle.dia_message.specs.Traffic.{Traffic}
use Rattle.cc_view.specs.declared.code.ResultCode.TheVariants.{UnableToComply}
use Rattle.cc_view.specs.declared.reply.CcReply.{CcReply}
use Rattle.cc_view.specs.declared.request.CcRequest.{CcRequest}
use Rattle.cc_view.specs.Answer.{answer_to, refusal_of}
use Rattle.cc_book.specs.declared.entry.Entry.{Entry}
use Rattle.cc_book.specs.declared.entry.Entry.TheVariants.{Take, Sweep, ChangeTerms}
use Rattle.cc_book.specs.declared.terms.Terms.{Terms}
use Rattle.cc_book.specs.AccountMachine.{code_alone, kept_reply, reply_to}
use Rattle.cc_book.specs.Content.{same_request}
use Rattle.cc_book.specs.Laws.{RepliesToEntry}
use Rattle.cc_book.proofs.SameRequests.{same_request-decides}
use Rattle.front_core.specs.Answered.{IsBookAnswer}
use Rattle.front_core.specs.Counts.{is_with, requests_with, answers_with}
use Rattle.relay_core.specs.declared.node.RelaySite.{RelaySite}
use Rattle.relay_core.specs.declared.run.RelayEvent.{RelayEvent}
use Rattle.relay_core.specs.Connecting.{new_relay}
use Rattle.relay_core.specs.Forwarding.{Descends}
use Rattle.relay_core.specs.RelayRun.{IsRun, RelayStep}
use Rattle.relay_core.specs.RelayState.{RelayState}
use Rattle.farm_law.specs.Answers.{IsToldBy, by_itself, by_relay, Answers, of_front, of_refusal, TellsRefusal}
use Rattle.farm_law.specs.Farm.{Refused}
use Rattle.farm_law.specs.Invariant.{IsOwed, IsTaken}
use Rattle.farm_law.specs.Lists.{Has, here, there}
use Rattle.farm_base.specs.declared.site.Node.{Node}
use Rattle.farm_base.specs.declared.site.Site.{Site}
use Rattle.farm_model.specs.Applying.{AppliesWhereItCan}
use Rattle.farm_model.specs.BookAndEnds.{KeepsBookAndEnds}
use Rattle.farm_model.specs.SoundSite.{IsSound}
use Rattle.farm_model.specs.FrontTurns.{KeepsFronts}
use Rattle.farm_model.specs.InFlight.{KeepsTraffic}
use Rattle.farm_base.specs.Nodes.{is_node, is_client, is_front, is_relay, kind_in, means_front, means_relay, name_in, name_at}
use Rattle.farm_model.specs.Promise.{Journal, IsEndOf, IsNamed, IsFrontNamed, ComesTo, AnswersOn, itself, over_relay, HasOneClient, IsRefusedThere}
use Rattle.farm_model.specs.Promise.{IsRightAnswer, IsOfRun, IsMachineReply, to_another_content, to_this, RefusesLoop, RefusesWhatComesBack}
use Rattle.farm_model.specs.Promise.{AppliedOrChangedNothing, journal_then, AnsweredInTime, KeepsPromise, HasComeBack, RefusesWhatComesRound}
use Rattle.farm_model.specs.OwnCauses.{HaveOwnCauses}
use Rattle.farm_model.specs.RelayRuns.{events_in, RunsAsRelay}
use Rattle.farm_model.specs.Run.{Past, front_site, relay_site, skipped_in, trace_of, Transition}
use Rattle.farm_model.specs.SetUp.{BeginsEmpty, KeepsSetUp}
use Rattle.farm_model.specs.SmallSteps.{AppliesInSmallSteps}
use Rattle.farm_model.specs.World.{Ends, WorldState, relay_at}
use Rattle.farm_model.proofs.Lists.Among.{Contains-has, all_of}
use Rattle.farm_model.proofs.Moves.AsFarm.{parties, ends_of, client_in, server_in}
use Rattle.farm_model.proofs.Applied.CanApply.{skipped_are}
use Rattle.farm_model.proofs.Wiring.Joined.{nodes_are}
use Rattle.farm_model.proofs.Loops.LoopRefused.{name_is}
use Rattle.farm_model.proofs.Lists.Numbering.{is_same_node}
use Rattle.farm_model.proofs.Runs.RunHolds.{IsServer, RunHolds}
use Rattle.farm_model.proofs.Loops.SendingOn.{come_round}

-- ---- nodes of the site

front_found : (site : Site) (node : NodeNo) → is_front site node ≡ true → IsFrontNamed site node (name_at site node)
front_found site node e = go (slice_get site.nodes node.0) refl e
  where
    of_kind : (found : Node) (kind : NodeKind) → found.kind ≡ kind → means_front (Some kind) ≡ true → found.kind ≡ Front
    of_kind found Front k q = k
    of_kind found Relay k q = absurd cc
    of_kind found Client k q = absurd cc

    go : (found : Option Node) → slice_get site.nodes node.0 ≡ found → means_front (kind_in found) ≡ true → IsFrontNamed site node (name_in found)
    go None at q = absurd cc
    go (Some found) at q = record { found = found; at_place = at; kind = of_kind found found.kind refl q; called = refl }

server_found : (site : Site) (node : NodeNo) → IsServer site node → IsNamed site node (name_at site node)
server_found site node (inl e) = let f = front_found site node e in record { found = f.found; at_place = f.at_place; called = f.called }
server_found site node (inr e) = go (slice_get site.nodes node.0) refl e
  where
    go : (found : Option Node) → slice_get site.nodes node.0 ≡ found → means_relay (kind_in found) ≡ true → IsNamed site node (name_in found)
    go None at q = absurd cc
    go (Some found) at q = record { found = found; at_place = at; called = refl }

-- ---- the ends of a client's connection

ends_are : {site : Site} {all : Ends} {conn : ConnId} (h : HasOneClient site all conn) → ends_of all conn ≡ h.nodes
ends_are {all = all} {conn = conn} h = nodes_are all conn h.nodes h.made

server_end : {site : Site} {all : Ends} {conn : ConnId} → HasOneClient site all conn → IsEndOf all conn (server_in site (ends_of all conn))
server_end {site} {all} {conn} h = record {
  numbered = h.numbered;
  nodes = h.nodes;
  made = h.made;
  joined = ap
      (λ (n : NodeNo × NodeNo). is_node h.nodes.0 (server_in site n) || is_node h.nodes.1 (server_in site n)) (ends_are h) ∙ go (is_client site h.nodes.0);
}
  where
    go : (b : Bool) → (is_node h.nodes.0 (cond b h.nodes.1 h.nodes.0) || is_node h.nodes.1 (cond b h.nodes.1 h.nodes.0)) ≡ true
    go true = ap (λ (b : Bool). is_node h.nodes.0 h.nodes.1 || b) (is_same_node h.nodes.1 h.nodes.1 refl) ∙ or-true (is_node h.nodes.0 h.nodes.1)
    go false = ap (λ (b : Bool). b || is_node h.nodes.1 h.nodes.0) (is_same_node h.nodes.0 h.nodes.0 refl)

client_end : {site : Site} {all : Ends} {conn : ConnId} → HasOneClient site all conn → is_client site (client_in site (ends_of all conn)) ≡ true
client_end {site} {all} {conn} h = ap (λ (n : NodeNo × NodeNo). is_client site (client_in site n)) (ends_are h) ∙ go (is_client site h.nodes.0) refl h.a_client
  where
    go : (b : Bool) → is_client site h.nodes.0 ≡ b → (b || is_client site h.nodes.1) ≡ true → is_client site (cond b h.nodes.0 h.nodes.1) ≡ true
    go true e k = e
    go false e k = k

-- ---- the flags of answers and refusals

answer_flag : (name realm : List ℕ) (message answer : Message) (request : CcRequest) (reply : CcReply) → answer ≡ answer_to name realm message request reply →
    answer.header.error ≡ false
unfolding answer_to
answer_flag name realm message answer request reply e = ap (λ (m : Message). m.header.error) e

refusal_flag : (name realm : List ℕ) (message answer : Message) (code : _) → answer ≡ refusal_of name realm message code → answer.header.error ≡ true
unfolding refusal_of
refusal_flag name realm message answer code e = ap (λ (m : Message). m.header.error) e

-- ---- the whole

abbrev pub RepliesAreOfEntries : Type 0
RepliesAreOfEntries = (terms : Terms) (history : List Entry) (request : CcRequest) (reply : CcReply) → kept_reply terms history request ≡ Some reply →
    RepliesToEntry terms history request reply

abbrev pub RelaysKeepPromise : Type 0
RelaysKeepPromise = (site : RelaySite) (events : List RelayEvent) (outs : List Out) (past : List RelayStep) (last : RelayState) → IsRun (new_relay site) events
    outs past last → Rattle.relay_core.specs.Promise.KeepsPromise site.name site.realm past

module _ (site : Site) (all : Ends) (past : Past) (w : WorldState) (h : RunHolds site all past w) where
  abbrev journal : Journal
  journal = journal_then all past w

  -- ---- the book

  of_run : (entry : Entry) → Has entry w.book.history → IsOfRun site past w.sent entry
  of_run entry among = go entry among (h.kept.taken entry among)
    where
      go : (e : Entry) → Has e w.book.history → IsTaken (parties site all) w.sent e → IsOfRun site past w.sent e
      go (Take moment request) there_is t = let c = h.heard.takes moment request there_is in
          (t.0, t.1, (Contains-has t.2, t.3), t.4, (c.0, c.1, Contains-has c.2))
      go (Sweep moment) there_is t = Contains-has (h.heard.sweeps moment there_is)
      go (ChangeTerms moment change) there_is t = Contains-has (h.heard.changes moment change there_is)

  -- the entry with the key of a request is this very request, or another content
  by_entry : (request : CcRequest) (reply : CcReply) (t : RepliesToEntry w.book.terms w.book.history request reply) (same : Bool)
      → same_request t.taken request ≡ same → reply ≡ cond same (reply_to w.book.terms t.before t.taken) (code_alone UnableToComply)
      → IsMachineReply w.book request reply
  by_entry request reply t true e is =
      let this : t.taken ≡ request = (same_request-decides t.taken request).0 e in
      to_this t.before t.moment t.after (subst (λ (r : CcRequest). w.book.history ≡ t.before ++ Take t.moment r ∷ t.after) this t.among)
      (is ∙ ap (reply_to w.book.terms t.before) this)
  by_entry request reply t false e is =
      to_another_content t.before t.moment t.taken t.after t.among t.same
      (λ this. true≢false (sym ((same_request-decides t.taken request).1 this) ∙ e)) is

  by_machine : RepliesAreOfEntries → (name : List ℕ) (message answer : Message) (answered : IsBookAnswer (front_site site name) w.book message answer) →
      IsMachineReply w.book answered.request answered.reply
  by_machine of_entries name message answer answered =
      let t = of_entries w.book.terms w.book.history answered.request answered.reply answered.kept in
      by_entry answered.request answered.reply t (same_request t.taken answered.request) refl t.is_reply

  -- ---- what was received

  comes_to : (node end : NodeNo) → IsToldBy (parties site all) node end → ComesTo site node end
  comes_to node end by_itself = ComesTo.by_itself
  comes_to node end (by_relay {next = next} relay linked told) = ComesTo.by_relay relay linked (comes_to node next told)

  told_on : (conn : ConnId) (node end : NodeNo) → IsEndOf all conn end → IsToldBy (parties site all) node end → AnswersOn site all conn node
  told_on conn node end at by_itself = itself at
  told_on conn node end at (by_relay {next = next} relay linked told) = over_relay end next at relay linked (comes_to node next told)

  refused_there : (conn : ConnId) (message : Message) (r : Refused) → HasOneClient site all conn → TellsRefusal (parties site all)
      (server_in site (ends_of all conn)) conn message r → Descends message r.request
      → IsRefusedThere site all conn message r.node r.conn r.request
  refused_there conn message r client (told, inl relay) descends = IsRefusedThere.over_relay (server_in site (ends_of all conn)) r.conn r.request
      (server_end client) relay (comes_to r.node (server_in site (ends_of all conn)) told) descends
  refused_there conn message r client (told, inr same) descends =
      subst (λ (m : Message). IsRefusedThere site all conn message r.node r.conn m) (sym same.2)
      (subst (λ (c : ConnId). IsRefusedThere site all conn message r.node c message) (sym same.1)
      (IsRefusedThere.itself (subst (IsEndOf all conn) (sym same.0) (server_end client))))

  right_answer : RepliesAreOfEntries → (conn : ConnId) (answer : Message) → HasOneClient site all conn →
      (owed : IsOwed (parties site all) w.book h.refused w.sent conn answer) → Answers (parties site all) w.book h.refused (server_in site (ends_of all conn))
      conn owed.message answer → IsRightAnswer site journal conn answer
  right_answer of_entries conn answer client owed (of_front front is tells answered) = record {
    answered = λ clear. record {
      node = front;
      name = name_at site front;
      front = front_found site front is;
      on = told_on conn front (server_in site (ends_of all conn)) (server_end client) tells;
      message = owed.message;
      requested = (Contains-has owed.was_sent, owed.request);
      answered = answered;
      by_machine = by_machine of_entries (name_at site front) owed.message answer answered;
    };
    refused = λ set. absurd (true≢false (sym set ∙ answer_flag (name_at site front) site.realm owed.message answer answered.request answered.reply
        answered.written));
  }
  right_answer of_entries conn answer client owed (of_refusal r tells descends among written) =
      let c = h.caused r among in
      record {
        answered = λ clear. absurd (true≢false (sym (refusal_flag (name_at site r.node) site.realm owed.message answer r.refusal written) ∙ clear));
        refused = λ set. record {
          node = r.node;
          name = name_at site r.node;
          named = server_found site r.node c.server;
          message = owed.message;
          requested = (Contains-has owed.was_sent, owed.request);
          at = r.conn;
          there = r.request;
          refused = refused_there conn owed.message r client tells descends;
          refusal = r.refusal;
          transition = c.transition;
          passed = Contains-has c.passed;
          cause = c.cause;
          written = written;
        };
      }

  pub received_right : RepliesAreOfEntries → (item : ConnId × Message) → Has item w.received → IsRightAnswer site journal item.0 item.1
  received_right of_entries item among = let owed = h.kept.owed item.0 item.1 among in right_answer of_entries item.0 item.1 (h.heard.receivers item among)
      owed owed.answers

  -- ---- no more than sent

  none_on : (conn : ConnId) (hop end : ℕ) (items : Traffic) → ((item : ConnId × Message) → Has item items → HasOneClient site all item.0) → is_client site
      (client_in site (ends_of all conn)) ≡ false → answers_with items conn hop end ≡ 0
  none_on conn hop end [] clients none = refl
  none_on conn hop end (item ∷ items) clients none =
      let rest = none_on conn hop end items (λ i m. clients i (there m)) none in
      let first = ap one (go (is_with conn hop end item) refl) in
      let all = count-cons (is_with conn hop end) item items in
      omega (arith, rest, first, all)
    where
      go : (b : Bool) → is_with conn hop end item ≡ b → b ≡ false
      go false e = refl
      go true e =
          let parts = and_parts (item.0.0 == conn.0 && item.1.header.hop == hop) (item.1.header.end == end) e in
          let on = (and_parts (item.0.0 == conn.0) (item.1.header.hop == hop) parts.0).0 in
          let same : item.0 ≡ conn = ap (λ (n : ℕ). record { 0 = n }) (eqb-true item.0.0 conn.0 on) in
          absurd (true≢false (sym (client_end (subst (HasOneClient site all) same (clients item here))) ∙ none))

  no_more : (conn : ConnId) (hop end : ℕ) → answers_with w.received conn hop end ≤ requests_with w.sent conn hop end
  no_more conn hop end = go (is_client site (client_in site (ends_of all conn))) refl
    where
      go : (b : Bool) → is_client site (client_in site (ends_of all conn)) ≡ b → answers_with w.received conn hop end ≤ requests_with w.sent conn hop end
      go true is = let all = h.kept.clients conn hop end is in omega (arith, all)
      go false none = let zero_of = none_on conn hop end w.received h.heard.receivers none in omega (arith, zero_of)

  -- ---- relays

  runs_as_relay : RelaysKeepPromise → (node : NodeNo) (name : List ℕ) → is_relay site node ≡ true → IsNamed site node name → RunsAsRelay site past node name
  runs_as_relay keep node name is named =
      let has = h.relays node is in
      subst (RunsAsRelay site past node) (ap name_in named.at_place ∙ named.called) (record {
        outs = has.outs;
        steps = has.steps;
        last = has.last;
        run = has.run;
        stands = ap (λ (v : WorldState). relay_at node v.relays) h.last ∙ has.at;
        sends = has.sends;
        promise = keep (relay_site site node (name_at site node)) (events_in site node past) has.outs has.steps has.last has.run;
      })

-- the promise of a whole run, with what it tells as it goes
module _ (site : Site) (past : Past) (w : WorldState) (h : RunHolds site w.ends past w) where
  refuses_round : IsSound site → (t : Transition) → Has t past → RefusesWhatComesRound site past t
  refuses_round checked t among from node place conn message directions name step flight flag relay named round =
      h.come_back t among from node place conn message directions name step flight flag relay named
      (subst (λ (n : List ℕ). HasComeBack n message) (name_is named) (come_round site checked past h.sends_on node round.0 message round.1))

  pub promise_of : RepliesAreOfEntries → RelaysKeepPromise → IsSound site → BeginsEmpty past → AnsweredInTime site w.ends [] past → HaveOwnCauses site []
      past → KeepsPromise site past (trace_of (skipped_in past) w)
  promise_of of_entries relays_keep checked begins in_time own_causes = record {
    senders = all_of (λ (item : ConnId × Message). HasOneClient site w.ends item.0) w.sent h.heard.senders;
    receivers = all_of (λ (item : ConnId × Message). HasOneClient site w.ends item.0) w.received h.heard.receivers;
    received = all_of (λ (item : ConnId × Message). IsRightAnswer site (journal_then w.ends past w) item.0 item.1) w.received
        (received_right site w.ends past w h of_entries);
    in_time = in_time;
    own_causes = own_causes;
    not_more = no_more site w.ends past w h;
    legal = h.kept.legal;
    limit = h.heard.limit;
    within = subst (λ (most : ℕ). length w.book.history ≤ most) h.heard.limit h.kept.within;
    taken = all_of (IsOfRun site past w.sent) w.book.history (of_run site w.ends past w h);
    terms = h.heard.terms;
    begins = begins;
    set_up = all_of (KeepsSetUp site) past h.set_up;
    loops = all_of (RefusesLoop site) past h.loops;
    come_back = all_of (RefusesWhatComesBack site) past h.come_back;
    come_round = all_of (RefusesWhatComesRound site past) past (refuses_round checked);
    traffic = all_of (KeepsTraffic site) past h.traffic;
    skipped = all_of AppliedOrChangedNothing past h.skipped;
    applied = all_of (AppliesWhereItCan site) past h.applied;
    skips = skipped_are site past h.applied;
    small_steps = all_of (AppliesInSmallSteps site) past h.small_steps;
    book_and_ends = all_of (KeepsBookAndEnds site) past h.book_and_ends;
    fronts = all_of (KeepsFronts site) past h.fronts;
    relays = runs_as_relay site w.ends past w h relays_keep;
  }
