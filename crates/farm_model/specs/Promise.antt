-- What is promised of every run: who is answered what, and what the book stands on.
use Rattle.std.specs.Prelude.{◌≡◌, ◌≢◌, ℕ, ◌-◌, ◌≤◌, true, false, ◌&&◌, ◌||◌, List, [], ◌∷◌, ◌++◌, All, Contains, length, Some, Ok, slice_get}
use Rattle.dia_base.specs.declared.number.ConnId.{ConnId}
use Rattle.dia_base.specs.declared.number.Moment.{Moment}
use Rattle.dia_base.specs.declared.number.NodeNo.{NodeNo}
use Rattle.dia_avp.specs.declared.avp.RawAvp.{RawAvp}
use Rattle.dia_avp.specs.AvpReading.{split_of}
use Rattle.dia_message.specs.declared.message.Message.{Message}
use Rattle.dia_message.specs.Traffic.{Traffic}
use Rattle.cc_view.specs.declared.code.ResultCode.TheVariants.{LoopDetected, UnableToComply}
use Rattle.cc_view.specs.declared.refusal.Refusal.{Refusal}
use Rattle.cc_view.specs.declared.reply.CcReply.{CcReply}
use Rattle.cc_view.specs.declared.request.CcRequest.{CcRequest}
use Rattle.cc_view.specs.Answer.{refusal_of}
use Rattle.cc_view.specs.Refusal.{refusal_with}
use Rattle.cc_view.specs.RequestView.{view_under}
use Rattle.cc_book.specs.declared.entry.Entry.{Entry}
use Rattle.cc_book.specs.declared.entry.Entry.TheVariants.{Take, Sweep, ChangeTerms}
use Rattle.cc_book.specs.declared.terms.Terms.{Terms}
use Rattle.cc_book.specs.declared.terms_change.TermsChange.{TermsChange}
use Rattle.cc_book.specs.AccountMachine.{code_alone, reply_to}
use Rattle.cc_book.specs.Duplicate.{key_of, same_key}
use Rattle.cc_book.specs.History.{IsLegal}
use Rattle.cc_book.specs.Taking.{Ledger}
use Rattle.front_core.specs.Answered.{IsBookAnswer}
use Rattle.front_core.specs.Counts.{requests_with, answers_with}
use Rattle.relay_routes.specs.Routing.{IsLoop}
use Rattle.relay_core.specs.Forwarding.{Descends, with_record}
use Rattle.farm_base.specs.declared.site.Node.{Node}
use Rattle.dia_base.specs.declared.node.NodeKind.TheVariants.{Front}
use Rattle.farm_base.specs.declared.site.Site.{Site}
use Rattle.farm_base.specs.FrontProfile.{front_profile}
use Rattle.farm_model.specs.declared.state.Direction.{Direction}
use Rattle.farm_model.specs.declared.state.Trace.{Trace}
use Rattle.farm_base.specs.declared.step.Step.{Step}
use Rattle.farm_base.specs.declared.step.Step.TheVariants.{Charge, Deliver}
use Rattle.farm_model.specs.Applying.{AppliesWhereItCan, could_not_apply}
use Rattle.farm_model.specs.BookAndEnds.{KeepsBookAndEnds}
use Rattle.farm_model.specs.Cause.{HasCause}
use Rattle.farm_model.specs.ComingRound.{HasComeRound}
use Rattle.farm_model.specs.FarmStep.{flight_at}
use Rattle.farm_model.specs.FrontTurns.{KeepsFronts}
use Rattle.farm_model.specs.InFlight.{KeepsTraffic}
use Rattle.farm_base.specs.Nodes.{is_node, is_client, is_relay, is_linked}
use Rattle.farm_model.specs.OwnCauses.{HaveOwnCauses}
use Rattle.farm_model.specs.RelayRuns.{RunsAsRelay}
use Rattle.farm_model.specs.Run.{Past, Transition, IsTrace, steps_in, front_site}
use Rattle.farm_model.specs.World.{Ends, WorldState, with_message_from}
use Rattle.farm_model.specs.SetUp.{BeginsEmpty, KeepsSetUp}
use Rattle.farm_model.specs.SmallSteps.{AppliesInSmallSteps}

-- What all states of a run share, and what grows alone as it goes on: the transitions so far, the connections
-- that were made, what clients have sent, and the book.
pub record Journal : Type 0 where
  pub past : Past
  pub ends : Ends
  pub sent : Traffic
  pub book : Ledger

abbrev pub journal_of : Past → Trace → Journal
journal_of past trace = record { past = past; ends = trace.ends; sent = trace.sent; book = trace.book }

-- ---- connections and their nodes

-- the node is one of the two that the connection joins. Connections are numbered from 1.
pub record IsEndOf (ends : Ends) (conn : ConnId) (node : NodeNo) : Type 0 where
  pub numbered : 1 ≤ conn.0
  pub nodes : NodeNo × NodeNo
  pub made : slice_get ends (conn.0 - 1) ≡ Some nodes
  pub joined : (is_node nodes.0 node || is_node nodes.1 node) ≡ true

-- the node has this name
pub record IsNamed (site : Site) (node : NodeNo) (name : List ℕ) : Type 0 where
  pub found : Node
  pub at_place : slice_get site.nodes node.0 ≡ Some found
  pub called : found.name ≡ name

-- the node is a front of this name
pub record IsFrontNamed (site : Site) (node : NodeNo) (name : List ℕ) : Type 0 where
  pub found : Node
  pub at_place : slice_get site.nodes node.0 ≡ Some found
  pub kind : found.kind ≡ Front
  pub called : found.name ≡ name

-- What a node answers comes to another one: to itself, or to a relay that is linked with a node that it comes to.
pub data ComesTo (site : Site) (node : NodeNo) : NodeNo → Type 0 where
  by_itself : ComesTo site node node
  by_relay : {relay next : NodeNo} → is_relay site relay ≡ true → is_linked site relay next ≡ true → ComesTo site node next → ComesTo site node relay

-- The node answers on the connection: it is at an end of it, or a relay is, which is linked with a node that its
-- answers come to. The other end of a connection with a client is that client.
pub data AnswersOn (site : Site) (ends : Ends) (conn : ConnId) (node : NodeNo) : Type 0 where
  itself : IsEndOf ends conn node → AnswersOn site ends conn node
  over_relay : (relay next : NodeNo) → IsEndOf ends conn relay → is_relay site relay ≡ true → is_linked site relay next ≡ true → ComesTo site node next →
      AnswersOn site ends conn node

-- The connection was made between a client and a node that is none, so it has one client. Connections are
-- numbered from 1.
pub record HasOneClient (site : Site) (ends : Ends) (conn : ConnId) : Type 0 where
  pub numbered : 1 ≤ conn.0
  pub nodes : NodeNo × NodeNo
  pub made : slice_get ends (conn.0 - 1) ≡ Some nodes
  pub a_client : (is_client site nodes.0 || is_client site nodes.1) ≡ true
  pub not_both : (is_client site nodes.0 && is_client site nodes.1) ≡ false

-- ---- requests and answers

-- a client sent the message on the connection
abbrev pub WasSent : Traffic → ConnId → Message → Type 0
WasSent sent conn message = Contains sent (conn, message)

-- the message is a request: it has the flag R (RFC 6733, section 3)
abbrev pub WasRequested : Traffic → ConnId → Message → Type 0
WasRequested sent conn message = WasSent sent conn message × (message.header.request ≡ true)

-- The account machine's reply to a request: where this very request stands in the book, the reply to it, after the
-- entries before it; where another content stands there with its key, DIAMETER_UNABLE_TO_COMPLY alone.
pub data IsMachineReply (book : Ledger) (request : CcRequest) (reply : CcReply) : Type 0 where
  to_this :
      (before : List Entry) (moment : Moment) (after : List Entry) → book.history ≡ before ++ Take moment request ∷ after
      → reply ≡ reply_to book.terms before request → IsMachineReply book request reply
  to_another_content :
      (before : List Entry) (moment : Moment) (taken : CcRequest) (after : List Entry) → book.history ≡ before ++ Take moment taken ∷ after
      → same_key (key_of taken) (key_of request) ≡ true → taken ≢ request → reply ≡ code_alone UnableToComply → IsMachineReply book request reply

-- The answer of a front to a request that a client sent on the connection, with the account machine's reply to it.
pub record AnswersRequest (site : Site) (journal : Journal) (conn : ConnId) (answer : Message) : Type 0 where
  pub node : NodeNo
  pub name : List ℕ
  pub front : IsFrontNamed site node name
  pub on : AnswersOn site journal.ends conn node
  pub message : Message
  pub requested : WasRequested journal.sent conn message
  pub answered : IsBookAnswer (front_site site name) journal.book message answer
  pub by_machine : IsMachineReply journal.book answered.request answered.reply

-- What a node refused for a message on the connection: that message there, or, where a relay is at an end of the
-- connection, one that descends from it. The node is then this relay, or one beyond it, whose answers come to it over links.
pub data IsRefusedThere (site : Site) (ends : Ends) (conn : ConnId) (message : Message) (node : NodeNo) : ConnId → Message → Type 0 where
  itself : IsEndOf ends conn node → IsRefusedThere site ends conn message node conn message
  over_relay : (relay : NodeNo) (at : ConnId) (there : Message) → IsEndOf ends conn relay → is_relay site relay ≡ true → ComesTo site node relay →
      Descends message there →
      IsRefusedThere site ends conn message node at there

-- a node's refusal of a request that a client sent on the connection, with a cause that the farm showed at a
-- transition of this run
pub record RefusesRequest (site : Site) (journal : Journal) (conn : ConnId) (answer : Message) : Type 0 where
  pub node : NodeNo
  pub name : List ℕ
  pub named : IsNamed site node name
  pub message : Message
  pub requested : WasRequested journal.sent conn message
  pub at : ConnId
  pub there : Message
  pub refused : IsRefusedThere site journal.ends conn message node at there
  pub refusal : Refusal
  pub transition : Transition
  pub passed : Contains journal.past transition
  pub cause : HasCause transition node at there refusal
  pub written : answer ≡ refusal_of name site.realm message refusal

-- what a client received, by the flag E (RFC 6733, section 3)
pub record IsRightAnswer (site : Site) (journal : Journal) (conn : ConnId) (answer : Message) : Type 0 where
  pub answered : answer.header.error ≡ false → AnswersRequest site journal conn answer
  pub refused : answer.header.error ≡ true → RefusesRequest site journal conn answer

-- ---- in time

-- the journal as far as the run has come, with the connections that are made in it
abbrev pub journal_then : Ends → Past → WorldState → Journal
journal_then ends past w = record { past = past; ends = ends; sent = w.sent; book = w.book }

-- What clients have received after each of these transitions is right by what has happened until then, and nothing that
-- comes later: the request had been sent, the book had its entry, and the cause of a refusal had been shown.
abbrev pub AnsweredInTime : Site → Ends → Past → Past → Type 0
AnsweredInTime site ends before [] = Unit {0}
AnsweredInTime site ends before (t ∷ past) =
    All (λ item. IsRightAnswer site (journal_then ends (before ++ t ∷ []) t.after) item.0 item.1) t.after.received ×
    AnsweredInTime site ends (before ++ t ∷ []) past

-- ---- the book's entries

-- the run has a step that sweeps at this moment
abbrev pub WasSwept : Past → Moment → Type 0
WasSwept past moment = Contains (steps_in past) (Rattle.farm_base.specs.declared.step.Step.TheVariants.Sweep moment)

-- the run has a step that charges at this moment
abbrev pub WasCharged : Past → Moment → Type 0
WasCharged past moment = (front : NodeNo) × (worker : ℕ) × Contains (steps_in past) (Charge front worker moment)

-- the run has a step that changes the terms so at this moment
abbrev pub WasChanged : Past → Moment → TermsChange → Type 0
WasChanged past moment change = Contains (steps_in past) (Rattle.farm_base.specs.declared.step.Step.TheVariants.ChangeTerms moment change)

-- An entry of the history takes what is read in a request that a client sent, at the moment of a step of the run that charges. Or it is
-- a sweep or a change of the terms of a step of the run.
abbrev pub IsOfRun : Site → Past → Traffic → Entry → Type 0
IsOfRun site past sent (Take moment request) = (conn : ConnId) × (message : Message) × WasRequested sent conn message ×
    (view_under (front_profile site) message ≡ Ok request) × WasCharged past moment
IsOfRun site past sent (Sweep moment) = WasSwept past moment
IsOfRun site past sent (ChangeTerms moment change) = WasChanged past moment change

-- ---- loops

-- The step delivers a request to a relay: wherever this holds of the relay, its name and the request, it puts
-- DIAMETER_LOOP_DETECTED in flight on the connection that it came on, as long as the other node has not dropped that
-- (then it goes nowhere), and nothing else happens.
abbrev pub RefusesAsLoop : (NodeNo → List ℕ → Message → Type 0) → Site → Transition → Type 0
RefusesAsLoop Loops site t = (from node : NodeNo) (place : ℕ) (conn : ConnId) (message : Message) (directions : List Direction) (name : List ℕ) →
    t.step ≡ Deliver from node place →
    flight_at t.before.directions from node place ≡ Some (record { conn = conn; message = message; directions = directions }) → message.header.request ≡ true →
    is_relay site node ≡ true → IsNamed site node name → Loops node name message →
    t.after ≡ record t.before { directions = with_message_from node directions conn (refusal_of name site.realm message (refusal_with LoopDetected)) }

-- where it finds itself in a Route-Record (RFC 6733, section 6.1.3)
abbrev pub RefusesLoop : Site → Transition → Type 0
RefusesLoop site t = RefusesAsLoop (λ node name message. IsLoop name message.body) site t

-- whatever a relay of this name may have sent, once another node has forwarded it, however it went from there
pub record HasComeBack (name : List ℕ) (message : Message) : Type 0 where
  pub sent : Message
  pub avps : List RawAvp
  pub splits : split_of sent.body ≡ Ok avps
  pub descends : Descends (with_record name sent) message

-- where it comes back to it: no relay forwards that
abbrev pub RefusesWhatComesBack : Site → Transition → Type 0
RefusesWhatComesBack site t = RefusesAsLoop (λ node name message. HasComeBack name message) site t

-- where the relay sent it in this run, and other relays sent it on, one after the other
abbrev pub RefusesWhatComesRound : Site → Past → Transition → Type 0
RefusesWhatComesRound site past t = RefusesAsLoop (λ node name message. HasComeRound site past node message) site t

-- ---- steps that do not apply

-- the step applied, or has changed nothing
abbrev pub AppliedOrChangedNothing : Transition → Type 0
AppliedOrChangedNothing t = t.applied ≡ false → t.after ≡ t.before

-- ---- what the book is opened with

-- the site's accounts with their opening amounts, its prices, its validity and its money
abbrev pub terms_of : Site → Terms
terms_of site = record {
  accounts = site.accounts;
  closed = [];
  tariffs = site.tariffs;
  validity = site.validity;
  money = record { currency = site.currency; exponent = site.exponent };
}

-- ---- the whole

-- What is promised of the trace of a run with these transitions. Balances, reservations and open sessions are those
-- of the history by the book's own calls.
pub record KeepsPromise (site : Site) (past : Past) (trace : Trace) : Type 0 where
  pub senders : All (λ item. HasOneClient site trace.ends item.0) trace.sent
  pub receivers : All (λ item. HasOneClient site trace.ends item.0) trace.received
  pub received : All (λ item. IsRightAnswer site (journal_of past trace) item.0 item.1) trace.received
  pub in_time : AnsweredInTime site trace.ends [] past
  pub own_causes : HaveOwnCauses site [] past
  pub not_more : (conn : ConnId) (hop end : ℕ) → answers_with trace.received conn hop end ≤ requests_with trace.sent conn hop end
  pub legal : IsLegal trace.book.terms trace.book.history
  pub limit : trace.book.limit ≡ site.limit
  pub within : length trace.book.history ≤ site.limit
  pub taken : All (IsOfRun site past trace.sent) trace.book.history
  pub terms : trace.book.terms ≡ terms_of site
  pub begins : BeginsEmpty past
  pub set_up : All (KeepsSetUp site) past
  pub loops : All (RefusesLoop site) past
  pub come_back : All (RefusesWhatComesBack site) past
  pub come_round : All (RefusesWhatComesRound site past) past
  pub traffic : All (KeepsTraffic site) past
  pub skipped : All AppliedOrChangedNothing past
  pub applied : All (AppliesWhereItCan site) past
  pub skips : trace.skipped ≡ could_not_apply site past
  pub small_steps : All (AppliesInSmallSteps site) past
  pub book_and_ends : All (KeepsBookAndEnds site) past
  pub fronts : All (KeepsFronts site) past
  pub relays : (node : NodeNo) (name : List ℕ) → is_relay site node ≡ true → IsNamed site node name → RunsAsRelay site past node name

-- the trace of a run of these steps, one after the other, which keeps the promise
pub record IsPromised (site : Site) (steps : List Step) (trace : Trace) : Type 0 where
  pub past : Past
  pub steps_are : steps_in past ≡ steps
  pub is_trace : IsTrace site past trace
  pub promise : KeepsPromise site past trace
