-- What an answer keeps of what it answers, and that it stays one when the book and the refusals grow.
use Rattle.std.proofs.Common.{◌≡◌, ◌⊎◌, ℕ, Bool, true, false, List, inl, inr, Ok, refl, sym, subst, ap, ◌∙◌}
use Rattle.dia_base.specs.declared.number.ConnId.{ConnId}
use Rattle.dia_base.specs.declared.number.NodeNo.{NodeNo}
use Rattle.dia_avp.specs.declared.avp.RawAvp.{RawAvp}
use Rattle.dia_avp.specs.AvpReading.{split_of}
use Rattle.dia_message.specs.declared.message.Message.{Message}
use Rattle.cc_view.specs.Answer.{answer_to, refusal_of}
use Rattle.cc_view.specs.declared.refusal.Refusal.{Refusal}
use Rattle.cc_view.specs.declared.reply.CcReply.{CcReply}
use Rattle.cc_view.specs.declared.request.CcRequest.{CcRequest}
use Rattle.cc_book.specs.Taking.{Ledger}
use Rattle.front_core.specs.declared.site.FrontSite.{FrontSite}
use Rattle.front_core.specs.Answered.{IsBookAnswer}
use Rattle.relay_core.specs.Forwarding.{Descends}
use Rattle.relay_hops.specs.PendingTable.{under}
use Rattle.farm_law.specs.Answers.{IsToldBy, by_relay, Answers, of_front, of_refusal}
use Rattle.farm_law.specs.Farm.{Refused}
use Rattle.farm_law.specs.Invariant.{Fits}
use Rattle.farm_law.specs.Lists.{Has}
use Rattle.farm_law.specs.Parties.{Parties}
use Rattle.farm_law.proofs.Premises.{Premises}
use Rattle.farm_law.proofs.Weighing.{clash}

-- ---- headers

-- an answer has the identifiers of what it answers
pub record HasIdentifiers (message answer : Message) : Type 0 where
  pub flag : answer.header.request ≡ false
  pub hop : answer.header.hop ≡ message.header.hop
  pub end : answer.header.end ≡ message.header.end

answer_header : (front realm : List ℕ) (message answer : Message) (request : CcRequest) (reply : CcReply) →
    answer ≡ answer_to front realm message request reply → HasIdentifiers message answer
unfolding answer_to
answer_header front realm message answer request reply e = record {
  flag = ap (λ (m : Message). m.header.request) e;
  hop = ap (λ (m : Message). m.header.hop) e;
  end = ap (λ (m : Message). m.header.end) e;
}

pub refusal_header : (node realm : List ℕ) (message answer : Message) (refusal : Refusal) → answer ≡ refusal_of node realm message refusal →
    HasIdentifiers message answer
unfolding refusal_of
refusal_header node realm message answer refusal e = record {
  flag = ap (λ (m : Message). m.header.request) e;
  hop = ap (λ (m : Message). m.header.hop) e;
  end = ap (λ (m : Message). m.header.end) e;
}

under_answer : (front realm : List ℕ) (message : Message) (request : CcRequest) (reply : CcReply) →
    under message.header.hop (answer_to front realm message request reply) ≡ answer_to front realm message request reply
unfolding answer_to
under_answer front realm message request reply = refl

under_refusal : (node realm : List ℕ) (message : Message) (refusal : Refusal) →
    under message.header.hop (refusal_of node realm message refusal) ≡ refusal_of node realm message refusal
unfolding refusal_of
under_refusal node realm message refusal = refl

pub identifiers : {p : Parties} {book : Ledger} {refused : List Refused} {node : NodeNo} {conn : ConnId} {message answer : Message} →
    Answers p book refused node conn message answer → HasIdentifiers message answer
identifiers {p} {message = message} {answer = answer} (of_front front is_front tells a) =
    answer_header (p.front_site (p.name_of front)).name (p.front_site (p.name_of front)).realm message answer a.request a.reply a.written
identifiers {p} {message = message} {answer = answer} (of_refusal at tells d has e) = refusal_header (p.name_of at.node) p.realm message answer at.refusal e

-- ---- on the way back

-- a relay has an answer from a node: it is linked with it, or it is that node
abbrev pub HasFrom : Parties → NodeNo → NodeNo → Type 0
HasFrom p relay node = (p.is_linked relay node ≡ true) ⊎ (node ≡ relay)

told_on : (p : Parties) (author relay node : NodeNo) → p.is_relay relay ≡ true → HasFrom p relay node → IsToldBy p author node → IsToldBy p author relay
told_on p author relay node is_relay (inl linked) told = by_relay is_relay linked told
told_on p author relay node is_relay (inr same) told = subst (IsToldBy p author) same told

-- an answer to what descends from a message answers that message, once it has the hop of it and a relay tells it
pub answers_back : (l : Premises) (p : Parties) {book : Ledger} {refused : List Refused} {node relay : NodeNo} {conn c : ConnId}
    {first message answer : Message} (avps : List RawAvp) →
    p.is_relay relay ≡ true → HasFrom p relay node → split_of first.body ≡ Ok avps → Descends first message →
    Answers p book refused node conn message answer → Answers p book refused relay c first (under first.header.hop answer)
answers_back l p {node = node} {relay = relay} {first = first} {message = message} avps is_relay from sp d (of_front front is_front tells a) =
    of_front front is_front (told_on p front relay node is_relay from tells) (record {
      request = a.request;
      view = sym (l.same_view site.profile first message avps sp d) ∙ a.view;
      reply = a.reply;
      kept = a.kept;
      written =
          ap (under first.header.hop) (a.written ∙ l.same_answer site.name site.realm first message a.request a.reply avps sp d)
          ∙ under_answer site.name site.realm first a.request a.reply;
    })
  where
    site : FrontSite
    site = p.front_site (p.name_of front)
answers_back l p {node = node} {relay = relay} {first = first} {message = message} avps is_relay from sp d (of_refusal at tells k has e) =
    of_refusal at (told_on p at.node relay node is_relay from tells.0, inl is_relay) (l.descends_on first message at.request d k) has (
    ap (under first.header.hop) (e ∙ l.same_refusal (p.name_of at.node) p.realm first message at.refusal avps sp d)
    ∙ under_refusal (p.name_of at.node) p.realm first at.refusal)

-- ---- growth

-- what the one book answers and the one list of refusals has, the other does and has
pub record Grows (book : Ledger) (refused : List Refused) (next_book : Ledger) (next_refused : List Refused) : Type 0 where
  pub answered : (site : FrontSite) (message answer : Message) → IsBookAnswer site book message answer → IsBookAnswer site next_book message answer
  pub refused_still : (at : Refused) → Has at refused → Has at next_refused

module _ {p : Parties} {book next_book : Ledger} {refused next_refused : List Refused} (g : Grows book refused next_book next_refused) where
  pub Answers-grows : {node : NodeNo} {conn : ConnId} {message answer : Message} → Answers p book refused node conn message answer →
      Answers p next_book next_refused node conn message answer
  Answers-grows {message = message} {answer = answer} (of_front front is_front tells a) =
      of_front front is_front tells (g.answered (p.front_site (p.name_of front)) message answer a)
  Answers-grows (of_refusal at tells d has e) = of_refusal at tells d (g.refused_still at has) e

  pub Fits-grows : {node : NodeNo} {conn : ConnId} {message asked : Message} → Fits p book refused node conn message asked →
      Fits p next_book next_refused node conn message asked
  Fits-grows f = record { request = f.request; answer = λ e. Answers-grows (f.answer e) }

-- ---- what fits

-- a request is itself what was asked
pub Fits-self : (p : Parties) (book : Ledger) (refused : List Refused) (node : NodeNo) (conn : ConnId) (message : Message) →
    message.header.request ≡ true → Fits p book refused node conn message message
Fits-self p book refused node conn message e = record { request = λ _. refl; answer = λ f. absurd (clash e f) }

-- and what answers it fits it
pub Fits-answer : {p : Parties} {book : Ledger} {refused : List Refused} {node : NodeNo} {conn : ConnId} {asked answer : Message} →
    answer.header.request ≡ false → Answers p book refused node conn asked answer → Fits p book refused node conn answer asked
Fits-answer e a = record { request = λ f. absurd (clash f e); answer = λ _. a }

pub Fits-hop : (p : Parties) (book : Ledger) (refused : List Refused) (node : NodeNo) (conn : ConnId) (message asked : Message) →
    Fits p book refused node conn message asked → asked.header.hop ≡ message.header.hop
Fits-hop p book refused node conn message asked f = go message.header.request refl
  where
    go : (b : Bool) → message.header.request ≡ b → asked.header.hop ≡ message.header.hop
    go true e = sym (ap (λ (m : Message). m.header.hop) (f.request e))
    go false e = sym (identifiers (f.answer e)).hop
