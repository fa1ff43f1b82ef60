-- What stays the same in a message that descends from another one.
use Rattle.std.proofs.Common.{◌≡◌, ℕ, Bool, true, false, List, [], ◌∷◌, ◌++◌, ◌↔◌, Result, Ok, Err, refl, ap, sym, ◌∙◌}
use Rattle.dia_base.specs.declared.number.ConnId.{ConnId}
use Rattle.dia_avp.specs.declared.avp.RawAvp.{RawAvp}
use Rattle.dia_avp.specs.declared.fault.AvpFault.{AvpFault}
use Rattle.dia_avp.specs.AvpList.{HasSpelling, IsSpelling, with_avp}
use Rattle.dia_avp.specs.AvpReading.{split_of}
use Rattle.dia_avp.proofs.Answering.{Reads-of}
use Rattle.dia_avp.proofs.Splitting.{Reads-only}
use Rattle.dia_message.specs.declared.message.Message.{Message}
use Rattle.cc_view.specs.Answer.{answer_to, refusal_of}
use Rattle.cc_view.specs.Forwarding.{IsForwarded, with_hop}
use Rattle.cc_view.specs.Readdressing as readdressing
use Rattle.cc_view.specs.Refusal.{avps_by}
use Rattle.dia_grammar.specs.Profile.{RequestProfile}
use Rattle.cc_view.specs.RequestView.{view_under}
use Rattle.cc_view.specs.declared.refusal.Refusal.{Refusal}
use Rattle.cc_view.specs.declared.reply.CcReply.{CcReply}
use Rattle.cc_view.specs.declared.request.CcRequest.{CcRequest}
use Rattle.relay_hops.specs.PendingTable.{under, again}
use Rattle.relay_routes.specs.Routing.{record_of, named_in, loops, names_node, IsLoop}
use Rattle.relay_core.specs.Forwarding.{Descends, same, renumbered, sent_again, recorded_by, with_record}
use Rattle.relay_core.specs.RelayState.{RelayState}
use Rattle.relay_core.specs.Verdict.{verdict, decision}
use Rattle.relay_core.proofs.Rules.{forwarded-by}

pub descends-on : (request passed last : Message) → Descends request passed → Descends passed last → Descends request last
descends-on request passed last d same = d
descends-on request passed last d (renumbered hop e) = renumbered hop (descends-on request passed _ d e)
descends-on request passed last d (sent_again hop e) = sent_again hop (descends-on request passed _ d e)
descends-on request passed last d (recorded_by peer spelled e) = recorded_by peer spelled (descends-on request passed _ d e)

pub same_end : (request passed : Message) → Descends request passed → passed.header.end ≡ request.header.end
same_end request passed same = refl
same_end request passed (renumbered hop d) = same_end request _ d
same_end request passed (sent_again hop d) = same_end request _ d
same_end request passed (recorded_by peer spelled d) = same_end request _ d

-- ---- the laws of the crates below

abbrev pub OneMore : Type 0
OneMore = (octets : List ℕ) (avps : List RawAvp) (avp : RawAvp) → IsSpelling octets avps → HasSpelling avp → IsSpelling (with_avp octets avp) (avps ++ avp ∷ [])

abbrev pub ReadsNoIdentifier : Type 0
ReadsNoIdentifier = (profile : RequestProfile) (message : Message) (hop end : ℕ) (resent : Bool) → view_under profile (readdressing.sent_again hop end resent message) ≡ view_under profile message

abbrev pub ViewForwarded : Type 0
ViewForwarded = (profile : RequestProfile) (request forwarded : Message) → IsForwarded request forwarded → view_under profile forwarded ≡ view_under profile request

abbrev pub AnswerForwarded : Type 0
AnswerForwarded = (front realm : List ℕ) (request forwarded : Message) (content : CcRequest) (reply : CcReply) → IsForwarded request forwarded →
    answer_to front realm forwarded content reply ≡ with_hop forwarded.header.hop (answer_to front realm request content reply)

abbrev pub RefusalForwarded : Type 0
RefusalForwarded = (node realm : List ℕ) (request forwarded : Message) (refusal : Refusal) → IsForwarded request forwarded →
    refusal_of node realm forwarded refusal ≡ with_hop forwarded.header.hop (refusal_of node realm request refusal)

abbrev pub RecordNames : Type 0
RecordNames = (node : List ℕ) (avps : List RawAvp) → names_node node (avps ++ record_of node ∷ []) ≡ true

abbrev pub NamesWithMore : Type 0
NamesWithMore = (node : List ℕ) (avps more : List RawAvp) → names_node node avps ≡ true → names_node node (avps ++ more) ≡ true

abbrev pub WhatLoops : Type 0
WhatLoops = (node body : List ℕ) → (loops node body ≡ true) ↔ IsLoop node body

-- ---- bodies

with_record-splits : OneMore → (peer : List ℕ) (message : Message) (avps : List RawAvp) → HasSpelling (record_of peer) → split_of message.body ≡ Ok avps → split_of (with_record peer message).body ≡ Ok (avps ++ record_of peer ∷ [])
with_record-splits law peer message avps spelled e =
    sym (Reads-only (with_avp message.body (record_of peer)) (Ok (avps ++ record_of peer ∷ [])) (law message.body avps (record_of peer) (Reads-of message.body (Ok avps) e) spelled))

splits : OneMore → (request passed : Message) (avps : List RawAvp) → split_of request.body ≡ Ok avps → Descends request passed → (others : List RawAvp) × (split_of passed.body ≡ Ok others)
splits law request passed avps e same = (avps, e)
splits law request passed avps e (renumbered hop d) = splits law request _ avps e d
splits law request passed avps e (sent_again hop d) = splits law request _ avps e d
splits law request passed avps e (recorded_by {passed = before} peer spelled d) =
    let s = splits law request before avps e d in (s.0 ++ record_of peer ∷ [], with_record-splits law peer before s.0 spelled s.1)

forwarded : OneMore → (request before : Message) (avps : List RawAvp) (peer : List ℕ) → HasSpelling (record_of peer) → split_of request.body ≡ Ok avps → Descends request before → IsForwarded before (with_record peer before)
forwarded law request before avps peer spelled e d =
    let s = splits law request before avps e d in
    record { avps = s.0; appended = record_of peer; is_record = refl; body = s.1; forwarded_body = with_record-splits law peer before s.0 spelled s.1; header = refl }

-- ---- view, answer and refusal

pub same_view : OneMore → ReadsNoIdentifier → ViewForwarded → (profile : RequestProfile) (request passed : Message) (avps : List RawAvp) → split_of request.body ≡ Ok avps → Descends request passed → view_under profile passed ≡ view_under profile request
same_view more reads view profile request passed avps e same = refl
same_view more reads view profile request passed avps e (renumbered {passed = before} hop d) =
    reads profile before hop before.header.end before.header.resent ∙ same_view more reads view profile request before avps e d
same_view more reads view profile request passed avps e (sent_again {passed = before} hop d) =
    reads profile before hop before.header.end true ∙ same_view more reads view profile request before avps e d
same_view more reads view profile request passed avps e (recorded_by {passed = before} peer spelled d) =
    view profile before (with_record peer before) (forwarded more request before avps peer spelled e d) ∙ same_view more reads view profile request before avps e d

answer-own : (front realm : List ℕ) (message : Message) (content : CcRequest) (reply : CcReply) → answer_to front realm message content reply ≡ with_hop message.header.hop (answer_to front realm message content reply)
unfolding answer_to
answer-own front realm message content reply = refl

answer-under : (front realm : List ℕ) (message : Message) (content : CcRequest) (reply : CcReply) (hop : ℕ) → answer_to front realm (under hop message) content reply ≡ with_hop hop (answer_to front realm message content reply)
unfolding answer_to
answer-under front realm message content reply hop = refl

answer-again : (front realm : List ℕ) (message : Message) (content : CcRequest) (reply : CcReply) (hop : ℕ) → answer_to front realm (again hop message) content reply ≡ with_hop hop (answer_to front realm message content reply)
unfolding answer_to
answer-again front realm message content reply hop = refl

pub same_answer : OneMore → AnswerForwarded → (front realm : List ℕ) (request passed : Message) (content : CcRequest) (reply : CcReply) (avps : List RawAvp) → split_of request.body ≡ Ok avps → Descends request passed
    → answer_to front realm passed content reply ≡ with_hop passed.header.hop (answer_to front realm request content reply)
same_answer more law front realm request passed content reply avps e same = answer-own front realm request content reply
same_answer more law front realm request passed content reply avps e (renumbered {passed = before} hop d) =
    answer-under front realm before content reply hop ∙ ap (with_hop hop) (same_answer more law front realm request before content reply avps e d)
same_answer more law front realm request passed content reply avps e (sent_again {passed = before} hop d) =
    answer-again front realm before content reply hop ∙ ap (with_hop hop) (same_answer more law front realm request before content reply avps e d)
same_answer more law front realm request passed content reply avps e (recorded_by {passed = before} peer spelled d) =
    law front realm before (with_record peer before) content reply (forwarded more request before avps peer spelled e d)
    ∙ ap (with_hop before.header.hop) (same_answer more law front realm request before content reply avps e d)

refusal-own : (node realm : List ℕ) (message : Message) (refusal : Refusal) → refusal_of node realm message refusal ≡ with_hop message.header.hop (refusal_of node realm message refusal)
unfolding refusal_of
refusal-own node realm message refusal = refl

refusal-under : (node realm : List ℕ) (message : Message) (refusal : Refusal) (hop : ℕ) → refusal_of node realm (under hop message) refusal ≡ with_hop hop (refusal_of node realm message refusal)
unfolding refusal_of
refusal-under node realm message refusal hop = refl

refusal-again : (node realm : List ℕ) (message : Message) (refusal : Refusal) (hop : ℕ) → refusal_of node realm (again hop message) refusal ≡ with_hop hop (refusal_of node realm message refusal)
unfolding refusal_of
refusal-again node realm message refusal hop = refl

pub same_refusal : OneMore → RefusalForwarded → (node realm : List ℕ) (request passed : Message) (refusal : Refusal) (avps : List RawAvp) → split_of request.body ≡ Ok avps → Descends request passed
    → refusal_of node realm passed refusal ≡ with_hop passed.header.hop (refusal_of node realm request refusal)
same_refusal more law node realm request passed refusal avps e same = refusal-own node realm request refusal
same_refusal more law node realm request passed refusal avps e (renumbered {passed = before} hop d) =
    refusal-under node realm before refusal hop ∙ ap (with_hop hop) (same_refusal more law node realm request before refusal avps e d)
same_refusal more law node realm request passed refusal avps e (sent_again {passed = before} hop d) =
    refusal-again node realm before refusal hop ∙ ap (with_hop hop) (same_refusal more law node realm request before refusal avps e d)
same_refusal more law node realm request passed refusal avps e (recorded_by {passed = before} peer spelled d) =
    law node realm before (with_record peer before) refusal (forwarded more request before avps peer spelled e d)
    ∙ ap (with_hop before.header.hop) (same_refusal more law node realm request before refusal avps e d)

-- ---- a request that is forwarded does not loop

named-none : (relay : RelayState) (sender : List ℕ) (request : Message) (r : Result (List RawAvp) AvpFault) (to : ConnId) → verdict relay sender request (avps_by request.body r) ≡ Ok to → named_in relay.node.name r ≡ false
named-none relay sender request (Err fault) to e = refl
named-none relay sender request (Ok avps) to e =
    let by = forwarded-by relay sender request (Ok avps) to e in
    let its : Ok avps ≡ Ok by.2.0 = by.2.1 in let same_avps : by.2.0 ≡ avps = cc in
    sym (ap (λ (xs : List RawAvp). names_node relay.node.name xs) same_avps) ∙ by.2.2

pub forwarded-no_loop : (relay : RelayState) (sender : List ℕ) (request : Message) (to : ConnId) → decision relay sender request ≡ Ok to → loops relay.node.name request.body ≡ false
forwarded-no_loop relay sender request to e = named-none relay sender request (split_of request.body) to e

-- ---- a request that comes back loops

-- the body splits into AVPs, of which one is a Route-Record of the node
abbrev Names : List ℕ → List ℕ → Type 0
Names node body = (avps : List RawAvp) × (split_of body ≡ Ok avps) × (names_node node avps ≡ true)

names-descended : OneMore → NamesWithMore → (node : List ℕ) (request last : Message) → Names node request.body → Descends request last → Names node last.body
names-descended more goes_on node request last names same = names
names-descended more goes_on node request last names (renumbered hop d) = names-descended more goes_on node request _ names d
names-descended more goes_on node request last names (sent_again hop d) = names-descended more goes_on node request _ names d
names-descended more goes_on node request last names (recorded_by {passed = before} peer spelled d) =
    let s = names-descended more goes_on node request before names d in
    (s.0 ++ record_of peer ∷ [], with_record-splits more peer before s.0 spelled s.1, goes_on node s.0 (record_of peer ∷ []) s.2)

loop-named : WhatLoops → (node body : List ℕ) → Names node body → IsLoop node body
loop-named law node body names = (law node body).0 (ap (named_in node) names.1 ∙ names.2)

pub loop-back : OneMore → RecordNames → NamesWithMore → WhatLoops → (node : List ℕ) (request last : Message) (avps : List RawAvp) → HasSpelling (record_of node) → split_of request.body ≡ Ok avps
    → Descends (with_record node request) last → IsLoop node last.body
loop-back more record_names goes_on law node request last avps spelled e d =
    let names : Names node (with_record node request).body = (avps ++ record_of node ∷ [], with_record-splits more node request avps spelled e, record_names node avps) in
    loop-named law node last.body (names-descended more goes_on node (with_record node request) last names d)
