-- Answers and refusals fit into a message, and are read back.
use Rattle.std.proofs.Common.{◌≡◌, ℕ, ◌+◌, ◌≤◌, List, [], ◌∷◌, ◌++◌, length, Bool, true, false, cond, ◌||◌, eqb, All, sum_by, filter, find, Option, Some, None, option_map, Result, Ok, Err, refl, sym, ap, subst, ◌∙◌, arith, lit≤}
use Rattle.std.specs.Option.{unwrap_or}
use Rattle.std.proofs.lemmas.Bool.{and_parts, eqb-true, leb-true, ltb-false}
use Rattle.std.proofs.lemmas.List.Elements.{All-cons, All-filter, All-nil}
use Rattle.std.proofs.lemmas.List.Sums.{sum_by-cons}
use Rattle.dia_base.specs.Identity.{IsIdentity}
use Rattle.dia_avp.specs.declared.avp.RawAvp.{RawAvp}
use Rattle.dia_avp.specs.declared.fault.AvpFault.{AvpFault}
use Rattle.dia_avp.specs.AvpList.{AreOctets, HasSpelling, Reads, has_vendor, length_of, padding_of}
use Rattle.dia_avp.specs.AvpReading.{split_of}
use Rattle.dia_avp.proofs.Padding.{All-HasSpelling-read}
use Rattle.dia_avp.proofs.ReadBack.{IsSpelling-written_list}
use Rattle.dia_avp.proofs.Splitting.{split_of-reads}
use Rattle.dia_message.specs.declared.header.Header.{Header}
use Rattle.dia_message.specs.declared.message.Message.{Message}
use Rattle.dia_message.specs.Header.{HasOctets}
use Rattle.dia_base.specs.Codes.{auth_application_id, cc_request_number, cc_request_type, session_id, cc_session_failover, credit_control_application, failed_avp, proxy_info, result_code}
use Rattle.dia_grammar.specs.Grammar.{is_of}
use Rattle.dia_grammar.specs.Profile.{RequestProfile}
use Rattle.cc_view.specs.declared.code.ResultCode.{ResultCode}
use Rattle.cc_view.specs.declared.code.ResultCode.TheVariants.{Success}
use Rattle.cc_view.specs.declared.refusal.Refusal.{Refusal}
use Rattle.cc_view.specs.declared.reply.CcReply.{CcReply}
use Rattle.cc_view.specs.declared.request.CcRequest.{CcRequest}
use Rattle.cc_view.specs.declared.request.RequestKind.{RequestKind}
use Rattle.cc_view.specs.declared.request.RequestKind.TheVariants.{Initial}
use Rattle.cc_view.specs.Answer.{answer_avps, answer_header, answer_to, command_part, failover_part, origin_part, refusal_avps, refusal_of, session_part, units_part}
use Rattle.cc_view.specs.Answer.Carried.{carriable_avps, carried_len, carries_too_much, is_carried, padded_len, proxies_in, session_in}
use Rattle.cc_view.specs.RequestView.Content.{octets_in}
use Rattle.cc_view.specs.Refusal.FailedAvp.{failed_part, is_copied}
use Rattle.cc_view.specs.Answer.Fitting.{Fits, IsReadBack}
use Rattle.cc_view.specs.Request.Number.{kind_number}
use Rattle.cc_view.specs.RequestView.{view_under}
use Rattle.cc_view.specs.ResultNumber.{number_of}
use Rattle.cc_view.specs.Answer.Writing.{group_avp, octets_avp, spelling_of, u32_avp}
use Rattle.cc_view.proofs.Drafts.{spelled_len}
use Rattle.cc_view.proofs.Fitting.{Takes, spelling_of-whole, spelled_len-cons, spelling, takes-append, takes-group, takes-more, takes-nil, takes-u32}
use Rattle.cc_view.proofs.FittingUnits.{takes-origin, takes-units}
use Rattle.cc_view.proofs.Sessions.{session_found}
use Rattle.cc_view.proofs.ViewedSessions.{session_part-viewed, viewed_avps}

-- ---- what is carried

-- a Session-Id is written in no more octets than it was received in
session-shorter : (avp : RawAvp) → padded_len (octets_avp session_id avp.value) ≤ padded_len avp
session-shorter avp = by_header (has_vendor avp.flags) (length avp.value)
  where
    by_header : (vendor : Bool) (n : ℕ) → (8 + n) + padding_of (8 + n) ≤ (cond vendor 12 8 + n) + padding_of (cond vendor 12 8 + n)
    by_header true n = omega arith
    by_header false n = omega arith

proxy_step : (session proxy : Bool) (avp : RawAvp) (proxies carried : List RawAvp) → spelled_len proxies ≤ sum_by padded_len carried
    → spelled_len (cond proxy (avp ∷ proxies) proxies) ≤ sum_by padded_len (cond (session || proxy) (avp ∷ carried) carried)
proxy_step true true avp proxies carried le = omega (arith, le, spelled_len-cons avp proxies, sum_by-cons padded_len avp carried)
proxy_step true false avp proxies carried le = omega (arith, le, sum_by-cons padded_len avp carried)
proxy_step false true avp proxies carried le = omega (arith, le, spelled_len-cons avp proxies, sum_by-cons padded_len avp carried)
proxy_step false false avp proxies carried le = le

proxies-carried : (avps : List RawAvp) → spelled_len (proxies_in avps) ≤ carried_len avps
proxies-carried [] = lit≤ tt
proxies-carried (avp ∷ avps) = proxy_step (is_of session_id avp) (is_of proxy_info avp) avp (proxies_in avps) (filter is_carried avps) (proxies-carried avps)

-- no AVP is both
no_session : (avp : RawAvp) → is_of session_id avp ≡ true → is_of proxy_info avp ≡ false
no_session avp e = other (is_of proxy_info avp) refl
  where
    other : (b : Bool) → is_of proxy_info avp ≡ b → b ≡ false
    other true is =
        let a : avp.code ≡ 263 = eqb-true avp.code 263 (and_parts (eqb avp.vendor 0) (eqb avp.code 263) e).1 in
        let c : avp.code ≡ 284 = eqb-true avp.code 284 (and_parts (eqb avp.vendor 0) (eqb avp.code 284) is).1 in
        absurd (omega (arith, a, c))
    other false is = refl

both_step : (session proxy : Bool) (avp : RawAvp) (found : Option RawAvp) (proxies carried : List RawAvp) → (session ≡ true → proxy ≡ false) → spelled_len proxies ≤ sum_by padded_len carried
    → spelled_len (session_found found) + spelled_len proxies ≤ sum_by padded_len carried
    → spelled_len (session_found (cond session (Some avp) found)) + spelled_len (cond proxy (avp ∷ proxies) proxies) ≤ sum_by padded_len (cond (session || proxy) (avp ∷ carried) carried)
both_step true true avp found proxies carried other le more = let no : true ≡ false = other refl in absurd cc
both_step true false avp found proxies carried other le more =
    omega (arith, le, spelled_len-cons (octets_avp session_id avp.value) [], session-shorter avp, sum_by-cons padded_len avp carried)
both_step false true avp found proxies carried other le more = omega (arith, more, spelled_len-cons avp proxies, sum_by-cons padded_len avp carried)
both_step false false avp found proxies carried other le more = more

both-carried : (avps : List RawAvp) → spelled_len (session_in avps) + spelled_len (proxies_in avps) ≤ carried_len avps
both-carried [] = lit≤ tt
both-carried (avp ∷ avps) =
    both_step (is_of session_id avp) (is_of proxy_info avp) avp (find (is_of session_id) avps) (proxies_in avps) (filter is_carried avps) (no_session avp) (proxies-carried avps) (both-carried avps)

-- ---- Session-Id and Proxy-Info, as they are written

-- each can be spelled, and together they take at most so many octets
record Carries (n : ℕ) (session proxies : List RawAvp) : Type 0 where
  first : All HasSpelling session
  others : All HasSpelling proxies
  most : spelled_len session + spelled_len proxies ≤ n

session-spells : (found : Option RawAvp) → spelled_len (session_found found) ≤ 65536 → All HasSpelling (session_found found)
session-spells None short = All-nil HasSpelling
session-spells (Some avp) short =
    All-cons HasSpelling (octets_avp session_id avp.value) []
    (spelling session_id avp.value (lit≤ tt) (omega (arith, short, spelled_len-cons (octets_avp session_id avp.value) []))) (All-nil HasSpelling)

carries : (avps : List RawAvp) → All HasSpelling avps → carries_too_much avps ≡ false → Carries 49152 (session_in avps) (proxies_in avps)
carries avps each few =
    let most : carried_len avps ≤ 49152 = ltb-false 49152 (carried_len avps) few in
    let both = both-carried avps in
    record {
      first = session-spells (find (is_of session_id) avps) (omega (arith, most, both));
      others = All-filter (is_of proxy_info) HasSpelling avps each;
      most = omega (arith, most, both);
    }

carries-none : Carries 49152 (session_in []) (proxies_in [])
carries-none = record { first = All-nil HasSpelling; others = All-nil HasSpelling; most = lit≤ tt }

spells : (body : List ℕ) (avps : List RawAvp) → AreOctets body → split_of body ≡ Ok avps → All HasSpelling avps
spells body avps octets e = All-HasSpelling-read body avps [] octets (subst (Reads body) e (split_of-reads body))

carriable_avps-carries : (body : List ℕ) (s : Result (List RawAvp) AvpFault) → AreOctets body → split_of body ≡ s → Carries 49152 (session_in (carriable_avps s)) (proxies_in (carriable_avps s))
carriable_avps-carries body (Err fault) octets e = carries-none
carriable_avps-carries body (Ok avps) octets e = by_room (carries_too_much avps) refl
  where
    by_room : (much : Bool) → carries_too_much avps ≡ much → Carries 49152 (session_in (cond much [] avps)) (proxies_in (cond much [] avps))
    by_room true is = carries-none
    by_room false is = carries avps (spells body avps octets e) is

-- the Session-Id of a request is that of its message, or none
session-written : (found : Option RawAvp) → spelled_len (octets_avp session_id (unwrap_or (option_map (λ (avp : RawAvp). avp.value) found) []) ∷ []) ≤ spelled_len (session_found found) + 8
session-written (Some avp) = omega arith
session-written None = lit≤ tt

carries-answer : (profile : RequestProfile) (message : Message) (request : CcRequest) → AreOctets message.body → view_under profile message ≡ Ok request
    → Carries 49160 (session_part request.session) (proxies_in (carriable_avps (split_of message.body)))
carries-answer profile message request octets e =
    let viewed = viewed_avps profile message request e in
    let avps = viewed.0 in
    let carried = carries avps (spells message.body avps octets viewed.1) viewed.2 in
    let same : session_part request.session ≡ octets_avp session_id (octets_in session_id avps) ∷ [] =
    session_part-viewed profile message request e ∙ ap (λ (r : CcRequest). octets_avp session_id r.session ∷ []) (sym viewed.3) in
    let proxies : carriable_avps (split_of message.body) ≡ avps = ap carriable_avps viewed.1 ∙ ap (λ (b : Bool). cond b [] avps) viewed.2 in
    let long : spelled_len (octets_avp session_id (octets_in session_id avps) ∷ []) ≤ spelled_len (session_in avps) + 8 = session-written (find (is_of session_id) avps) in
    let short : length (octets_in session_id avps) ≤ 65536 = omega (arith, long, carried.most, spelled_len-cons (octets_avp session_id (octets_in session_id avps)) []) in
    let both : Carries 49160 (octets_avp session_id (octets_in session_id avps) ∷ []) (proxies_in avps) = record {
      first = All-cons HasSpelling (octets_avp session_id (octets_in session_id avps)) [] (spelling session_id (octets_in session_id avps) (lit≤ tt) short) (All-nil HasSpelling);
      others = carried.others;
      most = omega (arith, long, carried.most);
    } in
    subst (λ (xs : List RawAvp). Carries 49160 xs (proxies_in (carriable_avps (split_of message.body)))) (sym same)
    (subst (λ (xs : List RawAvp). Carries 49160 (octets_avp session_id (octets_in session_id avps) ∷ []) (proxies_in xs)) (sym proxies) both)

-- ---- messages

answer-octets : (error : Bool) (header : Header) → HasOctets header → HasOctets (answer_header error header)
answer-octets error header h = record { command = h.command; application = h.application; hop = h.hop; «end» = h.«end» }

-- AVPs that take few octets are a message's
read_back : (error : Bool) (header : Header) (n : ℕ) (avps : List RawAvp) → HasOctets header → n ≤ 65516 → Takes n avps → IsReadBack (record { header = answer_header error header; body = spelling_of avps }) avps
read_back error header n avps octets le takes = record {
  whole = record { header = answer-octets error header octets; whole = spelling_of-whole avps; most = omega (arith, le, takes.most) };
  short = omega (arith, le, takes.most);
  body = IsSpelling-written_list avps takes.each;
}

exactly : (avps : List RawAvp) → All HasSpelling avps → Takes (spelled_len avps) avps
exactly avps each = record { each = each; most = omega arith }

takes-failover : (kind : RequestKind) (code : ResultCode) → Takes 12 (failover_part kind code)
takes-failover kind code = by_case kind code
  where
    none : Takes 12 []
    none = takes-more 0 12 [] (lit≤ tt) takes-nil

    by_case : (kind : RequestKind) (code : ResultCode) → Takes 12 (failover_part kind code)
    by_case Initial Success = takes-u32 cc_session_failover 1 (lit≤ tt)
    by_case kind code = none

takes-command : (front realm : List ℕ) (request : CcRequest) (code : ResultCode) → IsIdentity front → IsIdentity realm → All HasSpelling (session_part request.session)
    → Takes (spelled_len (session_part request.session) + 592) (command_part front realm request code)
takes-command front realm request code p q each =
    let session = session_part request.session in
    let n = spelled_len session in
    let result = u32_avp result_code (number_of code) ∷ [] in
    let origin = origin_part front realm in
    let application = u32_avp auth_application_id credit_control_application ∷ [] in
    let kind = u32_avp cc_request_type (kind_number request.kind) ∷ [] in
    let number = u32_avp cc_request_number request.number ∷ [] in
    takes-more (n + 12 + 532 + 12 + 12 + 12 + 12) (n + 592) (command_part front realm request code) (omega arith)
    (takes-append (n + 12 + 532 + 12 + 12 + 12) 12 (session ++ result ++ origin ++ application ++ kind ++ number) (failover_part request.kind code)
    (takes-append (n + 12 + 532 + 12 + 12) 12 (session ++ result ++ origin ++ application ++ kind) number
    (takes-append (n + 12 + 532 + 12) 12 (session ++ result ++ origin ++ application) kind
    (takes-append (n + 12 + 532) 12 (session ++ result ++ origin) application
    (takes-append (n + 12) 532 (session ++ result) origin
    (takes-append n 12 session result (exactly session each) (takes-u32 result_code (number_of code) (lit≤ tt)))
    (takes-origin front realm p.most q.most))
    (takes-u32 auth_application_id credit_control_application (lit≤ tt)))
    (takes-u32 cc_request_type (kind_number request.kind) (lit≤ tt)))
    (takes-u32 cc_request_number request.number (lit≤ tt)))
    (takes-failover request.kind code))

pub answer-read_back : (profile : RequestProfile) (front realm : List ℕ) (message : Message) (request : CcRequest) (reply : CcReply)
    → IsIdentity front → IsIdentity realm → HasOctets message.header → AreOctets message.body → view_under profile message ≡ Ok request → Fits reply
    → IsReadBack (answer_to front realm message request reply) (answer_avps front realm message request reply)
unfolding answer_to
answer-read_back profile front realm message request reply p q header octets e fits =
    let carried = carries-answer profile message request octets e in
    let command = command_part front realm request reply.code in
    let units = units_part reply in
    let proxies = proxies_in (carriable_avps (split_of message.body)) in
    let n = spelled_len (session_part request.session) in
    let most : n + spelled_len proxies ≤ 49160 = carried.most in
    read_back false message.header (n + 592 + 3324 + spelled_len proxies) (command ++ units ++ proxies) header (omega (arith, most))
    (takes-append (n + 592 + 3324) (spelled_len proxies) (command ++ units) proxies
    (takes-append (n + 592) 3324 command units (takes-command front realm request reply.code p q carried.first) (takes-units reply fits))
    (exactly proxies carried.others))

-- ---- refusals

takes-failed : (failed : Option RawAvp) → Takes 8200 (failed_part failed)
takes-failed None = takes-more 0 8200 [] (lit≤ tt) takes-nil
takes-failed (Some avp) = by_length (is_copied avp) refl
  where
    by_length : (short : Bool) → is_copied avp ≡ short → Takes 8200 (cond short (group_avp failed_avp (avp ∷ []) ∷ []) [])
    by_length false is = takes-more 0 8200 [] (lit≤ tt) takes-nil
    by_length true is =
        let le : length_of avp ≤ 8192 = leb-true (length_of avp) 8192 is in
        takes-group failed_avp 8192 (avp ∷ []) (lit≤ tt) (lit≤ tt) (omega (arith, le, spelled_len-cons avp []))

pub refusal-read_back : (node realm : List ℕ) (message : Message) (refusal : Refusal) → IsIdentity node → IsIdentity realm → HasOctets message.header → AreOctets message.body
    → IsReadBack (refusal_of node realm message refusal) (refusal_avps node realm message refusal)
unfolding refusal_of
refusal-read_back node realm message refusal p q header octets =
    let avps = carriable_avps (split_of message.body) in
    let carried = carriable_avps-carries message.body (split_of message.body) octets refl in
    let session = session_in avps in
    let proxies = proxies_in avps in
    let result = u32_avp result_code (number_of refusal.code) ∷ [] in
    let n = spelled_len session in
    let most : n + spelled_len proxies ≤ 49152 = carried.most in
    read_back true message.header (n + 532 + 12 + 8200 + spelled_len proxies) (session ++ origin_part node realm ++ result ++ failed_part refusal.failed ++ proxies) header (omega (arith, most))
    (takes-append (n + 532 + 12 + 8200) (spelled_len proxies) (session ++ origin_part node realm ++ result ++ failed_part refusal.failed) proxies
    (takes-append (n + 532 + 12) 8200 (session ++ origin_part node realm ++ result) (failed_part refusal.failed)
    (takes-append (n + 532) 12 (session ++ origin_part node realm) result
    (takes-append n 532 session (origin_part node realm) (exactly session carried.first) (takes-origin node realm p.most q.most))
    (takes-u32 result_code (number_of refusal.code) (lit≤ tt)))
    (takes-failed refusal.failed))
    (exactly proxies carried.others))
