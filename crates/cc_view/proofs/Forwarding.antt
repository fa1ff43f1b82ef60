-- The view, the answer and the refusal of a request that a relay forwarded.
use Rattle.std.proofs.Common.{◌≡◌, ℕ, Bool, true, false, not, ◌||◌, cond, nat_lt, eqb, List, [], ◌∷◌, ◌++◌, Option, None, option_map, option_to_list, Result, Ok, refl, ap, sym, ◌∙◌, arith}
use Rattle.std.proofs.lemmas.Bool.{or_parts, or_from, false_from_ne_true}
use Rattle.std.specs.List.{filter, find, sum_by}
use Rattle.std.proofs.lemmas.List.{append-nil}
use Rattle.std.proofs.lemmas.List.Elements.{filter-append}
use Rattle.dia_avp.specs.declared.avp.RawAvp.{RawAvp}
use Rattle.dia_avp.specs.declared.fault.AvpFault.{AvpFault}
use Rattle.dia_avp.specs.AvpReading.{split_of}
use Rattle.dia_message.specs.declared.header.Header.{Header}
use Rattle.dia_message.specs.declared.message.Message.{Message}
use Rattle.dia_base.specs.Codes.{session_id, proxy_info, result_code, route_record}
use Rattle.dia_grammar.specs.Grammar.{begins_with_session, is_among, is_of}
use Rattle.cc_view.specs.declared.code.ResultCode.{ResultCode}
use Rattle.cc_view.specs.declared.refusal.Refusal.{Refusal}
use Rattle.cc_view.specs.declared.reply.CcReply.{CcReply}
use Rattle.cc_view.specs.declared.request.CcRequest.{CcRequest}
use Rattle.cc_view.specs.Answer.{answer_header, answer_to, command_part, origin_part, refusal_of, units_part}
use Rattle.cc_view.specs.Answer.Carried.{carriable_avps, carries_too_much, is_carried, padded_len, proxies_in, session_in}
use Rattle.cc_view.specs.Answer.Writing.{octets_avp, spelling_of, u32_avp}
use Rattle.cc_view.specs.Forwarding.{CarryAlike, IsForwarded, SameButHop, with_hop}
use Rattle.cc_view.specs.Refusal.{avps_by, avps_of}
use Rattle.cc_view.specs.Refusal.FailedAvp.{failed_part}
use Rattle.cc_view.specs.RefusalByCode.{failed_in, is_refused_with, refusal_by_code}
use Rattle.dia_grammar.specs.Profile.{RequestProfile, strict}
use Rattle.cc_view.specs.RequestView.{view_of, view_under}
use Rattle.cc_view.specs.RequestView.UnreadAvps.{is_read}
use Rattle.cc_view.specs.ResultNumber.{number_of}
use Rattle.cc_view.proofs.Kept.{filter-filter, find-filter}
use Rattle.cc_view.proofs.Unread.{code_is, misses-one, view-unread}

-- ---- what is carried back

same_session : (much : Bool) (avps others : List RawAvp) → filter is_carried avps ≡ filter is_carried others → session_in (cond much [] avps) ≡ session_in (cond much [] others)
same_session true avps others e = refl
same_session false avps others e =
    let misses : (avp : RawAvp) → is_carried avp ≡ false → is_of session_id avp ≡ false = λ avp out. (or_parts (is_of session_id avp) (is_of proxy_info avp) out).0 in
    ap (λ (o : Option RawAvp). option_to_list (option_map (λ (avp : RawAvp). octets_avp session_id avp.value) o))
    (sym (find-filter is_carried (is_of session_id) misses avps) ∙ ap (find (is_of session_id)) e ∙ find-filter is_carried (is_of session_id) misses others)

same_proxies : (much : Bool) (avps others : List RawAvp) → filter is_carried avps ≡ filter is_carried others → proxies_in (cond much [] avps) ≡ proxies_in (cond much [] others)
same_proxies true avps others e = refl
same_proxies false avps others e =
    let misses : (avp : RawAvp) → is_carried avp ≡ false → is_of proxy_info avp ≡ false = λ avp out. (or_parts (is_of session_id avp) (is_of proxy_info avp) out).1 in
    sym (filter-filter is_carried (is_of proxy_info) misses avps) ∙ ap (filter (is_of proxy_info)) e ∙ filter-filter is_carried (is_of proxy_info) misses others

same_limit : (avps others : List RawAvp) → filter is_carried avps ≡ filter is_carried others → carries_too_much avps ≡ carries_too_much others
same_limit avps others e = ap (λ (xs : List RawAvp). nat_lt 49152 (sum_by padded_len xs)) e

-- what is taken from the AVPs that may be carried back is the same
alike : (take : List RawAvp → List RawAvp) → ((much : Bool) (avps others : List RawAvp) → filter is_carried avps ≡ filter is_carried others → take (cond much [] avps) ≡ take (cond much [] others))
    → (message other : Message) → CarryAlike message other → take (carriable_avps (split_of other.body)) ≡ take (carriable_avps (split_of message.body))
alike take same message other c =
    ap (λ (s : Result (List RawAvp) AvpFault). take (carriable_avps s)) c.other_body
    ∙ ap (λ (much : Bool). take (cond much [] c.others)) (sym (same_limit c.avps c.others c.carried))
    ∙ sym (same (carries_too_much c.avps) c.avps c.others c.carried)
    ∙ sym (ap (λ (s : Result (List RawAvp) AvpFault). take (carriable_avps s)) c.body)

-- ---- answers and refusals

abbrev message_with : Bool → Header → List RawAvp → Message
message_with error header avps = record { header = answer_header error header; body = spelling_of avps }

same_header : (error : Bool) (header other : Header) (avps : List RawAvp) → SameButHop header other → message_with error other avps ≡ with_hop other.hop (message_with error header avps)
same_header error header other avps e = ap (λ (h : Header). message_with error h avps) e

pub answer-alike : (front realm : List ℕ) (message other : Message) (request : CcRequest) (reply : CcReply) → CarryAlike message other
    → answer_to front realm other request reply ≡ with_hop other.header.hop (answer_to front realm message request reply)
unfolding answer_to
answer-alike front realm message other request reply c =
    let before = command_part front realm request reply.code ++ units_part reply in
    ap (λ (proxies : List RawAvp). message_with false other.header (before ++ proxies)) (alike proxies_in same_proxies message other c)
    ∙ same_header false message.header other.header (before ++ proxies_in (carriable_avps (split_of message.body))) c.header

pub refusal-alike : (node realm : List ℕ) (message other : Message) (refusal : Refusal) → CarryAlike message other
    → refusal_of node realm other refusal ≡ with_hop other.header.hop (refusal_of node realm message refusal)
unfolding refusal_of
refusal-alike node realm message other refusal c =
    ap (λ (session : List RawAvp). message_with true other.header (avps_with session (proxies_in (carriable_avps (split_of other.body))))) (alike session_in same_session message other c)
    ∙ ap (λ (proxies : List RawAvp). message_with true other.header (avps_with (session_in (carriable_avps (split_of message.body))) proxies)) (alike proxies_in same_proxies message other c)
    ∙ same_header true message.header other.header (avps_with (session_in (carriable_avps (split_of message.body))) (proxies_in (carriable_avps (split_of message.body)))) c.header
  where
    avps_with : List RawAvp → List RawAvp → List RawAvp
    avps_with session proxies = session ++ origin_part node realm ++ u32_avp result_code (number_of refusal.code) ∷ [] ++ failed_part refusal.failed ++ proxies

-- ---- a Route-Record more

unread : (avp : RawAvp) → is_of route_record avp ≡ true → is_read avp ≡ false
unread avp e = ap (λ (b : Bool). not (b || is_among (proxy_info ∷ 293 ∷ 55 ∷ []) avp)) e

uncarried : (avp : RawAvp) → is_of route_record avp ≡ true → is_carried avp ≡ false
uncarried avp e =
    or_from (is_of session_id avp) (is_of proxy_info avp) (misses-one session_id refl avp (unread avp e))
    (false_from_ne_true (is_of proxy_info avp) (λ proxy. absurd (omega (arith, code_is route_record avp e, code_is proxy_info avp proxy))))

dropped : (keep : RawAvp → Bool) (avps : List RawAvp) (avp : RawAvp) → keep avp ≡ false → filter keep (avps ++ avp ∷ []) ≡ filter keep avps
dropped keep avps avp e = filter-append keep avps (avp ∷ []) ∙ ap (λ (b : Bool). filter keep avps ++ cond b (avp ∷ []) []) e ∙ append-nil (filter keep avps)

begins_alike : (avps : List RawAvp) (avp : RawAvp) → is_of session_id avp ≡ false → begins_with_session (avps ++ avp ∷ []) ≡ begins_with_session avps
begins_alike [] avp e = e
begins_alike (first ∷ avps) avp e = refl

forwarded-carried : (request forwarded : Message) → IsForwarded request forwarded → CarryAlike request forwarded
forwarded-carried request forwarded f = record {
  avps = f.avps;
  others = f.avps ++ f.appended ∷ [];
  body = f.body;
  other_body = f.forwarded_body;
  carried = sym (dropped is_carried f.avps f.appended (uncarried f.appended f.is_record));
  header = f.header;
}

pub view_under-forwarded : (profile : RequestProfile) (request forwarded : Message) → IsForwarded request forwarded → view_under profile forwarded ≡ view_under profile request
view_under-forwarded profile request forwarded f =
    let skipped : is_read f.appended ≡ false = unread f.appended f.is_record in
    let carried = dropped is_carried f.avps f.appended (uncarried f.appended f.is_record) in
    sym (view-unread profile request forwarded (record {
      avps = f.avps;
      others = f.avps ++ f.appended ∷ [];
      body = f.body;
      other_body = f.forwarded_body;
      read = sym (dropped is_read f.avps f.appended skipped);
      first = sym (begins_alike f.avps f.appended (misses-one session_id refl f.appended skipped));
      carried = sym (same_limit (f.avps ++ f.appended ∷ []) f.avps carried);
      application = sym (ap (λ (h : Header). h.application) f.header);
      command = sym (ap (λ (h : Header). h.command) f.header);
    }))

pub view-forwarded : (vendors : List ℕ) (request forwarded : Message) → IsForwarded request forwarded → view_of vendors forwarded ≡ view_of vendors request
unfolding view_of
view-forwarded vendors = view_under-forwarded (strict vendors)

pub answer-forwarded : (front realm : List ℕ) (request forwarded : Message) (content : CcRequest) (reply : CcReply) → IsForwarded request forwarded
    → answer_to front realm forwarded content reply ≡ with_hop forwarded.header.hop (answer_to front realm request content reply)
answer-forwarded front realm request forwarded content reply f = answer-alike front realm request forwarded content reply (forwarded-carried request forwarded f)

pub refusal-forwarded : (node realm : List ℕ) (request forwarded : Message) (refusal : Refusal) → IsForwarded request forwarded
    → refusal_of node realm forwarded refusal ≡ with_hop forwarded.header.hop (refusal_of node realm request refusal)
refusal-forwarded node realm request forwarded refusal f = refusal-alike node realm request forwarded refusal (forwarded-carried request forwarded f)

-- the AVP at fault by a code, by what the view and the body are
abbrev by_parts : ResultCode → Result CcRequest Refusal → Result (List RawAvp) Refusal → Refusal
by_parts code view found = record {
  code = code;
  failed = cond (is_refused_with code view) (failed_in view) (cond (eqb (number_of code) 5014) (failed_in found) None);
}

by_avps : (code : ResultCode) (view : Result CcRequest Refusal) (octets : List ℕ) (s : Result (List RawAvp) AvpFault) (avps : List RawAvp) → s ≡ Ok avps → by_parts code view (avps_by octets s) ≡ by_parts code view (Ok avps)
by_avps code view octets s avps e = ap (λ (r : Result (List RawAvp) AvpFault). by_parts code view (avps_by octets r)) e

pub refusal_by_code-forwarded : (profile : RequestProfile) (code : ResultCode) (request forwarded : Message) → IsForwarded request forwarded → refusal_by_code profile code forwarded ≡ refusal_by_code profile code request
refusal_by_code-forwarded profile code request forwarded f =
    ap (λ (view : Result CcRequest Refusal). by_parts code view (avps_of forwarded.body)) (view_under-forwarded profile request forwarded f)
    ∙ by_avps code (view_under profile request) forwarded.body (split_of forwarded.body) (f.avps ++ f.appended ∷ []) f.forwarded_body
    ∙ sym (by_avps code (view_under profile request) request.body (split_of request.body) f.avps f.body)
