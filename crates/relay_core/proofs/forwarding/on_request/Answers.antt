use Rattle.std.proofs.Common.{rules, ◌≡◌, ◌∙◌, ℕ, refl, ap, subst, List, Result, Ok, Err}
use Rattle.dia_avp.specs.declared.avp.RawAvp.{RawAvp}
use Rattle.dia_avp.specs.declared.fault.AvpFault.{AvpFault}
use Rattle.dia_avp.specs.AvpReading.{split_of}
use Rattle.cc_view.specs.declared.refusal.Refusal.{Refusal}
use Rattle.cc_view.specs.Refusal.{avps_by, avps_of, refusal_with}
use Rattle.relay_core.specs.Reading.{avps_in_octets}
use Rattle.relay_core.specs.Routing.{node_for}
use Rattle.relay_core.specs.Verdict.{verdict, decision}
use Rattle.relay_core.proofs.Cases.{if_ok, request_refused, state}
use Rattle.relay_core.proofs.Giving.{one-refused}
use Rattle.relay_core.proofs.forwarding.on_request.Goals as goal

pub returns-in_default-clause-ok : goal.returns-in_default-clause-ok
returns-in_default-clause-ok g c =
    if_ok c.refuse_broken.result _ _
    (λ out is. request_refused (node_for c.args.routing) c.args.pending.now c.args.conn c.args.sender.now c.args.request is.0 out.items
    (ap (λ (r : Result (List RawAvp) Refusal). verdict (state (node_for c.args.routing) c.args.pending.now) c.args.sender.now c.args.request r) is.1) is.2)
    c.refuse_broken.ensures.ok

pub returns-in-Err-clause-ok : goal.returns-in-Err-clause-ok
returns-in-Err-clause-ok g c =
    let body = c.args.request.body in
    let split : split_of body ≡ Ok (avps_in_octets body) = subst (λ (octets : List ℕ). split_of octets ≡ Ok (avps_in_octets octets)) c.as_slice.ensures c.in-Ok.ensures.0 in
    let listed : avps_of body ≡ Ok (avps_in_octets body) = ap (λ (r : Result (List RawAvp) AvpFault). avps_by body r) split in
    let code : verdict (state (node_for c.args.routing) c.args.pending.now) c.args.sender.now c.args.request (Ok (avps_in_octets body)) ≡ Err (refusal_with c.in-Err.code) = search rules in
    let refusal : decision (state (node_for c.args.routing) c.args.pending.now) c.args.sender.now c.args.request ≡ Err (refusal_with c.in-Err.code) =
    ap (λ (r : Result (List RawAvp) Refusal). verdict (state (node_for c.args.routing) c.args.pending.now) c.args.sender.now c.args.request r) listed ∙ code in
    if_ok c.refuse.result _ _ (λ out is. request_refused (node_for c.args.routing) c.args.pending.now c.args.conn c.args.sender.now c.args.request (refusal_with c.in-Err.code) out.items refusal is)
    c.refuse.ensures.ok

pub returns-in_default-clause-given : goal.returns-in_default-clause-given
returns-in_default-clause-given g c = λ flag.
    if_ok c.refuse_broken.result _ _ (λ out is. one-refused c.args.routing.node.now c.args.conn c.args.request is.0 c.args.pending.now c.args.pending.now out.items is.2 refl) c.refuse_broken.ensures.ok

pub returns-in-Err-clause-given : goal.returns-in-Err-clause-given
returns-in-Err-clause-given g c = λ flag.
    if_ok c.refuse.result _ _ (λ out is. one-refused c.args.routing.node.now c.args.conn c.args.request (refusal_with c.in-Err.code) c.args.pending.now c.args.pending.now out.items is refl) c.refuse.ensures.ok
