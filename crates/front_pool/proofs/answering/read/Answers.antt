use Rattle.std.proofs.Common.{◌≡◌, subst}
use Rattle.dia_grammar.specs.Profile.{RequestProfile}
use Rattle.dia_message.specs.declared.message.Message.{Message}
use Rattle.cc_view.specs.RequestView.{view_under}
use Rattle.front_core.specs.Charging.{preparation_of}
use Rattle.front_pool.proofs.Serving.{refused_reads}
use Rattle.front_pool.proofs.answering.read.Goals as goal

pub returns-in-Ok-Refused : goal.returns-in-Ok-Refused
returns-in-Ok-Refused g c =
    let site = c.args.site.now in
    let P : RequestProfile → Message → Type 0 =
    λ profile message. c.in-Ok-Refused.field-0 ≡ preparation_of site.name site.realm message (view_under profile message) in
    let known = subst (λ (profile : RequestProfile). P profile c.request.result.now) c.as_profile-profile.ensures c.in-Ok-Refused.ensures.prepared in
    let is = subst (λ (message : Message). P site.profile message) c.request.ensures known in
    refused_reads g.L.Pooling.site g.L.Sharing.shared c.args.front site c.args.job c.in-Ok-Refused.refusal c.in-Ok-Refused.field-0 c.finish.result
    c.requires c.in-Ok-Refused.field-0-is is c.finish.ensures

pub returns-in-Err : goal.returns-in-Err
returns-in-Err g c = (c.refuse.ensures.job, c.refuse.ensures.answered, c.refuse.ensures.receipt, c.refuse.ensures.moment)
