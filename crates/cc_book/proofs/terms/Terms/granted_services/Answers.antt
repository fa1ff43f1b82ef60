use Rattle.std.proofs.Common.{◌≡◌, ◌+◌, ◌*◌, ◌^◌, ◌++◌, ◌∷◌, [], get_or, ap, ◌∙◌, arith, rules, Option, SFits, to_z, of_z}
use Rattle.std.specs.Int.{w128}
use Rattle.std.specs.Prelude.{ℤ}
use Rattle.std.proofs.lemmas.Int.{ints, to_z-of_z}
use Rattle.cc_rating.specs.declared.tariff.Grant.{Grant}
use Rattle.cc_view.specs.declared.request.Service.{Service}
use Rattle.cc_view.specs.declared.reply.ServiceReply.{ServiceReply}
use Rattle.cc_book.specs.AccountMachine.{free_behind, grant_to, hold_of, holds_from, made_grant, replies_from, settled_reply}
use Rattle.cc_book.specs.Standing.{held_in}
use Rattle.cc_book.proofs.InOrder.{free_behind-least, held_in-append, held_in-made, holds-all, holds-more, no_service, replies-all, replies-more}
use Rattle.cc_book.proofs.terms.Terms.granted_services.Goals as goal

pub loop-service-preserved : goal.loop-service-preserved
loop-service-preserved c =
    let services = c.args.services.now in
    let i = c.loop-service.service-index in
    let service : Service = get_or services i no_service in
    let tariffs = c.args.self.now.tariffs in
    let free : ℤ = to_z w128 c.loop-service.free-bits in
    let behind : SFits w128 c.free_behind-free.result = search rules in
    let same = to_z-of_z w128 c.free_behind-free.result behind in
    let is_grant : c.grant_to-grant.result ≡ grant_to tariffs free service = c.grant_to-grant.ensures.value in
    let left : to_z w128 (of_z w128 c.free_behind-free.result) ≡ free_behind free (grant_to tariffs free service) =
    same ∙ c.free_behind-free.ensures ∙ ap (free_behind free) is_grant in
    let pushed : c.push.new.self.items ≡ c.loop-service.replies.items ++ settled_reply c.args.self.now service (grant_to tariffs free service) ∷ [] =
    c.in_ok-push.ensures.items ∙ ap (λ (r : ServiceReply). c.loop-service.replies.items ++ r ∷ [])
    (c.settled_reply.ensures ∙ ap (settled_reply c.args.self.now service) is_grant) in
    let added : c.reserve.new.holds.items ≡ c.loop-service.holds.items ++ hold_of service (made_grant c.grant_to-grant.result) =
    c.in_ok-reserve.ensures ∙ ap (λ (g : Option Grant). c.loop-service.holds.items ++ hold_of service g) c.made_grant.ensures in
    let reserved : c.reserve.new.holds.items ≡ c.loop-service.holds.items ++ hold_of service (made_grant (grant_to tariffs free service)) =
    added ∙ ap (λ (g : Option Grant). c.loop-service.holds.items ++ hold_of service (made_grant g)) is_grant in
    let more = ap held_in added ∙ held_in-append c.loop-service.holds.items (hold_of service (made_grant c.grant_to-grant.result)) in
    let one = held_in-made service c.grant_to-grant.result c.grant_to-grant.ensures.most in
    let least = free_behind-least (2 ^ 126 + i * 2 ^ 84) free c.grant_to-grant.result c.loop-service.invariant.least c.grant_to-grant.ensures.most in
    record {
      replies = replies-more c.args.self.now free (to_z w128 (of_z w128 c.free_behind-free.result)) services i c.loop-service.replies.items
          c.push.new.self.items _ c.loop-service-test.true c.loop-service.invariant.replies pushed left;
      holds = holds-more tariffs free (to_z w128 (of_z w128 c.free_behind-free.result)) services i c.loop-service.holds.items c.reserve.new.holds.items _
          c.loop-service-test.true c.loop-service.invariant.holds reserved left;
      least = omega (arith, ints, least, same, c.free_behind-free.ensures);
      most = omega (arith, c.loop-service.invariant.most);
    }

pub returns-clause-replies : goal.returns-clause-replies
returns-clause-replies c =
    let fits : SFits w128 c.args.free = search rules in
    replies-all c.args.self.now (to_z w128 c.loop-service.free-bits) c.args.services.now c.loop-service.service-index c.loop-service.replies.items _
    c.loop-service-test.false c.loop-service.invariant.replies
    ∙ ap (λ (z : ℤ). replies_from c.args.self.now z c.args.services.now) (to_z-of_z w128 c.args.free fits)

pub returns-clause-holds : goal.returns-clause-holds
returns-clause-holds c =
    let fits : SFits w128 c.args.free = search rules in
    holds-all c.args.self.now.tariffs (to_z w128 c.loop-service.free-bits) c.args.services.now c.loop-service.service-index c.loop-service.holds.items _
    c.loop-service-test.false c.loop-service.invariant.holds
    ∙ ap (λ (z : ℤ). holds_from c.args.self.now.tariffs z c.args.services.now) (to_z-of_z w128 c.args.free fits)

pub returns-clause-most : goal.returns-clause-most
returns-clause-most c = omega (arith, c.loop-service.invariant.most, c.requires.few)
