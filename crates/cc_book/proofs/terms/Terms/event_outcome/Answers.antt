use Rattle.std.proofs.Common.{◌≡◌, ℕ, List, refl, sym, ap, ◌∙◌, arith, rules, SFits, to_z, of_z}
use Rattle.std.specs.Prelude.{ℤ, unwrap_or}
use Rattle.std.specs.Int.{w128}
use Rattle.std.proofs.lemmas.Int.{ints, to_z-of_z}
use Rattle.cc_view.specs.declared.reply.CcReply.{CcReply}
use Rattle.cc_view.specs.declared.request.Service.{Service}
use Rattle.cc_book.specs.declared.outcome.Change.TheVariants.{Stays}
use Rattle.cc_book.specs.AccountMachine.{action_debit, event_reply, total_of}
use Rattle.cc_book.specs.Standing.{free_in}
use Rattle.cc_book.proofs.ByKind.{event-outcome, same-outcome}
use Rattle.cc_book.proofs.terms.Terms.event_outcome.Goals as goal

pub returns : goal.returns
returns g c = λ before moment is stands.
    let terms = c.args.self.now in
    let request = c.args.request.now in
    let account = c.args.account in
    let total = c.total_of-total.result in
    let free : ℤ = free_in (g.S.Lookup.balances c.args.standing.now) (g.S.Lookup.sessions c.args.standing.now) account in
    let free_fits : SFits w128 c.free_for-free.result = search rules in
    let free_is : to_z w128 (of_z w128 c.free_for-free.result) ≡ free = to_z-of_z w128 c.free_for-free.result free_fits ∙ c.free_for-free.ensures in
    let reply : c.in_ok-reply.reply ≡ event_reply terms request.services account free request.action =
    c.in_ok-reply.ensures ∙ ap (λ (z : ℤ). event_reply terms request.services account z request.action) free_is in
    let fits : SFits w128 c.action_debit.result = search rules in
    let value : c.action_debit.result ≡ action_debit (unwrap_or total 0) (event_reply terms request.services account free request.action).code request.action =
    c.action_debit.ensures.value
    ∙ ap (λ (n : ℕ). action_debit n c.in_ok-reply.reply.code request.action) c.unwrap_or.ensures
    ∙ ap (λ (r : CcReply). action_debit (unwrap_or total 0) r.code request.action) reply in
    let costs = c.total_of-total.ensures.value ∙ ap (λ (ss : List Service). total_of terms.tariffs ss) c.as_slice.ensures.value in
    same-outcome account _ (to_z w128 (of_z w128 c.action_debit.result)) _ c.in_ok-reply.reply Stays Stays
    (sym (to_z-of_z w128 c.action_debit.result fits ∙ value)) (sym reply) refl
    (event-outcome request moment stands account total is c.requires.account c.requires.within costs
    (omega (arith, ints, c.action_debit.ensures.least, value)) (omega (arith, ints, c.action_debit.ensures.most, value)))
