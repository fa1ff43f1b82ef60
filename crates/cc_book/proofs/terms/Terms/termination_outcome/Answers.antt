use Rattle.std.proofs.Common.{ℕ, ◌≤◌, ◌^◌, List, Some, refl, subst, sym, ap, ◌∙◌, rules, SFits}
use Rattle.std.specs.Prelude.{pos}
use Rattle.std.specs.Int.{w128}
use Rattle.std.proofs.lemmas.Int.{to_z-of_z}
use Rattle.cc_view.specs.declared.request.Service.{Service}
use Rattle.cc_book.specs.declared.outcome.Change.TheVariants.{Ends}
use Rattle.cc_book.specs.AccountMachine.{closing_reply, session_reply}
use Rattle.cc_book.specs.Pricing.{price_at, priced}
use Rattle.cc_book.specs.ServiceRating.{used_total}
use Rattle.cc_book.specs.Standing.{IsOutcome}
use Rattle.cc_book.proofs.ByKind.{same-outcome, termination-closed, termination-open, used-open}
use Rattle.cc_book.proofs.terms.Terms.termination_outcome.Goals as goal

pub returns-in_default : goal.returns-in_default
returns-in_default g c = λ before moment is stands.
    subst (IsOutcome c.args.self.now before (g.S.Lookup.sessions c.args.standing.now) moment c.args.request.now) (sym c.unknown_session.ensures)
    (termination-closed c.args.request.now moment stands is c.in_default.ensures)

pub returns : goal.returns
returns g c = λ before moment is stands.
    let terms = c.args.self.now in
    let services = c.as_slice-services.ensures.value in
    let fits : SFits w128 c.used_total.result = search rules in
    let request = c.args.request.now in
    let session = c.in-Some.session.now in
    let prices = used-open request moment stands c.in-Some.place session c.in-Some.ensures.at c.in-Some.ensures.there in
    let debit = to_z-of_z w128 c.used_total.result fits ∙ c.used_total.ensures.value
    ∙ ap (λ (ss : List Service). pos (used_total (priced terms.tariffs session.prices) ss)) services ∙ ap (λ (n : ℕ). pos n) prices in
    let reply = c.session_reply.ensures ∙ ap session_reply c.in_ok-closed_services.ensures ∙ ap (closing_reply terms) services in
    let small = subst (λ (n : ℕ). n ≤ 2 ^ 103) (ap (used_total (priced terms.tariffs session.prices)) services ∙ prices) c.used_total.ensures.most in
    same-outcome (Some c.in-Some.session.now.account) (pos (used_total (price_at terms.tariffs before request.session) request.services)) _
    (closing_reply terms c.args.request.now.services) c.session_reply.result (Ends c.in-Some.place) (Ends c.in-Some.place)
    (sym debit) (sym reply) refl
    (termination-open c.args.request.now moment stands c.in-Some.place c.in-Some.session.now is c.in-Some.ensures.at c.in-Some.ensures.there small)
