use Rattle.std.proofs.Common.{◌≡◌, ℕ, ◌≤◌, ◌^◌, cond, [], List, Some, refl, subst, sym, ap, ◌∙◌, rules, SFits, to_z, of_z}
use Rattle.std.specs.Prelude.{ℤ, pos, ◌+ℤ◌, ◌-ℤ◌, slice_index_or}
use Rattle.std.specs.Int.{w128}
use Rattle.std.proofs.lemmas.Int.{to_z-of_z}
use Rattle.cc_view.specs.declared.reply.CcReply.{CcReply}
use Rattle.cc_book.specs.AccountMachine.{granting_reply, holds_on, session_reply}
use Rattle.cc_book.specs.declared.outcome.Change.TheVariants.{Opens, Stays}
use Rattle.cc_book.specs.declared.price.Price.{Price}
use Rattle.cc_book.specs.Pricing.{priced, prices_after}
use Rattle.cc_book.specs.ServiceRating.{tariff_of, used_total}
use Rattle.cc_book.specs.Session.{is_success}
use Rattle.cc_book.specs.Standing.{reserved_in}
use Rattle.cc_book.proofs.ByKind.{free-initial, initial-closed, opening-change, same-outcome}
use Rattle.cc_book.proofs.terms.Terms.opening_outcome.Goals as goal

pub returns : goal.returns
returns g c = λ before is shut stands.
    let terms = c.args.self.now in
    let request = c.args.request.now in
    let services = c.as_slice-services.ensures.value in
    let fits : SFits w128 c.used_total-debit.result = search rules in
    let used : ℕ = used_total (tariff_of terms.tariffs) request.services in
    let total : used_total (priced terms.tariffs c.none-none.result) c.as_slice-services.result.now ≡ used =
    ap (λ (ps : List Price). used_total (priced terms.tariffs ps) c.as_slice-services.result.now) c.none-none.ensures
    ∙ ap (used_total (tariff_of terms.tariffs)) services in
    let debit : to_z w128 (of_z w128 c.used_total-debit.result) ≡ pos used =
    to_z-of_z w128 c.used_total-debit.result fits ∙ c.used_total-debit.ensures.value ∙ ap (λ (n : ℕ). pos n) total in
    let small = subst (λ (n : ℕ). n ≤ 2 ^ 103) total c.used_total-debit.ensures.most in
    let free : ℤ = to_z w128 (of_z w128 c.free_to_grant-free.result) in
    let free_fits : SFits w128 c.free_to_grant-free.result = search rules in
    let available : ℤ =
    (slice_index_or (g.S.Lookup.balances c.args.standing.now) c.args.account (pos 0) -ℤ pos
    (reserved_in c.args.account (g.S.Lookup.sessions c.args.standing.now))) +ℤ pos 0 in
    let value : free ≡ available -ℤ pos used =
    to_z-of_z w128 c.free_to_grant-free.result free_fits ∙ c.free_to_grant-free.ensures.value ∙ ap (λ (z : ℤ). available -ℤ z) debit in
    let is_free = free-initial request c.args.moment stands c.args.account free is shut c.requires.account c.requires.within value in
    let holds : c.in_ok-granted.granted.holds.items ≡ holds_on terms (Some c.args.account) free request.services = c.in_ok-granted.ensures.holds
    ∙ ap (holds_on terms (Some c.args.account) free) services in
    let reply : c.session_reply-reply.result ≡ granting_reply terms (Some c.args.account) free request.services =
    c.session_reply-reply.ensures ∙ ap session_reply c.in_ok-granted.ensures.replies ∙ ap (granting_reply terms (Some c.args.account) free) services in
    let later : c.in_ok-prices.prices ≡ prices_after terms.tariffs [] c.in_ok-granted.granted.holds.items =
    c.in_ok-prices.ensures
    ∙ ap (λ (ps : List Price). prices_after terms.tariffs ps c.deref.result.now) c.none-none.ensures
    ∙ ap (prices_after terms.tariffs []) c.deref.ensures.value in
    let change : c.in_ok-change.change ≡ opening-change request c.args.moment stands (is_success (granting_reply terms (Some c.args.account) free request.services).code)
    c.args.account c.in_ok-granted.granted.holds.items =
    c.in_ok-change.ensures
    ∙ ap (λ (ps : List Price). cond (is_success c.session_reply-reply.result.code) (Opens (record {
      id = request.session;
      account = c.args.account;
      last = c.args.moment;
      holds = c.in_ok-granted.granted.holds.items;
      prices = ps;
    })) Stays) later
    ∙ ap (λ (r : CcReply). opening-change request c.args.moment stands (is_success r.code) c.args.account c.in_ok-granted.granted.holds.items) reply in
    same-outcome (Some c.args.account) (pos used) _ (granting_reply terms (Some c.args.account) free request.services) _
    c.in_ok-change.change c.in_ok-change.change
    (sym debit) (sym reply) refl
    (initial-closed request c.args.moment stands c.args.account free c.in_ok-granted.granted.holds.items c.in_ok-change.change is shut c.requires.account
    small is_free holds c.in_ok-granted.ensures.most change)
