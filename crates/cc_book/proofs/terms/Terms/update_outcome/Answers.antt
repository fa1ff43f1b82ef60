use Rattle.std.proofs.Common.{◌≡◌, ℕ, ◌+◌, ◌-◌, ◌≤◌, ◌^◌, List, ◌++◌, Some, subst, sym, ap, ◌∙◌, arith, rules, SFits, to_z, of_z}
use Rattle.std.specs.Prelude.{ℤ, pos, ◌+ℤ◌, ◌-ℤ◌, slice_index_or}
use Rattle.std.specs.Int.{w128}
use Rattle.std.proofs.lemmas.Int.{to_z-of_z}
use Rattle.cc_view.specs.declared.request.Service.{Service}
use Rattle.cc_book.specs.declared.outcome.Change.TheVariants.{GoesOn}
use Rattle.cc_book.specs.AccountMachine.{granting_reply, holds_on, session_reply}
use Rattle.cc_book.specs.declared.session.Hold.{Hold}
use Rattle.cc_book.specs.Pricing.{price_at, priced, prices_after}
use Rattle.cc_book.specs.ServiceRating.{used_total}
use Rattle.cc_book.specs.Standing.{IsOutcome, held_in, holds_beside, prolonged, reserved_in}
use Rattle.cc_book.proofs.ByKind.{same-outcome, free-update, update-closed, update-open, used-open}
use Rattle.cc_book.proofs.Amounts.{account-at, held-at, held_in-beside}
use Rattle.cc_book.proofs.terms.Terms.update_outcome.Goals as goal

pub returns-in_default : goal.returns-in_default
returns-in_default g c = λ before is stands.
    subst (IsOutcome c.args.self.now before (g.S.Lookup.sessions c.args.standing.now) c.args.moment c.args.request.now) (sym c.unknown_session.ensures)
    (update-closed c.args.request.now c.args.moment stands is c.in_default.ensures)

-- ---- what the session holds is small, and what it holds beside the services no more

pub held_in-requires : goal.held_in-requires
held_in-requires g c =
    let here = held-at (g.S.Lookup.sessions c.args.standing.now) c.in-Some.place c.in-Some.session.now c.in-Some.ensures.there in
    let same = ap held_in c.as_slice.ensures in
    let few = c.requires.held c.in-Some.session.now.account in
    omega arith

pub held_in-requires-2 : goal.held_in-requires-2
held_in-requires-2 g c =
    let here = held-at (g.S.Lookup.sessions c.args.standing.now) c.in-Some.place c.in-Some.session.now c.in-Some.ensures.there in
    let part = held_in-beside c.as_slice-services.result.now c.in-Some.session.now.holds in
    let left = ap held_in (c.deref.ensures.value ∙ c.in_ok-holds.ensures) in
    let few = c.requires.held c.in-Some.session.now.account in
    omega arith

pub overflow_sub-ended : goal.overflow_sub-ended
overflow_sub-ended g c =
    let part = held_in-beside c.as_slice-services.result.now c.in-Some.session.now.holds in
    let left = ap held_in (c.deref.ensures.value ∙ c.in_ok-holds.ensures) in
    let same = ap held_in c.as_slice.ensures in
    omega (arith, c.held_in.ensures, c.held_in-2.ensures)

pub free_to_grant-free-requires-clause-within : goal.free_to_grant-free-requires-clause-within
free_to_grant-free-requires-clause-within g c =
    let known = account-at _ (g.S.Lookup.sessions c.args.standing.now) c.in-Some.place c.in-Some.session.now c.in-Some.ensures.there c.requires.known in
    omega (arith, c.requires.accounts)

pub free_to_grant-free-requires-clause-ended : goal.free_to_grant-free-requires-clause-ended
free_to_grant-free-requires-clause-ended g c =
    let here = held-at (g.S.Lookup.sessions c.args.standing.now) c.in-Some.place c.in-Some.session.now c.in-Some.ensures.there in
    let same = ap held_in c.as_slice.ensures in
    let few = c.requires.held c.in-Some.session.now.account in
    omega (arith, c.held_in.ensures)

pub returns : goal.returns
returns g c = λ before is stands.
    let terms = c.args.self.now in
    let request = c.args.request.now in
    let sessions = g.S.Lookup.sessions c.args.standing.now in
    let session = c.in-Some.session.now in
    let services = c.as_slice-services.ensures.value in
    let fits : SFits w128 c.used_total-debit.result = search rules in
    let prices = used-open request c.args.moment stands c.in-Some.place session c.in-Some.ensures.at c.in-Some.ensures.there in
    let used : ℕ = used_total (price_at terms.tariffs before request.session) request.services in
    let debit : to_z w128 (of_z w128 c.used_total-debit.result) ≡ pos used =
    to_z-of_z w128 c.used_total-debit.result fits ∙ c.used_total-debit.ensures.value
    ∙ ap (λ (ss : List Service). pos (used_total (priced terms.tariffs session.prices) ss)) services ∙ ap (λ (n : ℕ). pos n) prices in
    let small = subst (λ (n : ℕ). n ≤ 2 ^ 103) (ap (used_total (priced terms.tariffs session.prices)) services ∙ prices) c.used_total-debit.ensures.most in
    let beside : c.deref.result.now ≡ holds_beside request.services session.holds =
    c.deref.ensures.value ∙ c.in_ok-holds.ensures ∙ ap (λ (ss : List Service). holds_beside ss session.holds) services in
    let free : ℤ = to_z w128 (of_z w128 c.free_to_grant-free.result) in
    let free_fits : SFits w128 c.free_to_grant-free.result = search rules in
    let here = to_z-of_z w128 c.free_to_grant-free.result free_fits in
    let ended : ℕ = c.held_in.result - c.held_in-2.result in
    let part = held_in-beside request.services session.holds in
    let left = ap held_in beside in
    let whole = ap held_in c.as_slice.ensures in
    let parts : ended + held_in (holds_beside request.services session.holds) ≡ held_in session.holds = omega (arith, c.held_in.ensures, c.held_in-2.ensures) in
    let value : free
    ≡ ((slice_index_or (g.S.Lookup.balances c.args.standing.now) session.account (pos 0) -ℤ pos (reserved_in session.account sessions)) +ℤ pos
    ended) -ℤ pos used =
    here ∙ c.free_to_grant-free.ensures.value
    ∙ ap (λ (z : ℤ).
    ((slice_index_or (g.S.Lookup.balances c.args.standing.now) session.account (pos 0) -ℤ pos (reserved_in session.account sessions)) +ℤ pos ended) -ℤ z)
    debit in
    let is_free = free-update request c.args.moment stands c.in-Some.place session free ended is c.in-Some.ensures.at c.in-Some.ensures.there parts value in
    let holds : c.in_ok-granted.granted.holds.items ≡ holds_on terms (Some session.account) free request.services = c.in_ok-granted.ensures.holds
    ∙ ap (holds_on terms (Some session.account) free) services in
    let reply : c.session_reply.result ≡ granting_reply terms (Some session.account) free request.services = c.session_reply.ensures
    ∙ ap session_reply c.in_ok-granted.ensures.replies ∙ ap (granting_reply terms (Some session.account) free) services in
    let outcome = update-open request c.args.moment stands c.in-Some.place session free c.in_ok-granted.granted.holds.items is c.in-Some.ensures.at
    c.in-Some.ensures.there small is_free holds c.in_ok-granted.ensures.most in
    let all : c.append.new.self.items ≡ holds_beside request.services session.holds ++ c.in_ok-granted.granted.holds.items =
    search rules in
    let later : c.in_ok-prices.prices ≡ prices_after terms.tariffs session.prices c.in_ok-granted.granted.holds.items =
    c.in_ok-prices.ensures ∙ ap (prices_after terms.tariffs session.prices) c.deref-2.ensures.value in
    let next : c.in_ok-session.session
    ≡ prolonged session c.args.moment (holds_beside request.services session.holds ++ c.in_ok-granted.granted.holds.items)
    (prices_after terms.tariffs session.prices c.in_ok-granted.granted.holds.items) =
    c.in_ok-session.ensures
    ∙ ap (λ (hs : List Hold). prolonged session c.args.moment hs c.in_ok-prices.prices) (c.from_vec.ensures ∙ all)
    ∙ ap (prolonged session c.args.moment (holds_beside request.services session.holds ++ c.in_ok-granted.granted.holds.items)) later in
    same-outcome (Some session.account) (pos used) _ (granting_reply terms (Some session.account) free request.services)
    c.session_reply.result _ (GoesOn c.in-Some.place c.in_ok-session.session)
    (sym debit) (sym reply) (ap (GoesOn c.in-Some.place) (sym next)) outcome

-- the account of the session is there
pub granted_on-requires-clause-within : goal.granted_on-requires-clause-within
granted_on-requires-clause-within g c =
    let known = account-at _ (g.S.Lookup.sessions c.args.standing.now) c.in-Some.place c.in-Some.session.now c.in-Some.ensures.there c.requires.known in
    omega (arith, c.requires.accounts)
