-- Where receipts stand in one history.
use Rattle.std.proofs.Common.{◌≡◌, ℕ, ◌<◌, arith, true, List, ◌∷◌, ◌++◌, take, Some, inl, inr, sym, subst, ap, ◌∙◌, append_assoc}
use Rattle.std.proofs.lemmas.Bool.{cases_lt}
use Rattle.cc_view.specs.declared.request.CcRequest.{CcRequest}
use Rattle.cc_book.specs.declared.entry.Entry.{Entry}
use Rattle.cc_book.specs.declared.entry.Entry.TheVariants.{Take}
use Rattle.cc_book.specs.declared.terms.Terms.{Terms}
use Rattle.cc_book.specs.Duplicate.{key_of}
use Rattle.cc_book.specs.History.{IsLegal}
use Rattle.cc_book.proofs.Keys.{key-same, keys-apart}
use Rattle.cc_shared.specs.declared.receipt.Receipt.{Receipt}
use Rattle.cc_shared.specs.Receipts.{Fits, IsTakenAt}
use Rattle.pool_law.proofs.Prefixes.{around, get_of_take}

module _ (terms : Terms) (history : List Entry) (legal : IsLegal terms history) where
  -- the request that was taken has the receipt's key
  key_is : (receipt : Receipt) (fits : Fits terms history receipt) → key_of fits.taken ≡ key_of receipt.request
  key_is receipt fits =
      let parts = (key-same fits.taken receipt.request).0 fits.told.same in
      λ i. record { session = parts.0 i; number = parts.1 i }

  one_request : (place : ℕ) (one other : CcRequest) → IsTakenAt history place one → IsTakenAt history place other → one ≡ other
  one_request place one other a b =
      let same : Some (Take a.moment one) ≡ Some (Take b.moment other) = sym a.entry ∙ b.entry in
      cc

  -- what is taken at one place and at another is one request
  taken_alike : (one other : Receipt) (a : Fits terms history one) (b : Fits terms history other) → one.place ≡ other.place → a.taken ≡ b.taken
  taken_alike one other a b same =
      one_request other.place a.taken b.taken (subst (λ (p : ℕ). IsTakenAt history p a.taken) same a.at) b.at

  pub keys_at : (one other : Receipt) → Fits terms history one → Fits terms history other → one.place ≡ other.place →
      key_of one.request ≡ key_of other.request
  keys_at one other a b same = sym (key_is one a) ∙ ap key_of (taken_alike one other a b same) ∙ key_is other b

  pub fresh_at : (one other : Receipt) → Fits terms history one → Fits terms history other → one.place ≡ other.place → one.fresh ≡ true →
      other.fresh ≡ true → one.request ≡ other.request
  fresh_at one other a b same first second = sym (a.told.own first) ∙ taken_alike one other a b same ∙ b.told.own second

  apart : (one other : Receipt) → Fits terms history one → Fits terms history other → key_of one.request ≡ key_of other.request →
      one.place < other.place → ⊥
  apart one other a b keys less =
      let late = around history other.place (Take b.at.moment b.taken) b.at.entry in
      let before = take other.place history in
      let early = around before one.place (Take a.at.moment a.taken) (get_of_take history one.place other.place less ∙ a.at.entry) in
      let first = take one.place before in
      let behind = Take b.at.moment b.taken ∷ late.after in
      let whole : history ≡ first ++ Take a.at.moment a.taken ∷ (early.after ++ behind) =
      late.is ∙ ap (λ (h : List Entry). h ++ behind) early.is ∙ append_assoc first (Take a.at.moment a.taken ∷ early.after) behind in
      let same : key_of a.taken ≡ key_of b.taken = key_is one a ∙ keys ∙ sym (key_is other b) in
      keys-apart terms first early.after late.after a.at.moment b.at.moment a.taken b.taken
      (subst (λ (h : List Entry). IsLegal terms h) whole legal) same

  pub place_of_key : (one other : Receipt) → Fits terms history one → Fits terms history other → key_of one.request ≡ key_of other.request →
      one.place ≡ other.place
  place_of_key one other a b keys = elim (cases_lt one.place other.place) as (λ _. one.place ≡ other.place) [
    | inl less ↦ absurd (apart one other a b keys less)
    | inr more ↦ elim (cases_lt other.place one.place) as (λ _. one.place ≡ other.place) [
      | inl less ↦ absurd (apart other one b a (sym keys) less)
      | inr even ↦ omega (arith, more, even)
    ]
  ]
