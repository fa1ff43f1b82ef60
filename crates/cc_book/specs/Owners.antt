-- Accounts and their Subscription-Ids, and what an index finds by one: the first account of a list that has it.
use Rattle.std.proofs.Common.{◌≡◌, ℕ, zero, suc, List, [], ◌∷◌, Bool, true, false, ◌&&◌, eqb, refl, rules}
use Rattle.std.specs.Prelude.{◌==◌, nat_eq, Option, Some, None, if◌then◌else◌}
use Rattle.std.specs.List.{fold, list_any, position}
use Rattle.std.specs.Hash.{u32 as fed_u32}
use Rattle.std.specs.Hash.DefaultHasher.{finish, initial, write}
use Rattle.std.proofs.lemmas.Bool.{and_parts}
use Rattle.indexmap.specs.IndexMap.{get}
use Rattle.indexmap.specs.IndexSet.{contains}
use Rattle.std.specs.HashMap.{HashMap}
use Rattle.std.specs.HashSet.{HashSet}
use Rattle.cc_book.specs.declared.account.Account.{Account}
use Rattle.cc_view.specs.declared.request.Subscription.{Subscription}
use Rattle.cc_book.specs.Octets.{same_session}

-- ---- accounts and their Subscription-Ids

-- whether a Subscription-Id is that of an account, by type and text
abbrev pub owns : Subscription → Account → Bool
owns subscription account = account.id_kind == subscription.kind && same_session account.id subscription.text

-- the place of the account that a Subscription-Id has
abbrev pub account_with : List Account → Subscription → Option ℕ
account_with accounts subscription = position (owns subscription) accounts

-- whether two Subscription-Ids are one, by type and text
abbrev pub same_subscription : Subscription → Subscription → Bool
same_subscription one other = one.kind == other.kind && same_session one.text other.text

abbrev pub is_among : List Subscription → Subscription → Bool
is_among subscriptions subscription = list_any (same_subscription subscription) subscriptions

-- whether two accounts have one Subscription-Id
abbrev pub same_owner : Account → Account → Bool
same_owner one other = one.id_kind == other.id_kind && same_session one.id other.id

-- the Subscription-Id of an account's owner
abbrev pub owner_of : Account → Subscription
owner_of account = record { kind = account.id_kind; text = account.id }

-- ---- what is looked up

-- a number that few other Subscription-Ids have: SipHash over the text and the type
unfoldable pub digest_of : Subscription → ℕ
digest_of id = finish (fold write initial (id.text ∷ fed_u32 id.kind))

-- whether this is the digest of an account's owner
abbrev pub has_digest : ℕ → Account → Bool
has_digest digest account = digest_of (owner_of account) == digest

-- whether the account at a place passes a test
abbrev pub passes_at : (Account → Bool) → List Account → ℕ → Bool
passes_at p [] place = false
passes_at p (account ∷ accounts) zero = p account
passes_at p (account ∷ accounts) (suc place) = passes_at p accounts place

-- a place that an index tells, if the account there passes a test
abbrev pub confirmed : (Account → Bool) → List Account → Option ℕ → Option ℕ
confirmed p accounts None = None
confirmed p accounts (Some place) = if passes_at p accounts place then Some place else None

module _ {S : Type 0} where
  -- what is told and confirmed of a digest is the place of the first account that has it
  abbrev pub Finds : List Account → HashMap ℕ ℕ S → Type 0
  Finds accounts firsts = (digest : ℕ) → confirmed (has_digest digest) accounts (get nat_eq firsts digest) ≡ position (has_digest digest) accounts

  -- a set of Subscription-Ids has those of a list
  abbrev pub Knows : List Subscription → HashSet Subscription S → Type 0
  Knows ids known = (id : Subscription) → contains same_subscription known id ≡ is_among ids id

equal_number : (m n : ℕ) → eqb m n ≡ true → m ≡ n
equal_number m n e = search rules

equal_text : (xs ys : List ℕ) → same_session xs ys ≡ true → xs ≡ ys
equal_text [] [] e = refl
equal_text [] (y ∷ ys) e = absurd cc
equal_text (x ∷ xs) [] e = absurd cc
equal_text (x ∷ xs) (y ∷ ys) e =
    let parts = and_parts (eqb x y) (same_session xs ys) e in
    let head : x ≡ y = equal_number x y parts.0 in
    let tail : xs ≡ ys = equal_text xs ys parts.1 in cc

-- two that are one by type and text are equal
pub one_subscription : (one other : Subscription) → same_subscription one other ≡ true → one ≡ other
one_subscription one other e =
    let parts = and_parts (eqb one.kind other.kind) (same_session one.text other.text) e in
    let kind = equal_number one.kind other.kind parts.0 in
    let text = equal_text one.text other.text parts.1 in λ i. record { kind = kind i; text = text i }
