-- The Subscription-Ids of accounts, as a set that is kept in order.
use Rattle.std.proofs.Common.{◌≡◌, ℕ, Bool, true, false, cond, not, ◌&&◌, ◌||◌, ◌==◌, List, [], ◌∷◌, ◌++◌, length, Some, refl, sym, ap, ◌∙◌}
use Rattle.std.specs.BTreeMap.{is_at}
use Rattle.std.specs.Cmp.{unsigned_tied}
use Rattle.std.specs.Cmp.Lexicographic.{slice_cmp}
use Rattle.std.specs.List.{list_all, list_any}
use Rattle.std.specs.Ordering.{is_eq, nat_cmp, ordering_then}
use Rattle.std.specs.declared.cmp.Ordering.{Ordering}
use Rattle.std.specs.declared.cmp.Ordering.TheVariants.{Less, Equal, Greater}
use Rattle.std.proofs.lemmas.List.Folds.{list_any-append}
use Rattle.std.specs.Prelude.{nat_le}
use Rattle.cc_book.specs.declared.account.Account.{Account}
use Rattle.farm_base.specs.CheckedSite.{is_sound_account, is_visible, is_within, same_account, same_octets, size_of}
use Rattle.farm_site.specs.declared.account.Owner.{Owner}
use Rattle.farm_site.specs.declared.key.Key.TheVariants.{Id, IdKind, Opening}
use Rattle.farm_site.specs.Growing.{MayFollow}
use Rattle.farm_site.specs.Spelling.{SpellsAccount, number, value_at}
use Rattle.toml.specs.Data.{Members, integer, string}
use Rattle.farm_site.proofs.Pushing.{and_both, and_left, and_right}

-- by type, and then by text
abbrev pub owner_cmp : Owner → Owner → Ordering
owner_cmp a b = ordering_then (nat_cmp a.id_kind b.id_kind) (slice_cmp nat_cmp a.id.now b.id.now)

abbrev pub is_owned_by : Owner → Account → Bool
is_owned_by owner account = (account.id_kind == owner.id_kind) && same_octets account.id owner.id.now

-- these are the owners of these accounts
abbrev pub AreOwners : List Owner → List Account → Type 0
AreOwners owners accounts = (owner : Owner) → list_any (is_at (owner_cmp owner)) owners ≡ list_any (is_owned_by owner) accounts

is_eq-then : (o p : Ordering) → is_eq (ordering_then o p) ≡ (is_eq o && is_eq p)
is_eq-then Less p = refl
is_eq-then Equal p = refl
is_eq-then Greater p = refl

same_by_cmp : (xs ys : List ℕ) → is_eq (slice_cmp nat_cmp xs ys) ≡ same_octets xs ys
same_by_cmp [] [] = refl
same_by_cmp [] (y ∷ ys) = refl
same_by_cmp (x ∷ xs) [] = refl
same_by_cmp (x ∷ xs) (y ∷ ys) =
    is_eq-then (nat_cmp x y) (slice_cmp nat_cmp xs ys)
    ∙ ap (λ (b : Bool). b && is_eq (slice_cmp nat_cmp xs ys)) (unsigned_tied x y)
    ∙ ap (λ (b : Bool). (x == y) && b) (same_by_cmp xs ys)

same_owner : (a b : Owner) → is_eq (owner_cmp a b) ≡ ((a.id_kind == b.id_kind) && same_octets a.id.now b.id.now)
same_owner a b =
    is_eq-then (nat_cmp a.id_kind b.id_kind) (slice_cmp nat_cmp a.id.now b.id.now)
    ∙ ap (λ (c : Bool). c && is_eq (slice_cmp nat_cmp a.id.now b.id.now)) (unsigned_tied a.id_kind b.id_kind)
    ∙ ap (λ (c : Bool). (a.id_kind == b.id_kind) && c) (same_by_cmp a.id.now b.id.now)

is_owned : (account : Account) (owner q : Owner) → account.id_kind ≡ owner.id_kind → account.id ≡ owner.id.now → is_eq (owner_cmp owner q) ≡ is_owned_by q account
is_owned account owner q kind id =
    same_owner owner q
    ∙ ap (λ (k : ℕ). (k == q.id_kind) && same_octets owner.id.now q.id.now) (sym kind)
    ∙ ap (λ (xs : List ℕ). (account.id_kind == q.id_kind) && same_octets xs q.id.now) (sym id)

cond_or : (a b : Bool) → cond a true b ≡ (b || (a || false))
cond_or true true = refl
cond_or true false = refl
cond_or false true = refl
cond_or false false = refl

-- one more account, whose owner has been added
pub owners_push : (owners more : List Owner) (accounts : List Account) (account : Account) (owner : Owner) → AreOwners owners accounts → ((q : Owner) → list_any (is_at (owner_cmp q)) more ≡ cond (is_at (owner_cmp owner) q) true (list_any (is_at (owner_cmp q)) owners)) → account.id_kind ≡ owner.id_kind → account.id ≡ owner.id.now → AreOwners more (accounts ++ account ∷ [])
owners_push owners more accounts account owner before added kind id = λ (q : Owner).
    added q
    ∙ ap (λ (b : Bool). cond b true (list_any (is_at (owner_cmp q)) owners)) (is_owned account owner q kind id)
    ∙ ap (λ (b : Bool). cond (is_owned_by q account) true b) (before q)
    ∙ cond_or (is_owned_by q account) (list_any (is_owned_by q) accounts)
    ∙ sym (list_any-append (is_owned_by q) accounts (account ∷ []))

-- an account may follow where its owner has none
pub account_may_follow : (accounts : List Account) (account : Account) (owner : Owner) → account.id_kind ≡ owner.id_kind → account.id ≡ owner.id.now → nat_le owner.id_kind 4 ≡ true → (is_within 1 64 (length owner.id.now) && list_all is_visible owner.id.now) ≡ true → nat_le (size_of account.opening) 4611686018427387904 ≡ true → list_any (is_owned_by owner) accounts ≡ false → MayFollow is_sound_account same_account accounts account
account_may_follow accounts account owner kind id kind_within id_sound opening none =
    let within : is_within 1 64 (length account.id) ≡ true = ap (λ (xs : List ℕ). is_within 1 64 (length xs)) id ∙ and_left (is_within 1 64 (length owner.id.now)) (list_all is_visible owner.id.now) id_sound in
    let visible : list_all is_visible account.id ≡ true = ap (λ (xs : List ℕ). list_all is_visible xs) id ∙ and_right (is_within 1 64 (length owner.id.now)) (list_all is_visible owner.id.now) id_sound in
    let small : nat_le account.id_kind 4 ≡ true = ap (λ (k : ℕ). nat_le k 4) kind ∙ kind_within in
    record {
      sound = and_both (nat_le account.id_kind 4 && is_within 1 64 (length account.id) && list_all is_visible account.id) (nat_le (size_of account.opening) 4611686018427387904) (and_both (nat_le account.id_kind 4 && is_within 1 64 (length account.id)) (list_all is_visible account.id) (and_both (nat_le account.id_kind 4) (is_within 1 64 (length account.id)) small within) visible) opening;
      new =
          ap (λ (k : ℕ). list_any (λ (other : Account). (other.id_kind == k) && same_octets other.id account.id) accounts) kind
          ∙ ap (λ (xs : List ℕ). list_any (λ (other : Account). (other.id_kind == owner.id_kind) && same_octets other.id xs) accounts) id
          ∙ none;
    }

-- an account is what its entry spells, where its owner is
pub spelled_by : (entry : Members) (account : Account) (owner : Owner) → account.id_kind ≡ owner.id_kind → account.id ≡ owner.id.now → value_at IdKind entry ≡ Some (number owner.id_kind) → value_at Id entry ≡ Some (string owner.id.now) → value_at Opening entry ≡ Some (integer account.opening) → SpellsAccount entry account
spelled_by entry account owner kind id kind_stands id_stands opening = record {
  id_kind = kind_stands ∙ ap (λ (n : ℕ). Some (number n)) (sym kind);
  id = id_stands ∙ ap (λ (octets : List ℕ). Some (string octets)) (sym id);
  opening = opening;
}

-- what was not there before it was added
pub was_absent : (added there : Bool) → added ≡ not there → added ≡ true → there ≡ false
was_absent added true e h = absurd cc
was_absent added false e h = refl

-- what was not added was there
pub was_there : (added there : Bool) → added ≡ not there → added ≡ false → there ≡ true
was_there added true e h = refl
was_there added false e h = absurd cc
