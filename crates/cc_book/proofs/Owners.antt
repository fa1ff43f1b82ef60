-- What an index by Subscription-Id finds of accounts.
use Rattle.std.proofs.Common.{◌≡◌, ℕ, zero, suc, ◌+◌, ◌<◌, ◌≤◌, Bool, true, false, cond, not, ◌&&◌, ◌||◌, eqb, ltb, List, [], ◌∷◌, ◌++◌, length, take, get_or, Option, Some, None, refl, sym, ap, subst, ◌∙◌, arith, rules, one-add}
use Rattle.std.specs.Prelude.{is_some, nat_eq, IfSome}
use Rattle.std.specs.List.{list_any, position, position_or_len}
use Rattle.std.specs.Option.{option_map, option_or}
use Rattle.std.specs.HashMap.{HashMap}
use Rattle.std.specs.HashSet.{HashSet}
use Rattle.indexmap.specs.IndexMap.{get}
use Rattle.indexmap.specs.IndexSet.{contains}
use Rattle.cc_book.specs.declared.account.Account.{Account}
use Rattle.cc_view.specs.declared.request.Subscription.{Subscription}
use Rattle.cc_book.specs.Duplicate.{same_session}
use Rattle.cc_book.specs.TermsChange.{account_with, is_among, owns, same_owner, same_subscription}
use Rattle.cc_book.specs.Owners.{Finds, Knows, confirmed, digest_of, has_digest, one_subscription, owner_of, passes_at}

-- ---- the first place at which a test passes, from the front on

positive : (n : ℕ) → ltb 0 (suc n) ≡ true
positive n = search rules

module _ {X : Type 0} (p : X → Bool) where
  pub position-cons : (x : X) (xs : List X) → position p (x ∷ xs) ≡ cond (p x) (Some 0) (option_map suc (position p xs))
  position-cons x xs = by (p x) refl where
    more : (b : Bool) (n : ℕ) → cond b (Some (1 + n)) None ≡ option_map suc (cond b (Some n) None)
    more true n = ap Some (one-add n)
    more false n = refl

    by : (b : Bool) → p x ≡ b → position p (x ∷ xs) ≡ cond b (Some 0) (option_map suc (position p xs))
    by true e =
        ap (λ (b : Bool). cond (ltb (cond {A = ℕ} (not b) (1 + position_or_len p xs) 0) (suc (length xs))) (Some (cond {A = ℕ} (not b) (1 + position_or_len p xs) 0)) None) e
        ∙ ap (λ (b : Bool). cond b (Some 0) None) (positive (length xs))
    by false e =
        let step : ltb (1 + position_or_len p xs) (suc (length xs)) ≡ ltb (position_or_len p xs) (length xs) = search rules in
        ap (λ (b : Bool). cond (ltb (cond {A = ℕ} (not b) (1 + position_or_len p xs) 0) (suc (length xs))) (Some (cond {A = ℕ} (not b) (1 + position_or_len p xs) 0)) None) e
        ∙ ap (λ (b : Bool). cond b (Some (1 + position_or_len p xs)) None) step
        ∙ more (ltb (position_or_len p xs) (length xs)) (position_or_len p xs)

  behind : (found : Option ℕ) (last : Bool) (n : ℕ) → option_map suc (option_or found (cond last (Some n) None)) ≡ option_or (option_map suc found) (cond last (Some (suc n)) None)
  behind None true n = refl
  behind None false n = refl
  behind (Some m) last n = refl

  pub position-last : (xs : List X) (y : X) → position p (xs ++ y ∷ []) ≡ option_or (position p xs) (cond (p y) (Some (length xs)) None)
  position-last [] y = position-cons y []
  position-last (x ∷ xs) y =
      position-cons x (xs ++ y ∷ [])
      ∙ ap (λ (found : Option ℕ). cond (p x) (Some 0) (option_map suc found)) (position-last xs y)
      ∙ by (p x)
      ∙ sym (ap (λ (found : Option ℕ). option_or found (cond (p y) (Some (suc (length xs))) None)) (position-cons x xs))
    where
      by : (b : Bool) → cond b (Some 0) (option_map suc (option_or (position p xs) (cond (p y) (Some (length xs)) None)))
          ≡ option_or (cond b (Some 0) (option_map suc (position p xs))) (cond (p y) (Some (suc (length xs))) None)
      by true = refl
      by false = behind (position p xs) (p y) (length xs)

  -- a place, if it is one of the first
  abbrev pub bounded : ℕ → Option ℕ → Option ℕ
  bounded n None = None
  bounded n (Some place) = cond (ltb place n) (Some place) None

  bounded_suc : (n : ℕ) (found : Option ℕ) → option_map suc (bounded n found) ≡ bounded (suc n) (option_map suc found)
  bounded_suc n None = refl
  bounded_suc n (Some place) = let step : ltb (suc place) (suc n) ≡ ltb place n = search rules in
      by (ltb place n) ∙ sym (ap (λ (b : Bool). cond b (Some (suc place)) None) step)
    where
      by : (b : Bool) → option_map suc (cond b (Some place) None) ≡ cond b (Some (suc place)) None
      by true = refl
      by false = refl

  nothing : (found : Option ℕ) → bounded 0 found ≡ None
  nothing None = refl
  nothing (Some place) = let none : ltb place 0 ≡ false = search rules in ap (λ (b : Bool). cond b (Some place) None) none

  pub position-take : (n : ℕ) (xs : List X) → position p (take n xs) ≡ bounded n (position p xs)
  position-take zero xs = sym (nothing (position p xs))
  position-take (suc n) [] = refl
  position-take (suc n) (x ∷ xs) =
      position-cons x (take n xs)
      ∙ ap (λ (found : Option ℕ). cond (p x) (Some 0) (option_map suc found)) (position-take n xs)
      ∙ by (p x)
      ∙ sym (ap (bounded (suc n)) (position-cons x xs))
    where
      by : (b : Bool) → cond b (Some 0) (option_map suc (bounded n (position p xs))) ≡ bounded (suc n) (cond b (Some 0) (option_map suc (position p xs)))
      by true = sym (ap (λ (b : Bool). cond b (Some 0) None) (positive n))
      by false = bounded_suc n (position p xs)

  pub any-placed : (xs : List X) → is_some (position p xs) ≡ list_any p xs
  any-placed [] = refl
  any-placed (x ∷ xs) = ap is_some (position-cons x xs) ∙ by (p x) (any-placed xs) where
    later : (found : Option ℕ) → is_some (option_map suc found) ≡ is_some found
    later None = refl
    later (Some n) = refl

    by : (b : Bool) → is_some (position p xs) ≡ list_any p xs → is_some (cond b (Some 0) (option_map suc (position p xs))) ≡ (b || list_any p xs)
    by true more = refl
    by false more = later (position p xs) ∙ more

-- ---- the Subscription-Id of an account

turned_number : (m n : ℕ) → eqb m n ≡ eqb n m
turned_number m n = search rules

turned_text : (xs ys : List ℕ) → same_session xs ys ≡ same_session ys xs
turned_text [] [] = refl
turned_text [] (y ∷ ys) = refl
turned_text (x ∷ xs) [] = refl
turned_text (x ∷ xs) (y ∷ ys) = λ i. turned_number x y i && turned_text xs ys i

owns-turned : (account other : Account) → owns (owner_of account) other ≡ same_owner account other
owns-turned account other = λ i. turned_number other.id_kind account.id_kind i && turned_text other.id account.id i

any_by : (account : Account) (accounts : List Account) → list_any (owns (owner_of account)) accounts ≡ list_any (same_owner account) accounts
any_by account [] = refl
any_by account (other ∷ accounts) = λ i. owns-turned account other i || any_by account accounts i

pub any-owner : (account : Account) (accounts : List Account) → is_some (account_with accounts (owner_of account)) ≡ list_any (same_owner account) accounts
any-owner account accounts = any-placed (owns (owner_of account)) accounts ∙ any_by account accounts

-- whether a place that is found stands before another one
abbrev pub is_before : Option ℕ → ℕ → Bool
is_before None place = false
is_before (Some first) place = ltb first place

pub owner-before : (account : Account) (accounts : List Account) (place : ℕ) (found : Option ℕ) → account_with accounts (owner_of account) ≡ found
    → list_any (same_owner account) (take place accounts) ≡ is_before found place
owner-before account accounts place found is =
    sym (any-owner account (take place accounts))
    ∙ ap is_some (position-take (owns (owner_of account)) place accounts ∙ ap (bounded (owns (owner_of account)) place) is)
    ∙ by found
  where
    by : (found : Option ℕ) → is_some (bounded (owns (owner_of account)) place found) ≡ is_before found place
    by None = refl
    by (Some first) = two (ltb first place) where
      two : (b : Bool) → is_some (cond b (Some first) None) ≡ b
      two true = refl
      two false = refl

-- ---- two tests of which one implies the other

module _ {X : Type 0} (p q : X → Bool) (implied : (x : X) → q x ≡ true → p x ≡ true) where
  turned : (x : X) → p x ≡ false → q x ≡ false
  turned x e = by (q x) refl where
    by : (b : Bool) → q x ≡ b → q x ≡ false
    by true is = let two = implied x is in absurd cc
    by false is = is

  -- where none passes the one, none passes the other
  pub nowhere-narrow : (xs : List X) → position p xs ≡ None → position q xs ≡ None
  nowhere-narrow [] e = refl
  nowhere-narrow (x ∷ xs) e = by (p x) refl (λ more. nowhere-narrow xs more) (sym (position-cons p x xs) ∙ e) where
    none : (found : Option ℕ) → option_map suc found ≡ None → found ≡ None
    none None is = refl
    none (Some n) is = absurd cc

    by : (b : Bool) → p x ≡ b → (position p xs ≡ None → position q xs ≡ None) → cond b (Some 0) (option_map suc (position p xs)) ≡ None → position q (x ∷ xs) ≡ None
    by true is behind e = absurd cc
    by false is behind e =
        position-cons q x xs
        ∙ ap (λ (b : Bool). cond b (Some 0) (option_map suc (position q xs))) (turned x is)
        ∙ ap (option_map suc) (behind (none (position p xs) e))

-- ---- what is confirmed

pub passes_at-within : (p : Account → Bool) (accounts : List Account) (place : ℕ) → passes_at p accounts place ≡ true → place < length accounts
passes_at-within p [] place e = absurd cc
passes_at-within p (a ∷ accounts) zero e = search rules
passes_at-within p (a ∷ accounts) (suc place) e = let more = passes_at-within p accounts place e in omega arith

pub passes_at-get : (p : Account → Bool) (accounts : List Account) (place : ℕ) (d : Account) → place < length accounts
    → passes_at p accounts place ≡ p (get_or accounts place d)
passes_at-get p [] place d lt = absurd (omega arith)
passes_at-get p (a ∷ accounts) zero d lt = refl
passes_at-get p (a ∷ accounts) (suc place) d lt = passes_at-get p accounts place d (omega arith)

pub passes_at-past : (p : Account → Bool) (accounts : List Account) (place : ℕ) → length accounts ≤ place → passes_at p accounts place ≡ false
passes_at-past p [] place le = refl
passes_at-past p (a ∷ accounts) zero le = absurd (omega arith)
passes_at-past p (a ∷ accounts) (suc place) le = passes_at-past p accounts place (omega arith)

passes_at-last : (p : Account → Bool) (accounts : List Account) (last : Account) → passes_at p (accounts ++ last ∷ []) (length accounts) ≡ p last
passes_at-last p [] last = refl
passes_at-last p (a ∷ accounts) last = passes_at-last p accounts last

-- an account that does not pass confirms nothing
passes_at-other : (p : Account → Bool) (accounts : List Account) (last : Account) (place : ℕ) → p last ≡ false
    → passes_at p (accounts ++ last ∷ []) place ≡ passes_at p accounts place
passes_at-other p [] last zero e = e
passes_at-other p [] last (suc place) e = refl
passes_at-other p (a ∷ accounts) last zero e = refl
passes_at-other p (a ∷ accounts) last (suc place) e = passes_at-other p accounts last place e

-- what is confirmed stays so
passes_at-stays : (p : Account → Bool) (accounts : List Account) (last : Account) (place : ℕ) → passes_at p accounts place ≡ true
    → passes_at p (accounts ++ last ∷ []) place ≡ true
passes_at-stays p [] last place e = absurd cc
passes_at-stays p (a ∷ accounts) last zero e = e
passes_at-stays p (a ∷ accounts) last (suc place) e = passes_at-stays p accounts last place e

passes_at-take : (p : Account → Bool) (n : ℕ) (accounts : List Account) (place : ℕ) → passes_at p (take n accounts) place ≡ (ltb place n && passes_at p accounts place)
passes_at-take p zero accounts place = let none : ltb place 0 ≡ false = search rules in sym (ap (λ (b : Bool). b && passes_at p accounts place) none)
passes_at-take p (suc n) [] place = by (ltb place (suc n)) where
  by : (b : Bool) → false ≡ (b && false)
  by true = refl
  by false = refl
passes_at-take p (suc n) (a ∷ accounts) zero = let some : ltb 0 (suc n) ≡ true = search rules in sym (ap (λ (b : Bool). b && p a) some)
passes_at-take p (suc n) (a ∷ accounts) (suc place) = let step : ltb (suc place) (suc n) ≡ ltb place n = search rules in
    passes_at-take p n accounts place ∙ sym (ap (λ (b : Bool). b && passes_at p accounts place) step)

confirmed-other : (p : Account → Bool) (accounts : List Account) (last : Account) (told : Option ℕ) → p last ≡ false
    → confirmed p (accounts ++ last ∷ []) told ≡ confirmed p accounts told
confirmed-other p accounts last None e = refl
confirmed-other p accounts last (Some place) e = ap (λ (b : Bool). cond b (Some place) None) (passes_at-other p accounts last place e)

confirmed-stays : (p : Account → Bool) (accounts : List Account) (last : Account) (told : Option ℕ) → is_some (confirmed p accounts told) ≡ true
    → confirmed p (accounts ++ last ∷ []) told ≡ confirmed p accounts told
confirmed-stays p accounts last None e = refl
confirmed-stays p accounts last (Some place) e = by (passes_at p accounts place) refl e where
  by : (b : Bool) → passes_at p accounts place ≡ b → is_some (cond b (Some place) None) ≡ true
      → cond (passes_at p (accounts ++ last ∷ []) place) (Some place) None ≡ cond (passes_at p accounts place) (Some place) None
  by true is some = ap (λ (b : Bool). cond b (Some place) None) (passes_at-stays p accounts last place is ∙ sym is)
  by false is some = absurd cc

confirmed-take : (p : Account → Bool) (n : ℕ) (accounts : List Account) (told : Option ℕ)
    → confirmed p (take n accounts) told ≡ bounded p n (confirmed p accounts told)
confirmed-take p n accounts None = refl
confirmed-take p n accounts (Some place) =
    ap (λ (b : Bool). cond b (Some place) None) (passes_at-take p n accounts place) ∙ by (ltb place n) refl (passes_at p accounts place)
  where
    by : (b : Bool) → ltb place n ≡ b → (has : Bool) → cond (ltb place n && has) (Some place) None ≡ bounded p n (cond has (Some place) None)
    by b e true = two (ltb place n) where
      two : (c : Bool) → cond (c && true) (Some place) None ≡ cond c (Some place) None
      two true = refl
      two false = refl
    by b e false = two (ltb place n) where
      two : (c : Bool) → cond {A = Option ℕ} (c && false) (Some place) None ≡ None
      two true = refl
      two false = refl

or_none : (found : Option ℕ) → option_or found None ≡ found
or_none None = refl
or_none (Some at) = refl

or_some : (found later : Option ℕ) → is_some found ≡ true → option_or found later ≡ found
or_some None later e = absurd cc
or_some (Some at) later e = refl

is_none : (found : Option ℕ) → is_some found ≡ false → found ≡ None
is_none None e = refl
is_none (Some n) e = absurd cc

equal_digests : (m n : ℕ) → eqb m n ≡ true → m ≡ n
equal_digests m n e = search rules

-- ---- an account more, and fewer

module _ {S : Type 0} (accounts : List Account) (old : HashMap ℕ ℕ S) (finds : Finds accounts old) where
  -- the first accounts alone
  pub finds-first : (n : ℕ) → Finds (take n accounts) old
  finds-first n digest =
      confirmed-take (has_digest digest) n accounts (get nat_eq old digest) ∙ ap (bounded (has_digest digest) n) (finds digest) ∙ sym (position-take (has_digest digest) n accounts)

  same-at : (account : Account) (digest : ℕ) → has_digest digest account ≡ false
      → confirmed (has_digest digest) (accounts ++ account ∷ []) (get nat_eq old digest) ≡ position (has_digest digest) (accounts ++ account ∷ [])
  same-at account digest other =
      confirmed-other (has_digest digest) accounts account (get nat_eq old digest) other ∙ finds digest
      ∙ sym (position-last (has_digest digest) accounts account
      ∙ ap (λ (b : Bool). option_or (position (has_digest digest) accounts) (cond b (Some (length accounts)) None)) other
      ∙ or_none (position (has_digest digest) accounts))

  -- an account whose digest one before it has
  pub finds-known : (account : Account) → is_some (confirmed (has_digest (digest_of (owner_of account))) accounts (get nat_eq old (digest_of (owner_of account)))) ≡ true
      → Finds (accounts ++ account ∷ []) old
  finds-known account known digest = by (has_digest digest account) refl where
    by : (b : Bool) → has_digest digest account ≡ b → confirmed (has_digest digest) (accounts ++ account ∷ []) (get nat_eq old digest) ≡ position (has_digest digest) (accounts ++ account ∷ [])
    by true e =
        let same = equal_digests (digest_of (owner_of account)) digest e in
        let there : is_some (confirmed (has_digest digest) accounts (get nat_eq old digest)) ≡ true =
        subst (λ (d : ℕ). is_some (confirmed (has_digest d) accounts (get nat_eq old d)) ≡ true) same known in
        confirmed-stays (has_digest digest) accounts account (get nat_eq old digest) there ∙ finds digest
        ∙ sym (position-last (has_digest digest) accounts account
        ∙ or_some (position (has_digest digest) accounts) (cond (has_digest digest account) (Some (length accounts)) None) (ap is_some (sym (finds digest)) ∙ there))
    by false e = same-at account digest e

  module _ (account : Account) (new : HashMap ℕ ℕ S)
      (none : is_some (confirmed (has_digest (digest_of (owner_of account))) accounts (get nat_eq old (digest_of (owner_of account)))) ≡ false)
      (updated : (digest : ℕ) → get nat_eq new digest
      ≡ cond (nat_eq (digest_of (owner_of account)) digest) (Some (length accounts)) (get nat_eq old digest)) where
    nowhere : (digest : ℕ) → has_digest digest account ≡ true → position (has_digest digest) accounts ≡ None
    nowhere digest e =
        let same = equal_digests (digest_of (owner_of account)) digest e in
        sym (finds digest)
        ∙ subst (λ (d : ℕ). confirmed (has_digest d) accounts (get nat_eq old d) ≡ None) same
        (is_none (confirmed (has_digest (digest_of (owner_of account))) accounts (get nat_eq old (digest_of (owner_of account)))) none)

    -- the first account with its digest
    pub finds-new : Finds (accounts ++ account ∷ []) new
    finds-new digest = by (has_digest digest account) refl where
      by : (b : Bool) → has_digest digest account ≡ b → confirmed (has_digest digest) (accounts ++ account ∷ []) (get nat_eq new digest) ≡ position (has_digest digest) (accounts ++ account ∷ [])
      by true e =
          ap (confirmed (has_digest digest) (accounts ++ account ∷ [])) (updated digest ∙ ap (λ (b : Bool). cond b (Some (length accounts)) (get nat_eq old digest)) e)
          ∙ ap (λ (b : Bool). cond b (Some (length accounts)) None) (passes_at-last (has_digest digest) accounts account ∙ e)
          ∙ sym (position-last (has_digest digest) accounts account
          ∙ ap (λ (b : Bool). option_or (position (has_digest digest) accounts) (cond b (Some (length accounts)) None)) e
          ∙ ap (λ (found : Option ℕ). option_or found (Some (length accounts))) (nowhere digest e))
      by false e =
          ap (confirmed (has_digest digest) (accounts ++ account ∷ [])) (updated digest ∙ ap (λ (b : Bool). cond b (Some (length accounts)) (get nat_eq old digest)) e)
          ∙ same-at account digest e

    -- as long as it has not joined, its place is not confirmed
    pub finds-still : Finds accounts new
    finds-still digest = by (has_digest digest account) refl where
      by : (b : Bool) → has_digest digest account ≡ b → confirmed (has_digest digest) accounts (get nat_eq new digest) ≡ position (has_digest digest) accounts
      by true e =
          ap (confirmed (has_digest digest) accounts) (updated digest ∙ ap (λ (b : Bool). cond b (Some (length accounts)) (get nat_eq old digest)) e)
          ∙ ap (λ (b : Bool). cond b (Some (length accounts)) None) (passes_at-past (has_digest digest) accounts (length accounts) (omega arith))
          ∙ sym (nowhere digest e)
      by false e =
          ap (confirmed (has_digest digest) accounts) (updated digest ∙ ap (λ (b : Bool). cond b (Some (length accounts)) (get nat_eq old digest)) e) ∙ finds digest

-- the same of an index that may not be there
pub if-finds-first : {S : Type 0} (accounts : List Account) (firsts : Option (HashMap ℕ ℕ S)) → IfSome firsts (Finds accounts) → (n : ℕ) → IfSome firsts (Finds (take n accounts))
if-finds-first accounts None none n = tt
if-finds-first accounts (Some firsts) finds n = finds-first accounts firsts finds n

-- ---- what an index tells of an owner

-- an account of an owner has the owner's digest
own-digest : (id : Subscription) (account : Account) → owns id account ≡ true → has_digest (digest_of id) account ≡ true
own-digest id account e =
    ap (λ (s : Subscription). eqb (digest_of s) (digest_of id)) (one_subscription (owner_of account) id e) ∙ same (digest_of id)
  where
    same : (d : ℕ) → eqb d d ≡ true
    same d = search rules

-- where no account has the digest of an owner, none is the owner's
pub no-digest : (id : Subscription) (accounts : List Account) → position (has_digest (digest_of id)) accounts ≡ None → account_with accounts id ≡ None
no-digest id accounts = nowhere-narrow (has_digest (digest_of id)) (owns id) (own-digest id) accounts

-- the first account that has the digest of an owner is the owner's first account, if it is the owner's
pub first-digest : (id : Subscription) (accounts : List Account) (place : ℕ) → position (has_digest (digest_of id)) accounts ≡ Some place
    → passes_at (owns id) accounts place ≡ true → account_with accounts id ≡ Some place
first-digest id [] place e own = absurd cc
first-digest id (a ∷ accounts) place e own = by (has_digest (digest_of id) a) refl (λ at found own. first-digest id accounts at found own) place own (sym (position-cons (has_digest (digest_of id)) a accounts) ∙ e) where
  later : (found : Option ℕ) (at : ℕ) → option_map suc found ≡ Some (suc at) → found ≡ Some at
  later None at e = absurd cc
  later (Some n) at e = cc

  not_first : (found : Option ℕ) → option_map suc found ≡ Some 0 → false ≡ true
  not_first None e = absurd cc
  not_first (Some n) e = absurd cc

  by : (b : Bool) → has_digest (digest_of id) a ≡ b
      → ((at : ℕ) → position (has_digest (digest_of id)) accounts ≡ Some at → passes_at (owns id) accounts at ≡ true → account_with accounts id ≡ Some at)
      → (at : ℕ) → passes_at (owns id) (a ∷ accounts) at ≡ true
      → cond b (Some 0) (option_map suc (position (has_digest (digest_of id)) accounts)) ≡ Some at → account_with (a ∷ accounts) id ≡ Some at
  by true is behind zero own e = position-cons (owns id) a accounts ∙ ap (λ (b : Bool). cond b (Some 0) (option_map suc (account_with accounts id))) own
  by true is behind (suc at) own e = absurd cc
  by false is behind zero own e = let no = not_first (position (has_digest (digest_of id)) accounts) e in absurd cc
  by false is behind (suc at) own e =
      position-cons (owns id) a accounts
      ∙ ap (λ (b : Bool). cond b (Some 0) (option_map suc (account_with accounts id))) (turned (has_digest (digest_of id)) (owns id) (own-digest id) a is)
      ∙ ap (option_map suc) (behind at (later (position (has_digest (digest_of id)) accounts) at e) own)

-- ---- a Subscription-Id more

pub knows-more : {S : Type 0} (ids : List Subscription) (id : Subscription) (old new : HashSet Subscription S) → Knows ids old
    → ((other : Subscription) → contains same_subscription new other ≡ cond (same_subscription id other) true (contains same_subscription old other))
    → Knows (ids ++ id ∷ []) new
knows-more ids id old new knows updated other =
    updated other ∙ ap (cond (same_subscription id other) true) (knows other) ∙ by (same_subscription id other) refl ids
  where
    turned : same_subscription id other ≡ same_subscription other id
    turned = λ i. turned_number id.kind other.kind i && turned_text id.text other.text i

    by : (b : Bool) → same_subscription id other ≡ b → (more : List Subscription) → cond b true (is_among more other) ≡ is_among (more ++ id ∷ []) other
    by true e [] = sym (ap (λ (b : Bool). b || false) (sym turned ∙ e))
    by false e [] = sym (ap (λ (b : Bool). b || false) (sym turned ∙ e))
    by true e (x ∷ more) = two (same_subscription other x) (by true e more) where
      two : (b : Bool) → true ≡ is_among (more ++ id ∷ []) other → true ≡ (b || is_among (more ++ id ∷ []) other)
      two true later = refl
      two false later = later
    by false e (x ∷ more) = ap (λ (b : Bool). same_subscription other x || b) (by false e more)

-- an account of an owner passes by the owner's digest too
own_passes : (id : Subscription) (accounts : List Account) (place : ℕ) → passes_at (owns id) accounts place ≡ true → passes_at (has_digest (digest_of id)) accounts place ≡ true
own_passes id [] place e = absurd cc
own_passes id (a ∷ accounts) zero e = own-digest id a e
own_passes id (a ∷ accounts) (suc place) e = own_passes id accounts place e

pub confirmed-within : (p : Account → Bool) (accounts : List Account) (told : Option ℕ) → IfSome (confirmed p accounts told) (λ (place : ℕ). place < length accounts)
confirmed-within p accounts None = tt
confirmed-within p accounts (Some place) = by (passes_at p accounts place) refl where
  by : (b : Bool) → passes_at p accounts place ≡ b → IfSome (cond b (Some place) None) (λ (at : ℕ). at < length accounts)
  by true e = passes_at-within p accounts place e
  by false e = tt

-- a place that the index tells of an owner's digest, where the account there is the owner's, is that of the owner's first account
pub first-own : (id : Subscription) (accounts : List Account) (told : Option ℕ)
    → confirmed (has_digest (digest_of id)) accounts told ≡ position (has_digest (digest_of id)) accounts
    → is_some (confirmed (owns id) accounts told) ≡ true → confirmed (owns id) accounts told ≡ account_with accounts id
first-own id accounts None finds some = absurd cc
first-own id accounts (Some place) finds some = by (passes_at (owns id) accounts place) refl some where
  by : (b : Bool) → passes_at (owns id) accounts place ≡ b → is_some (cond b (Some place) None) ≡ true → cond b (Some place) None ≡ account_with accounts id
  by true e is =
      let told : confirmed (has_digest (digest_of id)) accounts (Some place) ≡ Some place =
      ap (λ (b : Bool). cond b (Some place) None) (own_passes id accounts place e) in
      sym (first-digest id accounts place (sym finds ∙ told) e)
  by false e is = absurd cc
