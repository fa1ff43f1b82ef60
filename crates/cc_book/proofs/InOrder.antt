-- Grants, one service after the other.
use Rattle.std.proofs.Common.{◌≡◌, ℕ, ◌+◌, ◌<◌, ◌≤◌, ◌^◌, Bool, true, false, cond, List, [], ◌∷◌, ◌++◌, length, drop, get_or, Option, Some, None, sym, ap, ◌∙◌, add-one, arith}
use Rattle.std.specs.Prelude.{ℤ, negsuc, ◌≤ℤ◌, IfSome}
use Rattle.std.proofs.Math.Seq.{drop-cons}
use Rattle.std.proofs.lemmas.Int.{ints}
use Rattle.std.proofs.lemmas.List.{append_assoc, append-nil, drop_all}
use Rattle.cc_view.specs.declared.reply.ServiceReply.{ServiceReply}
use Rattle.cc_rating.specs.declared.tariff.Grant.{Grant}
use Rattle.cc_rating.specs.declared.tariff.Tariff.{Tariff}
use Rattle.cc_view.specs.declared.request.Service.{Service}
use Rattle.cc_book.specs.declared.session.Hold.{Hold}
use Rattle.cc_book.specs.declared.terms.Terms.{Terms}
use Rattle.cc_book.specs.AccountMachine.{free_behind, grant_to, hold_of, holds_from, is_refused, made_grant, replies_from, settled_reply}
use Rattle.cc_book.specs.Standing.{held_in}

-- what an index beyond the services would give
abbrev pub no_service : Service
no_service = record { group = None; ident = None; bare = false; asked = None; used = [] }

pub replies_from-next : (terms : Terms) (free : ℤ) (services : List Service) (i : ℕ) → i < length services
    → replies_from terms free (drop i services) ≡ settled_reply terms (get_or services i no_service)
    (grant_to terms.tariffs free (get_or services i no_service)) ∷ replies_from terms
    (free_behind free (grant_to terms.tariffs free (get_or services i no_service))) (drop (i + 1) services)
replies_from-next terms free services i lt =
    ap (replies_from terms free) (drop-cons services i no_service lt)
    ∙ ap (λ (j : ℕ). replies_from terms free (get_or services i no_service ∷ drop j services)) (sym (add-one i))

pub holds_from-next : (tariffs : List Tariff) (free : ℤ) (services : List Service) (i : ℕ) → i < length services
    → holds_from tariffs free (drop i services) ≡ hold_of (get_or services i no_service) (made_grant (grant_to tariffs free (get_or services i no_service)))
    ++ holds_from tariffs (free_behind free (grant_to tariffs free (get_or services i no_service))) (drop (i + 1) services)
holds_from-next tariffs free services i lt =
    ap (holds_from tariffs free) (drop-cons services i no_service lt)
    ∙ ap (λ (j : ℕ). holds_from tariffs free (get_or services i no_service ∷ drop j services)) (sym (add-one i))

pub held_in-append : (xs ys : List Hold) → held_in (xs ++ ys) ≡ held_in xs + held_in ys
held_in-append [] ys = omega arith
held_in-append (x ∷ xs) ys = let more = held_in-append xs ys in omega arith

-- a grant that is made holds no more than it says
pub held_in-made : (service : Service) (grant : Option Grant) → IfSome grant (λ made. made.held < 2 ^ 84)
    → held_in (hold_of service (made_grant grant)) ≤ 2 ^ 84
held_in-made service None small = omega arith
held_in-made service (Some grant) small = by (is_refused grant) where
  by : (refused : Bool) → held_in (hold_of service (cond refused None (Some grant))) ≤ 2 ^ 84
  by true = omega arith
  by false = omega (arith, small)

pub free_behind-least : (debt : ℕ) (free : ℤ) (grant : Option Grant) → negsuc debt ≤ℤ free → IfSome grant (λ made. made.held < 2 ^ 84)
    → negsuc (debt + 2 ^ 84) ≤ℤ free_behind free grant
free_behind-least debt free None least small = omega (arith, ints)
free_behind-least debt free (Some grant) least small = omega (arith, ints, least, small)

-- ---- one service more

pub replies-more : (terms : Terms) (free after : ℤ) (services : List Service) (i : ℕ) (replies next all : List ServiceReply) → i < length services
    → replies ++ replies_from terms free (drop i services) ≡ all
    → next ≡ replies ++ settled_reply terms (get_or services i no_service) (grant_to terms.tariffs free (get_or services i no_service)) ∷ []
    → after ≡ free_behind free (grant_to terms.tariffs free (get_or services i no_service))
    → next ++ replies_from terms after (drop (i + 1) services) ≡ all
replies-more terms free after services i replies next all lt so_far is left =
    let reply = settled_reply terms (get_or services i no_service) (grant_to terms.tariffs free (get_or services i no_service)) in
    let later = replies_from terms (free_behind free (grant_to terms.tariffs free (get_or services i no_service))) (drop (i + 1) services) in
    ap (λ (z : ℤ). next ++ replies_from terms z (drop (i + 1) services)) left
    ∙ ap (λ (rs : List ServiceReply). rs ++ later) is
    ∙ append_assoc replies (reply ∷ []) later
    ∙ sym (ap (λ (rs : List ServiceReply). replies ++ rs) (replies_from-next terms free services i lt))
    ∙ so_far

pub holds-more : (tariffs : List Tariff) (free after : ℤ) (services : List Service) (i : ℕ) (holds next all : List Hold) → i < length services
    → holds ++ holds_from tariffs free (drop i services) ≡ all
    → next ≡ holds ++ hold_of (get_or services i no_service) (made_grant (grant_to tariffs free (get_or services i no_service)))
    → after ≡ free_behind free (grant_to tariffs free (get_or services i no_service))
    → next ++ holds_from tariffs after (drop (i + 1) services) ≡ all
holds-more tariffs free after services i holds next all lt so_far is left =
    let more = hold_of (get_or services i no_service) (made_grant (grant_to tariffs free (get_or services i no_service))) in
    let later = holds_from tariffs (free_behind free (grant_to tariffs free (get_or services i no_service))) (drop (i + 1) services) in
    ap (λ (z : ℤ). next ++ holds_from tariffs z (drop (i + 1) services)) left
    ∙ ap (λ (hs : List Hold). hs ++ later) is
    ∙ append_assoc holds more later
    ∙ sym (ap (λ (hs : List Hold). holds ++ hs) (holds_from-next tariffs free services i lt))
    ∙ so_far

-- ---- all services

pub replies-all : (terms : Terms) (free : ℤ) (services : List Service) (i : ℕ) (replies all : List ServiceReply) → length services ≤ i
    → replies ++ replies_from terms free (drop i services) ≡ all → replies ≡ all
replies-all terms free services i replies all past is = sym (append-nil replies)
    ∙ sym (ap (λ (ss : List Service). replies ++ replies_from terms free ss) (drop_all i services past)) ∙ is

pub holds-all : (tariffs : List Tariff) (free : ℤ) (services : List Service) (i : ℕ) (holds all : List Hold) → length services ≤ i
    → holds ++ holds_from tariffs free (drop i services) ≡ all → holds ≡ all
holds-all tariffs free services i holds all past is = sym (append-nil holds)
    ∙ sym (ap (λ (ss : List Service). holds ++ holds_from tariffs free ss) (drop_all i services past)) ∙ is
