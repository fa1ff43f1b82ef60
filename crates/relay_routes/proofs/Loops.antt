-- The test for a loop, and what a loop is.
use Rattle.std.proofs.Common.{◌≡◌, ◌≢◌, ℕ, ◌-◌, ◌==◌, ◌&&◌, ◌||◌, Bool, true, false, List, [], ◌∷◌, ◌++◌, length, Result, Ok, Err, IsOk, refl, ap, sym, ◌∙◌}
use Rattle.std.specs.Prelude.{MatchOption}
use Rattle.std.proofs.lemmas.Bool.{eqb-true, eq-eqb}
use Rattle.std.proofs.lemmas.List.Folds.{Any-from_list_any, list_any-append, list_any-from_Any}
use lib.Pointwise.{bytes_decides}
use Rattle.dia_base.specs.Folding.{folded_of, same_folded}
use Rattle.dia_avp.specs.declared.avp.RawAvp.{RawAvp}
use Rattle.dia_avp.specs.declared.fault.AvpFault.{AvpFault}
use Rattle.dia_avp.specs.AvpList.{Begins, BeginsWith, Reads, fault_at}
use Rattle.dia_avp.specs.AvpReading.{split_of}
use Rattle.dia_avp.proofs.Answering.{walked_all, walked_to}
use Rattle.dia_avp.proofs.Reading.{Begins-push}
use Rattle.dia_avp.proofs.Splitting.{split_of-reads, Reads-only}
use Rattle.relay_routes.specs.Routing.{is_record_of, named_in, names_node, loops, IsRecordOf, IsLoop}

all_three : (a b c : Bool) → (a && b && c) ≡ true → (a ≡ true) × (b ≡ true) × (c ≡ true)
all_three true true c e = (refl, refl, e)
all_three true false c e = absurd cc
all_three false b c e = absurd cc

joined : (a b c : Bool) → a ≡ true → b ≡ true → c ≡ true → (a && b && c) ≡ true
joined true true c p q e = e
joined true false c p q e = absurd cc
joined false b c p q e = absurd cc

pub same_folded-true : (xs ys : List ℕ) → same_folded xs ys ≡ true → folded_of xs ≡ folded_of ys
same_folded-true xs ys e = (bytes_decides (folded_of xs) (folded_of ys)).0 e

pub true-same_folded : (xs ys : List ℕ) → folded_of xs ≡ folded_of ys → same_folded xs ys ≡ true
true-same_folded xs ys e = (bytes_decides (folded_of xs) (folded_of ys)).1 e

record_is : (node : List ℕ) (avp : RawAvp) → is_record_of node avp ≡ true → IsRecordOf node avp
record_is node avp e =
    let parts = all_three (avp.code == 282) (avp.vendor == 0) (same_folded avp.value node) e in
    record { code = eqb-true _ _ parts.0; vendor = eqb-true _ _ parts.1; value = same_folded-true avp.value node parts.2 }

is_record : (node : List ℕ) (avp : RawAvp) → IsRecordOf node avp → is_record_of node avp ≡ true
is_record node avp r = joined (avp.code == 282) (avp.vendor == 0) (same_folded avp.value node) (eq-eqb _ _ r.code) (eq-eqb _ _ r.vendor) (true-same_folded avp.value node r.value)

loop_read : (node body : List ℕ) (r : Result (List RawAvp) AvpFault) → Reads body r → named_in node r ≡ true → IsLoop node body
loop_read node body (Ok avps) reads e =
    let some = Any-from_list_any (is_record_of node) avps e in
    record { avps = avps; spelled = reads; named = (some.0, some.1, some.2, some.3, record_is node some.1 some.4) }
loop_read node body (Err fault) reads e = absurd cc

pub IsLoop-from_test : (node body : List ℕ) → loops node body ≡ true → IsLoop node body
IsLoop-from_test node body e = loop_read node body (split_of body) (split_of-reads body) e

pub test-from_IsLoop : (node body : List ℕ) → IsLoop node body → loops node body ≡ true
test-from_IsLoop node body l =
    let some = l.named in
    ap (named_in node) (sym (Reads-only body (Ok l.avps) l.spelled)) ∙ list_any-from_Any (is_record_of node) l.avps (some.0, some.1, some.2, some.3, is_record node some.1 some.4)

-- ---- a walk over octets

-- the AVPs before the rest, and whether one of them names the node
pub record IsNamedSoFar (node octets rest : List ℕ) (named : Bool) : Type 0 where
  pub before : List RawAvp
  pub begins : Begins octets before rest
  pub is : named ≡ names_node node before

pub named_begun : (node octets : List ℕ) → IsNamedSoFar node octets octets false
named_begun node octets = record { before = []; begins = refl; is = refl }

or_last : (a b : Bool) → (a || (b || false)) ≡ (a || b)
or_last true b = refl
or_last false true = refl
or_last false false = refl

-- what is so is not asked again
pub named_once : (named more : Bool) → named ≡ true → named ≡ (named || more)
named_once true more e = refl
named_once false more e = absurd cc

-- with an AVP more
pub named_more : (node octets rest behind : List ℕ) (avp : RawAvp) (named next : Bool) → IsNamedSoFar node octets rest named → BeginsWith rest avp behind → next ≡ (named || is_record_of node avp)
    → IsNamedSoFar node octets behind next
named_more node octets rest behind avp named next n found is = record {
  before = n.before ++ avp ∷ [];
  begins = Begins-push octets n.before rest avp behind n.begins found;
  is = is ∙ ap (λ (b : Bool). b || is_record_of node avp) n.is ∙ sym (list_any-append (is_record_of node) n.before (avp ∷ []) ∙ or_last (names_node node n.before) (is_record_of node avp));
}

-- nothing is left
pub named_all : (node octets rest : List ℕ) (named : Bool) → IsNamedSoFar node octets rest named → rest ≡ [] → named ≡ loops node octets
named_all node octets rest named n none = n.is ∙ sym (ap (named_in node) (walked_all octets n.before rest n.begins none))

-- what is left begins with no AVP
pub named_nobody : {T : Type 0} (node octets rest : List ℕ) (named : Bool) (r : Result T AvpFault) (fault : AvpFault) → IsNamedSoFar node octets rest named → rest ≢ [] → r ≡ Err fault
    → MatchOption (fault_at (length octets - length rest) rest) (IsOk r) (λ f. r ≡ Err f) → false ≡ loops node octets
named_nobody {T} node octets rest named r fault n some is why = sym (ap (named_in node) (walked_to octets n.before rest r fault n.begins some is why))
