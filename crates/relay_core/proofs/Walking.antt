-- What a relay has read of a body after some of its AVPs, and after all of them.
use Rattle.std.proofs.Common.{◌≡◌, ◌≢◌, ◌∙◌, ℕ, ◌-◌, ◌==◌, ◌&&◌, ◌||◌, Bool, true, false, cond, List, [], ◌∷◌, ◌++◌, Option, Some, None, option_map, length, Result, Ok, Err, IsOk, refl, ap, sym, subst}
use Rattle.std.specs.Prelude.{MatchOption, MatchResult}
use Rattle.std.specs.List.{find}
use Rattle.std.specs.Option.{option_copied}
use Rattle.std.proofs.lemmas.List.Folds.{list_any-append}
use Rattle.dia_base.specs.Codes.{destination_host, destination_realm, route_record}
use Rattle.dia_base.specs.Folding.{same_folded}
use Rattle.dia_avp.specs.declared.avp.RawAvp.{RawAvp}
use Rattle.dia_avp.specs.declared.fault.AvpFault.{AvpFault}
use Rattle.dia_avp.specs.AvpList.{Begins, BeginsWith, fault_at}
use Rattle.dia_avp.specs.AvpReading.{split_of}
use Rattle.dia_avp.proofs.Answering.{walked_all, walked_to}
use Rattle.dia_avp.proofs.Reading.{Begins-push}
use Rattle.dia_grammar.specs.Grammar.{is_of}
use Rattle.cc_view.specs.Refusal.{avps_by, avps_of}
use Rattle.relay_routes.specs.Routing.{is_record_of, names_node, named_in, loops}
use Rattle.relay_core.specs.declared.reading.Reading.{Reading}
use Rattle.relay_core.specs.Failover.{avps_in}
use Rattle.relay_core.specs.NextHop.{host_in, realm_in, value_of}
use Rattle.relay_core.specs.Reading.{IsReadingOf, avps_in_octets, avps_in_part, avps_or_none, first_or}

-- ---- the first AVP of a code

value-one : (code : ℕ) (b : Bool) (avp : RawAvp) → option_map (λ (a : RawAvp). a.value) (cond b (Some avp) None) ≡ first_or None b avp.value
value-one code true avp = refl
value-one code false avp = refl

value-step : (b : Bool) (x : RawAvp) (o found : Option RawAvp) (is : Bool) (next : List ℕ)
    → option_map (λ (a : RawAvp). a.value) o ≡ first_or (option_map (λ (a : RawAvp). a.value) found) is next
    → option_map (λ (a : RawAvp). a.value) (cond b (Some x) o) ≡ first_or (option_map (λ (a : RawAvp). a.value) (cond b (Some x) found)) is next
value-step true x o found is next e = refl
value-step false x o found is next e = e

-- with an AVP more
pub value-more : (code : ℕ) (avps : List RawAvp) (avp : RawAvp) → value_of code (avps ++ avp ∷ []) ≡ first_or (value_of code avps) (is_of code avp) avp.value
value-more code [] avp = value-one code (is_of code avp) avp
value-more code (x ∷ avps) avp = value-step (is_of code x) x (find (is_of code) (avps ++ avp ∷ [])) (find (is_of code) avps) (is_of code avp) avp.value (value-more code avps avp)

-- ---- Route-Records

no_record : (code vendor value : Bool) → (vendor && code) ≡ false → (code && vendor && value) ≡ false
no_record true true value e = absurd cc
no_record true false value e = refl
no_record false vendor value e = refl

-- what is no Route-Record names nobody
other_avp : (node : List ℕ) (avp : RawAvp) → is_of route_record avp ≡ false → is_record_of node avp ≡ false
other_avp node avp e = no_record (avp.code == route_record) (avp.vendor == 0) (same_folded avp.value node) e

named-more : (node : List ℕ) (avps : List RawAvp) (avp : RawAvp) → names_node node (avps ++ avp ∷ []) ≡ (names_node node avps || (is_record_of node avp || false))
named-more node avps avp = list_any-append (is_record_of node) avps (avp ∷ [])

-- a part of a body whose AVPs, as far as they are read, name the nodes that those of the body name; where there is none they name nobody
abbrev pub NamesSoFar : Option (List ℕ) → List RawAvp → List ℕ → Type 0
NamesSoFar None before rest = (node : List ℕ) → names_node node before ≡ false
NamesSoFar (Some part) before rest = (later : List RawAvp) × Begins part later rest × ((node : List ℕ) → names_node node later ≡ names_node node before)

names-next : (is_record : Bool) (before : List RawAvp) (avp : RawAvp) (rest behind : List ℕ) → is_of route_record avp ≡ is_record → BeginsWith rest avp behind
    → ((node : List ℕ) → names_node node before ≡ false) → NamesSoFar (first_or None is_record rest) (before ++ avp ∷ []) behind
names-next true before avp rest behind is found none =
    (avp ∷ [], (behind, found, refl), λ node. sym (named-more node before avp ∙ ap (λ (b : Bool). b || (is_record_of node avp || false)) (none node)))
names-next false before avp rest behind is found none =
    λ node. named-more node before avp ∙ ap (λ (b : Bool). b || (is_record_of node avp || false)) (none node) ∙ ap (λ (b : Bool). b || false) (other_avp node avp is)

names-more : (part : Option (List ℕ)) (before : List RawAvp) (avp : RawAvp) (rest behind : List ℕ) → BeginsWith rest avp behind → NamesSoFar part before rest
    → NamesSoFar (first_or part (is_of route_record avp) rest) (before ++ avp ∷ []) behind
names-more None before avp rest behind found none = names-next (is_of route_record avp) before avp rest behind refl found none
names-more (Some part) before avp rest behind found so_far = (
  so_far.0 ++ avp ∷ [],
  Begins-push part so_far.0 rest avp behind so_far.1 found,
  λ node. named-more node so_far.0 avp ∙ ap (λ (b : Bool). b || (is_record_of node avp || false)) (so_far.2 node) ∙ sym (named-more node before avp),
)

-- ---- a walk over the body

-- what is read of the AVPs before the rest
pub record IsReadSoFar (body rest : List ℕ) (host realm records : Option (List ℕ)) : Type 0 where
  pub before : List RawAvp
  pub begins : Begins body before rest
  pub host_is : host ≡ host_in before
  pub realm_is : realm ≡ realm_in before
  pub named : NamesSoFar records before rest

pub read_begun : (body : List ℕ) (host realm records : Option (List ℕ)) → host ≡ None → realm ≡ None → records ≡ None → IsReadSoFar body body host realm records
read_begun body host realm records h r n = record {
  before = [];
  begins = refl;
  host_is = h;
  realm_is = r;
  named = subst (λ (part : Option (List ℕ)). NamesSoFar part [] body) (sym n) (λ node. refl);
}

pub read_more : (body rest behind : List ℕ) (avp : RawAvp) (host realm records next_host next_realm next_records : Option (List ℕ)) → IsReadSoFar body rest host realm records → BeginsWith rest avp behind
    → next_host ≡ first_or host (is_of destination_host avp) avp.value
    → next_realm ≡ first_or realm (is_of destination_realm avp) avp.value
    → next_records ≡ first_or records (is_of route_record avp) rest
    → IsReadSoFar body behind next_host next_realm next_records
read_more body rest behind avp host realm records next_host next_realm next_records so_far found h r n = record {
  before = so_far.before ++ avp ∷ [];
  begins = Begins-push body so_far.before rest avp behind so_far.begins found;
  host_is = h ∙ ap (λ (o : Option (List ℕ)). first_or o (is_of destination_host avp) avp.value) so_far.host_is ∙ sym (value-more destination_host so_far.before avp);
  realm_is = r ∙ ap (λ (o : Option (List ℕ)). first_or o (is_of destination_realm avp) avp.value) so_far.realm_is ∙ sym (value-more destination_realm so_far.before avp);
  named = subst (λ (part : Option (List ℕ)). NamesSoFar part (so_far.before ++ avp ∷ []) behind) (sym n) (names-more records so_far.before avp rest behind found so_far.named);
}

-- octets that spell AVPs are read as these
in_octets : (octets : List ℕ) (avps : List RawAvp) → split_of octets ≡ Ok avps → avps_in_octets octets ≡ avps
in_octets octets avps e = ap avps_or_none e

named-all : (part : Option (List ℕ)) (before : List RawAvp) (rest : List ℕ) → rest ≡ [] → NamesSoFar part before rest → (node : List ℕ)
    → names_node node (avps_in_part part) ≡ names_node node before
named-all None before rest none so_far node = sym (so_far node)
named-all (Some part) before rest none so_far node = ap (names_node node) (in_octets part so_far.0 (walked_all part so_far.0 rest so_far.1 none)) ∙ so_far.2 node

-- nothing is left
pub read_all : (body rest : List ℕ) (reading : Reading) → IsReadSoFar body rest (option_copied reading.host) (option_copied reading.realm) (option_copied reading.records) → rest ≡ []
    → (split_of body ≡ Ok (avps_in_octets body)) × IsReadingOf body reading
read_all body rest reading r none =
    let whole : split_of body ≡ Ok r.before = walked_all body r.before rest r.begins none in
    let same : r.before ≡ avps_in_octets body = sym (in_octets body r.before whole) in (
      whole ∙ ap (λ (avps : List RawAvp). Ok avps) same,
      record {
        host = r.host_is ∙ ap host_in same;
        realm = r.realm_is ∙ ap realm_in same;
        records = λ node. named-all (option_copied reading.records) r.before rest none r.named node ∙ ap (names_node node) same;
      },
    )

-- what is left begins with no AVP
pub read_to : {T : Type 0} (body rest : List ℕ) (host realm records : Option (List ℕ)) (r : Result T AvpFault) (fault : AvpFault) → IsReadSoFar body rest host realm records → rest ≢ [] → r ≡ Err fault
    → MatchOption (fault_at (length body - length rest) rest) (IsOk r) (λ f. r ≡ Err f) → split_of body ≡ Err fault
read_to {T} body rest host realm records r fault so_far some is why = walked_to body so_far.before rest r fault so_far.begins some is why

-- a fault is answered, and is that of the body
pub read_fault : (body : List ℕ) (result : Result Reading AvpFault) (fault : AvpFault) → result ≡ Err fault → split_of body ≡ Err fault
    → MatchResult result (λ reading. (split_of body ≡ Ok (avps_in_octets body)) × IsReadingOf body reading) (λ f. split_of body ≡ Err f)
read_fault body (Ok reading) fault is e = absurd cc
read_fault body (Err f) fault is e = let same : fault ≡ f = cc in e ∙ ap (λ (x : AvpFault). Err x) same

-- a body that is no list of AVPs is read as if it had none
pub nothing_read : (body : List ℕ) (reading : Reading) (fault : AvpFault) → split_of body ≡ Err fault → option_copied reading.host ≡ None → option_copied reading.realm ≡ None
    → option_copied reading.records ≡ None → IsReadingOf body reading
nothing_read body reading fault e host realm records =
    let none : [] ≡ avps_in_octets body = sym (ap avps_or_none e) in
    record {
      host = host ∙ ap host_in none;
      realm = realm ∙ ap realm_in none;
      records = λ node. ap (λ (part : Option (List ℕ)). names_node node (avps_in_part part)) records ∙ ap (names_node node) none;
    }

-- ---- a part of a body

named-read : (node : List ℕ) (r : Result (List RawAvp) AvpFault) → named_in node r ≡ names_node node (avps_or_none r)
named-read node (Ok avps) = refl
named-read node (Err fault) = refl

-- who is named by a Route-Record of octets
pub loops-named : (node octets : List ℕ) → loops node octets ≡ names_node node (avps_in_octets octets)
loops-named node octets = named-read node (split_of octets)

-- ---- a request that was sent before

again-of : (body : List ℕ) (r : Result (List RawAvp) AvpFault) → avps_in (avps_by body r) ≡ avps_or_none r
again-of body (Ok avps) = refl
again-of body (Err fault) = refl

-- its AVPs are read as they were before
pub avps_again : (body : List ℕ) → avps_in (avps_of body) ≡ avps_in_octets body
avps_again body = again-of body (split_of body)
