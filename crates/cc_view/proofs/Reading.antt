-- Groups that are checked and read one after the other.
use Rattle.std.proofs.Common.{◌≡◌, ℕ, ◌+◌, ◌<◌, Bool, true, false, cond, List, [], ◌∷◌, ◌++◌, length, take, get_or, map, Option, Some, None, option_map, Result, Ok, Err, refl, sym, ap, ◌∙◌, arith}
use Rattle.std.specs.List.{filter, find, sum_by}
use Rattle.std.specs.Option.{option_or, unwrap_or}
use Rattle.std.specs.Result.{result_ok}
use Rattle.std.proofs.lemmas.Bool.{false_from_ne_true}
use Rattle.std.proofs.lemmas.List.{map_push}
use Rattle.std.proofs.lemmas.List.Elements.{filter-append}
use Rattle.std.proofs.lemmas.List.Folds.{find-append}
use Rattle.std.proofs.lemmas.List.Sums.{sum_by_push}
use Rattle.dia_avp.specs.declared.avp.RawAvp.{RawAvp}
use Rattle.dia_avp.specs.declared.fault.AvpFault.{AvpFault}
use Rattle.dia_avp.specs.AvpReading.{split_of}
use Rattle.dia_base.specs.Codes.{multiple_services, rating_group, requested_service_unit, service_identifier, subscription_id, subscription_id_data, subscription_id_type, used_service_unit}
use Rattle.dia_grammar.specs.Grammar.{is_of}
use Rattle.cc_view.specs.declared.request.Service.{Service}
use Rattle.cc_view.specs.declared.request.Subscription.{Subscription}
use Rattle.cc_view.specs.declared.view.groups.Group.{Group}
use Rattle.cc_view.specs.declared.view.groups.Group.TheVariants.{Asked, Named, Subscriber, Unread, Used}
use Rattle.cc_view.specs.declared.view.groups.Groups.{Groups}
use Rattle.cc_view.specs.declared.view.units.Units.{Units}
use Rattle.cc_view.specs.Refusal.{avps_by, avps_of}
use Rattle.cc_view.specs.RequestView.Content.{octets_in, service_of, subscription_of}
use Rattle.cc_view.specs.RequestView.Counts.{asked_in, counts_of, members_of, octets_of, time_of, u32_in, units_of as specific_of, used_by}
use Rattle.cc_view.specs.RequestView.Reading.{AreGroupsOf, group_of, services_of, subscriptions_of, units_in, units_of, with_asked, with_group, with_used}
use Rattle.cc_view.proofs.Checks.{take-push}
use Rattle.cc_view.proofs.Unread.{code_is}

-- ---- the AVPs in a group

members-by : (octets : List ℕ) (split : Result (List RawAvp) AvpFault) (members : List RawAvp) → avps_by octets split ≡ Ok members → unwrap_or (result_ok split) [] ≡ members
members-by octets (Ok found) members e = cc
members-by octets (Err fault) members e = absurd cc

-- the AVPs in a group whose value is a list of them
pub members-listed : (group : RawAvp) (members : List RawAvp) → avps_of group.value ≡ Ok members → members_of group ≡ members
members-listed group members e = members-by group.value (split_of group.value) members e

abbrev subscription_made : ℕ → List ℕ → Subscription
subscription_made kind text = record { kind = kind; text = text }

pub subscription-read : (group : RawAvp) (members : List RawAvp) (kind : ℕ) (text : List ℕ) → members_of group ≡ members → kind ≡ unwrap_or (u32_in subscription_id_type members) 0 → text ≡ octets_in subscription_id_data members
    → subscription_made kind text ≡ subscription_of group
subscription-read group members kind text same k t =
    ap (λ (n : ℕ). subscription_made n text) k ∙ ap (subscription_made (unwrap_or (u32_in subscription_id_type members) 0)) t
    ∙ ap (λ (l : List RawAvp). subscription_made (unwrap_or (u32_in subscription_id_type l) 0) (octets_in subscription_id_data l)) (sym same)

abbrev service_made : Option ℕ → Option ℕ → Option (List (Option ℕ)) → List ℕ → Service
service_made name ident asked used = record { group = name; ident = ident; bare = false; asked = asked; used = used }

abbrev sums : Units → List ℕ
sums units = units.time ∷ units.octets ∷ units.specific ∷ []

pub service-read : (group : RawAvp) (members : List RawAvp) (name ident : Option ℕ) (units : Units) (used : List ℕ) → members_of group ≡ members → name ≡ u32_in rating_group members → ident ≡ u32_in service_identifier members
    → units ≡ units_in members → used ≡ units.time ∷ units.octets ∷ units.specific ∷ [] → service_made name ident units.asked used ≡ service_of group
service-read group members name ident units used same n i u s =
    ap (λ (o : Option ℕ). service_made o ident units.asked used) n ∙ ap (λ (o : Option ℕ). service_made (u32_in rating_group members) o units.asked used) i
    ∙ ap (service_made (u32_in rating_group members) (u32_in service_identifier members) units.asked) s
    ∙ ap (λ (x : Units). service_made (u32_in rating_group members) (u32_in service_identifier members) x.asked (sums x)) u
    ∙ ap (λ (l : List RawAvp). service_made (u32_in rating_group l) (u32_in service_identifier l) (asked_in l) (sums (units_in l))) (sym same)

-- ---- one more AVP

-- an AVP of one code is of no other
pub unlike : (code other : ℕ) (avp : RawAvp) → (code ≡ other → ⊥) → is_of code avp ≡ true → is_of other avp ≡ false
unlike code other avp differ is = false_from_ne_true (is_of other avp) (λ e. differ (sym (code_is code avp is) ∙ code_is other avp e))

kept : (code : ℕ) (xs : List RawAvp) (x : RawAvp) (b : Bool) → is_of code x ≡ b → filter (is_of code) (xs ++ x ∷ []) ≡ filter (is_of code) xs ++ cond b (x ∷ []) []
kept code xs x b is = filter-append (is_of code) xs (x ∷ []) ∙ ap (λ (c : Bool). filter (is_of code) xs ++ cond c (x ∷ []) []) is

append-none : {X : Type 0} (xs : List X) → xs ++ [] ≡ xs
append-none [] = refl
append-none {X} (x ∷ xs) = ap (λ (l : List X). x ∷ l) (append-none xs)

-- ---- units

asked-or : (first : Option RawAvp) (x : RawAvp) (b : Bool) → option_map counts_of (option_or first (cond b (Some x) None)) ≡ option_or (option_map counts_of first) (cond b (Some (counts_of x)) None)
asked-or (Some avp) x b = refl
asked-or None x true = refl
asked-or None x false = refl

asked-more : (xs : List RawAvp) (x : RawAvp) (b : Bool) → is_of requested_service_unit x ≡ b → asked_in (xs ++ x ∷ []) ≡ option_or (asked_in xs) (cond b (Some (counts_of x)) None)
asked-more xs x b is =
    ap (option_map counts_of) (find-append (is_of requested_service_unit) xs (x ∷ []) ∙ ap (λ (c : Bool). option_or (find (is_of requested_service_unit) xs) (cond c (Some x) None)) is)
    ∙ asked-or (find (is_of requested_service_unit) xs) x b

or-none : {X : Type 0} (o : Option X) → option_or o None ≡ o
or-none (Some x) = refl
or-none None = refl

used-more : (count : RawAvp → Option ℕ) (xs : List RawAvp) (x : RawAvp) → is_of used_service_unit x ≡ true → used_by count (xs ++ x ∷ []) ≡ used_by count xs + unwrap_or (count x) 0
used-more count xs x is =
    let weight : RawAvp → ℕ = λ (avp : RawAvp). unwrap_or (count avp) 0 in
    ap (sum_by weight) (kept used_service_unit xs x true is) ∙ sum_by_push weight (filter (is_of used_service_unit) xs) x

used-same : (count : RawAvp → Option ℕ) (xs : List RawAvp) (x : RawAvp) → is_of used_service_unit x ≡ false → used_by count (xs ++ x ∷ []) ≡ used_by count xs
used-same count xs x is =
    let weight : RawAvp → ℕ = λ (avp : RawAvp). unwrap_or (count avp) 0 in
    ap (sum_by weight) (kept used_service_unit xs x false is ∙ append-none (filter (is_of used_service_unit) xs))

abbrev made : Option (List (Option ℕ)) → ℕ → ℕ → ℕ → Units
made asked time octets specific = record { asked = asked; time = time; octets = octets; specific = specific }

units-are : (xs : List RawAvp) (units : Units) → units.asked ≡ asked_in xs → units.time ≡ used_by time_of xs → units.octets ≡ used_by octets_of xs → units.specific ≡ used_by specific_of xs → units ≡ units_in xs
units-are xs units asked time octets specific =
    ap (λ (o : Option (List (Option ℕ))). made o units.time units.octets units.specific) asked
    ∙ ap (λ (n : ℕ). made (asked_in xs) n units.octets units.specific) time
    ∙ ap (λ (n : ℕ). made (asked_in xs) (used_by time_of xs) n units.specific) octets
    ∙ ap (made (asked_in xs) (used_by time_of xs) (used_by octets_of xs)) specific

units-asked : (xs : List RawAvp) (x : RawAvp) → is_of requested_service_unit x ≡ true → is_of used_service_unit x ≡ false → with_asked (counts_of x) (units_in xs) ≡ units_in (xs ++ x ∷ [])
units-asked xs x is other =
    units-are (xs ++ x ∷ []) (with_asked (counts_of x) (units_in xs)) (sym (asked-more xs x true is)) (sym (used-same time_of xs x other)) (sym (used-same octets_of xs x other)) (sym (used-same specific_of xs x other))

units-used : (xs : List RawAvp) (x : RawAvp) → is_of requested_service_unit x ≡ false → is_of used_service_unit x ≡ true → with_used (counts_of x) (units_in xs) ≡ units_in (xs ++ x ∷ [])
units-used xs x other is =
    units-are (xs ++ x ∷ []) (with_used (counts_of x) (units_in xs)) (sym (asked-more xs x false other ∙ or-none (asked_in xs)))
    (sym (used-more time_of xs x is)) (sym (used-more octets_of xs x is)) (sym (used-more specific_of xs x is))

units-same : (xs : List RawAvp) (x : RawAvp) → is_of requested_service_unit x ≡ false → is_of used_service_unit x ≡ false → units_in xs ≡ units_in (xs ++ x ∷ [])
units-same xs x other none =
    units-are (xs ++ x ∷ []) (units_in xs) (sym (asked-more xs x false other ∙ or-none (asked_in xs)))
    (sym (used-same time_of xs x none)) (sym (used-same octets_of xs x none)) (sym (used-same specific_of xs x none))

abbrev group_by : RawAvp → Units → Bool → Bool → Units
group_by x units requested used = cond requested (with_asked (counts_of x) units) (cond used (with_used (counts_of x) units) units)

units-behind : (xs : List RawAvp) (x : RawAvp) (requested used : Bool) → is_of requested_service_unit x ≡ requested → is_of used_service_unit x ≡ used → group_by x (units_in xs) requested used ≡ units_in (xs ++ x ∷ [])
units-behind xs x true used is other = units-asked xs x is (unlike requested_service_unit used_service_unit x (λ same. omega (arith, same)) is)
units-behind xs x false true other is = units-used xs x other is
units-behind xs x false false other none = units-same xs x other none

-- the units with those of the next AVP
pub units-more : (xs : List RawAvp) (i : ℕ) (x : RawAvp) (units more : Units) → i < length xs → x ≡ get_or xs i x → units ≡ units_in (take i xs) → more ≡ with_group x units → more ≡ units_in (take (i + 1) xs)
units-more xs i x units more h is so e =
    e ∙ ap (with_group x) so ∙ units-behind (take i xs) x (is_of requested_service_unit x) (is_of used_service_unit x) refl refl ∙ ap units_in (sym (take-push xs i x h is))

-- ---- groups of the command

abbrev said_by : RawAvp → Bool → Bool → Bool → Bool → Group
said_by x subscription requested used service =
    cond subscription (Subscriber (subscription_of x)) (cond requested (Asked (counts_of x)) (cond used (Used (counts_of x)) (cond service (Named (service_of x)) Unread)))

no-subscription : (x : RawAvp) (requested used service : Bool) → subscriptions_of (said_by x false requested used service) ≡ []
no-subscription x true used service = refl
no-subscription x false true service = refl
no-subscription x false false true = refl
no-subscription x false false false = refl

subscription-said : (x : RawAvp) (subscription requested used service : Bool) → subscriptions_of (said_by x subscription requested used service) ≡ cond subscription (subscription_of x ∷ []) []
subscription-said x true requested used service = refl
subscription-said x false requested used service = no-subscription x requested used service

subscriptions-more : (xs : List RawAvp) (x : RawAvp) (b : Bool) → is_of subscription_id x ≡ b → map subscription_of (filter (is_of subscription_id) xs) ++ cond b (subscription_of x ∷ []) [] ≡ map subscription_of (filter (is_of subscription_id) (xs ++ x ∷ []))
subscriptions-more xs x true is = sym (ap (map subscription_of) (kept subscription_id xs x true is) ∙ map_push subscription_of (filter (is_of subscription_id) xs) x)
subscriptions-more xs x false is = append-none (map subscription_of (filter (is_of subscription_id) xs)) ∙ sym (ap (map subscription_of) (kept subscription_id xs x false is ∙ append-none (filter (is_of subscription_id) xs)))

services-more : (xs : List RawAvp) (x : RawAvp) (b : Bool) → is_of multiple_services x ≡ b → map service_of (filter (is_of multiple_services) xs) ++ cond b (service_of x ∷ []) [] ≡ map service_of (filter (is_of multiple_services) (xs ++ x ∷ []))
services-more xs x true is = sym (ap (map service_of) (kept multiple_services xs x true is) ∙ map_push service_of (filter (is_of multiple_services) xs) x)
services-more xs x false is = append-none (map service_of (filter (is_of multiple_services) xs)) ∙ sym (ap (map service_of) (kept multiple_services xs x false is ∙ append-none (filter (is_of multiple_services) xs)))

service-said : (x : RawAvp) (subscription requested used service : Bool) → is_of subscription_id x ≡ subscription → is_of requested_service_unit x ≡ requested → is_of used_service_unit x ≡ used → is_of multiple_services x ≡ service
    → services_of (said_by x subscription requested used service) ≡ cond service (service_of x ∷ []) []
service-said x true requested used service is r u m = ap (λ (b : Bool). cond b (service_of x ∷ []) []) (sym (unlike subscription_id multiple_services x (λ same. omega (arith, same)) is) ∙ m)
service-said x false true used service s is u m = ap (λ (b : Bool). cond b (service_of x ∷ []) []) (sym (unlike requested_service_unit multiple_services x (λ same. omega (arith, same)) is) ∙ m)
service-said x false false true service s r is m = ap (λ (b : Bool). cond b (service_of x ∷ []) []) (sym (unlike used_service_unit multiple_services x (λ same. omega (arith, same)) is) ∙ m)
service-said x false false false true s r u m = refl
service-said x false false false false s r u m = refl

units-said : (x : RawAvp) (units : Units) (subscription requested used service : Bool) → is_of subscription_id x ≡ subscription → is_of requested_service_unit x ≡ requested → is_of used_service_unit x ≡ used
    → units_of (said_by x subscription requested used service) units ≡ group_by x units requested used
units-said x units true requested used service is r u =
    ap (λ (b : Bool). group_by x units b false) (sym (unlike subscription_id requested_service_unit x (λ same. omega (arith, same)) is) ∙ r)
    ∙ ap (group_by x units requested) (sym (unlike subscription_id used_service_unit x (λ same. omega (arith, same)) is) ∙ u)
units-said x units false true used service s r u = refl
units-said x units false false true service s r u = refl
units-said x units false false false true s r u = refl
units-said x units false false false false s r u = refl

-- the groups with what the next AVP says
pub groups-more : (xs : List RawAvp) (i : ℕ) (x : RawAvp) (group : Group) (groups more : Groups) → i < length xs → x ≡ get_or xs i x → AreGroupsOf (take i xs) groups → group ≡ group_of x
    → more.subscriptions.items ≡ groups.subscriptions.items ++ subscriptions_of group → more.services.items ≡ groups.services.items ++ services_of group → more.units ≡ units_of group groups.units
    → AreGroupsOf (take (i + 1) xs) more
groups-more xs i x group groups more h is so said subscriptions services units =
    let front = take i xs in
    let s = is_of subscription_id x in
    let r = is_of requested_service_unit x in
    let u = is_of used_service_unit x in
    let m = is_of multiple_services x in
    let next = sym (take-push xs i x h is) in
    record {
      subscriptions =
          subscriptions ∙ ap (λ (l : List Subscription). l ++ subscriptions_of group) so.subscriptions
          ∙ ap (λ (l : List Subscription). map subscription_of (filter (is_of subscription_id) front) ++ l) (ap subscriptions_of said ∙ subscription-said x s r u m)
          ∙ subscriptions-more front x s refl ∙ ap (λ (l : List RawAvp). map subscription_of (filter (is_of subscription_id) l)) next;
      services =
          services ∙ ap (λ (l : List Service). l ++ services_of group) so.services
          ∙ ap (λ (l : List Service). map service_of (filter (is_of multiple_services) front) ++ l) (ap services_of said ∙ service-said x s r u m refl refl refl refl)
          ∙ services-more front x m refl ∙ ap (λ (l : List RawAvp). map service_of (filter (is_of multiple_services) l)) next;
      units =
          units ∙ ap (units_of group) so.units ∙ ap (λ (g : Group). units_of g (units_in front)) said ∙ units-said x (units_in front) s r u m refl refl refl
          ∙ units-behind front x r u refl refl ∙ ap units_in next;
    }
