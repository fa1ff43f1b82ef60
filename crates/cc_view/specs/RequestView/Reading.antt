-- What the groups of a request say, as they are read one after the other.
use Rattle.std.specs.Prelude.{◌≡◌, ℕ, ◌+◌, ◌^◌, ◌≤◌, List, [], ◌∷◌, filter, map, if◌then◌else◌, Option, Some, None, slice_index_or}
use Rattle.std.specs.Option.{option_or, unwrap_or}
use Rattle.dia_avp.specs.declared.avp.RawAvp.{RawAvp}
use Rattle.dia_grammar.specs.Grammar.{is_of}
use Rattle.dia_base.specs.Codes.{cc_service_specific_units, cc_time, cc_total_octets, multiple_services, requested_service_unit, subscription_id, used_service_unit}
use Rattle.cc_view.specs.declared.request.Service.{Service}
use Rattle.cc_view.specs.declared.request.Subscription.{Subscription}
use Rattle.cc_view.specs.declared.view.groups.Group.{Group}
use Rattle.cc_view.specs.declared.view.groups.Group.TheVariants.{Asked, Named, Subscriber, Unread, Used}
use Rattle.cc_view.specs.declared.view.groups.Groups.{Groups}
use Rattle.cc_view.specs.declared.view.units.Units.{Units}
use Rattle.cc_view.specs.RequestView.Content.{service_of, subscription_of}
use Rattle.cc_view.specs.RequestView.Counts.{asked_in, counts_of, octets_of, time_of, u32_in, u64_in, units_of as specific_of, used_by}

-- ---- units

-- the counts among the AVPs in a group of units
abbrev pub counts_in : List RawAvp → List (Option ℕ)
counts_in avps = u32_in cc_time avps ∷ u64_in cc_total_octets avps ∷ u64_in cc_service_specific_units avps ∷ []

-- the units among AVPs
abbrev pub units_in : List RawAvp → Units
units_in avps = record {
  asked = asked_in avps;
  time = used_by time_of avps;
  octets = used_by octets_of avps;
  specific = used_by specific_of avps;
}

-- one more Requested-Service-Unit: the first one stands
abbrev pub with_asked : List (Option ℕ) → Units → Units
with_asked counts units = record units { asked = option_or units.asked (Some counts) }

-- one more Used-Service-Unit: a count that is not there is 0
abbrev pub with_used : List (Option ℕ) → Units → Units
with_used counts units = record units {
  time = units.time + unwrap_or (slice_index_or counts 0 None) 0;
  octets = units.octets + unwrap_or (slice_index_or counts 1 None) 0;
  specific = units.specific + unwrap_or (slice_index_or counts 2 None) 0;
}

-- the units with those of one more AVP, if it is a group of them
abbrev pub with_group : RawAvp → Units → Units
with_group avp units =
    if is_of requested_service_unit avp then with_asked (counts_of avp) units
    else if is_of used_service_unit avp then with_used (counts_of avp) units else units

-- each sum has room for one more count
pub record HasRoom (units : Units) : Type 0 where
  pub time : units.time + 2 ^ 64 ≤ 2 ^ 128
  pub octets : units.octets + 2 ^ 64 ≤ 2 ^ 128
  pub specific : units.specific + 2 ^ 64 ≤ 2 ^ 128

-- no sum has grown by more than one count
pub record GrowsBy (units more : Units) : Type 0 where
  pub time : more.time ≤ units.time + 2 ^ 64
  pub octets : more.octets ≤ units.octets + 2 ^ 64
  pub specific : more.specific ≤ units.specific + 2 ^ 64

-- ---- groups of the command

-- what an AVP of the command says, if it is a group that is looked at
abbrev pub group_of : RawAvp → Group
group_of avp =
    if is_of subscription_id avp then Subscriber (subscription_of avp)
    else if is_of requested_service_unit avp then Asked (counts_of avp)
    else if is_of used_service_unit avp then Used (counts_of avp)
    else if is_of multiple_services avp then Named (service_of avp) else Unread

abbrev pub subscriptions_of : Group → List Subscription
subscriptions_of (Subscriber subscription) = subscription ∷ []
subscriptions_of _ = []

abbrev pub services_of : Group → List Service
services_of (Named service) = service ∷ []
services_of _ = []

-- the units of the command with those of one more group
abbrev pub units_of : Group → Units → Units
units_of (Asked counts) units = with_asked counts units
units_of (Used counts) units = with_used counts units
units_of _ units = units

-- the groups are those of these AVPs
pub record AreGroupsOf (avps : List RawAvp) (groups : Groups) : Type 0 where
  pub subscriptions : groups.subscriptions.items ≡ map subscription_of (filter (is_of subscription_id) avps)
  pub services : groups.services.items ≡ map service_of (filter (is_of multiple_services) avps)
  pub units : groups.units ≡ units_in avps
