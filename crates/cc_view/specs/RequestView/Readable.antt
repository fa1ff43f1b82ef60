-- What a message is that is read as a request: its body and its groups are lists of AVPs, each value that
-- is looked at is one of its kind, and no two services have one name.
use Rattle.std.specs.Prelude.{◌≡◌, ◌≢◌, ℕ, List, All, AllPairs, true, Ok, IsOk}
use Rattle.dia_base.specs.Codes.{multiple_services, subscription_id}
use Rattle.dia_avp.specs.declared.avp.RawAvp.{RawAvp}
use Rattle.dia_avp.specs.AvpReading.{split_of}
use Rattle.dia_dict.specs.Reading.{reading_of}
use Rattle.dia_message.specs.declared.message.Message.{Message}
use Rattle.dia_grammar.specs.Grammar.{is_among, is_of}
use Rattle.cc_view.specs.Request.ServiceLimits.{name_of}
use Rattle.cc_view.specs.RequestView.Checking.{command_values, group_values, is_units}
use Rattle.cc_view.specs.RequestView.Content.{services_in}

-- the dictionary reads its value by its kind
abbrev pub IsTyped : RawAvp → Type 0
IsTyped avp = IsOk (reading_of avp)

-- each AVP of one of these codes is so
abbrev pub AreTyped : List ℕ → List RawAvp → Type 0
AreTyped codes avps = All (λ avp. is_among codes avp ≡ true → IsTyped avp) avps

-- the value of a group is a list of AVPs, which are so
abbrev pub SplitsInto : (List RawAvp → Type 0) → RawAvp → Type 0
SplitsInto P group = (members : List RawAvp) × (split_of group.value ≡ Ok members) × P members

abbrev pub HasTypedMembers : RawAvp → Type 0
HasTypedMembers group = SplitsInto (AreTyped group_values) group

-- each Requested-Service-Unit and Used-Service-Unit
abbrev pub HaveTypedUnits : List RawAvp → Type 0
HaveTypedUnits avps = All (λ avp. is_units avp ≡ true → HasTypedMembers avp) avps

-- a Multiple-Services-Credit-Control, with the groups of units in it
abbrev pub IsTypedService : RawAvp → Type 0
IsTypedService group = SplitsInto (λ members. AreTyped group_values members × HaveTypedUnits members) group

pub record IsReadable (message : Message) : Type 0 where
  pub avps : List RawAvp
  pub body : split_of message.body ≡ Ok avps
  pub values : AreTyped command_values avps
  pub subscriptions : All (λ avp. is_of subscription_id avp ≡ true → HasTypedMembers avp) avps
  pub units : HaveTypedUnits avps
  pub services : All (λ avp. is_of multiple_services avp ≡ true → IsTypedService avp) avps
  pub names : AllPairs (λ service other. name_of service ≢ name_of other) (services_in avps)
