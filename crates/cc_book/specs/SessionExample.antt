-- Worked examples: postings of sessions whose grants have a validity of 600 seconds. Moments are
-- milliseconds.
use Rattle.std.specs.Prelude.{ℕ, List, [], ◌∷◌, Bool, true, false, Option, Some, None, pos}
use Rattle.cc_view.specs.declared.code.ResultCode.{ResultCode}
use Rattle.cc_view.specs.declared.code.ResultCode.TheVariants.{Success, UnableToComply}
use Rattle.cc_view.specs.declared.request.RequestKind.{RequestKind}
use Rattle.cc_view.specs.declared.request.RequestKind.TheVariants.{Initial, Update, Termination, Event}
use Rattle.cc_view.specs.declared.request.Service.{Service}
use Rattle.cc_view.specs.declared.request.ServiceName.{ServiceName}
use Rattle.cc_book.specs.declared.session.Hold.{Hold}
use Rattle.cc_book.specs.declared.entry.Entry.TheVariants.{Take, Sweep}
use Rattle.cc_book.specs.declared.terms.Terms.{Terms}
use Rattle.cc_book.specs.AccountMachine.{code_alone}
use Rattle.cc_book.specs.Posting.{Posting}

-- the octets of a Session-Id, and of another one
abbrev pub session : List ℕ
session = 115 ∷ []

abbrev pub other_session : List ℕ
other_session = 116 ∷ []

-- the name of a service of a Rating-Group
abbrev pub service_name : ℕ → Option ℕ → ServiceName
service_name group ident = record { group = Some group; ident = ident }

-- a service that asks nothing and reports no used units
abbrev pub service : ℕ → Option ℕ → Service
service group ident = record { group = Some group; ident = ident; bare = false; asked = None; used = 0 ∷ 0 ∷ 0 ∷ [] }

abbrev pub hold : ServiceName → ℕ → Hold
hold service cost = record { service = service; cost = cost }

-- a request that charges account 0
abbrev pub posting : List ℕ → ℕ → ℕ → RequestKind → Bool → ResultCode → List Service → List Hold → Posting
posting session moment number kind settles code services grants = record {
  entry = Take (record { 0 = moment }) (record { session = session; number = number; kind = kind; action = None; subscriptions = []; services = services });
  account = Some 0;
  debit = pos 0;
  settles = settles;
  tariffs = [];
  grants = grants;
  reply = Some (code_alone code);
}

-- a request of the session that is settled and answered DIAMETER_SUCCESS
abbrev pub settled : ℕ → ℕ → RequestKind → List Service → List Hold → Posting
settled moment number kind services grants = posting session moment number kind true Success services grants

abbrev pub swept : ℕ → Posting
swept moment = record {
  entry = Sweep (record { 0 = moment });
  account = None;
  debit = pos 0;
  settles = false;
  tariffs = [];
  grants = [];
  reply = None;
}

-- ---- one session with one service

-- at 0 the session opens, and 25 are reserved for the service
abbrev pub opening : Posting
opening = settled 0 0 Initial (service 1 None ∷ []) (hold (service_name 1 None) 25 ∷ [])

-- after one second the service is settled again, and 10 are reserved for it
abbrev pub first_update : Posting
first_update = settled 1000 1 Update (service 1 None ∷ []) (hold (service_name 1 None) 10 ∷ [])

abbrev pub first_termination : Posting
first_termination = settled 2000 2 Termination [] []

-- then it opens anew, and asks for nothing
abbrev pub reopening : Posting
reopening = settled 3000 3 Initial [] []

-- ---- two sessions, and two services

-- after one second the session opens, with 25 for one service and 10 for another
abbrev pub wide_opening : Posting
wide_opening = settled 1000 0 Initial (service 1 None ∷ service 2 None ∷ []) (hold (service_name 1 None) 25 ∷ hold (service_name 2 None) 10 ∷ [])

-- it settles the second service alone, and 7 are reserved for it
abbrev pub narrow_update : Posting
narrow_update = settled 2000 1 Update (service 2 None ∷ []) (hold (service_name 2 None) 7 ∷ [])

-- an INITIAL of the open session is refused, and yet prolongs it
abbrev pub second_opening : Posting
second_opening = posting session 500000 5 Initial false UnableToComply (service 1 None ∷ []) []

-- an EVENT under the Session-Id touches nothing of the session
abbrev pub unrelated_event : Posting
unrelated_event = posting session 900000 7 Event false Success (service 1 None ∷ []) []

-- an UPDATE whose moment lies before that of the opening
abbrev pub early_update : Posting
early_update = settled 500 8 Update [] []

abbrev pub other_opening : Posting
other_opening = posting other_session 1500 0 Initial true Success (service 1 None ∷ []) (hold (service_name 1 None) 3 ∷ [])

abbrev pub other_termination : Posting
other_termination = posting other_session 1600 1 Termination true Success (service 1 None ∷ []) []

-- two services of one Rating-Group, apart by their Service-Identifier
abbrev pub group_opening : Posting
group_opening = settled 0 0 Initial (service 1 None ∷ service 1 (Some 1) ∷ []) (hold (service_name 1 None) 25 ∷ hold (service_name 1 (Some 1)) 10 ∷ [])

-- an INITIAL that is settled, but not answered DIAMETER_SUCCESS, opens nothing
abbrev pub failed_opening : Posting
failed_opening = posting session 0 0 Initial true UnableToComply (service 1 None ∷ []) []

-- an UPDATE that names another account than the opening
abbrev pub strange_update : Posting
strange_update = record (settled 2000 1 Update [] []) { account = Some 1 }

-- one account with 100, and no tariff
abbrev pub small_terms : Terms
small_terms = record {
  accounts = record { id_kind = 0; id = []; opening = pos 100 } ∷ [];
  closed = [];
  tariffs = [];
  validity = 600;
  money = record { currency = 978; exponent = pos 0 };
}
