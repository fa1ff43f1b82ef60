-- Worked examples: five accounts, and one tariff of 5 for each block of 1000 octets. What is granted stays valid for
-- 600 seconds. Amounts are cents of currency 978.
use Rattle.std.specs.Prelude.{ℕ, List, [], ◌∷◌, ◌++◌, Bool, false, true, codes, Option, Some, None, pos, negsuc}
use Rattle.cc_rating.specs.declared.tariff.Tariff.{Tariff}
use Rattle.cc_rating.specs.declared.tariff.UnitKind.{UnitKind}
use Rattle.cc_rating.specs.declared.tariff.UnitKind.TheVariants.{Octets}
use Rattle.cc_view.specs.declared.code.ResultCode.{ResultCode}
use Rattle.cc_view.specs.declared.code.ResultCode.TheVariants.{Success, RatingFailed}
use Rattle.cc_view.specs.declared.reply.CcReply.{CcReply}
use Rattle.cc_view.specs.declared.reply.ServiceReply.{ServiceReply}
use Rattle.cc_view.specs.declared.request.CcRequest.{CcRequest}
use Rattle.cc_view.specs.declared.request.RequestKind.{RequestKind}
use Rattle.cc_view.specs.declared.request.RequestKind.TheVariants.{Initial, Update, Termination, Event}
use Rattle.cc_view.specs.declared.request.RequestedAction.{RequestedAction}
use Rattle.cc_view.specs.declared.request.Service.{Service}
use Rattle.cc_view.specs.declared.request.Subscription.{Subscription}
use Rattle.cc_book.specs.declared.account.Account.{Account}
use Rattle.cc_book.specs.declared.entry.Entry.{Entry}
use Rattle.cc_book.specs.declared.entry.Entry.TheVariants.{Take}
use Rattle.cc_book.specs.declared.terms.Terms.{Terms}
use Rattle.cc_book.specs.Taking.{Ledger}

-- ---- the site

abbrev pub row_tariff : Tariff
row_tariff = record {
  group = Some 10;
  ident = None;
  kind = Octets;
  block = 1000;
  price = 5;
  quantum = 5000;
  greatest = 10000;
}

abbrev pub row_account : List ℕ → ℕ → Account
row_account number opening = record { id_kind = 0; id = number; opening = pos opening }

abbrev pub row_terms : Terms
row_terms = record {
  accounts =
      row_account (codes "491700000001") 1000 ∷ row_account (codes "491700000002") 12 ∷ row_account (codes "491700000003") 4
      ∷ row_account (codes "491700000004") 27 ∷ row_account (codes "491700000005") 25 ∷ [];
  closed = [];
  tariffs = row_tariff ∷ [];
  validity = 600;
  money = record { currency = 978; exponent = negsuc 1 };
}

-- ---- requests

-- a service of Rating-Group 10, or with a Service-Identifier beside it
abbrev pub row_service : Option ℕ → Option (List (Option ℕ)) → ℕ → Service
row_service ident asked octets = record { group = Some 10; ident = ident; bare = false; asked = asked; used = 0 ∷ octets ∷ 0 ∷ [] }

-- a Requested-Service-Unit without a count, and one of octets
abbrev pub any_units : Option (List (Option ℕ))
any_units = Some (None ∷ None ∷ None ∷ [])

abbrev pub octets : ℕ → Option (List (Option ℕ))
octets n = Some (None ∷ Some n ∷ None ∷ [])

abbrev pub request_of : ℕ → RequestKind → Option RequestedAction → List ℕ → List Service → CcRequest
request_of number kind action subscriber services = record {
  session = codes "c1;1;1";
  number = number;
  kind = kind;
  action = action;
  subscriptions = record { kind = 0; text = subscriber } ∷ [];
  services = services;
}

-- an INITIAL that asks for units of Rating-Group 10
abbrev pub initial : List ℕ → Option (List (Option ℕ)) → CcRequest
initial subscriber asked = request_of 0 Initial None subscriber (row_service None asked 0 ∷ [])

-- an UPDATE that reports used octets and asks for more
abbrev pub update : List ℕ → ℕ → CcRequest
update subscriber used = request_of 1 Update None subscriber (row_service None any_units used ∷ [])

abbrev pub termination : List ℕ → ℕ → CcRequest
termination subscriber used = request_of 2 Termination None subscriber (row_service None None used ∷ [])

-- an EVENT on 3200 octets
abbrev pub event_on : List ℕ → RequestedAction → CcRequest
event_on subscriber action = request_of 0 Event (Some action) subscriber (row_service None (octets 3200) 0 ∷ [])

abbrev pub taken : ℕ → CcRequest → Entry
taken moment request = Take (record { 0 = moment }) request

-- ---- replies

-- a service's reply: 421 is CC-Total-Octets
abbrev pub row_reply : Option ℕ → ResultCode → Option ℕ → Option ℕ → Bool → ServiceReply
row_reply ident code granted validity last = record {
  name = record { group = Some 10; ident = ident };
  bare = false;
  code = code;
  kind = Some (record { 0 = 421 });
  granted = granted;
  validity = validity;
  last = last;
}

abbrev pub granted_units : Option ℕ → ℕ → Bool → ServiceReply
granted_units ident units last = row_reply ident Success (Some units) (Some 600) last

abbrev pub no_units : Option ℕ → ResultCode → ServiceReply
no_units ident code = row_reply ident code None None false

abbrev pub success : List ServiceReply → CcReply
success services = record { code = Success; services = services; cost = None; check = None }

-- ---- two services of one account

abbrev pub two_services_initial : CcRequest
two_services_initial = request_of 0 Initial None (codes "491700000004") (row_service None any_units 0 ∷ row_service (Some 1) any_units 0 ∷ [])

abbrev pub two_services_update : CcRequest
two_services_update = request_of 1 Update None (codes "491700000004") (row_service None any_units 0 ∷ row_service (Some 1) None 1000 ∷ [])

-- ---- sessions of one service

-- a session that an INITIAL without counts opened
abbrev pub opened_by : List ℕ → List Entry
opened_by subscriber = taken 1000 (initial subscriber any_units) ∷ []

-- that session after an UPDATE, and after a TERMINATION
abbrev pub updated_by : List ℕ → ℕ → List Entry
updated_by subscriber used = opened_by subscriber ++ taken 2000 (update subscriber used) ∷ []

abbrev pub ended_by : List ℕ → ℕ → List Entry
ended_by subscriber used = opened_by subscriber ++ taken 2000 (termination subscriber used) ∷ []

-- a book of a limit, with these entries
abbrev pub row_book : ℕ → List Entry → Ledger
row_book limit history = record { terms = row_terms; limit = limit; history = history }

-- that session after one more request at a moment
abbrev pub opened_then : ℕ → CcRequest → List Entry
opened_then moment request = opened_by (codes "491700000001") ++ taken moment request ∷ []

-- another INITIAL under the same Session-Id
abbrev pub initial_again : List ℕ → CcRequest
initial_again subscriber = record (initial subscriber any_units) { number = 3 }

-- an EVENT under the Session-Id of that session
abbrev pub event_between : List ℕ → RequestedAction → CcRequest
event_between subscriber action = record (event_on subscriber action) { number = 1 }

-- ---- a service without a tariff

abbrev pub unrated_initial : CcRequest
unrated_initial = request_of 0 Initial None (codes "491700000001")
    (record (row_service None any_units 7000) { group = Some 11 } ∷ row_service None any_units 0 ∷ [])

abbrev pub unrated_reply : ServiceReply
unrated_reply = record {
  name = record { group = Some 11; ident = None };
  bare = false;
  code = RatingFailed;
  kind = None;
  granted = None;
  validity = None;
  last = false;
}

-- ---- a service of the command itself, which has no Rating-Group

abbrev pub bare_terms : Terms
bare_terms = record row_terms { tariffs = row_tariff ∷ record row_tariff { group = None; ident = Some 7 } ∷ [] }

abbrev pub bare_service : Service
bare_service = record { group = None; ident = Some 7; bare = true; asked = any_units; used = 0 ∷ 0 ∷ 0 ∷ [] }

abbrev pub bare_initial : List ℕ → CcRequest
bare_initial subscriber = request_of 0 Initial None subscriber (bare_service ∷ [])

-- with a service of Rating-Group 10 before it
abbrev pub half_bare_initial : CcRequest
half_bare_initial = request_of 0 Initial None (codes "491700000004") (row_service None any_units 0 ∷ bare_service ∷ [])

abbrev pub bare_reply : ResultCode → Option ℕ → Option ℕ → CcReply
bare_reply code granted validity = record {
  code = code;
  services = record {
    name = record { group = None; ident = Some 7 };
    bare = true;
    code = code;
    kind = Some (record { 0 = 421 });
    granted = granted;
    validity = validity;
    last = false;
  } ∷ [];
  cost = None;
  check = None;
}

-- ---- a site whose tariff costs nothing, and whose account is 10 in debt

abbrev pub gratis_terms : Terms
gratis_terms = record row_terms {
  accounts = record { id_kind = 0; id = codes "491700000001"; opening = negsuc 9 } ∷ [];
  tariffs = record row_tariff { price = 0 } ∷ [];
}

-- ---- Subscription-Ids, and the units of services

abbrev pub subscription : ℕ → List ℕ → Subscription
subscription kind text = record { kind = kind; text = text }

-- the tariff in units of a kind
abbrev pub tariff_in : UnitKind → Tariff
tariff_in kind = record row_tariff { kind = kind }

-- a service that asks for one second, two octets or three pieces, and reports four, five and six
abbrev pub counted_service : Service
counted_service = record (row_service None (Some (Some 1 ∷ Some 2 ∷ Some 3 ∷ [])) 0) { used = 4 ∷ 5 ∷ 6 ∷ [] }
