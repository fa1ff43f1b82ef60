-- A worked example: the direct debit of 3200 octets for Rating-Group 10, and its answer. Numbers are
-- octets, an AVP a line.
use Rattle.std.specs.Prelude.{ℕ, List, [], ◌∷◌, true, false, Some, None}
use Rattle.dia_message.specs.declared.header.Header.{Header}
use Rattle.dia_message.specs.declared.message.Message.{Message}
use Rattle.cc_view.specs.declared.code.ResultCode.TheVariants.{Success}
use Rattle.cc_view.specs.declared.reply.CcReply.{CcReply}
use Rattle.cc_view.specs.declared.request.CcRequest.{CcRequest}
use Rattle.cc_view.specs.declared.request.RequestKind.TheVariants.{Event}
use Rattle.cc_view.specs.declared.request.RequestedAction.TheVariants.{DirectDebiting}

abbrev pub debit_header : Header
debit_header = record { request = true; proxiable = true; error = false; resent = false; command = 272; application = 4; hop = 7; end = 100 }

abbrev pub answer_header : Header
answer_header = record { request = false; proxiable = true; error = false; resent = false; command = 272; application = 4; hop = 7; end = 100 }

-- the AVPs of the request
abbrev pub debit_body : List ℕ
debit_body =
    0 ∷ 0 ∷ 1 ∷ 7 ∷ 64 ∷ 0 ∷ 0 ∷ 14 ∷ 99 ∷ 49 ∷ 59 ∷ 49 ∷ 59 ∷ 49 ∷ 0 ∷ 0 ∷
    0 ∷ 0 ∷ 1 ∷ 8 ∷ 64 ∷ 0 ∷ 0 ∷ 18 ∷ 99 ∷ 49 ∷ 46 ∷ 101 ∷ 120 ∷ 97 ∷ 109 ∷ 112 ∷ 108 ∷ 101 ∷ 0 ∷ 0 ∷
    0 ∷ 0 ∷ 1 ∷ 40 ∷ 64 ∷ 0 ∷ 0 ∷ 15 ∷ 101 ∷ 120 ∷ 97 ∷ 109 ∷ 112 ∷ 108 ∷ 101 ∷ 0 ∷
    0 ∷ 0 ∷ 1 ∷ 27 ∷ 64 ∷ 0 ∷ 0 ∷ 19 ∷ 111 ∷ 99 ∷ 115 ∷ 46 ∷ 101 ∷ 120 ∷ 97 ∷ 109 ∷ 112 ∷ 108 ∷ 101 ∷ 0 ∷
    0 ∷ 0 ∷ 1 ∷ 2 ∷ 64 ∷ 0 ∷ 0 ∷ 12 ∷ 0 ∷ 0 ∷ 0 ∷ 4 ∷
    0 ∷ 0 ∷ 1 ∷ 205 ∷ 64 ∷ 0 ∷ 0 ∷ 22 ∷ 51 ∷ 50 ∷ 50 ∷ 53 ∷ 49 ∷ 64 ∷ 51 ∷ 103 ∷ 112 ∷ 112 ∷
    46 ∷ 111 ∷ 114 ∷ 103 ∷ 0 ∷ 0 ∷
    0 ∷ 0 ∷ 1 ∷ 160 ∷ 64 ∷ 0 ∷ 0 ∷ 12 ∷ 0 ∷ 0 ∷ 0 ∷ 4 ∷
    0 ∷ 0 ∷ 1 ∷ 159 ∷ 64 ∷ 0 ∷ 0 ∷ 12 ∷ 0 ∷ 0 ∷ 0 ∷ 0 ∷
    0 ∷ 0 ∷ 1 ∷ 180 ∷ 64 ∷ 0 ∷ 0 ∷ 12 ∷ 0 ∷ 0 ∷ 0 ∷ 0 ∷
    0 ∷ 0 ∷ 1 ∷ 187 ∷ 64 ∷ 0 ∷ 0 ∷ 40 ∷ 0 ∷ 0 ∷ 1 ∷ 194 ∷ 64 ∷ 0 ∷ 0 ∷ 12 ∷ 0 ∷ 0 ∷ 0 ∷ 0 ∷
    0 ∷ 0 ∷ 1 ∷ 188 ∷ 64 ∷ 0 ∷ 0 ∷ 20 ∷ 52 ∷ 57 ∷ 49 ∷ 55 ∷ 48 ∷ 48 ∷ 48 ∷ 48 ∷ 48 ∷ 48 ∷ 48 ∷ 49 ∷
    0 ∷ 0 ∷ 1 ∷ 200 ∷ 64 ∷ 0 ∷ 0 ∷ 44 ∷ 0 ∷ 0 ∷ 1 ∷ 181 ∷ 64 ∷ 0 ∷ 0 ∷ 24 ∷
    0 ∷ 0 ∷ 1 ∷ 165 ∷ 64 ∷ 0 ∷ 0 ∷ 16 ∷ 0 ∷ 0 ∷ 0 ∷ 0 ∷ 0 ∷ 0 ∷ 12 ∷ 128 ∷
    0 ∷ 0 ∷ 1 ∷ 176 ∷ 64 ∷ 0 ∷ 0 ∷ 12 ∷ 0 ∷ 0 ∷ 0 ∷ 10 ∷ []

-- the AVPs of the answer of f1.example in the realm ocs.example
abbrev pub answer_body : List ℕ
answer_body =
    0 ∷ 0 ∷ 1 ∷ 7 ∷ 64 ∷ 0 ∷ 0 ∷ 14 ∷ 99 ∷ 49 ∷ 59 ∷ 49 ∷ 59 ∷ 49 ∷ 0 ∷ 0 ∷
    0 ∷ 0 ∷ 1 ∷ 12 ∷ 64 ∷ 0 ∷ 0 ∷ 12 ∷ 0 ∷ 0 ∷ 7 ∷ 209 ∷
    0 ∷ 0 ∷ 1 ∷ 8 ∷ 64 ∷ 0 ∷ 0 ∷ 18 ∷ 102 ∷ 49 ∷ 46 ∷ 101 ∷ 120 ∷ 97 ∷ 109 ∷ 112 ∷ 108 ∷ 101 ∷ 0 ∷ 0 ∷
    0 ∷ 0 ∷ 1 ∷ 40 ∷ 64 ∷ 0 ∷ 0 ∷ 19 ∷ 111 ∷ 99 ∷ 115 ∷ 46 ∷ 101 ∷ 120 ∷ 97 ∷ 109 ∷ 112 ∷ 108 ∷ 101 ∷ 0 ∷
    0 ∷ 0 ∷ 1 ∷ 2 ∷ 64 ∷ 0 ∷ 0 ∷ 12 ∷ 0 ∷ 0 ∷ 0 ∷ 4 ∷
    0 ∷ 0 ∷ 1 ∷ 160 ∷ 64 ∷ 0 ∷ 0 ∷ 12 ∷ 0 ∷ 0 ∷ 0 ∷ 4 ∷
    0 ∷ 0 ∷ 1 ∷ 159 ∷ 64 ∷ 0 ∷ 0 ∷ 12 ∷ 0 ∷ 0 ∷ 0 ∷ 0 ∷
    0 ∷ 0 ∷ 1 ∷ 200 ∷ 64 ∷ 0 ∷ 0 ∷ 56 ∷ 0 ∷ 0 ∷ 1 ∷ 175 ∷ 64 ∷ 0 ∷ 0 ∷ 24 ∷
    0 ∷ 0 ∷ 1 ∷ 165 ∷ 64 ∷ 0 ∷ 0 ∷ 16 ∷ 0 ∷ 0 ∷ 0 ∷ 0 ∷ 0 ∷ 0 ∷ 12 ∷ 128 ∷
    0 ∷ 0 ∷ 1 ∷ 176 ∷ 64 ∷ 0 ∷ 0 ∷ 12 ∷ 0 ∷ 0 ∷ 0 ∷ 10 ∷
    0 ∷ 0 ∷ 1 ∷ 12 ∷ 64 ∷ 0 ∷ 0 ∷ 12 ∷ 0 ∷ 0 ∷ 7 ∷ 209 ∷ []

-- what the request asks
abbrev pub debit_request : CcRequest
debit_request = record {
  session = 99 ∷ 49 ∷ 59 ∷ 49 ∷ 59 ∷ 49 ∷ [];
  number = 0;
  kind = Event;
  action = Some DirectDebiting;
  subscriptions = record { kind = 0; text = 52 ∷ 57 ∷ 49 ∷ 55 ∷ 48 ∷ 48 ∷ 48 ∷ 48 ∷ 48 ∷ 48 ∷ 48 ∷ 49 ∷ [] } ∷ [];
  services = record { group = Some 10; ident = None; bare = false; asked = Some (None ∷ Some 3200 ∷ None ∷ []); used = 0 ∷ 0 ∷ 0 ∷ [] } ∷ [];
}

-- the reply that grants all that is asked
abbrev pub debit_reply : CcReply
debit_reply = record {
  code = Success;
  services = record { name = record { group = Some 10; ident = None }; bare = false; code = Success; kind = Some (record { 0 = 421 }); granted = Some 3200; validity = None; last = false } ∷ [];
  cost = None;
  check = None;
}

abbrev pub front_name : List ℕ
front_name = 102 ∷ 49 ∷ 46 ∷ 101 ∷ 120 ∷ 97 ∷ 109 ∷ 112 ∷ 108 ∷ 101 ∷ []

abbrev pub realm_name : List ℕ
realm_name = 111 ∷ 99 ∷ 115 ∷ 46 ∷ 101 ∷ 120 ∷ 97 ∷ 109 ∷ 112 ∷ 108 ∷ 101 ∷ []

abbrev pub debit_message : Message
debit_message = record { header = debit_header; body = debit_body }

abbrev pub answer_message : Message
answer_message = record { header = answer_header; body = answer_body }
