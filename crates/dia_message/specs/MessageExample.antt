-- Worked examples: a direct debit of 3200 octets as a message, its answer, and a stream of both.
use Rattle.std.specs.Prelude.{ℕ, List, [], ◌∷◌, ◌++◌, true, false, codes}
use Rattle.dia_avp.specs.AvpExample.{answer, answer_text, from_hex, request, request_text}
use Rattle.dia_avp.specs.AvpList.{written_list}
use Rattle.dia_message.specs.declared.header.Header.{Header}
use Rattle.dia_message.specs.declared.message.Message.{Message}

abbrev pub request_header : Header
request_header = record { request = true; proxiable = true; error = false; resent = false; command = 272; application = 4; hop = 7; «end» = 100 }

abbrev pub answer_header : Header
answer_header = record request_header { request = false }

abbrev pub request_message : Message
request_message = record { header = request_header; body = written_list request }

abbrev pub answer_message : Message
answer_message = record { header = answer_header; body = written_list answer }

-- an answer with any body
abbrev pub answer_with : List ℕ → Message
answer_with body = record { header = answer_header; body = body }

-- ---- their octets

abbrev pub request_header_octets : List ℕ
request_header_octets = from_hex (codes "010000f8c0000110000000040000000700000064")

abbrev pub request_octets : List ℕ
request_octets = request_header_octets ++ from_hex request_text

abbrev pub answer_octets : List ℕ
answer_octets = from_hex (codes "010000b440000110000000040000000700000064") ++ from_hex answer_text

-- the beginning of a message with a length of 22
abbrev pub odd_beginning : List ℕ
odd_beginning = 1 ∷ 0 ∷ 0 ∷ 22 ∷ []

abbrev pub both : List ℕ
both = request_octets ++ answer_octets ++ odd_beginning
