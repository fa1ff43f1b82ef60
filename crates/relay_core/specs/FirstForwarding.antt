-- A worked example: the first debit, as a relay forwards it that has it from c1.example. Numbers are octets.
use Rattle.std.specs.Prelude.{ℕ, List, [], ◌∷◌, ◌++◌}
use Rattle.dia_message.specs.declared.message.Message.{Message}
use Rattle.cc_view.specs.FirstDebit.{debit_header, debit_body}

-- c1.example
abbrev pub client_name : List ℕ
client_name = 99 ∷ 49 ∷ 46 ∷ 101 ∷ 120 ∷ 97 ∷ 109 ∷ 112 ∷ 108 ∷ 101 ∷ []

-- its Route-Record
abbrev pub client_record : List ℕ
client_record = 0 ∷ 0 ∷ 1 ∷ 26 ∷ 64 ∷ 0 ∷ 0 ∷ 18 ∷ 99 ∷ 49 ∷ 46 ∷ 101 ∷ 120 ∷ 97 ∷ 109 ∷ 112 ∷ 108 ∷ 101 ∷ 0 ∷ 0 ∷ []

abbrev pub forwarded_debit : Message
forwarded_debit = record { header = debit_header; body = debit_body ++ client_record }
