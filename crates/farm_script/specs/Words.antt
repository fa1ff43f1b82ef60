-- The words of a schedule's line, and what each stands for.
use Rattle.std.specs.Prelude.{◌≡◌, ℕ, ◌+◌, ◌-◌, ◌*◌, ◌^◌, List, [], ◌∷◌, length, filter, position, Bool, not, ◌&&◌, ◌==◌, true, nat_lt, nat_le, if◌then◌else◌, Option, Some, None, Result, Ok, Err}
use Rattle.std.specs.List.{slice_split, list_all}
use Rattle.std.specs.Option.{ok_or}
use Rattle.dia_base.specs.Folding.{same_folded}
use Rattle.dia_base.specs.declared.number.NodeNo.{NodeNo}
use Rattle.dia_message.specs.Feeding.{only_message}
use Rattle.dia_message.specs.declared.message.Message.{Message}
use Rattle.hex.specs.Hex.{decode_of}
use Rattle.hex.specs.declared.error.FromHexError.{FromHexError}
use Rattle.farm_script.specs.declared.fault.LineFault.{LineFault}
use Rattle.farm_script.specs.declared.fault.LineFault.TheVariants.{UnknownName, BadNumber, BadHex, BadMessage, OutOfMemory}
use Rattle.farm_base.specs.declared.site.Node.{Node}
use Rattle.farm_base.specs.declared.site.Site.{Site}

-- the first fault, or what follows
infixl 10 ◌>>=◌
abbrev pub ◌>>=◌ : {A B : Type 0} → Result A LineFault → (A → Result B LineFault) → Result B LineFault
Ok x >>= f = f x
Err fault >>= f = Err fault

-- the words: the longest runs of octets that are no spaces
abbrev pub words_of : List ℕ → List (List ℕ)
words_of line = filter (λ word. not (length word == 0)) (slice_split (λ octet. octet == 32) line)

-- an empty line, or one that begins with `#`
abbrev pub says_nothing : List ℕ → Bool
says_nothing [] = true
says_nothing (octet ∷ octets) = octet == 35

-- ---- what a word stands for

-- a node of any kind has its whole name, without ASCII case
abbrev pub is_named : List ℕ → Node → Bool
is_named name node = same_folded node.name name

-- a node's number is its place in the site, and has 32 bits
abbrev pub number_at : Option ℕ → Result NodeNo LineFault
number_at None = Err UnknownName
number_at (Some place) = if nat_lt place (2 ^ 32) then Ok (record { 0 = place }) else Err UnknownName

abbrev pub node_of : Site → List ℕ → Result NodeNo LineFault
node_of site name = number_at (position (is_named name) site.nodes)

abbrev pub is_digit : ℕ → Bool
is_digit octet = nat_le 48 octet && nat_le octet 57

-- what decimal digits are worth, each by the digits behind it
abbrev pub worth_of : List ℕ → ℕ
worth_of [] = 0
worth_of (digit ∷ digits) = (digit - 48) * 10 ^ length digits + worth_of digits

-- the number of decimal digits, below 2 ^ 64
abbrev pub value_of : List ℕ → Option ℕ
value_of word = if list_all is_digit word && nat_lt (worth_of word) (2 ^ 64) then Some (worth_of word) else None

abbrev pub number_of : List ℕ → Result ℕ LineFault
number_of word = ok_or (value_of word) BadNumber

-- the message of octets that are one whole message
abbrev pub message_in : Result (List ℕ) FromHexError → Result Message LineFault
message_in (Ok octets) = ok_or (only_message octets) BadMessage
message_in (Err fault) = Err BadHex

-- the message that hexadecimal digits write
abbrev pub message_of : List ℕ → Result Message LineFault
message_of word = message_in (decode_of word)

-- ---- what is answered

-- a call answered with this reading, unless memory ran out
abbrev pub Answers : {A : Type 0} → Result A LineFault → Result A LineFault → Type 0
Answers reading (Ok answer) = reading ≡ Ok answer
Answers reading (Err OutOfMemory) = Unit {0}
Answers reading (Err fault) = reading ≡ Err fault
