-- Messages that are written, and read again.
use Rattle.std.proofs.Common.{◌≡◌, ℕ, zero, suc, ◌+◌, ◌<◌, ◌≤◌, Bool, true, false, List, [], ◌∷◌, ◌++◌, length, Ok, refl, arith}
use Rattle.std.specs.Int.{byte_at}
use Rattle.std.specs.List.{list_all}
use Rattle.std.specs.Str.{bytes_eq}
use Rattle.std.proofs.lemmas.List.Elements.{All-nil, All-cons, All-append}
use Rattle.byteorder.specs.Endian.{big_bytes}
use Rattle.hex.specs.Hex.{encode_lower}
use Rattle.dia_avp.specs.AvpList.{AreOctets}
use Rattle.dia_message.specs.declared.message.Message.{Message}
use Rattle.dia_message.specs.declared.header.Header.{Header}
use Rattle.dia_message.specs.Header.{flag_of, flags_of, header_octets}
use Rattle.dia_message.specs.Spelling.{octets_of}
use Rattle.dia_message.proofs.Spelled.{Spells-written, only_message-spelled, length-octets_of}
use Rattle.farm_script.specs.Words.{message_of}
use Rattle.record_reader.specs.Telling.{IsSound}
use Rattle.record_reader.proofs.SpacedWords.{IsWord, is_below_tilde}
use Rattle.record_reader.proofs.HexBack.{decode_of-encoded, encoded_below_tilde, encoded_is_no_dash, IsWord-encoded}

byte_at-lt : (k x : ℕ) → byte_at k x < 256
byte_at-lt zero x = omega arith
byte_at-lt (suc k) x = omega arith

AreOctets-big_bytes : (n x : ℕ) → AreOctets (big_bytes n x)
AreOctets-big_bytes zero x = All-nil (λ octet. octet < 256)
AreOctets-big_bytes (suc n) x = All-cons (λ octet. octet < 256) (byte_at n x) (big_bytes n x) (byte_at-lt n x) (AreOctets-big_bytes n x)

flag-le : (value : ℕ) (set : Bool) → flag_of value set ≤ value
flag-le value true = omega arith
flag-le value false = omega arith

flags-lt : (header : Header) → flags_of header < 256
flags-lt header =
    omega (arith, flag-le 128 header.request, flag-le 64 header.proxiable, flag-le 32 header.error, flag-le 16 header.resent)

both : (xs ys : List ℕ) → AreOctets xs → AreOctets ys → AreOctets (xs ++ ys)
both xs ys = All-append (λ octet. octet < 256) xs ys

AreOctets-header : (header : Header) (size : ℕ) → AreOctets (header_octets header size)
AreOctets-header header size =
    let version : AreOctets (1 ∷ big_bytes 3 size) = All-cons (λ octet. octet < 256) 1 (big_bytes 3 size) (omega arith) (AreOctets-big_bytes 3 size) in
    let flags : AreOctets (flags_of header ∷ big_bytes 3 header.command) = All-cons (λ octet. octet < 256) (flags_of header) (big_bytes 3 header.command) (flags-lt header) (AreOctets-big_bytes 3 header.command) in
    both (((1 ∷ big_bytes 3 size) ++ (flags_of header ∷ big_bytes 3 header.command)) ++ big_bytes 4 header.application ++ big_bytes 4 header.hop) (big_bytes 4 header.«end»)
    (both (((1 ∷ big_bytes 3 size) ++ (flags_of header ∷ big_bytes 3 header.command)) ++ big_bytes 4 header.application) (big_bytes 4 header.hop)
    (both ((1 ∷ big_bytes 3 size) ++ (flags_of header ∷ big_bytes 3 header.command)) (big_bytes 4 header.application)
    (both (1 ∷ big_bytes 3 size) (flags_of header ∷ big_bytes 3 header.command) version flags)
    (AreOctets-big_bytes 4 header.application))
    (AreOctets-big_bytes 4 header.hop))
    (AreOctets-big_bytes 4 header.«end»)

AreOctets-octets_of : (message : Message) → AreOctets message.body → AreOctets (octets_of message)
unfolding octets_of
AreOctets-octets_of message all = both (header_octets message.header (20 + length message.body)) message.body (AreOctets-header message.header (20 + length message.body)) all

some : (message : Message) → 0 < length (octets_of message)
some message = omega (arith, length-octets_of message)

pub message_of-written : (message : Message) → IsSound message → message_of (encode_lower (octets_of message)) ≡ Ok message
message_of-written message is =
    let back = decode_of-encoded (octets_of message) (AreOctets-octets_of message is.octets) in
    let whole = only_message-spelled (octets_of message) message (Spells-written message is.spelling) in
    rw (back, whole) refl

pub IsWord-message : (message : Message) → IsSound message → IsWord (encode_lower (octets_of message))
IsWord-message message is = IsWord-encoded (octets_of message) (some message) (AreOctets-octets_of message is.octets)

pub message_below_tilde : (message : Message) → IsSound message → list_all is_below_tilde (encode_lower (octets_of message)) ≡ true
message_below_tilde message is = encoded_below_tilde (octets_of message) (AreOctets-octets_of message is.octets)

pub message_is_no_dash : (message : Message) → bytes_eq (encode_lower (octets_of message)) (45 ∷ []) ≡ false
message_is_no_dash message = encoded_is_no_dash (octets_of message) (some message)
