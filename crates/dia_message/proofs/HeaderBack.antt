-- Headers that are written and read, and read and written.
use Rattle.std.proofs.Common.{◌≡◌, ℕ, zero, suc, ◌+◌, ◌^◌, ◌<◌, ◌≤◌, Bool, true, false, ◌&&◌, eqb, List, [], ◌∷◌, ◌++◌, length, drop, get_or, refl, sym, ap, ◌∙◌, arith}
use Rattle.std.specs.Prelude.{All, bit_and}
use Rattle.std.proofs.lemmas.List.Elements.{All-get_or}
use Rattle.std.proofs.lemmas.Bool.Decides.{Decides-below_and, Decides-eqb}
use Rattle.byteorder.specs.Endian.{big_bytes, big_number}
use Rattle.byteorder.specs.Numbers.{big_number-reads_back}
use Rattle.dia_message.specs.declared.header.Header.{Header}
use Rattle.dia_message.specs.declared.header.ReadHeader.{ReadHeader}
use Rattle.dia_message.specs.Header.{version_in, length_in, command_in, application_in, hop_in, end_in, has_flag, header_in, read_in, flag_of, header_octets, HasOctets, without_reserved}

-- ---- written and read

flags_read : (a b c d : Bool) → let flags = flag_of 128 a + flag_of 64 b + flag_of 32 c + flag_of 16 d in
    (has_flag 128 flags ≡ a) × (has_flag 64 flags ≡ b) × (has_flag 32 flags ≡ c) × (has_flag 16 flags ≡ d)
flags_read true true true true = (refl, refl, refl, refl)
flags_read true true true false = (refl, refl, refl, refl)
flags_read true true false true = (refl, refl, refl, refl)
flags_read true true false false = (refl, refl, refl, refl)
flags_read true false true true = (refl, refl, refl, refl)
flags_read true false true false = (refl, refl, refl, refl)
flags_read true false false true = (refl, refl, refl, refl)
flags_read true false false false = (refl, refl, refl, refl)
flags_read false true true true = (refl, refl, refl, refl)
flags_read false true true false = (refl, refl, refl, refl)
flags_read false true false true = (refl, refl, refl, refl)
flags_read false true false false = (refl, refl, refl, refl)
flags_read false false true true = (refl, refl, refl, refl)
flags_read false false true false = (refl, refl, refl, refl)
flags_read false false false true = (refl, refl, refl, refl)
flags_read false false false false = (refl, refl, refl, refl)

abbrev made : Bool → Bool → Bool → Bool → ℕ → ℕ → ℕ → ℕ → Header
made a b c d e f g h = record { request = a; proxiable = b; error = c; resent = d; command = e; application = f; hop = g; «end» = h }

same_header : (x y : Header) → x.request ≡ y.request → x.proxiable ≡ y.proxiable → x.error ≡ y.error → x.resent ≡ y.resent
    → x.command ≡ y.command → x.application ≡ y.application → x.hop ≡ y.hop → x.«end» ≡ y.«end» → x ≡ y
same_header x y a b c d e f g h =
    ap (λ (v : Bool). made v x.proxiable x.error x.resent x.command x.application x.hop x.«end») a
    ∙ ap (λ (v : Bool). made y.request v x.error x.resent x.command x.application x.hop x.«end») b
    ∙ ap (λ (v : Bool). made y.request y.proxiable v x.resent x.command x.application x.hop x.«end») c
    ∙ ap (λ (v : Bool). made y.request y.proxiable y.error v x.command x.application x.hop x.«end») d
    ∙ ap (λ (v : ℕ). made y.request y.proxiable y.error y.resent v x.application x.hop x.«end») e
    ∙ ap (λ (v : ℕ). made y.request y.proxiable y.error y.resent y.command v x.hop x.«end») f
    ∙ ap (λ (v : ℕ). made y.request y.proxiable y.error y.resent y.command y.application v x.«end») g
    ∙ ap (λ (v : ℕ). made y.request y.proxiable y.error y.resent y.command y.application y.hop v) h

pub header_in-written : (header : Header) (size : ℕ) (behind : List ℕ) → HasOctets header → header_in (header_octets header size ++ behind) ≡ header
header_in-written header size behind h =
    let flags = flags_read header.request header.proxiable header.error header.resent in
    let last : List ℕ = big_bytes 4 header.«end» ++ behind in
    same_header (header_in (header_octets header size ++ behind)) header flags.0 flags.1 flags.2 flags.3
    (big_number-reads_back 3 header.command (big_bytes 4 header.application ++ (big_bytes 4 header.hop ++ last)) h.command)
    (big_number-reads_back 4 header.application (big_bytes 4 header.hop ++ last) h.application)
    (big_number-reads_back 4 header.hop last h.hop)
    (big_number-reads_back 4 header.«end» behind h.«end»)

pub length_in-written : (header : Header) (size : ℕ) (behind : List ℕ) → size < 2 ^ 24 → length_in (header_octets header size ++ behind) ≡ size
length_in-written header size behind h = big_number-reads_back 3 size (drop 4 (header_octets header size) ++ behind) h

pub read_in-written : (header : Header) (size : ℕ) → HasOctets header → size < 2 ^ 24 → read_in (header_octets header size) ≡ record { header = header; version = 1; length = size }
read_in-written header size h lt =
    ap (λ (x : Header). let r : ReadHeader = record { header = x; version = 1; length = length_in (header_octets header size) } in r) (header_in-written header size [] h)
    ∙ ap (λ (n : ℕ). let r : ReadHeader = record { header = header; version = 1; length = n } in r) (length_in-written header size [] lt)

-- ---- read and written

cons_is : (x y : ℕ) (xs ys : List ℕ) → x ≡ y → xs ≡ ys → x ∷ xs ≡ y ∷ ys
cons_is x y xs ys p q = ap (λ (v : ℕ). v ∷ xs) p ∙ ap (λ (vs : List ℕ). y ∷ vs) q

three : (a b c : ℕ) (behind : List ℕ) → a < 256 → b < 256 → c < 256 → big_bytes 3 (big_number 3 (a ∷ b ∷ c ∷ behind)) ≡ a ∷ b ∷ c ∷ []
three a b c behind p q r = cons_is _ _ _ _ (omega arith) (cons_is _ _ _ _ (omega arith) (cons_is _ _ _ _ (omega arith) refl))

four : (a b c d : ℕ) (behind : List ℕ) → a < 256 → b < 256 → c < 256 → d < 256 → big_bytes 4 (big_number 4 (a ∷ b ∷ c ∷ d ∷ behind)) ≡ a ∷ b ∷ c ∷ d ∷ []
four a b c d behind p q r s = cons_is _ _ _ _ (omega arith) (cons_is _ _ _ _ (omega arith) (cons_is _ _ _ _ (omega arith) (cons_is _ _ _ _ (omega arith) refl)))

abbrev flags_again : ℕ → ℕ
flags_again flags = flag_of 128 (has_flag 128 flags) + flag_of 64 (has_flag 64 flags) + flag_of 32 (has_flag 32 flags) + flag_of 16 (has_flag 16 flags)

abbrev same_below : ℕ → Bool
same_below zero = true
same_below (suc n) = eqb (flags_again n) (bit_and n 240) && same_below n

-- each of the 256 values of the octet
flags_written : (flags : ℕ) → flags < 256 → flags_again flags ≡ bit_and flags 240
flags_written flags lt =
    (Decides-below_and (λ n. eqb (flags_again n) (bit_and n 240)) (λ n. flags_again n ≡ bit_and n 240) same_below (λ n. Decides-eqb (flags_again n) (bit_and n 240)) refl (λ _. refl) 256).0 refl flags lt

abbrev laid : ℕ → List ℕ → ℕ → List ℕ → List ℕ → List ℕ → List ℕ → List ℕ → List ℕ
laid version size flags command application hop last body =
    (version ∷ size) ++ (flags ∷ command) ++ application ++ hop ++ last ++ body

-- a header that was read is written as it stood, and the body behind it
pub written_again : (octets : List ℕ) → 20 ≤ length octets → All (λ octet. octet < 256) octets → version_in octets ≡ 1
    → header_octets (header_in octets) (length_in octets) ++ drop 20 octets ≡ without_reserved octets
written_again (o0 ∷ o1 ∷ o2 ∷ o3 ∷ o4 ∷ o5 ∷ o6 ∷ o7 ∷ o8 ∷ o9 ∷ o10 ∷ o11 ∷ o12 ∷ o13 ∷ o14 ∷ o15 ∷ o16 ∷ o17 ∷ o18 ∷ o19 ∷ body) long all version =
    let octets : List ℕ = o0 ∷ o1 ∷ o2 ∷ o3 ∷ o4 ∷ o5 ∷ o6 ∷ o7 ∷ o8 ∷ o9 ∷ o10 ∷ o11 ∷ o12 ∷ o13 ∷ o14 ∷ o15 ∷ o16 ∷ o17 ∷ o18 ∷ o19 ∷ body in
    let at : (i : ℕ) → i < 20 → get_or octets i 0 < 256 = λ i h. All-get_or (λ (octet : ℕ). octet < 256) octets i 0 (omega arith) all in
    let size : big_bytes 3 (length_in octets) ≡ o1 ∷ o2 ∷ o3 ∷ [] = three o1 o2 o3 (drop 4 octets) (at 1 (omega arith)) (at 2 (omega arith)) (at 3 (omega arith)) in
    let flags : flags_again o4 ≡ bit_and o4 240 = flags_written o4 (at 4 (omega arith)) in
    let command : big_bytes 3 (command_in octets) ≡ o5 ∷ o6 ∷ o7 ∷ [] = three o5 o6 o7 (drop 8 octets) (at 5 (omega arith)) (at 6 (omega arith)) (at 7 (omega arith)) in
    let application : big_bytes 4 (application_in octets) ≡ o8 ∷ o9 ∷ o10 ∷ o11 ∷ [] = four o8 o9 o10 o11 (drop 12 octets) (at 8 (omega arith)) (at 9 (omega arith)) (at 10 (omega arith)) (at 11 (omega arith)) in
    let hop : big_bytes 4 (hop_in octets) ≡ o12 ∷ o13 ∷ o14 ∷ o15 ∷ [] = four o12 o13 o14 o15 (drop 16 octets) (at 12 (omega arith)) (at 13 (omega arith)) (at 14 (omega arith)) (at 15 (omega arith)) in
    let last : big_bytes 4 (end_in octets) ≡ o16 ∷ o17 ∷ o18 ∷ o19 ∷ [] = four o16 o17 o18 o19 body (at 16 (omega arith)) (at 17 (omega arith)) (at 18 (omega arith)) (at 19 (omega arith)) in
    ap (λ (xs : List ℕ). laid 1 xs (flags_again o4) (big_bytes 3 (command_in octets)) (big_bytes 4 (application_in octets)) (big_bytes 4 (hop_in octets)) (big_bytes 4 (end_in octets)) body) size
    ∙ ap (λ (f : ℕ). laid 1 (o1 ∷ o2 ∷ o3 ∷ []) f (big_bytes 3 (command_in octets)) (big_bytes 4 (application_in octets)) (big_bytes 4 (hop_in octets)) (big_bytes 4 (end_in octets)) body) flags
    ∙ ap (λ (xs : List ℕ). laid 1 (o1 ∷ o2 ∷ o3 ∷ []) (bit_and o4 240) xs (big_bytes 4 (application_in octets)) (big_bytes 4 (hop_in octets)) (big_bytes 4 (end_in octets)) body) command
    ∙ ap (λ (xs : List ℕ). laid 1 (o1 ∷ o2 ∷ o3 ∷ []) (bit_and o4 240) (o5 ∷ o6 ∷ o7 ∷ []) xs (big_bytes 4 (hop_in octets)) (big_bytes 4 (end_in octets)) body) application
    ∙ ap (λ (xs : List ℕ). laid 1 (o1 ∷ o2 ∷ o3 ∷ []) (bit_and o4 240) (o5 ∷ o6 ∷ o7 ∷ []) (o8 ∷ o9 ∷ o10 ∷ o11 ∷ []) xs (big_bytes 4 (end_in octets)) body) hop
    ∙ ap (λ (xs : List ℕ). laid 1 (o1 ∷ o2 ∷ o3 ∷ []) (bit_and o4 240) (o5 ∷ o6 ∷ o7 ∷ []) (o8 ∷ o9 ∷ o10 ∷ o11 ∷ []) (o12 ∷ o13 ∷ o14 ∷ o15 ∷ []) xs body) last
    ∙ ap (λ (v : ℕ). laid v (o1 ∷ o2 ∷ o3 ∷ []) (bit_and o4 240) (o5 ∷ o6 ∷ o7 ∷ []) (o8 ∷ o9 ∷ o10 ∷ o11 ∷ []) (o12 ∷ o13 ∷ o14 ∷ o15 ∷ []) (o16 ∷ o17 ∷ o18 ∷ o19 ∷ []) body) (sym version)
written_again octets long all version = absurd (omega arith)
