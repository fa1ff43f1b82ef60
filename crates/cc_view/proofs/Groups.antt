-- Groups that are opened, filled and closed.
use Rattle.std.proofs.Common.{◌≡◌, ℕ, ◌+◌, ◌-◌, ◌<◌, ◌≤◌, ◌^◌, ◌%◌, List, [], ◌∷◌, ◌++◌, length, take, drop, sym, ap, ◌∙◌, length-append, append_assoc, arith}
use Rattle.std.specs.Prelude.{replicate}
use borrow.Rule.Slice.PartMut.{put_mid}
use Rattle.std.proofs.lemmas.List.{append-nil, length-drop, length-take-le, take_at}
use Rattle.std.proofs.lemmas.Slice.{between_to_end}
use Rattle.std.proofs.Math.ListN.{drop_of_length-le}
use Rattle.std.proofs.Math.Seq.{drop-append-add, take-append-add}
use Rattle.byteorder.specs.Endian.{big_bytes}
use Rattle.dia_avp.specs.declared.avp.RawAvp.{RawAvp}
use Rattle.dia_avp.specs.AvpList.{padding_of, unpadded}
use Rattle.cc_view.specs.Answer.Writing.{group_avp, spelling_of}
use Rattle.cc_view.proofs.Drafts.{one_written, spelled_len, two_added}
use Rattle.cc_view.proofs.Fitting.{spelling_of-whole}

-- a group as it is opened, and members
pub members_added : (d0 d1 d2 : List ℕ) (code : ℕ) (members : List RawAvp) → d1 ≡ d0 ++ spelling_of (group_avp code [] ∷ []) → d2 ≡ d1 ++ spelling_of members → d2 ≡ d0 ++ spelling_of (group_avp code [] ∷ members)
members_added d0 d1 d2 code members e1 e2 = two_added d0 d1 d2 (group_avp code [] ∷ []) members e1 e2

-- ---- the octets of a group

no_padding : (n : ℕ) → n % 4 ≡ 0 → padding_of (8 + n) ≡ 0
no_padding n e = omega (arith, e)

-- code and flags
abbrev front_of_group : ℕ → List ℕ
front_of_group code = big_bytes 4 code ++ (64 ∷ [])

group_written : (code : ℕ) (members : List RawAvp) → spelling_of (group_avp code members ∷ []) ≡ front_of_group code ++ (big_bytes 3 (8 + spelled_len members) ++ spelling_of members)
group_written code members =
    one_written (group_avp code members)
    ∙ ap (λ (n : ℕ). unpadded (group_avp code members) ++ replicate n 0) (no_padding (spelled_len members) (spelling_of-whole members))
    ∙ append-nil (unpadded (group_avp code members))

-- ---- closing

-- three octets that were written into a buffer
pub overwritten : (old s items buf : List ℕ) (a room len : ℕ) → s ≡ old → length s ≡ room → a + 3 ≤ length s → buf ≡ big_bytes 3 len ++ drop 3 (take (length s - a) (drop a s))
    → take room (put_mid a (length s - a) s buf ++ drop (length (put_mid a (length s - a) s buf)) items) ≡ take a old ++ (big_bytes 3 len ++ drop 3 (drop a old))
overwritten old s items buf a room len same is_room within is_buf =
    let part : List ℕ = big_bytes 3 len ++ drop 3 (drop a s) in
    let put : List ℕ = put_mid a (length s - a) s buf in
    let whole : buf ≡ part = is_buf ∙ ap (λ (x : List ℕ). big_bytes 3 len ++ drop 3 x) (between_to_end s a (length s) (omega arith)) in
    let none : drop (length s - a) (drop a s) ≡ [] = drop_of_length-le (drop a s) (omega (arith, length-drop a s)) in
    let is_put : put ≡ take a s ++ part =
    ap (λ (x : List ℕ). take a s ++ (x ++ drop (length s - a) (drop a s))) whole ∙ ap (λ (x : List ℕ). take a s ++ (part ++ x)) none ∙ ap (λ (x : List ℕ). take a s ++ x) (append-nil part) in
    let long : length put ≡ room =
    omega (arith, ap length is_put, length-append (take a s) part, length-take-le a s (omega arith), length-append (big_bytes 3 len) (drop 3 (drop a s)), length-drop 3 (drop a s), length-drop a s) in
    take_at put (drop (length put) items) room long ∙ is_put ∙ ap (λ (x : List ℕ). take a x ++ (big_bytes 3 len ++ drop 3 (drop a x))) same

opened_len : (front old : List ℕ) (code : ℕ) (members : List RawAvp) → old ≡ front ++ spelling_of (group_avp code [] ∷ members) → length old ≡ length front + (8 + spelled_len members)
opened_len front old code members is_old = omega (arith, ap length is_old, length-append front (spelling_of (group_avp code [] ∷ members)))

-- there is a header, and what it says fits
pub closable : (front old : List ℕ) (start code n : ℕ) (members : List RawAvp) → start ≡ length front → old ≡ front ++ spelling_of (group_avp code [] ∷ members) → spelled_len members ≤ n → n ≤ 65536
    → (start + 8 ≤ length old) × (length old < start + 2 ^ 24)
closable front old start code n members is_start is_old le short =
    let whole : length old ≡ length front + (8 + spelled_len members) = opened_len front old code members is_old in
    (omega arith, omega arith)

-- the length, written over that of a group without members
pub length_written : (front old new : List ℕ) (start len code : ℕ) (members : List RawAvp) → start ≡ length front → old ≡ front ++ spelling_of (group_avp code [] ∷ members)
    → len ≡ length old - start → new ≡ take (start + 5) old ++ (big_bytes 3 len ++ drop 3 (drop (start + 5) old)) → new ≡ front ++ spelling_of (group_avp code members ∷ [])
length_written front old new start len code members is_start is_old is_len is_new =
    let opened : List ℕ = spelling_of (group_avp code [] ∷ members) in
    let whole : length old ≡ length front + (8 + spelled_len members) = opened_len front old code members is_old in
    let lengths : len ≡ 8 + spelled_len members = omega arith in
    let before : take (start + 5) old ≡ front ++ front_of_group code =
    ap (λ (n : ℕ). take (n + 5) old) is_start ∙ ap (λ (x : List ℕ). take (length front + 5) x) is_old ∙ take-append-add front opened 5 in
    let behind : drop (start + 5) old ≡ drop 5 opened =
    ap (λ (n : ℕ). drop (n + 5) old) is_start ∙ ap (λ (x : List ℕ). drop (length front + 5) x) is_old ∙ drop-append-add front opened 5 in
    is_new
    ∙ ap (λ (x : List ℕ). x ++ (big_bytes 3 len ++ drop 3 (drop (start + 5) old))) before
    ∙ ap (λ (x : List ℕ). (front ++ front_of_group code) ++ (big_bytes 3 len ++ drop 3 x)) behind
    ∙ ap (λ (n : ℕ). (front ++ front_of_group code) ++ (big_bytes 3 n ++ spelling_of members)) lengths
    ∙ append_assoc front (front_of_group code) (big_bytes 3 (8 + spelled_len members) ++ spelling_of members)
    ∙ ap (λ (x : List ℕ). front ++ x) (sym (group_written code members))
