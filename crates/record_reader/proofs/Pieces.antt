-- Lines that are found in pieces.
use Rattle.std.proofs.Common.{◌≡◌, ℕ, zero, suc, ◌+◌, ◌-◌, ◌^◌, ◌<◌, ◌≤◌, min, Bool, true, false, ◌==◌, nat_lt, List, [], ◌∷◌, ◌++◌, length, take, drop, get_or, position, Option, Some, None, refl, sym, subst, ap, ◌∙◌, arith, length-take, get_or-take, add-one, append-nil, append_assoc, take-append-drop, drop-cons}
use Rattle.std.specs.List.{position_or_len}
use Rattle.std.proofs.lemmas.List.{drop-drop}
use Rattle.std.proofs.lemmas.List.Sums.{fails_before_first}
use Rattle.std.specs.Global.{Vec}
use Rattle.std.specs.Io.KnownBytes.{Consumes, IsAtEnd, Keeps, prepend_known}
use Rattle.std.proofs.lemmas.Bool.{eqb-true, ltb-false}
use Rattle.std.proofs.lemmas.List.Elements.{All-from_get_or}
use Rattle.std.proofs.lemmas.List.Quantifiers.{position-Some}
use Rattle.std.proofs.lemmas.List.Splits.{slice_split_none}
use Rattle.record_reader.specs.Telling.{but_last, whole_lines}
use Rattle.record_reader.specs.WholeLines.{Brings, GivesFirst, HasNoLine, IsOneLine, Reads, TakesLine}
use Rattle.record_reader.proofs.RecordBack.{whole_lines-more}

pub whole_lines-none : (octets : List ℕ) → IsOneLine octets → whole_lines octets ≡ []
whole_lines-none octets one = ap but_last (slice_split_none (λ octet. octet == 10) octets one)

-- ---- the first line feed

pub at_feed : (octets : List ℕ) (at : ℕ) → position (λ octet. octet == 10) octets ≡ Some at → octets ≡ take at octets ++ 10 ∷ drop (at + 1) octets
at_feed octets at h =
    let found = position-Some (λ octet. octet == 10) octets at 0 h in
    let within : at < length octets = found.0 in
    let feed : get_or octets at 0 ≡ 10 = eqb-true (get_or octets at 0) 10 found.1 in
    let rest : drop at octets ≡ 10 ∷ drop (suc at) octets = drop-cons octets at 0 within ∙ ap (λ (octet : ℕ). octet ∷ drop (suc at) octets) feed in
    sym (take-append-drop at octets) ∙ rw (add-one, rest) refl

pub before_feed : (octets : List ℕ) (at : ℕ) → position (λ octet. octet == 10) octets ≡ Some at → IsOneLine (take at octets)
before_feed octets at h =
    let found = position-Some (λ octet. octet == 10) octets at 0 h in
    All-from_get_or (λ octet. (octet == 10) ≡ false) (take at octets) 0 (λ k within.
    let below : k < at = omega (arith, length-take at octets, within) in
    subst (λ (octet : ℕ). (octet == 10) ≡ false) (sym (get_or-take at octets k 0 below)) (found.2 k below))

no_feed_at : (octets : List ℕ) (is : Bool) → nat_lt (position_or_len (λ octet. octet == 10) octets) (length octets) ≡ is
    → position (λ octet. octet == 10) octets ≡ None → length octets ≤ position_or_len (λ octet. octet == 10) octets
no_feed_at octets true is h = absurd (let e : Some (position_or_len (λ octet. octet == 10) octets) ≡ None = rw is at h in cc)
no_feed_at octets false is h = ltb-false (position_or_len (λ octet. octet == 10) octets) (length octets) is

pub no_feed : (octets : List ℕ) → position (λ octet. octet == 10) octets ≡ None → IsOneLine octets
no_feed octets h k d within =
    let past = no_feed_at octets (nat_lt (position_or_len (λ octet. octet == 10) octets) (length octets)) refl h in
    fails_before_first (λ octet. octet == 10) octets k d (omega arith)

-- ---- what is left

pub same_left : (old mid new : Option (List ℕ)) → Keeps old mid → Keeps mid new → Keeps old new
same_left None mid new a b = tt
same_left (Some x) None new a b = absurd a
same_left (Some x) (Some y) None a b = absurd b
same_left (Some x) (Some y) (Some z) a b = b ∙ a

pub kept_left : (old : Option (List ℕ)) → Keeps old old
kept_left None = tt
kept_left (Some x) = refl

-- what was read joins what is not given
pub read_left : (old new : Option (List ℕ)) (rest after octets : List ℕ) → Consumes old new octets → after ≡ rest ++ octets → Keeps (prepend_known rest old) (prepend_known after new)
read_left None new rest after octets c h = tt
read_left (Some x) None rest after octets c h = absurd c
read_left (Some x) (Some y) rest after octets c h = rw (h, c) (append_assoc rest octets y)

pub first_given : (old remaining : Option (List ℕ)) (unread line behind : List ℕ) → Keeps old (prepend_known unread remaining) → unread ≡ line ++ 10 ∷ behind → IsOneLine line
    → GivesFirst old (prepend_known behind remaining) line
first_given None remaining unread line behind k h one = tt
first_given (Some octets) None unread line behind k h one = absurd k
first_given (Some octets) (Some more) unread line behind k h one =
    ap whole_lines (sym k ∙ ap (λ (front : List ℕ). front ++ more) h ∙ append_assoc line (10 ∷ behind) more) ∙ whole_lines-more line (behind ++ more) one

pub none_given : (old remaining : Option (List ℕ)) (unread : List ℕ) → Keeps old (prepend_known unread remaining) → IsAtEnd remaining → IsOneLine unread → HasNoLine old
none_given None remaining unread k e one = tt
none_given (Some octets) None unread k e one = absurd k
none_given (Some octets) (Some more) unread k e one =
    ap whole_lines (sym k ∙ ap (λ (rest : List ℕ). unread ++ rest) e ∙ append-nil unread) ∙ whole_lines-none unread one

-- ---- calls that were interrupted

consumed_from : (old mid new : Option (List ℕ)) (octets : List ℕ) → Keeps old mid → Consumes mid new octets → Consumes old new octets
consumed_from None mid new octets k c = tt
consumed_from (Some x) None new octets k c = absurd k
consumed_from (Some x) (Some y) None octets k c = absurd c
consumed_from (Some x) (Some y) (Some z) octets k c = sym k ∙ c

none_brought : (octets : List ℕ) (count : ℕ) → count ≡ length octets → count ≡ 0 → octets ≡ []
none_brought [] count counted none = refl
none_brought (octet ∷ octets) count counted none = absurd (omega (arith, counted, none))

-- the call behind them brought something, or found the end
pub reads_behind : (old mid new : Option (List ℕ)) (before after : List ℕ) (count : ℕ) (more : Bool) → Keeps old mid → Brings mid new before after count
    → (more ≡ false → count ≡ 0) → Reads old new before after more
reads_behind old mid new before after count more k brings none = record {
  octets = brings.octets;
  kept = brings.kept;
  consumed = consumed_from old mid new brings.octets k brings.consumed;
  «end» = λ e. (brings.«end» (none e), none_brought brings.octets count brings.counted (none e));
}

-- ---- the next line is taken off

fits : (rest : List ℕ) (given at : ℕ) → at < length (drop given rest) → given + at < length rest
fits rest zero at within = omega (arith, within)
fits [] (suc given) at within = absurd (omega (arith, within))
fits (octet ∷ rest) (suc given) at within = omega (arith, fits rest given at within)

pub taken_line : (rest line : List ℕ) (given at next : ℕ) → length rest < 2 ^ 63 → position (λ octet. octet == 10) (drop given rest) ≡ Some at → line ≡ take at (drop given rest)
    → next ≡ min (min (given + at) (2 ^ 64 - 1) + 1) (2 ^ 64 - 1) → (drop given rest ≡ line ++ 10 ∷ drop next rest) × IsOneLine line
taken_line rest line given at next small found is sum =
    let octets = drop given rest in
    let there = fits rest given at ((position-Some (λ octet. octet == 10) octets at 0 found).0) in
    let next_is : given + (at + 1) ≡ next = omega (arith, there, small, sum) in
    let left : drop (at + 1) octets ≡ drop next rest = drop-drop (at + 1) given rest ∙ ap (λ (n : ℕ). drop n rest) next_is in (
      at_feed octets at found ∙ ap (λ (front : List ℕ). front ++ 10 ∷ drop (at + 1) octets) (sym is) ∙ ap (λ (behind : List ℕ). line ++ 10 ∷ behind) left,
      subst IsOneLine (sym is) (before_feed octets at found),
    )

-- ---- the next line, or none

pub line_given : (old remaining left : Option (List ℕ)) (unread behind : List ℕ) (taken : Option (Vec ℕ)) (line : Vec ℕ) → Keeps old (prepend_known unread remaining)
    → TakesLine unread behind taken → taken ≡ Some line → left ≡ remaining → GivesFirst old (prepend_known behind left) line.items
line_given old remaining left unread behind taken line kept takes is same =
    let this : TakesLine unread behind (Some line) = subst (TakesLine unread behind) is takes in
    subst (λ (known : Option (List ℕ)). GivesFirst old (prepend_known behind known) line.items) (sym same)
    (first_given old remaining unread line.items behind kept this.0 this.1)

at_end_before : (old new : Option (List ℕ)) (octets : List ℕ) → Consumes old new octets → octets ≡ [] → IsAtEnd new → IsAtEnd old
at_end_before None new octets c none e = tt
at_end_before (Some x) None octets c none e = absurd c
at_end_before (Some x) (Some y) octets c none e = c ∙ ap (λ (front : List ℕ). front ++ y) none ∙ e

pub none_left : (old remaining mid new : Option (List ℕ)) (unread behind before after : List ℕ) (taken : Option (Vec ℕ)) (more : Bool) → Keeps old (prepend_known unread remaining)
    → TakesLine unread behind taken → taken ≡ None → mid ≡ remaining → Reads mid new before after more → more ≡ false → HasNoLine old
none_left old remaining mid new unread behind before after taken more kept takes none same reads ends =
    let found = reads.«end» ends in
    let here : TakesLine unread behind None = subst (TakesLine unread behind) none takes in
    none_given old remaining unread kept (subst IsAtEnd same (at_end_before mid new reads.octets reads.consumed found.1 found.0)) here.1
