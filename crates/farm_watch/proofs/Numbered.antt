-- Requests that are numbered by the clock: those of a process count on, and the seconds tell them apart over restarts.
use Rattle.std.proofs.Common.{◌≡◌, ◌≢◌, ℕ, zero, suc, ◌+◌, ◌*◌, ◌/◌, ◌%◌, ◌<◌, ◌≤◌, List, [], ◌∷◌, ◌++◌, Bool, true, false, true≢false, ◌||◌, get_or, length, refl, sym, ap, subst, append_assoc, arith, ◌∙◌}
use Rattle.std.specs.Prelude.{if◌then◌else◌}
use Rattle.std.specs.List.{list_any}
use Rattle.std.proofs.Math.Nat.{mod-add-mod}
use Rattle.std.proofs.lemmas.Nat.{mod-mul-add}
use Rattle.dia_base.specs.declared.number.Moment.{Moment}
use Rattle.dia_message.specs.declared.message.Message.{Message}
use Rattle.farm_watch.specs.Numbering.{Said, count_after, count_after_act, count_after_acts, end_of, ends_by, ends_of, identifier_at, numbered_act, numbered_by_clock, numbered_message, sends_request, with_end}
use Rattle.farm_watch.specs.declared.acts.Act.{Act}
use Rattle.farm_watch.specs.declared.acts.Act.TheVariants.{Send, PeerUp, PeerLeaves, Pass, Drop}

-- ---- acts one behind another

pub numbered_append : (moment : Moment) (count : ℕ) (xs ys : List Act)
    → numbered_by_clock moment count (xs ++ ys) ≡ numbered_by_clock moment count xs ++ numbered_by_clock moment (count_after_acts count xs) ys
numbered_append moment count [] ys = refl
numbered_append moment count (x ∷ xs) ys =
    ap (λ (acts : List Act). numbered_act moment count x ∷ acts) (numbered_append moment (count_after_act count x) xs ys)

pub counted_append : (count : ℕ) (xs ys : List Act) → count_after_acts count (xs ++ ys) ≡ count_after_acts (count_after_acts count xs) ys
counted_append count [] ys = refl
counted_append count (x ∷ xs) ys = counted_append (count_after_act count x) xs ys

-- ---- acts that send no request

first_false : (a b : Bool) → (a || b) ≡ false → a ≡ false
first_false true b none = absurd (true≢false none)
first_false false b none = refl

rest_false : (a b : Bool) → (a || b) ≡ false → b ≡ false
rest_false true b none = absurd (true≢false none)
rest_false false b none = none

message_still : (request : Bool) (identifier : ℕ) (m : Message) → request ≡ false → (if request then with_end identifier m else m) ≡ m
message_still true identifier m none = absurd (true≢false none)
message_still false identifier m none = refl

count_still : (request : Bool) (next count : ℕ) → request ≡ false → (if request then next else count) ≡ count
count_still true next count none = absurd (true≢false none)
count_still false next count none = refl

act_still : (moment : Moment) (count : ℕ) (act : Act) → sends_request act ≡ false → numbered_act moment count act ≡ act
act_still moment count (Send m) none = ap Send (message_still m.header.request (identifier_at moment count) m none)
act_still moment count (PeerUp node) none = refl
act_still moment count (PeerLeaves cause) none = refl
act_still moment count (Pass m) none = refl
act_still moment count Drop none = refl

takes_none : (count : ℕ) (act : Act) → sends_request act ≡ false → count_after_act count act ≡ count
takes_none count (Send m) none = count_still m.header.request (count_after count) count none
takes_none count (PeerUp node) none = refl
takes_none count (PeerLeaves cause) none = refl
takes_none count (Pass m) none = refl
takes_none count Drop none = refl

pub nothing_counted : (count : ℕ) (acts : List Act) → list_any sends_request acts ≡ false → count_after_acts count acts ≡ count
nothing_counted count [] none = refl
nothing_counted count (act ∷ acts) none =
    let first = first_false (sends_request act) (list_any sends_request acts) none in
    let rest = rest_false (sends_request act) (list_any sends_request acts) none in
    ap (λ (n : ℕ). count_after_acts n acts) (takes_none count act first) ∙ nothing_counted count acts rest

pub nothing_numbered : (moment : Moment) (count : ℕ) (acts : List Act) → list_any sends_request acts ≡ false → numbered_by_clock moment count acts ≡ acts
nothing_numbered moment count [] none = refl
nothing_numbered moment count (act ∷ acts) none =
    let first = first_false (sends_request act) (list_any sends_request acts) none in
    let rest = rest_false (sends_request act) (list_any sends_request acts) none in
    ap (λ (x : Act). x ∷ numbered_by_clock moment (count_after_act count act) acts) (act_still moment count act first)
    ∙ ap (λ (n : ℕ). act ∷ numbered_by_clock moment n acts) (takes_none count act first)
    ∙ ap (λ (more : List Act). act ∷ more) (nothing_numbered moment count acts rest)

-- ---- one process

-- their low 20 bits count on from here
abbrev CountFrom : ℕ → List ℕ → Type 0
CountFrom count [] = Unit {0}
CountFrom count (end ∷ ends) = (end % 1048576 ≡ count % 1048576) × CountFrom (count_after count) ends

below : (n : ℕ) → n % 1048576 < 1048576
below n = omega arith

low_bits : (moment : Moment) (count : ℕ) → identifier_at moment count % 1048576 ≡ count % 1048576
low_bits moment count =
    mod-mul-add (moment.0 / 1000 % 4096) 1048576 (count % 1048576) (below count)

one_sent : (request : Bool) (identifier count : ℕ) (m : Message) (rest : List ℕ) → identifier % 1048576 ≡ count % 1048576 → m.header.request ≡ request
    → CountFrom (if request then count_after count else count) rest → CountFrom count (end_of (if request then with_end identifier m else m) ++ rest)
one_sent true identifier count m rest low is more = rw is (low, more)
one_sent false identifier count m rest low is more = rw is more

acts_count : (moment : Moment) (count : ℕ) (acts : List Act) (rest : List ℕ) → CountFrom (count_after_acts count acts) rest
    → CountFrom count (ends_of (numbered_by_clock moment count acts) ++ rest)
acts_count moment count [] rest more = more
acts_count moment count (Send m ∷ acts) rest more =
    let next = count_after_act count (Send m) in
    subst (λ (ends : List ℕ). CountFrom count ends)
    (sym (append_assoc (end_of (numbered_message moment count m)) (ends_of (numbered_by_clock moment next acts)) rest))
    (one_sent m.header.request (identifier_at moment count) count m (ends_of (numbered_by_clock moment next acts) ++ rest) (low_bits moment count) refl
    (acts_count moment next acts rest more))
acts_count moment count (PeerUp node ∷ acts) rest more = acts_count moment count acts rest more
acts_count moment count (PeerLeaves cause ∷ acts) rest more = acts_count moment count acts rest more
acts_count moment count (Pass m ∷ acts) rest more = acts_count moment count acts rest more
acts_count moment count (Drop ∷ acts) rest more = acts_count moment count acts rest more

all_count : (count : ℕ) (lives : List Said) → CountFrom count (ends_by count lives)
all_count count [] = tt
all_count count (said ∷ lives) =
    let next = count_after_acts count said.acts in
    acts_count said.moment count said.acts (ends_by next lives) (all_count next lives)

one_on : (count i : ℕ) → (count_after count + i) % 1048576 ≡ (count + suc i) % 1048576
one_on count i =
    let one : count % 1048576 + 1 + i ≡ count % 1048576 + (1 + i) = omega arith in
    let more : count + (1 + i) ≡ count + suc i = omega arith in
    mod-add-mod (count % 1048576 + 1) 1048576 i ∙ ap (λ (n : ℕ). n % 1048576) one ∙ mod-add-mod count 1048576 (1 + i) ∙ ap (λ (n : ℕ). n % 1048576) more

same_count : (count : ℕ) → count % 1048576 ≡ (count + 0) % 1048576
same_count count =
    let none : count ≡ count + 0 = omega arith in
    ap (λ (n : ℕ). n % 1048576) none

shorter : (i n : ℕ) → suc i < suc n → i < n
shorter i n lt = omega (arith, lt)

count_at : (count : ℕ) (ends : List ℕ) (i : ℕ) → CountFrom count ends → i < length ends → get_or ends i 0 % 1048576 ≡ (count + i) % 1048576
count_at count [] i counts within = absurd (omega (arith, within))
count_at count (end ∷ ends) zero counts within = counts.0 ∙ same_count count
count_at count (end ∷ ends) (suc i) counts within =
    count_at (count_after count) ends i counts.1 (shorter i (length ends) within) ∙ one_on count i

apart : (count i j a b : ℕ) → i < j → j < i + 1048576 → a % 1048576 ≡ (count + i) % 1048576 → b % 1048576 ≡ (count + j) % 1048576 → a ≢ b
apart count i j a b above near low other same =
    let alike : (count + i) % 1048576 ≡ (count + j) % 1048576 = sym low ∙ ap (λ (n : ℕ). n % 1048576) same ∙ other in
    omega (arith, above, near, alike)

between : (i j n : ℕ) → i < j → j < n → i < n
between i j n above within = omega (arith, above, within)

pub told_apart : (count : ℕ) (lives : List Said) (i j : ℕ) → i < j → j < i + 1048576 → j < length (ends_by count lives)
    → get_or (ends_by count lives) i 0 ≢ get_or (ends_by count lives) j 0
told_apart count lives i j above near within =
    let ends = ends_by count lives in
    let counts = all_count count lives in
    apart count i j (get_or ends i 0) (get_or ends j 0) above near
    (count_at count ends i counts (between i j (length ends) above within)) (count_at count ends j counts within)

-- ---- over restarts

high_bits : (x y a b : ℕ) → a < 1048576 → b < 1048576 → x * 1048576 + a ≡ y * 1048576 + b → x ≡ y
high_bits x y a b low other same = omega (arith, low, other, same)

near_apart : (s t : ℕ) → s < t → t < s + 4096 → s % 4096 ≢ t % 4096
near_apart s t later near same = omega (arith, later, near, same)

four_minutes : (a b : ℕ) → b ≤ a + 240000 → b / 1000 < a / 1000 + 4096
four_minutes a b within = omega (arith, within)

pub seconds_apart : (one other : Moment) (i j : ℕ) → one.0 / 1000 < other.0 / 1000 → other.0 ≤ one.0 + 240000 → identifier_at one i ≢ identifier_at other j
seconds_apart one other i j later within same =
    near_apart (one.0 / 1000) (other.0 / 1000) later (four_minutes one.0 other.0 within)
    (high_bits (one.0 / 1000 % 4096) (other.0 / 1000 % 4096) (i % 1048576) (j % 1048576) (below i) (below j) same)
