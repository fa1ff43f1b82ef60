-- What is so of the pending requests at each point of a run, by the acts before.
use Rattle.std.proofs.Common.{◌≡◌, ℕ, ◌+◌, ◌≤◌, ◌==◌, ◌&&◌, ◌||◌, not, ◌⊎◌, inl, inr, Bool, true, false, cond, is_some, List, [], ◌∷◌, ◌++◌, Option, Some, None, option_map, refl, ap, sym, subst, ◌∙◌, arith}
use Rattle.std.specs.List.{AllByRecursion, count_by, find}
use Rattle.std.proofs.lemmas.Bool.{and_parts, eq-eqb, eqb-true}
use Rattle.dia_base.proofs.Counting.{count-among, count-map, count-le}
use Rattle.dia_base.specs.declared.number.ConnId.{ConnId}
use Rattle.dia_message.specs.declared.message.Message.{Message}
use Rattle.relay_hops.specs.declared.row.Held.{Held}
use Rattle.relay_hops.specs.declared.row.Origin.{Origin}
use Rattle.relay_hops.specs.declared.row.Row.{Row}
use Rattle.relay_hops.specs.PendingTable.{IsMap, IsWith, has_key, held_at, hop_of, orphaned, but_from, without_origin}
use Rattle.relay_hops.proofs.InUse.{held-without}
use Rattle.relay_hops.proofs.LookUps.{held-with, held-orphaned, count-free}
use Rattle.relay_hops.proofs.Rows.{IsMap-less, IsMap-more, IsMap-orphaned}
use Rattle.relay_core.specs.declared.run.RelayEvent.{RelayEvent}
use Rattle.relay_core.specs.Acts.{Act, happened, sent, ends, is_under, is_in_use, last_sent, one, requests_in, answers_in}
use Rattle.relay_core.specs.Failover.{without_origins}
use Rattle.relay_core.specs.Forwarding.{Descends}
use Rattle.relay_core.specs.Promise.{HasCome, comes_from, is_from}

-- ---- where a pending request comes from

pub record RowCause (acts : List Act) (row : Row) : Type 0 where
  pub conn : ConnId
  pub request : Message
  pub came : HasCome acts conn request
  pub descends : Descends request row.held.request
  pub flag : row.held.request.header.request ≡ true
  pub last : last_sent row.conn (hop_of row) acts ≡ Some row.held.request
  pub origin : (row.held.origin ≡ None) ⊎ (row.held.origin ≡ Some (record { conn = conn; hop = request.header.hop }))

pub come_more : (act : Act) (acts : List Act) (conn : ConnId) (request : Message) → HasCome acts conn request → HasCome (act ∷ acts) conn request
come_more act acts conn request h = record { among = inr h.among; flag = h.flag }

-- an act leaves as it was what was sent last under the identifier of a row
abbrev Stays : Act → List Act → Row → Type 0
Stays act acts row = last_sent row.conn (hop_of row) (act ∷ acts) ≡ last_sent row.conn (hop_of row) acts

cause_more : (act : Act) (acts : List Act) (row : Row) → Stays act acts row → RowCause acts row → RowCause (act ∷ acts) row
cause_more act acts row stays c = record {
  conn = c.conn;
  request = c.request;
  came = come_more act acts c.conn c.request c.came;
  descends = c.descends;
  flag = c.flag;
  last = stays ∙ c.last;
  origin = c.origin;
}

causes_more : (act : Act) (acts : List Act) (rows : List Row) → ((row : Row) → Stays act acts row) → AllByRecursion (RowCause acts) rows → AllByRecursion (RowCause (act ∷ acts)) rows
causes_more act acts [] stays all = tt
causes_more act acts (row ∷ rows) stays all = (cause_more act acts row (stays row) all.0, causes_more act acts rows stays all.1)

-- an answer is no request
no_request : (flag b : Bool) (message last : Option Message) → flag ≡ false → cond (flag && b) message last ≡ last
no_request true b message last e = absurd cc
no_request false b message last e = refl

-- a request under another identifier
other_request : (flag b : Bool) (message last : Option Message) → b ≡ false → cond (flag && b) message last ≡ last
other_request true true message last e = absurd cc
other_request true false message last e = refl
other_request false b message last e = refl

eq_flips : (a b : ℕ) → (a == b) ≡ (b == a)
eq_flips a b = here (a == b) refl (b == a) refl
  where
    here : (x : Bool) → (a == b) ≡ x → (y : Bool) → (b == a) ≡ y → (a == b) ≡ (b == a)
    here true e true f = e ∙ sym f
    here false e false f = e ∙ sym f
    here true e false f = absurd (let yes : (b == a) ≡ true = eq-eqb b a (sym (eqb-true a b e)) in cc)
    here false e true f = absurd (let yes : (a == b) ≡ true = eq-eqb a b (sym (eqb-true b a f)) in cc)

flips : (a b : ConnId) (n m : ℕ) → ((a.0 == b.0) && (n == m)) ≡ ((b.0 == a.0) && (m == n))
flips a b n m = ap (λ (x : Bool). x && (n == m)) (eq_flips a.0 b.0) ∙ ap (λ (x : Bool). (b.0 == a.0) && x) (eq_flips n m)

free_here : (b : Bool) (row : Row) (rest : Option Row) → option_map (λ (r : Row). r.held) (cond b (Some row) rest) ≡ None → (b ≡ false) × (option_map (λ (r : Row). r.held) rest ≡ None)
free_here true row rest e = absurd cc
free_here false row rest e = (refl, e)

-- a request is sent under an identifier that no row has
causes_sent : (to : ConnId) (message : Message) (acts : List Act) (rows : List Row) → held_at rows to message.header.hop ≡ None → AllByRecursion (RowCause acts) rows → AllByRecursion (RowCause (sent to message ∷ acts)) rows
causes_sent to message acts [] free all = tt
causes_sent to message acts (row ∷ rows) free all =
    let apart = free_here (has_key to message.header.hop row) row (find (has_key to message.header.hop) rows) free in
    let under_none : is_under row.conn (hop_of row) to message ≡ false = flips to row.conn message.header.hop (hop_of row) ∙ apart.0 in (
      cause_more (sent to message) acts row (other_request message.header.request (is_under row.conn (hop_of row) to message) (Some message) (last_sent row.conn (hop_of row) acts) under_none) all.0,
      causes_sent to message acts rows apart.1 all.1,
    )

all_three : (a b c : Bool) → a ≡ true → b ≡ true → c ≡ true → (a && (b && c)) ≡ true
all_three true true true e f g = refl
all_three true true false e f g = absurd cc
all_three true false c e f g = absurd cc
all_three false b c e f g = absurd cc

pub last_is_sent : (to : ConnId) (message : Message) (acts : List Act) → message.header.request ≡ true → last_sent to message.header.hop (sent to message ∷ acts) ≡ Some message
last_is_sent to message acts flag =
    ap (λ (b : Bool). cond b (Some message) (last_sent to message.header.hop acts))
    (all_three message.header.request (to.0 == to.0) (message.header.hop == message.header.hop) flag (eq-eqb to.0 to.0 refl) (eq-eqb message.header.hop message.header.hop refl))

-- ---- all rows, with one more or less

all_among : (P : Row → Type 0) (before : List Row) (row : Row) (after : List Row) → AllByRecursion P (before ++ after) → P row → AllByRecursion P (before ++ row ∷ after)
all_among P [] row after all p = (p, all)
all_among P (r ∷ before) row after all p = (all.0, all_among P before row after all.1 p)

all_but : (P : Row → Type 0) (before : List Row) (row : Row) (after : List Row) → AllByRecursion P (before ++ row ∷ after) → P row × AllByRecursion P (before ++ after)
all_but P [] row after all = (all.0, all.1)
all_but P (r ∷ before) row after all = let rest = all_but P before row after all.1 in (rest.0, (all.0, rest.1))

all_with : (P : Row → Type 0) (row : Row) (others rows : List Row) → IsWith row others rows → AllByRecursion P others → P row → AllByRecursion P rows
all_with P row others rows w all p = subst (AllByRecursion P) (sym w.whole) (all_among P w.before row w.after (subst (AllByRecursion P) w.without all) p)

all_without : (P : Row → Type 0) (row : Row) (others rows : List Row) → IsWith row others rows → AllByRecursion P rows → P row × AllByRecursion P others
all_without P row others rows w all =
    let parts = all_but P w.before row w.after (subst (AllByRecursion P) w.whole all) in
    (parts.0, subst (AllByRecursion P) (sym w.without) parts.1)

-- ---- the pending requests

pub record Holding (acts : List Act) (rows : List Row) : Type 0 where
  pub map : IsMap rows
  pub causes : AllByRecursion (RowCause acts) rows
  -- an identifier that is in use is that of a pending request
  pub used : (to : ConnId) (hop : ℕ) → is_in_use to hop acts ≡ true → is_some (held_at rows to hop) ≡ true

pub cause_of : (acts : List Act) (row : Row) (others rows : List Row) → Holding acts rows → IsWith row others rows → RowCause acts row
cause_of acts row others rows h w = (all_without (RowCause acts) row others rows w h.causes).0

-- an event happens, and the table stays
pub holding-event : (event : RelayEvent) (acts : List Act) (rows : List Row) → Holding acts rows → Holding (happened event ∷ acts) rows
holding-event event acts rows h = record {
  map = h.map;
  causes = causes_more (happened event) acts rows (λ row. refl) h.causes;
  used = λ to hop e. h.used to hop (and_parts (not (ends to hop event)) (is_in_use to hop acts) e).1;
}

no_flag : (flag b rest : Bool) → flag ≡ false → ((flag && b) || rest) ≡ true → rest ≡ true
no_flag true b rest e f = absurd cc
no_flag false b rest e f = f

-- an answer is sent
pub holding-answer : (conn : ConnId) (answer : Message) (acts : List Act) (rows : List Row) → answer.header.request ≡ false → Holding acts rows → Holding (sent conn answer ∷ acts) rows
holding-answer conn answer acts rows flag h = record {
  map = h.map;
  causes = causes_more (sent conn answer) acts rows (λ row. no_request answer.header.request (is_under row.conn (hop_of row) conn answer) (Some answer) (last_sent row.conn (hop_of row) acts) flag) h.causes;
  used = λ to hop e. h.used to hop (no_flag answer.header.request (is_under to hop conn answer) (is_in_use to hop acts) flag e);
}

kept_some : (key : Bool) (whole : Option Held) → key ≡ false → is_some whole ≡ true → is_some (cond key None whole) ≡ true
kept_some true whole e s = absurd cc
kept_some false whole e s = s

-- a row is taken out whose identifier is not in use
pub holding-less : (row : Row) (others rows : List Row) (acts : List Act) → IsWith row others rows → ((to : ConnId) (hop : ℕ) → is_in_use to hop acts ≡ true → has_key to hop row ≡ false) → Holding acts rows → Holding acts others
holding-less row others rows acts w apart h = record {
  map = IsMap-less row others rows w h.map;
  causes = (all_without (RowCause acts) row others rows w h.causes).1;
  used = λ to hop e.
      ap is_some (held-without row others rows to hop w h.map)
      ∙ kept_some (has_key to hop row) (held_at rows to hop) (apart to hop e) (h.used to hop e);
}

some_either : (key : Bool) (held : Held) (rest : Option Held) → (key ≡ true) ⊎ (is_some rest ≡ true) → is_some (cond key (Some held) rest) ≡ true
some_either true held rest s = refl
some_either false held rest (inl e) = absurd cc
some_either false held rest (inr e) = e

either : (flag b rest : Bool) → ((flag && b) || rest) ≡ true → (b ≡ true) ⊎ (rest ≡ true)
either true true rest e = inl refl
either true false rest e = inr e
either false b rest e = inr e

-- a request is sent under an identifier that is free, and becomes pending
pub holding-more : (row : Row) (others rows : List Row) (acts : List Act) → IsWith row others rows → held_at others row.conn (hop_of row) ≡ None → RowCause (sent row.conn row.held.request ∷ acts) row
    → Holding acts others → Holding (sent row.conn row.held.request ∷ acts) rows
holding-more row others rows acts w free cause h =
    let whole = IsMap-more row others rows w (count-free others row.conn (hop_of row) free) h.map in
    record {
      map = whole;
      causes = all_with (RowCause (sent row.conn row.held.request ∷ acts)) row others rows w (causes_sent row.conn row.held.request acts others free h.causes) cause;
      used = λ to hop e.
          ap is_some (held-with row others rows to hop w whole)
          ∙ some_either (has_key to hop row) row.held (held_at others to hop) (shown to hop (either row.held.request.header.request (is_under to hop row.conn row.held.request) (is_in_use to hop acts) e));
    }
  where
    shown : (to : ConnId) (hop : ℕ) → (is_under to hop row.conn row.held.request ≡ true) ⊎ (is_in_use to hop acts ≡ true) → (has_key to hop row ≡ true) ⊎ (is_some (held_at others to hop) ≡ true)
    shown to hop (inl e) = inl e
    shown to hop (inr e) = inr (h.used to hop e)

-- what came on a connection has nowhere to be answered to
lost_origin : (ended : ConnId) (origin : Origin) (b : Bool) → (cond b None (Some origin) ≡ None) ⊎ (cond b None (Some origin) ≡ Some origin)
lost_origin ended origin true = inl refl
lost_origin ended origin false = inr refl

orphan_origin : (ended : ConnId) (o : Option Origin) (origin : Origin) → (o ≡ None) ⊎ (o ≡ Some origin) → (but_from ended o ≡ None) ⊎ (but_from ended o ≡ Some origin)
orphan_origin ended o origin (inl e) = inl (ap (but_from ended) e)
orphan_origin ended o origin (inr e) =
    elim (lost_origin ended origin (origin.conn.0 == ended.0)) [
      | inl none ↦ inl (ap (but_from ended) e ∙ none)
      | inr same ↦ inr (ap (but_from ended) e ∙ same)
    ]

orphan_causes : (ended : ConnId) (acts : List Act) (rows : List Row) → AllByRecursion (RowCause acts) rows → AllByRecursion (RowCause acts) (without_origins ended rows)
orphan_causes ended acts [] all = tt
orphan_causes ended acts (row ∷ rows) all = (
  record {
    conn = all.0.conn;
    request = all.0.request;
    came = all.0.came;
    descends = all.0.descends;
    flag = all.0.flag;
    last = all.0.last;
    origin = orphan_origin ended row.held.origin (record { conn = all.0.conn; hop = all.0.request.header.hop }) all.0.origin;
  },
  orphan_causes ended acts rows all.1,
)

some_map : {X Y : Type 0} (f : X → Y) (o : Option X) → is_some (option_map f o) ≡ is_some o
some_map f None = refl
some_map f (Some x) = refl

pub holding-orphans : (ended : ConnId) (acts : List Act) (rows : List Row) → Holding acts rows → Holding acts (without_origins ended rows)
holding-orphans ended acts rows h = record {
  map = IsMap-orphaned rows ended h.map;
  causes = orphan_causes ended acts rows h.causes;
  used = λ to hop e. ap is_some (held-orphaned rows ended to hop) ∙ some_map (without_origin ended) (held_at rows to hop) ∙ h.used to hop e;
}

-- ---- how many answers there may still be

-- the answers that went out, and those that may still go out, are no more than the requests that came
abbrev pub Counted : List Act → List Row → Type 0
Counted acts rows = (to : ConnId) (hop : ℕ) → answers_in to hop acts + count_by (is_from to hop) rows ≤ requests_in to hop acts

pub count-with : (p : Row → Bool) (row : Row) (others rows : List Row) → IsWith row others rows → count_by p rows ≡ one (p row) + count_by p others
count-with p row others rows w =
    ap (count_by p) w.whole ∙ count-among p row w.before w.after ∙ ap (λ (xs : List Row). one (p row) + count_by p xs) (sym w.without)

pub counted-event : (event : RelayEvent) (acts : List Act) (rows : List Row) → Counted acts rows → Counted (happened event ∷ acts) rows
counted-event event acts rows c to hop = let le = c to hop in omega arith

-- a request came, and became pending
one-and : (flag b : Bool) → flag ≡ true → one (flag && b) ≡ one b
one-and true b e = refl
one-and false b e = absurd cc

none-and : (flag b : Bool) → flag ≡ true → one (not flag && b) ≡ 0
none-and true b e = refl
none-and false b e = absurd cc

one-not : (flag b : Bool) → flag ≡ false → one (not flag && b) ≡ one b
one-not true b e = absurd cc
one-not false b e = refl

-- a request is sent for one that came
pub counted-request : (to : ConnId) (message : Message) (acts : List Act) (rows : List Row) → message.header.request ≡ true → Counted acts rows → Counted (sent to message ∷ acts) rows
counted-request to message acts rows flag c conn hop =
    let le = c conn hop in let none = none-and message.header.request (is_under conn hop to message) flag in omega arith

-- a row goes, and the rows with the same origin are as many
pub counted-same : (acts : List Act) (rows new : List Row) → ((to : ConnId) (hop : ℕ) → count_by (is_from to hop) new ≤ count_by (is_from to hop) rows) → Counted acts rows → Counted acts new
counted-same acts rows new fewer c to hop = let le = c to hop in let less = fewer to hop in omega arith

-- an answer goes out for a row that goes
pub counted-answer : (to : ConnId) (answer : Message) (row : Row) (others rows : List Row) (acts : List Act) → answer.header.request ≡ false → row.held.origin ≡ Some (record { conn = to; hop = answer.header.hop })
    → IsWith row others rows → Counted acts rows → Counted (sent to answer ∷ acts) others
counted-answer to answer row others rows acts flag from w c conn hop =
    let le = c conn hop in
    let whole = count-with (is_from conn hop) row others rows w in
    let its : one (is_from conn hop row) ≡ one (is_under conn hop to answer) = ap (λ (o : Option Origin). one (comes_from conn hop o)) from in
    let more = one-not answer.header.request (is_under conn hop to answer) flag in
    omega arith

pub is_from-orphaned : (ended : ConnId) (to : ConnId) (hop : ℕ) (o : Option Origin) → comes_from to hop (but_from ended o) ≡ true → comes_from to hop o ≡ true
is_from-orphaned ended to hop None e = e
is_from-orphaned ended to hop (Some origin) e = still (origin.conn.0 == ended.0) e
  where
    still : (b : Bool) → comes_from to hop (cond b None (Some origin)) ≡ true → comes_from to hop (Some origin) ≡ true
    still true f = absurd cc
    still false f = f

pub counted-orphans : (ended : ConnId) (acts : List Act) (rows : List Row) → Counted acts rows → Counted acts (without_origins ended rows)
counted-orphans ended acts rows c to hop =
    let le = c to hop in
    let same = count-map (is_from to hop) (orphaned ended) rows in
    let less = count-le (λ row. is_from to hop (orphaned ended row)) (is_from to hop) (λ row e. is_from-orphaned ended to hop row.held.origin e) rows in
    omega arith
