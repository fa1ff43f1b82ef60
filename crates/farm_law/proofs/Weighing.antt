-- What single places count.
use Rattle.std.proofs.Common.{◌≡◌, ℕ, ◌+◌, ◌≤◌, Bool, true, false, cond, not, ◌&&◌, ◌||◌, eqb, List, ◌⊎◌, inl, inr, refl, arith, sym, subst, ap, ◌∙◌, eq-eqb}
use Rattle.std.specs.List.{count_by}
use Rattle.std.proofs.lemmas.Bool.{and_parts, eqb-true}
use Rattle.dia_base.specs.declared.number.ConnId.{ConnId}
use Rattle.dia_base.specs.declared.number.NodeNo.{NodeNo}
use Rattle.dia_base.proofs.Counting.{one}
use Rattle.farm_law.specs.Counts.{Class, with_hop, with_both, item_in, row_in}
use Rattle.farm_law.specs.Farm.{Item, PendingRow, waiting_node}
use Rattle.farm_law.specs.Parties.{Parties}

pub clash : {b : Bool} → b ≡ true → b ≡ false → ⊥
clash e f = cc

pub same_conn : (a b : ConnId) → eqb a.0 b.0 ≡ true → a ≡ b
same_conn a b e = ap (λ (n : ℕ). record { 0 = n }) (eqb-true a.0 b.0 e)

pub same_node : (a b : NodeNo) → eqb a.0 b.0 ≡ true → a ≡ b
same_node a b e = ap (λ (n : ℕ). record { 0 = n }) (eqb-true a.0 b.0 e)

and_le : (a b : Bool) → one (a && b) ≤ one b
and_le true b = omega arith
and_le false b = omega arith

-- where a test can be true only if something false is, it counts nothing
pub none_if : (b : Bool) → (b ≡ true → ⊥) → one b ≡ 0
none_if true h = absurd (h refl)
none_if false h = refl

-- ---- the node that waits

pub waiting_request : (item : Item) → item.message.header.request ≡ true → waiting_node item ≡ item.from
waiting_request item e = ap (λ (b : Bool). cond b item.from item.to) e

pub waiting_answer : (item : Item) → item.message.header.request ≡ false → waiting_node item ≡ item.to
waiting_answer item e = ap (λ (b : Bool). cond b item.from item.to) e

-- ---- what a message on its way counts

pub weight_request : (p : Parties) (class : Class) (item : Item) → item.message.header.request ≡ true →
    item_in p class item ≡ class item.conn item.from item.message.header.hop item.message.header.end
weight_request p class item e =
    ap (λ (b : Bool). (b || not (p.is_client item.from)) && class item.conn (cond b item.from item.to) item.message.header.hop item.message.header.end) e

pub weight_answer : (p : Parties) (class : Class) (item : Item) → item.message.header.request ≡ false → p.is_client item.from ≡ false →
    item_in p class item ≡ class item.conn item.to item.message.header.hop item.message.header.end
weight_answer p class item e f =
    ap (λ (b : Bool). (b || not (p.is_client item.from)) && class item.conn (cond b item.from item.to) item.message.header.hop item.message.header.end) e
    ∙ ap (λ (b : Bool). not b && class item.conn item.to item.message.header.hop item.message.header.end) f

-- either of them, where it stands for something
pub weight_any : (p : Parties) (class : Class) (item : Item) → (item.message.header.request ≡ true) ⊎ (p.is_client item.from ≡ false) →
    item_in p class item ≡ class item.conn (waiting_node item) item.message.header.hop item.message.header.end
weight_any p class item (inl e) =
    ap (λ (b : Bool). (b || not (p.is_client item.from)) && class item.conn (waiting_node item) item.message.header.hop item.message.header.end) e
weight_any p class item (inr f) = go item.message.header.request (p.is_client item.from) _ f
  where
    go : (b c d : Bool) → c ≡ false → (b || not c) && d ≡ d
    go true c d f = refl
    go false c d f = ap (λ (t : Bool). not t && d) f

pub weight_most : (p : Parties) (class : Class) (item : Item) →
    one (item_in p class item) ≤ one (class item.conn (waiting_node item) item.message.header.hop item.message.header.end)
weight_most p class item = and_le _ _

-- ---- the two classes

pub with_hop-at : (conn : ConnId) (node : NodeNo) (hop : ℕ) {c : ConnId} {n : NodeNo} {h : ℕ} (e : ℕ) → c ≡ conn → n ≡ node → h ≡ hop →
    with_hop conn node hop c n h e ≡ true
with_hop-at conn node hop {c} {n} {h} e same_c same_n same_h =
    rw (eq-eqb c.0 conn.0 (ap (λ (x : ConnId). x.0) same_c), eq-eqb n.0 node.0 (ap (λ (x : NodeNo). x.0) same_n), eq-eqb h hop same_h) refl

pub with_hop-is : (conn : ConnId) (node : NodeNo) (hop : ℕ) (c : ConnId) (n : NodeNo) (h e : ℕ) → with_hop conn node hop c n h e ≡ true →
    (c ≡ conn) × (n ≡ node) × (h ≡ hop)
with_hop-is conn node hop c n h e t =
    let a = and_parts (eqb c.0 conn.0 && eqb n.0 node.0) (eqb h hop) t in
    let b = and_parts (eqb c.0 conn.0) (eqb n.0 node.0) a.0 in
    (same_conn c conn b.0, same_node n node b.1, eqb-true h hop a.1)

-- what stands at a node that is no client counts for no client
pub other_node : (p : Parties) (conn : ConnId) (node : NodeNo) (hop end : ℕ) (c : ConnId) (n : NodeNo) (h e : ℕ) →
    p.is_client node ≡ true → p.is_client n ≡ false → one (with_both conn node hop end c n h e) ≡ 0
other_node p conn node hop end c n h e client no_client = none_if _ (λ t.
    let a = and_parts (with_hop conn node hop c n h e) (eqb e end) t in
    let b = with_hop-is conn node hop c n h e a.0 in
    clash (ap p.is_client b.1 ∙ client) no_client)

-- what stands on a connection that has ended counts for none that has not
pub other_conn : (has_ended : NodeNo → ConnId → Bool) (conn : ConnId) (node : NodeNo) (hop : ℕ) (c : ConnId) (n : NodeNo) (h e : ℕ) →
    has_ended node conn ≡ false → has_ended n c ≡ true → one (with_hop conn node hop c n h e) ≡ 0
other_conn has_ended conn node hop c n h e live gone = none_if _ (λ t.
    let k = with_hop-is conn node hop c n h e t in
    clash (ap (λ (m : NodeNo). has_ended m conn) (sym k.1) ∙ ap (λ (x : ConnId). has_ended n x) (sym k.0) ∙ gone) live)

-- an identifier that was free is in use once
pub single-more : (rows : List PendingRow) (conn : ConnId) (node : NodeNo) (hop : ℕ) (c : ConnId) (n : NodeNo) (h e : ℕ) →
    count_by (row_in (with_hop conn node hop)) rows ≤ 1 → count_by (row_in (with_hop c n h)) rows ≡ 0 →
    one (with_hop conn node hop c n h e) + count_by (row_in (with_hop conn node hop)) rows ≤ 1
single-more rows conn node hop c n h e most free = go (with_hop conn node hop c n h e) refl
  where
    go : (b : Bool) → with_hop conn node hop c n h e ≡ b → one b + count_by (row_in (with_hop conn node hop)) rows ≤ 1
    go false t = omega arith
    go true t =
        let k = with_hop-is conn node hop c n h e t in
        let z : count_by (row_in (with_hop conn node hop)) rows ≡ 0 =
        subst (λ (x : ConnId). count_by (row_in (with_hop x node hop)) rows ≡ 0) k.0
        (subst (λ (x : NodeNo). count_by (row_in (with_hop c x hop)) rows ≡ 0) k.1
        (subst (λ (x : ℕ). count_by (row_in (with_hop c n x)) rows ≡ 0) k.2 free)) in
        omega arith
