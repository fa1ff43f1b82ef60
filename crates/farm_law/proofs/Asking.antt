-- How what was asked goes over to the farm after a move.
use Rattle.std.proofs.Common.{◌≡◌, Bool, false, List, inl, inr, Option, Some, None, refl, subst}
use Rattle.dia_base.specs.declared.number.ConnId.{ConnId}
use Rattle.dia_base.specs.declared.number.NodeNo.{NodeNo}
use Rattle.dia_message.specs.declared.message.Message.{Message}
use Rattle.dia_message.specs.Traffic.{Traffic}
use Rattle.farm_law.specs.Farm.{Asker, PendingRow}
use Rattle.farm_law.specs.Invariant.{Asks, Stems, IsAsked}
use Rattle.farm_law.specs.Lists.{Has, Without}
use Rattle.farm_law.specs.Parties.{Parties}
use Rattle.farm_law.proofs.Lists.{Has-split}

module _ (p : Parties) where
  pub Asks-map : {has_ended : NodeNo → ConnId → Bool} {rows : List PendingRow} {sent : Traffic} {conn : ConnId} {node : NodeNo}
      {P Q : Message → Type 0} → ((message : Message) → P message → Q message) → Asks p has_ended rows sent conn node P →
      Asks p has_ended rows sent conn node Q
  Asks-map f a = record {
    client = λ k. let t = a.client k in (t.0, t.1, t.2, f t.0 t.3);
    relay = λ k live. let t = a.relay k live in (t.0, t.1, t.2, t.3, f t.0.request t.4);
  }

  -- more is sent, more connections end, and for each row there is one with the same request
  pub Asks-grows : {has_ended ends : NodeNo → ConnId → Bool} {rows next_rows : List PendingRow} {sent next_sent : Traffic} {conn : ConnId}
      {node : NodeNo} {P : Message → Type 0} →
      ((item : ConnId × Message) → Has item sent → Has item next_sent) →
      ((n : NodeNo) (c : ConnId) → ends n c ≡ false → has_ended n c ≡ false) →
      (ends node conn ≡ false → (row : PendingRow) → Has row rows → row.conn ≡ conn → row.relay ≡ node → P row.request →
      (next : PendingRow) × Has next next_rows × (next.conn ≡ conn) × (next.relay ≡ node) × P next.request) →
      Asks p has_ended rows sent conn node P → Asks p ends next_rows next_sent conn node P
  Asks-grows {conn = conn} {node = node} f g go a = record {
    client = λ k. let t = a.client k in (t.0, f _ t.1, t.2, t.3);
    relay = λ k live. let t = a.relay k (g node conn live) in go live t.0 t.1 t.2 t.3 t.4;
  }

  pub Asks-sent : {has_ended : NodeNo → ConnId → Bool} {rows : List PendingRow} {sent next_sent : Traffic} {conn : ConnId} {node : NodeNo}
      {P : Message → Type 0} → ((item : ConnId × Message) → Has item sent → Has item next_sent) →
      Asks p has_ended rows sent conn node P → Asks p has_ended rows next_sent conn node P
  Asks-sent f a = Asks-grows f (λ n c e. e) (λ live row h u v t. (row, h, u, v, t)) a

  pub Asks-ends : {has_ended ends : NodeNo → ConnId → Bool} {rows : List PendingRow} {sent : Traffic} {conn : ConnId} {node : NodeNo}
      {P : Message → Type 0} → ((n : NodeNo) (c : ConnId) → ends n c ≡ false → has_ended n c ≡ false) →
      Asks p has_ended rows sent conn node P → Asks p ends rows sent conn node P
  Asks-ends g a = Asks-grows (λ item h. h) g (λ live row h u v t. (row, h, u, v, t)) a

  pub Asks-rows : {has_ended : NodeNo → ConnId → Bool} {rows next_rows : List PendingRow} {sent : Traffic} {conn : ConnId} {node : NodeNo}
      {P : Message → Type 0} →
      (has_ended node conn ≡ false → (row : PendingRow) → Has row rows → row.conn ≡ conn → row.relay ≡ node → Has row next_rows) →
      Asks p has_ended rows sent conn node P → Asks p has_ended next_rows sent conn node P
  Asks-rows f a = Asks-grows (λ item h. h) (λ n c e. e) (λ live row h u v t. (row, f live row h u v, u, v, t)) a

  -- a row is gone by which none of this was asked
  pub Asks-less : {has_ended : NodeNo → ConnId → Bool} {rows next_rows : List PendingRow} {row : PendingRow} {sent : Traffic} {conn : ConnId}
      {node : NodeNo} {P : Message → Type 0} → Without row rows next_rows →
      (has_ended node conn ≡ false → row.conn ≡ conn → row.relay ≡ node → P row.request → ⊥) → Asks p has_ended rows sent conn node P →
      Asks p has_ended next_rows sent conn node P
  Asks-less {conn = conn} {node = node} {P = P} w never a = Asks-grows (λ item h. h) (λ n c e. e) (λ live one h u v t.
      elim (Has-split w h) [
        | inl e ↦ absurd (never live (subst (λ (z : PendingRow). z.conn ≡ conn) e u) (subst (λ (z : PendingRow). z.relay ≡ node) e v)
            (subst (λ (z : PendingRow). P z.request) e t))
        | inr g ↦ (one, g, u, v, t)
      ]) a

pub IsAsked-map : (p : Parties) {has_ended ends : NodeNo → ConnId → Bool} {rows next_rows : List PendingRow} {sent next_sent : Traffic}
    {request next_request : Message} (asker : Option Asker) →
    ((one : Asker) → asker ≡ Some one → Asks p has_ended rows sent one.conn one.node (Stems one request) →
    Asks p ends next_rows next_sent one.conn one.node (Stems one next_request)) →
    IsAsked p has_ended rows sent request asker → IsAsked p ends next_rows next_sent next_request asker
IsAsked-map p None f a = tt
IsAsked-map p (Some one) f a = f one refl a
