-- What may happen at a front next.
use Rattle.std.proofs.Common.{◌≡◌, ℕ, Bool, true, false, ◌&&◌, ◌⊎◌, [], ◌∷◌, ◌++◌, length, MatchBool, inl, inr, refl, ap, ◌∙◌}
use Rattle.std.proofs.lemmas.Bool.{cases_lt}
use Rattle.dia_base.specs.declared.number.Moment.{Moment}
use Rattle.dia_base.specs.declared.number.NodeNo.{NodeNo}
use Rattle.cc_book.specs.History.{IsLegal}
use Rattle.front_core.specs.FrontStep.{too_busy}
use Rattle.farm_base.specs.declared.site.Site.{Site}
use Rattle.farm_base.specs.Nodes.{is_front}
use Rattle.farm_model.specs.Loss.{after_crash}
use Rattle.farm_model.specs.World.{with_traffic_from}
use Rattle.pool_law.specs.ServedFarm.{Comes, Holds, IsFinished, May, ServedFarm, Stands, is_up, job_of, new_pool, nothing, sent_for, with_answer, with_book}
use Rattle.pool_law.specs.ServedFarm.{with_flights, with_pool_at, with_waiting, with_work}
use Rattle.pool_law.specs.ServedFarm.{charges, dies, finds_busy, goes_unanswered, hands_out, hands_over, ignores, turns_away}
use Rattle.pool_law.proofs.Having.{had}

module _ (site : Site) (old : ServedFarm) (from node : NodeNo) (place number : ℕ) (comes : Comes site old from node place) where
  abbrev Any : Type 0
  Any = May site old (ignores from node place) ⊎ (May site old (hands_over from node place number) ⊎ May site old (turns_away from node place))

  ignored : (is_up comes.at.front comes.flight && comes.flight.message.header.request) ≡ false → Any
  ignored none = inl (with_flights old comes.flight.directions, record { comes = comes; no_request = none; is = refl })

  asked : is_up comes.at.front comes.flight ≡ true → comes.flight.message.header.request ≡ true → Any
  asked up request =
      elim (cases_lt (length (old.pools node).waiting) comes.at.front.site.queue) as (λ _. Any) [
        | inl room ↦ inr (inl (
          with_pool_at (with_flights old comes.flight.directions) node
              (with_waiting (old.pools node) ((old.pools node).waiting ++ job_of number comes.flight ∷ [])),
          record { asks = record { comes = comes; up = up; request = request }; room = room; is = refl },
        ))
        | inr full ↦ inr (inr (
          with_flights old (with_traffic_from node comes.flight.directions
              ((comes.flight.conn, too_busy comes.at.front.site comes.flight.message) ∷ [])),
          record { asks = record { comes = comes; up = up; request = request }; full = full; is = refl },
        ))
      ]

  pub goes_somewhere : Any
  goes_somewhere = go (is_up comes.at.front comes.flight) (comes.flight.message.header.request) refl refl
    where
      go : (up request : Bool) → is_up comes.at.front comes.flight ≡ up → comes.flight.message.header.request ≡ request → Any
      go true true u r = asked u r
      go true false u r =
          ignored (ap (λ (b : Bool). b && comes.flight.message.header.request) u ∙ r)
      go false request u r = ignored (ap (λ (b : Bool). b && comes.flight.message.header.request) u)

pub in_hand_goes_on : (site : Site) (old : ServedFarm) (node : NodeNo) (number : ℕ) (moment : Moment) (written : Bool) →
    IsLegal old.world.book.terms old.world.book.history → Holds old node number → May site old (charges node number moment written) ×
    May site old (finds_busy node number written)
in_hand_goes_on site old node number moment written legal holds =
    let have = had holds.at.front.site old.world.book moment holds.message legal in (
      (
        with_answer (with_book old have.left) node number holds.conn have.answer written,
        record { holds = holds; answer = have.answer; book = have.left; has_it = have.has_it; is = refl },
      ),
      (
        with_answer old node number holds.conn (too_busy holds.at.front.site holds.message) written,
        record { holds = holds; is = refl },
      ),
    )

pub finished_goes_on : (site : Site) (old : ServedFarm) (node : NodeNo) (number : ℕ) (written : Bool) → IsFinished old node number written → MatchBool written
    (May site old (hands_out node number)) (May site old (goes_unanswered node number))
finished_goes_on site old node number true done = (
  with_pool_at (with_flights old (with_traffic_from node old.world.directions (sent_for done.at.front done.conn done.answer))) node
      (with_work (old.pools node) number nothing),
  record { done = done; is = refl },
)
finished_goes_on site old node number false done = (old, record { done = done; is = refl })

pub may_die : (site : Site) (old : ServedFarm) (node : NodeNo) → is_front site node ≡ true → Stands old node → May site old (dies node)
may_die site old node is at = (
  with_pool_at (record old { world = after_crash old.world node }) node new_pool,
  record { is_one = is; at = at; is = refl },
)
