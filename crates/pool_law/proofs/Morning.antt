-- The morning of the worked example, one thing after the other.
use Rattle.std.proofs.Common.{ℕ, true, [], ◌∷◌, ◌++◌, refl, arith}
use Rattle.std.specs.Prelude.{codes, unwrap_or}
use Rattle.dia_base.specs.declared.number.ConnId.{ConnId}
use Rattle.dia_message.specs.declared.message.Message.{Message}
use Rattle.cc_book.specs.Taking.{Ledger}
use Rattle.cc_book.proofs.Keys.{IsLegal-empty}
use Rattle.front_core.specs.declared.site.FrontSite.{FrontSite}
use Rattle.front_core.specs.FrontState.{FrontState, new_front}
use Rattle.front_core.specs.FrontStep.{too_busy, without_connection}
use Rattle.farm_base.specs.declared.step.Step.TheVariants as step
use Rattle.farm_base.specs.RowSite.{c1, f1, f2}
use Rattle.farm_model.specs.FarmStep.{Flight, after_send, after_up, flight_at}
use Rattle.farm_model.specs.Loss.{after_crash, after_end, all_know, learns}
use Rattle.farm_model.specs.Run.{empty_book, front_site}
use Rattle.farm_model.specs.World.{WorldState, front_at, with_front, with_traffic_from}
use Rattle.pool_law.specs.ServedExample.{a_morning, debit, narrow_site, second}
use Rattle.pool_law.specs.ServedFarm.{CanHappen, Charges, Dies, HandsOut, HandsOver, HappensElsewhere, HasIt, ServedFarm, Takes, TurnsAway, in_hand, job_of, new_pool}
use Rattle.pool_law.specs.ServedFarm.{new_served, nothing, sent_for, with_answer, with_book, with_flights, with_pool_at, with_waiting, with_work}
use Rattle.pool_law.proofs.Having.{had, left_legal}

abbrev the_site : FrontSite
the_site = front_site narrow_site (codes "f1.example")

abbrev conn : ConnId
conn = record { 0 = 1 }

-- f1 as it stands
abbrev front_now : ServedFarm → FrontState
front_now s = unwrap_or (front_at f1 s.world.fronts) (new_front the_site)

-- the first message on its way to it
abbrev flight_now : ServedFarm → Flight
flight_now s = unwrap_or (flight_at s.world.directions c1 f1 0) (record { conn = conn; message = debit 0; directions = [] })

abbrev sent : ServedFarm → Message → ServedFarm
sent s message = record s { world = unwrap_or (after_send narrow_site s.world c1 f1 message) s.world }

abbrev handed_over : ServedFarm → ℕ → ServedFarm
handed_over s number = with_pool_at (with_flights s (flight_now s).directions) f1
    (with_waiting (s.pools f1) ((s.pools f1).waiting ++ job_of number (flight_now s) ∷ []))

abbrev handed_out : ServedFarm → ℕ → Message → ServedFarm
handed_out s number answer = with_pool_at (with_flights s (with_traffic_from f1 s.world.directions (sent_for (front_now s) conn answer))) f1
    (with_work (s.pools f1) number nothing)

module _ (one two : Message) (after_one after_two : Ledger) (has_one : HasIt the_site (empty_book narrow_site) (second 1) (debit 7) one after_one)
    (has_two : HasIt the_site after_one (second 2) (debit 9) two after_two) where
  abbrev up : ServedFarm
  up = record (new_served narrow_site) { world = unwrap_or (after_up narrow_site (new_served narrow_site).world c1 f1) (new_served narrow_site).world }

  abbrev waits : ServedFarm
  waits = handed_over (sent up (debit 7)) 1

  abbrev turned_away : ServedFarm
  turned_away =
      let s = sent waits (debit 8) in
      with_flights s (with_traffic_from f1 (flight_now s).directions (((flight_now s).conn, too_busy the_site (flight_now s).message) ∷ []))

  abbrev taken : ServedFarm
  taken = with_pool_at turned_away f1 (with_work (with_waiting (turned_away.pools f1) []) 1 (in_hand conn (debit 7)))

  abbrev charged : ServedFarm
  charged = with_answer (with_book taken after_one) f1 1 conn one true

  abbrev waits_again : ServedFarm
  waits_again = handed_over (sent charged (debit 9)) 2

  abbrev taken_again : ServedFarm
  taken_again = with_pool_at waits_again f1 (with_work (with_waiting (waits_again.pools f1) []) 2 (in_hand conn (debit 9)))

  abbrev charged_again : ServedFarm
  charged_again = with_answer (with_book taken_again after_two) f1 2 conn two true

  abbrev answered : ServedFarm
  answered = handed_out charged_again 2 two

  abbrev left : WorldState
  left = after_end answered.world f1 conn

  abbrev dropped : ServedFarm
  dropped = record answered { world = record left { fronts = with_front f1 (without_connection (front_now answered) conn) left.fronts } }

  abbrev forgotten : ServedFarm
  forgotten = handed_out dropped 1 one

  abbrev died : ServedFarm
  died = with_pool_at (record forgotten { world = after_crash forgotten.world f1 }) f1 new_pool

  abbrev all_died : ServedFarm
  all_died = with_pool_at (record died { world = after_crash died.world f2 }) f2 new_pool

  goes_up : HappensElsewhere narrow_site (new_served narrow_site) (step.Up c1 f1) up
  goes_up = record { of_no_front = tt; world = up.world; losses = []; goes = ((refl, refl), refl); is = refl }

  sends_first : HappensElsewhere narrow_site up (step.Send c1 f1 (debit 7)) (sent up (debit 7))
  sends_first = record { of_no_front = tt; world = (sent up (debit 7)).world; losses = []; goes = ((refl, refl), refl); is = refl }

  first_waits : HandsOver narrow_site (sent up (debit 7)) c1 f1 0 1 waits
  first_waits = record {
    asks = record {
      comes = record { is_one = refl; at = record { front = front_now up; there = refl }; flight = flight_now (sent up (debit 7)); flies = refl };
      up = refl;
      request = refl;
    };
    room = omega arith;
    is = refl;
  }

  sends_second : HappensElsewhere narrow_site waits (step.Send c1 f1 (debit 8)) (sent waits (debit 8))
  sends_second = record { of_no_front = tt; world = (sent waits (debit 8)).world; losses = []; goes = ((refl, refl), refl); is = refl }

  second_is_turned_away : TurnsAway narrow_site (sent waits (debit 8)) c1 f1 0 turned_away
  second_is_turned_away = record {
    asks = record {
      comes = record { is_one = refl; at = record { front = front_now waits; there = refl }; flight = flight_now (sent waits (debit 8)); flies = refl };
      up = refl;
      request = refl;
    };
    full = omega arith;
    is = refl;
  }

  first_is_taken : Takes turned_away f1 1 taken
  first_is_taken = record {
    at = record { front = front_now turned_away; there = refl };
    conn = conn;
    request = debit 7;
    behind = [];
    first = refl;
    alone = refl;
    is = refl;
  }

  first_is_charged : Charges taken f1 1 (second 1) true charged
  first_is_charged = record {
    holds = record { at = record { front = front_now taken; there = refl }; conn = conn; message = debit 7; held = refl };
    answer = one;
    book = after_one;
    has_it = has_one;
    is = refl;
  }

  sends_again : HappensElsewhere narrow_site charged (step.Send c1 f1 (debit 9)) (sent charged (debit 9))
  sends_again = record { of_no_front = tt; world = (sent charged (debit 9)).world; losses = []; goes = ((refl, refl), refl); is = refl }

  again_waits : HandsOver narrow_site (sent charged (debit 9)) c1 f1 0 2 waits_again
  again_waits = record {
    asks = record {
      comes = record { is_one = refl; at = record { front = front_now charged; there = refl }; flight = flight_now (sent charged (debit 9)); flies = refl };
      up = refl;
      request = refl;
    };
    room = omega arith;
    is = refl;
  }

  again_is_taken : Takes waits_again f1 2 taken_again
  again_is_taken = record {
    at = record { front = front_now waits_again; there = refl };
    conn = conn;
    request = debit 9;
    behind = [];
    first = refl;
    alone = refl;
    is = refl;
  }

  again_is_charged : Charges taken_again f1 2 (second 2) true charged_again
  again_is_charged = record {
    holds = record { at = record { front = front_now taken_again; there = refl }; conn = conn; message = debit 9; held = refl };
    answer = two;
    book = after_two;
    has_it = has_two;
    is = refl;
  }

  again_is_answered : HandsOut charged_again f1 2 answered
  again_is_answered = record { done = record { at = record { front = front_now charged_again; there = refl }; conn = conn; answer = two; held = refl }; is = refl }

  is_dropped : HappensElsewhere narrow_site answered (step.Drop f1 c1) dropped
  is_dropped = record {
    of_no_front = tt;
    world = dropped.world;
    losses = record { loss = record { node = f1; conn = conn }; before = left } ∷ [];
    goes = (refl, learns refl all_know);
    is = refl;
  }

  first_is_forgotten : HandsOut dropped f1 1 forgotten
  first_is_forgotten = record { done = record { at = record { front = front_now dropped; there = refl }; conn = conn; answer = one; held = refl }; is = refl }

  one_dies : Dies narrow_site forgotten f1 died
  one_dies = record { is_one = refl; at = record { front = front_now forgotten; there = refl }; is = refl }

  other_dies : Dies narrow_site died f2 all_died
  other_dies = record { is_one = refl; at = record { front = _; there = refl }; is = refl }

  pub morning : CanHappen narrow_site a_morning
  morning = record {
    served = all_died;
    serves = (
      up,
      goes_up,
      (
        sent up (debit 7),
        sends_first,
        (
          waits,
          first_waits,
          (
            sent waits (debit 8),
            sends_second,
            (
              turned_away,
              second_is_turned_away,
              (
                taken,
                first_is_taken,
                (
                  charged,
                  first_is_charged,
                  (
                    sent charged (debit 9),
                    sends_again,
                    (
                      waits_again,
                      again_waits,
                      (
                        taken_again,
                        again_is_taken,
                        (
                          charged_again,
                          again_is_charged,
                          (
                            answered,
                            again_is_answered,
                            (
                              dropped,
                              is_dropped,
                              (forgotten, first_is_forgotten, (died, one_dies, (all_died, other_dies, refl))),
                            ),
                          ),
                        ),
                      ),
                    ),
                  ),
                ),
              ),
            ),
          ),
        ),
      ),
    );
  }

pub morning_happens : CanHappen narrow_site a_morning
morning_happens =
    let legal = IsLegal-empty (empty_book narrow_site).terms in
    let first = had the_site (empty_book narrow_site) (second 1) (debit 7) legal in
    let then = left_legal the_site (empty_book narrow_site) (second 1) (debit 7) first.answer first.left legal first.has_it in
    let again = had the_site first.left (second 2) (debit 9) then in
    morning first.answer again.answer first.left again.left first.has_it again.has_it
