-- The jobs of a batch happen one after the other.
use Rattle.std.proofs.Common.{◌≡◌, ℕ, Bool, cond, List, [], ◌∷◌, Some, Result, Ok, Err, refl, sym, subst, ap, ◌∙◌}
use Rattle.dia_base.specs.declared.number.ConnId.{ConnId}
use Rattle.dia_base.specs.declared.number.Moment.{Moment}
use Rattle.dia_base.specs.declared.number.NodeNo.{NodeNo}
use Rattle.dia_message.specs.declared.message.Message.{Message}
use Rattle.cc_view.specs.RequestView.{view_under}
use Rattle.cc_book.specs.Taking.{Ledger}
use Rattle.cc_shared.specs.declared.asking.Asked.{Asked}
use Rattle.cc_shared.specs.declared.asking.Served.{Served}
use Rattle.cc_shared.specs.declared.error.ServeError.{ServeError}
use Rattle.cc_shared.specs.declared.error.ServeRefusal.{ServeRefusal}
use Rattle.cc_shared.specs.declared.error.ServeRefusal.TheVariants.{Full, OutOfMemory, Closed}
use Rattle.cc_shared.specs.declared.logged.Logged.{Logged}
use Rattle.cc_shared.specs.declared.receipt.Receipt.{Receipt}
use Rattle.cc_shared.specs.History.{SharedLedger, book_at}
use Rattle.cc_shared.specs.Serving.{ServesEach, ServesOne, count_after}
use Rattle.front_core.specs.FrontState.{FrontState}
use Rattle.front_core.specs.FrontStep.{too_busy}
use Rattle.front_pool.specs.declared.job.Job.{Job}
use Rattle.front_pool.specs.Charging.{answer_with}
use Rattle.farm_base.specs.declared.site.Site.{Site}
use Rattle.farm_model.specs.World.{front_at}
use Rattle.pool_law.specs.Batches.{AreInHand, HappensInARow, HasNone, by_result, by_why, comes_of}
use Rattle.pool_law.specs.ServedFarm.{Follows, Happening, PoolNow, ServedFarm, Work, in_hand, finished, with_answer, with_book, with_work}
use Rattle.pool_law.specs.ServedFarm.{serves, is_full}
use Rattle.pool_law.proofs.Pools.{pool_here}

module _ (site : Site) (shared : SharedLedger) (node : NodeNo) (front : FrontState) (written : Bool) where
  -- one job
  record Happens (old : ServedFarm) (conn : ConnId) (happening : Happening) (number : ℕ) (mid : List Logged) : Type 0 where
    answer : Message
    follows : Follows site old happening (with_answer (with_book old (book_at shared.opened mid)) node number conn answer written)

  one_happens : (old : ServedFarm) (asked : Asked Job) (count : ℕ) (before mid : List Logged) (result : Result Receipt ServeError)
      → front_at node old.world.fronts ≡ Some front → old.world.book ≡ book_at shared.opened before
      → (old.pools node).works asked.job.number ≡ in_hand asked.job.conn asked.job.request
      → view_under front.site.profile asked.job.request ≡ Ok asked.request → ServesOne shared count asked.moment asked.request before result mid
      → Happens old asked.job.conn (by_result node asked.job.number asked.moment written result) asked.job.number mid
  one_happens old asked count before mid (Ok receipt) there book held view one = record {
    answer = answer_with front.site asked.job.request receipt;
    follows = record {
      holds = record { at = record { front = front; there = there }; conn = asked.job.conn; message = asked.job.request; held = held };
      answer = answer_with front.site asked.job.request receipt;
      book = book_at shared.opened mid;
      has_it = serves asked.request shared count before mid receipt view book one;
      is = refl;
    };
  }
  one_happens old asked count before mid (Err error) there book held view one = go error.why refl
    where
      same : old.world.book ≡ book_at shared.opened mid
      same = book ∙ ap (book_at shared.opened) (sym one.3)

      not_changed : with_answer (with_book old (book_at shared.opened mid)) node asked.job.number asked.job.conn (too_busy front.site asked.job.request) written ≡
          with_answer old node asked.job.number asked.job.conn (too_busy front.site asked.job.request) written
      not_changed = ap (λ (b : Ledger). with_answer (with_book old b) node asked.job.number asked.job.conn (too_busy front.site asked.job.request) written) (sym same)

      go : (why : ServeRefusal) → error.why ≡ why →
          Happens old asked.job.conn (by_why node asked.job.number asked.moment written why) asked.job.number mid
      go (Full limit) is = record {
        answer = too_busy front.site asked.job.request;
        follows = record {
          holds = record { at = record { front = front; there = there }; conn = asked.job.conn; message = asked.job.request; held = held };
          answer = too_busy front.site asked.job.request;
          book = old.world.book;
          has_it = is_full asked.request shared count before mid error limit view book one is;
          is = not_changed;
        };
      }
      go OutOfMemory is = record {
        answer = too_busy front.site asked.job.request;
        follows = record {
          holds = record { at = record { front = front; there = there }; conn = asked.job.conn; message = asked.job.request; held = held };
          is = not_changed;
        };
      }
      go Closed is = record {
        answer = too_busy front.site asked.job.request;
        follows = record {
          holds = record { at = record { front = front; there = there }; conn = asked.job.conn; message = asked.job.request; held = held };
          is = not_changed;
        };
      }

  -- the others are in hand still
  still_in_hand : (pool : PoolNow) (number : ℕ) (work : Work) (others : List (Asked Job)) → HasNone number others → AreInHand front.site pool others →
      AreInHand front.site (with_work pool number work) others
  still_in_hand pool number work [] none held = tt
  still_in_hand pool number work (asked ∷ more) none held = (
    ap (λ (b : Bool). cond b work (pool.works asked.job.number)) none.0 ∙ held.0,
    held.1,
    held.2,
    still_in_hand pool number work more none.1 held.3,
  )

  pub happen_in_a_row : (asked : List (Asked Job)) (served : List (Served Job)) (old : ServedFarm) (count counted : ℕ) (before behind : List Logged)
      → front_at node old.world.fronts ≡ Some front → old.world.book ≡ book_at shared.opened before → AreInHand front.site (old.pools node) asked
      → ServesEach shared count before asked served behind counted → HappensInARow site shared old node written served behind
  happen_in_a_row [] [] old count counted before behind there book held each =
      record { new = old; happens = refl; book = book ∙ ap (book_at shared.opened) (sym each.0) }
  happen_in_a_row [] (served ∷ more) old count counted before behind there book held each = absurd each
  happen_in_a_row (asked ∷ others) [] old count counted before behind there book held each = absurd each
  happen_in_a_row (asked ∷ others) (served ∷ more) old count counted before behind there book held each =
      let mid = each.0 in
      let one = one_happens old asked count before mid served.result there book held.0 held.1 each.3 in
      let left = with_work (old.pools node) asked.job.number (finished asked.job.conn one.answer written) in
      let next : ServedFarm = with_answer (with_book old (book_at shared.opened mid)) node asked.job.number asked.job.conn one.answer written in
      let in_hand_then : AreInHand front.site (next.pools node) others =
      subst (λ (p : PoolNow). AreInHand front.site p others) (sym (pool_here old.pools node left))
      (still_in_hand (old.pools node) asked.job.number (finished asked.job.conn one.answer written) others held.2 held.3) in
      let rest = happen_in_a_row others more next (count_after count served.result) counted mid behind there refl in_hand_then each.4 in
      let first : by_result node asked.job.number asked.moment written served.result ≡ comes_of node written served =
      ap (λ (j : Job). by_result node j.number asked.moment written served.result) (sym each.1)
      ∙ ap (λ (m : Moment). by_result node served.job.number m written served.result) (sym each.2) in
      record {
        new = rest.new;
        happens = (next, subst (λ (h : Happening). Follows site old h next) first one.follows, rest.happens);
        book = rest.book;
      }
