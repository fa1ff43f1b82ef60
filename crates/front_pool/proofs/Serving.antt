-- Jobs that a worker takes and finishes.
use Rattle.std.proofs.Common.{◌≡◌, ℕ, ◌+◌, List, [], ◌∷◌, ◌++◌, length, Some, None, Option, Result, Ok, Err, Bool, true, false, arith, refl, sym, subst, ap, ◌∙◌, append-nil, append_assoc}
use Rattle.std.specs.Prelude.{All, IfOk, IfSome, map, sum_by}
use Rattle.std.proofs.lemmas.List.Elements.{All-append, All-cons, All-head, All-nil, All-tail}
use Rattle.std.proofs.lemmas.List.Sums.{sum_by-append, sum_by-cons}
use Rattle.dia_base.specs.declared.number.Moment.{Moment}
use Rattle.dia_base.specs.declared.number.NodeNo.{NodeNo}
use Rattle.dia_message.specs.declared.message.Message.{Message}
use Rattle.cc_view.specs.Answer.{answer_to}
use Rattle.cc_view.specs.RequestView.{view_under}
use Rattle.cc_shared.specs.declared.asking.Asked.{Asked}
use Rattle.cc_shared.specs.declared.asking.Served.{Served}
use Rattle.cc_shared.specs.declared.error.ServeError.{ServeError}
use Rattle.cc_shared.specs.declared.logged.Logged.{Logged}
use Rattle.cc_shared.specs.declared.receipt.Receipt.{Receipt}
use Rattle.cc_shared.specs.History.{SharedLedger}
use Rattle.cc_shared.specs.Receipts.{IsReceiptOf}
use Rattle.cc_shared.specs.Serving.{ServesAll, ServesEach, ServesOne, count_after, count_if, in_order, is_closed, refused_closed}
use Rattle.front_core.specs.declared.preparing.Prepared.{Prepared}
use Rattle.front_core.specs.declared.preparing.Prepared.TheVariants.{Refused}
use Rattle.front_core.specs.Charging.{preparation_of}
use Rattle.front_pool.specs.declared.job.Finished.{Finished}
use Rattle.front_pool.specs.declared.job.Job.{Job}
use Rattle.front_pool.specs.declared.site.PoolSite.{PoolSite}
use Rattle.front_pool.specs.Answering.{Answers, AreServed, IsAnswered, IsAnsweredBy, IsAnsweredByOne, IsAskedOf, IsServedAt, answered, is_too_busy, serves, too_busy}
use Rattle.front_pool.specs.Counting.{counted_with, takes_of, takes_served, takes_told}
use Rattle.front_pool.specs.Jobs.{job_of}
use Rattle.front_pool.proofs.Refused.{refused}
use Rattle.front_pool.specs.Working.{AsksAll, HandsIn, ReadsAll, TakesMore, Turns, TurnsOver, WorksOff, with_counted, with_jobs_finished, with_jobs_taken}

-- what is answered in the name of the front that it names is answered in the name of this one, which it is
pub by_front :
    (front : NodeNo) (sites : NodeNo → PoolSite) (shared : SharedLedger) (finished : Finished) → finished.front ≡ front → IsAnsweredByOne sites shared finished
    → IsAnsweredBy front sites shared finished
by_front front sites shared finished is answered = (is, subst (λ (n : NodeNo). IsAnswered (sites n) shared finished) is answered)

-- ---- what one job is answered

pub busy_answered :
    (sites : NodeNo → PoolSite) (shared : SharedLedger) (front : NodeNo) (site : PoolSite) (job : Job) (answer : Option Message) (moment : Option Moment)
    (finished : Finished) → site ≡ sites front → IfSome answer (λ written. written ≡ too_busy site job.request)
    → finished ≡ answered front job answer None moment → IsAnsweredByOne sites shared finished
busy_answered sites shared front site job answer moment finished same busy is =
    subst (IsAnsweredByOne sites shared) (sym is)
    (is_too_busy answer (subst (λ (s : PoolSite). IfSome answer (λ written. written ≡ too_busy s job.request)) same busy))

pub served_answered :
    (sites : NodeNo → PoolSite) (shared : SharedLedger) (front : NodeNo) (site : PoolSite) (job : Job) (receipt : Receipt) (answer : Option Message)
    (moment : Option Moment) (finished : Finished) → site ≡ sites front
    → (view_under (sites front).profile job.request ≡ Ok receipt.request) × IsReceiptOf shared receipt
    → IfSome answer (λ written. written ≡ answer_to site.name site.realm job.request receipt.request receipt.reply)
    → finished ≡ answered front job answer (Some receipt) moment → IsAnsweredByOne sites shared finished
served_answered sites shared front site job receipt answer moment finished same at written is =
    subst (IsAnsweredByOne sites shared) (sym is)
    (serves answer receipt at.0 at.1
    (subst (λ (s : PoolSite). IfSome answer (λ w. w ≡ answer_to s.name s.realm job.request receipt.request receipt.reply)) same written))

pub refused_reads :
    (sites : NodeNo → PoolSite) (shared : SharedLedger) (front : NodeNo) (site : PoolSite) (job : Job) (refusal : Message) (prepared : Prepared)
    (finished : Finished) → site ≡ sites front → prepared ≡ Refused refusal
    → prepared ≡ preparation_of site.name site.realm job.request (view_under site.profile job.request)
    → finished ≡ answered front job (Some refusal) None None
    → (job_of finished ≡ job) × IsAnsweredByOne sites shared finished × (finished.receipt ≡ None) × (finished.moment ≡ None)
refused_reads sites shared front site job refusal prepared finished same refused_is prepares is =
    let answers = refused site shared job.request refusal prepared refused_is prepares in
    let answered_so = subst (λ (s : PoolSite). Answers s shared job.request (Some refusal) None) same answers in
    (ap job_of is, subst (IsAnsweredByOne sites shared) (sym is) answered_so, ap (λ (f : Finished). f.receipt) is, ap (λ (f : Finished). f.moment) is)

-- a job without a receipt tells of no take
pub tells_no_take : (finished : Finished) → finished.receipt ≡ None → takes_of finished ≡ 0
tells_no_take finished none = ap (λ (r : Option Receipt). counted_with 0 r) none

pub if_ok : {A E : Type 0} {P Q : A → Type 0} (r : Result A E) → IfOk r P → ((x : A) → P x → Q x) → IfOk r Q
if_ok (Ok x) p then = then x p
if_ok (Err e) p then = tt

-- ---- what the book has answered

at_one :
    (site : PoolSite) (shared : SharedLedger) (count : ℕ) (before mid : List Logged) (job : Job) (asked : Asked Job) (result : Result Receipt ServeError)
    → IsAskedOf site asked → job ≡ asked.job → ServesOne shared count asked.moment asked.request before result mid
    → IfOk result (λ receipt. (view_under site.profile job.request ≡ Ok receipt.request) × IsReceiptOf shared receipt)
at_one site shared count before mid job asked (Ok receipt) asks same one =
    (ap (λ (j : Job). view_under site.profile j.request) same ∙ asks ∙ ap Ok (sym one.0), one.1.stands)
at_one site shared count before mid job asked (Err error) asks same one = tt

-- The same jobs were asked and served, each as its message is read, and the seat has counted what their receipts tell of.
record Fits (site : PoolSite) (shared : SharedLedger) (count : ℕ) (asked : List (Asked Job)) (served : List (Served Job)) (counted : ℕ) : Type 0 where
  same : (weight : Job → ℕ) → sum_by (λ one. weight one.job) asked ≡ sum_by (λ one. weight one.job) served
  served_at : All (IsServedAt site shared) served
  counts : counted ≡ count + sum_by takes_served served

counted_if : (fresh : Bool) (count : ℕ) → count_if fresh count ≡ count + count_if fresh 0
counted_if true count = omega arith
counted_if false count = omega arith

-- what a seat has counted behind an answer of the book
pub counted_more : (count : ℕ) (result : Result Receipt ServeError) → count_after count result ≡ count + count_after 0 result
counted_more count (Ok receipt) = counted_if receipt.fresh count
counted_more count (Err error) = omega arith

each_fits :
    (site : PoolSite) (shared : SharedLedger) (count : ℕ) (before : List Logged) (asked : List (Asked Job)) (served : List (Served Job)) (behind : List Logged)
    (counted : ℕ) → ServesEach shared count before asked served behind counted → All (IsAskedOf site) asked → Fits site shared count asked served counted
each_fits site shared count before [] [] behind counted each asks =
    record { same = λ weight. refl; served_at = All-nil (IsServedAt site shared); counts = omega (arith, each.1) }
each_fits site shared count before [] (s ∷ served) behind counted each asks = absurd each
each_fits site shared count before (a ∷ asked) [] behind counted each asks = absurd each
each_fits site shared count before (a ∷ asked) (s ∷ served) behind counted each asks =
    let rest = each_fits site shared (count_after count s.result) each.0 asked served behind counted each.4 (All-tail (IsAskedOf site) a asked asks) in
    record {
      same = λ weight.
          omega (arith, sum_by-cons (λ one. weight one.job) a asked, sum_by-cons (λ one. weight one.job) s served, ap weight each.1, rest.same weight);
      served_at =
          All-cons (IsServedAt site shared) s served (at_one site shared count before each.0 s.job a s.result (All-head (IsAskedOf site) a asked asks) each.1 each.3)
          rest.served_at;
      counts = omega (arith, rest.counts, counted_more count s.result, sum_by-cons takes_served s served);
    }

closed_fits : (site : PoolSite) (shared : SharedLedger) (count : ℕ) (asked : List (Asked Job)) → Fits site shared count asked (map refused_closed asked) count
closed_fits site shared count [] = record { same = λ weight. refl; served_at = All-nil (IsServedAt site shared); counts = omega arith }
closed_fits site shared count (a ∷ asked) =
    let rest = closed_fits site shared count asked in
    record {
      same = λ weight.
          omega (arith, sum_by-cons (λ one. weight one.job) a asked, sum_by-cons (λ one. weight one.job) (refused_closed a) (map refused_closed asked), rest.same weight);
      served_at = All-cons (IsServedAt site shared) (refused_closed a) (map refused_closed asked) tt rest.served_at;
      counts = omega (arith, rest.counts, sum_by-cons takes_served (refused_closed a) (map refused_closed asked));
    }

all_fit :
    (site : PoolSite) (shared : SharedLedger) (count : ℕ) (asked : List (Asked Job)) (served : List (Served Job)) (counted : ℕ)
    → ServesAll shared count asked served counted → All (IsAskedOf site) asked → Fits site shared count asked served counted
all_fit site shared count asked served counted (in_order before behind each) asks = each_fits site shared count before asked served behind counted each asks
all_fit site shared count asked served counted (is_closed refused same) asks =
    subst (λ (s : List (Served Job)). Fits site shared count asked s counted) (sym refused)
    (subst (λ (n : ℕ). Fits site shared count asked (map refused_closed asked) n) (sym same) (closed_fits site shared count asked))

pub asks_all :
    (site : PoolSite) (shared : SharedLedger) (asked : List (Asked Job)) (served : List (Served Job)) (old : Turns) (counted : ℕ)
    → ServesAll shared old.counted asked served counted → All (IsAskedOf site) asked → AsksAll site shared asked served old (record old { counted = counted })
asks_all site shared asked served old counted serves_all asks =
    let fits = all_fit site shared old.counted asked served counted serves_all asks in
    record {
      same = fits.same;
      served_at = fits.served_at;
      is = ap (λ (n : ℕ). let t : Turns = record old { counted = n } in t) fits.counts;
    }

-- ---- what jobs weigh

weigh_one : {X : Type 0} (f : X → ℕ) (x : X) → sum_by f (x ∷ []) ≡ f x
weigh_one f x = omega (arith, sum_by-cons f x [])

weigh_more : {X : Type 0} (f : X → ℕ) (xs : List X) (x : X) → sum_by f (xs ++ x ∷ []) ≡ sum_by f xs + f x
weigh_more f xs x = omega (arith, sum_by-append f xs (x ∷ []), weigh_one f x)

weigh_map : {X : Type 0} (f : X → Job) (weight : Job → ℕ) (xs : List X) → sum_by weight (map f xs) ≡ sum_by (λ x. weight (f x)) xs
weigh_map f weight [] = refl
weigh_map f weight (x ∷ xs) =
    omega (arith, sum_by-cons weight (f x) (map f xs), sum_by-cons (λ x. weight (f x)) x xs, weigh_map f weight xs)

-- ---- jobs that are finished

pub none_served : (sites : NodeNo → PoolSite) (shared : SharedLedger) → AreServed sites shared [] []
none_served sites shared = record { same = λ weight. refl; answered = All-nil (IsAnsweredByOne sites shared) }

pub one_served :
    (sites : NodeNo → PoolSite) (shared : SharedLedger) (job : Job) (finished : Finished) → job_of finished ≡ job → IsAnsweredByOne sites shared finished
    → AreServed sites shared (job ∷ []) (finished ∷ [])
one_served sites shared job finished is answered = record {
  same = λ weight. omega (arith, weigh_one weight job, weigh_one (λ done. weight (job_of done)) finished, ap weight is);
  answered = All-cons (IsAnsweredByOne sites shared) finished [] answered (All-nil (IsAnsweredByOne sites shared));
}

pub both_served :
    (sites : NodeNo → PoolSite) (shared : SharedLedger) (jobs more : List Job) (done then : List Finished) → AreServed sites shared jobs done
    → AreServed sites shared more then → AreServed sites shared (jobs ++ more) (done ++ then)
both_served sites shared jobs more done then a b = record {
  same = λ weight. omega (arith, sum_by-append weight jobs more, sum_by-append (λ one. weight (job_of one)) done then, a.same weight, b.same weight);
  answered = All-append (IsAnsweredByOne sites shared) done then a.answered b.answered;
}

-- ---- one job

-- The seat has counted what the receipt of this job tells of.
pub works_one :
    (sites : NodeNo → PoolSite) (shared : SharedLedger) (job : Job) (finished : Finished) (old new : Turns) (takes : ℕ) → job_of finished ≡ job
    → IsAnsweredByOne sites shared finished → takes_of finished ≡ takes → new ≡ with_jobs_finished (with_counted old takes) (finished ∷ [])
    → WorksOff sites shared (job ∷ []) old new
works_one sites shared job finished old new takes job_is answered told is = record {
  finished = finished ∷ [];
  served = one_served sites shared job finished job_is answered;
  is =
      is ∙ ap (λ (n : ℕ). with_jobs_finished (with_counted old n) (finished ∷ []))
      (let n : takes ≡ takes_told (finished ∷ []) = omega (arith, told, weigh_one takes_of finished) in n);
}

pub works_asked :
    (sites : NodeNo → PoolSite) (shared : SharedLedger) (job : Job) (finished : Finished) (result : Result Receipt ServeError) (old mid new : Turns)
    → job_of finished ≡ job → IsAnsweredByOne sites shared finished → takes_of finished ≡ count_after 0 result
    → mid ≡ record old { counted = count_after old.counted result } → new ≡ with_jobs_finished mid (finished ∷ []) → WorksOff sites shared (job ∷ []) old new
works_asked sites shared job finished result old mid new job_is answered told counted is =
    let more : mid ≡ with_counted old (count_after 0 result) =
    counted ∙ ap (λ (n : ℕ). let t : Turns = record old { counted = n } in t) (counted_more old.counted result) in
    works_one sites shared job finished old new (count_after 0 result) job_is answered told (is ∙ ap (λ (t : Turns). with_jobs_finished t (finished ∷ [])) more)

-- ---- jobs whose messages are read

-- These were read, and those are to be read still.
pub record ReadsSoFar (sites : NodeNo → PoolSite) (shared : SharedLedger) (front : NodeNo) (jobs rest : List Job) (asked : List (Asked Job)) (old now : Turns) : Type 0 where
  pub finished : List Finished
  pub same : (weight : Job → ℕ) → sum_by weight jobs ≡ sum_by (λ done. weight (job_of done)) finished + sum_by (λ one. weight one.job) asked + sum_by weight rest
  pub answered : All (IsAnsweredByOne sites shared) finished
  pub no_takes : takes_told finished ≡ 0
  pub asked_of : All (IsAskedOf (sites front)) asked
  pub is : now ≡ with_jobs_finished old finished

pub reads_nothing :
    (sites : NodeNo → PoolSite) (shared : SharedLedger) (front : NodeNo) (jobs : List Job) (asked : List (Asked Job)) (old : Turns) → asked ≡ []
    → ReadsSoFar sites shared front jobs jobs asked old old
reads_nothing sites shared front jobs asked old none = record {
  finished = [];
  same = λ weight. omega (arith, ap (λ (xs : List (Asked Job)). sum_by (λ one. weight one.job) xs) none);
  answered = All-nil (IsAnsweredByOne sites shared);
  no_takes = refl;
  asked_of = subst (All (IsAskedOf (sites front))) (sym none) (All-nil (IsAskedOf (sites front)));
  is = ap (λ (finished : List Finished). let t : Turns = record old { finished = finished } in t) (sym (append-nil old.finished));
}

pub reads_answered :
    (sites : NodeNo → PoolSite) (shared : SharedLedger) (front : NodeNo) (jobs : List Job) (job : Job) (rest : List Job) (asked : List (Asked Job)) (old now new : Turns)
    (finished : Finished) → ReadsSoFar sites shared front jobs (job ∷ rest) asked old now → job_of finished ≡ job → IsAnsweredByOne sites shared finished
    → finished.receipt ≡ None → new ≡ with_jobs_finished now (finished ∷ []) → ReadsSoFar sites shared front jobs rest asked old new
reads_answered sites shared front jobs job rest asked old now new finished so_far job_is answered none is =
    let takes = tells_no_take finished none in
    record {
      finished = so_far.finished ++ finished ∷ [];
      same = λ weight.
          omega (arith, so_far.same weight, sum_by-cons weight job rest, weigh_more (λ done. weight (job_of done)) so_far.finished finished, ap weight job_is);
      answered =
          All-append (IsAnsweredByOne sites shared) so_far.finished (finished ∷ []) so_far.answered
          (All-cons (IsAnsweredByOne sites shared) finished [] answered (All-nil (IsAnsweredByOne sites shared)));
      no_takes = omega (arith, so_far.no_takes, weigh_more takes_of so_far.finished finished, takes);
      asked_of = so_far.asked_of;
      is =
          is ∙ ap (λ (t : Turns). with_jobs_finished t (finished ∷ [])) so_far.is
          ∙ ap (λ (all : List Finished). let t : Turns = record old { finished = all } in t) (append_assoc old.finished so_far.finished (finished ∷ []));
    }

pub reads_asked :
    (sites : NodeNo → PoolSite) (shared : SharedLedger) (front : NodeNo) (jobs : List Job) (job : Job) (rest : List Job) (asked : List (Asked Job)) (old now : Turns)
    (one : Asked Job) → ReadsSoFar sites shared front jobs (job ∷ rest) asked old now → one.job ≡ job → IsAskedOf (sites front) one
    → ReadsSoFar sites shared front jobs rest (asked ++ one ∷ []) old now
reads_asked sites shared front jobs job rest asked old now one so_far job_is asks = record {
  finished = so_far.finished;
  same = λ weight.
      omega (arith, so_far.same weight, sum_by-cons weight job rest, weigh_more (λ a. weight a.job) asked one, ap weight job_is);
  answered = so_far.answered;
  no_takes = so_far.no_takes;
  asked_of =
      All-append (IsAskedOf (sites front)) asked (one ∷ []) so_far.asked_of
      (All-cons (IsAskedOf (sites front)) one [] asks (All-nil (IsAskedOf (sites front))));
  is = so_far.is;
}

pub reads_all :
    (sites : NodeNo → PoolSite) (shared : SharedLedger) (front : NodeNo) (jobs : List Job) (asked : List (Asked Job)) (old new : Turns)
    → ReadsSoFar sites shared front jobs [] asked old new → ReadsAll sites shared front jobs asked old new
reads_all sites shared front jobs asked old new so_far = record {
  finished = so_far.finished;
  same = λ weight. omega (arith, so_far.same weight);
  answered = so_far.answered;
  no_takes = so_far.no_takes;
  asked_of = so_far.asked_of;
  is = so_far.is;
}

-- ---- jobs that are handed in

-- These are finished, and those are to be finished still. `takes` says of how many takes one tells.
pub record HandsInSoFar {X : Type 0} (sites : NodeNo → PoolSite) (shared : SharedLedger) (job : X → Job) (takes : X → ℕ) (all rest : List X) (old now : Turns) : Type 0 where
  pub finished : List Finished
  pub same : (weight : Job → ℕ) → sum_by (λ x. weight (job x)) all ≡ sum_by (λ done. weight (job_of done)) finished + sum_by (λ x. weight (job x)) rest
  pub answered : All (IsAnsweredByOne sites shared) finished
  pub told : sum_by takes all ≡ takes_told finished + sum_by takes rest
  pub is : now ≡ with_jobs_finished old finished

pub hands_in_none :
    {X : Type 0} (sites : NodeNo → PoolSite) (shared : SharedLedger) (job : X → Job) (takes : X → ℕ) (all : List X) (old : Turns)
    → HandsInSoFar sites shared job takes all all old old
hands_in_none sites shared job takes all old = record {
  finished = [];
  same = λ weight. omega arith;
  answered = All-nil (IsAnsweredByOne sites shared);
  told = omega arith;
  is = ap (λ (finished : List Finished). let t : Turns = record old { finished = finished } in t) (sym (append-nil old.finished));
}

pub hands_in_more :
    {X : Type 0} (sites : NodeNo → PoolSite) (shared : SharedLedger) (job : X → Job) (takes : X → ℕ) (all : List X) (x : X) (rest : List X) (old now new : Turns)
    (finished : Finished) → HandsInSoFar sites shared job takes all (x ∷ rest) old now → job_of finished ≡ job x → IsAnsweredByOne sites shared finished
    → takes_of finished ≡ takes x → new ≡ with_jobs_finished now (finished ∷ []) → HandsInSoFar sites shared job takes all rest old new
hands_in_more sites shared job takes all x rest old now new finished so_far job_is answered told is = record {
  finished = so_far.finished ++ finished ∷ [];
  same = λ weight.
      omega (arith, so_far.same weight, sum_by-cons (λ x. weight (job x)) x rest, weigh_more (λ done. weight (job_of done)) so_far.finished finished, ap weight job_is);
  answered =
      All-append (IsAnsweredByOne sites shared) so_far.finished (finished ∷ []) so_far.answered
      (All-cons (IsAnsweredByOne sites shared) finished [] answered (All-nil (IsAnsweredByOne sites shared)));
  told = omega (arith, so_far.told, sum_by-cons takes x rest, weigh_more takes_of so_far.finished finished, told);
  is =
      is ∙ ap (λ (t : Turns). with_jobs_finished t (finished ∷ [])) so_far.is
      ∙ ap (λ (all : List Finished). let t : Turns = record old { finished = all } in t) (append_assoc old.finished so_far.finished (finished ∷ []));
}

pub hands_in_all :
    {X : Type 0} (sites : NodeNo → PoolSite) (shared : SharedLedger) (job : X → Job) (takes : X → ℕ) (all : List X) (old new : Turns)
    → HandsInSoFar sites shared job takes all [] old new → HandsIn sites shared (map job all) (sum_by takes all) old new
hands_in_all sites shared job takes all old new so_far = record {
  finished = so_far.finished;
  served = record {
    same = λ weight. omega (arith, weigh_map job weight all, so_far.same weight);
    answered = so_far.answered;
  };
  told = omega (arith, so_far.told);
  is = so_far.is;
}

-- none tells of a take
pub no_takes : {X : Type 0} (xs : List X) → sum_by (λ x. 0) xs ≡ 0
no_takes [] = refl
no_takes {X} (x ∷ xs) = omega (arith, sum_by-cons (λ (y : X). 0) x xs, no_takes xs)

pub hands_in_refused :
    {X : Type 0} (sites : NodeNo → PoolSite) (shared : SharedLedger) (job : X → Job) (all rest : List X) (old new : Turns) → length rest ≡ 0
    → HandsInSoFar sites shared job (λ x. 0) all rest old new → HandsIn sites shared (map job all) 0 old new
hands_in_refused {X} sites shared job all [] old new none so_far =
    let hands = hands_in_all sites shared job (λ (x : X). 0) all old new so_far in
    record { finished = hands.finished; served = hands.served; told = hands.told ∙ no_takes all; is = hands.is }
hands_in_refused {X} sites shared job all (x ∷ rest) old new none so_far = absurd (omega (arith, none))

-- ---- a turn

counts_all :
    (old new : Turns) (done then : List Finished) (takes : ℕ) → takes_told done ≡ 0 → takes_told then ≡ takes
    → new ≡ with_jobs_finished (with_counted (with_jobs_finished old done) takes) then
    → new ≡ with_counted (with_jobs_finished old (done ++ then)) (takes_told (done ++ then))
counts_all old new done then takes none told is =
    let turns : List Finished → ℕ → Turns = λ all counted. record old { finished = all; counted = counted } in
    let counted : old.counted + takes ≡ old.counted + takes_told (done ++ then) = omega (arith, none, told, sum_by-append takes_of done then) in
    is ∙ ap (λ (all : List Finished). turns all (old.counted + takes)) (append_assoc old.finished done then) ∙ ap (turns (old.finished ++ (done ++ then))) counted

pub works_all :
    (sites : NodeNo → PoolSite) (shared : SharedLedger) (front : NodeNo) (jobs : List Job) (asked : List (Asked Job)) (served : List (Served Job))
    (old mid behind new : Turns) → ReadsAll sites shared front jobs asked old mid → AsksAll (sites front) shared asked served mid behind
    → HandsIn sites shared (map (λ one. one.job) served) (sum_by takes_served served) behind new → WorksOff sites shared jobs old new
works_all sites shared front jobs asked served old mid behind new reads asks hands = record {
  finished = reads.finished ++ hands.finished;
  served = record {
    same = λ weight.
        omega (
          arith,
          reads.same weight,
          asks.same weight,
          weigh_map (λ (one : Served Job). one.job) weight served,
          hands.served.same weight,
          sum_by-append (λ one. weight (job_of one)) reads.finished hands.finished,
        );
    answered = All-append (IsAnsweredByOne sites shared) reads.finished hands.finished reads.answered hands.served.answered;
  };
  is =
      counts_all old new reads.finished hands.finished (sum_by takes_served served) reads.no_takes hands.told
      (hands.is ∙ ap (λ (t : Turns). with_jobs_finished t hands.finished)
      (asks.is ∙ ap (λ (t : Turns). with_counted t (sum_by takes_served served)) reads.is));
}

pub works_refused :
    (sites : NodeNo → PoolSite) (shared : SharedLedger) (front : NodeNo) (jobs : List Job) (asked : List (Asked Job)) (old mid new : Turns)
    → ReadsAll sites shared front jobs asked old mid → HandsIn sites shared (map (λ one. one.job) asked) 0 mid new → WorksOff sites shared jobs old new
works_refused sites shared front jobs asked old mid new reads hands =
    let none : mid ≡ with_counted mid 0 = ap (λ (n : ℕ). let t : Turns = record mid { counted = n } in t) (let n : mid.counted ≡ mid.counted + 0 = omega arith in n) in
    record {
      finished = reads.finished ++ hands.finished;
      served = record {
        same = λ weight.
            omega (
              arith,
              reads.same weight,
              weigh_map (λ (one : Asked Job). one.job) weight asked,
              hands.served.same weight,
              sum_by-append (λ one. weight (job_of one)) reads.finished hands.finished,
            );
        answered = All-append (IsAnsweredByOne sites shared) reads.finished hands.finished reads.answered hands.served.answered;
      };
      is =
          counts_all old new reads.finished hands.finished 0 reads.no_takes hands.told
          (hands.is ∙ ap (λ (t : Turns). with_jobs_finished t hands.finished) (none ∙ ap (λ (t : Turns). with_counted t 0) reads.is));
    }

-- a turn with one job
pub turns_one :
    (sites : NodeNo → PoolSite) (shared : SharedLedger) (job : Job) (old mid new : Turns) → mid ≡ old → WorksOff sites shared (job ∷ []) mid new
    → TurnsOver sites shared job old new
turns_one sites shared job old mid new same works = record {
  more = [];
  works = subst (λ (t : Turns). WorksOff sites shared (job ∷ []) t new)
      (same ∙ ap (λ (jobs : List Job). let t : Turns = record old { taken = jobs } in t) (sym (append-nil old.taken))) works;
}

pub turns_more :
    (sites : NodeNo → PoolSite) (shared : SharedLedger) (job : Job) (had has : List Job) (old before mid new : Turns) → before ≡ old → had ≡ job ∷ []
    → TakesMore before had has mid → WorksOff sites shared has mid new → TurnsOver sites shared job old new
turns_more sites shared job had has old before mid new same one takes works =
    let jobs : has ≡ job ∷ takes.more = takes.has_more ∙ ap (λ (h : List Job). h ++ takes.more) one in
    record {
      more = takes.more;
      works = subst (λ (t : Turns). WorksOff sites shared (job ∷ takes.more) t new) (takes.is ∙ ap (λ (t : Turns). with_jobs_taken t takes.more) same)
          (subst (λ (h : List Job). WorksOff sites shared h mid new) jobs works);
    }

pub served_turn :
    (sites : NodeNo → PoolSite) (shared : SharedLedger) (job : Job) (old mid new : Turns) → AreServed sites shared old.taken old.finished
    → mid ≡ with_jobs_taken old (job ∷ []) → TurnsOver sites shared job mid new → AreServed sites shared new.taken new.finished
served_turn sites shared job old mid new served taken turn =
    let works = turn.works in
    let all = both_served sites shared old.taken (job ∷ turn.more) old.finished works.finished served works.served in
    let is : new ≡ with_counted (with_jobs_finished (with_jobs_taken (with_jobs_taken old (job ∷ [])) turn.more) works.finished) (takes_told works.finished) =
    works.is ∙ ap (λ (t : Turns). with_counted (with_jobs_finished (with_jobs_taken t turn.more) works.finished) (takes_told works.finished)) taken in
    let jobs : new.taken ≡ old.taken ++ (job ∷ turn.more) = ap (λ (t : Turns). t.taken) is ∙ append_assoc old.taken (job ∷ []) turn.more in
    let done : new.finished ≡ old.finished ++ works.finished = ap (λ (t : Turns). t.finished) is in
    subst (λ (f : List Finished). AreServed sites shared new.taken f) (sym done)
    (subst (λ (j : List Job). AreServed sites shared j (old.finished ++ works.finished)) (sym jobs) all)

pub told_turn :
    (sites : NodeNo → PoolSite) (shared : SharedLedger) (job : Job) (before : ℕ) (old mid new : Turns) → old.counted ≡ before + takes_told old.finished
    → mid ≡ with_jobs_taken old (job ∷ []) → TurnsOver sites shared job mid new → new.counted ≡ before + takes_told new.finished
told_turn sites shared job before old mid new told taken turn =
    let works = turn.works in
    let is : new ≡ with_counted (with_jobs_finished (with_jobs_taken (with_jobs_taken old (job ∷ [])) turn.more) works.finished) (takes_told works.finished) =
    works.is ∙ ap (λ (t : Turns). with_counted (with_jobs_finished (with_jobs_taken t turn.more) works.finished) (takes_told works.finished)) taken in
    let counted : new.counted ≡ old.counted + takes_told works.finished = ap (λ (t : Turns). t.counted) is in
    let both : takes_told new.finished ≡ takes_told old.finished + takes_told works.finished =
    ap (λ (t : Turns). takes_told t.finished) is ∙ sum_by-append takes_of old.finished works.finished in
    omega (arith, told, counted, both)
