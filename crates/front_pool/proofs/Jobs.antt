-- Jobs that are handed over and taken off.
use Rattle.std.proofs.Common.{◌≡◌, ℕ, Bool, true, false, ◌+◌, ◌<◌, ◌≤◌, zero, suc, arith}
use Rattle.std.proofs.Common.{List, [], ◌∷◌, ◌++◌, length, get_or, refl, sym, ap, ◌∙◌, subst, append_assoc}
use Rattle.std.specs.Prelude.{All, MatchBool}
use Rattle.std.specs.List.{remove}
use Rattle.std.specs.List.Sorted.{IsPermutation}
use Rattle.std.proofs.lemmas.List.{map-append}
use Rattle.std.proofs.lemmas.List.Sorted.{IsPermutation-append_right, IsPermutation-middle, IsPermutation-trans}
use Rattle.dia_base.specs.declared.number.ConnId.{ConnId}
use Rattle.dia_message.specs.declared.message.Message.{Message}
use Rattle.front_pool.specs.declared.job.Finished.{Finished}
use Rattle.front_pool.specs.declared.job.Job.{Job}
use Rattle.front_pool.specs.Jobs.{job_of, jobs_of}
use Rattle.front_pool.specs.Keeping.{IsNumbered, IsRising, IsTakenOff}
use Rattle.front_pool.proofs.Rule.{all_append}

-- ---- numbers

rising_append :
    (above : ℕ) (jobs : List Job) (job : Job) → IsRising above jobs
    → ((k : ℕ) (d : Job) → k < length jobs → (get_or jobs k d).number < job.number) → above < job.number
    → IsRising above (jobs ++ job ∷ [])
rising_append above [] job rising given less = (less, tt)
rising_append above (first ∷ jobs) job rising given less =
    (rising.0, rising_append first.number jobs job rising.1 (λ k d below. given (suc k) d (omega arith)) (given 0 first (omega arith)))

rising_from : (low high : ℕ) (jobs : List Job) → low ≤ high → IsRising high jobs → IsRising low jobs
rising_from low high [] le rising = tt
rising_from low high (job ∷ jobs) le rising = let first = rising.0 in (omega arith, rising.1)

rising_without : (above : ℕ) (before : List Job) (job : Job) (behind : List Job) → IsRising above (before ++ job ∷ behind) → IsRising above (before ++ behind)
rising_without above [] job behind rising = let first : above < job.number = rising.0 in rising_from above job.number behind (omega arith) rising.1
rising_without above (first ∷ before) job behind rising = (rising.0, rising_without first.number before job behind rising.1)

raised : (last : ℕ) (jobs : List Job) → All (λ job. job.number ≤ last) jobs → All (λ job. job.number ≤ last + 1) jobs
raised last jobs given = λ k d below. let was = given k d below in omega (arith, was)

pub numbered_append :
    (jobs : List Job) (last : ℕ) (conn : ConnId) (request : Message) → IsNumbered jobs last
    → IsNumbered (jobs ++ record { number = last + 1; conn = conn; request = request } ∷ []) (last + 1)
numbered_append jobs last conn request numbered =
    let job : Job = record { number = last + 1; conn = conn; request = request } in
    record {
      rising = rising_append 0 jobs job numbered.rising (λ k d below. let was = numbered.given k d below in omega (arith, was)) (omega arith);
      given = all_append (λ (j : Job). j.number ≤ last + 1) jobs job (raised last jobs numbered.given) (omega arith);
    }

pub numbered_more :
    (jobs all : List Job) (last number : ℕ) (conn : ConnId) (request : Message) → all ≡ jobs ++ record { number = number; conn = conn; request = request } ∷ []
    → number ≡ last + 1 → IsNumbered jobs last → IsNumbered all number
numbered_more jobs all last number conn request is next numbered =
    let P : ℕ → Type 0 = λ n. IsNumbered (jobs ++ record { number = n; conn = conn; request = request } ∷ []) n in
    let Q : List Job → Type 0 = λ js. IsNumbered js number in
    subst Q (sym is) (subst P (sym next) (numbered_append jobs last conn request numbered))

given_without :
    (last : ℕ) (before : List Job) (job : Job) (behind : List Job) → All (λ j. j.number ≤ last) (before ++ job ∷ behind)
    → (k : ℕ) (d : Job) → k < length (before ++ behind) → (get_or (before ++ behind) k d).number ≤ last
given_without last [] job behind given k d below = given (suc k) d (omega arith)
given_without last (first ∷ before) job behind given zero d below = given 0 d (omega arith)
given_without last (first ∷ before) job behind given (suc k) d below =
    given_without last before job behind (λ j e less. given (suc j) e (omega arith)) k d (omega arith)

pub numbered_without : (job : Job) (old new : List Job) (last : ℕ) → IsTakenOff job old new → IsNumbered old last → IsNumbered new last
numbered_without job old new last off numbered =
    let P : List Job → Type 0 = λ jobs. IsNumbered jobs last in
    let was : IsNumbered (off.before ++ job ∷ off.behind) last = subst P off.was numbered in
    let is : IsNumbered (off.before ++ off.behind) last = record {
      rising = rising_without 0 off.before job off.behind was.rising;
      given = given_without last off.before job off.behind was.given;
    } in
    subst P (sym off.is) is

pub numbered_either :
    (b : Bool) (job : Job) (old new : List Job) (last : ℕ) → MatchBool b (IsTakenOff job old new) (new ≡ old) → IsNumbered old last → IsNumbered new last
numbered_either true job old new last off numbered = numbered_without job old new last off numbered
numbered_either false job old new last same numbered = let P : List Job → Type 0 = λ jobs. IsNumbered jobs last in subst P (sym same) numbered

pub no_longer : (b : Bool) (old new room : ℕ) → MatchBool b (new + 1 ≡ old) (new ≡ old) → old ≤ room → new ≤ room
no_longer true old new room len fits = omega arith
no_longer false old new room len fits = omega arith

-- ---- a job that is taken off

pub taken_off : (jobs : List Job) (place : ℕ) (job : Job) → place < length jobs → job ≡ get_or jobs place job → IsTakenOff job jobs (remove jobs place)
taken_off [] place job below at = absurd (omega arith)
taken_off (first ∷ jobs) zero job below at = record { before = []; behind = jobs; was = ap (λ j. j ∷ jobs) (sym at); is = refl }
taken_off (first ∷ jobs) (suc place) job below at =
    let rest = taken_off jobs place job (omega arith) at in
    record { before = first ∷ rest.before; behind = rest.behind; was = ap (λ js. first ∷ js) rest.was; is = ap (λ js. first ∷ js) rest.is }

-- ---- a job that cannot be taken off

at_middle : (before : List Job) (job : Job) (behind : List Job) (d : Job) → get_or (before ++ job ∷ behind) (length before) d ≡ job
at_middle [] job behind d = refl
at_middle (first ∷ before) job behind d = at_middle before job behind d

in_middle : (before : List Job) (job : Job) (behind : List Job) → length before < length (before ++ job ∷ behind)
in_middle [] job behind = omega arith
in_middle (first ∷ before) job behind = let rest = in_middle before job behind in omega (arith, rest)

-- a job that stands at no place
abbrev pub IsNowhere : List Job → Job → Type 0
IsNowhere jobs job = (k : ℕ) (d : Job) → k < length jobs → get_or jobs k d ≡ job → ⊥

pub not_taken_off : (jobs : List Job) (job : Job) → IsNowhere jobs job → (rest : List Job) → IsTakenOff job jobs rest → ⊥
not_taken_off jobs job nowhere rest off =
    let P : List Job → Type 0 = λ js. (k : ℕ) (d : Job) → k < length js → get_or js k d ≡ job → ⊥ in
    let there : P (off.before ++ job ∷ off.behind) = subst P off.was nowhere in
    there (length off.before) job (in_middle off.before job off.behind) (at_middle off.before job off.behind job)

-- A job that is taken off and finished is one of those that are finished or left.
pub settles :
    (all : List Job) (finished : List Finished) (next : Finished) (left after : List Job) → IsPermutation all (jobs_of finished ++ left)
    → IsTakenOff (job_of next) left after → IsPermutation all (jobs_of (finished ++ next ∷ []) ++ after)
settles all finished next left after are off =
    let done = jobs_of finished in let job = job_of next in let both = off.before ++ off.behind in
    let to_front : IsPermutation (done ++ (off.before ++ job ∷ off.behind)) (done ++ (job ∷ both)) =
    IsPermutation-append_right done _ _ (IsPermutation-middle off.before job off.behind) in
    let was : IsPermutation all (done ++ (off.before ++ job ∷ off.behind)) = subst (λ (l : List Job). IsPermutation all (done ++ l)) off.was are in
    let same : done ++ (job ∷ both) ≡ jobs_of (finished ++ next ∷ []) ++ after =
    sym (append_assoc done (job ∷ []) both) ∙ ap (λ (l : List Job). l ++ both) (sym (map-append job_of finished (next ∷ [])))
    ∙ ap (λ (l : List Job). jobs_of (finished ++ next ∷ []) ++ l) (sym off.is) in
    subst (λ (l : List Job). IsPermutation all l) same (IsPermutation-trans all _ _ was to_front)
