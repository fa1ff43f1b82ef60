-- A schedule that is read up to one octet above its size limit has the steps, or the fault, of the whole.
use Rattle.std.proofs.Common.{◌≡◌, ℕ, ◌+◌, ◌<◌, ◌≤◌, Bool, true, false, cond, ltb, List, length, take, Option, Some, None, Result, Ok, Err, refl, sym, subst, ap, ◌∙◌, inl, inr, arith, length-take}
use Rattle.std.specs.Prelude.{IfSome}
use Rattle.std.specs.Str.Lines.{lines}
use Rattle.std.proofs.lemmas.Bool.{cases_Bool, ltb-true, ltb-false, lt-ltb}
use Rattle.std.proofs.lemmas.List.{take_all}
use Rattle.farm_script.specs.declared.fault.LineFault.TheVariants.{UnknownWord, WrongCount, UnknownName, BadNumber, BadHex, BadMessage, TooManySteps, OutOfMemory}
use Rattle.farm_script.specs.declared.fault.ScriptFault.{ScriptFault}
use Rattle.farm_script.specs.declared.fault.ScriptFault.TheVariants.{Line, TooLong}
use Rattle.farm_base.specs.declared.site.Site.{Site}
use Rattle.farm_base.specs.declared.step.Step.{Step}
use Rattle.farm_script.specs.Schedule.{steps_of, NoneBefore, all_of, readings_from}
use Rattle.farm_command.specs.declared.command.Action.{Action}
use Rattle.farm_cli.specs.Replay.{Replays, IsRefused}
use Rattle.farm_cli.specs.Skipped.{Names}

abbrev Answer : Type 0
Answer = Result (List Step) ScriptFault

chosen : (limit : ℕ) (f : List ℕ → Answer) (text : List ℕ) (b : Bool) → ltb limit (length text) ≡ b
    → cond (ltb limit (length (take (limit + 1) text))) (Err TooLong) (f (take (limit + 1) text)) ≡ cond (ltb limit (length text)) (Err TooLong) (f text)
chosen limit f text true is =
    let long : limit < length text = ltb-true limit (length text) is in
    let len = length-take (limit + 1) text in
    let cut : limit < length (take (limit + 1) text) = omega arith in
    ap (λ (b : Bool). cond b (Err TooLong) (f (take (limit + 1) text))) (lt-ltb _ _ cut) ∙ sym (ap (λ (b : Bool). cond b (Err TooLong) (f text)) is)
chosen limit f text false is =
    let short : length text ≤ limit = ltb-false limit (length text) is in
    ap (λ (t : List ℕ). cond (ltb limit (length t)) (Err TooLong) (f t)) (take_all (limit + 1) text (omega arith))

-- what a cut at one octet above the limit spells
abbrev pub IsCut : Site → List ℕ → List ℕ → Type 0
IsCut site text octets = steps_of site text ≡ steps_of site octets

pub steps_of-cut : (site : Site) (octets : List ℕ) → IsCut site (take 16777217 octets) octets
steps_of-cut site octets = chosen 16777216 (λ text. all_of (readings_from site 0 1 (lines text))) octets (ltb 16777216 (length octets)) refl

-- where no line has a fault yet, the text is not too long
not_long : (site : Site) (octets : List ℕ) (number : ℕ) → NoneBefore number (steps_of site octets) → length octets ≤ 16777216
not_long site octets number before = elim (cases_Bool (ltb 16777216 (length octets))) [
  | inl long ↦ absurd (subst (λ (b : Bool). NoneBefore number (cond b (Err TooLong) (all_of (readings_from site 0 1 (lines octets))))) long before)
  | inr short ↦ ltb-false 16777216 (length octets) short
]

-- the fault of what was read is that of the whole
refused_for : (site : Site) (text octets : List ℕ) (fault : ScriptFault) → text ≡ take 16777217 octets → IsCut site text octets → IsRefused site text fault → IsRefused site octets fault
refused_for site text octets (Line number OutOfMemory) read same e =
    let before : NoneBefore number (steps_of site octets) = subst (λ (r : Answer). NoneBefore number r) same e.0 in
    let short : length octets ≤ 16777216 = not_long site octets number before in
    let all : text ≡ octets = read ∙ take_all 16777217 octets (omega arith) in
    (before, e.1, subst (λ (xs : List ℕ). number ≤ length (lines xs)) all e.2)
refused_for site text octets (Line number UnknownWord) read same e = sym same ∙ e
refused_for site text octets (Line number WrongCount) read same e = sym same ∙ e
refused_for site text octets (Line number UnknownName) read same e = sym same ∙ e
refused_for site text octets (Line number BadNumber) read same e = sym same ∙ e
refused_for site text octets (Line number BadHex) read same e = sym same ∙ e
refused_for site text octets (Line number BadMessage) read same e = sym same ∙ e
refused_for site text octets (Line number TooManySteps) read same e = sym same ∙ e
refused_for site text octets TooLong read same e = sym same ∙ e

-- what is read of a stream
abbrev pub IsRead : Option (List ℕ) → List ℕ → Type 0
IsRead stream text = IfSome stream (λ octets. text ≡ take 16777217 octets)

pub stream_refused : (site : Site) (stream : Option (List ℕ)) (text given : List ℕ) (fault : ScriptFault) → IsRead stream text → given ≡ text → IsRefused site given fault → IfSome stream (λ octets. IsRefused site octets fault)
stream_refused site None text given fault read same e = tt
stream_refused site (Some octets) text given fault read same e = refused_for site given octets fault (same ∙ read) (ap (steps_of site) (same ∙ read) ∙ steps_of-cut site octets) e

-- what is printed for what is read
pub stream_replays : (action : Action) (site : Site) (stream : Option (List ℕ)) (text given out : List ℕ) (P : List ℕ → Type 0) → IsRead stream text → given ≡ text → Replays action site given out → P out → IfSome stream (λ octets. (printed : List ℕ) × Replays action site octets printed × P printed)
stream_replays action site None text given out P read same replays p = tt
stream_replays action site (Some octets) text given out P read same replays p = (
  out,
  record {
    steps = replays.steps;
    spelled = sym (ap (steps_of site) (same ∙ read) ∙ steps_of-cut site octets) ∙ replays.spelled;
    trace = replays.trace;
    promised = replays.promised;
    output = replays.output;
  },
  p,
)

-- the steps that are named of what was read are those of the whole, which is not too long
names_for : (asked : Bool) (site : Site) (text octets old new : List ℕ) → text ≡ take 16777217 octets → Names asked site text old new → Names asked site octets old new
names_for asked site text octets old new read names =
    let same : IsCut site text octets = ap (steps_of site) read ∙ steps_of-cut site octets in
    let spelled : steps_of site octets ≡ Ok names.steps = sym same ∙ names.spelled in
    let short : length octets ≤ 16777216 = not_long site octets 0 (subst (λ (r : Answer). NoneBefore 0 r) (sym spelled) tt) in
    let all : text ≡ octets = read ∙ take_all 16777217 octets (omega arith) in
    subst (λ (octets : List ℕ). Names asked site octets old new) all names

pub stream_names : (asked : Bool) (site : Site) (stream : Option (List ℕ)) (text given old new : List ℕ) → IsRead stream text → given ≡ text → Names asked site given old new → IfSome stream (λ octets. Names asked site octets old new)
stream_names asked site None text given old new read same names = tt
stream_names asked site (Some octets) text given old new read same names = names_for asked site given octets old new (same ∙ read) names
