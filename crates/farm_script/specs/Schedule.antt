-- What the text of a schedule spells: the steps of its lines, or the first fault of the first line that has none.
use Rattle.std.specs.Prelude.{◌≤◌, ◌≡◌, ℕ, List, [], ◌∷◌, length, map, filter, codes, not, nat_lt, if◌then◌else◌, Result, Ok, Err}
use Rattle.std.specs.Global.{Vec}
use Rattle.std.specs.List.{enumerate_from}
use Rattle.std.specs.Str.{bytes_eq}
use Rattle.std.specs.Str.Lines.{lines}
use Rattle.farm_script.specs.declared.fault.LineFault.{LineFault}
use Rattle.farm_script.specs.declared.fault.LineFault.TheVariants.{UnknownWord, WrongCount, TooManySteps, OutOfMemory}
use Rattle.farm_script.specs.declared.fault.ScriptFault.{ScriptFault}
use Rattle.farm_script.specs.declared.fault.ScriptFault.TheVariants.{Line, TooLong}
use Rattle.farm_base.specs.declared.site.Site.{Site}
use Rattle.farm_base.specs.declared.step.Step.{Step}
use Rattle.farm_base.specs.declared.step.Step.TheVariants.{Up, Accept, Opened, Send, Deliver, Lose, Cut, Drop, Restart, Crash, Pick, Charge, Refuse, Emit, Sweep}
use Rattle.farm_script.specs.TermsWords.{terms_of}
use Rattle.farm_script.specs.Words.{words_of, says_nothing, node_of, number_of, message_of, ◌>>=◌}

-- ---- the step that words spell

abbrev pub up_of : Site → List (List ℕ) → Result Step LineFault
up_of site (a ∷ b ∷ []) = do
  one ← node_of site a
  other ← node_of site b
  Ok (Up one other)
up_of site words = Err WrongCount

abbrev pub accept_of : Site → List (List ℕ) → Result Step LineFault
accept_of site (at ∷ from ∷ []) = do
  one ← node_of site at
  other ← node_of site from
  Ok (Accept one other)
accept_of site words = Err WrongCount

abbrev pub opened_of : Site → List (List ℕ) → Result Step LineFault
opened_of site (a ∷ b ∷ []) = do
  one ← node_of site a
  other ← node_of site b
  Ok (Opened one other)
opened_of site words = Err WrongCount

abbrev pub send_of : Site → List (List ℕ) → Result Step LineFault
send_of site (client ∷ to ∷ message ∷ []) = do
  from ← node_of site client
  peer ← node_of site to
  sent ← message_of message
  Ok (Send from peer sent)
send_of site words = Err WrongCount

abbrev pub deliver_of : Site → List (List ℕ) → Result Step LineFault
deliver_of site (from ∷ to ∷ place ∷ []) = do
  sender ← node_of site from
  peer ← node_of site to
  at ← number_of place
  Ok (Deliver sender peer at)
deliver_of site words = Err WrongCount

abbrev pub lose_of : Site → List (List ℕ) → Result Step LineFault
lose_of site (from ∷ to ∷ place ∷ []) = do
  sender ← node_of site from
  peer ← node_of site to
  at ← number_of place
  Ok (Lose sender peer at)
lose_of site words = Err WrongCount

abbrev pub cut_of : Site → List (List ℕ) → Result Step LineFault
cut_of site (a ∷ b ∷ []) = do
  one ← node_of site a
  other ← node_of site b
  Ok (Cut one other)
cut_of site words = Err WrongCount

abbrev pub drop_of : Site → List (List ℕ) → Result Step LineFault
drop_of site (a ∷ b ∷ []) = do
  one ← node_of site a
  other ← node_of site b
  Ok (Drop one other)
drop_of site words = Err WrongCount

abbrev pub restart_of : Site → List (List ℕ) → Result Step LineFault
restart_of site (name ∷ []) = do
  node ← node_of site name
  Ok (Restart node)
restart_of site words = Err WrongCount

abbrev pub crash_of : Site → List (List ℕ) → Result Step LineFault
crash_of site (name ∷ []) = do
  node ← node_of site name
  Ok (Crash node)
crash_of site words = Err WrongCount

abbrev pub pick_of : Site → List (List ℕ) → Result Step LineFault
pick_of site (front ∷ worker ∷ []) = do
  node ← node_of site front
  number ← number_of worker
  Ok (Pick node number)
pick_of site words = Err WrongCount

abbrev pub charge_of : Site → List (List ℕ) → Result Step LineFault
charge_of site (front ∷ worker ∷ moment ∷ []) = do
  node ← node_of site front
  number ← number_of worker
  time ← number_of moment
  Ok (Charge node number (record { 0 = time }))
charge_of site words = Err WrongCount

abbrev pub refuse_of : Site → List (List ℕ) → Result Step LineFault
refuse_of site (front ∷ worker ∷ []) = do
  node ← node_of site front
  number ← number_of worker
  Ok (Refuse node number)
refuse_of site words = Err WrongCount

abbrev pub emit_of : Site → List (List ℕ) → Result Step LineFault
emit_of site (front ∷ worker ∷ []) = do
  node ← node_of site front
  number ← number_of worker
  Ok (Emit node number)
emit_of site words = Err WrongCount

abbrev pub sweep_of : List (List ℕ) → Result Step LineFault
sweep_of (moment ∷ []) = do
  time ← number_of moment
  Ok (Sweep (record { 0 = time }))
sweep_of words = Err WrongCount

-- by the first word; the others stand for what the step is about
abbrev pub step_of : Site → List (List ℕ) → Result Step LineFault
step_of site [] = Err UnknownWord
step_of site (verb ∷ words) =
    if bytes_eq verb (codes "up") then up_of site words
    else if bytes_eq verb (codes "accept") then accept_of site words
    else if bytes_eq verb (codes "opened") then opened_of site words
    else if bytes_eq verb (codes "send") then send_of site words
    else if bytes_eq verb (codes "deliver") then deliver_of site words
    else if bytes_eq verb (codes "lose") then lose_of site words
    else if bytes_eq verb (codes "cut") then cut_of site words
    else if bytes_eq verb (codes "drop") then drop_of site words
    else if bytes_eq verb (codes "restart") then restart_of site words
    else if bytes_eq verb (codes "crash") then crash_of site words
    else if bytes_eq verb (codes "pick") then pick_of site words
    else if bytes_eq verb (codes "charge") then charge_of site words
    else if bytes_eq verb (codes "refuse") then refuse_of site words
    else if bytes_eq verb (codes "emit") then emit_of site words
    else if bytes_eq verb (codes "sweep") then sweep_of words
    else if bytes_eq verb (codes "terms") then terms_of words
    else Err UnknownWord

-- ---- the steps that a text spells

-- the reading of a line, where so many steps stand before it
abbrev pub limited : ℕ → Result Step LineFault → Result Step LineFault
limited before (Ok step) = if nat_lt before 1000000 then Ok step else Err TooManySteps
limited before (Err fault) = Err fault

abbrev pub at_line : ℕ → Result Step LineFault → Result Step ScriptFault
at_line number (Ok step) = Ok step
at_line number (Err fault) = Err (Line number fault)

-- a line that says something, with its number and with how many such stand before it
abbrev pub reading_of : Site → ℕ × (ℕ × List ℕ) → Result Step ScriptFault
reading_of site (before, said) = at_line said.0 (limited before (step_of site (words_of said.1)))

abbrev pub with_first : Step → Result (List Step) ScriptFault → Result (List Step) ScriptFault
with_first step (Ok steps) = Ok (step ∷ steps)
with_first step (Err fault) = Err fault

-- all, or the first fault
abbrev pub all_of : List (Result Step ScriptFault) → Result (List Step) ScriptFault
all_of [] = Ok []
all_of (Ok step ∷ readings) = with_first step (all_of readings)
all_of (Err fault ∷ readings) = Err fault

-- the lines that say something, each with its number
abbrev pub said_from : ℕ → List (List ℕ) → List (ℕ × List ℕ)
said_from number lines = filter (λ said. not (says_nothing said.1)) (enumerate_from number lines)

abbrev pub readings_from : Site → ℕ → ℕ → List (List ℕ) → List (Result Step ScriptFault)
readings_from site before number lines = map (reading_of site) (enumerate_from before (said_from number lines))

-- lines count from 1
abbrev pub steps_of : Site → List ℕ → Result (List Step) ScriptFault
steps_of site text = if nat_lt 16777216 (length text) then Err TooLong else all_of (readings_from site 0 1 (lines text))

-- the text is not too long, and no line before this one has a fault
abbrev pub NoneBefore : ℕ → Result (List Step) ScriptFault → Type 0
NoneBefore number (Ok steps) = Unit {0}
NoneBefore number (Err (Line first fault)) = number ≤ first
NoneBefore number (Err TooLong) = ⊥

-- a call answered with what a text of so many lines spells, unless memory ran out at one of them before which
-- none has a fault
abbrev pub AnswersText : ℕ → Result (List Step) ScriptFault → Result (Vec Step) ScriptFault → Type 0
AnswersText count spelled (Ok steps) = spelled ≡ Ok steps.items
AnswersText count spelled (Err (Line number OutOfMemory)) = NoneBefore number spelled × (1 ≤ number) × (number ≤ count)
AnswersText count spelled (Err fault) = spelled ≡ Err fault
