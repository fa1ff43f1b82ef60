-- A relay, event by event.
use Rattle.std.proofs.Common.{◌≡◌, ℕ, ◌+◌, ◌<◌, ◌≤◌, List, [], ◌∷◌, ◌++◌, length, take, get_or, ap, sym, subst, ◌∙◌}
use Rattle.std.proofs.lemmas.List.{take_more, take_all}
use Rattle.dia_message.specs.declared.message.Out.{Out}
use Rattle.relay_core.specs.declared.run.RelayEvent.{RelayEvent}
use Rattle.relay_core.specs.RelayState.{RelayState}
use Rattle.relay_core.specs.Giving.{GivesAt, GiveInTurn}
use Rattle.relay_core.specs.RelayRun.{OnEvent, RelayStep, IsRun, not_begun, one_more}

-- these events have led here
abbrev pub Led : RelayState → List RelayEvent → List Out → RelayState → Type 0
Led first events outs last = (past : List RelayStep) × IsRun first events outs past last × GiveInTurn past

pub run_begun : (first relay : RelayState) (events : List RelayEvent) (outs : List Out) → relay ≡ first → outs ≡ [] → Led first (take 0 events) outs relay
run_begun first relay events outs same e = ([], subst (λ (r : RelayState). IsRun first [] outs [] r) (sym same) (subst (λ (os : List Out). IsRun first [] os [] first) (sym e) not_begun), tt)

pub run_more : (first before after : RelayState) (events : List RelayEvent) (event : RelayEvent) (i : ℕ) (outs new : List Out) (out : Out) → i < length events → event ≡ get_or events i event
    → Led first (take i events) outs before → OnEvent before event out.items after → GivesAt event before.pending out.items after.pending → new ≡ outs ++ out ∷ [] → Led first (take (i + 1) events) new after
run_more first before after events event i outs new out lt is run happens gives e = (
  record { before = before; event = event; sent = out.items; after = after } ∷ run.0,
  subst (λ (es : List RelayEvent). IsRun first es new (record { before = before; event = event; sent = out.items; after = after } ∷ run.0) after)
      (sym (take_more events i event lt ∙ ap (λ (x : RelayEvent). take i events ++ x ∷ []) (sym is)))
      (subst (λ (os : List Out). IsRun first (take i events ++ event ∷ []) os (record { before = before; event = event; sent = out.items; after = after } ∷ run.0) after) (sym e)
      (one_more (take i events) event outs out run.0 before after run.1 happens)),
  (gives, run.2),
)

pub run_all : (first last : RelayState) (events : List RelayEvent) (i : ℕ) (outs : List Out) → length events ≤ i → Led first (take i events) outs last → Led first events outs last
run_all first last events i outs end run = (run.0, subst (λ (es : List RelayEvent). IsRun first es outs run.0 last) (take_all i events end) run.1, run.2)
