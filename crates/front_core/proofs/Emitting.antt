-- A worker that is done, in the list of workers.
use Rattle.std.proofs.Common.{◌≡◌, ℕ, ◌<◌, Bool, cond, List, [], ◌∷◌, length, get_or, Some, refl, ap, ◌∙◌}
use Rattle.std.specs.Prelude.{slice_get}
use Rattle.std.proofs.lemmas.Option.{slice_get_read}
use Rattle.dia_base.specs.declared.number.ConnId.{ConnId}
use Rattle.dia_message.specs.declared.message.Message.{Message}
use Rattle.dia_message.specs.Traffic.{Traffic}
use Rattle.front_core.specs.declared.worker.Worker.{Worker}
use Rattle.front_core.specs.declared.worker.Worker.TheVariants.{Idle, Done}
use Rattle.front_core.specs.FrontState.{FrontState, is_among}
use Rattle.front_core.specs.FrontStep.{with_worker, after_emit_by, after_emit}

-- the worker that was read there
pub held_at : (workers : List Worker) (at : ℕ) (held other : Worker) → at < length workers → held ≡ get_or workers at held → held ≡ other → slice_get workers at ≡ Some other
held_at workers at held other lt read is =
    slice_get_read workers (length workers) at held refl lt read ∙ ap (λ (w : Worker). Some w) is

-- what is sent, by whether the connection is up
abbrev pub sent_if : Bool → ConnId → Message → Traffic
sent_if up conn answer = cond up ((conn, answer) ∷ []) []

pub after_emit-done : (front : FrontState) (at : ℕ) (conn : ConnId) (answer : Message) (up : Bool) → slice_get front.workers at ≡ Some (Done conn answer) → is_among front.connections conn ≡ up
    → after_emit front at ≡ Some (with_worker front at Idle, sent_if up conn answer)
after_emit-done front at conn answer up held among =
    ap (after_emit_by front at) held ∙ ap (λ (b : Bool). Some (with_worker front at Idle, sent_if b conn answer)) among
