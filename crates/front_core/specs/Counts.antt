-- How many requests came on a connection, how many of them wait for an answer, and how many answers went out on it.
use Rattle.std.specs.Prelude.{ℕ, ◌+◌, Bool, false, ◌&&◌, ◌==◌, count_by}
use Rattle.dia_base.specs.declared.number.ConnId.{ConnId}
use Rattle.dia_message.specs.declared.message.Message.{Message}
use Rattle.dia_message.specs.Traffic.{Traffic}
use Rattle.front_core.specs.declared.worker.Worker.{Worker}
use Rattle.front_core.specs.declared.worker.Worker.TheVariants.{Idle, Picked, Done}
use Rattle.front_core.specs.FrontState.{FrontState}

-- on this connection, with these identifiers (RFC 6733, section 3)
abbrev pub is_with : ConnId → ℕ → ℕ → ConnId × Message → Bool
is_with conn hop end item = item.0.0 == conn.0 && item.1.header.hop == hop && item.1.header.end == end

abbrev pub requests_with : Traffic → ConnId → ℕ → ℕ → ℕ
requests_with sent conn hop end = count_by (λ item. item.1.header.request && is_with conn hop end item) sent

abbrev pub answers_with : Traffic → ConnId → ℕ → ℕ → ℕ
answers_with received conn hop end = count_by (is_with conn hop end) received

-- whether a worker holds such a request, or the answer to it
abbrev pub is_at_worker : ConnId → ℕ → ℕ → Worker → Bool
is_at_worker conn hop end Idle = false
is_at_worker conn hop end (Picked on message) = is_with conn hop end (on, message)
is_at_worker conn hop end (Done on answer) = is_with conn hop end (on, answer)

-- the requests of a front whose answers have not gone out: they wait in its queue, or a worker has them
abbrev pub unanswered_with : FrontState → ConnId → ℕ → ℕ → ℕ
unanswered_with front conn hop end =
    count_by (λ job. is_with conn hop end (job.conn, job.request)) front.queue + count_by (is_at_worker conn hop end) front.workers
