-- The limits of the farm. They are apart from the constants of the same names, so that a wrong constant is refused.
use Rattle.std.specs.Prelude.{ℕ}

-- the longest message in octets, with its header
abbrev pub message_limit : ℕ
message_limit = 262144

-- the most requests that wait in the queue of a front
abbrev pub queue_limit : ℕ
queue_limit = 1024

-- the most workers of a front
abbrev pub worker_limit : ℕ
worker_limit = 16

-- the most services of a request
abbrev pub service_limit : ℕ
service_limit = 32

-- the most entries of the account book
abbrev pub history_limit : ℕ
history_limit = 1048576

-- the most requests that a relay has forwarded and that are not answered yet
abbrev pub pending_limit : ℕ
pending_limit = 16384

-- the longest schedule in octets
abbrev pub schedule_limit : ℕ
schedule_limit = 16777216

-- the most steps of a schedule
abbrev pub step_limit : ℕ
step_limit = 1000000
