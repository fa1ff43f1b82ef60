-- How many requests a connection may have open of the room of its node, where the site asks for fairness.
use Rattle.std.specs.Prelude.{ℕ, ◌-◌, ◌/◌, ◌^◌, ◌==◌, ◌||◌, Bool, count_by, max, nat_lt, Option, Some, None, if◌then◌else◌}
use Rattle.dia_base.specs.Limits.{pending_limit}
use Rattle.dia_base.specs.declared.node.NodeKind.{NodeKind}
use Rattle.dia_base.specs.declared.node.NodeKind.TheVariants.{Front, Relay, Client}
use Rattle.dia_base.specs.declared.number.NodeNo.{NodeNo}
use Rattle.farm_base.specs.declared.site.Site.{Site}
use Rattle.farm_event_loop.specs.declared.pause.Traffic.{Traffic}
use Rattle.farm_event_loop.specs.declared.pause.Traffic.TheVariants.{Requests, Answers, Both}

-- The room of a node by its links, and one request at least: the queue of a front, or the pending table of a relay.
abbrev pub share_of : ℕ → ℕ → ℕ
share_of room links = max (room / max links 1) 1

-- ---- of a site

-- how many requests a node has room for
abbrev pub room_of : Site → NodeKind → ℕ
room_of site Front = site.queue
room_of site Relay = pending_limit
room_of site Client = 0

-- how many links a node has
abbrev pub links_of : Site → NodeNo → ℕ
links_of site node = count_by (λ link. (link.from.0 == node.0) || (link.to.0 == node.0)) site.links

-- the share of each connection of a node
abbrev pub share_at : Site → NodeNo → NodeKind → ℕ
share_at site node kind = share_of (room_of site kind) (links_of site node)

-- ---- of a connection

-- as many as come
abbrev pub no_limit : ℕ
no_limit = 2 ^ 64 - 1

-- How many messages are read at most of a connection on which so many requests wait for answers. One that brings requests alone and has its
-- share waiting is not read; if it has waited for too long, one message is, so that its neighbour is heard.
abbrev pub room_left : Traffic → Option ℕ → ℕ → Bool → ℕ
room_left Requests (Some share) unanswered is_over = if nat_lt unanswered share then share - unanswered else if is_over then 1 else 0
room_left Requests None unanswered is_over = no_limit
room_left Answers share unanswered is_over = no_limit
room_left Both share unanswered is_over = no_limit
