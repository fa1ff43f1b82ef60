-- A message comes on a connection: what was counted and recorded of it, and of what the node says to it.
use Rattle.std.proofs.Common.{◌≡◌, ◌<◌, ℕ, Bool, true, false, List, Result, OnErr, IsSome, get_or, length, refl, sym, subst, ap, ◌∙◌}
use Rattle.std.specs.Prelude.{MatchBool, slice_set}
use Rattle.dia_base.specs.declared.number.ConnId.{ConnId}
use Rattle.dia_base.specs.declared.number.NodeNo.{NodeNo}
use Rattle.dia_message.specs.declared.message.Message.{Message}
use Rattle.dia_message.specs.Traffic.{Traffic}
use Rattle.farm_metrics.specs.Tallying.{Came}
use Rattle.farm_metrics.specs.declared.tally.Tally.{Tally}
use Rattle.farm_node.specs.Events.{NodeEvent, message}
use Rattle.farm_node.specs.declared.error.NodeError.{NodeError}
use Rattle.farm_record.specs.Recording.{TellsAll, sent_word}
use Rattle.farm_record.specs.declared.recorder.Recorder.{Recorder}
use Rattle.farm_connections.specs.declared.desk.Desk.{Desk}
use Rattle.farm_connections.specs.declared.link.Link.{Link}
use Rattle.farm_connections.specs.declared.link.Standing.TheVariants.{Up}
use Rattle.farm_connections.specs.Counting.{CountsAll, CountsCome}
use Rattle.farm_connections.specs.Desks.{kept_by, mark_of, marks_of}
use Rattle.farm_connections.specs.Doing.{EndsWhereRefused, IsToldOnly, Says}
use Rattle.farm_connections.specs.Recording.{RecordsCome, RecordsReaction}
use Rattle.farm_connections.specs.Sending.{AllGoOut}
use Rattle.farm_connections.proofs.Doing.{said_at}
use Rattle.farm_connections.proofs.Placing.{keeping}
use Rattle.farm_connections.proofs.Telling.{Way, message_way, way_still}

-- ---- before the node is told

pub request_counted : (conn : ConnId) (m : Message) (old new : Tally) → m.header.request ≡ true → Came conn m.header.hop old new → CountsCome conn m old new
request_counted conn m old new asks came = subst (λ (b : Bool). MatchBool b (Came conn m.header.hop old new) (new ≡ old)) (sym asks) came

pub answer_counted : (conn : ConnId) (m : Message) (tally : Tally) → m.header.request ≡ false → CountsCome conn m tally tally
answer_counted conn m tally answers = subst (λ (b : Bool). MatchBool b (Came conn m.header.hop tally tally) (tally ≡ tally)) (sym answers) refl

-- it was counted, and nothing else has changed
pub record IsCounted {N R W : Type 0} (conn : ConnId) (m : Message) (old new : Desk N R W) : Type 0 where
  pub counts : CountsCome conn m old.tally new.tally
  pub only : new ≡ record old { tally = new.tally }

-- it was counted and recorded, and nothing else has changed
pub record HasCome {N R W : Type 0} (conn : ConnId) (m : Message) (old new : Desk N R W) : Type 0 where
  pub counts : CountsCome conn m old.tally new.tally
  pub records : RecordsCome conn m old.recorder new.recorder
  pub only : new ≡ record old { tally = new.tally; recorder = new.recorder }

pub has_come : {N R W : Type 0} (conn : ConnId) (m : Message) (old mid : Desk N R W) (recorder : Recorder) → IsCounted conn m old mid
    → RecordsCome conn m mid.recorder recorder → HasCome conn m old (record mid { recorder = recorder })
has_come {N} {R} {W} conn m old mid recorder counted records = record {
  counts = counted.counts;
  records = subst (λ (r : Recorder). RecordsCome conn m r recorder) (ap (λ (desk : Desk N R W). desk.recorder) counted.only) records;
  only = ap (λ (desk : Desk N R W). record desk { recorder = recorder }) counted.only;
}

-- ---- once it was told

-- What the node says to the message was recorded and not sent yet: the node, the connections, the last number and the tally are these.
pub record HasReacted {N R W : Type 0} (node : N) (links : List (Link R W)) (made : ℕ) (tally : Tally) (outcome : Result (Unit {0}) NodeError)
    (sent : Traffic) (told : Recorder) (desk : Desk N R W) : Type 0 where
  pub node_is : desk.node ≡ node
  pub links_are : desk.links.items ≡ links
  pub made_is : desk.made ≡ made
  pub tally_is : desk.tally ≡ tally
  pub records : RecordsReaction outcome sent told desk.recorder

same_links : {N R W : Type 0} (conn : ConnId) (m : Message) (old mid : Desk N R W) (place : ℕ) (link : Link R W) → HasCome conn m old mid
    → slice_set mid.links.items place link ≡ slice_set old.links.items place link
same_links {N} {R} {W} conn m old mid place link come =
    ap (λ (links : List (Link R W)). slice_set links place link) (ap (λ (desk : Desk N R W). desk.links.items) come.only)

-- that is a message on its way
pub message_tells : {N R W : Type 0} {On : N → NodeEvent → Traffic → Result (Unit {0}) NodeError → N → Type 0} (old mid at new : Desk N R W) (place : ℕ)
    (link other : Link R W) (peer : NodeNo) (m : Message) (node : N) (sent : Traffic) (outcome : Result (Unit {0}) NodeError) → place < length old.links.items
    → link ≡ get_or old.links.items place link → link.standing ≡ Up peer → mark_of other ≡ mark_of link → HasCome link.id m old mid
    → On mid.node (message link.id m) sent outcome node
    → HasReacted node (slice_set mid.links.items place other) mid.made mid.tally outcome sent mid.recorder at → kept_by new ≡ kept_by at
    → Way On (kept_by old) (kept_by new)
message_tells {N} {R} {W} {On} old mid at new place link other peer m node sent outcome within read is_up is come does reacted kept =
    let before = subst (λ (n : N). On n (message link.id m) sent outcome node) (ap (λ (desk : Desk N R W). desk.node) come.only) does in
    let links = slice_set old.links.items place other in
    let same : at.links.items ≡ links = reacted.links_are ∙ same_links link.id m old mid place other come in
    let made : at.made ≡ old.made = reacted.made_is ∙ ap (λ (desk : Desk N R W). desk.made) come.only in
    way_still _ _ _ (message_way old.node node old.links.items place link other old.made peer m sent outcome within read is_up is before)
    (kept
    ∙ ap (λ (n : N). keeping n (marks_of at.links.items) at.made) reacted.node_is
    ∙ ap (λ (ls : List (Link R W)). keeping node (marks_of ls) at.made) same
    ∙ ap (λ (n : ℕ). keeping node (marks_of links) n) made)

-- and all that the node says goes out
pub message_says : {N R W : Type 0} {On : N → NodeEvent → Traffic → Result (Unit {0}) NodeError → N → Type 0} (old mid at new : Desk N R W) (place : ℕ)
    (seen here link told : Link R W) (m : Message) (node : N) (sent : Traffic) (outcome : Result (Unit {0}) NodeError) → seen ≡ link → here ≡ link
    → HasCome seen.id m old mid → On mid.node (message seen.id m) sent outcome node → IsToldOnly here told → OnErr outcome (IsSome told.end)
    → HasReacted node (slice_set mid.links.items place told) mid.made mid.tally outcome sent mid.recorder at → kept_by new ≡ kept_by at
    → AllGoOut at.links.items sent new.links.items → CountsAll at.tally sent new.tally → new.recorder ≡ at.recorder
    → Says On EndsWhereRefused (message link.id m) place link old new
message_says {N} {R} {W} {On} old mid at new place seen here link told m node sent outcome same also come does only refused reacted kept goes counts recorder =
    let said = reacted.records in
    said_at seen here link told (λ (l : Link R W). message l.id m) place old new node (marks_of at.links.items) at.made sent outcome same also
    (subst (λ (n : N). On n (message seen.id m) sent outcome node) (ap (λ (desk : Desk N R W). desk.node) come.only) does)
    (kept ∙ ap (λ (n : N). keeping n (marks_of at.links.items) at.made) reacted.node_is)
    only refused
    (subst (λ (links : List (Link R W)). AllGoOut links sent new.links.items) (reacted.links_are ∙ same_links seen.id m old mid place told come) goes)
    (record {
      mid = said.mid;
      told = record { mid = mid.recorder; comes = come.records; stays = said.stays };
      sends = subst (λ (r : Recorder). TellsAll (sent_word said.mid.is_client) said.mid sent r) (sym recorder) said.sends;
    })
    (record {
      mid = mid.tally;
      told = come.counts;
      sends = subst (λ (tally : Tally). CountsAll tally sent new.tally) reacted.tally_is counts;
    })
