-- Messages go out, one after the other.
use Rattle.std.proofs.Common.{◌≡◌, ℕ, ◌+◌, ◌<◌, ◌≤◌, List, [], ◌∷◌, ◌++◌, Option, Some, None, length, take, get_or, refl, sym, subst, ap, ◌∙◌}
use Rattle.std.proofs.lemmas.List.{append-nil, append_assoc, take_all, take_more}
use Rattle.dia_base.specs.declared.number.ConnId.{ConnId}
use Rattle.dia_base.specs.declared.number.Moment.{Moment}
use Rattle.dia_base.specs.declared.number.NodeNo.{NodeNo}
use Rattle.dia_message.specs.declared.message.Message.{Message}
use Rattle.dia_message.specs.Traffic.{Traffic}
use Rattle.farm_connections.specs.declared.desk.Desk.{Desk}
use Rattle.farm_connections.specs.declared.link.Link.{Link}
use Rattle.farm_net.specs.Connection.{Connection as Streams, connection}
use Rattle.farm_watch.specs.Numbering.{numbered}
use Rattle.farm_watch.specs.Table.{Connection, beginning}
use Rattle.farm_watch.specs.declared.acts.Act.{Act}
use Rattle.farm_watch.specs.declared.numbering.Numbering.{Numbering}
use Rattle.farm_watch.specs.declared.site.Side.{Side}
use Rattle.farm_watch.specs.declared.site.WatchSite.{WatchSite}
use Rattle.farm_metrics.specs.declared.tally.Tally.{Tally}
use Rattle.farm_connections.specs.declared.local.LocalNode.{LocalNode}
use Rattle.farm_connections.specs.Counting.{CountsAll, CountsSent, counts_more}
use Rattle.farm_connections.specs.Desks.{marks_of}
use Rattle.farm_connections.specs.Locals.{site_at}
use Rattle.farm_connections.specs.Sending.{AllGoOut, Begins, BeginsSo, GoesOut, GreetsAll, GreetsOn, IsPostedOn, IsSentOn, greets_more, one_more_goes, open_after}

-- a message is sent once its connection has one request fewer to answer, or as many
pub posted_on : {R W : Type 0} (message : Message) (here : Link R W) (unanswered : ℕ) (next : Link R W) → unanswered ≡ open_after here.«open» message
    → IsSentOn message (record here { «open» = unanswered }) next → next.«open» ≡ unanswered → IsPostedOn message here next
posted_on message here unanswered next is sent same = record {
  sent = record { goes = sent.goes; is_over = sent.is_over; only = sent.only };
  unanswered = same ∙ is;
}

pub one_more : {R W : Type 0} (first links next : List (Link R W)) (out : Traffic) (index : ℕ) (item : ConnId × Message) → index < length out
    → item ≡ get_or out index item → AllGoOut first (take index out) links → GoesOut item.0 item.1 links next → AllGoOut first (take (index + 1) out) next
one_more first links next out index item within read before goes =
    subst (λ (sent : Traffic). AllGoOut first sent next)
    (sym (take_more out index item within ∙ ap (λ (i : ConnId × Message). take index out ++ i ∷ []) (sym read)))
    (one_more_goes (take index out) item.0 item.1 links next before goes)

-- once the index is past them, all have gone out
pub all_gone : {R W : Type 0} (first links : List (Link R W)) (out : Traffic) (index : ℕ) → length out ≤ index → AllGoOut first (take index out) links
    → AllGoOut first out links
all_gone first links out index past goes = subst (λ (sent : Traffic). AllGoOut first sent links) (take_all index out past) goes

-- the same of how they are counted
pub one_counted : (first mid new : Tally) (out : Traffic) (index : ℕ) (item : ConnId × Message) → index < length out → item ≡ get_or out index item
    → CountsAll first (take index out) mid → CountsSent item.0 item.1 mid new → CountsAll first (take (index + 1) out) new
one_counted first mid new out index item within read before counts =
    subst (λ (sent : Traffic). CountsAll first sent new)
    (sym (take_more out index item within ∙ ap (λ (i : ConnId × Message). take index out ++ i ∷ []) (sym read)))
    (counts_more (take index out) mid new item.0 item.1 before counts)

pub all_counted : (first now : Tally) (out : Traffic) (index : ℕ) → length out ≤ index → CountsAll first (take index out) now → CountsAll first out now
all_counted first now out index past counts = subst (λ (sent : Traffic). CountsAll first sent now) (take_all index out past) counts

-- The messages up to this index have gone out, and the process has not changed in anything else that its node knows.
pub record GoneOut {N R W : Type 0} (old : Desk N R W) (out : Traffic) (index : ℕ) (now : Desk N R W) : Type 0 where
  pub node : now.node ≡ old.node
  pub marks : marks_of now.links.items ≡ marks_of old.links.items
  pub made : now.made ≡ old.made
  pub failed : now.failed ≡ old.failed
  pub places : length now.links.items ≡ length old.links.items
  pub sent : AllGoOut old.links.items (take index out) now.links.items
  pub counts : CountsAll old.tally (take index out) now.tally
  pub recorder : now.recorder ≡ old.recorder

-- and one more
pub one_gone : {N R W : Type 0} (old mid new : Desk N R W) (out : Traffic) (index : ℕ) (item : ConnId × Message) → index < length out
    → item ≡ get_or out index item → GoneOut old out index mid → new.node ≡ mid.node → new.made ≡ mid.made → new.failed ≡ mid.failed
    → new.recorder ≡ mid.recorder → marks_of new.links.items ≡ marks_of mid.links.items → length new.links.items ≡ length mid.links.items
    → CountsSent item.0 item.1 mid.tally new.tally → GoesOut item.0 item.1 mid.links.items new.links.items → GoneOut old out (index + 1) new
one_gone old mid new out index item within read before node made failed recorder marks places counts goes = record {
  node = node ∙ before.node;
  marks = marks ∙ before.marks;
  made = made ∙ before.made;
  failed = failed ∙ before.failed;
  places = places ∙ before.places;
  sent = one_more old.links.items mid.links.items new.links.items out index item within read before.sent goes;
  counts = one_counted old.tally mid.tally new.tally out index item within read before.counts counts;
  recorder = recorder ∙ before.recorder;
}

-- ---- what a new connection sends first

-- acts that are done, and those that are left
pub record Greeted {R W : Type 0} (first : Link R W) (all left : List Act) (now : Link R W) : Type 0 where
  pub done : List Act
  pub all_is : all ≡ done ++ left
  pub greets : GreetsAll first done now

pub one_greeted : {R W : Type 0} (first mid new : Link R W) (all left rest : List Act) (act : Act) → Greeted first all left mid → left ≡ act ∷ rest
    → GreetsOn act mid new → Greeted first all rest new
one_greeted first mid new all left rest act before is greets = record {
  done = before.done ++ act ∷ [];
  all_is = before.all_is ∙ ap (λ (acts : List Act). before.done ++ acts) is ∙ sym (append_assoc before.done (act ∷ []) rest);
  greets = greets_more before.done act mid new before.greets greets;
}

pub all_greeted : {R W : Type 0} (first now : Link R W) (all left : List Act) → Greeted first all left now → left ≡ [] → GreetsAll first all now
all_greeted {R} {W} first now all left before none =
    subst (λ (acts : List Act). GreetsAll first acts now) (sym (before.all_is ∙ ap (λ (acts : List Act). before.done ++ acts) none ∙ append-nil before.done))
    before.greets

-- the site by which a life has begun
pub record Begun (found : Option WatchSite) (side : Side) (moment : Moment) (watch : Connection) (acts : List Act) : Type 0 where
  pub site : WatchSite
  pub is : found ≡ Some site
  pub next : watch ≡ (beginning site moment side).next
  pub says : acts ≡ (beginning site moment side).acts

pub begun_by : (found : Option WatchSite) (side : Side) (moment : Moment) (watch : Connection) (acts : List Act) → BeginsSo found side moment watch acts
    → Begun found side moment watch acts
begun_by None side moment watch acts begins = absurd begins
begun_by (Some site) side moment watch acts begins = record { site = site; is = refl; next = begins.0; says = begins.1 }

pub begins_by : (found : Option WatchSite) (site : WatchSite) (side : Side) (moment : Moment) (watch : Connection) (acts : List Act) → found ≡ Some site
    → watch ≡ (beginning site moment side).next → acts ≡ (beginning site moment side).acts → BeginsSo found side moment watch acts
begins_by None site side moment watch acts is next says = absurd cc
begins_by (Some other) site side moment watch acts is next says =
    subst (λ (found : Option WatchSite). BeginsSo found side moment watch acts) (sym is) (next, says)

-- a new connection begins so
pub begins_here : {R W : Type 0} (locals : List LocalNode) (numbering : Numbering) (local : NodeNo) (side : Side) (moment : Moment) (old mid new : List (Link R W))
    (fresh link : Link R W) (reader : R) (writer : W) (watch : Connection) (acts sent : List Act) → BeginsSo (site_at local locals) side moment watch acts
    → fresh.end ≡ None → fresh.conn ≡ connection reader writer → fresh.watch ≡ watch → sent ≡ numbered numbering moment acts → GreetsAll fresh sent link
    → mid ≡ old → new ≡ mid ++ link ∷ [] → Begins locals numbering local side moment old new
begins_here {R} {W} locals numbering local side moment old mid new fresh link reader writer watch acts sent begins no_end conn watched numbers greets same is =
    let begun = begun_by (site_at local locals) side moment watch acts begins in
    record {
      site = begun.site;
      at = begun.is;
      fresh = fresh;
      is_fresh = record {
        no_end = no_end;
        is_open = ap (λ (streams : Streams R W). streams.stage) conn;
        unsent = ap (λ (streams : Streams R W). streams.unsent) conn;
        watch_is = watched ∙ begun.next;
      };
      link = link;
      greets = subst (λ (all : List Act). GreetsAll fresh all link) (numbers ∙ ap (λ (all : List Act). numbered numbering moment all) begun.says) greets;
      links_are = is ∙ ap (λ (links : List (Link R W)). links ++ link ∷ []) same;
    }
