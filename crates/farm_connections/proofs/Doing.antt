-- What is said and done at one connection.
use Rattle.std.proofs.Common.{◌≡◌, ℕ, Bool, true, false, List, [], ◌∷◌, ◌++◌, Option, Some, None, Result, Ok, Err, IfOk, OnOk, OnErr, MatchResult, get_or, is_some, refl, sym, subst, ap, ◌∙◌}
use Rattle.std.specs.Prelude.{MatchBool, slice_set}
use Rattle.std.proofs.lemmas.List.{append-nil, append_assoc, set-get_or}
use Rattle.dia_base.specs.declared.number.Moment.{Moment}
use Rattle.dia_base.specs.declared.number.NodeNo.{NodeNo}
use Rattle.dia_message.specs.Traffic.{Traffic}
use Rattle.farm_node.specs.Events.{NodeEvent}
use Rattle.farm_node.specs.declared.error.NodeError.{NodeError}
use Rattle.farm_watch.specs.Numbering.{numbered, numbered_effect}
use Rattle.farm_watch.specs.Table.{Connection, Effect}
use Rattle.farm_watch.specs.declared.acts.Act.{Act}
use Rattle.farm_watch.specs.declared.numbering.Numbering.{Numbering}
use Rattle.farm_connections.specs.declared.desk.Desk.{Desk}
use Rattle.farm_connections.specs.declared.end.End.{End}
use Rattle.farm_connections.specs.declared.link.Link.{Link}
use Rattle.farm_connections.specs.declared.link.Standing.{Standing}
use Rattle.farm_connections.specs.declared.link.Standing.TheVariants.{Waiting, Up, Over}
use Rattle.farm_connections.specs.Counting.{Counts}
use Rattle.farm_connections.specs.Desks.{account_of, kept_by}
use Rattle.farm_connections.specs.Recording.{Records}
use Rattle.farm_connections.specs.Doing.{AtPlace, Becomes, DoesAct, IsStill, IsToldOnly, Lived, Lives, Performs, Says, goes_on, open_peer_of}
use Rattle.farm_connections.specs.Sending.{AllGoOut}
use Rattle.farm_connections.specs.Turns.{Kept, Mark}
use Rattle.farm_connections.proofs.Placing.{keeping}

-- what a node says that is told of the connection at a place
pub said_at : {N R W : Type 0} {On : N → NodeEvent → Traffic → Result (Unit {0}) NodeError → N → Type 0}
    {Then : Result (Unit {0}) NodeError → Link R W → Desk N R W → Type 0} (seen here link told : Link R W) (ev : Link R W → NodeEvent) (place : ℕ)
    (old new : Desk N R W) (next : N) (marks : List Mark) (made : ℕ) (sent : Traffic) (outcome : Result (Unit {0}) NodeError)
    → seen ≡ link → here ≡ link → On old.node (ev seen) sent outcome next → kept_by new ≡ keeping next marks made → IsToldOnly here told → Then outcome told new
    → AllGoOut (slice_set old.links.items place told) sent new.links.items → Records (ev seen) outcome sent old.recorder new.recorder
    → Counts (ev seen) outcome sent old.tally new.tally → Says On Then (ev link) place link old new
said_at {N} {R} {W} {On} seen here link told ev place old new next marks made sent outcome same also does kept only follows goes records counts = record {
  sent = sent;
  outcome = outcome;
  does =
      subst (λ (n : N). On old.node (ev link) sent outcome n) (sym (ap (λ (k : Kept N). k.node) kept))
      (subst (λ (l : Link R W). On old.node (ev l) sent outcome next) same does);
  told = told;
  only = subst (λ (l : Link R W). IsToldOnly l told) also only;
  follows = follows;
  goes = goes;
  records = subst (λ (l : Link R W). Records (ev l) outcome sent old.recorder new.recorder) same records;
  counts = subst (λ (l : Link R W). Counts (ev l) outcome sent old.tally new.tally) same counts;
}

-- what the connection at a place becomes
pub becomes_at : {N R W : Type 0} (Is : Link R W → Link R W → Type 0) (here link next : Link R W) (place : ℕ) (old new : Desk N R W) → here ≡ link
    → Is here next → account_of new ≡ account_of old → new.links.items ≡ slice_set old.links.items place next → Becomes (Is link) place old new
becomes_at {N} {R} {W} Is here link next place old new same is account links = record {
  next = next;
  holds = subst (λ (l : Link R W). Is l next) same is;
  account_is = account;
  links_are = links;
}

-- ---- on which connections a node is told of something

-- one that is open has a node that is up
pub peer_up : (standing : Standing) (end : Option (End × Moment)) (peer : NodeNo) → Some peer ≡ open_peer_of standing end → standing ≡ Up peer
peer_up Waiting None peer is = absurd cc
peer_up Waiting (Some ended) peer is = absurd cc
peer_up (Up other) None peer is = cc
peer_up (Up other) (Some ended) peer is = absurd cc
peer_up (Over other) None peer is = absurd cc
peer_up (Over other) (Some ended) peer is = absurd cc

pub open_up : (standing : Standing) (end : Option (End × Moment)) → is_some (open_peer_of standing end) ≡ true → (peer : NodeNo) × (standing ≡ Up peer)
open_up Waiting None is = absurd cc
open_up Waiting (Some ended) is = absurd cc
open_up (Up peer) None is = (peer, refl)
open_up (Up peer) (Some ended) is = absurd cc
open_up (Over peer) None is = absurd cc
open_up (Over peer) (Some ended) is = absurd cc

pub where_true : (A B : Type 0) (b : Bool) → b ≡ true → A → MatchBool b A B
where_true A B true is a = a
where_true A B false is a = absurd cc

pub where_false : (A B : Type 0) (b : Bool) → b ≡ false → B → MatchBool b A B
where_false A B true is b = absurd cc
where_false A B false is b = b

-- ---- acts

-- acts that are done, and those that are left
pub record Done {N R W : Type 0} (On : N → NodeEvent → Traffic → Result (Unit {0}) NodeError → N → Type 0) (place : ℕ) (first : Desk N R W)
    (all left : List Act) (now : Desk N R W) : Type 0 where
  pub done : List Act
  pub all_is : all ≡ done ++ left
  pub performs : Performs On place first done now

pub one_done : {N R W : Type 0} {On : N → NodeEvent → Traffic → Result (Unit {0}) NodeError → N → Type 0} (place : ℕ) (first mid new : Desk N R W)
    (all left rest : List Act) (act : Act) → Done On place first all left mid → left ≡ act ∷ rest
    → AtPlace mid place (λ link. DoesAct On place act link mid new) → Done On place first all rest new
one_done place first mid new all left rest act before is does = record {
  done = before.done ++ act ∷ [];
  all_is = before.all_is ∙ ap (λ (acts : List Act). before.done ++ acts) is ∙ sym (append_assoc before.done (act ∷ []) rest);
  performs = goes_on before.done mid new act before.performs does;
}

-- the first of them is this one
pub acts_left : (left rest : List Act) (act is_act : Act) → left ≡ act ∷ rest → act ≡ is_act → left ≡ is_act ∷ rest
acts_left left rest act is_act taken is = taken ∙ ap (λ (a : Act). a ∷ rest) is

pub all_done : {N R W : Type 0} {On : N → NodeEvent → Traffic → Result (Unit {0}) NodeError → N → Type 0} (place : ℕ) (first now : Desk N R W)
    (all left : List Act) → Done On place first all left now → left ≡ [] → Performs On place first all now
all_done {N} {R} {W} {On} place first now all left before none =
    subst (λ (acts : List Act). Performs On place first acts now)
    (sym (before.all_is ∙ ap (λ (acts : List Act). before.done ++ acts) none ∙ append-nil before.done)) before.performs

-- where the one is told of, so is the other
pub also_failed : {A E : Type 0} (outcome : Result A E) (b c : Bool) → OnErr outcome (b ≡ true) → c ≡ b → OnErr outcome (c ≡ true)
also_failed (Ok a) b c told same = told
also_failed (Err e) b c told same = same ∙ told

-- ---- the life of a connection

lived : {N R W E : Type 0} (result : Result (List Act) E) (effect : Effect) (here next : Link R W) (place : ℕ) (old new : Desk N R W)
    → here ≡ get_or old.links.items place here → IfOk result (λ acts. acts ≡ effect.acts) → OnOk result (next ≡ record here { watch = effect.next })
    → OnErr result (next ≡ here) → account_of new ≡ account_of old → new.links.items ≡ slice_set old.links.items place next
    → MatchResult result (λ acts. Lived effect acts place here old new) (λ e. IsStill old new)
lived {N} {R} {W} (Ok acts) effect here next place old new read is on still account links = record {
  acts_are = is;
  account_is = account;
  links_are = links ∙ ap (λ (l : Link R W). slice_set old.links.items place l) on;
}
lived {N} {R} {W} (Err e) effect here next place old new read is on still account links = record {
  account_is = account;
  links_are = links ∙ ap (λ (l : Link R W). slice_set old.links.items place l) (still ∙ read) ∙ set-get_or old.links.items place here;
}

-- where its requests are numbered
pub numbered_said : {E : Type 0} (said result : Result (List Act) E) (numbering : Numbering) (moment : Moment) (effect : Effect) (IsNext IsSame : Type 0)
    → MatchResult said (λ acts. result ≡ Ok (numbered numbering moment acts)) (λ error. result ≡ Err error) → IfOk said (λ acts. acts ≡ effect.acts)
    → OnOk said IsNext → OnErr said IsSame
    → IfOk result (λ acts. acts ≡ (numbered_effect numbering moment effect).acts) × (OnOk result IsNext × OnErr result IsSame)
numbered_said (Ok acts) result numbering moment effect IsNext IsSame gives is next same =
    rw gives (ap (λ (all : List Act). numbered numbering moment all) is, (next, tt))
numbered_said (Err error) result numbering moment effect IsNext IsSame gives is next same = rw gives (tt, (tt, same))

-- what the life of the connection at a place says
pub lived_at : {N R W E : Type 0} (result : Result (List Act) E) (effect_of : Connection → Effect) (here link next : Link R W) (place : ℕ) (old new : Desk N R W)
    → here ≡ link → here ≡ get_or old.links.items place here → IfOk result (λ acts. acts ≡ (effect_of here.watch).acts)
    → OnOk result (next ≡ record here { watch = (effect_of here.watch).next }) → OnErr result (next ≡ here) → account_of new ≡ account_of old
    → new.links.items ≡ slice_set old.links.items place next
    → MatchResult result (λ acts. Lived (effect_of link.watch) acts place link old new) (λ e. IsStill old new)
lived_at {N} {R} {W} result effect_of here link next place old new same read is on still account links =
    subst (λ (l : Link R W). MatchResult result (λ acts. Lived (effect_of l.watch) acts place l old new) (λ e. IsStill old new)) same
    (lived result (effect_of here.watch) here next place old new read is on still account links)

-- the connection at a place as it lives on
pub lives_on : {R W : Type 0} (effect_of : Connection → Effect) (links : List (Link R W)) (place : ℕ) (here link : Link R W) (watch : Connection) → here ≡ link
    → watch ≡ (effect_of here.watch).next
    → slice_set links place (record here { watch = watch }) ≡ slice_set links place (record link { watch = (effect_of link.watch).next })
lives_on {R} {W} effect_of links place here link watch same next =
    ap (λ (w : Connection). slice_set links place (record here { watch = w })) next
    ∙ ap (λ (l : Link R W). slice_set links place (record l { watch = (effect_of l.watch).next })) same

-- and where it is as it was
pub stays_here : {R W : Type 0} (links : List (Link R W)) (place : ℕ) (here next : Link R W) → next ≡ here → here ≡ get_or links place here
    → slice_set links place next ≡ links
stays_here {R} {W} links place here next still read = ap (λ (l : Link R W). slice_set links place l) (still ∙ read) ∙ set-get_or links place here

-- and that it is done
pub lives_so : {N R W : Type 0} {On : N → NodeEvent → Traffic → Result (Unit {0}) NodeError → N → Type 0} (effect : Effect) (acts : List Act) (place : ℕ)
    (link : Link R W) (old mid new : Desk N R W) → Lived effect acts place link old mid → Performs On place mid acts new → Lives On effect place link old new
lives_so {N} {R} {W} {On} effect acts place link old mid new says does = record {
  mid = mid;
  account_is = says.account_is;
  links_are = says.links_are;
  performs = subst (λ (all : List Act). Performs On place mid all new) says.acts_are does;
}
