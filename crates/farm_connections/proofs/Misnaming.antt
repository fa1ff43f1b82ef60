-- An answer that names another node ends the connection.
use Rattle.std.proofs.Common.{◌≡◌, ◌==◌, ℕ, Bool, true, false, List, [], ◌∷◌, ◌++◌, Option, Some, None, Result, Ok, Err, IfOk, ap, arith, refl, subst, sym, ◌∙◌}
use Rattle.std.specs.Prelude.{◌&&◌, ◌||◌, if◌then◌else◌}
use Rattle.std.proofs.lemmas.Bool.Decides.{nat_tests}
use Rattle.std.specs.declared.vec.Vec.{Vec}
use Rattle.std.specs.declared.alloc.Global.{Global}
use Rattle.dia_base.specs.declared.number.Moment.{Moment}
use Rattle.dia_base.specs.declared.number.NodeNo.{NodeNo}
use Rattle.dia_message.specs.declared.message.Message.{Message}
use Rattle.farm_watch.specs.Capabilities.{avps_in, is_named, is_up}
use Rattle.farm_watch.specs.PeerMessages.{kind_of}
use Rattle.farm_watch.specs.Table.{Connection, Effect, drops, on_cea, on_kind}
use Rattle.farm_watch.specs.declared.kind.MessageKind.{MessageKind}
use Rattle.farm_watch.specs.declared.kind.MessageKind.TheVariants.{Cer, Cea, Dwr, Dwa, Dpr, Dpa, Other}
use Rattle.farm_watch.specs.declared.site.WatchSite.{WatchSite}
use Rattle.farm_watch.specs.declared.watch.Waits.{Waits}
use Rattle.farm_watch.specs.declared.watch.Waits.TheVariants.{ForCer, ForCea, ForMessage, ForDwa, ForDpa, ForClose, ForNothing}
use Rattle.farm_connections.specs.declared.link.Link.{Link}
use Rattle.farm_connections.specs.Naming.{IsKeptOut, awaited, is_cea, is_own, misnamed, misnamed_by}

or_true : (a b : Bool) → b ≡ true → (a || b) ≡ true
or_true true b is = refl
or_true false b is = is

nobody : (b : Bool) (site : WatchSite) (m : Message) (node : NodeNo) → misnamed_by b site m None ≡ Some node → ⊥
nobody true site m node is = absurd cc
nobody false site m node is = absurd cc

dropped_where : (b : Bool) (conn : Connection) (other : Effect) → b ≡ true → (if b then drops conn else other) ≡ drops conn
dropped_where true conn other is = refl
dropped_where false conn other is = absurd cc

-- the answer names it or does not
dropped_by : (b : Bool) (nodes : List NodeNo) (conn : Connection) (moment : Moment) (body : List ℕ) (awaited node : NodeNo)
    → (if b then None else Some awaited) ≡ Some node → IsKeptOut (if b then None else Some awaited) nodes
    → on_cea nodes conn moment awaited body ≡ drops conn
dropped_by true nodes conn moment body awaited node is out = absurd cc
dropped_by false nodes conn moment body awaited node is out = dropped_where (is_up nodes awaited) conn _ out

pub misnamed_drops : (site : WatchSite) (nodes : List NodeNo) (conn : Connection) (moment : Moment) (m : Message) (own : Bool) (waits : Waits) (kind : MessageKind)
    (node : NodeNo) → misnamed_by (own && is_cea kind) site m (awaited waits) ≡ Some node
    → IsKeptOut (misnamed_by (own && is_cea kind) site m (awaited waits)) nodes → on_kind site nodes conn moment m waits kind ≡ drops conn
misnamed_drops site nodes conn moment m own (ForCer since) kind node is out = absurd (nobody (own && is_cea kind) site m node is)
misnamed_drops site nodes conn moment m own (ForMessage since) kind node is out = absurd (nobody (own && is_cea kind) site m node is)
misnamed_drops site nodes conn moment m own (ForDwa since) kind node is out = absurd (nobody (own && is_cea kind) site m node is)
misnamed_drops site nodes conn moment m own (ForDpa since) kind node is out = absurd (nobody (own && is_cea kind) site m node is)
misnamed_drops site nodes conn moment m own (ForClose since) kind node is out = absurd (nobody (own && is_cea kind) site m node is)
misnamed_drops site nodes conn moment m own ForNothing kind node is out = absurd (nobody (own && is_cea kind) site m node is)
misnamed_drops site nodes conn moment m false (ForCea n since) kind node is out = absurd cc
misnamed_drops site nodes conn moment m true (ForCea n since) Cea node is out =
    dropped_by (is_named site n (avps_in m.body)) nodes conn moment m.body n node is out
misnamed_drops site nodes conn moment m true (ForCea n since) Cer node is out = absurd cc
misnamed_drops site nodes conn moment m true (ForCea n since) Dwr node is out = absurd cc
misnamed_drops site nodes conn moment m true (ForCea n since) Dwa node is out = absurd cc
misnamed_drops site nodes conn moment m true (ForCea n since) Dpr node is out = absurd cc
misnamed_drops site nodes conn moment m true (ForCea n since) Dpa node is out = absurd cc
misnamed_drops site nodes conn moment m true (ForCea n since) Other node is out = absurd cc

in_the_end : (nodes : List NodeNo) (node : NodeNo) → is_up (nodes ++ node ∷ []) node ≡ true
in_the_end [] node = grind (arith, nat_tests)
in_the_end (other ∷ nodes) node = or_true (other.0 == node.0) (is_up (nodes ++ node ∷ []) node) (in_the_end nodes node)

nobody_by : (b : Bool) (site : WatchSite) (m : Message) → misnamed_by b site m None ≡ None
nobody_by true site m = refl
nobody_by false site m = refl

-- on a connection that waits for no node's answer nobody is misnamed
pub nobody_misnamed : {R W : Type 0} (link : Link R W) (site : WatchSite) (m : Message) → awaited link.watch.waits ≡ None → misnamed link site m ≡ None
nobody_misnamed {R} {W} link site m none =
    let own : Bool = is_own link.names && is_cea (kind_of m.header) in
    ap (λ (awaits : Option NodeNo). misnamed_by own site m awaits) none ∙ nobody_by own site m

-- the nodes that are not welcome, if there was memory for them, and who is among them
abbrev pub KeepsOut : {E : Type 0} → Option NodeNo → Result (Vec NodeNo Global) E → Type 0
KeepsOut misnamed result = IfOk result (λ nodes. IsKeptOut misnamed nodes.items)

pub kept_so : {E : Type 0} (misnamed : Option NodeNo) (result asked : Result (Vec NodeNo Global) E) → result ≡ asked → KeepsOut misnamed asked
    → KeepsOut misnamed result
kept_so {E} misnamed result asked same out = subst (λ (r : Result (Vec NodeNo Global) E). KeepsOut misnamed r) (sym same) out

-- where nobody is misnamed nobody more is kept out
pub kept_none : (found named : Option NodeNo) (nodes : List NodeNo) → found ≡ None → found ≡ named → IsKeptOut named nodes
kept_none found named nodes none is = subst (λ (n : Option NodeNo). IsKeptOut n nodes) (sym none ∙ is) tt

-- the node that is put behind the others is kept out
pub kept_with : {E : Type 0} (result : Result (Vec NodeNo Global) E) (found named : Option NodeNo) (nodes : List NodeNo) (node : NodeNo)
    → found ≡ Some node → found ≡ named → IfOk result (λ more. more.items ≡ nodes ++ node ∷ []) → KeepsOut named result
kept_with (Ok more) found named nodes node it same is =
    subst (λ (n : Option NodeNo). IsKeptOut n more.items) (sym it ∙ same)
    (subst (λ (all : List NodeNo). is_up all node ≡ true) (sym is) (in_the_end nodes node))
kept_with (Err e) found named nodes node it same is = tt

-- the same of the connection at a place
pub kept_at : {R W : Type 0} (there here : Link R W) (site : WatchSite) (m : Message) (nodes lent : List NodeNo) → there ≡ here → lent ≡ nodes
    → IsKeptOut (misnamed there site m) nodes → IsKeptOut (misnamed here site m) lent
kept_at {R} {W} there here site m nodes lent same lends out =
    subst (λ (l : Link R W). IsKeptOut (misnamed l site m) lent) same
    (subst (λ (all : List NodeNo). IsKeptOut (misnamed there site m) all) (sym lends) out)
