use Rattle.std.proofs.Common.{◌≡◌, ◌<◌, List, ap, get_or, length, refl, subst, sym, ◌∙◌}
use Rattle.std.specs.Prelude.{slice_set}
use Rattle.farm_watch.specs.Table.{Connection, after_message}
use Rattle.farm_watch.specs.declared.watch.Waits.{Waits}
use Rattle.farm_connections.specs.declared.desk.Desk.{Desk}
use Rattle.farm_connections.specs.declared.link.Link.{Link}
use Rattle.farm_connections.specs.Desks.{account_of, kept_by}
use Rattle.farm_connections.specs.Naming.{awaited, misnamed}
use Rattle.farm_connections.specs.Turns.{Mark}
use Rattle.farm_connections.proofs.Placing.{keeping, same_marks, same_read}
use Rattle.farm_connections.proofs.Doing.{lives_on, stays_here}
use Rattle.farm_connections.proofs.Locals.{site_there, unheard_here, unheard_nowhere}
use Rattle.farm_connections.proofs.Misnaming.{KeepsOut, kept_at, kept_none, kept_so, nobody_misnamed}
use Rattle.farm_connections.proofs.desk.Desk.acts_at_message.Goals as goal
use Rattle.farm_connections.proofs.desk.Desk.acts_at_message.Goals.{Joined-asks_who_is_up, else-asks_who_is_up, then-asks_who_is_up}

-- while it is asked who is not welcome, at most a note is made
kept_so_far : (g : _) → (c : Joined-asks_who_is_up g) → kept_by c.if-asks_who_is_up.self ≡ kept_by c.args.self.now
kept_so_far g c = elim c.if-asks_who_is_up.branch [
  | then-asks_who_is_up w ↦ ap (λ (desk : Desk _ _ _). kept_by desk) w.self-is
  | else-asks_who_is_up w ↦ ap (λ (desk : Desk _ _ _). kept_by desk) w.self-is
]

same_links : (g : _) → (c : Joined-asks_who_is_up g) → c.if-asks_who_is_up.self.links ≡ c.args.self.now.links
same_links g c = elim c.if-asks_who_is_up.branch [
  | then-asks_who_is_up w ↦ ap (λ (desk : Desk _ _ _). desk.links) w.self-is
  | else-asks_who_is_up w ↦ ap (λ (desk : Desk _ _ _). desk.links) w.self-is
]

same_account : (g : _) → (c : Joined-asks_who_is_up g) → account_of c.if-asks_who_is_up.self ≡ account_of c.args.self.now
same_account g c = elim c.if-asks_who_is_up.branch [
  | then-asks_who_is_up w ↦ ap (λ (desk : Desk _ _ _). account_of desk) w.self-is
  | else-asks_who_is_up w ↦ ap (λ (desk : Desk _ _ _). account_of desk) w.self-is
]

-- the node that the answer does not name is not welcome
kept_out : (g : _) → (c : Joined-asks_who_is_up g)
    → KeepsOut (misnamed c.index-link.result.now c.in-Some.site.now c.args.message) c.if-asks_who_is_up.unwelcome
kept_out g c = elim c.if-asks_who_is_up.branch [
  | then-asks_who_is_up w ↦ kept_so _ _ _ w.unwelcome-is w.unwelcome_on-unwelcome.ensures
  | else-asks_who_is_up w ↦
      let none = ap (λ (waits : Waits). awaited waits) (sym c.waits.ensures) ∙ c.asks_who_is_up.ensures.nobody w.if-asks_who_is_up.false in
      kept_so _ _ _ w.unwelcome-is (kept_none _ _ _ refl (sym (nobody_misnamed c.index-link.result.now c.in-Some.site.now c.args.message none)))
]

pub returns-in_default-clause-heard : goal.returns-in_default-clause-heard
returns-in_default-clause-heard g c = λ link read.
    let same = same_read c.args.self.now.links.items c.args.place c.index-link.result.now link c.requires c.index-link.ensures read in
    (unheard_nowhere _ (site_there c.index-link.result.now link c.args.locals.now _ same c.in_default.ensures), record { account_is = refl; links_are = refl })

pub returns-in_default-unwelcome-clause-kept : goal.returns-in_default-unwelcome-clause-kept
returns-in_default-unwelcome-clause-kept g c = kept_so_far g (goal.at.returns-in_default-unwelcome-clause-kept g c).Joined-asks_who_is_up

pub returns-in_default-unwelcome-clause-heard : goal.returns-in_default-unwelcome-clause-heard
returns-in_default-unwelcome-clause-heard g c = λ link read.
    let same = same_read c.args.self.now.links.items c.args.place c.index-link.result.now link c.requires c.index-link.ensures read in
    (unheard_here _ _ _ (site_there c.index-link.result.now link c.args.locals.now _ same c.in-Some.ensures) refl, record { account_is = same_account g (goal.at.returns-in_default-unwelcome-clause-heard g c).Joined-asks_who_is_up; links_are = ap (λ links. links.items) (same_links g (goal.at.returns-in_default-unwelcome-clause-heard g c).Joined-asks_who_is_up) })

pub returns-in-Ok-on_message-clause-kept : goal.returns-in-Ok-on_message-clause-kept
returns-in-Ok-on_message-clause-kept g c =
    let mid = c.if-asks_who_is_up.self in let here = c.index_mut.result.now in
    let within : c.args.place < length mid.links.items = subst (λ links. c.args.place < length links.items) (sym (same_links g (goal.at.returns-in-Ok-on_message-clause-kept g c).Joined-asks_who_is_up)) c.requires in
    ap (λ (marks : List Mark). keeping mid.node marks mid.made)
    (same_marks mid.links.items c.args.place here (record here { watch = c.on_message.new.self }) within c.index_mut.ensures.value refl) ∙ kept_so_far g (goal.at.returns-in-Ok-on_message-clause-kept g c).Joined-asks_who_is_up

pub returns-clause-kept : goal.returns-clause-kept
returns-clause-kept g c =
    let mid = c.if-asks_who_is_up.self in let here = c.index_mut.result.now in
    let within : c.args.place < length mid.links.items = subst (λ links. c.args.place < length links.items) (sym (same_links g (goal.at.returns-clause-kept g c).Joined-asks_who_is_up)) c.requires in
    ap (λ (marks : List Mark). keeping mid.node marks mid.made)
    (same_marks mid.links.items c.args.place here (record here { watch = c.on_message.new.self }) within c.index_mut.ensures.value refl) ∙ kept_so_far g (goal.at.returns-clause-kept g c).Joined-asks_who_is_up

pub returns-in-Ok-on_message-clause-heard : goal.returns-in-Ok-on_message-clause-heard
returns-in-Ok-on_message-clause-heard g c = λ link read.
    let joined = (goal.at.returns-in-Ok-on_message-clause-heard g c).Joined-asks_who_is_up in
    let old = c.args.self.now in let here = c.index_mut.result.now in let seen = c.index-link.result.now in
    let site = c.in-Some.site.now in let nodes = c.deref-2.result.now in
    let before : here ≡ get_or old.links.items c.args.place here =
    subst (λ links. here ≡ get_or links.items c.args.place here) (same_links g joined) c.index_mut.ensures.value in
    let same = same_read old.links.items c.args.place here link c.requires before read in
    let there = same_read old.links.items c.args.place seen link c.requires c.index-link.ensures read in
    let out = subst (λ unwelcome. KeepsOut (misnamed seen site c.args.message) unwelcome) c.in-Ok.is (kept_out g joined) in (
      site,
      site_there seen link c.args.locals.now _ there c.in-Some.ensures,
      nodes,
      kept_at seen link site c.args.message c.in-Ok.unwelcome.items nodes there c.deref-2.ensures.value out,
      record {
        acts_are = c.in-Ok-on_message.ensures.acts ∙ ap (λ (l : Link _ _). (after_message site nodes c.args.moment c.args.message l.watch).acts) same;
        account_is = same_account g joined;
        links_are = ap (λ links. slice_set links.items c.args.place (record here { watch = c.on_message.new.self })) (same_links g joined)
            ∙ lives_on (λ (watch : Connection). after_message site nodes c.args.moment c.args.message watch) old.links.items c.args.place here link
            c.on_message.new.self same c.in-Ok-on_message.ensures.next;
      },
    )

pub returns-clause-heard : goal.returns-clause-heard
returns-clause-heard g c = λ link read.
    let joined = (goal.at.returns-clause-heard g c).Joined-asks_who_is_up in
    let old = c.args.self.now in let here = c.index_mut.result.now in let seen = c.index-link.result.now in
    let next : Link _ _ = record here { watch = c.on_message.new.self } in
    let before : here ≡ get_or old.links.items c.args.place here =
    subst (λ links. here ≡ get_or links.items c.args.place here) (same_links g joined) c.index_mut.ensures.value in
    let there = same_read old.links.items c.args.place seen link c.requires c.index-link.ensures read in (
      unheard_here _ _ _ (site_there seen link c.args.locals.now _ there c.in-Some.ensures) refl,
      record {
        account_is = same_account g joined;
        links_are = ap (λ links. slice_set links.items c.args.place next) (same_links g joined)
            ∙ stays_here old.links.items c.args.place here next (ap (λ (watch : Connection). record here { watch = watch }) c.in-Err.ensures.err) before;
      },
    )
