use Rattle.std.proofs.Common.{◌≡◌, true, sym, ◌∙◌}
use Rattle.std.specs.Prelude.{is_some}
use Rattle.toml.specs.View.{table_view}
use Rattle.farm_site.proofs.Refusing.{group_twice, ident_beside_group, ident_twice}
use Rattle.farm_site.proofs.tariff.rated_by.Goals as goal
use Rattle.farm_site.proofs.tariff.rated_by.Goals.{else-is_some, then-is_some, then-is_some-2-via-else-is_some-2+then-is_rated-2, then-is_some-2-via-then-is_some-2}

pub returns-then-is_rated-clause-fault : goal.returns-then-is_rated-clause-fault
returns-then-is_rated-clause-fault c =
    group_twice c.args.before.now (table_view c.args.entry.table.now) c.in_ok-group.group c.in_ok-group.ensures.value (sym c.is_rated.ensures ∙ c.if-is_rated.true)

pub returns-then-is_some-2-clause-fault : goal.returns-then-is_some-2-clause-fault
returns-then-is_some-2-clause-fault c =
    let entry = table_view c.args.entry.table.now in
    elim c.then-is_some-2.branch [
      | then-is_some-2-via-then-is_some-2 w ↦ elim c.if-is_some.branch [
        | then-is_some v ↦
            let some_group : is_some c.in_ok-group.group ≡ true = cc in
            let some : is_some c.in_ok-ident.ident ≡ true = cc in
            ident_beside_group c.args.before.now entry c.in_ok-group.group c.in_ok-ident.ident c.in_ok-group.ensures.value c.in_ok-ident.ensures.value some_group some
        | else-is_some v ↦ absurd cc
      ]
      | then-is_some-2-via-else-is_some-2+then-is_rated-2 w ↦
          ident_twice c.args.before.now entry c.in_ok-ident.ident c.in_ok-ident.ensures.value (sym w.is_rated-else-is_some-2.ensures ∙ w.if-is_rated-2.true)
    ]
