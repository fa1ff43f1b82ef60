use Rattle.std.proofs.Common.{◌≡◌, subst, ◌∙◌, sym, arith, get_or, [], ◌∷◌}
use Rattle.std.specs.Prelude.{filter, ℤ}
use mir.Syntax.{w64}
use mir.Val.{SFits, of_z, to_z}
use Rattle.std.proofs.lemmas.Int.{to_z-of_z}
use Rattle.sqlite_value.specs.Order.{column}
use Rattle.sqlite_value.specs.declared.value.Value.TheVariants.{Blob}
use Rattle.sqlite_trees.specs.Tree.{has_rowid}
use Rattle.sqlite_trees.specs.View.{IsClean}
use Rattle.book_store.specs.Table.{rows_in}
use Rattle.book_store.proofs.Tables.{if_ok_map, row_of_place}
use Rattle.book_store.proofs.tree.octets_at.Goals as goal

pub returns-in-Ok-true-clause-octets : goal.returns-in-Ok-true-clause-octets
returns-in-Ok-true-clause-octets g c =
    let table = (g.S.Store.view c.args.store.now).trees c.args.table in
    let is = c.in-Ok.ensures.1 in
    let fits : SFits w64 c.in-Ok.id = subst (λ (z : ℤ). SFits w64 z) (sym is) c.in-Ok.ensures.0 in
    if_ok_map c.octets_of.result (λ octets. column c.get.new.row 1 ≡ Blob octets.items) (λ octets. IsClean (g.S.Store.view c.get.new.self) → octets.items ≡ get_or (rows_in table) c.args.place [])
    (λ octets blob clean.
    let before : IsClean (g.S.Store.view c.args.store.now) = omega (arith, c.in-Ok-true.ensures.quiet.clean, clean) in
    let found : filter (has_rowid (to_z w64 (of_z w64 c.in-Ok.id))) table ≡ c.get.new.row ∷ [] = rw c.in-Ok-true.field-0-test at (c.in-Ok-true.ensures.ok clean) in
    row_of_place table c.args.place (to_z w64 (of_z w64 c.in-Ok.id)) c.get.new.row octets.items (c.requires.order before) (c.requires.within before) (to_z-of_z w64 c.in-Ok.id fits ∙ is) found blob)
    c.octets_of.ensures
