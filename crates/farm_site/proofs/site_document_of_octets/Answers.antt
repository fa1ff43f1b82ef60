use Rattle.std.proofs.Common.{rules, ◌≡◌, Err, Some}
use Rattle.toml.specs.Parse.{parse_document}
use Rattle.toml.specs.View.{table_view}
use Rattle.farm_site.proofs.Refusing.{why_octets, why_text}
use Rattle.farm_site.proofs.site_document_of_octets.Goals as goal

pub returns-in-Err-clause-fault : goal.returns-in-Err-clause-fault
returns-in-Err-clause-fault c =
    let text = c.in-Ok.text.now in
    let file = table_view c.new.result.table.now in
    let document : parse_document text ≡ Some file = search rules in
    why_octets c.args.octets.now text (Err c.in-Err.fault) c.in-Ok.ensures.cases.0
    (why_text text file (Err c.in-Err.fault) document c.in-Err.ensures.fault)
