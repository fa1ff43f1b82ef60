use Rattle.std.proofs.Common.{rules, ◌≡◌, length, Some}
use Rattle.toml.specs.Parse.{parse_document}
use Rattle.toml.specs.View.{table_view}
use Rattle.farm_site.proofs.Reading.{is_file, is_read, no_longer, spelled_text}
use Rattle.farm_site.proofs.Refusing.{why_text}
use Rattle.farm_site.proofs.site_of.Goals as goal

pub returns-clause-fault : goal.returns-clause-fault
returns-clause-fault c =
    let document : parse_document c.args.text.now ≡ Some (table_view c.new.result.table.now) = search rules in
    why_text c.args.text.now (table_view c.new.result.table.now) c.site_in.result document c.site_in.ensures.fault

pub returns-clause-read : goal.returns-clause-read
returns-clause-read c = λ site file.
    let text = c.args.text.now in
    let document : parse_document text ≡ Some (table_view c.new.result.table.now) = search rules in
    is_read text c.site_in.result
    (spelled_text text (table_view c.new.result.table.now) c.site_in.result document c.site_in.ensures.spelled)
    (why_text text (table_view c.new.result.table.now) c.site_in.result document c.site_in.ensures.fault)
    site file

pub returns-clause-file : goal.returns-clause-file
returns-clause-file c =
    let text = c.args.text.now in
    let document : parse_document text ≡ Some (table_view c.new.result.table.now) = search rules in
    is_file text c.site_in.result
    (spelled_text text (table_view c.new.result.table.now) c.site_in.result document c.site_in.ensures.spelled)
    c.site_in.ensures.checked c.site_in.ensures.typed
    (no_longer (length text) 16777216 (λ long. absurd (let wrong = c.in_ok-table.ensures.long long in cc)))
