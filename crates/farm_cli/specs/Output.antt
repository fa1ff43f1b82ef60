-- What a run prints: a line for each message that a client received, the end line, and the report.
use Rattle.std.specs.Prelude.{ℕ, ◌-◌, List, [], ◌∷◌, ◌++◌, length, codes, Option, Some, None, slice_get, if◌then◌else◌}
use Rattle.std.specs.List.{concat, flat_map}
use Rattle.std.specs.Fmt.{decimal}
use Rattle.hex.specs.Hex.{encode_lower}
use Rattle.dia_base.specs.declared.number.ConnId.{ConnId}
use Rattle.dia_base.specs.declared.number.NodeNo.{NodeNo}
use Rattle.dia_message.specs.declared.message.Message.{Message}
use Rattle.dia_message.specs.Spelling.{octets_of}
use Rattle.farm_base.specs.declared.site.Site.{Site}
use Rattle.farm_base.specs.declared.site.Node.{Node}
use Rattle.farm_model.specs.declared.state.Trace.{Trace}
use Rattle.farm_report.specs.Report.{line_feed, report_of}
use Rattle.farm_base.specs.Nodes.{is_client}
use Rattle.farm_command.specs.declared.command.Action.{Action}
use Rattle.farm_command.specs.declared.command.Action.TheVariants.{Replay, Report}

-- the name of a node of the site
abbrev pub name_in : Option Node → List ℕ
name_in None = []
name_in (Some node) = node.name

abbrev pub name_at : Site → NodeNo → List ℕ
name_at site node = name_in (slice_get site.nodes node.0)

-- the client among the two nodes of a connection
abbrev pub client_name_in : Site → Option (NodeNo × NodeNo) → List ℕ
client_name_in site None = []
client_name_in site (Some ends) = name_at site (if is_client site ends.0 then ends.0 else ends.1)

-- connections are numbered from 1
abbrev pub client_name : Site → List (NodeNo × NodeNo) → ConnId → List ℕ
client_name site ends conn = client_name_in site (slice_get ends (conn.0 - 1))

-- `recv CLIENT CONN HEX`
abbrev pub recv_line : Site → List (NodeNo × NodeNo) → ConnId × Message → List ℕ
recv_line site ends item = concat (
    codes "recv " ∷ client_name site ends item.0 ∷ codes " " ∷ decimal item.0.0 ∷ codes " "
    ∷ encode_lower (octets_of item.1) ∷ line_feed ∷ [])

-- `end steps N skipped M entries K`
abbrev pub end_line : ℕ → ℕ → ℕ → List ℕ
end_line steps skipped entries = concat (
    codes "end steps " ∷ decimal steps ∷ codes " skipped " ∷ decimal skipped
    ∷ codes " entries " ∷ decimal entries ∷ line_feed ∷ [])

-- what comes before the report: of a run of so many steps
abbrev pub lines_of : Site → ℕ → Trace → List ℕ
lines_of site steps trace =
    flat_map (recv_line site trace.ends) trace.received ++ end_line steps trace.skipped (length trace.book.history)

-- what is printed of a run of so many steps
abbrev pub output_of : Action → Site → ℕ → Trace → List ℕ
output_of Replay site steps trace = lines_of site steps trace ++ report_of trace.book
output_of Report site steps trace = report_of trace.book
