use Rattle.std.proofs.Common.{◌≡◌, ◌++◌, take, string_bytes}
use Rattle.std.specs.List.{flat_map}
use Rattle.farm_status.specs.Escapes.{html_of}
use Rattle.farm_status.proofs.escape.push_html.Given as goal

abbrev pub invariant-loop-octet : goal.invariant-loop-octet
invariant-loop-octet l = string_bytes l.out ≡ string_bytes l.fn.out ++ flat_map html_of (take l.octet-index l.octet-items)
