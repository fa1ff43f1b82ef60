-- The text so far, with what stands for the octets that are left, is the whole; and no markup is in it.
use Rattle.std.proofs.Common.{◌≡◌, ◌++◌, All, drop, string_bytes}
use Rattle.std.specs.List.{flat_map}
use Rattle.farm_picture.specs.Escape.{IsNoMarkup, escape_of, escaped}
use Rattle.farm_picture.proofs.escape.escaped.Given as goal

abbrev pub invariant-loop-octet : goal.invariant-loop-octet
invariant-loop-octet l = record {
  text : string_bytes l.text ++ flat_map escape_of (drop l.octet-index l.octets) ≡ escaped l.octets;
  plain : All IsNoMarkup (string_bytes l.text);
}
