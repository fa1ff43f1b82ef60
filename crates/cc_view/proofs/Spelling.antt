-- Spellings of lists of AVPs.
use Rattle.std.proofs.Common.{◌≡◌, List, ◌++◌}
use Rattle.std.proofs.lemmas.Grind.{flat_map-append}
use Rattle.dia_avp.specs.declared.avp.RawAvp.{RawAvp}
use Rattle.dia_avp.specs.AvpList.{written}
use Rattle.cc_view.specs.Answer.Writing.{spelling_of}

pub spelling_of-append : (xs ys : List RawAvp) → spelling_of (xs ++ ys) ≡ spelling_of xs ++ spelling_of ys
spelling_of-append xs ys = flat_map-append written xs ys
