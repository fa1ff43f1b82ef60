use Rattle.std.proofs.Common.{ap, ◌∙◌}
use Rattle.std.specs.Int.{w128}
use Rattle.std.proofs.lemmas.Int.{to_z-of_z}
use Rattle.book_rows.specs.Parts.{signed_parts}
use Rattle.book_rows.proofs.Written.{signed_added}
use Rattle.book_rows.proofs.numbers.push_signed.Goals as goal

pub returns : goal.returns
returns c = signed_added c.args.value c.parts_of-is_below.result c.args.out.now.items c.push_flag.new.out.items c.push_u128.new.out.items (c.parts_of-is_below.ensures.parts ∙ ap signed_parts (to_z-of_z w128 c.args.value c.ranges.value)) c.parts_of-is_below.ensures.size c.in_ok-push_flag.ensures c.in_ok-push_u128.ensures
