use Rattle.std.proofs.Common.{rules}
use Rattle.dia_avp.specs.AvpList.{raw_avp}
use Rattle.dia_avp.proofs.Writing.{spelled}
use Rattle.dia_avp.proofs.writer.write_avp.Goals as goal

pub returns-clause-ok : goal.returns-clause-ok
returns-clause-ok c =
    spelled (raw_avp c.args.code c.args.flags c.args.vendor c.args.value.now) c.args.out.now.items c.extend_from_slice.new.self.items c.extend_from_slice-2.new.self.items c.extend_from_slice-3.new.self.items
    c.header_of-head.result c.header_len-header.result c.padding_of-padding.result
    (search rules) c.header_len-header.ensures.value (search rules) c.padding_of-padding.ensures.most (search rules) (search rules) (search rules)
