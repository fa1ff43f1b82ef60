use Rattle.std.proofs.Common.{sym}
use Rattle.dia_dict.proofs.Texts.{text_content, text_faulty}
use Rattle.dia_dict.proofs.check.text_fault.Goals as goal

pub returns-in-Ok : goal.returns-in-Ok
returns-in-Ok c = sym (text_content c.args.code c.args.octets.now c.in-Ok.ensures.cases.1)

pub returns-in-Err : goal.returns-in-Err
returns-in-Err c = sym (text_faulty c.args.code c.args.octets.now c.in-Err.ensures.cases.0)
