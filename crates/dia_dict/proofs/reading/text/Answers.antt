use Rattle.dia_dict.proofs.Memory.{no_memory}
use Rattle.dia_dict.proofs.Texts.{text_read, text_refused}
use Rattle.dia_dict.proofs.reading.text.Goals as goal

pub returns-in_err-copy_of-in-Ok : goal.returns-in_err-copy_of-in-Ok
returns-in_err-copy_of-in-Ok c =
    no_memory _ c.from_residual.result _ tt (text_read c.args.code c.args.octets.now c.in-Ok.ensures.cases.1) c.from_residual.ensures.1

pub returns-in_ok-copy_of-in-Ok : goal.returns-in_ok-copy_of-in-Ok
returns-in_ok-copy_of-in-Ok c =
    let good = text_read c.args.code c.args.octets.now c.in-Ok.ensures.cases.1 in
    let same = c.in-Ok.ensures.cases.0 in
    let kept = c.in_ok-copy_of-in-Ok.ensures in
    cc

pub returns-in-Err : goal.returns-in-Err
returns-in-Err c = text_refused c.args.code c.args.octets.now c.in-Err.ensures.cases.0
