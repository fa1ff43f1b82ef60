use Rattle.std.proofs.Common.{sym, subst, Result, List}
use Rattle.dia_avp.specs.declared.avp.RawAvp.{RawAvp}
use Rattle.dia_avp.specs.declared.fault.AvpFault.{AvpFault}
use Rattle.dia_avp.specs.AvpList.{Reads}
use Rattle.dia_avp.proofs.Splitting.{Reads-only, split_of-reads}
use Rattle.dia_avp.proofs.laws.one_reading.Goals as goal

pub returns : goal.returns
returns c = λ octets r. (Reads-only octets r, λ e. subst (λ (s : Result (List RawAvp) AvpFault). Reads octets s) (sym e) (split_of-reads octets))
