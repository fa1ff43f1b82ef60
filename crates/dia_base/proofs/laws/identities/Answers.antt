use Rattle.dia_base.proofs.Faults.{IsIdentity-no_fault, fault_of-identity}
use Rattle.dia_base.proofs.laws.identities.Goals as goal

pub returns : goal.returns
returns c = λ octets. (IsIdentity-no_fault octets, fault_of-identity octets)
