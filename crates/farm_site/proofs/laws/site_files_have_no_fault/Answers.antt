use Rattle.farm_site.proofs.Reading.{never_why, never_why_octets}
use Rattle.farm_site.proofs.laws.site_files_have_no_fault.Goals as goal

pub returns-clause-text : goal.returns-clause-text
returns-clause-text c = λ text site fault file told. never_why text site fault file told

pub returns-clause-octets : goal.returns-clause-octets
returns-clause-octets c = λ octets site fault utf8 file told. never_why_octets octets site fault utf8 file told
