use Rattle.std.specs.Prelude.{ℕ, List}
use Rattle.farm_base.specs.declared.site.Site.{Site}
use Rattle.farm_access.specs.Rules.{Policy}
use Rattle.farm_access.specs.Spelling.{Spells}
use Rattle.farm_site.specs.Spelling.{IsSiteFile}
use Rattle.farm_live.specs.Serving.{IsSpelled}

pub one_file_spells : (file : List ℕ) (site : Site) (policy : Policy) → IsSiteFile file site → Spells file policy → IsSpelled site policy
one_file_spells file site policy spells says = (file, spells, says)
