-- A replay over the site of a file.
use Rattle.std.specs.Prelude.{ℕ, List, Result, Ok, Err}
use Rattle.farm_base.specs.declared.site.Site.{Site}
use Rattle.farm_base.specs.CheckedSite.{IsChecked}
use Rattle.farm_site.specs.Spelling.{Spells}
use Rattle.farm_cli.specs.Replay.{WasRead}
use Rattle.farm_cli.specs.declared.fault.Fault.{Fault}
use Rattle.farm_cli.specs.declared.fault.Fault.TheVariants.{Words, SiteFile, Site as of_site, Replay}

-- of a checked site that the octets of a file spell
abbrev pub OfSpelledSite : List ℕ → (Site → Type 0) → Type 0
OfSpelledSite file Holds = (site : Site) × IsChecked site × Spells file site × Holds site

-- the schedule was read, behind the site file
abbrev pub WasReadBehind : Result (Unit {0}) Fault → Type 0
WasReadBehind (Ok done) = Unit {0}
WasReadBehind (Err (Words fault)) = ⊥
WasReadBehind (Err SiteFile) = ⊥
WasReadBehind (Err (of_site fault)) = ⊥
WasReadBehind (Err (Replay fault)) = WasRead (Err fault)
