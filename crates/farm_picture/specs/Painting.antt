-- What a picture is drawn of.
use Rattle.std.specs.Prelude.{◌≡◌, ℕ, List, Option, IfSome, Ok}
use Rattle.farm_base.specs.CheckedSite.{IsChecked}
use Rattle.farm_base.specs.declared.site.Site.{Site}
use Rattle.farm_base.specs.declared.step.Step.{Step}
use Rattle.farm_script.specs.Schedule.{steps_of}
use Rattle.farm_site.specs.Spelling.{Spells}

-- the octets are a schedule for the site
abbrev pub IsSchedule : Site → List ℕ → Type 0
IsSchedule site octets = (steps : List Step) × (steps_of site octets ≡ Ok steps)

-- all that a reader had to give is a schedule for the site
abbrev pub GivesSchedule : Site → Option (List ℕ) → Type 0
GivesSchedule site known = IfSome known (λ octets. IsSchedule site octets)

-- it is a schedule for a checked site that the octets of a file spell
abbrev pub GivesScheduleOfFile : List ℕ → Option (List ℕ) → Type 0
GivesScheduleOfFile file known = (site : Site) × IsChecked site × Spells file site × GivesSchedule site known
