-- What is told of a site file.
use Rattle.std.specs.Prelude.{◌≡◌, ◌∷◌, ◌++◌, [], ℕ, List, Option, Some, string_bytes}
use Rattle.std.specs.Io.KnownBytes.{Appends}
use Rattle.toml.specs.Data.{Members, get_member}
use Rattle.toml.specs.Parse.{parse_document}
use Rattle.book_place.specs.Place.{IsFaultAt, NamesAt, spelled}
use Rattle.farm_access.specs.Rules.{Policy}
use Rattle.farm_access.specs.Spelling.{IsWhy, Spells}
use Rattle.book_place.specs.declared.FileKey.{FileKey}
use Rattle.book_place.specs.declared.FileKey.TheVariants.{Book, Accounts}
use Rattle.book_place.specs.declared.FileKeyFault.{FileKeyFault}
use Rattle.farm_base.specs.CheckedSite.{IsChecked}
use Rattle.farm_base.specs.declared.site.Site.{Site}
use Rattle.farm_check.specs.declared.fault.CheckFault.{CheckFault}
use Rattle.farm_check.specs.declared.lines.Lines.{Lines}
use Rattle.farm_check.specs.declared.fault.CheckFault.TheVariants.{SiteFile, Site as of_site, Access as of_access, File as of_file, AccountsFile, Accounts as of_accounts, Write, OutOfMemory}
use Rattle.farm_command.specs.declared.status.Status.{Status}
use Rattle.farm_command.specs.declared.status.Status.TheVariants as status
use Rattle.farm_site.specs.Faults.{AreWhyOctets}
use Rattle.farm_site.specs.Spelling.{IsSiteFile}

-- the octets say who may come up
abbrev pub IsOpenFile : List ℕ → Type 0
IsOpenFile file = (policy : Policy) × Spells file policy

-- the octets say at this key where a file is, or nothing of it
pub record IsPlacedFile (file : List ℕ) (key : FileKey) : Type 0 where
  pub members : Members
  pub document : parse_document file ≡ Some members
  pub path : Option (List ℕ)
  pub names : NamesAt (get_member (spelled key) members) path

-- what the octets say of where a file is has this fault
pub record IsMisplaced (file : List ℕ) (fault : FileKeyFault) : Type 0 where
  pub members : Members
  pub document : parse_document file ≡ Some members
  pub key : FileKey
  pub told : IsFaultAt key (get_member (spelled key) members) fault

-- the octets are the file of a checked site, and say who may come up, and where the book and the accounts are
abbrev pub IsAccepted : List ℕ → Type 0
IsAccepted file = IsOpenFile file × IsPlacedFile file Book × IsPlacedFile file Accounts × ((site : Site) × IsChecked site × IsSiteFile file site)

-- The octets have the fault that is told: of a site file, or in what they say of who may come up, or of a file. Or memory
-- is missing. Of a fault of the file of accounts it says that the octets are accepted, and no more.
abbrev pub IsRefused : List ℕ → CheckFault → Type 0
IsRefused file SiteFile = ⊥
IsRefused file (of_site fault told) = AreWhyOctets file fault
IsRefused file (of_access fault told) = IsWhy file fault
IsRefused file (of_file fault told) = IsMisplaced file fault
IsRefused file (AccountsFile path) = IsAccepted file
IsRefused file (of_accounts fault told) = IsAccepted file
IsRefused file Write = ⊥
IsRefused file OutOfMemory = Unit {0}

-- how the program ends: a file or a stream has failed, a refused site, want of memory
abbrev pub status_of : CheckFault → Status
status_of SiteFile = status.Failed
status_of (of_site fault told) = status.Refused
status_of (of_access fault told) = status.Refused
status_of (of_file fault told) = status.Refused
status_of (AccountsFile path) = status.Failed
status_of (of_accounts fault told) = status.Refused
status_of Write = status.Failed
status_of OutOfMemory = status.OutOfMemory

-- the lines end with a line feed
abbrev pub IsEnded : Lines → Type 0
IsEnded lines = (text : List ℕ) × (string_bytes lines.text ≡ text ++ 10 ∷ [])

-- lines are written behind what was there, to the end of the last
abbrev pub IsWritten : Option (List ℕ) → Option (List ℕ) → Type 0
IsWritten old new = (text : List ℕ) × Appends old new (text ++ 10 ∷ [])
