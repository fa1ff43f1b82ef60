-- Which files a site file names, and why it does not.
use Rattle.std.specs.Prelude.{◌≡◌, ◌≢◌, ◌==◌, ◌++◌, ℕ, Bool, false, List, [], ◌∷◌, Option, Some, None, codes, if◌then◌else◌}
use Rattle.std.specs.List.{list_any}
use Rattle.toml.specs.Data.{Data, string, as_str}
use Rattle.book_place.specs.declared.FileKey.{FileKey}
use Rattle.book_place.specs.declared.FileKey.TheVariants.{Book, Accounts}
use Rattle.book_place.specs.declared.FileKeyFault.{FileKeyFault}
use Rattle.book_place.specs.declared.FileKeyFault.TheVariants.{NoText, Empty, OutOfMemory}

abbrev pub spelled : FileKey → List ℕ
spelled Book = codes "book"
spelled Accounts = codes "accounts"

-- the value is this text, which is not empty
abbrev pub Names : Data → List ℕ → Type 0
Names value path = (value ≡ string path) × (path ≢ [])

-- by what stands at a key
abbrev pub NamesAt : Option Data → Option (List ℕ) → Type 0
NamesAt None path = path ≡ None
NamesAt (Some value) None = ⊥
NamesAt (Some value) (Some path) = Names value path

-- at this key a value that is no text, or an empty one
abbrev pub IsKeyFault : FileKey → Data → FileKeyFault → Type 0
IsKeyFault key value (NoText told) = (told ≡ key) × (as_str value ≡ None)
IsKeyFault key value (Empty told) = (told ≡ key) × (value ≡ string [])
IsKeyFault key value OutOfMemory = Unit {0}

-- by what stands at the key; or memory ran out
abbrev pub IsFaultAt : FileKey → Option Data → FileKeyFault → Type 0
IsFaultAt key None fault = fault ≡ OutOfMemory
IsFaultAt key (Some value) fault = IsKeyFault key value fault

-- ---- the path that is meant

abbrev pub is_slash : ℕ → Bool
is_slash octet = octet == 47

-- a path up to its last slash, that one too
abbrev pub folder_of : List ℕ → List ℕ
folder_of [] = []
folder_of (octet ∷ path) = if list_any is_slash (octet ∷ path) then octet ∷ folder_of path else []

abbrev pub is_absolute : List ℕ → Bool
is_absolute [] = false
is_absolute (octet ∷ path) = is_slash octet

-- A path that begins with a slash stands for itself. Another one begins at the folder of the site file.
abbrev pub from_folder_of : List ℕ → List ℕ → List ℕ
from_folder_of site named = if is_absolute named then named else folder_of site ++ named

-- the path that is meant by what stands at a key
abbrev pub IsNamedPath : List ℕ → Option Data → Option (List ℕ) → Type 0
IsNamedPath site None path = path ≡ None
IsNamedPath site (Some value) path = (named : List ℕ) × Names value named × (path ≡ Some (from_folder_of site named))

-- The path that is served on: the one that the command line names, else the one that is meant by what stands at `book`.
abbrev pub IsServedPath : Option (List ℕ) → List ℕ → Option Data → Option (List ℕ) → Type 0
IsServedPath (Some told) site value path = path ≡ Some told
IsServedPath None site value path = IsNamedPath site value path
