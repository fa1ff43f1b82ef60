-- A writer that may stop.
use Rattle.std.specs.Prelude.{◌≡◌, List, ℕ, ◌++◌, Option}
use Rattle.std.specs.Io.KnownBytes.{Appends}

-- all of the text but the rest was written
pub record BeginsWithRest (old new : Option (List ℕ)) (text rest : List ℕ) : Type 0 where
  pub written : List ℕ
  pub all : written ++ rest ≡ text
  pub appends : Appends old new written

-- a beginning of the text was written
pub record BeginsWriting (old new : Option (List ℕ)) (text : List ℕ) : Type 0 where
  pub left : List ℕ
  pub begins : BeginsWithRest old new text left
