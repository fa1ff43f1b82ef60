-- Lists of sound and distinct items, as they are read one by one.
use Rattle.std.specs.Prelude.{◌≡◌, Bool, true, false, List}
use Rattle.std.specs.List.{list_all, list_any}
use Rattle.farm_base.specs.Lists.{are_distinct}

-- each item is sound, and no two are the same
pub record AreSound {A : Type 0} (sound_item : A → Bool) (same : A → A → Bool) (items : List A) : Type 0 where
  pub sound : list_all sound_item items ≡ true
  pub distinct : are_distinct same items ≡ true

-- a sound item that is the same as none of these
pub record MayFollow {A : Type 0} (sound_item : A → Bool) (same : A → A → Bool) (items : List A) (item : A) : Type 0 where
  pub sound : sound_item item ≡ true
  pub new : list_any (λ other. same other item) items ≡ false
