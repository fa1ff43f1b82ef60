-- The places of requests by their keys: an index of a database, whose entries are the Session-Id, the CC-Request-Number and the place.
use Rattle.std.specs.Prelude.{◌≡◌, ◌==◌, ◌&&◌, ℕ, pos, Bool, true, false, if◌then◌else◌, Option, Some, None, List, [], ◌∷◌, option_map, bytes_eq}
use Rattle.std.specs.Ordering.{is_eq}
use Rattle.sqlite_value.specs.declared.value.Value.TheVariants.{Int, Blob}
use Rattle.sqlite_value.specs.Order.{Row, column}
use Rattle.sqlite_value.specs.Keys.{plain, prefix_cmp}
use Rattle.sqlite_trees.specs.View.{View}

-- the columns by which a request is found
abbrev pub key : List ℕ → ℕ → Row
key session number = Blob session ∷ Int (pos number) ∷ []

-- the entry of the request that has this place
abbrev pub entry : List ℕ → ℕ → ℕ → Row
entry session number place = Blob session ∷ Int (pos number) ∷ Int (pos place) ∷ []

abbrev pub has_key : Row → Row → Bool
has_key sought found = is_eq (prefix_cmp plain found sought)

-- the first entry that has a key
abbrev pub first_with : Row → List Row → Option Row
first_with sought [] = None
first_with sought (e ∷ es) = if has_key sought e then Some e else first_with sought es

-- what a look-up finds
abbrev pub IsFoundIn : List Row → Row → Option ℕ → Type 0
IsFoundIn index sought None = first_with sought index ≡ None
IsFoundIn index sought (Some place) = (e : Row) × (first_with sought index ≡ Some e) × (column e 2 ≡ Int (pos place))

-- what a cursor with these entries left gives
abbrev pub Gives : List Row → Row → Bool → Type 0
Gives entries row true = (left : List Row) × (entries ≡ row ∷ left)
Gives entries row false = entries ≡ []

-- the place that an entry has, if it has one
abbrev pub IsPlaceOf : Row → Option ℕ → Type 0
IsPlaceOf e (Some place) = column e 2 ≡ Int (pos place)
IsPlaceOf e None = Unit {0}

-- only the cursors may differ
abbrev pub IsAlike : View → View → Type 0
IsAlike old new = new ≡ record old { cursors = new.cursors }

-- ---- the index of a book

-- the place of each key, where a request has it
abbrev pub Places : Type 0
Places = List ℕ → ℕ → Option ℕ

-- whether two keys are the same
abbrev pub same_key : List ℕ → ℕ → List ℕ → ℕ → Bool
same_key session number session' number' = bytes_eq session session' && number == number'

-- with a request more
abbrev pub with_place : Places → List ℕ → ℕ → ℕ → Places
with_place places session number place session' number' = if same_key session number session' number' then Some place else places session' number'

-- for each key the first entry that has it is that of its place
abbrev pub IsIndexOf : List Row → Places → Type 0
IsIndexOf index places = (session : List ℕ) (number : ℕ) → first_with (key session number) index ≡ option_map (entry session number) (places session number)
