-- What has been read of a file, one entry after another, is what the file spells.
use Rattle.std.proofs.Common.{◌≡◌, ℕ, ◌+◌, ◌<◌, ◌≤◌, List, [], ◌∷◌, ◌++◌, length, get_or, take, map, sym, subst, ap, ◌∙◌}
use Rattle.std.proofs.lemmas.List.{map-append, take_all, take_more}
use Rattle.std.proofs.lemmas.Slice.Zip.{all_zipped_more}
use Rattle.std.specs.List.{AllZip}
use Rattle.toml.specs.Data.{Members}
use Rattle.toml.specs.View.{table_view}
use Rattle.farm_base.specs.declared.site.Node.{Node}
use Rattle.farm_site.specs.declared.entry.Entry.{Entry}
use Rattle.farm_site.specs.declared.key.Key.{Key}
use Rattle.farm_site.specs.Spelling.{SpellsTable, tables, tables_of, value_or}

-- one more value, and one more item that it spells
pub zip_more : {A B C : Type 0} (spells : B → C → Type 0) (f : A → B) (xs : List A) (i : ℕ) (d : A) (old more : List C) (y : C) → i < length xs → AllZip spells (map f (take i xs)) old → spells (f (get_or xs i d)) y → more ≡ old ++ y ∷ [] → AllZip spells (map f (take (i + 1) xs)) more
zip_more spells f xs i d old more y h before one e =
    let parts : map f (take (i + 1) xs) ≡ map f (take i xs) ++ f (get_or xs i d) ∷ [] = ap (map f) (take_more xs i d h) ∙ map-append f (take i xs) (get_or xs i d ∷ []) in
    subst (λ (ys : List _). AllZip spells (map f (take (i + 1) xs)) ys) (sym e)
    (subst (λ (zs : List _). AllZip spells zs (old ++ y ∷ [])) (sym parts) (all_zipped_more spells (map f (take i xs)) old (f (get_or xs i d)) y before one))

pub zip_all : {A B C : Type 0} (spells : B → C → Type 0) (f : A → B) (xs : List A) (i : ℕ) (ys : List C) → length xs ≤ i → AllZip spells (map f (take i xs)) ys → AllZip spells (map f xs) ys
zip_all spells f xs i ys h before = subst (λ (zs : List _). AllZip spells (map f zs) ys) (take_all i xs h) before

-- one more entry, and the item that it spells
pub table_more : {A : Type 0} (spells : Members → A → Type 0) (entries : List Entry) (i : ℕ) (entry : Entry) (old more : List A) (x : A) → i < length entries → entry ≡ get_or entries i entry → AllZip spells (tables_of (take i entries)) old → spells (table_view entry.table.now) x → more ≡ old ++ x ∷ [] → AllZip spells (tables_of (take (i + 1) entries)) more
table_more spells entries i entry old more x h is before one e =
    zip_more spells (λ (seen : Entry). table_view seen.table.now) entries i entry old more x h before (subst (λ (seen : Entry). spells (table_view seen.table.now) x) is one) e

-- all entries of the table
pub table_all : {A : Type 0} (spells : Members → A → Type 0) (key : Key) (file : Members) (seen entries : List Entry) (i : ℕ) (items : List A) → seen ≡ entries → value_or (tables []) key file ≡ tables (tables_of entries) → length seen ≤ i → AllZip spells (tables_of (take i seen)) items → SpellsTable spells key file items
table_all spells key file seen entries i items e there h before = record {
  entries = tables_of seen;
  stand = there ∙ ap (λ (found : List Entry). tables (tables_of found)) (sym e);
  in_order = zip_all spells (λ (entry : Entry). table_view entry.table.now) seen i items h before;
}

-- the same, where the nodes and the items are named otherwise
pub spelled_between : {A : Type 0} (spells : List Node → Members → A → Type 0) (key : Key) (file : Members) (nodes found seen : List Node) (items read : List A) → nodes ≡ found → items ≡ read → seen ≡ found → SpellsTable (spells seen) key file read → SpellsTable (spells nodes) key file items
spelled_between spells key file nodes found seen items read e_nodes e_items e_seen table =
    subst (λ (xs : List _). SpellsTable (spells nodes) key file xs) (sym e_items)
    (subst (λ (ns : List Node). SpellsTable (spells ns) key file read) (e_seen ∙ sym e_nodes) table)
