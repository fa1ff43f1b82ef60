-- Who connects to a node, by either end of links.
use Rattle.std.proofs.Common.{◌≡◌, ◌==◌, Bool, true, false, List, [], ◌∷◌, cond, refl, sym, ◌∙◌, map, filter}
use Rattle.std.specs.Prelude.{◌||◌}
use Rattle.std.specs.List.{list_any}
use Rattle.dia_base.specs.declared.number.NodeNo.{NodeNo}
use Rattle.farm_base.specs.Nodes.{is_node}
use Rattle.farm_base.specs.declared.site.Link.{Link}

abbrev pub is_in : NodeNo → List NodeNo → Bool
is_in node nodes = list_any (λ other. other.0 == node.0) nodes

-- of one link more
one_more : (b c l r : Bool) → l ≡ r → cond b (c || l) l ≡ cond c (b || r) r
one_more true true l r same = refl
one_more true false l r same = same
one_more false true l r same = same
one_more false false l r same = same

through : (b : Bool) (end : Link → NodeNo) (node : NodeNo) (link : Link) (links : List Link)
    → is_in node (map end (cond b (link ∷ links) links)) ≡ cond b ((end link).0 == node.0 || is_in node (map end links)) (is_in node (map end links))
through true end node link links = refl
through false end node link links = refl

pub callers_same : (from to : NodeNo) (links : List Link)
    → is_in from (map (λ link. link.from) (filter (λ link. is_node link.to to) links)) ≡ is_in to (map (λ link. link.to) (filter (λ link. is_node link.from from) links))
callers_same from to [] = refl
callers_same from to (link ∷ links) =
    through (is_node link.to to) (λ l. l.from) from link (filter (λ l. is_node l.to to) links)
    ∙ one_more (is_node link.to to) (is_node link.from from) _ _ (callers_same from to links)
    ∙ sym (through (is_node link.from from) (λ l. l.to) to link (filter (λ l. is_node l.from from) links))
