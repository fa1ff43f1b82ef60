-- Messages that are told one after the other.
use Rattle.std.proofs.Common.{◌≡◌, ℕ, ◌<◌, ◌+◌, List, [], ◌∷◌, ◌++◌, length, take, get_or, sym, ap, ◌∙◌, append_assoc}
use Rattle.std.specs.List.{filter}
use Rattle.std.proofs.lemmas.List.{map-append, take_more}
use Rattle.std.proofs.lemmas.List.Elements.{filter-append}
use Rattle.dia_base.specs.declared.number.NodeNo.{NodeNo}
use Rattle.dia_message.specs.declared.message.Message.{Message}
use Rattle.farm_base.specs.Nodes.{is_node}
use Rattle.record_state.specs.Comparing.{told_to}

told_to-append : (peer : NodeNo) (xs ys : List (NodeNo × Message)) → told_to peer (xs ++ ys) ≡ told_to peer xs ++ told_to peer ys
told_to-append peer xs ys =
    let to_peer = λ (item : NodeNo × Message). is_node item.0 peer in
    let message = λ (item : NodeNo × Message). item.1 in
    ap (Rattle.std.specs.Prelude.map message) (filter-append to_peer xs ys) ∙ map-append message (filter to_peer xs) (filter to_peer ys)

-- one more is told, which is the first of what was left
pub told_more :
    (peer : NodeNo) (told : List (NodeNo × Message)) (at : ℕ) (item : NodeNo × Message) (sent rest left : List Message) → at < length told → item ≡ get_or told at item
    → told_to peer (take at told) ++ rest ≡ sent → rest ≡ told_to peer (item ∷ []) ++ left → told_to peer (take (at + 1) told) ++ left ≡ sent
told_more peer told at item sent rest left within is before one =
    let more : take (at + 1) told ≡ take at told ++ item ∷ [] = take_more told at item within ∙ ap (λ (x : NodeNo × Message). take at told ++ x ∷ []) (sym is) in
    let parts : told_to peer (take (at + 1) told) ≡ told_to peer (take at told) ++ told_to peer (item ∷ []) =
    ap (told_to peer) more ∙ told_to-append peer (take at told) (item ∷ []) in
    ap (λ (front : List Message). front ++ left) parts
    ∙ append_assoc (told_to peer (take at told)) (told_to peer (item ∷ [])) left
    ∙ ap (λ (behind : List Message). told_to peer (take at told) ++ behind) (sym one)
    ∙ before
