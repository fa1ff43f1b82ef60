-- Moves of the farm: one of them, several one after the other, and by which an item comes or connections end.
use Rattle.std.proofs.Common.{◌≡◌, Bool, true, List, ◌∷◌, inl, inr, sym, subst}
use Rattle.dia_base.specs.declared.number.ConnId.{ConnId}
use Rattle.dia_base.specs.declared.number.NodeNo.{NodeNo}
use Rattle.farm_law.specs.Farm.{Farm, Item, Refused}
use Rattle.farm_law.specs.Moves.{Moves, next, done, Move, loses, ends as have_ended}
use Rattle.farm_law.specs.Parties.{Parties}
use Rattle.farm_law.specs.Lists.{Without, first, goes}
use Rattle.farm_model.specs.World.{Ends, WorldState}
use Rattle.farm_model.proofs.Moves.AsFarm.{has_ended_in, farm_of}
use Rattle.farm_model.proofs.Lists.Placing.{Left-all}
use Rattle.farm_model.proofs.Moves.Posting.{Posted}

pub join : {p : Parties} {f g h : Farm} → Moves p f g → Moves p g h → Moves p f h
join done more = more
join (next move moves) more = next move (join moves more)

pub one_move : {p : Parties} {f g : Farm} → Move p f g → Moves p f g
one_move move = next move done

-- a move by which an item comes, which may be lost at once
pub put : {p : Parties} (f g : Farm) (item : Item) (rest items : List Item) → Posted item rest items →
    ((some : List Item) → Without item some rest → Move p f (record g { items = some })) → Moves p f (record g { items = items })
put f g item rest items (inl w) move = next (move items w) done
put {p} f g item rest items (inr e) move = subst (λ (is : List Item). Moves p f (record g { items = is })) (sym e)
    (next (move (item ∷ rest) first) (next (loses (goes tt (Left-all rest))) done))

-- the same connections stand, by another test
pub settled : (p : Parties) (made : Ends) (refused : List Refused) (f : Farm) (w : WorldState) (has_ended : NodeNo → ConnId → Bool)
    → Moves p f (record (farm_of made refused w) { has_ended = has_ended })
    → ((n : NodeNo) (c : ConnId) → has_ended n c ≡ true → has_ended_in w.ends w.directions n c ≡ true) →
    Moves p f (farm_of made refused w)
settled p made refused f w has_ended moves same = join moves (one_move (have_ended (has_ended_in w.ends w.directions) same))
