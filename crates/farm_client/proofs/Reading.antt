-- The messages of lines, from one line to the next.
use Rattle.std.proofs.Common.{◌≡◌, ◌<◌, ◌+◌, ◌∙◌, ℕ, List, [], ◌∷◌, ◌++◌, Option, Some, None, length, map, drop, get_or, cond, is_none, refl, sym, ap, subst, append_assoc, arith, Bor}
use Rattle.std.proofs.lemmas.List.{drop_more, get_or-map, length-map, map_push}
use Rattle.std.specs.List.{position_from}
use Rattle.dia_message.specs.declared.message.Message.{Message}
use Rattle.farm_client.specs.Lines.{has_none, message_on}

-- the next line is the first of those that are left
next_line : (lines : List (Bor (List ℕ))) (all : List (List ℕ)) (place : ℕ) (d : Bor (List ℕ)) → map (λ line. line.now) lines ≡ all → place < length lines → drop place all ≡ (get_or lines place d).now ∷ drop (place + 1) all
next_line lines all place d is within =
    subst (λ (all : List (List ℕ)). drop place all ≡ (get_or lines place d).now ∷ drop (place + 1) all) is
    (drop_more (map (λ line. line.now) lines) place d.now (simp length-map (omega arith))
    ∙ ap (λ (line : List ℕ). line ∷ drop (place + 1) (map (λ line. line.now) lines)) (get_or-map (λ line. line.now) lines place d d.now within))

-- where the next line has a message, it is told, and the messages of the others are left
pub told_next : (lines : List (Bor (List ℕ))) (all : List (List ℕ)) (place : ℕ) (d : Bor (List ℕ)) (messages : List Message) (message : Message) → map (λ line. line.now) lines ≡ all → place < length lines → Some message ≡ message_on (get_or lines place d).now → map Some messages ++ map message_on (drop place all) ≡ map message_on all → map Some (messages ++ message ∷ []) ++ map message_on (drop (place + 1) all) ≡ map message_on all
told_next lines all place d messages message is within told before =
    let rest = map message_on (drop (place + 1) all) in
    let left : map message_on (drop place all) ≡ Some message ∷ rest =
    ap (map message_on) (next_line lines all place d is within) ∙ ap (λ (found : Option Message). found ∷ rest) (sym told) in
    ap (λ (front : List (Option Message)). front ++ rest) (map_push Some messages message)
    ∙ (append_assoc (map Some messages) (Some message ∷ []) rest
    ∙ (ap (λ (behind : List (Option Message)). map Some messages ++ behind) (sym left) ∙ before))

-- the first line without a message is the next one, or it is behind
abbrev pub first_none : Option Message → ℕ → Option ℕ → Option ℕ
first_none (Some message) place behind = behind
first_none None place behind = Some place

none_is : (found : Option Message) (place : ℕ) (behind : Option ℕ) → cond (is_none found) (Some place) behind ≡ first_none found place behind
none_is (Some message) place behind = refl
none_is None place behind = refl

pub first_of_rest : (lines : List (Bor (List ℕ))) (all : List (List ℕ)) (place : ℕ) (d : Bor (List ℕ)) (found : Option Message) → map (λ line. line.now) lines ≡ all → place < length lines → found ≡ message_on (get_or lines place d).now → position_from has_none (place + 1) (drop place all) ≡ first_none found (place + 1) (position_from has_none (place + 1 + 1) (drop (place + 1) all))
first_of_rest lines all place d found is within told =
    let behind : Option ℕ = position_from has_none (place + 1 + 1) (drop (place + 1) all) in
    ap (position_from has_none (place + 1)) (next_line lines all place d is within)
    ∙ subst (λ (o : Option Message). cond (is_none o) (Some (place + 1)) behind ≡ first_none found (place + 1) behind) told (none_is found (place + 1) behind)
