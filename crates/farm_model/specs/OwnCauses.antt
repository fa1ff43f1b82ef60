-- That each error answer has a cause of its own, which was shown before it was received.
use Rattle.std.specs.Prelude.{◌==◌, ◌≤◌, ℕ, Bool, ◌&&◌, List, [], ◌∷◌, ◌++◌, All, count_by}
use Rattle.dia_base.specs.declared.number.ConnId.{ConnId}
use Rattle.dia_base.specs.declared.number.NodeNo.{NodeNo}
use Rattle.dia_message.specs.declared.message.Message.{Message}
use Rattle.dia_message.specs.Traffic.{Traffic}
use Rattle.cc_view.specs.Answer.{refusal_of}
use Rattle.farm_law.specs.Farm.{Refused}
use Rattle.farm_law.specs.Tally.{IsOfText, is_error_with}
use Rattle.farm_base.specs.declared.site.Site.{Site}
use Rattle.farm_model.specs.Cause.{HasCause}
use Rattle.farm_base.specs.Nodes.{is_node, name_at}
use Rattle.farm_model.specs.Run.{Past, Transition}

-- what the node has refused stood on the connection under this Hop-by-Hop Identifier
abbrev pub is_refused_as : NodeNo → ConnId → ℕ → Refused → Bool
is_refused_as node conn hop refused = is_node refused.node node && (refused.conn.0 == conn.0 && refused.request.header.hop == hop)

-- the error answer that the node has written
abbrev pub text_of : Site → Refused → Message
text_of site refused = refusal_of (name_at site refused.node) site.realm refused.request refused.refusal

-- What nodes refuse at a transition: it shows a cause for each, and for none twice, as no node refuses two requests of
-- one connection and identifier at it.
pub record RefusesEach (t : Transition) (refused : List Refused) : Type 0 where
  pub caused : All (λ r. HasCause t r.node r.conn r.request r.refusal) refused
  pub once : (node : NodeNo) (conn : ConnId) (hop : ℕ) → count_by (is_refused_as node conn hop) refused ≤ 1

-- Whatever they say, but for the Hop-by-Hop Identifier, which each relay on the way changes: no more error answers were
-- received than nodes had refused with.
abbrev pub HasOneForEach : Site → List Refused → Traffic → Type 0
HasOneForEach site refused received = (test : Message → Bool) → IsOfText test →
    count_by (λ item. is_error_with test item.1) received ≤ count_by (λ r. test (text_of site r)) refused

-- So it is after each of these transitions, with what nodes had refused before them and what they have refused since.
abbrev pub HaveOwnCauses : Site → List Refused → Past → Type 0
HaveOwnCauses site before [] = Unit {0}
HaveOwnCauses site before (t ∷ past) =
    (now : List Refused) × RefusesEach t now × HasOneForEach site (before ++ now) t.after.received × HaveOwnCauses site (before ++ now) past
