-- How many error answers are on their way or received, and how many refusals nodes have written.
use Rattle.std.specs.Prelude.{◌≡◌, ◌≤◌, ◌+◌, ℕ, Bool, not, ◌&&◌, count_by}
use Rattle.dia_message.specs.declared.message.Message.{Message}
use Rattle.cc_view.specs.Answer.{refusal_of}
use Rattle.relay_hops.specs.PendingTable.{under}
use Rattle.farm_law.specs.Farm.{Item, Refused, Farm}
use Rattle.farm_law.specs.Parties.{Parties}

-- The test does not look at the Hop-by-Hop Identifier, which each relay on the way back changes.
abbrev pub IsOfText : (Message → Bool) → Type 0
IsOfText test = (hop : ℕ) (message : Message) → test (under hop message) ≡ test message

-- an error answer, with E set and R clear (RFC 6733, sections 3 and 7.2), that passes
abbrev pub is_error_with : (Message → Bool) → Message → Bool
is_error_with test message = not message.header.request && (message.header.error && test message)

-- on its way from a node that is no client
abbrev pub is_told_with : Parties → (Message → Bool) → Item → Bool
is_told_with p test item = not (p.is_client item.from) && is_error_with test item.message

-- what a node has written to refuse a request
abbrev pub written_by : Parties → Refused → Message
written_by p refused = refusal_of (p.name_of refused.node) p.realm refused.request refused.refusal

-- Whatever they say, no more error answers are on their way or received than nodes have written.
abbrev pub OwesEach : Parties → Farm → Type 0
OwesEach p f = (test : Message → Bool) → IsOfText test →
    count_by (is_told_with p test) f.items + count_by (λ item. is_error_with test item.1) f.received ≤ count_by (λ refused. test (written_by p refused))
    f.refused
