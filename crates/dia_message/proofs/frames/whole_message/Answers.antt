use Rattle.std.proofs.Common.{rules, ◌≡◌, false, sym, arith}
use Rattle.std.proofs.lemmas.Bool.Decides.{nat_tests}
use Rattle.dia_message.proofs.Only.{only_message-unread, only_message-more, only_message-some, only_message-whole}
use Rattle.dia_message.specs.Stream.{is_whole}
use Rattle.dia_message.proofs.frames.whole_message.Goals as goal
use Rattle.dia_message.proofs.frames.whole_message.Goals.{In_default, in_default-via-in-Ok+in_default, in_default-via-in_default}

none-whole : (c : In_default) → false ≡ is_whole c.args.octets.now
none-whole c = elim c.in_default.branch [
  | in_default-via-in-Ok+in_default w ↦ search rules
  | in_default-via-in_default w ↦ search rules
]

pub returns-in_default-clause-found : goal.returns-in_default-clause-found
returns-in_default-clause-found c = sym (only_message-unread c.args.octets.now (sym (none-whole c)))

pub returns-then-not-is_empty-clause-found : goal.returns-then-not-is_empty-clause-found
returns-then-not-is_empty-clause-found c =
    let parts = rw c.in-Ok-Some.field-0-is at c.in-Ok-Some.ensures in
    sym (only_message-more c.args.octets.now c.in-Ok-Some.behind.now parts.found parts.behind (grind (arith, nat_tests)))

pub returns-clause-found : goal.returns-clause-found
returns-clause-found c =
    let parts = rw c.in-Ok-Some.field-0-is at c.in-Ok-Some.ensures in
    sym (only_message-whole c.args.octets.now c.in-Ok-Some.first.now c.in-Ok-Some.behind.now c.in_ok-message_of.field-0
    parts.found parts.first parts.behind c.in_ok-message_of.ensures (grind (arith, nat_tests)))

pub returns-in_err-message_of-clause-none : goal.returns-in_err-message_of-clause-none
returns-in_err-message_of-clause-none c = λ missing.
    let parts = rw c.in-Ok-Some.field-0-is at c.in-Ok-Some.ensures in
    absurd (only_message-some c.args.octets.now c.in-Ok-Some.first.now c.in-Ok-Some.behind.now
    parts.found parts.first parts.behind (grind (arith, nat_tests)) missing)

pub returns-clause-none : goal.returns-clause-none
returns-clause-none c = λ missing.
    let parts = rw c.in-Ok-Some.field-0-is at c.in-Ok-Some.ensures in
    absurd (only_message-some c.args.octets.now c.in-Ok-Some.first.now c.in-Ok-Some.behind.now
    parts.found parts.first parts.behind (grind (arith, nat_tests)) missing)
