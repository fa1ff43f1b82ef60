-- The definitions of a schedule, computed on examples.
use Rattle.std.proofs.Common.{◌≡◌, ℕ, List, [], ◌∷◌, ◌++◌, codes, Option, Some, None, Result, Ok, Err, refl}
use Rattle.std.specs.Prelude.{pos, negsuc}
use Rattle.std.specs.Str.Lines.{lines}
use Rattle.cc_book.specs.declared.account.Account.{Account}
use Rattle.cc_rating.specs.declared.tariff.Tariff.{Tariff}
use Rattle.cc_rating.specs.declared.tariff.UnitKind.TheVariants.{Time, Octets}
use Rattle.farm_script.specs.Schedule.{steps_of}
use Rattle.farm_base.specs.RowSite.{the_row_site, r1, r2, c1, c2, f1, f2}
use Rattle.farm_script.specs.Words.{words_of, number_of}
use Rattle.farm_script.specs.declared.fault.LineFault.{LineFault}
use Rattle.farm_script.specs.declared.fault.LineFault.TheVariants.{UnknownWord, WrongCount, UnknownName, BadNumber, BadHex}
use Rattle.farm_script.specs.declared.fault.ScriptFault.{ScriptFault}
use Rattle.farm_script.specs.declared.fault.ScriptFault.TheVariants.{Line}
use Rattle.farm_base.specs.declared.step.Step.{Step}
use Rattle.farm_base.specs.declared.step.Step.TheVariants.{Up, Accept, Opened, Deliver, Lose, Cut, Drop, Restart, Crash, Pick, Charge, Refuse, Emit, Sweep, ChangeTerms}

-- a carriage return before a line feed is no part of the line, one at the end of the text is
returns : lines (codes "a" ++ 13 ∷ 10 ∷ codes "b" ++ 13 ∷ []) ≡ codes "a" ∷ (codes "b" ++ 13 ∷ []) ∷ []
returns = refl

spaces : words_of (codes " up  a b ") ≡ codes "up" ∷ codes "a" ∷ codes "b" ∷ []
spaces = refl

zeros : number_of (codes "007") ≡ Ok 7
zeros = refl

most : number_of (codes "18446744073709551615") ≡ Ok 18446744073709551615
most = refl

too_large : number_of (codes "18446744073709551616") ≡ Err BadNumber
too_large = refl

sign : number_of (codes "+1") ≡ Err BadNumber
sign = refl

without_case : steps_of the_row_site (codes "up C1.example f1.EXAMPLE") ≡ Ok (Up c1 f1 ∷ [])
without_case = refl

second_line : steps_of the_row_site (codes "up c1.example f1.example" ++ 10 ∷ codes "pick f1.example") ≡ Err (Line 2 WrongCount)
second_line = refl

only_spaces : steps_of the_row_site (10 ∷ codes "#" ++ 10 ∷ codes "  ") ≡ Err (Line 3 UnknownWord)
only_spaces = refl

-- ---- what one line spells over the row site

abbrev spelled_by : List ℕ → Result (List Step) ScriptFault
spelled_by text = steps_of the_row_site text

abbrev one_step : Step → Result (List Step) ScriptFault
one_step step = Ok (step ∷ [])

abbrev one_fault : LineFault → Result (List Step) ScriptFault
one_fault fault = Err (Line 1 fault)

-- ---- lose

lose : spelled_by (codes "lose c1.example f1.example 3") ≡ one_step (Lose c1 f1 3)
lose = refl

-- the same words after `deliver` are another step
deliver : spelled_by (codes "deliver c1.example f1.example 3") ≡ one_step (Deliver c1 f1 3)
deliver = refl

lose-upper_case : spelled_by (codes "lose R1.EXAMPLE F2.EXAMPLE 18446744073709551615") ≡ one_step (Lose r1 f2 18446744073709551615)
lose-upper_case = refl

lose-too_few : spelled_by (codes "lose c1.example f1.example") ≡ one_fault WrongCount
lose-too_few = refl

lose-too_many : spelled_by (codes "lose c1.example f1.example 0 0") ≡ one_fault WrongCount
lose-too_many = refl

lose-unknown_first : spelled_by (codes "lose c3.example f1.example 0") ≡ one_fault UnknownName
lose-unknown_first = refl

-- the names before the number
lose-unknown_second : spelled_by (codes "lose c1.example f1 x") ≡ one_fault UnknownName
lose-unknown_second = refl

lose-bad_number : spelled_by (codes "lose c1.example f1.example -1") ≡ one_fault BadNumber
lose-bad_number = refl

lose-large_number : spelled_by (codes "lose c1.example f1.example 18446744073709551616") ≡ one_fault BadNumber
lose-large_number = refl

-- ---- cut

cut : spelled_by (codes "cut r1.example f1.example") ≡ one_step (Cut r1 f1)
cut = refl

-- the nodes stand in the order of the line
cut-turned : spelled_by (codes "cut f1.example r1.example") ≡ one_step (Cut f1 r1)
cut-turned = refl

cut-upper_case : spelled_by (codes "cut R2.Example C2.EXAMPLE") ≡ one_step (Cut r2 c2)
cut-upper_case = refl

cut-too_few : spelled_by (codes "cut r1.example") ≡ one_fault WrongCount
cut-too_few = refl

cut-too_many : spelled_by (codes "cut r1.example f1.example 0") ≡ one_fault WrongCount
cut-too_many = refl

cut-unknown_first : spelled_by (codes "cut r3.example f1.example") ≡ one_fault UnknownName
cut-unknown_first = refl

cut-unknown_second : spelled_by (codes "cut r1.example f1.example.") ≡ one_fault UnknownName
cut-unknown_second = refl

-- ---- accept, opened, drop: who learns of a connection, and then the other node

accept : spelled_by (codes "accept f1.example R1.example") ≡ one_step (Accept f1 r1)
accept = refl

accept-too_few : spelled_by (codes "accept f1.example") ≡ one_fault WrongCount
accept-too_few = refl

accept-too_many : spelled_by (codes "accept f1.example r1.example 0") ≡ one_fault WrongCount
accept-too_many = refl

accept-unknown_second : spelled_by (codes "accept f1.example r3.example") ≡ one_fault UnknownName
accept-unknown_second = refl

opened : spelled_by (codes "opened r1.example f1.example") ≡ one_step (Opened r1 f1)
opened = refl

opened-too_few : spelled_by (codes "opened r1.example") ≡ one_fault WrongCount
opened-too_few = refl

opened-unknown_first : spelled_by (codes "opened r3.example f1.example") ≡ one_fault UnknownName
opened-unknown_first = refl

drop : spelled_by (codes "drop r1.example f1.example") ≡ one_step (Drop r1 f1)
drop = refl

-- the nodes stand in the order of the line
drop-turned : spelled_by (codes "drop f1.example r1.example") ≡ one_step (Drop f1 r1)
drop-turned = refl

drop-too_many : spelled_by (codes "drop f1.example r1.example 1") ≡ one_fault WrongCount
drop-too_many = refl

drop-unknown_second : spelled_by (codes "drop f1.example r3.example") ≡ one_fault UnknownName
drop-unknown_second = refl

-- ---- crash

crash : spelled_by (codes "crash f1.EXAMPLE") ≡ one_step (Crash f1)
crash = refl

-- a step that does not apply to its node is no fault
crash-client : spelled_by (codes "crash c1.example") ≡ one_step (Crash c1)
crash-client = refl

crash-too_many : spelled_by (codes "crash f1.example 0") ≡ one_fault WrongCount
crash-too_many = refl

crash-unknown : spelled_by (codes "crash f3.example") ≡ one_fault UnknownName
crash-unknown = refl

-- ---- restart

restart : spelled_by (codes "restart r1.example") ≡ one_step (Restart r1)
restart = refl

restart-upper_case : spelled_by (codes "restart F2.EXAMPLE") ≡ one_step (Restart f2)
restart-upper_case = refl

-- a step that does not apply to its node is no fault
restart-client : spelled_by (codes "restart c1.example") ≡ one_step (Restart c1)
restart-client = refl

restart-too_few : spelled_by (codes "restart") ≡ one_fault WrongCount
restart-too_few = refl

-- the count before the names
restart-too_many : spelled_by (codes "restart r3.example r1.example") ≡ one_fault WrongCount
restart-too_many = refl

restart-unknown : spelled_by (codes "restart r3.example") ≡ one_fault UnknownName
restart-unknown = refl

-- ---- refuse

refuse : spelled_by (codes "refuse f1.example 1") ≡ one_step (Refuse f1 1)
refuse = refl

-- the same words after `emit` are another step
emit : spelled_by (codes "emit f1.example 1") ≡ one_step (Emit f1 1)
emit = refl

refuse-upper_case : spelled_by (codes "refuse F2.eXaMpLe 0") ≡ one_step (Refuse f2 0)
refuse-upper_case = refl

refuse-relay : spelled_by (codes "refuse r1.example 0") ≡ one_step (Refuse r1 0)
refuse-relay = refl

refuse-too_few : spelled_by (codes "refuse f1.example") ≡ one_fault WrongCount
refuse-too_few = refl

refuse-too_many : spelled_by (codes "refuse f1.example 0 0") ≡ one_fault WrongCount
refuse-too_many = refl

refuse-unknown : spelled_by (codes "refuse f3.example 0x1") ≡ one_fault UnknownName
refuse-unknown = refl

refuse-bad_number : spelled_by (codes "refuse f1.example 0x1") ≡ one_fault BadNumber
refuse-bad_number = refl

-- ---- sweep

sweep : spelled_by (codes "sweep 1699999") ≡ one_step (Sweep (record { 0 = 1699999 }))
sweep = refl

sweep-latest : spelled_by (codes "sweep 18446744073709551615") ≡ one_step (Sweep (record { 0 = 18446744073709551615 }))
sweep-latest = refl

sweep-too_few : spelled_by (codes "sweep") ≡ one_fault WrongCount
sweep-too_few = refl

-- it is of the book, and names no front
sweep-too_many : spelled_by (codes "sweep f1.example 0") ≡ one_fault WrongCount
sweep-too_many = refl

sweep-bad_number : spelled_by (codes "sweep f1.example") ≡ one_fault BadNumber
sweep-bad_number = refl

sweep-large_number : spelled_by (codes "sweep 18446744073709551616") ≡ one_fault BadNumber
sweep-large_number = refl

sweep-upper_case : spelled_by (codes "SWEEP 0") ≡ one_fault UnknownWord
sweep-upper_case = refl

-- ---- relays, and words that are none

-- a relay stands where any node may, also where the step does not apply to it
up-relays : spelled_by (codes "up C2.example R1.example" ++ 10 ∷ codes "up r1.example r2.example") ≡ Ok (Up c2 r1 ∷ Up r1 r2 ∷ [])
up-relays = refl

pick-relay : spelled_by (codes "pick r2.example 0") ≡ one_step (Pick r2 0)
pick-relay = refl

deliver-relay : spelled_by (codes "deliver r1.example R2.example 0") ≡ one_step (Deliver r1 r2 0)
deliver-relay = refl

charge-relay : spelled_by (codes "charge r1.example 0 7") ≡ one_step (Charge r1 0 (record { 0 = 7 }))
charge-relay = refl

emit-relay : spelled_by (codes "emit R2.EXAMPLE 0") ≡ one_step (Emit r2 0)
emit-relay = refl

-- both names are known, so what is at fault is the message
send-relay : spelled_by (codes "send c1.example r1.example x") ≡ one_fault BadHex
send-relay = refl

relay-bad_number : spelled_by (codes "pick r1.example x") ≡ one_fault BadNumber
relay-bad_number = refl

relay-unknown : spelled_by (codes "pick r3.example x") ≡ one_fault UnknownName
relay-unknown = refl

-- names are read without case, the first word is not
first_word-upper_case : spelled_by (codes "CUT r1.example f1.example") ≡ one_fault UnknownWord
first_word-upper_case = refl

-- a first word is read whole
first_word-longer : spelled_by (codes "cuts r1.example f1.example") ≡ one_fault UnknownWord
first_word-longer = refl

first_word-shorter : spelled_by (codes "restar r1.example") ≡ one_fault UnknownWord
first_word-shorter = refl

-- ---- terms

abbrev changed : List Account → Option (List Tariff) → Step
changed joining tariffs = ChangeTerms (record { 0 = 1000 }) (record { joining = joining; closing = []; reopening = []; tariffs = tariffs })

by_octets : Tariff
by_octets = record { group = Some 10; ident = None; kind = Octets; block = 1000; price = 7; quantum = 5000; greatest = 10000 }

by_seconds : Tariff
by_seconds = record { group = None; ident = Some 7; kind = Time; block = 60; price = 0; quantum = 60; greatest = 4294967295 }

terms-nothing : spelled_by (codes "terms 1000") ≡ one_step (changed [] None)
terms-nothing = refl

-- an id may be the word of an item
terms-accounts :
    spelled_by (codes "terms 1000 account 0 account 5 account 4 tariffs -5")
    ≡ one_step (changed (record { id_kind = 0; id = codes "account"; opening = pos 5 } ∷ record { id_kind = 4; id = codes "tariffs"; opening = negsuc 4 } ∷ []) None)
terms-accounts = refl

-- no tariff holds from here on
terms-no_tariffs : spelled_by (codes "terms 1000 tariffs") ≡ one_step (changed [] (Some []))
terms-no_tariffs = refl

terms-tariffs :
    spelled_by (codes "terms 1000 account 0 6 0 tariffs tariff 10 - octets 1000 7 5000 10000 tariff - 7 time 60 0 60 4294967295")
    ≡ one_step (changed (record { id_kind = 0; id = codes "6"; opening = pos 0 } ∷ []) (Some (by_octets ∷ by_seconds ∷ [])))
unfolding by_octets by_seconds
terms-tariffs = refl

-- the form of all items before their numbers
terms-unknown_word : spelled_by (codes "terms now account 9 6 1 accounts") ≡ one_fault UnknownWord
terms-unknown_word = refl

terms-tariff_first : spelled_by (codes "terms 1000 tariff 10 - octets 1000 7 5000 10000") ≡ one_fault UnknownWord
terms-tariff_first = refl

terms-account_last : spelled_by (codes "terms 1000 tariffs account 0 6 1") ≡ one_fault UnknownWord
terms-account_last = refl

terms-no_moment : spelled_by (codes "terms") ≡ one_fault WrongCount
terms-no_moment = refl

terms-cut_off : spelled_by (codes "terms now account 9 6 1 account 0 6") ≡ one_fault WrongCount
terms-cut_off = refl

terms-moment : spelled_by (codes "terms now") ≡ one_fault BadNumber
terms-moment = refl

terms-kind : spelled_by (codes "terms 1000 account 5 6 1") ≡ one_fault BadNumber
terms-kind = refl

terms-id : spelled_by (codes "terms 1000 account 0 " ++ 127 ∷ codes " 1") ≡ one_fault BadNumber
terms-id = refl

terms-opening : spelled_by (codes "terms 1000 account 0 6 -4611686018427387905") ≡ one_fault BadNumber
terms-opening = refl

terms-no_digits : spelled_by (codes "terms 1000 account 0 6 -") ≡ one_fault BadNumber
terms-no_digits = refl

terms-both_keys : spelled_by (codes "terms 1000 tariffs tariff 10 7 octets 1000 7 5000 10000") ≡ one_fault BadNumber
terms-both_keys = refl

terms-no_key : spelled_by (codes "terms 1000 tariffs tariff - - octets 1000 7 5000 10000") ≡ one_fault BadNumber
terms-no_key = refl

terms-units : spelled_by (codes "terms 1000 tariffs tariff 10 - octet 1000 7 5000 10000") ≡ one_fault BadNumber
terms-units = refl

terms-twice : spelled_by (codes "terms 1000 tariffs tariff 10 - octets 1 7 1 1 tariff 10 - octets 1 7 1 1") ≡ one_fault BadNumber
terms-twice = refl
