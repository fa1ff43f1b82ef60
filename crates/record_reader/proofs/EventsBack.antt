-- The line of each event says this event.
use Rattle.std.proofs.Common.{◌≡◌, ℕ, true, false, ◌&&◌, ◌==◌, nat_lt, List, [], ◌∷◌, ◌++◌, length, flat_map, codes, decimal, slice_get, Option, Some, None, Ok, refl, sym, ap, ◌∙◌, arith, append-nil, append_assoc}
use Rattle.std.specs.List.{All, AllByRecursion, list_all}
use Rattle.std.specs.Str.{bytes_eq}
use Rattle.std.proofs.lemmas.List.Concat.{flat_map-append}
use Rattle.hex.specs.Hex.{encode_lower}
use Rattle.dia_base.specs.declared.number.ConnId.{ConnId}
use Rattle.dia_base.specs.declared.number.Moment.{Moment}
use Rattle.dia_base.specs.declared.number.NodeNo.{NodeNo}
use Rattle.dia_message.specs.declared.message.Message.{Message}
use Rattle.dia_message.specs.Spelling.{octets_of}
use Rattle.farm_base.specs.declared.site.Site.{Site}
use Rattle.farm_base.specs.CheckedSite.{IsChecked}
use Rattle.farm_record.specs.declared.event.Age.{Age}
use Rattle.farm_record.specs.declared.event.Age.TheVariants.{New, Kept}
use Rattle.farm_record.specs.declared.event.Event.TheVariants.{Time, Dial, Accept, Opened, Deliver, Send, Out, Drop, Charge, Refuse, Sweep, End, Lost}
use Rattle.farm_record.specs.Lines.{name_in, number_word, connection_words, message_words, job_words, age_word, answer_word, numbered}
use Rattle.record_reader.specs.Reading.{Said, Tells, age_of, answer_of, said_by, said_in}
use Rattle.record_reader.specs.Telling.{IsAnswer, IsCharge, IsConnection, Has64Bits, IsMessage, IsRefusal, IsSound, names_of}
use Rattle.record_reader.proofs.SpacedWords.{IsWord, and_second, behind_space, is_ink, line_has_no_feed, no_tilde, spaced, spaced_in_line, words_of-spaced}
use Rattle.record_reader.proofs.NumbersBack.{IsWord-decimal, decimal_below_tilde, number_of-decimal}
use Rattle.record_reader.proofs.MessagesBack.{IsWord-message, message_below_tilde, message_is_no_dash, message_of-written}
use Rattle.record_reader.proofs.NamesBack.{IsWord-name, node_of-name}

-- a line that says this, and is one line
pub record Says (site : Site) (line : List ℕ) (said : Said) : Type 0 where
  pub is : said_by site line ≡ Ok said
  pub one : All (λ octet. (octet == 10) ≡ false) line

pub by_words : (site : Site) (line verb : List ℕ) (words : List (List ℕ)) (said : Said) → line ≡ spaced verb words → IsWord verb → AllByRecursion IsWord words
    → said_in site (spaced verb words) (verb ∷ words) ≡ Ok said → Says site line said
by_words site line verb words said same first others is = rw same (record {
  is = ap (said_in site (spaced verb words)) (words_of-spaced verb words first others) ∙ is;
  one = line_has_no_feed (spaced verb words) (spaced_in_line verb words first others);
})

-- a word that is written out
pub written : (word : List ℕ) → (nat_lt 0 (length word) && list_all is_ink word) ≡ true → IsWord word
written [] h = absurd cc
written (octet ∷ word) h = record { some = omega arith; ink = and_second (nat_lt 0 (length (octet ∷ word))) (list_all is_ink (octet ∷ word)) h }

-- ---- words

pub number : (n : ℕ) → Has64Bits n → IsWord (decimal n)
number n h = IsWord-decimal n h

pub ends_in_number : (n : ℕ) → Has64Bits n → bytes_eq (decimal n) (126 ∷ []) ≡ false
ends_in_number n h = no_tilde (decimal n) (IsWord-decimal n h).some (decimal_below_tilde n h)

abbrev digits_of : Message → List ℕ
digits_of message = encode_lower (octets_of message)

ends_in_message : (message : Message) → IsSound message → bytes_eq (digits_of message) (126 ∷ []) ≡ false
ends_in_message message is = no_tilde (digits_of message) (IsWord-message message is).some (message_below_tilde message is)

abbrev pub name : Site → NodeNo → List ℕ
name site node = name_in (slice_get (names_of site) node.0)

abbrev age_said : Age → List ℕ
age_said New = codes "new"
age_said Kept = codes "kept"

-- ---- lines of numbers

pub time_says : (site : Site) (moment : Moment) → Has64Bits moment.0 → Says site (numbered (codes "time") moment.0) (Tells (Time moment))
time_says site moment h = by_words site (numbered (codes "time") moment.0) (codes "time") (decimal moment.0 ∷ []) (Tells (Time moment))
    (simp append-nil) (written (codes "time") refl) (number moment.0 h, tt) (rw (ends_in_number moment.0 h, number_of-decimal moment.0 h) refl)

pub opened_says : (site : Site) (conn : ConnId) → Has64Bits conn.0 → Says site (numbered (codes "opened") conn.0) (Tells (Opened conn))
opened_says site conn h = by_words site (numbered (codes "opened") conn.0) (codes "opened") (decimal conn.0 ∷ []) (Tells (Opened conn))
    (simp append-nil) (written (codes "opened") refl) (number conn.0 h, tt) (rw (ends_in_number conn.0 h, number_of-decimal conn.0 h) refl)

pub drop_says : (site : Site) (conn : ConnId) → Has64Bits conn.0 → Says site (numbered (codes "drop") conn.0) (Tells (Drop conn))
drop_says site conn h = by_words site (numbered (codes "drop") conn.0) (codes "drop") (decimal conn.0 ∷ []) (Tells (Drop conn))
    (simp append-nil) (written (codes "drop") refl) (number conn.0 h, tt) (rw (ends_in_number conn.0 h, number_of-decimal conn.0 h) refl)

pub sweep_says : (site : Site) (moment : Moment) (sessions : ℕ) → Has64Bits moment.0 → Has64Bits sessions
    → Says site (numbered (codes "sweep") moment.0 ++ number_word sessions) (Tells (Sweep moment sessions))
sweep_says site moment sessions h k = by_words site (numbered (codes "sweep") moment.0 ++ number_word sessions) (codes "sweep") (decimal moment.0 ∷ decimal sessions ∷ []) (Tells (Sweep moment sessions))
    (simp (append_assoc, append-nil)) (written (codes "sweep") refl) (number moment.0 h, (number sessions k, tt))
    (rw (ends_in_number sessions k, number_of-decimal moment.0 h, number_of-decimal sessions k) refl)

pub end_says : (site : Site) → Says site (codes "end") (Tells End)
end_says site = by_words site (codes "end") (codes "end") [] (Tells End) refl (written (codes "end") refl) tt refl

pub lost_says : (site : Site) → Says site (codes "lost") (Tells Lost)
lost_says site = by_words site (codes "lost") (codes "lost") [] (Tells Lost) refl (written (codes "lost") refl) tt refl

-- ---- lines of connections

connection_line : (site : Site) (verb : List ℕ) (conn : ConnId) (node peer : NodeNo) (label : ℕ)
    → connection_words (names_of site) verb conn node peer label ≡ spaced verb (decimal conn.0 ∷ name site node ∷ name site peer ∷ decimal label ∷ [])
connection_line site verb conn node peer label = simp (append_assoc, append-nil)

connection_is : (site : Site) (conn : ConnId) (node peer : NodeNo) (label : ℕ) → IsChecked site → IsConnection site conn node peer label
    → AllByRecursion IsWord (decimal conn.0 ∷ name site node ∷ name site peer ∷ decimal label ∷ [])
connection_is site conn node peer label checked is =
    (number conn.0 is.number, (IsWord-name site node checked is.node, (IsWord-name site peer checked is.peer, (number label is.label, tt))))

pub dial_says : (site : Site) (conn : ConnId) (node peer : NodeNo) (label : ℕ) → IsChecked site → IsConnection site conn node peer label
    → Says site (connection_words (names_of site) (codes "dial") conn node peer label) (Tells (Dial conn node peer label))
dial_says site conn node peer label checked is =
    by_words site (connection_words (names_of site) (codes "dial") conn node peer label) (codes "dial") (decimal conn.0 ∷ name site node ∷ name site peer ∷ decimal label ∷ [])
    (Tells (Dial conn node peer label)) (connection_line site (codes "dial") conn node peer label) (written (codes "dial") refl) (connection_is site conn node peer label checked is)
    (rw (ends_in_number label is.label, node_of-name site node checked is.node, node_of-name site peer checked is.peer, number_of-decimal conn.0 is.number, number_of-decimal label is.label) refl)

pub accept_says : (site : Site) (conn : ConnId) (node peer : NodeNo) (label : ℕ) → IsChecked site → IsConnection site conn node peer label
    → Says site (connection_words (names_of site) (codes "accept") conn node peer label) (Tells (Accept conn node peer label))
accept_says site conn node peer label checked is =
    by_words site (connection_words (names_of site) (codes "accept") conn node peer label) (codes "accept") (decimal conn.0 ∷ name site node ∷ name site peer ∷ decimal label ∷ [])
    (Tells (Accept conn node peer label)) (connection_line site (codes "accept") conn node peer label) (written (codes "accept") refl) (connection_is site conn node peer label checked is)
    (rw (ends_in_number label is.label, node_of-name site node checked is.node, node_of-name site peer checked is.peer, number_of-decimal conn.0 is.number, number_of-decimal label is.label) refl)

-- ---- lines of messages

message_line : (verb : List ℕ) (conn : ConnId) (message : Message) → message_words verb conn message ≡ spaced verb (decimal conn.0 ∷ digits_of message ∷ [])
message_line verb conn message = simp (append_assoc, append-nil)

pub deliver_says : (site : Site) (conn : ConnId) (message : Message) → IsMessage conn message → Says site (message_words (codes "deliver") conn message) (Tells (Deliver conn message))
deliver_says site conn message is =
    by_words site (message_words (codes "deliver") conn message) (codes "deliver") (decimal conn.0 ∷ digits_of message ∷ []) (Tells (Deliver conn message))
    (message_line (codes "deliver") conn message) (written (codes "deliver") refl) (number conn.0 is.number, (IsWord-message message is.sound, tt))
    (rw (ends_in_message message is.sound, number_of-decimal conn.0 is.number, message_of-written message is.sound) refl)

pub send_says : (site : Site) (conn : ConnId) (message : Message) → IsMessage conn message → Says site (message_words (codes "send") conn message) (Tells (Send conn message))
send_says site conn message is =
    by_words site (message_words (codes "send") conn message) (codes "send") (decimal conn.0 ∷ digits_of message ∷ []) (Tells (Send conn message))
    (message_line (codes "send") conn message) (written (codes "send") refl) (number conn.0 is.number, (IsWord-message message is.sound, tt))
    (rw (ends_in_message message is.sound, number_of-decimal conn.0 is.number, message_of-written message is.sound) refl)

pub out_says : (site : Site) (conn : ConnId) (message : Message) → IsMessage conn message → Says site (message_words (codes "out") conn message) (Tells (Out conn message))
out_says site conn message is =
    by_words site (message_words (codes "out") conn message) (codes "out") (decimal conn.0 ∷ digits_of message ∷ []) (Tells (Out conn message))
    (message_line (codes "out") conn message) (written (codes "out") refl) (number conn.0 is.number, (IsWord-message message is.sound, tt))
    (rw (ends_in_message message is.sound, number_of-decimal conn.0 is.number, message_of-written message is.sound) refl)

-- ---- lines of jobs

IsWord-age : (age : Age) → IsWord (age_said age)
IsWord-age New = written (codes "new") refl
IsWord-age Kept = written (codes "kept") refl

abbrev answer_said : Option Message → List ℕ
answer_said None = codes "-"
answer_said (Some message) = digits_of message

IsWord-answer : (answer : Option Message) → IsAnswer answer → IsWord (answer_said answer)
IsWord-answer None is = written (codes "-") refl
IsWord-answer (Some message) is = IsWord-message message is

ends_in_answer : (answer : Option Message) → IsAnswer answer → bytes_eq (answer_said answer) (126 ∷ []) ≡ false
ends_in_answer None is = refl
ends_in_answer (Some message) is = ends_in_message message is

answer_back : (answer : Option Message) → IsAnswer answer → answer_of (answer_said answer) ≡ Ok answer
answer_back None is = refl
answer_back (Some message) is = rw (message_is_no_dash message, message_of-written message is) refl

age_back : (age : Age) → age_of (age_said age) ≡ Ok age
age_back New = refl
age_back Kept = refl

abbrev charge_line : Site → NodeNo → ℕ → Moment → ℕ → Age → Option Message → List ℕ
charge_line site front job moment place age answer =
    job_words (names_of site) (codes "charge") front job ++ number_word moment.0 ++ number_word place ++ age_word age ++ answer_word answer

abbrev charge_rest : Site → NodeNo → ℕ → Moment → ℕ → Age → Option Message → List (List ℕ)
charge_rest site front job moment place age answer =
    name site front ∷ decimal job ∷ decimal moment.0 ∷ decimal place ∷ age_said age ∷ answer_said answer ∷ []

three_words : (verb a b c : List ℕ) → verb ++ 32 ∷ a ++ 32 ∷ b ++ 32 ∷ c ≡ spaced verb (a ∷ b ∷ c ∷ [])
three_words verb a b c = simp (append_assoc, append-nil)

spaced_more : (verb : List ℕ) (words others : List (List ℕ)) → spaced (spaced verb words) others ≡ spaced verb (words ++ others)
spaced_more verb words others =
    append_assoc verb (flat_map behind_space words) (flat_map behind_space others) ∙ ap (λ (line : List ℕ). verb ++ line) (sym (flat_map-append behind_space words others))

six_words : (verb a b c d e f : List ℕ) → verb ++ 32 ∷ a ++ 32 ∷ b ++ 32 ∷ c ++ 32 ∷ d ++ 32 ∷ e ++ 32 ∷ f ≡ spaced verb (a ∷ b ∷ c ∷ d ∷ e ∷ f ∷ [])
six_words verb a b c d e f =
    three_words (verb ++ 32 ∷ a ++ 32 ∷ b ++ 32 ∷ c) d e f
    ∙ ap (λ (line : List ℕ). spaced line (d ∷ e ∷ f ∷ [])) (three_words verb a b c)
    ∙ spaced_more verb (a ∷ b ∷ c ∷ []) (d ∷ e ∷ f ∷ [])

charge_same : (site : Site) (front : NodeNo) (job : ℕ) (moment : Moment) (place : ℕ) (age : Age) (answer : Option Message)
    → charge_line site front job moment place age answer ≡ spaced (codes "charge") (charge_rest site front job moment place age answer)
charge_same site front job moment place New None =
    six_words (codes "charge") (name site front) (decimal job) (decimal moment.0) (decimal place) (codes "new") (codes "-")
charge_same site front job moment place New (Some message) =
    six_words (codes "charge") (name site front) (decimal job) (decimal moment.0) (decimal place) (codes "new") (digits_of message)
charge_same site front job moment place Kept None =
    six_words (codes "charge") (name site front) (decimal job) (decimal moment.0) (decimal place) (codes "kept") (codes "-")
charge_same site front job moment place Kept (Some message) =
    six_words (codes "charge") (name site front) (decimal job) (decimal moment.0) (decimal place) (codes "kept") (digits_of message)

charge_in : (site : Site) (front : NodeNo) (job : ℕ) (moment : Moment) (place : ℕ) (age : Age) (answer : Option Message) → IsChecked site → IsCharge site front job moment.0 place answer
    → said_in site (spaced (codes "charge") (charge_rest site front job moment place age answer)) (codes "charge" ∷ charge_rest site front job moment place age answer) ≡ Ok (Tells (Charge front job moment place age answer))
charge_in site front job moment place age answer checked is =
    rw (ends_in_answer answer is.answer, node_of-name site front checked is.front, number_of-decimal job is.job, number_of-decimal moment.0 is.moment, number_of-decimal place is.place, age_back age, answer_back answer is.answer) refl

pub charge_says : (site : Site) (front : NodeNo) (job : ℕ) (moment : Moment) (place : ℕ) (age : Age) (answer : Option Message) → IsChecked site → IsCharge site front job moment.0 place answer
    → Says site (charge_line site front job moment place age answer) (Tells (Charge front job moment place age answer))
charge_says site front job moment place age answer checked is =
    by_words site (charge_line site front job moment place age answer) (codes "charge") (charge_rest site front job moment place age answer) (Tells (Charge front job moment place age answer))
    (charge_same site front job moment place age answer) (written (codes "charge") refl)
    (IsWord-name site front checked is.front, (number job is.job, (number moment.0 is.moment, (number place is.place, (IsWord-age age, (IsWord-answer answer is.answer, tt))))))
    (charge_in site front job moment place age answer checked is)

refuse_same : (site : Site) (front : NodeNo) (job : ℕ) (answer : Option Message)
    → job_words (names_of site) (codes "refuse") front job ++ answer_word answer ≡ spaced (codes "refuse") (name site front ∷ decimal job ∷ answer_said answer ∷ [])
refuse_same site front job None = three_words (codes "refuse") (name site front) (decimal job) (codes "-")
refuse_same site front job (Some message) = three_words (codes "refuse") (name site front) (decimal job) (digits_of message)

pub refuse_says : (site : Site) (front : NodeNo) (job : ℕ) (answer : Option Message) → IsChecked site → IsRefusal site front job answer
    → Says site (job_words (names_of site) (codes "refuse") front job ++ answer_word answer) (Tells (Refuse front job answer))
refuse_says site front job answer checked is =
    by_words site (job_words (names_of site) (codes "refuse") front job ++ answer_word answer) (codes "refuse") (name site front ∷ decimal job ∷ answer_said answer ∷ []) (Tells (Refuse front job answer))
    (refuse_same site front job answer) (written (codes "refuse") refl) (IsWord-name site front checked is.front, (number job is.job, (IsWord-answer answer is.answer, tt)))
    (rw (ends_in_answer answer is.answer, node_of-name site front checked is.front, number_of-decimal job is.job, answer_back answer is.answer) refl)
