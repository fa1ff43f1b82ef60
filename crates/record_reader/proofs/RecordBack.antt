-- A record says what was told.
use Rattle.std.proofs.Common.{◌≡◌, ℕ, ◌<◌, true, false, not, ◌==◌, List, [], ◌∷◌, ◌++◌, length, map, flat_map, codes, Result, Ok, Err, refl, ap, ◌∙◌, inl, inr, arith, append_assoc}
use Rattle.std.specs.List.{All, AllByRecursion, list_all, slice_split}
use Rattle.std.specs.Str.{bytes_eq}
use Rattle.std.proofs.lemmas.Bool.{cases_Bool, eqb-true}
use Rattle.std.proofs.lemmas.List.Elements.{All-nil, All-cons}
use Rattle.std.proofs.lemmas.List.Splits.{slice_split_at, length-slice_split}
use Rattle.farm_base.specs.declared.site.Site.{Site}
use Rattle.farm_base.specs.CheckedSite.{IsChecked}
use Rattle.farm_record.specs.declared.event.Event.{Event}
use Rattle.farm_record.specs.declared.event.Event.TheVariants.{Begin, Time, Dial, Accept, Opened, Deliver, Send, Out, Drop, Charge, Refuse, Sweep, Report, End, Lost}
use Rattle.farm_record.specs.Lines.{line_of, words_of as line_words}
use Rattle.farm_script.specs.declared.fault.LineFault.{LineFault}
use Rattle.farm_script.specs.Words.{words_of, ◌>>=◌}
use Rattle.record_reader.specs.Reading.{Said, Nothing, Reports, is_comment, is_of_report, is_unfinished, said_in, said_of, word_at}
use Rattle.record_reader.specs.Telling.{CanTell, IsReport, and_said, but_last, followed, names_of, said_by_lines, said_in_record, whole_lines}
use Rattle.record_reader.proofs.SpacedWords.{and_first, and_second}
use Rattle.record_reader.proofs.NamesBack.{not_true}
use Rattle.record_reader.proofs.EventsBack.{Says, time_says, dial_says, accept_says, opened_says, deliver_says, send_says, out_says, drop_says, charge_says, refuse_says, sweep_says, end_says, lost_says}
use Rattle.record_reader.proofs.BeginningsBack.{begin_line, begin_says}

-- ---- lines

but_last-more : (part : List ℕ) (parts : List (List ℕ)) → 0 < length parts → but_last (part ∷ parts) ≡ part ∷ but_last parts
but_last-more part [] some = absurd (omega arith)
but_last-more part (next ∷ parts) some = refl

pub whole_lines-more : (line rest : List ℕ) → All (λ octet. (octet == 10) ≡ false) line → whole_lines (line ++ 10 ∷ rest) ≡ line ∷ whole_lines rest
whole_lines-more line rest one =
    let some : 0 < length (slice_split (λ octet. octet == 10) rest) = omega (arith, length-slice_split (λ octet. octet == 10) rest) in
    ap but_last (slice_split_at (λ octet. octet == 10) line 10 rest one refl) ∙ but_last-more line (slice_split (λ octet. octet == 10) rest) some

pub follows : (said : Said) (more : Result (List Said) LineFault) → (more >>= (λ others. Ok (and_said said others))) ≡ followed said more
follows said (Ok more) = refl
follows said (Err fault) = refl

line_more : (site : Site) (line rest : List ℕ) (said : Said) → Says site line said → said_in_record site (line ++ 10 ∷ rest) ≡ followed said (said_in_record site rest)
line_more site line rest said says =
    ap (said_by_lines site) (whole_lines-more line rest says.one) ∙ rw says.is (follows said (said_in_record site rest))

-- ---- a line of the report

same_octets : (a b : List ℕ) → bytes_eq a b ≡ true → a ≡ b
same_octets [] [] h = refl
same_octets [] (y ∷ b) h = absurd cc
same_octets (x ∷ a) [] h = absurd cc
same_octets (x ∷ a) (y ∷ b) h =
    let first : x ≡ y = eqb-true x y (and_first (x == y) (bytes_eq a b) h) in
    let others = same_octets a b (and_second (x == y) (bytes_eq a b) h) in
    cc

report_begins_nothing : (verb : List ℕ) → is_of_report verb ≡ true → bytes_eq verb (codes "begin") ≡ false
report_begins_nothing verb h = elim (cases_Bool (bytes_eq verb (codes "entries"))) [
  | inl first ↦ rw (same_octets verb (codes "entries") first) refl
  | inr others ↦ let second : bytes_eq verb (codes "account") ≡ true = rw others at h in rw (same_octets verb (codes "account") second) refl
]

report_words : (site : Site) (line : List ℕ) (words : List (List ℕ)) → is_of_report (word_at words 0) ≡ true → is_unfinished words ≡ false → is_comment line ≡ false
    → said_in site line words ≡ Ok (Reports line)
report_words site line [] verb whole no_comment = absurd cc
report_words site line (first ∷ words) verb whole no_comment = rw (whole, no_comment, report_begins_nothing first verb, verb) refl

feedless : (line : List ℕ) → list_all (λ octet. not (octet == 10)) line ≡ true → All (λ octet. (octet == 10) ≡ false) line
feedless [] h = All-nil (λ octet. (octet == 10) ≡ false)
feedless (octet ∷ line) h = All-cons (λ octet. (octet == 10) ≡ false) octet line
    (not_true (octet == 10) (and_first (not (octet == 10)) (list_all (λ octet. not (octet == 10)) line) h))
    (feedless line (and_second (not (octet == 10)) (list_all (λ octet. not (octet == 10)) line) h))

report_says : (site : Site) (line : List ℕ) → IsReport line → Says site line (Reports line)
report_says site line is = record {
  is = report_words site line (words_of line) is.verb is.whole is.no_comment;
  one = feedless line is.one_line;
}

-- ---- an event

one_event : (site : Site) (words rest : List ℕ) (said : Said) → Says site words said → said_in_record site ((words ++ 10 ∷ []) ++ rest) ≡ followed said (said_in_record site rest)
one_event site words rest said says = ap (said_in_record site) (append_assoc words (10 ∷ []) rest) ∙ line_more site words rest said says

-- the line before a beginning, which no event has
cut_says : (site : Site) → Says site (codes " ~") Nothing
cut_says site = record {
  is = refl;
  one = All-cons (λ octet. (octet == 10) ≡ false) 32 (126 ∷ []) refl (All-cons (λ octet. (octet == 10) ≡ false) 126 [] refl (All-nil (λ octet. (octet == 10) ≡ false)));
}

pub followed_nothing : (more : Result (List Said) LineFault) → followed Nothing more ≡ more
followed_nothing (Ok more) = refl
followed_nothing (Err fault) = refl

event_more : (site : Site) (event : Event) (rest : List ℕ) → IsChecked site → CanTell site event
    → said_in_record site (line_of (names_of site) event ++ rest) ≡ followed (said_of event) (said_in_record site rest)
event_more site (Begin nodes moment) rest checked is =
    line_more site (codes " ~") ((begin_line site nodes.items moment.0 ++ 10 ∷ []) ++ rest) Nothing (cut_says site)
    ∙ followed_nothing (said_in_record site ((begin_line site nodes.items moment.0 ++ 10 ∷ []) ++ rest))
    ∙ one_event site (begin_line site nodes.items moment.0) rest (said_of (Begin nodes moment)) (begin_says site nodes.items moment checked is)
event_more site (Time moment) rest checked is = one_event site (line_words (names_of site) (Time moment)) rest (said_of (Time moment)) (time_says site moment is)
event_more site (Dial conn node peer label) rest checked is =
    one_event site (line_words (names_of site) (Dial conn node peer label)) rest (said_of (Dial conn node peer label)) (dial_says site conn node peer label checked is)
event_more site (Accept conn node peer label) rest checked is =
    one_event site (line_words (names_of site) (Accept conn node peer label)) rest (said_of (Accept conn node peer label)) (accept_says site conn node peer label checked is)
event_more site (Opened conn) rest checked is = one_event site (line_words (names_of site) (Opened conn)) rest (said_of (Opened conn)) (opened_says site conn is)
event_more site (Deliver conn message) rest checked is =
    one_event site (line_words (names_of site) (Deliver conn message)) rest (said_of (Deliver conn message)) (deliver_says site conn message is)
event_more site (Send conn message) rest checked is = one_event site (line_words (names_of site) (Send conn message)) rest (said_of (Send conn message)) (send_says site conn message is)
event_more site (Out conn message) rest checked is = one_event site (line_words (names_of site) (Out conn message)) rest (said_of (Out conn message)) (out_says site conn message is)
event_more site (Drop conn) rest checked is = one_event site (line_words (names_of site) (Drop conn)) rest (said_of (Drop conn)) (drop_says site conn is)
event_more site (Charge front job moment place age answer) rest checked is =
    one_event site (line_words (names_of site) (Charge front job moment place age answer)) rest (said_of (Charge front job moment place age answer)) (charge_says site front job moment place age answer checked is)
event_more site (Refuse front job answer) rest checked is =
    one_event site (line_words (names_of site) (Refuse front job answer)) rest (said_of (Refuse front job answer)) (refuse_says site front job answer checked is)
event_more site (Sweep moment sessions) rest checked is =
    one_event site (line_words (names_of site) (Sweep moment sessions)) rest (said_of (Sweep moment sessions)) (sweep_says site moment sessions is.0 is.1)
event_more site (Report line) rest checked is = one_event site line.items rest (said_of (Report line)) (report_says site line.items is)
event_more site End rest checked is = one_event site (codes "end") rest (said_of End) (end_says site)
event_more site Lost rest checked is = one_event site (codes "lost") rest (said_of Lost) (lost_says site)

told : (event : Event) (more : List Said) → followed (said_of event) (Ok more) ≡ Ok (said_of event ∷ more)
told (Begin nodes moment) more = refl
told (Time moment) more = refl
told (Dial conn node peer label) more = refl
told (Accept conn node peer label) more = refl
told (Opened conn) more = refl
told (Deliver conn message) more = refl
told (Send conn message) more = refl
told (Out conn message) more = refl
told (Drop conn) more = refl
told (Charge front job moment place age answer) more = refl
told (Refuse front job answer) more = refl
told (Sweep moment sessions) more = refl
told (Report line) more = refl
told End more = refl
told Lost more = refl

pub told_is_said : (site : Site) (events : List Event) → IsChecked site → AllByRecursion (CanTell site) events
    → said_in_record site (flat_map (line_of (names_of site)) events) ≡ Ok (map said_of events)
told_is_said site [] checked all = refl
told_is_said site (event ∷ events) checked all =
    event_more site event (flat_map (line_of (names_of site)) events) checked all.0
    ∙ ap (followed (said_of event)) (told_is_said site events checked all.1)
    ∙ told event (map said_of events)
