-- What the words behind `terms` spell: a moment, the accounts that join, close and open again, and the tariffs that hold from then on.
use Rattle.std.specs.Prelude.{ℕ, ◌-◌, ◌^◌, ℤ, pos, neg_ℤ, List, [], ◌∷◌, ◌++◌, length, codes, Bool, true, false, ◌&&◌, ◌==◌, nat_le, nat_lt, if◌then◌else◌, Option, Some, None, is_none, Result, Ok, Err}
use Rattle.std.specs.List.{filter_map, list_all}
use Rattle.std.specs.Str.{bytes_eq}
use Rattle.cc_view.specs.declared.request.Subscription.{Subscription}
use Rattle.cc_book.specs.declared.account.Account.{Account}
use Rattle.cc_book.specs.declared.terms_change.TermsChange.{TermsChange}
use Rattle.cc_rating.specs.declared.tariff.Tariff.{Tariff}
use Rattle.cc_rating.specs.declared.tariff.UnitKind.{UnitKind}
use Rattle.cc_rating.specs.declared.tariff.UnitKind.TheVariants.{Time, Octets, Units}
use Rattle.cc_rating.specs.Tariffs.{fault_of}
use Rattle.farm_base.specs.declared.step.Step.{Step}
use Rattle.farm_base.specs.declared.step.Step.TheVariants.{ChangeTerms}
use Rattle.farm_base.specs.CheckedSite.{is_visible, is_within}
use Rattle.farm_script.specs.declared.fault.LineFault.{LineFault}
use Rattle.farm_script.specs.declared.fault.LineFault.TheVariants.{UnknownWord, WrongCount, BadNumber}
use Rattle.farm_script.specs.declared.terms.AccountItem.{AccountItem}
use Rattle.farm_script.specs.declared.terms.AccountItem.TheVariants.{Joins, Closes, Reopens}
use Rattle.farm_script.specs.declared.terms.Form.{Form}
use Rattle.farm_script.specs.Words.{number_of, ◌>>=◌}

-- ---- the form of the items: `account` and three words more, and behind `tariffs` `tariff` and seven words more

-- the form behind the first word of an item
abbrev pub form_at_item : Bool → List ℕ → Result Form LineFault
form_at_item false word =
    if bytes_eq word (codes "account") then Ok (record { in_tariffs = false; left = 3 })
    else if bytes_eq word (codes "tariffs") then Ok (record { in_tariffs = true; left = 0 }) else Err UnknownWord
form_at_item true word = if bytes_eq word (codes "tariff") then Ok (record { in_tariffs = true; left = 7 }) else Err UnknownWord

-- the form behind one word more
abbrev pub next_form : Form → List ℕ → Result Form LineFault
next_form form word = if nat_lt 0 form.left then Ok (record form { left = form.left - 1 }) else form_at_item form.in_tariffs word

-- behind all of them: no item is begun
abbrev pub last_form : Form → Option LineFault
last_form form = if nat_lt 0 form.left then Some WrongCount else None

-- what is wrong with the form of words, in this form so far
abbrev pub form_fault : Result Form LineFault → List (List ℕ) → Option LineFault
form_fault (Err fault) words = Some fault
form_fault (Ok form) [] = last_form form
form_fault (Ok form) (word ∷ words) = form_fault (next_form form word) words

-- ---- what is said by the words of an item, each fault of which is a bad number

-- a number up to a limit
abbrev pub number_up_to : ℕ → List ℕ → Result ℕ LineFault
number_up_to limit word = do
  number ← number_of word
  if nat_le number limit then Ok number else Err BadNumber

-- an amount, which begins with a minus where it is below 0
abbrev pub amount_by : Bool → List ℕ → List ℕ → Result ℤ LineFault
amount_by true digits word = if nat_lt 0 (length digits) then (do
  size ← number_up_to (2 ^ 62) digits
  Ok (neg_ℤ (pos size))) else Err BadNumber
amount_by false digits word = do
  size ← number_up_to (2 ^ 62) word
  Ok (pos size)

abbrev pub amount_of : List ℕ → Result ℤ LineFault
amount_of [] = Err BadNumber
amount_of (octet ∷ octets) = amount_by (octet == 45) octets (octet ∷ octets)

-- a Subscription-Id-Data of a site
abbrev pub is_sound_id : List ℕ → Bool
is_sound_id id = is_within 1 64 (length id) && list_all is_visible id

abbrev pub with_id : ℕ → List ℕ → ℤ → Result Account LineFault
with_id kind id opening = if is_sound_id id then Ok (record { id_kind = kind; id = id; opening = opening }) else Err BadNumber

-- the account that the words behind `account` spell
abbrev pub account_said : List (List ℕ) → Result Account LineFault
account_said (kind ∷ id ∷ opening ∷ []) = do
  number ← number_up_to 4 kind
  amount ← amount_of opening
  with_id number id amount
account_said words = Err WrongCount

-- the account that the words of a line of its own spell
abbrev pub account_of : List (List ℕ) → Result Account LineFault
account_of [] = Err WrongCount
account_of (word ∷ words) = if bytes_eq word (codes "account") then account_said words else Err UnknownWord

-- a Subscription-Id of an account of a site
abbrev pub named : ℕ → List ℕ → Result Subscription LineFault
named kind id = if is_sound_id id then Ok (record { kind = kind; text = id }) else Err BadNumber

-- what is said of an account: that it is closed, or open again, or with which opening it joins
abbrev pub item_said : ℕ → List ℕ → List ℕ → Result AccountItem LineFault
item_said kind id said =
    if bytes_eq said (codes "closed") then (do
      subscription ← named kind id
      Ok (Closes subscription))
    else if bytes_eq said (codes "open") then (do
      subscription ← named kind id
      Ok (Reopens subscription))
    else (do
      amount ← amount_of said
      account ← with_id kind id amount
      Ok (Joins account))

abbrev pub item_of : List ℕ → List ℕ → List ℕ → Result AccountItem LineFault
item_of kind id said = do
  number ← number_up_to 4 kind
  item_said number id said

-- a Rating-Group or a Service-Identifier, or `-` for none
abbrev pub key_of : List ℕ → Result (Option ℕ) LineFault
key_of word = if bytes_eq word (codes "-") then Ok None else (do
  number ← number_up_to (2 ^ 32 - 1) word
  Ok (Some number))

abbrev pub units_of : List ℕ → Result UnitKind LineFault
units_of word =
    if bytes_eq word (codes "time") then Ok Time
    else if bytes_eq word (codes "octets") then Ok Octets
    else if bytes_eq word (codes "units") then Ok Units else Err BadNumber

-- The numbers of a tariff. Whether they are in their ranges is asked of all tariffs together.
abbrev pub tariff_of : List ℕ → List ℕ → List ℕ → List ℕ → List ℕ → List ℕ → List ℕ → Result Tariff LineFault
tariff_of group ident units block price quantum greatest = do
  by_group ← key_of group
  by_ident ← key_of ident
  kind ← units_of units
  size ← number_of block
  cost ← number_of price
  least ← number_of quantum
  most ← number_of greatest
  Ok (record { group = by_group; ident = by_ident; kind = kind; block = size; price = cost; quantum = least; greatest = most })

-- ---- what all items say, in this order behind others

-- what is said of accounts before `tariffs`
abbrev pub items_from : List AccountItem → List (List ℕ) → Result (List AccountItem) LineFault
items_from before (word ∷ kind ∷ id ∷ said ∷ words) = if bytes_eq word (codes "account") then (do
  item ← item_of kind id said
  items_from (before ++ item ∷ []) words) else Ok before
items_from before words = Ok before

-- the accounts that join, and the Subscription-Ids of those that close and of those that open again
abbrev pub joining_of : AccountItem → Option Account
joining_of (Joins account) = Some account
joining_of _ = None

abbrev pub closing_of : AccountItem → Option Subscription
closing_of (Closes subscription) = Some subscription
closing_of _ = None

abbrev pub reopening_of : AccountItem → Option Subscription
reopening_of (Reopens subscription) = Some subscription
reopening_of _ = None

-- the words behind `tariffs`, if it is there
abbrev pub behind_tariffs : List (List ℕ) → Option (List (List ℕ))
behind_tariffs [] = None
behind_tariffs (word ∷ kind ∷ id ∷ opening ∷ words) = if bytes_eq word (codes "tariffs") then Some (kind ∷ id ∷ opening ∷ words) else behind_tariffs words
behind_tariffs (word ∷ words) = if bytes_eq word (codes "tariffs") then Some words else None

abbrev pub tariffs_from : List Tariff → List (List ℕ) → Result (List Tariff) LineFault
tariffs_from before (word ∷ group ∷ ident ∷ units ∷ block ∷ price ∷ quantum ∷ greatest ∷ words) = do
  tariff ← tariff_of group ident units block price quantum greatest
  tariffs_from (before ++ tariff ∷ []) words
tariffs_from before words = Ok before

-- the tariffs of a site have no fault: each is in its ranges, and none is for the services of another
abbrev pub faultless : List Tariff → Result (List Tariff) LineFault
faultless tariffs = if is_none (fault_of tariffs) then Ok tariffs else Err BadNumber

abbrev pub tariffs_of : List (List ℕ) → Result (List Tariff) LineFault
tariffs_of words = do
  tariffs ← tariffs_from [] words
  faultless tariffs

abbrev pub some_tariffs_of : Option (List (List ℕ)) → Result (Option (List Tariff)) LineFault
some_tariffs_of None = Ok None
some_tariffs_of (Some words) = do
  tariffs ← tariffs_of words
  Ok (Some tariffs)

abbrev pub change_of : List (List ℕ) → Result TermsChange LineFault
change_of items = do
  accounts ← items_from [] items
  tariffs ← some_tariffs_of (behind_tariffs items)
  Ok (record { joining = filter_map joining_of accounts; closing = filter_map closing_of accounts; reopening = filter_map reopening_of accounts; tariffs = tariffs })

-- ---- the step

abbrev pub step_said : List ℕ → List (List ℕ) → Result Step LineFault
step_said moment items = do
  time ← number_of moment
  change ← change_of items
  Ok (ChangeTerms (record { 0 = time }) change)

-- The form of the items is looked at before any number.
abbrev pub formed : Option LineFault → Result Step LineFault → Result Step LineFault
formed None step = step
formed (Some fault) step = Err fault

abbrev pub terms_of : List (List ℕ) → Result Step LineFault
terms_of [] = Err WrongCount
terms_of (moment ∷ items) = formed (form_fault (Ok (record { in_tariffs = false; left = 0 })) items) (step_said moment items)
