-- What may stand at each key of a site file: of which type, in which range, how many.
use Rattle.std.specs.Prelude.{ℕ, suc, ℤ, pos, negsuc, Bool, true, false, ◌&&◌, List, length, Option, Some, None, is_some, nat_le, nat_lt}
use Rattle.std.specs.List.{list_all}
use Rattle.toml.specs.Data.{Data, Items, no_items, item, as_array, as_integer, as_str, as_table}
use Rattle.farm_base.specs.CheckedSite.{is_visible, is_within, size_of}
use Rattle.farm_site.specs.declared.key.Key.{Key}
use Rattle.farm_site.specs.declared.key.Key.TheVariants.{Realm, Validity, Limit, Workers, Queue, Vendors, Known, Tolerate, Advertise, Currency, Exponent, Watchdog, Node, Link, Route, Tariff, Account, Name, Kind, Address, From, To, At, App, Peers, Group, Ident, Block, Price, Quantum, Greatest, IdKind, Id, Opening}

-- ---- forms

-- A text; an identity; a text, or a number, of which the entry says which are in range; the text of an account; a number
-- from the least to the most; an integer of at most a size; an array of numbers of 32 bits; an array of at most so many of
-- them, from the least; an array of texts, of which the file says which are known; an array of at most so many texts, or
-- tables.
pub data Form : Type 0 where
  any_text : Form
  identity_text : Form
  known_word : Form
  units_number : Form
  account_id : Form
  number_within : ℕ → ℕ → Form
  integer_of_size : ℕ → Form
  list_of_numbers : Form
  list_of_numbers_from : ℕ → ℕ → Form
  list_of_words : Form
  list_of_texts : ℕ → Form
  list_of_tables : ℕ → Form

abbrev pub form_of : Key → Form
form_of Realm = identity_text
form_of Validity = number_within 1 86400
form_of Limit = number_within 1 1048576
form_of Workers = number_within 1 16
form_of Queue = number_within 1 1024
form_of Vendors = list_of_numbers
form_of Known = list_of_numbers_from 462 256
form_of Tolerate = list_of_words
form_of Advertise = list_of_numbers_from 0 16
form_of Currency = number_within 0 999
form_of Exponent = integer_of_size 9
form_of Watchdog = number_within 100 600000
form_of Node = list_of_tables 64
form_of Link = list_of_tables 256
form_of Route = list_of_tables 256
form_of Tariff = list_of_tables 1024
form_of Account = list_of_tables 65536
form_of Name = identity_text
form_of Kind = known_word
form_of Address = known_word
form_of From = any_text
form_of To = any_text
form_of At = any_text
form_of App = number_within 0 4294967295
form_of Peers = list_of_texts 16
form_of Group = number_within 0 4294967295
form_of Ident = number_within 0 4294967295
form_of Block = number_within 1 4294967296
form_of Price = number_within 0 1048576
form_of Quantum = units_number
form_of Greatest = units_number
form_of IdKind = number_within 0 4
form_of Id = account_id
form_of Opening = integer_of_size 4611686018427387904

-- ---- which keys a table has

-- a key that must be there, one that may be left out, and one that a table does not have
pub data Need : Type 0 where
  required : Need
  optional : Need
  no_key : Need

abbrev pub is_key : Need → Bool
is_key required = true
is_key optional = true
is_key no_key = false

-- the arrays of tables may be left out, too
abbrev pub need_of_file : Key → Need
need_of_file Realm = required
need_of_file Validity = required
need_of_file Limit = optional
need_of_file Workers = optional
need_of_file Queue = optional
need_of_file Vendors = optional
need_of_file Known = optional
need_of_file Tolerate = optional
need_of_file Advertise = optional
need_of_file Currency = required
need_of_file Exponent = required
need_of_file Watchdog = optional
need_of_file Node = optional
need_of_file Link = optional
need_of_file Route = optional
need_of_file Tariff = optional
need_of_file Account = optional
need_of_file key = no_key

abbrev pub need_of_node : Key → Need
need_of_node Name = required
need_of_node Kind = required
need_of_node Address = optional
need_of_node key = no_key

abbrev pub need_of_link : Key → Need
need_of_link From = required
need_of_link To = required
need_of_link key = no_key

abbrev pub need_of_route : Key → Need
need_of_route At = required
need_of_route Realm = required
need_of_route App = required
need_of_route Peers = required
need_of_route key = no_key

-- one of group and identifier
abbrev pub need_of_tariff : Key → Need
need_of_tariff Group = optional
need_of_tariff Ident = optional
need_of_tariff Kind = required
need_of_tariff Block = required
need_of_tariff Price = required
need_of_tariff Quantum = required
need_of_tariff Greatest = required
need_of_tariff key = no_key

abbrev pub need_of_account : Key → Need
need_of_account IdKind = required
need_of_account Id = required
need_of_account Opening = required
need_of_account key = no_key

-- ---- numbers and texts

abbrev pub is_for_text : Form → Bool
is_for_text any_text = true
is_for_text identity_text = true
is_for_text known_word = true
is_for_text units_number = false
is_for_text account_id = true
is_for_text (number_within least most) = false
is_for_text (integer_of_size size) = false
is_for_text list_of_numbers = false
is_for_text (list_of_numbers_from least most) = false
is_for_text list_of_words = false
is_for_text (list_of_texts most) = false
is_for_text (list_of_tables most) = false

-- the numbers from the least to the most are at least those of the form
abbrev pub covers : ℕ → ℕ → Form → Bool
covers least most any_text = false
covers least most identity_text = false
covers least most known_word = false
covers least most units_number = false
covers least most account_id = false
covers least most (number_within from to) = nat_le least from && nat_le to most
covers least most (integer_of_size size) = false
covers least most list_of_numbers = false
covers least most (list_of_numbers_from from count) = false
covers least most list_of_words = false
covers least most (list_of_texts count) = false
covers least most (list_of_tables count) = false

-- ---- types

abbrev pub is_string : Data → Bool
is_string value = is_some (as_str value)

abbrev pub is_integer : Data → Bool
is_integer value = is_some (as_integer value)

abbrev pub is_table : Data → Bool
is_table value = is_some (as_table value)

abbrev pub all_items : (Data → Bool) → Items → Bool
all_items test no_items = true
all_items test (item value items) = test value && all_items test items

-- an array, each item of which passes
abbrev pub all_in : (Data → Bool) → Option Items → Bool
all_in test None = false
all_in test (Some items) = all_items test items

abbrev pub has_type : Form → Data → Bool
has_type any_text value = is_string value
has_type identity_text value = is_string value
has_type known_word value = is_string value
has_type units_number value = is_integer value
has_type account_id value = is_string value
has_type (number_within least most) value = is_integer value
has_type (integer_of_size size) value = is_integer value
has_type list_of_numbers value = all_in is_integer (as_array value)
has_type (list_of_numbers_from least most) value = all_in is_integer (as_array value)
has_type list_of_words value = all_in is_string (as_array value)
has_type (list_of_texts most) value = all_in is_string (as_array value)
has_type (list_of_tables most) value = all_in is_table (as_array value)

-- ---- ranges

abbrev pub is_from_to : ℕ → ℕ → ℤ → Bool
is_from_to least most (pos n) = is_within least most n
is_from_to least most (negsuc n) = false

-- the integer that stands there passes
abbrev pub on_integer : (ℤ → Bool) → Option ℤ → Bool
on_integer test None = false
on_integer test (Some z) = test z

abbrev pub is_number : ℕ → ℕ → Data → Bool
is_number least most value = on_integer (is_from_to least most) (as_integer value)

abbrev pub is_sized : ℕ → Data → Bool
is_sized size value = on_integer (λ z. nat_le (size_of z) size) (as_integer value)

abbrev pub is_account_text : Option (List ℕ) → Bool
is_account_text None = false
is_account_text (Some id) = is_within 1 64 (length id) && list_all is_visible id

-- of a word, and of a number of units, its entry says which are
abbrev pub is_in_range : Form → Data → Bool
is_in_range any_text value = true
is_in_range identity_text value = true
is_in_range known_word value = true
is_in_range units_number value = true
is_in_range account_id value = is_account_text (as_str value)
is_in_range (number_within least most) value = is_number least most value
is_in_range (integer_of_size size) value = is_sized size value
is_in_range list_of_numbers value = all_in (is_number 0 4294967295) (as_array value)
is_in_range (list_of_numbers_from least most) value = all_in (is_number least 4294967295) (as_array value)
is_in_range list_of_words value = true
is_in_range (list_of_texts most) value = true
is_in_range (list_of_tables most) value = true

-- ---- counts

abbrev pub items_len : Items → ℕ
items_len no_items = 0
items_len (item value items) = suc (items_len items)

abbrev pub has_more_than : ℕ → Option Items → Bool
has_more_than most None = false
has_more_than most (Some items) = nat_lt most (items_len items)

abbrev pub has_too_many : Form → Data → Bool
has_too_many any_text value = false
has_too_many identity_text value = false
has_too_many known_word value = false
has_too_many units_number value = false
has_too_many account_id value = false
has_too_many (number_within least most) value = false
has_too_many (integer_of_size size) value = false
has_too_many list_of_numbers value = false
has_too_many (list_of_numbers_from least most) value = has_more_than most (as_array value)
has_too_many list_of_words value = false
has_too_many (list_of_texts most) value = has_more_than most (as_array value)
has_too_many (list_of_tables most) value = has_more_than most (as_array value)
