-- The words of a change of the terms, as a schedule has them.
use Rattle.std.specs.Prelude.{ℕ, ℤ, List, [], ◌∷◌, ◌++◌, codes, Option, Some, None}
use Rattle.std.specs.List.{flat_map}
use Rattle.std.specs.Fmt.{decimal, signed_decimal}
use Rattle.cc_view.specs.declared.request.Subscription.{Subscription}
use Rattle.cc_book.specs.declared.account.Account.{Account}
use Rattle.cc_book.specs.declared.terms_change.TermsChange.{TermsChange}
use Rattle.cc_rating.specs.declared.tariff.Tariff.{Tariff}
use Rattle.cc_rating.specs.declared.tariff.UnitKind.{UnitKind}
use Rattle.cc_rating.specs.declared.tariff.UnitKind.TheVariants.{Time, Octets, Units}

-- ---- words, each behind a space

abbrev pub number_word : ℕ → List ℕ
number_word number = 32 ∷ decimal number

unfoldable pub amount_word : ℤ → List ℕ
amount_word amount = codes " " ++ signed_decimal amount

-- a Rating-Group or a Service-Identifier, or `-` for none
abbrev pub key_word : Option ℕ → List ℕ
key_word None = codes " -"
key_word (Some number) = number_word number

abbrev pub units_word : UnitKind → List ℕ
units_word Time = codes " time"
units_word Octets = codes " octets"
units_word Units = codes " units"

-- ---- items

-- `account TYPE ID OPENING`
unfoldable pub account_words : Account → List ℕ
account_words account = codes " account" ++ number_word account.id_kind ++ (32 ∷ account.id) ++ amount_word account.opening

-- `tariff GROUP IDENT UNITS BLOCK PRICE QUANTUM GREATEST`
unfoldable pub tariff_words : Tariff → List ℕ
tariff_words tariff =
    codes " tariff" ++ key_word tariff.group ++ key_word tariff.ident ++ units_word tariff.kind
    ++ number_word tariff.block ++ number_word tariff.price ++ number_word tariff.quantum ++ number_word tariff.greatest

-- the tariffs that hold from then on, behind `tariffs`; nothing where those stay that hold
abbrev pub tariffs_words : Option (List Tariff) → List ℕ
tariffs_words None = []
tariffs_words (Some tariffs) = codes " tariffs" ++ flat_map tariff_words tariffs

-- `account TYPE ID closed`, and with `open` one that opens again
unfoldable pub standing_words : List ℕ → Subscription → List ℕ
standing_words said subscription = codes " account" ++ number_word subscription.kind ++ (32 ∷ subscription.text) ++ said

abbrev pub change_words : TermsChange → List ℕ
change_words change =
    flat_map account_words change.joining ++ flat_map (standing_words (codes " closed")) change.closing
    ++ flat_map (standing_words (codes " open")) change.reopening ++ tariffs_words change.tariffs
