-- The line of each entry of a history.
use Rattle.std.specs.Prelude.{ℕ, ℤ, List, [], ◌∷◌, ◌++◌, length, codes, Option, None, Some, slice_get}
use Rattle.std.specs.List.{concat, flat_map}
use Rattle.std.specs.Fmt.{decimal, signed_decimal}
use Rattle.dia_base.specs.declared.number.Moment.{Moment}
use Rattle.cc_view.specs.declared.reply.CcReply.{CcReply}
use Rattle.cc_view.specs.declared.reply.Cost.{Cost}
use Rattle.cc_view.specs.declared.request.CcRequest.{CcRequest}
use Rattle.cc_view.specs.declared.request.Subscription.{Subscription}
use Rattle.cc_view.specs.ResultNumber.{number_of}
use Rattle.cc_rating.specs.declared.tariff.Tariff.{Tariff}
use Rattle.cc_book.specs.declared.account.Account.{Account}
use Rattle.cc_book.specs.declared.entry.Entry.{Entry}
use Rattle.cc_book.specs.declared.entry.Entry.TheVariants.{Take, Sweep, ChangeTerms}
use Rattle.cc_book.specs.declared.terms.Terms.{Terms}
use Rattle.cc_book.specs.declared.terms_change.TermsChange.{TermsChange}
use Rattle.cc_book.specs.AccountMachine.{charged_account, postings_of, reply_to, terms_of}
use Rattle.cc_book.specs.Balance.{debit_of}
use Rattle.book_lines.specs.Services.{count_text, granted_text, name_text, service_text}
use Rattle.book_lines.specs.Words.{action_word, kind_word, line_feed, optional_text, quoted, unit_word}

-- `entry PLACE moment MOMENT`
unfoldable pub head : ℕ → Moment → List ℕ
head place moment = concat (codes "entry " ∷ decimal place ∷ codes " moment " ∷ decimal moment.0 ∷ [])

-- a look at the clock that ended sessions
abbrev pub sweep_line : ℕ → Moment → List ℕ
sweep_line place moment = concat (head place moment ∷ codes " sweep" ∷ line_feed ∷ [])

-- `session "S" number N type T action A`
unfoldable pub request_text : CcRequest → List ℕ
request_text request = concat (
    codes " session " ∷ quoted request.session ∷ codes " number " ∷ decimal request.number
    ∷ codes " type " ∷ kind_word request.kind ∷ codes " action " ∷ action_word request.action ∷ [])

-- `account TYPE "ID"`
unfoldable pub known_text : Account → List ℕ
known_text account = concat (codes " account " ∷ decimal account.id_kind ∷ codes " " ∷ quoted account.id ∷ [])

-- the account, if there is one
abbrev pub account_text_of : Option Account → List ℕ
account_text_of None = codes " account - -"
account_text_of (Some account) = known_text account

-- the account at a place, if the request has one
abbrev pub account_text : List Account → Option ℕ → List ℕ
account_text accounts None = codes " account - -"
account_text accounts (Some place) = account_text_of (slice_get accounts place)

-- `cost DIGITSeEXPONENT`: a number of the money's major units
unfoldable pub price_text : ℤ → ℤ → List ℕ
price_text digits exponent = codes " cost " ++ (signed_decimal digits ++ (codes "e" ++ signed_decimal exponent))

abbrev pub cost_text : Option Cost → List ℕ
cost_text None = codes " cost -"
cost_text (Some cost) = price_text cost.digits cost.exponent

-- `debit DEBIT`, in minor units
unfoldable pub debit_text : ℤ → List ℕ
debit_text debit = codes " debit " ++ signed_decimal debit

-- `result CODE cost COST check RESULT`
unfoldable pub result_text : CcReply → List ℕ
result_text reply = concat (
    codes " result" ∷ count_text (number_of reply.code) ∷ cost_text reply.cost ∷ codes " check" ∷ optional_text reply.check ∷ [])

-- a request that was taken: which it is, what account it charged, and by how much
unfoldable pub charged_text : List Account → ℕ → Moment → CcRequest → Option ℕ → ℤ → List ℕ
charged_text accounts place moment request account debit =
    concat (head place moment ∷ codes " charge" ∷ request_text request ∷ account_text accounts account ∷ debit_text debit ∷ [])

-- what it was answered, what its services asked for and used, and what they were answered
unfoldable pub answered_text : CcRequest → CcReply → List ℕ
answered_text request reply =
    concat (result_text reply ∷ flat_map service_text request.services ∷ flat_map granted_text reply.services ∷ line_feed ∷ [])

unfoldable pub charge_line : List Account → ℕ → Moment → CcRequest → Option ℕ → ℤ → CcReply → List ℕ
charge_line accounts place moment request account debit reply =
    charged_text accounts place moment request account debit ++ answered_text request reply

-- `opening OPENING`, in minor units
unfoldable pub opening_text : ℤ → List ℕ
opening_text opening = codes " opening " ++ signed_decimal opening

-- `account TYPE "ID" opening OPENING`: an account that joins
abbrev pub joining_text : Account → List ℕ
joining_text account = known_text account ++ opening_text account.opening

-- `tariff GROUP IDENT UNITS BLOCK PRICE QUANTUM GREATEST`
unfoldable pub tariff_text : Tariff → List ℕ
tariff_text tariff = concat (
    codes " tariff" ∷ name_text tariff.group tariff.ident ∷ codes " " ∷ unit_word tariff.kind
    ∷ flat_map count_text (tariff.block ∷ tariff.price ∷ tariff.quantum ∷ tariff.greatest ∷ []) ∷ [])

-- how many tariffs hold from here on, and each of them; `-` where those stay that held
abbrev pub tariffs_text : Option (List Tariff) → List ℕ
tariffs_text None = codes " tariffs -"
tariffs_text (Some tariffs) = concat (codes " tariffs" ∷ count_text (length tariffs) ∷ flat_map tariff_text tariffs ∷ [])

-- `account TYPE "ID" closed`, and with `open` one that opens again
unfoldable pub standing_text : List ℕ → Subscription → List ℕ
standing_text said subscription = concat (codes " account " ∷ decimal subscription.kind ∷ codes " " ∷ quoted subscription.text ∷ said ∷ [])

-- the accounts that join by a change, and how many, those that close and those that open again, and the tariffs
unfoldable pub change_text : TermsChange → List ℕ
change_text change = concat (
    codes " accounts" ∷ count_text (length change.joining) ∷ flat_map joining_text change.joining
    ∷ flat_map (standing_text (codes " closed")) change.closing ∷ flat_map (standing_text (codes " open")) change.reopening
    ∷ tariffs_text change.tariffs ∷ [])

-- a change of the terms
unfoldable pub change_line : ℕ → Moment → TermsChange → List ℕ
change_line place moment change = concat (head place moment ∷ codes " change" ∷ change_text change ∷ line_feed ∷ [])

unfoldable pub look_text : List ℕ
look_text = codes "look: the site has other terms:"

-- `look: the site has other terms: ..`: the change that leads to them
unfoldable pub difference_line : TermsChange → List ℕ
difference_line change = concat (look_text ∷ change_text change ∷ line_feed ∷ [])

-- The line of an entry behind others: account, debit and reply are those that the account machine gives to the request there.
abbrev pub line_behind : Terms → List Entry → Entry → List ℕ
line_behind terms before (Take moment request) =
    charge_line (terms_of terms before).accounts (length before) moment request (charged_account (terms_of terms before) (postings_of terms before) request)
    (debit_of terms before request) (reply_to terms before request)
line_behind terms before (Sweep moment) = sweep_line (length before) moment
line_behind terms before (ChangeTerms moment change) = change_line (length before) moment change

-- the lines of entries behind others
abbrev pub lines_from : Terms → List Entry → List Entry → List ℕ
lines_from terms before [] = []
lines_from terms before (entry ∷ after) = line_behind terms before entry ++ lines_from terms (before ++ entry ∷ []) after

abbrev pub lines_of : Terms → List Entry → List ℕ
lines_of terms history = lines_from terms [] history
