-- Prices: used units are paid for at the tariff at which their service was last granted in its session, whatever tariff
-- holds when they are reported.
use Rattle.std.specs.Prelude.{ℕ, List, ◌++◌, Bool, not, if◌then◌else◌, Option, None, find, IsTrue}
use Rattle.std.specs.List.{filter, filter_map, fold, list_all, list_any}
use Rattle.std.specs.Option.{option_map, option_or}
use Rattle.cc_view.specs.declared.request.Service.{Service}
use Rattle.cc_view.specs.declared.request.ServiceName.{ServiceName}
use Rattle.cc_view.specs.Request.ServiceLimits.{name_of}
use Rattle.cc_rating.specs.declared.tariff.Tariff.{Tariff}
use Rattle.cc_rating.specs.Tariffs.{in_range, rates}
use Rattle.cc_book.specs.declared.session.Hold.{Hold}
use Rattle.cc_book.specs.declared.price.Price.{Price}
use Rattle.cc_book.specs.Posting.{Posting}
use Rattle.cc_book.specs.Reservation.{same_name}
use Rattle.cc_book.specs.Session.{is_of, opens}
use Rattle.cc_book.specs.ServiceRating.{tariff_of}

-- ---- the prices of grants

abbrev pub is_price : ServiceName → Price → Bool
is_price name price = same_name price.service name

-- the tariff at which a service was last granted, by prices of which the latest stands first
abbrev pub price_in : List Price → ServiceName → Option Tariff
price_in prices name = option_map (λ price. price.tariff) (find (is_price name) prices)

-- the price of a grant that was made by these tariffs
abbrev pub price_for : List Tariff → Hold → Option Price
price_for tariffs hold = option_map (λ tariff. record { service = hold.service; tariff = tariff }) (find (rates hold.service.group hold.service.ident) tariffs)

abbrev pub new_prices : List Tariff → List Hold → List Price
new_prices tariffs grants = filter_map (price_for tariffs) grants

-- whether one of these prices is of a service
abbrev pub is_priced : List Price → ServiceName → Bool
is_priced prices name = list_any (is_price name) prices

-- the prices of other services than those of these
abbrev pub prices_beside : List Price → List Price → List Price
prices_beside new prices = filter (λ price. not (is_priced new price.service)) prices

-- the prices after grants that were made by these tariffs
abbrev pub prices_after : List Tariff → List Price → List Hold → List Price
prices_after tariffs prices grants = new_prices tariffs grants ++ prices_beside (new_prices tariffs grants) prices

-- the tariff at which a service is paid for: that of its last grant, else that which holds
abbrev pub priced : List Tariff → List Price → Service → Option Tariff
priced tariffs prices service = option_or (price_in prices (name_of service)) (tariff_of tariffs service)

-- each of these tariffs is in its ranges
abbrev pub AreInRange : List Price → Type 0
AreInRange prices = IsTrue (list_all (λ price. in_range price.tariff) prices)

-- ---- the price of a service in a session

-- the tariff at which a posting granted a service
abbrev pub granted_price : Posting → ServiceName → Option Tariff
granted_price posting name = price_in (new_prices posting.tariffs posting.grants) name

-- the price of a service of a session after one more posting: a session begins without a price
abbrev pub next_price : List ℕ → ServiceName → Option Tariff → Posting → Option Tariff
next_price session name price posting =
    if is_of session posting.entry
    then (if opens posting then granted_price posting name else option_or (granted_price posting name) price)
    else price

-- the tariff at which a service was last granted in a session
abbrev pub price_of : List ℕ → ServiceName → List Posting → Option Tariff
price_of session name before = fold (next_price session name) None before

-- the tariff at which a service of an open session is paid for
abbrev pub price_at : List Tariff → List Posting → List ℕ → Service → Option Tariff
price_at tariffs before session service = option_or (price_of session (name_of service) before) (tariff_of tariffs service)
