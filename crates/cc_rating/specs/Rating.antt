-- Rating: what units cost, and what is granted (RFC 8506, section 5.2). Amounts are whole minor units of money.
use Rattle.std.specs.Prelude.{ℕ, ◌+◌, ◌*◌, ◌/◌, ◌%◌, min, ◌||◌, ◌==◌, Bool, true, false, if◌then◌else◌, ℤ, pos, negsuc, int_le}
use Rattle.cc_rating.specs.declared.tariff.Grant.{Grant}
use Rattle.cc_rating.specs.declared.tariff.Tariff.{Tariff}

-- the blocks that units begin: the whole ones, and one more for a rest
abbrev pub blocks_of : ℕ → ℕ → ℕ
blocks_of units block = units / block + min 1 (units % block)

-- each block that is begun costs the price
abbrev pub cost_of : Tariff → ℕ → ℕ
cost_of tariff units = blocks_of units tariff.block * tariff.price

-- the units that a grant may have at most: what is asked, up to the tariff's greatest grant
abbrev pub wanted_units : Tariff → ℕ → ℕ
wanted_units tariff asked = min asked tariff.greatest

-- an amount, where it is not below 0
abbrev pub available : ℤ → ℕ
available (pos amount) = amount
available (negsuc debt) = 0

-- the units of the whole blocks that an amount pays for
abbrev pub units_free : Tariff → ℤ → ℕ
units_free tariff free = available free / tariff.price * tariff.block

-- a grant of units, and whether it is the last one
abbrev pub grant_with : Tariff → ℕ → Bool → Grant
grant_with tariff units last = record { units = units; held = cost_of tariff units; last = last }

-- All that is wanted is granted where it is free, or where a block costs nothing. Else the whole blocks that are
-- free are granted, as the last grant: of an account in debt none, even where no units are asked.
abbrev pub grant_of : Tariff → ℤ → ℕ → Grant
grant_of tariff free asked =
    if tariff.price == 0 || int_le (pos (cost_of tariff (wanted_units tariff asked))) free then grant_with tariff (wanted_units tariff asked) false
    else grant_with tariff (min (wanted_units tariff asked) (units_free tariff free)) true
