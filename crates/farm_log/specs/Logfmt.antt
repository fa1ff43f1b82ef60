-- Which values stand bare behind their key.
use Rattle.std.specs.Prelude.{◌==◌, ◌&&◌, not, ℕ, Bool, nat_lt}

-- it is printed, and neither a blank, nor a quotation mark, nor an equals sign, nor a backslash
abbrev pub is_bare : ℕ → Bool
is_bare octet = nat_lt 32 octet && nat_lt octet 127 && not (octet == 34) && not (octet == 61) && not (octet == 92)
