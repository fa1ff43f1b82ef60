-- The row site is checked.
use Rattle.std.proofs.Common.{◌≡◌, ℕ, true, refl}
use Rattle.farm_base.specs.CheckedSite.{is_within, IsChecked}
use Rattle.farm_base.specs.RowSite.{the_row_site}

-- with any limit of its book that is in range
pub limited_row_site_is_checked : (limit : ℕ) → is_within 1 1048576 limit ≡ true → IsChecked (record the_row_site { limit = limit })
limited_row_site_is_checked limit within = record {
  validity = refl;
  limit = within;
  workers = refl;
  queue = refl;
  known_count = refl;
  free_codes = refl;
  known = refl;
  tolerate = refl;
  advertise_count = refl;
  advertise = refl;
  currency = refl;
  exponent = refl;
  watchdog = refl;
  nodes = refl;
  sound_names = refl;
  names = refl;
  links = refl;
  sound_links = refl;
  pairs = refl;
  routes = refl;
  sound_routes = refl;
  destinations = refl;
  tariff_count = refl;
  tariffs = refl;
  account_count = refl;
  sound_accounts = refl;
  identifiers = refl;
}

pub row_site_is_checked : IsChecked the_row_site
row_site_is_checked = limited_row_site_is_checked 1048576 refl
