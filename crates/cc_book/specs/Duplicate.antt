-- What makes two requests the same (RFC 8506, section 8.2): Session-Id and CC-Request-Number.
use Rattle.std.specs.Prelude.{ℕ, List, Bool, false, ◌&&◌, ◌==◌}
pub use Rattle.cc_book.specs.Octets.{same_session}
use Rattle.cc_view.specs.declared.request.CcRequest.{CcRequest}
use Rattle.cc_book.specs.declared.entry.Entry.{Entry}
use Rattle.cc_book.specs.declared.entry.Entry.TheVariants.{Take, Sweep, ChangeTerms}

pub record Key : Type 0 where
  pub session : List ℕ
  pub number : ℕ

abbrev pub key_of : CcRequest → Key
key_of request = record { session = request.session; number = request.number }

abbrev pub same_key : Key → Key → Bool
same_key one other = one.number == other.number && same_session one.session other.session

-- whether an entry is the take of a request with this key
abbrev pub has_key : Key → Entry → Bool
has_key key (Take moment request) = same_key (key_of request) key
has_key key (Sweep moment) = false
has_key key (ChangeTerms moment change) = false
