use Rattle.cc_book.proofs.Postings.{terms_of-change, terms_of-kept, terms_of-sweep, terms_of-take}
use Rattle.cc_book.proofs.change_laws.terms_change_by_their_entries_alone.Goals as goal

pub returns : goal.returns
returns c = record { by_change = terms_of-change; by_request = terms_of-take; by_sweep = terms_of-sweep; without = terms_of-kept }
