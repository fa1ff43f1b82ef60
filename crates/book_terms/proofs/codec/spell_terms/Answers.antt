use Rattle.book_rows.proofs.AboutExact.{spelled_from_none}
use Rattle.book_terms.specs.Terms.{terms}
use Rattle.book_terms.proofs.codec.spell_terms.Goals as goal

pub returns-clause-octets : goal.returns-clause-octets
returns-clause-octets c = spelled_from_none terms c.args.terms.now _ _ c.new-out.ensures.items c.in_ok-push_terms.ensures

pub returns-clause-fits : goal.returns-clause-fits
returns-clause-fits c = c.in_ok-push_terms.ensures.fits
