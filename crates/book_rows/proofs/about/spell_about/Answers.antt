use Rattle.book_rows.specs.About.{about}
use Rattle.book_rows.proofs.AboutExact.{spelled_from_none}
use Rattle.book_rows.proofs.about.spell_about.Goals as goal

pub returns-clause-octets : goal.returns-clause-octets
returns-clause-octets c = spelled_from_none about c.args.about.now _ _ c.new-out.ensures.items c.in_ok-push_about.ensures

pub returns-clause-fits : goal.returns-clause-fits
returns-clause-fits c = c.in_ok-push_about.ensures.fits
