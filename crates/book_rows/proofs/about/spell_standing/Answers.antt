use Rattle.book_rows.specs.About.{standing}
use Rattle.book_rows.proofs.AboutExact.{spelled_from_none}
use Rattle.book_rows.proofs.about.spell_standing.Goals as goal

pub returns-clause-octets : goal.returns-clause-octets
returns-clause-octets c = spelled_from_none standing c.args.standing _ _ c.new-out.ensures.items c.in_ok-push_standing.ensures

pub returns-clause-fits : goal.returns-clause-fits
returns-clause-fits c = c.in_ok-push_standing.ensures.fits
