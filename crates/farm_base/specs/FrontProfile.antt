-- What the fronts of a site know beside the dictionary, and what they tolerate.
use Rattle.dia_grammar.specs.Profile.{RequestProfile}
use Rattle.farm_base.specs.declared.site.Site.{Site}

abbrev pub front_profile : Site → RequestProfile
front_profile site = record { vendors = site.vendors; known = site.known; tolerated = site.tolerate }
