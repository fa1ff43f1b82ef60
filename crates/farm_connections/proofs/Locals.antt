-- What is known of the node of a connection.
use Rattle.std.proofs.Common.{◌≡◌, List, Option, Some, None, ap, refl, sym, ◌∙◌}
use Rattle.farm_watch.specs.declared.site.WatchSite.{WatchSite}
use Rattle.farm_connections.specs.declared.end.End.{End}
use Rattle.farm_connections.specs.declared.end.End.TheVariants.{Closed, OutOfMemory}
use Rattle.farm_connections.specs.declared.link.Link.{Link}
use Rattle.farm_connections.specs.declared.local.LocalNode.{LocalNode}
use Rattle.farm_connections.specs.Doing.{IsUnheard}
use Rattle.farm_connections.specs.Locals.{site_at}

-- what was found for the one is known of the other
pub site_there : {R W : Type 0} (seen link : Link R W) (locals : List LocalNode) (found : Option WatchSite) → seen ≡ link → found ≡ site_at seen.local locals
    → site_at link.local locals ≡ found
site_there {R} {W} seen link locals found same is = ap (λ (l : Link R W). site_at l.local locals) (sym same) ∙ sym is

pub unheard_nowhere : (found : Option WatchSite) → found ≡ None → IsUnheard found Closed
unheard_nowhere None none = refl
unheard_nowhere (Some site) none = absurd cc

pub unheard_here : (found : Option WatchSite) (site : WatchSite) (why : End) → found ≡ Some site → why ≡ OutOfMemory → IsUnheard found why
unheard_here None site why is memory = absurd cc
unheard_here (Some other) site why is memory = memory
