-- What holds of a connection whose other end has said goodbye (RFC 6733, section 5.4).
use Rattle.std.specs.Prelude.{◌≡◌, List, [], ◌∷◌, false, Bool, true}
use Rattle.farm_watch.specs.declared.acts.Act.{Act}
use Rattle.farm_watch.specs.declared.acts.Act.TheVariants.{Send, PeerUp, PeerLeaves, Pass, Drop}
use Rattle.farm_watch.specs.declared.watch.Waits.{Waits}
use Rattle.farm_watch.specs.declared.watch.Waits.TheVariants.{ForCer, ForCea, ForMessage, ForDwa, ForDpa, ForClose, ForNothing}

-- the node at the other end is up, and neither of the two has said goodbye
abbrev pub is_open : Waits → Bool
is_open (ForCer since) = false
is_open (ForCea node since) = false
is_open (ForMessage since) = true
is_open (ForDwa since) = true
is_open (ForDpa since) = false
is_open (ForClose since) = false
is_open ForNothing = false

-- it waits for the other end to close it
abbrev pub is_parting : Waits → Bool
is_parting (ForCer since) = false
is_parting (ForCea node since) = false
is_parting (ForMessage since) = false
is_parting (ForDwa since) = false
is_parting (ForDpa since) = false
is_parting (ForClose since) = true
is_parting ForNothing = false

-- it does so, or has ended
abbrev pub has_parted : Waits → Bool
has_parted (ForCer since) = false
has_parted (ForCea node since) = false
has_parted (ForMessage since) = false
has_parted (ForDwa since) = false
has_parted (ForDpa since) = false
has_parted (ForClose since) = true
has_parted ForNothing = true

-- what is sent is no request
abbrev pub SendsAnswersAlone : List Act → Type 0
SendsAnswersAlone [] = Unit {0}
SendsAnswersAlone (Send m ∷ acts) = (m.header.request ≡ false) × SendsAnswersAlone acts
SendsAnswersAlone (PeerUp node ∷ acts) = SendsAnswersAlone acts
SendsAnswersAlone (PeerLeaves cause ∷ acts) = SendsAnswersAlone acts
SendsAnswersAlone (Pass m ∷ acts) = SendsAnswersAlone acts
SendsAnswersAlone (Drop ∷ acts) = SendsAnswersAlone acts

-- the node here is told that the other one leaves
abbrev pub tells_leaving : List Act → Bool
tells_leaving [] = false
tells_leaving (Send m ∷ acts) = tells_leaving acts
tells_leaving (PeerUp node ∷ acts) = tells_leaving acts
tells_leaving (PeerLeaves cause ∷ acts) = true
tells_leaving (Pass m ∷ acts) = tells_leaving acts
tells_leaving (Drop ∷ acts) = tells_leaving acts
