-- A message comes to a front: it joins the queue, is refused at once, or is lost.
use Rattle.std.proofs.Common.{◌≡◌, ◌≤◌, Bool, true, false, cond, List, [], ◌∷◌, ◌++◌, length, Some, refl, sym, subst, ap, ◌∙◌, ltb}
use Rattle.std.specs.Prelude.{flat_map}
use Rattle.std.proofs.lemmas.Bool.{ltb-false}
use Rattle.dia_base.specs.declared.number.ConnId.{ConnId}
use Rattle.dia_base.specs.declared.number.NodeNo.{NodeNo}
use Rattle.dia_message.specs.declared.message.Message.{Message}
use Rattle.cc_view.specs.declared.code.ResultCode.TheVariants.{TooBusy}
use Rattle.cc_view.specs.declared.refusal.Refusal.{Refusal}
use Rattle.cc_view.specs.Answer.{refusal_of}
use Rattle.cc_view.specs.Refusal.{refusal_with}
use Rattle.front_core.specs.declared.site.FrontSite.{FrontSite}
use Rattle.front_core.specs.Cause.{ArrivalCause, queue_full}
use Rattle.front_core.specs.FrontState.{FrontState, is_among}
use Rattle.front_core.specs.FrontStep.{with_job, too_busy}
use Rattle.farm_law.specs.Farm.{Item, Refused, Farm}
use Rattle.farm_law.specs.Lists.{Without, Left}
use Rattle.farm_law.specs.Moves.{Moves, moves_on, loses, refuses}
use Rattle.farm_base.specs.declared.site.Site.{Site}
use Rattle.farm_model.specs.declared.state.FrontAt.{FrontAt}
use Rattle.farm_model.specs.Arrival.{after_arrival_at_front, after_arrival_by}
use Rattle.farm_model.specs.Run.{front_site}
use Rattle.farm_model.specs.World.{Ends, WorldState, with_message_from, with_traffic_from, with_front, front_at}
use Rattle.farm_base.specs.Nodes.{name_at}
use Rattle.farm_model.proofs.Moves.AsFarm.{parties, other_end, come_to, gone_from, waiting, held_by, items_of, has_ended_in, farm_of}
use Rattle.farm_model.proofs.Moves.FrontItems.{front_gain, front_same}
use Rattle.farm_model.proofs.Moves.FrontRequests.{FrontHoldsRequests, QueuesHoldRequests, with_front_holds, front_holds, with_job_holds}
use Rattle.farm_model.proofs.Wiring.Joined.{Joins-turned, Joins-other}
use Rattle.farm_model.proofs.Moves.Moving.{one_move, put, settled}
use Rattle.farm_model.proofs.Lists.Placing.{Without-last, Without-left, Without-map, Left-without}
use Rattle.farm_model.proofs.Moves.Posting.{Posted, posted_wired}
use Rattle.farm_model.proofs.Moves.Sending.{posted_across, traffic_ended}
use Rattle.farm_model.proofs.OwnCauses.Refusing.{as_before, one_more_refused}
use Rattle.farm_model.proofs.Moves.StepGoes.{Goes}
use Rattle.farm_model.proofs.Wiring.Wired.{Joins, IsWired}
use Rattle.farm_model.proofs.Wiring.WiredLemmas.{with_front_wired, front_wired}

module _ (site : Site) (made : Ends) (refused : List Refused) (HasReason : Refused → Type 0) (w : WorldState) (items : List Item) (from node : NodeNo)
    (conn : ConnId) (message : Message) (front : FrontState) (joins : Joins made conn from node)
    (looked : front_at node w.fronts ≡ Some front) (out : Without (record { conn = conn; from = from; to = node; message = message }) items
    (items_of made w.directions w.fronts)) (wired : IsWired site made w) (requests : QueuesHoldRequests w.fronts)
    (reason : (refusal : Refusal) → ArrivalCause front message refusal → HasReason (record { node = node; conn = conn; request = message; refusal = refusal }))
  where
    abbrev old : Farm
    old = record (farm_of made refused w) { items = items }

    abbrev Goes-on : WorldState → Type 0
    Goes-on after = Goes site made HasReason old after

    abbrev arriving : Item
    arriving = record { conn = conn; from = from; to = node; message = message }

    holds : FrontHoldsRequests front
    holds = front_holds node w.fronts front requests looked

    from_is : other_end made conn node ≡ from
    from_is = Joins-other (Joins-turned joins)

    -- it joins the queue
    joins_queue : message.header.request ≡ true → Goes-on (record w { fronts = with_front node (with_job front conn message) w.fronts })
    joins_queue request =
        let more : FrontState = with_job front conn message in
        let new : Without (come_to made node conn message) (items_of made w.directions (with_front node more w.fronts)) (items_of made w.directions w.fronts) =
        front_gain made w.directions node w.fronts front more looked (come_to made node conn message)
        (Without-left (flat_map (held_by made node) front.workers)
        (Without-map (waiting made node) (Without-last front.queue (record { conn = conn; request = message })))) in
        let same : come_to made node conn message ≡ arriving = ap (λ (n : NodeNo). record { conn = conn; from = n; to = node; message = message }) from_is in
        record {
          leads = record {
            refused = refused;
            moves = one_move (moves_on out (subst (λ (item : Item). Without item (items_of made w.directions (with_front node more w.fronts))
                (items_of made w.directions w.fronts)) same new));
            caused = as_before HasReason refused;
          };
          wired = record {
            begins = wired.begins;
            directions = wired.directions;
            fronts = with_front_wired site node w.fronts front more looked refl
                wired.fronts;
            relays = wired.relays;
            alone = wired.alone;
          };
          requests = with_front_holds node w.fronts more (with_job_holds front conn message request holds) requests;
        }

    -- the front as it was
    same_items : items_of made w.directions (with_front node front w.fronts) ≡ items_of made w.directions w.fronts
    same_items = front_same made w.directions node w.fronts front front looked refl

    -- it is refused at once
    refused_there : (answer : Message) (refusal : Refusal) → message.header.request ≡ true → HasReason
        (record { node = node; conn = conn; request = message; refusal = refusal }) → answer ≡ refusal_of (name_at site node) site.realm message refusal
        → Goes-on (record w { directions = with_message_from node w.directions conn answer; fronts = with_front node front w.fronts })
    refused_there answer refusal request cause written =
        let sent_on = with_message_from node w.directions conn answer in
        let fronts : List FrontAt = with_front node front w.fronts in
        let after : WorldState = record w { directions = sent_on; fronts = fronts } in
        let here_refused : Refused = record { node = node; conn = conn; request = message; refusal = refusal } in
        let more : List Refused = refused ++ here_refused ∷ [] in
        let grown : Farm = record old { refused = more } in
        let reply : Item = record { conn = conn; from = node; to = from; message = refusal_of (name_at site node) site.realm message refusal } in
        let gone_is : gone_from made node conn answer ≡ reply =
        ap (λ (n : NodeNo). record { conn = conn; from = node; to = n; message = answer }) from_is ∙ ap
        (λ (m : Message). record { conn = conn; from = node; to = from; message = m }) written in
        let posts : Posted reply (items_of made w.directions w.fronts) (items_of made sent_on fronts) =
        subst (λ (item : Item). Posted item (items_of made w.directions w.fronts) (items_of made sent_on fronts)) gone_is
        (subst (λ (is : List Item). Posted (gone_from made node conn answer) is (items_of made sent_on fronts)) same_items
        (posted_across site made w.ends node conn answer w.directions fronts wired.directions)) in
        let moves : Moves (parties site made) old (record grown { items = items_of made sent_on fronts }) =
        put old grown reply (items_of made w.directions w.fronts) (items_of made sent_on fronts) posts (λ some h. refuses refusal out request h) in
        record {
          leads = record {
            refused = more;
            moves = settled (parties site made) made more old after (has_ended_in w.ends w.directions) moves
                (traffic_ended w.ends node w.directions ((conn, answer) ∷ []));
            caused = one_more_refused HasReason refused here_refused cause;
          };
          wired = record {
            begins = wired.begins;
            directions = posted_wired site made w.ends node conn answer w.directions wired.directions;
            fronts = with_front_wired site node w.fronts front front looked refl wired.fronts;
            relays = wired.relays;
            alone = wired.alone;
          };
          requests = with_front_holds node w.fronts front holds requests;
        }

    -- it is no request
    ignored : Goes-on (record w { fronts = with_front node front w.fronts })
    ignored = record {
      leads = record {
        refused = refused;
        moves = one_move (loses (subst (λ (is : List Item). Left (λ item. Unit {0}) items is) (sym same_items) (Left-without tt out)));
        caused = as_before HasReason refused;
      };
      wired = record {
        begins = wired.begins;
        directions = wired.directions;
        fronts = with_front_wired site node w.fronts front front looked refl wired.fronts;
        relays = wired.relays;
        alone = wired.alone;
      };
      requests = with_front_holds node w.fronts front holds requests;
    }

    arrival_if : (is_request room : Bool) → message.header.request ≡ is_request → ltb (length front.queue) front.site.queue ≡ room
        → Goes-on (record w {
          directions = with_traffic_from node w.directions (cond is_request (cond room [] ((conn, too_busy front.site message) ∷ [])) []);
          fronts = with_front node (cond is_request (cond room (with_job front conn message) front) front) w.fronts;
        })
    arrival_if true true request room = joins_queue request
    arrival_if true false request room =
        let site_is : front.site ≡ front_site site (name_at site node) = (front_wired wired.fronts looked).site_is in
        let full : front.site.queue ≤ length front.queue = ltb-false _ _ room in
        refused_there (too_busy front.site message) (refusal_with TooBusy) request (reason (refusal_with TooBusy) (queue_full request full))
        (ap (λ (s : FrontSite). refusal_of s.name s.realm message (refusal_with TooBusy)) site_is)
    arrival_if false room request e = ignored

    -- the front does not know the connection
    unknown : Goes-on w
    unknown = record {
      leads = record { refused = refused; moves = one_move (loses (Left-without tt out)); caused = as_before HasReason refused };
      wired = wired;
      requests = requests;
    }

    known_if : (known : Bool) → Goes-on (cond known (after_arrival_at_front w node conn message front) w)
    known_if true = arrival_if message.header.request (ltb (length front.queue) front.site.queue) refl refl
    known_if false = unknown

    pub front_receives : Goes-on (after_arrival_by w node conn message front)
    front_receives = known_if (is_among front.connections conn)
