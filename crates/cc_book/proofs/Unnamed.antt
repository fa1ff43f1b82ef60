-- A request leaves what its session holds for the services that it does not name.
use Rattle.std.proofs.Common.{◌≡◌, ◌≢◌, ℕ, Bool, true, false, cond, not, ◌&&◌, List, [], ◌∷◌, ◌++◌, All, refl, sym, ap, ◌∙◌, arith}
use Rattle.std.specs.Prelude.{sum_by}
use Rattle.std.specs.List.{list_any}
use Rattle.std.proofs.lemmas.List.Elements.{All-weaker}
use Rattle.std.proofs.lemmas.List.Folds.{list_any_none}
use Rattle.std.proofs.lemmas.List.Sums.{sum_by-cons}
use Rattle.dia_base.specs.declared.number.Moment.{Moment}
use Rattle.dia_base.proofs.Counting.{one, count-cons, none_any}
use Rattle.cc_view.specs.Request.ServiceLimits.{name_of}
use Rattle.cc_view.specs.declared.request.CcRequest.{CcRequest}
use Rattle.cc_view.specs.declared.request.RequestKind.{RequestKind}
use Rattle.cc_view.specs.declared.request.RequestKind.TheVariants.{Initial, Update, Termination, Event}
use Rattle.cc_view.specs.declared.request.Service.{Service}
use Rattle.cc_view.specs.declared.request.ServiceName.{ServiceName}
use Rattle.cc_book.specs.declared.entry.Entry.{Entry}
use Rattle.cc_book.specs.declared.entry.Entry.TheVariants.{Take}
use Rattle.cc_book.specs.declared.session.Hold.{Hold}
use Rattle.cc_book.specs.declared.terms.Terms.{Terms}
use Rattle.cc_book.specs.AccountMachine.{grants_after, posting_of, postings_of, settles_after, terms_of}
use Rattle.cc_book.specs.Duplicate.{same_session}
use Rattle.cc_book.specs.Posting.{Posting}
use Rattle.cc_book.specs.Reservation.{has_name, held_by, is_alive, same_name}
use Rattle.cc_book.specs.Session.{is_of, session_in}
use Rattle.cc_book.proofs.Alive.{is_alive-push, is_ending, survives}
use Rattle.cc_book.proofs.Holding.{grants-named, has_name-is, held}
use Rattle.cc_book.proofs.Postings.{postings_of-push}

-- no service of these has the name
abbrev pub Unnamed : ServiceName → List Service → Type 0
Unnamed name services = All (λ service. name_of service ≢ name) services

not_named : (name : ServiceName) (services : List Service) → Unnamed name services → list_any (has_name name) services ≡ false
not_named name services others =
    list_any_none (has_name name) services (All-weaker (λ service. name_of service ≢ name) (λ service. has_name name service ≡ false) differs services others)
  where
    differs : (service : Service) → name_of service ≢ name → has_name name service ≡ false
    differs service other = by (has_name name service) refl where
      by : (b : Bool) → has_name name service ≡ b → has_name name service ≡ false
      by true is = absurd (other (sym (has_name-is name service is)))
      by false is = is

-- grants of which none has a name hold nothing for it
none-held : (name : ServiceName) (alive : Bool) (holds : List Hold) → held name holds ≡ 0
    → sum_by (λ (grant : Hold). cond (same_name grant.service name && alive) grant.cost 0) holds ≡ 0
unfolding held
none-held name alive [] none = refl
none-held name alive (hold ∷ holds) none =
    let count = count-cons (λ (h : Hold). same_name h.service name) hold holds in
    let more = none-held name alive holds (omega arith) in
    let here = by (same_name hold.service name) refl in
    sum_by-cons (λ (grant : Hold). cond (same_name grant.service name && alive) grant.cost 0) hold holds ∙ omega arith
  where
    by : (b : Bool) → same_name hold.service name ≡ b → cond (same_name hold.service name && alive) hold.cost 0 ≡ 0
    by true is = absurd (let counted : one (same_name hold.service name) ≡ 1 = ap one is in
        let count = count-cons (λ (h : Hold). same_name h.service name) hold holds in omega arith)
    by false is = ap (λ (b : Bool). cond (b && alive) hold.cost 0) is

cond_none : (b : Bool) (n : ℕ) → n ≡ 0 → cond b n 0 ≡ 0
cond_none true n none = none
cond_none false n none = refl

and_true : (b : Bool) → (b && true) ≡ b
and_true true = refl
and_true false = refl

module _ (terms : Terms) (before : List Posting) (moment : Moment) (request : CcRequest) (name : ServiceName) (stays : request.kind ≢ Termination)
    (others : Unnamed name request.services) where
  abbrev q : Posting
  q = posting_of terms before (Take moment request)

  goes_on : is_ending request.kind ≡ false
  goes_on = by request.kind refl where
    by : (kind : RequestKind) → request.kind ≡ kind → is_ending request.kind ≡ false
    by Initial is = ap is_ending is
    by Update is = ap is_ending is
    by Termination is = absurd (stays is)
    by Event is = ap is_ending is

  spared : (id : List ℕ) → survives request (settles_after terms before request) id name ≡ true
  spared id =
      ap (λ (b : Bool). not (settles_after terms before request && (same_session request.session id && b))
      && not (same_session request.session id && is_ending request.kind)) (not_named name request.services others)
      ∙ ap (λ (b : Bool). not (settles_after terms before request && (same_session request.session id && false))
      && not (same_session request.session id && b)) goes_on
      ∙ by (settles_after terms before request) (same_session request.session id)
    where
      by : (settles same : Bool) → (not (settles && (same && false)) && not (same && false)) ≡ true
      by true true = refl
      by true false = refl
      by false true = refl
      by false false = refl

  alive-same : (entry : Entry) (after : List Posting) → is_alive terms.validity entry name (after ++ q ∷ []) ≡ is_alive terms.validity entry name after
  alive-same entry after =
      is_alive-push terms.validity moment request q entry name after
      ∙ ap (λ (b : Bool). is_alive terms.validity entry name after && b) (spared (session_in entry))
      ∙ and_true (is_alive terms.validity entry name after)

  granted-none : held name (grants_after terms before request) ≡ 0
  granted-none =
      let most = grants-named terms before request name in
      let none = (none_any (has_name name) request.services (not_named name request.services others)).0 in
      omega arith

  held-same : (postings : List Posting) → held_by terms.validity request.session name (postings ++ q ∷ [])
      ≡ held_by terms.validity request.session name postings
  held-same [] =
      let own = cond_none (is_of request.session q.entry)
      (sum_by (λ (grant : Hold). cond (same_name grant.service name && is_alive terms.validity q.entry name []) grant.cost 0) q.grants)
      (none-held name (is_alive terms.validity q.entry name []) (grants_after terms before request) granted-none) in
      omega arith
  held-same (p ∷ more) =
      let here : cond (is_of request.session p.entry)
      (sum_by (λ (grant : Hold). cond (same_name grant.service name && is_alive terms.validity p.entry name (more ++ q ∷ [])) grant.cost 0) p.grants) 0
      ≡ cond (is_of request.session p.entry) (sum_by
      (λ (grant : Hold). cond (same_name grant.service name && is_alive terms.validity p.entry name more) grant.cost 0) p.grants) 0 =
      ap (λ (b : Bool). cond (is_of request.session p.entry) (sum_by (λ (grant : Hold). cond (same_name grant.service name && b) grant.cost 0) p.grants) 0)
      (alive-same p.entry more) in
      let rest = held-same more in
      omega arith

pub held-unnamed : (terms : Terms) (history : List Entry) (moment : Moment) (request : CcRequest) (name : ServiceName) → request.kind ≢ Termination
    → Unnamed name request.services
    → held_by terms.validity request.session name (postings_of terms (history ++ Take moment request ∷ []))
    ≡ held_by terms.validity request.session name (postings_of terms history)
held-unnamed terms history moment request name stays others =
    ap (held_by terms.validity request.session name) (postings_of-push terms history (Take moment request))
    ∙ held-same (terms_of terms history) (postings_of terms history) moment request name stays others (postings_of terms history)
