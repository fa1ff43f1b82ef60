-- Whether requests are equal, part by part: what `==` says of their parts, and what the specification's comparison says.
use Rattle.std.proofs.Common.{◌≡◌, ◌≢◌, ℕ, Bool, true, false, cond, ◌&&◌, eqb, List, Option, Some, None, refl, ap, sym, ◌∙◌}
use Rattle.std.specs.Bool.{Decides}
use Rattle.std.specs.Cmp.{booleans_Decides}
use Rattle.std.specs.Cmp.Lexicographic.{pointwise}
use Rattle.std.specs.Option.{option_eq}
use Rattle.std.proofs.Math.Bool.{beq}
use Rattle.std.proofs.lemmas.Bool.Decides.{Decides-and, Decides-eqb, Decides-like}
use Rattle.std.proofs.lemmas.Slice.Eq.{slice_eq-Decides}
use Rattle.cc_view.specs.declared.request.CcRequest.{CcRequest}
use Rattle.cc_view.specs.declared.request.RequestKind.{RequestKind}
use Rattle.cc_view.specs.declared.request.RequestKind.TheVariants.{Initial, Update, Termination, Event}
use Rattle.cc_view.specs.declared.request.RequestedAction.{RequestedAction}
use Rattle.cc_view.specs.declared.request.RequestedAction.TheVariants.{DirectDebiting, RefundAccount, CheckBalance, PriceEnquiry}
use Rattle.cc_view.specs.declared.request.Service.{Service}
use Rattle.cc_view.specs.declared.request.Subscription.{Subscription}
use Rattle.cc_view.specs.Request.Number.{action_number, kind_number}
use Rattle.cc_book.specs.Content.{same_action, same_kind, same_request}

-- ---- lists, numbers, services and subscriptions

pub option_decides : {A : Type 0} {E : A → A → Bool} → ((a b : A) → Decides (E a b) (a ≡ b)) → (x y : Option A) → Decides (option_eq E x y) (x ≡ y)
option_decides each None None = (λ _. refl, λ _. refl)
option_decides each None (Some y) = (λ e. absurd cc, λ e. absurd cc)
option_decides each (Some x) None = (λ e. absurd cc, λ e. absurd cc)
option_decides each (Some x) (Some y) = (λ e. ap Some ((each x y).0 e), λ e. (each x y).1 cc)

pub list_decides : {A : Type 0} {E : A → A → Bool} → ((a b : A) → Decides (E a b) (a ≡ b)) → (x y : List A) → Decides (pointwise E x y) (x ≡ y)
list_decides each x y = slice_eq-Decides each x y _ refl

pub number_decides : (x y : Option ℕ) → Decides (option_eq eqb x y) (x ≡ y)
number_decides x y = option_decides Decides-eqb x y

asked_decides : (x y : Option (List (Option ℕ))) → Decides (option_eq (pointwise (option_eq eqb)) x y) (x ≡ y)
asked_decides x y = option_decides (λ a b. list_decides number_decides a b) x y

service_from : (a b : Service) → (a.group ≡ b.group) × ((a.ident ≡ b.ident) × ((a.bare ≡ b.bare) × ((a.asked ≡ b.asked) × (a.used ≡ b.used)))) → a ≡ b
service_from a b h = λ i. record { group = h.0 i; ident = h.1.0 i; bare = h.1.1.0 i; asked = h.1.1.1.0 i; used = h.1.1.1.1 i }

service_to : (a b : Service) → a ≡ b → (a.group ≡ b.group) × ((a.ident ≡ b.ident) × ((a.bare ≡ b.bare) × ((a.asked ≡ b.asked) × (a.used ≡ b.used))))
service_to a b e =
    let units : (a.asked ≡ b.asked) × (a.used ≡ b.used) = (ap (λ (s : Service). s.asked) e, ap (λ (s : Service). s.used) e) in
    (ap (λ (s : Service). s.group) e, (ap (λ (s : Service). s.ident) e, (ap (λ (s : Service). s.bare) e, units)))

pub service_decides : (a b : Service)
    → Decides (option_eq eqb a.group b.group && (option_eq eqb a.ident b.ident
    && (beq a.bare b.bare && (option_eq (pointwise (option_eq eqb)) a.asked b.asked && pointwise eqb a.used b.used)))) (a ≡ b)
service_decides a b =
    Decides-like _ (service_from a b) (service_to a b)
    (Decides-and _ _ (number_decides a.group b.group) (Decides-and _ _ (number_decides a.ident b.ident) (Decides-and _ _ (booleans_Decides a.bare b.bare)
    (Decides-and _ _ (asked_decides a.asked b.asked) (list_decides Decides-eqb a.used b.used)))))

subscription_from : (a b : Subscription) → (a.kind ≡ b.kind) × (a.text ≡ b.text) → a ≡ b
subscription_from a b h = λ i. record { kind = h.0 i; text = h.1 i }

pub subscription_decides : (a b : Subscription) → Decides (eqb a.kind b.kind && pointwise eqb a.text b.text) (a ≡ b)
subscription_decides a b =
    Decides-like _ (subscription_from a b) (λ e. (ap (λ (s : Subscription). s.kind) e, ap (λ (s : Subscription). s.text) e))
    (Decides-and _ _ (Decides-eqb a.kind b.kind) (list_decides Decides-eqb a.text b.text))

-- ---- kinds and actions, by their numbers

abbrev kind_at : ℕ → RequestKind
kind_at number = cond (eqb number 1) Initial (cond (eqb number 2) Update (cond (eqb number 3) Termination Event))

kind_back : (kind : RequestKind) → kind_at (kind_number kind) ≡ kind
kind_back Initial = refl
kind_back Update = refl
kind_back Termination = refl
kind_back Event = refl

kind_decides : (a b : RequestKind) → Decides (same_kind a b) (a ≡ b)
kind_decides a b = Decides-like _ (λ e. sym (kind_back a) ∙ ap kind_at e ∙ kind_back b) (λ e. ap kind_number e) (Decides-eqb (kind_number a) (kind_number b))

abbrev action_at : ℕ → RequestedAction
action_at number = cond (eqb number 0) DirectDebiting (cond (eqb number 1) RefundAccount (cond (eqb number 2) CheckBalance PriceEnquiry))

action_back : (action : RequestedAction) → action_at (action_number action) ≡ action
action_back DirectDebiting = refl
action_back RefundAccount = refl
action_back CheckBalance = refl
action_back PriceEnquiry = refl

action_decides : (a b : RequestedAction) → Decides (same_action a b) (a ≡ b)
action_decides a b =
    Decides-like _ (λ e. sym (action_back a) ∙ ap action_at e ∙ action_back b) (λ e. ap action_number e) (Decides-eqb (action_number a) (action_number b))

-- ---- requests

request_from : (a b : CcRequest)
    → (a.session ≡ b.session) × ((a.number ≡ b.number) × ((a.kind ≡ b.kind) × ((a.action ≡ b.action)
    × ((a.subscriptions ≡ b.subscriptions) × (a.services ≡ b.services)))))
    → a ≡ b
request_from a b h =
    λ i. record { session = h.0 i; number = h.1.0 i; kind = h.1.1.0 i; action = h.1.1.1.0 i; subscriptions = h.1.1.1.1.0 i; services = h.1.1.1.1.1 i }

request_to : (a b : CcRequest) → a ≡ b
    → (a.session ≡ b.session) × ((a.number ≡ b.number) × ((a.kind ≡ b.kind) × ((a.action ≡ b.action)
    × ((a.subscriptions ≡ b.subscriptions) × (a.services ≡ b.services)))))
request_to a b e =
    let lists : (a.subscriptions ≡ b.subscriptions) × (a.services ≡ b.services) =
    (ap (λ (r : CcRequest). r.subscriptions) e, ap (λ (r : CcRequest). r.services) e) in
    let asked : (a.kind ≡ b.kind) × ((a.action ≡ b.action) × ((a.subscriptions ≡ b.subscriptions) × (a.services ≡ b.services))) =
    (ap (λ (r : CcRequest). r.kind) e, (ap (λ (r : CcRequest). r.action) e, lists)) in
    (ap (λ (r : CcRequest). r.session) e, (ap (λ (r : CcRequest). r.number) e, asked))

pub same_request-decides : (a b : CcRequest) → Decides (same_request a b) (a ≡ b)
same_request-decides a b =
    Decides-like _ (request_from a b) (request_to a b)
    (Decides-and _ _ (list_decides Decides-eqb a.session b.session) (Decides-and _ _ (Decides-eqb a.number b.number)
    (Decides-and _ _ (kind_decides a.kind b.kind) (Decides-and _ _ (option_decides action_decides a.action b.action)
    (Decides-and _ _ (list_decides subscription_decides a.subscriptions b.subscriptions) (list_decides service_decides a.services b.services))))))

pub same_request-self : (request : CcRequest) → same_request request request ≡ true
same_request-self request = (same_request-decides request request).1 refl

pub same_request-other : (one other : CcRequest) → one ≢ other → same_request one other ≡ false
same_request-other one other apart = by (same_request one other) refl where
  by : (b : Bool) → same_request one other ≡ b → b ≡ false
  by true e = absurd (apart ((same_request-decides one other).0 e))
  by false e = refl

-- two tests of one fact answer alike
pub one_answer : (a b : Bool) (P : Type 0) → Decides a P → Decides b P → a ≡ b
one_answer true b P one other = sym (other.1 (one.0 refl))
one_answer false true P one other = absurd (let e = one.1 (other.0 refl) in cc)
one_answer false false P one other = refl
