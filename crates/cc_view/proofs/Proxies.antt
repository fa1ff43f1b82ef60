-- A walk over octets that looks for a Proxy-Info.
use Rattle.std.proofs.Common.{◌≡◌, ◌≢◌, ℕ, ◌+◌, ◌≤◌, List, [], ◌∷◌, length, drop, Bool, true, false, cond, eqb, ◌&&◌, Result, Ok, Err, refl, sym, ap, subst, ◌∙◌, arith}
use Rattle.std.proofs.lemmas.Bool.{ne_eqb}
use Rattle.dia_avp.specs.declared.avp.RawAvp.{RawAvp}
use Rattle.dia_avp.specs.declared.fault.AvpFault.{AvpFault}
use Rattle.dia_avp.specs.AvpList.{Begins, IsSpelling, Reads, code_in, length_in, padding_of}
use Rattle.dia_avp.specs.AvpReading.{split_of}
use Rattle.dia_avp.proofs.Splitting.{split_of-reads}
use Rattle.dia_base.specs.Codes.{proxy_info}
use Rattle.cc_view.specs.Answer.Carried.{carriable_avps, carries_too_much, proxies_in}

-- where all of the octets spell AVPs, what is left spells AVPs with the same Proxy-Infos
abbrev pub KeepsProxies : List ℕ → List ℕ → Type 0
KeepsProxies octets left = (avps : List RawAvp) → IsSpelling octets avps → (others : List RawAvp) × IsSpelling left others × (proxies_in avps ≡ proxies_in others)

pub keeps-all : (octets : List ℕ) → KeepsProxies octets octets
keeps-all octets avps h = (avps, h, refl)

not_both : (a b : Bool) → b ≡ false → (a && b) ≡ false
not_both true b e = e
not_both false b e = refl

-- an AVP of another code is left out
other_left_out : (avp : RawAvp) (avps : List RawAvp) → avp.code ≢ proxy_info → proxies_in (avp ∷ avps) ≡ proxies_in avps
other_left_out avp avps other =
    ap (λ (b : Bool). cond b (avp ∷ proxies_in avps) (proxies_in avps)) (not_both (eqb avp.vendor 0) (eqb avp.code proxy_info) (ne_eqb avp.code proxy_info other))

stepped : (left next : List ℕ) → 8 ≤ length left → code_in left ≢ proxy_info → next ≡ drop (length_in left + padding_of (length_in left)) left → (others : List RawAvp) → IsSpelling left others
    → (more : List RawAvp) × IsSpelling next more × (proxies_in others ≡ proxies_in more)
stepped left next long other is [] h = absurd (omega (arith, ap length h))
stepped left next long other is (avp ∷ avps) h =
    (avps, subst (λ (x : List ℕ). Begins x avps []) (h.1.behind ∙ sym is) h.2, other_left_out avp avps (λ e. other (sym h.1.code ∙ e)))

-- over one AVP of another code
pub keeps-next : (octets left next : List ℕ) → KeepsProxies octets left → 8 ≤ length left → code_in left ≢ proxy_info → next ≡ drop (length_in left + padding_of (length_in left)) left
    → KeepsProxies octets next
keeps-next octets left next keeps long other is avps h =
    let here = keeps avps h in
    let behind = stepped left next long other is here.0 here.1 in
    (behind.0, behind.1, here.2 ∙ behind.2)

nothing_spells : (avps : List RawAvp) → IsSpelling [] avps → avps ≡ []
nothing_spells [] h = refl
nothing_spells (avp ∷ avps) h = absurd (omega (arith, h.1.header))

none_by : (much : Bool) (avps : List RawAvp) → proxies_in avps ≡ [] → proxies_in (cond much [] avps) ≡ []
none_by true avps e = refl
none_by false avps e = e

none_in : (octets : List ℕ) → KeepsProxies octets [] → (r : Result (List RawAvp) AvpFault) → Reads octets r → proxies_in (carriable_avps r) ≡ []
none_in octets keeps (Ok avps) h =
    let here = keeps avps h in
    none_by (carries_too_much avps) avps (here.2 ∙ ap (λ (x : List RawAvp). proxies_in x) (nothing_spells here.0 here.1))
none_in octets keeps (Err fault) h = refl

-- nothing is left
pub lacks : (octets left : List ℕ) → KeepsProxies octets left → left ≡ [] → proxies_in (carriable_avps (split_of octets)) ≡ []
lacks octets left keeps nothing = none_in octets (subst (λ (x : List ℕ). KeepsProxies octets x) nothing keeps) (split_of octets) (split_of-reads octets)
