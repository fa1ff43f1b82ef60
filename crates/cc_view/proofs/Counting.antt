-- The AVPs of a request as they are counted: what stays, and what is put in.
use Rattle.std.proofs.Common.{◌≡◌, ℕ, suc, ◌+◌, ◌<◌, Bool, true, false, not, ◌&&◌, ◌||◌, cond, List, [], ◌∷◌, ◌++◌, length, drop, get_or, All, Option, None, Some, refl, ap, sym, ◌∙◌, arith, append_assoc, add-one, drop-cons}
use Rattle.std.proofs.lemmas.List.{append-nil}
use Rattle.std.proofs.lemmas.List.Elements.{All-append, All-cons, All-filter, All-head, All-nil, All-tail, filter-append}
use Rattle.std.specs.List.{filter, find, list_any}
use Rattle.std.specs.Option.{option_to_list}
use Rattle.dia_avp.specs.declared.avp.RawAvp.{RawAvp}
use Rattle.dia_grammar.specs.declared.profile.Tolerance.{Tolerance}
use Rattle.dia_grammar.specs.Profile.{RequestProfile, is_application_in_group, is_origin_twice, tolerates_application_in_group, tolerates_origin_twice}
use Rattle.dia_grammar.specs.Grammar.{is_of}
use Rattle.dia_base.specs.Codes.{auth_application_id, origin_host, origin_realm}
use Rattle.cc_view.specs.RequestView.Counting.{applications_inside, counted, first_with, inner_applications, is_credit_control, is_left_out, is_new, is_said, is_untouched, kept_behind, put_in, repeats, stand_ins, stand_ins_by, vendor_specific_application_id}
use Rattle.cc_view.specs.RequestView.Counts.{members_of}

-- ---- where nothing is tolerated

kept-all : (profile : RequestProfile) → tolerates_origin_twice profile ≡ false → (host realm : Option RawAvp) (avps : List RawAvp) → kept_behind profile host realm avps ≡ avps
kept-all profile none host realm [] = refl
kept-all profile none host realm (avp ∷ avps) =
    let kept = kept_behind profile (first_with origin_host host avp) (first_with origin_realm realm avp) avps in
    ap (λ (b : Bool). cond (b && (repeats origin_host host avp || repeats origin_realm realm avp)) kept (avp ∷ kept)) none
    ∙ ap (λ (kept : List RawAvp). avp ∷ kept) (kept-all profile none (first_with origin_host host avp) (first_with origin_realm realm avp) avps)

none_is : (p : Tolerance → Bool) (tolerated : List Tolerance) → length tolerated ≡ 0 → list_any p tolerated ≡ false
none_is p [] e = refl
none_is p (tolerance ∷ tolerated) e = absurd (omega arith)

pub counted-nothing : (profile : RequestProfile) (avps : List RawAvp) → length profile.tolerated ≡ 0 → counted profile avps ≡ avps
unfolding counted
counted-nothing profile avps e =
    ap (λ (b : Bool). kept_behind profile None None avps ++ cond b (stand_ins avps) []) (none_is is_application_in_group profile.tolerated e)
    ∙ append-nil (kept_behind profile None None avps)
    ∙ kept-all profile (none_is is_origin_twice profile.tolerated e) None None avps

-- ---- the groups of one AVP more

behind : (avps : List RawAvp) (i : ℕ) (avp : RawAvp) → i < length avps → avp ≡ get_or avps i avp → drop i avps ≡ avp ∷ drop (i + 1) avps
behind avps i avp h e = rw add-one (drop-cons avps i avp h ∙ ap (λ (x : RawAvp). x ∷ drop (suc i) avps) (sym e))

pub inner-more : (avps found whole : List RawAvp) (i : ℕ) (avp : RawAvp) → i < length avps → avp ≡ get_or avps i avp
    → found ++ inner_applications (drop i avps) ≡ whole → (found ++ applications_inside avp) ++ inner_applications (drop (i + 1) avps) ≡ whole
inner-more avps found whole i avp h e so_far =
    append_assoc found (applications_inside avp) (inner_applications (drop (i + 1) avps))
    ∙ ap (λ (rest : List RawAvp). found ++ inner_applications rest) (sym (behind avps i avp h e)) ∙ so_far

-- ---- what holds of each AVP that is counted

pub all-if : (P : RawAvp → Type 0) (b : Bool) (xs ys : List RawAvp) → All P xs → All P ys → All P (cond b xs ys)
all-if P true xs ys p q = p
all-if P false xs ys p q = q

kept-each : (P : RawAvp → Type 0) (profile : RequestProfile) (host realm : Option RawAvp) (avps : List RawAvp) → All P avps → All P (kept_behind profile host realm avps)
kept-each P profile host realm [] each = each
kept-each P profile host realm (avp ∷ avps) each =
    let kept = kept_behind profile (first_with origin_host host avp) (first_with origin_realm realm avp) avps in
    let behind = kept-each P profile (first_with origin_host host avp) (first_with origin_realm realm avp) avps (All-tail P avp avps each) in
    all-if P (is_left_out profile host realm avp) kept (avp ∷ kept) behind (All-cons P avp kept (All-head P avp avps each) behind)

found_each : (P : RawAvp → Type 0) (b : Bool) (avp : RawAvp) (found : Option RawAvp) → P avp → All P (option_to_list found) → All P (option_to_list (cond b (Some avp) found))
found_each P true avp found p q = All-cons P avp [] p (All-nil P)
found_each P false avp found p q = q

found-each : (P : RawAvp → Type 0) (test : RawAvp → Bool) (avps : List RawAvp) → All P avps → All P (option_to_list (find test avps))
found-each P test [] each = each
found-each P test (avp ∷ avps) each = found_each P (test avp) avp (find test avps) (All-head P avp avps each) (found-each P test avps (All-tail P avp avps each))

inner-each : (P Q : RawAvp → Type 0) → ((avp : RawAvp) → Q avp → All P (applications_inside avp)) → (avps : List RawAvp) → All Q avps → All P (inner_applications avps)
inner-each P Q inside [] each = All-nil P
inner-each P Q inside (avp ∷ avps) each =
    All-append P (applications_inside avp) (inner_applications avps) (inside avp (All-head Q avp avps each)) (inner-each P Q inside avps (All-tail Q avp avps each))

stand-each : (P : RawAvp → Type 0) (own : Option RawAvp) (inner : List RawAvp) → All P inner → All P (stand_ins_by own inner)
stand-each P None inner each = found-each P is_credit_control inner each
stand-each P (Some own) inner each = All-filter (is_new own) P inner each

put-each : (P Q : RawAvp → Type 0) → ((avp : RawAvp) → Q avp → All P (applications_inside avp)) → (profile : RequestProfile) (avps : List RawAvp) → All Q avps → All P (put_in profile avps)
put-each P Q inside profile avps each =
    all-if P (tolerates_application_in_group profile) (stand_ins avps) []
    (stand-each P (find (is_of auth_application_id) avps) (inner_applications avps) (inner-each P Q inside avps each))
    (All-nil P)

pub counted-each : (P : RawAvp → Type 0) → ((avp : RawAvp) → P avp → All P (applications_inside avp)) → (profile : RequestProfile) (avps : List RawAvp) → All P avps → All P (counted profile avps)
unfolding counted
counted-each P inside profile avps each =
    All-append P (kept_behind profile None None avps) (put_in profile avps) (kept-each P profile None None avps each) (put-each P P inside profile avps each)

-- ---- what is as it came

abbrev IsTouched : RawAvp → Type 0
IsTouched avp = is_untouched avp ≡ false

touched_left : (tolerated host realm said told application : Bool) → (tolerated && ((host && said) || (realm && told))) ≡ true → not (host || (realm || (application || false))) ≡ false
touched_left false host realm said told application e = absurd cc
touched_left true true realm said told application e = refl
touched_left true false true said told application e = refl
touched_left true false false said told application e = absurd cc

untouched_step : (left : Bool) (x : RawAvp) (kept xs : List RawAvp) → (left ≡ true → IsTouched x) → filter is_untouched kept ≡ filter is_untouched xs → filter is_untouched (cond left kept (x ∷ kept)) ≡ filter is_untouched (x ∷ xs)
untouched_step true x kept xs touched same = same ∙ sym (ap (λ (b : Bool). cond b (x ∷ filter is_untouched xs) (filter is_untouched xs)) (touched refl))
untouched_step false x kept xs touched same = ap (λ (ys : List RawAvp). cond (is_untouched x) (x ∷ ys) ys) same

kept-untouched : (profile : RequestProfile) (host realm : Option RawAvp) (avps : List RawAvp) → filter is_untouched (kept_behind profile host realm avps) ≡ filter is_untouched avps
kept-untouched profile host realm [] = refl
kept-untouched profile host realm (x ∷ xs) =
    untouched_step (is_left_out profile host realm x) x (kept_behind profile (first_with origin_host host x) (first_with origin_realm realm x) xs) xs
    (touched_left (tolerates_origin_twice profile) (is_of origin_host x) (is_of origin_realm x) (is_said host x) (is_said realm x) (is_of auth_application_id x))
    (kept-untouched profile (first_with origin_host host x) (first_with origin_realm realm x) xs)

application_touched : (host realm application : Bool) → application ≡ true → not (host || (realm || (application || false))) ≡ false
application_touched true realm application e = refl
application_touched false true application e = refl
application_touched false false true e = refl
application_touched false false false e = absurd cc

one_touched : (b : Bool) (x : RawAvp) (xs : List RawAvp) → is_of auth_application_id x ≡ b → All IsTouched xs → All IsTouched (cond b (x ∷ xs) xs)
one_touched true x xs e touched = All-cons IsTouched x xs (application_touched (is_of origin_host x) (is_of origin_realm x) (is_of auth_application_id x) e) touched
one_touched false x xs e touched = touched

applications-touched : (avps : List RawAvp) → All IsTouched (filter (is_of auth_application_id) avps)
applications-touched [] = All-nil IsTouched
applications-touched (x ∷ xs) = one_touched (is_of auth_application_id x) x (filter (is_of auth_application_id) xs) refl (applications-touched xs)

inside-touched : (avp : RawAvp) → All IsTouched (applications_inside avp)
inside-touched avp =
    all-if IsTouched (is_of vendor_specific_application_id avp) (filter (is_of auth_application_id) (members_of avp)) [] (applications-touched (members_of avp)) (All-nil IsTouched)

none-untouched : (avps : List RawAvp) → All IsTouched avps → filter is_untouched avps ≡ []
none-untouched [] touched = refl
none-untouched (x ∷ xs) touched =
    ap (λ (b : Bool). cond b (x ∷ filter is_untouched xs) (filter is_untouched xs)) (All-head IsTouched x xs touched) ∙ none-untouched xs (All-tail IsTouched x xs touched)

pub counted-untouched : (profile : RequestProfile) (avps : List RawAvp) → filter is_untouched (counted profile avps) ≡ filter is_untouched avps
unfolding counted
counted-untouched profile avps =
    filter-append is_untouched (kept_behind profile None None avps) (put_in profile avps)
    ∙ ap (λ (xs : List RawAvp). filter is_untouched (kept_behind profile None None avps) ++ xs)
    (none-untouched (put_in profile avps) (put-each IsTouched (λ avp. Unit {0}) (λ avp any. inside-touched avp) profile avps (λ k d lt. tt)))
    ∙ append-nil (filter is_untouched (kept_behind profile None None avps)) ∙ kept-untouched profile None None avps
