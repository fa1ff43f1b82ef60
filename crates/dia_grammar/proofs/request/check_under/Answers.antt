use Rattle.std.proofs.Common.{Some, None, refl, sym}
use Rattle.dia_grammar.specs.Profile.{profile_of}
use Rattle.dia_grammar.specs.Grammar.{unknown_of, second_of, missing_of, single_codes, required_in}
use Rattle.dia_grammar.proofs.Requests.{fault-is}
use Rattle.dia_grammar.proofs.request.check_under.Goals as goal

pub returns-in-Some-clause-fault : goal.returns-in-Some-clause-fault
returns-in-Some-clause-fault c =
    let avps = c.args.avps.now in
    let profile = profile_of c.args.profile in
    sym (fault-is profile avps (Some c.in-Some.fault) (unknown_of profile avps) (second_of single_codes avps) (missing_of (required_in avps) avps) (sym c.in-Some.ensures) refl refl refl)

pub returns-in-Some-first_unknown-clause-fault : goal.returns-in-Some-first_unknown-clause-fault
returns-in-Some-first_unknown-clause-fault c =
    let avps = c.args.avps.now in
    sym (fault-is (profile_of c.args.profile) avps None (Some c.in-Some-first_unknown.at) (second_of single_codes avps) (missing_of (required_in avps) avps) (sym c.in_default.ensures) (sym c.in-Some-first_unknown.ensures.place) refl refl)

pub returns-in-Some-first_repeated-clause-fault : goal.returns-in-Some-first_repeated-clause-fault
returns-in-Some-first_repeated-clause-fault c =
    let avps = c.args.avps.now in
    sym (fault-is (profile_of c.args.profile) avps None None (Some c.in-Some-first_repeated.at) (missing_of (required_in avps) avps) (sym c.in_default.ensures) (sym c.in_default-first_unknown.ensures.place) (sym c.in-Some-first_repeated.ensures.place) refl)

pub returns-in-Some-missing_in_request-clause-fault : goal.returns-in-Some-missing_in_request-clause-fault
returns-in-Some-missing_in_request-clause-fault c =
    sym (fault-is (profile_of c.args.profile) c.args.avps.now None None None (Some c.in-Some-missing_in_request.code) (sym c.in_default.ensures) (sym c.in_default-first_unknown.ensures.place) (sym c.in_default-first_repeated.ensures.place) (sym c.in-Some-missing_in_request.ensures))

pub returns-clause-fault : goal.returns-clause-fault
returns-clause-fault c =
    sym (fault-is (profile_of c.args.profile) c.args.avps.now None None None None (sym c.in_default.ensures) (sym c.in_default-first_unknown.ensures.place) (sym c.in_default-first_repeated.ensures.place) (sym c.in_default-missing_in_request.ensures))
