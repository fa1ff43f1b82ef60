use Rattle.std.proofs.Common.{rules, ◌≡◌, ◌≢◌, [], Err, arith, length}
use Rattle.std.proofs.lemmas.List.{nil_from_length}
use Rattle.std.specs.Option.{option_copied}
use Rattle.dia_avp.proofs.Reading.{BeginsWith-shorter}
use Rattle.dia_avp.specs.LentAvp.{avp_of}
use Rattle.relay_core.specs.declared.reading.Reading.{Reading}
use Rattle.relay_core.proofs.Walking.{read_begun, read_more, read_all, read_to, read_fault}
use Rattle.relay_core.proofs.reading.read_body.Goals as goal

pub loop-reading-init : goal.loop-reading-init
loop-reading-init c = record {
  within = omega arith;
  read = read_begun c.args.body.now (option_copied c.nothing-reading.result.host) (option_copied c.nothing-reading.result.realm) (option_copied c.nothing-reading.result.records)
      c.nothing-reading.ensures.host c.nothing-reading.ensures.realm c.nothing-reading.ensures.records;
}

pub loop-reading-preserved : goal.loop-reading-preserved
loop-reading-preserved c =
    let found = c.in_ok-avp.ensures.found in
    let shorter = BeginsWith-shorter c.loop-reading.rest.now (avp_of c.in_ok-avp.avp) c.in_ok-avp.behind.now found in
    record {
      within = omega arith;
      read = read_more c.args.body.now c.loop-reading.rest.now c.in_ok-avp.behind.now (avp_of c.in_ok-avp.avp)
          (option_copied c.loop-reading.reading.0) (option_copied c.loop-reading.reading.1.0) (option_copied c.loop-reading.reading.1.1.0)
          (option_copied c.with-reading.result.host) (option_copied c.with-reading.result.realm) (option_copied c.with-reading.result.records)
          c.loop-reading.invariant.read found c.with-reading.ensures.host c.with-reading.ensures.realm c.with-reading.ensures.records;
    }

pub returns-in_err-avp : goal.returns-in_err-avp
returns-in_err-avp c =
    let some : c.loop-reading.rest.now ≢ [] = search rules in
    let fault = c.in_err-avp.field-0.0 in
    let is : c.from_residual.result ≡ Err fault = search rules in
    let front : c.front_of.result ≡ Err fault = c.in_err-avp.was in
    read_fault c.args.body.now c.from_residual.result fault is
    (read_to c.args.body.now c.loop-reading.rest.now (option_copied c.loop-reading.reading.0) (option_copied c.loop-reading.reading.1.0) (option_copied c.loop-reading.reading.1.1.0)
    c.front_of.result fault c.loop-reading.invariant.read some front c.front_of.ensures.fault)

pub returns : goal.returns
returns c =
    let none : length c.loop-reading.rest.now ≡ 0 = search rules in
    let reading : Reading = record { host = c.loop-reading.reading.0; realm = c.loop-reading.reading.1.0; records = c.loop-reading.reading.1.1.0 } in
    read_all c.args.body.now c.loop-reading.rest.now reading c.loop-reading.invariant.read (nil_from_length c.loop-reading.rest.now none)
