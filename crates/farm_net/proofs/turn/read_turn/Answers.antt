use Rattle.std.proofs.Common.{rules, ◌≡◌, ◌≤◌, ◌*◌, ◌++◌, List, ℕ, Err, Result, length, sym, subst, ap, ◌∙◌, arith}
use Rattle.std.specs.Io.KnownBytes.{Consumes}
use Rattle.dia_message.specs.Stream.{Stream, stream_of, unread as unread_of}
use Rattle.dia_message.proofs.Fed.{fault_of-rest}
use Rattle.farm_net.specs.Turn.{Receives}
use Rattle.farm_net.specs.declared.loss.Loss.{Loss}
use Rattle.farm_net.specs.declared.loss.Loss.TheVariants.{Frame}
use Rattle.farm_net.proofs.Few.{few-lost, few-more, no_whole, no_whole-left}
use Rattle.farm_net.proofs.Streams.{failed, HasRead-more, HasRead-nothing, Receives-lost}
use Rattle.farm_net.proofs.turn.read_turn.Goals as goal

pub loop-init : goal.loop-init
loop-init g c =
    let frames = c.args.frames.now in
    let unread : stream_of frames ≡ unread_of frames = c.fault.ensures.unread in
    let rest : (stream_of frames).rest ≡ frames = ap (λ (s : Stream). s.rest) unread in
    let none : c.args.messages.now.items ≡ (stream_of frames).messages = c.requires.none ∙ sym (ap (λ (s : Stream). s.messages) unread) in
    record {
      read = HasRead-nothing (g.R.Read.remaining c.args.reader.now) frames c.args.messages.now.items none rest;
      sound = sym c.fault.ensures.value ∙ c.in_default.is;
      unread = no_whole frames rest;
      few = let n = ap length c.requires.none in omega arith;
    }

pub returns-in_err-take_piece-in-Some-2-clause-few :
    goal.returns-in_err-take_piece-in-Some-2-clause-few
returns-in_err-take_piece-in-Some-2-clause-few g c =
    let short : length c.split_at.result.0.now ≤ 20 * c.saturating_sub.result = omega (arith, c.split_at.ensures.front_len, c.octets_for-here.ensures.most, (rw c.in-Some-2.is at c.in_ok-count.ensures.octets).0, c.split_at_mut-room.ensures.front_len) in
    few-lost c.loop.messages.items c.take_piece.new.messages.items c.loop.frames c.split_at.result.0.now c.args.most c.saturating_sub.result
    c.in_err-take_piece-in-Some-2.field-0.0 c.loop.invariant.few (omega (arith, c.saturating_sub.ensures, c.len.ensures)) c.loop.invariant.unread short
    c.in_err-take_piece-in-Some-2.ensures.messages c.in_err-take_piece-in-Some-2.ensures.memory

pub returns-in_err-take_piece-in-Some-2-clause-receives :
    goal.returns-in_err-take_piece-in-Some-2-clause-receives
returns-in_err-take_piece-in-Some-2-clause-receives g c =
    let remaining = g.R.Read.remaining in
    let loss = c.in_err-take_piece-in-Some-2.field-0.0 in
    let e : c.from_residual-in_err-take_piece-in-Some-2.result ≡ Err loss = search rules in
    let octets : Consumes (remaining c.loop.reader) (remaining c.read_once.new.reader) c.split_at.result.0.now =
    subst (λ (xs : List ℕ). Consumes (remaining c.loop.reader) (remaining c.read_once.new.reader) xs) (sym c.split_at.ensures.front)
    (rw c.in-Some-2.is at c.in_ok-count.ensures.octets).1 in
    let lost : Receives (remaining c.args.reader.now) (remaining c.read_once.new.reader) c.args.frames.now c.take_piece.new.messages.items
    c.take_piece.new.frames (Err loss) =
    Receives-lost (remaining c.args.reader.now) (remaining c.loop.reader) (remaining c.read_once.new.reader) c.args.frames.now c.split_at.result.0.now
    c.loop.messages.items c.take_piece.new.messages.items c.loop.frames c.take_piece.new.frames loss
    c.loop.invariant.read octets c.in_err-take_piece-in-Some-2.ensures.messages c.in_err-take_piece-in-Some-2.ensures.rest
    c.in_err-take_piece-in-Some-2.ensures.memory in
    subst (λ (r : Result (Unit {0}) Loss). Receives (remaining c.args.reader.now) (remaining c.read_once.new.reader) c.args.frames.now
    c.take_piece.new.messages.items c.take_piece.new.frames r) (sym e) lost

pub returns-in_err-take_piece-in-Some-2-clause-frame :
    goal.returns-in_err-take_piece-in-Some-2-clause-frame
returns-in_err-take_piece-in-Some-2-clause-frame g c = λ fault is.
    let loss = c.in_err-take_piece-in-Some-2.field-0.0 in
    let e : c.from_residual-in_err-take_piece-in-Some-2.result ≡ Err loss = search rules in
    let frame : failed loss ≡ failed (Frame fault) = sym e ∙ is in
    ap (λ (xs : List ℕ). (stream_of xs).fault) (c.in_err-take_piece-in-Some-2.ensures.rest (λ o. cc))
    ∙ fault_of-rest (c.loop.frames ++ c.split_at.result.0.now) ∙ c.in_err-take_piece-in-Some-2.ensures.fault fault frame

pub loop-preserved : goal.loop-preserved
loop-preserved g c =
    let remaining = g.R.Read.remaining in
    let octets : Consumes (remaining c.loop.reader) (remaining c.read_once.new.reader) c.split_at.result.0.now =
    subst (λ (xs : List ℕ). Consumes (remaining c.loop.reader) (remaining c.read_once.new.reader) xs) (sym c.split_at.ensures.front)
    (rw c.in-Some-2.is at c.in_ok-count.ensures.octets).1 in
    let short : length c.split_at.result.0.now ≤ 20 * c.saturating_sub.result = omega (arith, c.split_at.ensures.front_len, c.octets_for-here.ensures.most, (rw c.in-Some-2.is at c.in_ok-count.ensures.octets).0, c.split_at_mut-room.ensures.front_len) in
    record {
      read = HasRead-more (remaining c.args.reader.now) (remaining c.loop.reader) (remaining c.read_once.new.reader) c.args.frames.now
          c.split_at.result.0.now c.loop.messages.items c.take_piece.new.messages.items c.loop.frames c.take_piece.new.frames
          c.loop.invariant.read octets (c.in_ok-take_piece-in-Some-2.ensures.messages (λ o. cc)) (c.in_ok-take_piece-in-Some-2.ensures.rest (λ o. cc));
      sound = c.in_ok-take_piece-in-Some-2.ensures.sound;
      unread = no_whole-left (c.loop.frames ++ c.split_at.result.0.now) c.take_piece.new.frames (c.in_ok-take_piece-in-Some-2.ensures.rest (λ o. cc));
      few = few-more c.loop.messages.items c.take_piece.new.messages.items c.loop.frames c.split_at.result.0.now c.args.most c.saturating_sub.result
          c.loop.invariant.few (omega (arith, c.saturating_sub.ensures, c.len.ensures)) c.loop.invariant.unread short
          (c.in_ok-take_piece-in-Some-2.ensures.messages (λ o. cc));
    }
