use Rattle.std.proofs.Common.{subst, sym}
use Rattle.dia_message.specs.Stream.{Stream, IsStream}
use Rattle.dia_message.proofs.OneStream.{IsStream-only, IsStream-stream_of}
use Rattle.dia_message.proofs.laws.one_stream.Goals as goal

pub returns : goal.returns
returns c = λ octets stream. (IsStream-only octets stream, λ e. subst (λ (s : Stream). IsStream octets s) (sym e) (IsStream-stream_of octets))
