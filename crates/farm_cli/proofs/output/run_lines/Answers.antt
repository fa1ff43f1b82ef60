use Rattle.std.proofs.Common.{◌≡◌, ◌+◌, ◌<◌, List, [], ◌∷◌, ◌++◌, length, take, get_or, ℕ, sym, ap, ◌∙◌, arith}
use Rattle.std.specs.List.{flat_map}
use Rattle.std.proofs.lemmas.List.{take_more}
use Rattle.dia_base.specs.declared.number.ConnId.{ConnId}
use Rattle.dia_base.specs.declared.number.NodeNo.{NodeNo}
use Rattle.dia_message.specs.declared.message.Message.{Message}
use Rattle.farm_cli.specs.Output.{recv_line}
use Rattle.farm_cli.proofs.Printing.{flat_map-push}
use Rattle.farm_cli.proofs.output.run_lines.Goals as goal

pub loop-conn-preserved : goal.loop-conn-preserved
loop-conn-preserved c =
    let received = c.args.trace.now.received in
    let at = c.loop-conn.conn-index in
    let line = recv_line c.args.site.now c.args.trace.now.ends in
    let item = c.loop-conn-item.result in
    let same : c.as_slice-conn-items.result.now ≡ received = c.as_slice-conn-items.ensures in
    let long : length c.as_slice-conn-items.result.now ≡ length received = ap length same in
    let within : at < length received = omega arith in
    let read : item ≡ get_or received at item = c.loop-conn-item.is ∙ ap (λ (xs : List (ConnId × Message)). get_or xs at item) same in
    let more : take (at + 1) received ≡ take at received ++ item ∷ [] = take_more received at item within ∙ ap (λ (x : ConnId × Message). take at received ++ x ∷ []) (sym read) in
    c.in_ok-push_recv.ensures
    ∙ ap (λ (ends : List (NodeNo × NodeNo)). c.loop-conn.out.items ++ recv_line c.args.site.now ends item) c.as_slice.ensures
    ∙ ap (λ (out : List ℕ). out ++ line item) c.loop-conn.invariant
    ∙ sym (ap (flat_map line) more ∙ flat_map-push line (take at received) item)
