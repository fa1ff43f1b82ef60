-- Each error answer stands for a refusal of its own, whatever moves are made.
use Rattle.std.proofs.Common.{◌≡◌, ◌≤◌, ◌+◌, ℕ, Bool, true, false, not, ◌&&◌, List, refl, arith, sym, ap, true≢false}
use Rattle.std.specs.List.{count_by}
use Rattle.dia_base.specs.declared.number.ConnId.{ConnId}
use Rattle.dia_base.proofs.Counting.{one}
use Rattle.dia_message.specs.declared.message.Message.{Message}
use Rattle.cc_view.specs.declared.reply.CcReply.{CcReply}
use Rattle.cc_view.specs.declared.request.CcRequest.{CcRequest}
use Rattle.cc_view.specs.Answer.{answer_to}
use Rattle.relay_hops.specs.PendingTable.{under, again}
use Rattle.farm_law.specs.Farm.{Refused, Farm}
use Rattle.farm_law.specs.Invariant.{IsKept}
use Rattle.farm_law.specs.Moves.{Move, sends, receives, loses, moves_on, answers, takes, sweeps, changes_terms, refuses, forwards, returns}
use Rattle.farm_law.specs.Moves.{forgets, orphans, drops, sends_again, gives_up, ends, Moves, done, next, forwarded}
use Rattle.farm_law.specs.Parties.{Parties}
use Rattle.farm_law.specs.Tally.{IsOfText, is_error_with, is_told_with, written_by, OwesEach}
use Rattle.farm_law.proofs.Lists.{count-end, count-without, count-left, Has-without}
use Rattle.farm_law.proofs.Premises.{Premises}
use Rattle.farm_law.proofs.Runs.{keep}

-- ---- what does not count

-- a front's answer has no E
front_flag : (name realm : List ℕ) (message answer : Message) (request : CcRequest) (reply : CcReply)
    → answer ≡ answer_to name realm message request reply → answer.header.error ≡ false
unfolding answer_to
front_flag name realm message answer request reply e = ap (λ (m : Message). m.header.error) e

of_client : (client rest : Bool) → client ≡ true → one (not client && rest) ≡ 0
of_client true rest e = refl
of_client false rest e = absurd (true≢false (sym e))

request_counts_not : (server request rest : Bool) → request ≡ true → one (server && (not request && rest)) ≡ 0
request_counts_not true true rest e = refl
request_counts_not false true rest e = refl
request_counts_not server false rest e = absurd (true≢false (sym e))

clear_counts_not : (server answer error rest : Bool) → error ≡ false → one (server && (answer && (error && rest))) ≡ 0
clear_counts_not true true false rest e = refl
clear_counts_not true false false rest e = refl
clear_counts_not false answer false rest e = refl
clear_counts_not server answer true rest e = absurd (true≢false e)

-- ---- what counts no more

no_more : (a b : Bool) → one (a && b) ≤ one b
no_more true b = omega arith
no_more false b = omega arith

at_most : (a b c d : Bool) → one (a && (b && (c && d))) ≤ one d
at_most a b c d = let e = no_more a (b && (c && d)) in let f = no_more b (c && d) in let g = no_more c d in omega arith

server_counts : (client rest : Bool) → client ≡ false → one (not client && rest) ≡ one rest
server_counts false rest e = refl
server_counts true rest e = absurd (true≢false e)

-- ---- each move

module _ (p : Parties) (test : Message → Bool) (of_text : IsOfText test) where
  abbrev IsOwed : Farm → Type 0
  IsOwed f =
      count_by (is_told_with p test) f.items + count_by (λ (item : ConnId × Message). is_error_with test item.1) f.received ≤ count_by (λ (refused :
      Refused). test (written_by p refused)) f.refused

  owed : {old new : Farm} → Move p old new → IsKept p old → IsOwed old → IsOwed new
  owed (sends {f = f} conn to message client server wi) k e =
      let a = count-without (is_told_with p test) wi in
      let b = of_client (p.is_client (p.client_on conn)) (is_error_with test message) client in
      omega arith
  owed (receives {f = f} {item = item} wo client server at_end from_server) k e =
      let a = count-without (is_told_with p test) wo in
      let b = server_counts (p.is_client item.from) (is_error_with test item.message) server in
      let c = count-end (λ (got : ConnId × Message). is_error_with test got.1) f.received (item.conn, item.message) in
      omega arith
  owed (loses left) k e = let a = count-left (is_told_with p test) left in omega arith
  owed (moves_on wo wi) k e = let a = count-without (is_told_with p test) wo in let b = count-without (is_told_with p test) wi in omega arith
  owed (answers {item = item} answer wo r is_front is wi) k e =
      let a = count-without (is_told_with p test) wo in let b = count-without (is_told_with p test) wi in
      let site = p.front_site (p.name_of item.to) in
      let c =
      clear_counts_not (not (p.is_client item.to)) (not answer.header.request) answer.header.error (test answer) (front_flag site.name site.realm
      item.message answer is.request is.reply is.written) in
      omega arith
  owed (takes moment request h r view new room) k e = e
  owed (sweeps moment due room) k e = e
  owed (changes_terms moment change sound room) k e = e
  owed (refuses {f = f} {item = item} refusal wo r wi) k e =
      let at : Refused = record { node = item.to; conn = item.conn; request = item.message; refusal = refusal } in
      let answer = written_by p at in
      let a = count-without (is_told_with p test) wo in let b = count-without (is_told_with p test) wi in
      let c = at_most (not (p.is_client item.to)) (not answer.header.request) answer.header.error (test answer) in
      let d = count-end (λ (refused : Refused). test (written_by p refused)) f.refused at in
      omega arith
  owed (forwards {item = item} conn peer hop avps wo r splits spelled is_relay relay server free wi wr) k e =
      let a = count-without (is_told_with p test) wo in let b = count-without (is_told_with p test) wi in
      let on = forwarded p hop item in
      let c = request_counts_not (not (p.is_client item.to)) item.message.header.request (on.header.error && test on) r in
      omega arith
  owed (returns {item = item} asker wo flag server is_relay linked live wr at_conn at_relay at_hop at_asker wi) k e =
      let a = count-without (is_told_with p test) wo in let b = count-without (is_told_with p test) wi in
      let c = server_counts (p.is_client item.from) (is_error_with test item.message) server in
      let d = no_more (not (p.is_client item.to)) (is_error_with test (under asker.hop item.message)) in
      let g = ap (λ (t : Bool). one (not item.message.header.request && (item.message.header.error && t))) (of_text asker.hop item.message) in
      omega arith
  owed (forgets wo flag server live wr at_conn at_relay at_hop) k e = let a = count-without (is_told_with p test) wo in omega arith
  owed (orphans o) k e = e
  owed (drops left) k e = e
  owed (sends_again {row = row} conn peer hop wr gone server free wi wn) k e =
      let b = count-without (is_told_with p test) wi in
      let on = again hop row.request in
      let c = request_counts_not (not (p.is_client row.relay)) row.request.header.request (on.header.error && test on) (k.requests row (Has-without wr)) in
      omega arith
  owed (gives_up {f = f} {row = row} asker refusal wr gone at_asker is_relay wi) k e =
      let at : Refused = record { node = row.relay; conn = row.conn; request = row.request; refusal = refusal } in
      let answer = written_by p at in
      let b = count-without (is_told_with p test) wi in
      let c = at_most (not (p.is_client row.relay)) (not answer.header.request) answer.header.error (test (under asker.hop answer)) in
      let g = ap one (of_text asker.hop answer) in
      let d = count-end (λ (refused : Refused). test (written_by p refused)) f.refused at in
      omega arith
  owed (ends has_ended more) k e = e

-- all of them, one after the other
pub moves_owe : (l : Premises) (p : Parties) (old new : Farm) → Moves p old new → IsKept p old → OwesEach p old → OwesEach p new
moves_owe l p old new done k e = e
moves_owe l p old new (next m ms) k e = moves_owe l p _ new ms (keep l p m k) (λ test of_text. owed p test of_text m k (e test of_text))
