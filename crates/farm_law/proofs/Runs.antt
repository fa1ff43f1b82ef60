-- What each move keeps, and so all moves, one after the other, from a farm in which nothing has happened.
use Rattle.std.proofs.Common.{◌≡◌, ◌≤◌, List, [], ◌∷◌, ◌++◌, length, inr, refl, arith, sym, subst}
use Rattle.cc_view.specs.Answer.{refusal_of}
use Rattle.cc_book.specs.declared.entry.Entry.{Entry}
use Rattle.cc_book.specs.declared.terms.Terms.{Terms}
use Rattle.cc_book.specs.History.{IsLegal}
use Rattle.cc_book.specs.Taking.{Ledger}
use Rattle.relay_core.specs.Forwarding.{same}
use Rattle.farm_law.specs.Answers.{by_itself, Answers, of_front, of_refusal}
use Rattle.farm_law.specs.Farm.{Refused, Farm}
use Rattle.farm_law.specs.Invariant.{IsTaken, IsKept, new_farm}
use Rattle.farm_law.specs.Lists.{Has}
use Rattle.farm_law.specs.Moves.{Move, sends, receives, loses, moves_on, answers, takes, sweeps, changes_terms, refuses, forwards}
use Rattle.farm_law.specs.Moves.{returns, forgets, orphans, drops, sends_again, gives_up, ends, Moves, done, next}
use Rattle.farm_law.specs.Parties.{Parties}
use Rattle.farm_law.proofs.Lists.{Has-last}
use Rattle.farm_law.proofs.Premises.{Premises}
use Rattle.farm_law.proofs.Answering.{identifiers}
use Rattle.farm_law.proofs.Keeping.{keep_ends, keep_refused, keep_takes, keep_sweeps, keep_changes, keep_loses, keep_moves_on, keep_answers, keep_receives, keep_sends}
use Rattle.farm_law.proofs.Relaying.{keep_forwards}
use Rattle.farm_law.proofs.Ending.{keep_orphans, keep_drops, keep_sends_again, keep_gives_up}
use Rattle.farm_law.proofs.Returning.{keep_forgets, keep_returns}

-- what a node has just refused is a refusal that it tells
refusal_told : (p : Parties) (book : Ledger) (refused : List Refused) (at : Refused) →
    Answers p book (refused ++ at ∷ []) at.node at.conn at.request (refusal_of (p.name_of at.node) p.realm at.request at.refusal)
refusal_told p book refused at = of_refusal at (by_itself, inr (refl, refl, refl)) same (Has-last at refused) refl

-- ---- each move

pub keep : (l : Premises) (p : Parties) {old new : Farm} → Move p old new → IsKept p old → IsKept p new
keep l p (sends conn to message client server wi) k = keep_sends p k conn to message client server wi
keep l p (receives wo client server at_end from_server) k = keep_receives p k wo client server at_end from_server
keep l p (loses left) k = keep_loses p k left
keep l p (moves_on wo wi) k = keep_moves_on p k wo wi
keep l p (answers {f = f} {item = item} answer wo e is_front a wi) k =
    let told : Answers p f.book f.refused item.to item.conn item.message answer = of_front item.to is_front by_itself a in
    keep_answers p k answer wo e (identifiers told) told wi
keep l p (takes moment request h e view new room) k = keep_takes p k l moment request h e view new room
keep l p (sweeps moment due room) k = keep_sweeps p k l moment due room
keep l p (changes_terms moment change sound room) k = keep_changes p k l moment change sound room
keep l p (refuses {f = f} {item = item} refusal wo e wi) k =
    let at : Refused = record { node = item.to; conn = item.conn; request = item.message; refusal = refusal } in
    let told = refusal_told p f.book f.refused at in
    keep_answers p (keep_refused p k (at ∷ [])) _ wo e (identifiers told) told wi
keep l p (forwards conn peer hop avps wo e splits spelled is_relay relay server free wi wr) k =
    keep_forwards p k conn peer hop avps wo e splits spelled relay server free wi wr
keep l p (returns {items = items} asker wo flag server is_relay linked live wr at_conn at_relay at_hop at_asker wi) k =
    keep_returns p wo flag server live wr at_conn at_relay at_hop k l asker items is_relay linked at_asker wi
keep l p (forgets wo flag server live wr at_conn at_relay at_hop) k = keep_forgets p wo flag server live wr at_conn at_relay at_hop k
keep l p (orphans o) k = keep_orphans p k o
keep l p (drops left) k = keep_drops p k left
keep l p (sends_again conn peer hop wr gone server free wi wn) k = keep_sends_again p k conn peer hop wr gone server free wi wn
keep l p (gives_up {f = f} {row = row} asker refusal wr gone at_asker is_relay wi) k =
    let at : Refused = record { node = row.relay; conn = row.conn; request = row.request; refusal = refusal } in
    let told = refusal_told p f.book f.refused at in
    keep_gives_up p (keep_refused p k (at ∷ [])) l asker _ wr gone at_asker is_relay (identifiers told) told wi
keep l p (ends has_ended more) k = keep_ends p k has_ended more

-- all of them, one after the other
pub moves_keep : (l : Premises) (p : Parties) (old new : Farm) → Moves p old new → IsKept p old → IsKept p new
moves_keep l p old new done k = k
moves_keep l p old new (next m ms) k = moves_keep l p _ new ms (keep l p m k)

-- an empty history is legal, so a farm in which nothing has happened keeps what farms keep
pub new_farm_kept : ((terms : Terms) → IsLegal terms []) → (p : Parties) (book : Ledger) → book.history ≡ [] → IsKept p (new_farm book)
new_farm_kept empty_is_legal p book e = record {
  clients = λ conn hop end k. omega arith;
  relays = λ conn node hop k live. omega arith;
  single = λ conn node hop. omega arith;
  sound = λ item h. elim h [ ];
  asked = λ row h. elim h [ ];
  owed = λ conn answer h. elim h [ ];
  to_servers = λ item h. elim h [ ];
  askers = λ row h. elim h [ ];
  requests = λ row h. elim h [ ];
  items_come = λ item h. elim h [ ];
  rows_come = λ row h. elim h [ ];
  taken = λ entry h. none_taken entry (subst (λ (entries : List Entry). Has entry entries) e h);
  legal = subst (λ (entries : List Entry). IsLegal book.terms entries) (sym e) (empty_is_legal book.terms);
  within = subst (λ (entries : List Entry). length entries ≤ book.limit) (sym e) (omega arith);
}
  where
    none_taken : (entry : Entry) → Has entry [] → IsTaken p [] entry
    none_taken entry h = elim h [ ]
