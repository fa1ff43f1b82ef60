-- Of a recorder that is off, and of one that has told what was sent.
use Rattle.std.proofs.Common.{◌≡◌, Bool, true, false, List, ℕ, [], ◌∷◌, ◌++◌, Result, Ok, Err, codes, is_err, refl, sym, subst}
use Rattle.std.specs.Prelude.{MatchBool}
use Rattle.std.proofs.lemmas.List.{append-nil, append_assoc}
use Rattle.dia_base.specs.declared.number.ConnId.{ConnId}
use Rattle.dia_message.specs.declared.message.Message.{Message}
use Rattle.dia_message.specs.Traffic.{Traffic}
use Rattle.farm_node.specs.declared.error.NodeError.{NodeError}
use Rattle.farm_record.specs.Recording.{HasTold, Tells, TellsAll, passed_line, sent_word, takes, tells_more, tells_none}
use Rattle.farm_record.specs.declared.recorder.Recorder.{Recorder}
use Rattle.farm_connections.specs.Recording.{IsTakenBack, RecordsCome, RecordsReaction, StaysTold}

one_untold : (lines : List ℕ) (off : Recorder) → takes off ≡ false → Tells lines off off
one_untold lines off is = subst (λ (b : Bool). MatchBool b (HasTold lines off off) (off ≡ off)) (sym is) refl

untold_behind : (word : List ℕ) (off : Recorder) (done left : Traffic) → takes off ≡ false → TellsAll word off done off → TellsAll word off (done ++ left) off
untold_behind word off done [] is before = subst (λ (told : Traffic). TellsAll word off told off) (sym (append-nil done)) before
untold_behind word off done (item ∷ left) is before =
    subst (λ (told : Traffic). TellsAll word off told off) (append_assoc done (item ∷ []) left)
    (untold_behind word off (done ++ item ∷ []) left is
    (tells_more done off off item.0 item.1 before (one_untold (passed_line word item.0 item.1) off is)))

-- no message is told
pub all_untold : (word : List ℕ) (off : Recorder) (messages : Traffic) → takes off ≡ false → TellsAll word off messages off
all_untold word off messages is = untold_behind word off [] messages is tells_none

-- nothing is taken back
pub stays_off : (outcome : Result (Unit {0}) NodeError) (off : Recorder) → takes off ≡ false → StaysTold outcome off off
stays_off (Ok done) off is = refl
stays_off (Err error) off is = record { lines = λ on. absurd cc; off = λ none. refl; only = refl }

-- nothing is told of a message that comes
pub none_come : (conn : ConnId) (m : Message) (off : Recorder) → takes off ≡ false → RecordsCome conn m off off
none_come conn m off is = record { told = one_untold (passed_line (codes "deliver") conn m) off is; begins = λ on whole. absurd cc }

-- nor of what the node says to it
pub none_said : (outcome : Result (Unit {0}) NodeError) (sent : Traffic) (off : Recorder) → takes off ≡ false → RecordsReaction outcome sent off off
none_said outcome sent off is = record { mid = off; stays = stays_off outcome off is; sends = all_untold (sent_word off.is_client) off sent is }

-- ---- where it may be on

-- what was not taken is taken back
pub taken_back : (outcome : Result (Unit {0}) NodeError) (old new : Recorder) → is_err outcome ≡ true → IsTakenBack old new → StaysTold outcome old new
taken_back (Ok done) old new is back = absurd cc
taken_back (Err error) old new is back = back

pub stays_told : (outcome : Result (Unit {0}) NodeError) (old new : Recorder) → is_err outcome ≡ false → new ≡ old → StaysTold outcome old new
stays_told (Ok done) old new is same = same
stays_told (Err error) old new is same = absurd cc

-- what was told as sent, by the recorder that stands where all of it has gone out
pub sent_on : (old told new : Recorder) (sent : Traffic) → TellsAll (sent_word old.is_client) old sent told → new ≡ told → TellsAll (sent_word old.is_client) old sent new
sent_on old told new sent tells same = subst (λ (r : Recorder). TellsAll (sent_word old.is_client) old sent r) (sym same) tells
