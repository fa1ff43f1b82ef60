-- Runs that go on by one event.
use Rattle.std.proofs.Common.{◌≡◌, List, [], ◌∷◌, ◌++◌, sym, ap, ◌∙◌, refl}
use Rattle.std.specs.Prelude.{map}
use Rattle.std.proofs.lemmas.List.{map-append}
use Rattle.std.proofs.lemmas.List.Sums.{fold-append}
use Rattle.dia_message.specs.declared.message.Out.{Out}
use Rattle.cc_book.specs.Taking.{Ledger}
use Rattle.front_core.specs.declared.event.FrontEvent.{FrontEvent}
use Rattle.front_core.specs.declared.site.FrontSite.{FrontSite}
use Rattle.front_core.specs.FrontRun.{FrontRun, Turn, after_event, new_run, run_with, run_of}
use Rattle.front_core.specs.FrontState.{FrontState, new_front}
use Rattle.dia_message.specs.Traffic.{Traffic}

pub run_of-nil : (site : FrontSite) (book : Ledger) → run_of site book [] ≡ new_run site book
unfolding run_of
run_of-nil site book = refl

pub run_of-push : (site : FrontSite) (book : Ledger) (past : List FrontEvent) (event : FrontEvent) → run_of site book (past ++ event ∷ []) ≡ run_with (run_of site book past) event
unfolding run_of
run_of-push site book past event = fold-append run_with (new_run site book) past (event ∷ [])

-- ---- what code holds of a run

abbrev pub items_of : Out → Traffic
items_of out = out.items

abbrev pub run_at : FrontState → Ledger → List Traffic → FrontRun
run_at front ledger sent = record { front = front; ledger = ledger; sent = sent }

pub run_of-first : (site : FrontSite) (book : Ledger) (front : FrontState) (outs : List Out) → front ≡ new_front site → outs ≡ [] → run_of site book [] ≡ run_at front book (map items_of outs)
run_of-first site book front outs f o = run_of-nil site book ∙ (ap (λ (x : FrontState). run_at x book []) (sym f) ∙ ap (λ (x : List Out). run_at front book (map items_of x)) (sym o))

pub run_of-next : (site : FrontSite) (book : Ledger) (past : List FrontEvent) (event : FrontEvent) (front next_front : FrontState) (ledger next_ledger : Ledger) (outs : List Out) (out : Out) → run_of site book past ≡ run_at front ledger (map items_of outs)
    → next_front ≡ (after_event front ledger event).front → next_ledger ≡ (after_event front ledger event).ledger → out.items ≡ (after_event front ledger event).sent
    → run_of site book (past ++ event ∷ []) ≡ run_at next_front next_ledger (map items_of (outs ++ out ∷ []))
run_of-next site book past event front next_front ledger next_ledger outs out e f l s =
    let turn : Turn = after_event front ledger event in
    let all : List Traffic = map items_of outs in
    run_of-push site book past event
    ∙ (ap (λ (run : FrontRun). run_with run event) e
    ∙ (ap (λ (x : FrontState). run_at x turn.ledger (all ++ turn.sent ∷ [])) (sym f)
    ∙ (ap (λ (x : Ledger). run_at next_front x (all ++ turn.sent ∷ [])) (sym l)
    ∙ (ap (λ (x : Traffic). run_at next_front next_ledger (all ++ x ∷ [])) (sym s)
    ∙ ap (λ (x : List Traffic). run_at next_front next_ledger x) (sym (map-append items_of outs (out ∷ [])))))))
