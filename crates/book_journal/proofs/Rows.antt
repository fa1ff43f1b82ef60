-- What is stored of a book, and what waits.
use Rattle.std.proofs.Common.{◌≡◌, ℕ, List, [], ◌∷◌, ◌++◌, map, refl, sym, ap, subst, ◌∙◌, append_assoc, ◌⊎◌, inl, inr, option_map, false}
use Rattle.std.specs.Prelude.{IfSome, OnOk, Option, Some, None, Result, Ok, Err}
use Rattle.std.specs.Global.{Vec}
use Rattle.std.proofs.lemmas.List.{append-nil}
use Rattle.cc_book.specs.Taking.{Ledger}
use Rattle.book_entries.specs.Replayed.{stored_in, sum_in}
use Rattle.book_beside.specs.Beside.{Beside, written_all}
use Rattle.book_beside.specs.declared.write.Write.{Write}
use Rattle.book_store.specs.Table.{Stored, octets_in, stored_with}
use Rattle.book_journal.specs.declared.journal.NewRow.{NewRow}
use Rattle.book_journal.specs.declared.touched.Touched.{Touched}
use Rattle.book_journal.specs.Kept.{IsLeft, IsLeftBefore, IsNextIn, IsUnder, IsUntouched, Keeps, KeepsIn}
use Rattle.book_journal.specs.Tables.{standing, touched_of, IsBeside, IsGrown, IsSameBut}
use Rattle.book_journal.specs.declared.journal.Journal.{Journal}
use Rattle.book_beside.specs.declared.write.Side.{Side}
use Rattle.book_beside.specs.declared.write.Side.TheVariants.{Accounts, Sessions}
use Rattle.book_journal.specs.Tables.{is_touched, Has}
use Rattle.book_beside.specs.Beside.{placed, row_at, table_of}
use Rattle.book_journal.proofs.Elsewhere.{same_but_more, same_but_twice}

octets_in-push : (waiting : List (Vec ℕ)) (octets : Vec ℕ) → octets_in (waiting ++ octets ∷ []) ≡ octets_in waiting ++ octets.items ∷ []
octets_in-push [] octets = refl
octets_in-push (first ∷ waiting) octets = ap (λ (xs : List (List ℕ)). first.items ∷ xs) (octets_in-push waiting octets)

under_twice : (first before after : Ledger) → IsUnder first before → IsUnder before after → IsUnder first after
under_twice first before after one other = record { terms = other.terms ∙ one.terms; limit = other.limit ∙ one.limit }

module _ {S : Type 0} (is_clean is_ready : S → Type 0) (rows : S → List (List ℕ)) (beside : S → Beside) where
  -- more was touched
  pub kept_touched : (store : Option S) (waiting : List (Vec ℕ)) (old new : Touched) (sum : ℕ) (ledger : Ledger) → IsGrown old new → KeepsIn is_clean is_ready rows beside store waiting old sum ledger
      → KeepsIn is_clean is_ready rows beside store waiting new sum ledger
  kept_touched None waiting old new sum ledger grown kept = kept
  kept_touched (Some store) waiting old new sum ledger grown kept = record {
    ready = kept.ready;
    stored = kept.stored;
    last = kept.last;
    was = kept.was;
    was_stored = kept.was_stored;
    was_under = kept.was_under;
    stands = kept.stands;
    elsewhere = same_but_more old new kept.was ledger grown kept.elsewhere;
  }

  pub kept_same : (store : Option S) (waiting : List (Vec ℕ)) (touched : Touched) (sum : ℕ) (before after : Ledger) → KeepsIn is_clean is_ready rows beside store waiting touched sum before → IsNextIn store touched before after None
      → KeepsIn is_clean is_ready rows beside store waiting touched sum after
  kept_same None waiting touched sum before after kept next = kept
  kept_same (Some store) waiting touched sum before after kept next = record {
    ready = kept.ready;
    stored = λ clean. kept.stored clean ∙ sym next.0.0;
    last = kept.last ∙ sym next.0.1;
    was = kept.was;
    was_stored = kept.was_stored;
    was_under = under_twice kept.was before after kept.was_under next.1;
    stands = kept.stands;
    elsewhere = same_but_twice touched kept.was before after kept.elsewhere next.2;
  }

  pub kept_more : (store : Option S) (waiting : List (Vec ℕ)) (touched : Touched) (sum : ℕ) (before after : Ledger) (row : NewRow) → KeepsIn is_clean is_ready rows beside store waiting touched sum before
      → IsNextIn store touched before after (Some row) → KeepsIn is_clean is_ready rows beside store (waiting ++ row.octets ∷ []) touched row.sum.0 after
  kept_more None waiting touched sum before after row kept next = absurd (let none : Some row ≡ None = next in cc)
  kept_more (Some store) waiting touched sum before after row kept next = record {
    ready = kept.ready;
    stored = λ clean.
        ap (λ (xs : List (List ℕ)). rows store ++ xs) (octets_in-push waiting row.octets)
        ∙ sym (append_assoc (rows store) (octets_in waiting) (row.octets.items ∷ []))
        ∙ ap (λ (xs : List (List ℕ)). xs ++ row.octets.items ∷ []) (kept.stored clean)
        ∙ sym next.0.stored;
    last = next.0.last;
    was = kept.was;
    was_stored = kept.was_stored;
    was_under = under_twice kept.was before after kept.was_under next.1;
    stands = kept.stands;
    elsewhere = same_but_twice touched kept.was before after kept.elsewhere next.2;
  }

  -- all that waited is stored, and beside it what stands so
  pub kept_stored : (old new : S) (waiting : List (Vec ℕ)) (touched none : Touched) (sum : ℕ) (ledger : Ledger) → (is_clean new → is_clean old) → (is_clean new → is_ready new)
      → (is_clean new → rows new ≡ rows old ++ octets_in waiting)
      → (is_clean new → (was : Ledger) → IsBeside was (beside old) → IsSameBut touched was ledger → IsBeside ledger (beside new))
      → Keeps is_clean is_ready rows beside old waiting touched sum ledger → Keeps is_clean is_ready rows beside new [] none sum ledger
  kept_stored old new waiting touched none sum ledger before ready appended stands kept = record {
    ready = ready;
    stored = λ clean. append-nil (rows new) ∙ (appended clean ∙ kept.stored (before clean));
    last = kept.last;
    was = ledger;
    was_stored = λ clean. appended clean ∙ kept.stored (before clean);
    was_under = record { terms = refl; limit = refl };
    stands = λ clean. stands clean kept.was (kept.stands (before clean)) kept.elsewhere;
    elsewhere = λ side place not_there. refl;
  }

  pub kept_stored_in : (o : Option S) (old new : S) (waiting left : List (Vec ℕ)) (touched none : Touched) (sum : ℕ) (ledger : Ledger) → o ≡ Some old → left ≡ [] → (is_clean new → is_clean old) → (is_clean new → is_ready new)
      → (is_clean new → rows new ≡ rows old ++ octets_in waiting)
      → (is_clean new → (was : Ledger) → IsBeside was (beside old) → IsSameBut touched was ledger → IsBeside ledger (beside new))
      → KeepsIn is_clean is_ready rows beside o waiting touched sum ledger → KeepsIn is_clean is_ready rows beside (Some new) left none sum ledger
  kept_stored_in o old new waiting left touched none sum ledger is empty before ready appended stands kept =
      let keeps : Keeps is_clean is_ready rows beside old waiting touched sum ledger = subst (λ (p : Option S). KeepsIn is_clean is_ready rows beside p waiting touched sum ledger) is kept in
      subst (λ (w : List (Vec ℕ)). Keeps is_clean is_ready rows beside new w none sum ledger) (sym empty) (kept_stored old new waiting touched none sum ledger before ready appended stands keeps)

  pub kept_nowhere : (o : Option S) (waiting left : List (Vec ℕ)) (touched none : Touched) (sum : ℕ) (ledger : Ledger) → o ≡ None → left ≡ [] → KeepsIn is_clean is_ready rows beside o waiting touched sum ledger → KeepsIn is_clean is_ready rows beside o left none sum ledger
  kept_nowhere None waiting left touched none sum ledger is empty kept = empty
  kept_nowhere (Some s) waiting left touched none sum ledger is empty kept = absurd cc

  pub crash_in : (may_leave : S → Stored → Type 0) (about : S → List ℕ) (o : Option S) (old new : S) (waiting : List (Vec ℕ)) (touched : Touched) (sum : ℕ) (ledger : Ledger) → o ≡ Some old → (is_clean new → is_clean old)
      → (is_clean new → (left : Stored) → may_leave new left → (was : Ledger) → IsBeside was (beside old) → IsSameBut touched was ledger → rows old ++ octets_in waiting ≡ stored_in ledger
      → (left ≡ stored_with (about old) (rows old) (beside old)) ⊎ IsLeft (about old) ledger left)
      → KeepsIn is_clean is_ready rows beside o waiting touched sum ledger → is_clean new → (left : Stored) → may_leave new left
      → IfSome o (λ was. (left ≡ stored_with (about was) (rows was) (beside was)) ⊎ IsLeft (about was) ledger left)
  crash_in may_leave about o old new waiting touched sum ledger is before crash kept = λ clean left leaves.
      let keeps : Keeps is_clean is_ready rows beside old waiting touched sum ledger = subst (λ (p : Option S). KeepsIn is_clean is_ready rows beside p waiting touched sum ledger) is kept in
      subst (λ (p : Option S). IfSome p (λ was. (left ≡ stored_with (about was) (rows was) (beside was)) ⊎ IsLeft (about was) ledger left)) (sym is)
      (crash clean left leaves keeps.was (keeps.stands (before clean)) keeps.elsewhere (keeps.stored (before clean)))

  -- what an opening has found
  pub kept_opened : (store : S) (waiting : List (Vec ℕ)) (touched : Touched) (sum : ℕ) (ledger : Ledger) → waiting ≡ [] → (is_clean store → is_ready store) → (is_clean store → rows store ≡ stored_in ledger) → sum ≡ sum_in ledger
      → (is_clean store → IsBeside ledger (beside store)) → Keeps is_clean is_ready rows beside store waiting touched sum ledger
  kept_opened store waiting touched sum ledger none ready stored last stands = record {
    ready = ready;
    stored = λ clean. ap (λ (w : List (Vec ℕ)). rows store ++ octets_in w) none ∙ append-nil (rows store) ∙ stored clean;
    last = last;
    was = ledger;
    was_stored = stored;
    was_under = record { terms = refl; limit = refl };
    stands = stands;
    elsewhere = λ side place not_there. refl;
  }

  -- ---- what a crash leaves

  -- where nothing was touched, the same stands beside the rows of both
  same_beside : (touched : Touched) (was now : Ledger) (there : Beside) → IsUntouched touched → IsSameBut touched was now → IsBeside was there → IsBeside now there
  same_beside touched was now there none same stands side = record {
    at = λ place. (stands side).at place ∙ ap (option_map (placed place)) (sym (same side place (not_there side place)));
    low = (stands side).low;
  }
    where
      not_there : (side : Side) (place : ℕ) → is_touched place (touched_of side touched) ≡ false
      not_there Accounts place = ap (is_touched place) none.accounts
      not_there Sessions place = ap (is_touched place) none.sessions

  pub stands_at_rest : (store : S) (waiting : List (Vec ℕ)) (touched : Touched) (sum : ℕ) (ledger : Ledger) → IsUntouched touched → Keeps is_clean is_ready rows beside store waiting touched sum ledger → is_clean store
      → IsBeside ledger (beside store)
  stands_at_rest store waiting touched sum ledger none kept clean = same_beside touched kept.was ledger (beside store) none kept.elsewhere (kept.stands clean)

  pub left_at_rest : (about : List ℕ) (store : S) (waiting : List (Vec ℕ)) (touched : Touched) (sum : ℕ) (ledger : Ledger) (left : Stored) → waiting ≡ [] → IsUntouched touched → Keeps is_clean is_ready rows beside store waiting touched sum ledger
      → is_clean store → left ≡ stored_with about (rows store) (beside store) → IsLeft about ledger left
  left_at_rest about store waiting touched sum ledger left nothing none kept clean is = record {
    beside = beside store;
    is = is ∙ ap (λ (r : List (List ℕ)). stored_with about r (beside store))
        (sym (append-nil (rows store)) ∙ ap (λ (w : List (Vec ℕ)). rows store ++ octets_in w) (sym nothing) ∙ kept.stored clean);
    stands = stands_at_rest store waiting touched sum ledger none kept clean;
  }

  pub left_while_waiting : (about : List ℕ) (store : S) (waiting : List (Vec ℕ)) (touched : Touched) (sum : ℕ) (ledger : Ledger) (left : Stored) → Keeps is_clean is_ready rows beside store waiting touched sum ledger
      → is_clean store → left ≡ stored_with about (rows store) (beside store) → IsLeftBefore about ledger left
  left_while_waiting about store waiting touched sum ledger left kept clean is = record {
    was = kept.was;
    under = kept.was_under;
    is_left = record {
      beside = beside store;
      is = is ∙ ap (λ (r : List (List ℕ)). stored_with about r (beside store)) (kept.was_stored clean);
      stands = kept.stands clean;
    };
  }

-- a crash leaves what was stored, or that with all that waited, and beside it what stands so
pub left_of_all : (about : List ℕ) (rows waiting : List (List ℕ)) (there after : Beside) (ledger : Ledger) (left : Stored) → rows ++ waiting ≡ stored_in ledger → IsBeside ledger after
    → (left ≡ stored_with about rows there) ⊎ (left ≡ stored_with about (rows ++ waiting) after) → (left ≡ stored_with about rows there) ⊎ IsLeft about ledger left
left_of_all about rows waiting there after ledger left e stands (inl same) = inl same
left_of_all about rows waiting there after ledger left e stands (inr whole) =
    inr (record { beside = after; is = whole ∙ ap (λ (r : List (List ℕ)). stored_with about r after) e; stands = stands })

pub on_ok : {T E : Type 0} (r : Result T E) (P Q : Type 0) → (P → Q) → OnOk r P → OnOk r Q
on_ok (Ok x) P Q f h = f h
on_ok (Err e) P Q f h = tt

pub on_ok3 : {T E : Type 0} (r : Result T E) (A B C D : Type 0) → (A → B → C → D) → OnOk r A → OnOk r B → OnOk r C → OnOk r D
on_ok3 (Ok x) A B C D f a b c = f a b c
on_ok3 (Err e) A B C D f a b c = tt

pub stands_written : (ledger : Ledger) (now old : Beside) (seen writes : List Write) → now ≡ written_all old seen → seen ≡ writes → IsBeside ledger (written_all old writes) → IsBeside ledger now
stands_written ledger now old seen writes is same stands = let P : Beside → Type 0 = λ b. IsBeside ledger b in subst P (sym (is ∙ ap (written_all old) same)) stands
