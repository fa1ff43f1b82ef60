-- A book that goes on from the one that was handed in.
use Rattle.std.proofs.Common.{◌≡◌, ℕ, ◌+◌, List, ◌++◌, cond, ap, ◌∙◌, arith}
use Rattle.std.proofs.lemmas.List.Sums.{sum_by-append}
use Rattle.cc_book.specs.declared.entry.Entry.{Entry}
use Rattle.cc_book.specs.Taking.{Ledger}
use Rattle.cc_shared.specs.Sharing.{HasGrown, is_take, takes_in}

takes_in-append : (xs ys : List Entry) → takes_in (xs ++ ys) ≡ takes_in xs + takes_in ys
takes_in-append xs ys = sum_by-append (λ (e : Entry). cond (is_take e) 1 0) xs ys

-- how many takes there are since is no matter of choice
pub same_takes : (opened book : Ledger) (one other : ℕ) → HasGrown opened book one → HasGrown opened book other → one ≡ other
same_takes opened book one other g h =
    let first : takes_in book.history ≡ takes_in opened.history + takes_in g.more = ap takes_in g.grown ∙ takes_in-append opened.history g.more in
    let second : takes_in book.history ≡ takes_in opened.history + takes_in h.more = ap takes_in h.grown ∙ takes_in-append opened.history h.more in
    omega (arith, first, second, g.takes, h.takes)
