use Rattle.std.proofs.Common.{◌≡◌, List, ◌∷◌, [], ◌++◌, ℕ, get_or, ap, ◌∙◌}
use Rattle.std.specs.Global.{Vec}
use Rattle.book_store.specs.Table.{octets_in}
use Rattle.book_copy.proofs.Copying.{leaves_all, one_more_waits}
use Rattle.book_copy.proofs.rows.copy_row.Goals as goal

pub returns-in_err-append_all-clause-crash : goal.returns-in_err-append_all-clause-crash
returns-in_err-append_all-clause-crash g c = λ clean copy_clean left leaves.
    let stored = g.B.RowStore.rows c.args.copy.now in
    let waiting = c.args.waiting.items in
    let row = get_or (g.A.RowStore.rows c.args.book.now) c.args.place [] in
    let octets = c.in_ok-octets.octets in
    let pushed : c.deref.result.now ≡ waiting ++ octets ∷ [] = c.deref.ensures.value ∙ c.in_ok-push.ensures.items in
    let more : stored ++ octets_in c.deref.result.now ≡ (stored ++ octets_in waiting) ++ row ∷ [] =
    ap (λ (xs : List (Vec ℕ)). stored ++ octets_in xs) pushed ∙ one_more_waits stored waiting octets row (c.in_ok-octets.ensures.octets clean) in
    leaves_all (g.B.RowStore.about c.args.copy.now) (stored ++ octets_in c.deref.result.now) ((stored ++ octets_in waiting) ++ row ∷ []) (g.B.RowStore.beside c.args.copy.now) left (g.B.RowStore.may_leave c.args.copy.now left) more (c.append_all.ensures.crash copy_clean left leaves)

pub returns-clause-crash : goal.returns-clause-crash
returns-clause-crash g c = λ clean copy_clean left leaves.
    let stored = g.B.RowStore.rows c.args.copy.now in
    let waiting = c.args.waiting.items in
    let row = get_or (g.A.RowStore.rows c.args.book.now) c.args.place [] in
    let octets = c.in_ok-octets.octets in
    let pushed : c.deref.result.now ≡ waiting ++ octets ∷ [] = c.deref.ensures.value ∙ c.in_ok-push.ensures.items in
    let more : stored ++ octets_in c.deref.result.now ≡ (stored ++ octets_in waiting) ++ row ∷ [] =
    ap (λ (xs : List (Vec ℕ)). stored ++ octets_in xs) pushed ∙ one_more_waits stored waiting octets row (c.in_ok-octets.ensures.octets clean) in
    leaves_all (g.B.RowStore.about c.args.copy.now) (stored ++ octets_in c.deref.result.now) ((stored ++ octets_in waiting) ++ row ∷ []) (g.B.RowStore.beside c.args.copy.now) left (g.B.RowStore.may_leave c.args.copy.now left) more (c.append_all.ensures.crash copy_clean left leaves)
