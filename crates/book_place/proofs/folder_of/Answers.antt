use Rattle.std.proofs.Common.{◌≡◌, ℕ, suc, ◌+◌, ◌-◌, take, ap, arith, ◌∙◌}
use Rattle.std.proofs.lemmas.Str.Pattern.{rfind_char}
use Rattle.book_place.proofs.Folders.{folder_to, no_folder}
use Rattle.book_place.proofs.folder_of.Goals as goal

pub returns-in-Some : goal.returns-in-Some
returns-in-Some c =
    let path = c.args.path.now in
    let parts = rfind_char 47 path c.rfind.result c.rfind.ensures.cases (omega arith) in
    let here = rw c.in-Some.is at parts in
    let long : c.in-Some.at + 1 - 0 ≡ suc c.in-Some.at = omega arith in
    c.range.ensures.value ∙ ap (λ (n : ℕ). take n path) long ∙ folder_to path c.in-Some.at here.0 here.1 here.2

pub returns-in-None : goal.returns-in-None
returns-in-None c =
    let path = c.args.path.now in
    let parts = rfind_char 47 path c.rfind.result c.rfind.ensures.cases (omega arith) in
    let none = rw c.in-None.is at parts in
    no_folder path none
