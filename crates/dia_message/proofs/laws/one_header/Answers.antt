use Rattle.std.proofs.Common.{◌≡◌, ◌++◌, ◌∙◌, ap, sym, ℕ, List, [], drop, arith}
use Rattle.dia_message.specs.Header.{header_in, length_in, header_octets}
use Rattle.dia_message.proofs.HeaderBack.{read_in-written, written_again}
use Rattle.dia_message.proofs.Only.{none_is}
use Rattle.std.proofs.lemmas.List.{length-drop}
use Rattle.dia_message.proofs.laws.one_header.Goals as goal

pub returns-clause-back : goal.returns-clause-back
returns-clause-back c = read_in-written

pub returns-clause-again : goal.returns-clause-again
returns-clause-again c = λ octets size all version.
    let none : drop 20 octets ≡ [] = none_is (drop 20 octets) (omega (arith, length-drop 20 octets)) in
    sym (ap (λ (o : List ℕ). header_octets (header_in octets) (length_in octets) ++ o) none) ∙ written_again octets (omega arith) all version
