-- The keys of terms in words of a site file, whose entries count from 1.
use Rattle.std.specs.Prelude.{ℕ, ◌+◌, List, ◌++◌, codes}
use Rattle.std.specs.Fmt.{decimal}
use Rattle.book_terms.specs.declared.key.TermsKey.{TermsKey}
use Rattle.book_terms.specs.declared.key.TermsKey.TheVariants as keys

abbrev pub words_of : TermsKey → List ℕ
words_of keys.Currency = codes "currency"
words_of keys.Exponent = codes "exponent"
words_of keys.Validity = codes "validity"
words_of (keys.Opening place) = codes "the opening of account " ++ decimal (place + 1)
