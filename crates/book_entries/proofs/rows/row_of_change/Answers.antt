use Rattle.std.proofs.Common.{◌∙◌}
use Rattle.cc_book.specs.declared.entry.Entry.TheVariants.{ChangeTerms}
use Rattle.book_entries.proofs.Pushed.{change_is, rows_with}
use Rattle.book_entries.proofs.rows.row_of_change.Goals as goal

pub returns : goal.returns
returns c =
    record {
      rows = λ ledger at e.
          rows_with ledger.terms ledger.history (ChangeTerms c.args.moment c.args.change.now) c.args.before.0 c.in_ok-row.row e (c.in_ok-row.ensures.parts.0 ∙ at) c.in_ok-row.ensures.parts.1
          (c.in_ok-row.ensures.parts.2 ∙ change_is c.in_ok-change.ensures) c.in_ok-row.ensures.chains;
    }
