use Rattle.front_pool.proofs.Charges.{fresh_is_charged, repeat_is_charged}
use Rattle.front_pool.proofs.laws.fresh_receipts_are_charges.Goals as goal

pub returns : goal.returns
returns c = record {
  fresh = λ site shared ledger finished receipt legal within answered is fits fresh.
      fresh_is_charged site shared ledger finished.request finished.answer finished.receipt receipt legal within answered is fits fresh;
  repeated = λ site shared ledger moment finished receipt legal answered is fits.
      repeat_is_charged site shared ledger moment finished.request finished.answer finished.receipt receipt legal answered is fits;
}
