use Rattle.book_rows.proofs.TermsPartsWritten.{tariff_added}
use Rattle.book_rows.proofs.tariffs.push_tariff.Goals as goal

pub returns : goal.returns
returns c =
    tariff_added c.args.value.now c.in_ok-push_optional_u32.ensures c.in_ok-push_optional_u32-2.ensures c.in_ok-push_kind.ensures c.in_ok-push_u64.ensures c.in_ok-push_u64-2.ensures c.in_ok-push_u64-3.ensures
    c.in_ok-push_u64-4.ensures
