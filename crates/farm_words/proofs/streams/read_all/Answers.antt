use Rattle.std.proofs.Common.{rules, ◌≤◌, length}
use Rattle.farm_words.proofs.Limits.{all_is_read}
use Rattle.farm_words.proofs.streams.read_all.Goals as goal

pub returns-else-len-gt-TEXT_LIMIT-clause-all : goal.returns-else-len-gt-TEXT_LIMIT-clause-all
returns-else-len-gt-TEXT_LIMIT-clause-all g c =
    let short : length c.in_ok-text.text.items ≤ 16777216 = search rules in
    all_is_read (g.R.Read.remaining c.args.reader.now) c.in_ok-text.text.items c.in_ok-text.ensures.text short
