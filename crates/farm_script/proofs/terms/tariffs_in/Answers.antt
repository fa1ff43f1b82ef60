use Rattle.std.proofs.Common.{sym}
use Rattle.farm_script.proofs.TermsReading.{tariff_step}
use Rattle.farm_script.proofs.terms.tariffs_in.Goals as goal

pub loop-rest-preserved : goal.loop-rest-preserved
loop-rest-preserved c =
    tariff_step c.args.words.now c.loop-rest.rest.now c.loop-rest.tariffs.items c.push.new.self.items c.in_ok-tariff.tariff c.loop-rest.invariant
    c.in-len8-up.len_at_least (sym c.in_ok-tariff.ensures) c.in_ok-push.ensures.items
