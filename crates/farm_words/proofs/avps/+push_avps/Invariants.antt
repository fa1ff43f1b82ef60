use Rattle.farm_words.proofs.avps.+push_avps.Given as goal

abbrev pub decreases-push_avps : goal.decreases-push_avps
decreases-push_avps l = l.levels
