use Rattle.farm_model.proofs.laws.runs_keep_the_promise.Goals as goal

pub returns : goal.returns
returns c = λ site past trace checked is. c.sound_sites_keep_the_promise.ensures site past trace
    (record { sound_names = checked.sound_names; sound_links = checked.sound_links; sound_routes = checked.sound_routes }) is
