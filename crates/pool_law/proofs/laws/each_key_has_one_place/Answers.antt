use Rattle.pool_law.proofs.Places.{fresh_at, keys_at, place_of_key}
use Rattle.pool_law.proofs.laws.each_key_has_one_place.Goals as goal

pub returns : goal.returns
returns c = record {
  places = λ terms history one other legal a b keys. place_of_key terms history legal one other a b keys;
  keys = λ terms history one other legal a b same. keys_at terms history legal one other a b same;
  fresh = λ terms history one other legal a b same first second. fresh_at terms history legal one other a b same first second;
}
