use Rattle.gn_dependencies.proofs.Firsts.{first_place}
use Rattle.gn_dependencies.proofs.laws.first_places_count.Goals as goal

pub returns : goal.returns
returns c = λ xs ys q h. first_place xs q ys h
