use Rattle.gn_calls_path.proofs.LawLemmas.{infos_alone}
use Rattle.gn_calls_path.proofs.laws.a_list_of_paths_is_told_one_by_one.Goals as goal

pub returns : goal.returns
returns c = infos_alone c.texts_of_strings_are_the_texts.ensures
