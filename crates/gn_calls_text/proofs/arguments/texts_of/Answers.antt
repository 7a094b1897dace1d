use Rattle.std.proofs.Common.{arith}
use Rattle.std.proofs.lemmas.Grind.{common_steps}
use Rattle.gn_value_model.proofs.Items.{list_of-vals}
use Rattle.gn_calls_text.specs.Answers.{texts_in}
use Rattle.gn_calls_text.proofs.ArgumentLemmas.{all_texts, not_all_texts}
use Rattle.gn_calls_text.proofs.arguments.texts_of.Goals as goal

pub returns-then-are_texts-clause-ok : goal.returns-then-are_texts-clause-ok
unfolding texts_in
returns-then-are_texts-clause-ok c = grind (arith, common_steps, list_of-vals, all_texts)

pub returns-else-are_texts-clause-none : goal.returns-else-are_texts-clause-none
unfolding texts_in
returns-else-are_texts-clause-none c = grind (arith, common_steps, list_of-vals, not_all_texts)
