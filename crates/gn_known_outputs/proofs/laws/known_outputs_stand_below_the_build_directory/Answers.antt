use Rattle.gn_define.specs.Checking.{checked}
use Rattle.gn_known_outputs.proofs.TextLemmas.{field_below}
use Rattle.gn_known_outputs.proofs.RowLemmas.{outputs_below}
use Rattle.gn_known_outputs.proofs.laws.known_outputs_stand_below_the_build_directory.Goals as goal

pub returns : goal.returns
unfolding checked
returns c =
    outputs_below c.fields_are_of_the_block.ensures
    (λ w sources v held h. field_below _ _ w sources (λ text s t. c.outputs_stand_below_the_build_directory.ensures w sources text s t) v held h)
