use Rattle.gn_ninja.specs.Claims.{claims_of}
use Rattle.gn_file_laws.proofs.MadeOnce.{in_target, makers, outputs, all_left_sides}
use Rattle.gn_file_laws.proofs.laws.each_output_is_made_once.Goals as goal

pub returns-clause-in_target : goal.returns-clause-in_target
returns-clause-in_target c = in_target c.targets_have_their_dependencies.ensures.generated c.what_is_made_needs_no_dependency.ensures

pub returns-clause-makers : goal.returns-clause-makers
returns-clause-makers c = makers c.targets_have_their_dependencies.ensures.generated c.what_is_made_needs_no_dependency.ensures

pub returns-clause-outputs : goal.returns-clause-outputs
returns-clause-outputs c = outputs c.targets_have_their_dependencies.ensures.generated c.what_is_made_needs_no_dependency.ensures

pub returns-clause-left_sides : goal.returns-clause-left_sides
returns-clause-left_sides c =
    all_left_sides c.targets_have_their_dependencies.ensures.generated c.what_is_made_needs_no_dependency.ensures
    (λ taken claimants. c.each_name_stands_once.ensures taken (claims_of claimants)) (λ taken claimants. c.no_name_hides_an_output.ensures taken (claims_of claimants))
