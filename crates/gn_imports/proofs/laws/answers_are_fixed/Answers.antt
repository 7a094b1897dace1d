use Rattle.gn_imports.proofs.Final.{fixed, value_ends, unusable_leads}
use Rattle.gn_imports.proofs.laws.answers_are_fixed.Goals as goal

pub returns-clause-fixed : goal.returns-clause-fixed
returns-clause-fixed c = fixed

pub returns-clause-values : goal.returns-clause-values
returns-clause-values c = value_ends

pub returns-clause-unusable : goal.returns-clause-unusable
returns-clause-unusable c = unusable_leads
