use Rattle.gn_meaning.proofs.KeptByBlocks.{blocks_keep, expressions_keep}
use Rattle.gn_meaning.proofs.block_laws.evaluations_leave_their_surroundings.Goals as goal

pub returns-clause-blocks : goal.returns-clause-blocks
returns-clause-blocks c = blocks_keep

pub returns-clause-expressions : goal.returns-clause-expressions
returns-clause-expressions c = expressions_keep
