use Rattle.gn_meaning.proofs.SameBlocks.{bodies_dont_call}
use Rattle.gn_meaning.proofs.block_laws.bodies_never_call_their_templates.Goals as goal

pub returns : goal.returns
returns c = bodies_dont_call
