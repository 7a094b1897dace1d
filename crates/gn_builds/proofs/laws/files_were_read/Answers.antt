use Rattle.gn_builds.proofs.Own.{files_were_read}
use Rattle.gn_builds.proofs.laws.files_were_read.Goals as goal

pub returns : goal.returns
returns c = files_were_read
