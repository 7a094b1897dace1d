use Rattle.gn_paths.proofs.DirectoryLemmas.{directory_by}
use Rattle.gn_paths.proofs.directories.as_directory.Goals as goal

pub returns-clause-normal : goal.returns-clause-normal
returns-clause-normal c = (directory_by c.args.path.now c.left_or_root.result.now c.requires c.left_or_root.ensures).normal

pub returns-clause-form : goal.returns-clause-form
returns-clause-form c = (directory_by c.args.path.now c.left_or_root.result.now c.requires c.left_or_root.ensures).form
