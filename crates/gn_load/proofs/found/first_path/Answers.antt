use Rattle.gn_book.specs.Keys.{key_of}
use Rattle.gn_load.proofs.FoundLemmas.{first_found}
use Rattle.gn_load.proofs.found.first_path.Goals as goal

pub returns : goal.returns
returns c = record { path = first_found c.args.driver.now (key_of c.args.key.now) c.requires.layer c.in_ok-needed.needed c.in_ok-needed.ensures c.unknown_need.result c.unknown_need.ensures }
