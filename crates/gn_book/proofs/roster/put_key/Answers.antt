use Rattle.gn_book.proofs.Numbering.{key_behind}
use Rattle.gn_book.proofs.roster.put_key.Goals as goal

pub returns : goal.returns
returns c = key_behind c.args.keys.now.keys c.insert_full.new.self.keys c.args.key c.in-Ok.ensures.keys c.requires.is_new
