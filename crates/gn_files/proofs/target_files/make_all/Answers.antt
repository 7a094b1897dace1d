use Rattle.std.proofs.Common.{refl}
use Rattle.gn_basics.proofs.Results.{if_ok}
use Rattle.gn_out_files.specs.Files.{put_of}
use Rattle.gn_threads.proofs.Shown.{shown}
use Rattle.gn_files.specs.Making.{piece_of}
use Rattle.gn_files.proofs.target_files.make_all.Goals as goal

pub returns : goal.returns
returns g c = if_ok c.deal.result (λ all made. shown put_of piece_of _ c.args.pieces.now all.items refl made.0 made.1 (λ place y d within is. is d)) c.deal.ensures
