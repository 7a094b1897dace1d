use Rattle.std.proofs.Common.{rules}
use Rattle.gn_paths.proofs.NormalLemmas.{IsUtf8-path_text}
use Rattle.gn_paths.proofs.path.Path.as_str.Goals as goal

pub unwrap-requires : goal.unwrap-requires
unwrap-requires c = let u = IsUtf8-path_text _ c.self.invariant.text in search rules
