use Rattle.std.proofs.Common.{List, ℕ, ◌-◌, length, take, drop}
use Rattle.std.proofs.lemmas.List.{take_rest}
use Rattle.gn_paths.proofs.RebaseLemmas.{split_first}
use Rattle.gn_paths.proofs.rebasing.split_first.Goals as goal

pub returns-clause-value : goal.returns-clause-value
returns-clause-value c =
    let t : List ℕ = c.args.trail.now in
    let s = split_first t (take (length t - 1) (drop 1 t)) c.piece_len.result c.requires.trail c.requires.filled (take_rest t 1) c.piece_len.ensures.value c.piece_len.ensures.within in
    rw (c.split_at.ensures.front, c.split_at.ensures.back) s.value

pub returns-clause-more : goal.returns-clause-more
returns-clause-more c =
    let t : List ℕ = c.args.trail.now in
    let s = split_first t (take (length t - 1) (drop 1 t)) c.piece_len.result c.requires.trail c.requires.filled (take_rest t 1) c.piece_len.ensures.value c.piece_len.ensures.within in
    rw c.split_at.ensures.back s.more_trail
