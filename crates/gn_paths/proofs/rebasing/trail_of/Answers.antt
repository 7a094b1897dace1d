use Rattle.std.proofs.Common.{ap, ◌∙◌, length, drop}
use Rattle.std.proofs.lemmas.List.{take_rest}
use Rattle.gn_paths.specs.Components.{top_of}
use Rattle.gn_paths.proofs.PieceLemmas.{trail-components}
use Rattle.gn_paths.proofs.LedLemmas.{absolute-normal}
use Rattle.gn_paths.proofs.rebasing.trail_of.Goals as goal

pub returns : goal.returns
returns c =
    take_rest c.without_final_slash.result.now c.top_len.result ∙ ap (λ n. drop n c.without_final_slash.result.now) c.top_len.ensures ∙ ap (drop (length (top_of c.args.path.now))) c.without_final_slash.ensures ∙ trail-components c.args.path.now (absolute-normal c.args.path.now c.requires)
