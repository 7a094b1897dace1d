use Rattle.std.proofs.Common.{◌≡◌, length, ap, ◌∙◌, arith, ◌<◌, get_or, List}
use Rattle.std.specs.Prelude.{slice_set}
use Rattle.gn_environment.specs.Layers.{LayerState}
use Rattle.gn_environment.specs.Chains.{all_read}
use Rattle.gn_scopes.proofs.ReadLayers.{all_first_read, length_first_read, one_more_read}
use Rattle.gn_scopes.proofs.scopes_templates.read_layers.Goals as goal

pub index_mut-requires : goal.index_mut-requires
index_mut-requires c =
    let same : length c.loop-i.layers.items ≡ length c.args.layers.now.items = ap length c.loop-i.invariant ∙ length_first_read c.loop-i.i c.args.layers.now.items in
    omega (arith, c.loop-i.layers.ok.0, c.args.layers.now.ok.0)

pub loop-i-preserved : goal.loop-i-preserved
loop-i-preserved c =
    let layers = c.args.layers.now in
    let i = c.loop-i.i in
    let within : i < length layers.items = omega (arith, layers.ok.0) in
    ap (slice_set c.loop-i.layers.items i) c.read_all.ensures ∙ ap (λ (ls : List LayerState). slice_set ls i (all_read c.index_mut.result.now)) c.loop-i.invariant ∙ one_more_read layers.items i c.index_mut.result.now within (c.index_mut.ensures.value ∙ ap (λ (ls : List LayerState). get_or ls i c.index_mut.result.now) c.loop-i.invariant)

pub returns : goal.returns
returns c =
    let layers = c.args.layers.now in
    c.loop-i.invariant ∙ all_first_read layers.items c.loop-i.i (omega (arith, layers.ok.0))
