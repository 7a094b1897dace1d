use Rattle.std.proofs.Common.{◌≡◌, ap, ◌∙◌, sym, subst, List, Some, option_map, slice_get}
use Rattle.std.proofs.lemmas.Option.{slice_get-map, slice_get-get_or}
use Rattle.gn_outside.specs.States.{SourceRead}
use Rattle.gn_outside.specs.TreeSources.{read_view, reads_told}
use Rattle.gn_outside.specs.declared.tree_source.Asked.{Asked}
use Rattle.gn_outside.proofs.tree_source.TreeSource.read_path.Goals as goal

pub returns : goal.returns
returns c =
    let n = c.args.n in
    let found = c.in_ok-get.ensures.lookup in
    let there : slice_get c.deref.result.now n ≡ Some c.in_ok-get.field-0.now = slice_get-get_or c.deref.result.now n c.in_ok-get.field-0.now found.3.0 ∙ ap Some (sym found.1) in
    let here : slice_get c.args.self.now.reads.items n ≡ Some c.in_ok-get.field-0.now = subst (λ (reads : List Asked). slice_get reads n ≡ Some c.in_ok-get.field-0.now) c.deref.ensures.value there in
    ap Some c.as_str.ensures.value
    ∙ ap (λ found. option_map (λ (read : SourceRead). read.path) (option_map read_view found)) (sym here)
    ∙ sym
    (slice_get-map (λ (read : SourceRead). read.path) (reads_told c.args.self.now) n ∙ ap (option_map (λ (read : SourceRead). read.path)) (slice_get-map read_view c.args.self.now.reads.items n))
