use Rattle.std.proofs.Common.{◌≡◌, ℕ, List, [], ◌∷◌, ◌++◌, Option, ap, ◌∙◌}
use Rattle.std.proofs.lemmas.Result.{on_ok_weaker}
use Rattle.gn_records.specs.declared.records.Record.{Record}
use Rattle.gn_resolve.specs.Table.{known_in, exports_known}
use Rattle.gn_resolve.proofs.dones.add_done.Goals as goal

pub returns : goal.returns
returns c =
    let e : c.in_ok-done.done ≡ (exports_known (known_in c.args.records.now c.args.label.now)).done = c.in_ok-done.ensures ∙ ap (λ (k : Option Record). (exports_known k).done) c.get.ensures in
    on_ok_weaker c.push.result (λ k. k ∙ ap (λ (z : List ℕ). c.args.out.now ++ z ∷ []) e) c.push.ensures.ok
