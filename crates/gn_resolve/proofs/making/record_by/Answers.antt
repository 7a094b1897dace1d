use Rattle.std.proofs.Common.{◌≡◌, ap, ◌∙◌}
use Rattle.std.proofs.lemmas.Result.{IfOk-weaker}
use Rattle.gn_writing.specs.declared.records.Dones.{Dones}
use Rattle.gn_records.specs.Around.{around, fields_of}
use Rattle.gn_records.specs.Records.{record_of}
use Rattle.gn_resolve.specs.Table.{dones_from}
use Rattle.gn_resolve.proofs.making.record_by.Goals as goal

pub returns : goal.returns
returns c =
    let a = around c.args.context.now in
    let fields = fields_of c.args.configs.now in
    let h = c.args.inherited.now in
    IfOk-weaker c.record_of.result (λ k. k ≡ record_of a c.args.item.now fields h c.in_ok-dones.dones c.args.hard.now)
    (λ k. k ≡ record_of a c.args.item.now fields h (dones_from c.args.graph.now.items c.args.graph.now.records c.args.target.now) c.args.hard.now)
    (λ k e. e ∙ ap (λ (z : Dones). record_of a c.args.item.now fields h z c.args.hard.now) c.in_ok-dones.ensures) c.record_of.ensures
