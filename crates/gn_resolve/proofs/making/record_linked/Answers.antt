use Rattle.std.proofs.Common.{◌≡◌}
use Rattle.std.proofs.lemmas.Result.{IfOk-weaker}
use Rattle.gn_records.specs.Around.{around, fields_of}
use Rattle.gn_records.specs.Records.{record_of}
use Rattle.gn_resolve.specs.Table.{dones_from, IsLinked}
use Rattle.gn_resolve.proofs.making.record_linked.Goals as goal

pub returns : goal.returns
returns c =
    let a = around c.args.context.now in
    let fields = fields_of c.args.configs.now in
    let items = c.args.graph.now.items in
    let r = c.args.graph.now.records in
    let t = c.args.target.now in
    let h = c.in_ok-inherited.inherited in
    IfOk-weaker c.record_by-record.result (λ k. k ≡ record_of a c.args.item.now fields h (dones_from items r t) c.args.hard.now)
    (IsLinked a c.args.graph.now.default.now items r t fields c.args.hard.now c.args.item.now) (λ k e. record {
      inherited = h;
      taken = c.in_ok-inherited.ensures;
      is = e;
    }) c.record_by-record.ensures
