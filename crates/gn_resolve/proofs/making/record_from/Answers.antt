use Rattle.std.proofs.Common.{List, ℕ, Bor, ap, ◌∙◌}
use Rattle.std.proofs.lemmas.Result.{IfOk-weaker}
use Rattle.gn_define.specs.declared.fields.Fields.{Fields}
use Rattle.gn_records.specs.Around.{around, fields_of}
use Rattle.gn_records.specs.Records.{record_of}
use Rattle.gn_resolve.specs.Table.{dones_from, IsLinked, IsRecordOf}
use Rattle.gn_resolve.proofs.making.record_from.Goals as goal

pub returns : goal.returns
returns c =
    let a = around c.args.context.now in
    let item = c.args.item.now in
    let items = c.args.graph.now.items in
    let r = c.args.graph.now.records in
    let t = c.args.target.now in
    let fields = fields_of c.in_ok-configs.configs.items in
    IfOk-weaker c.record_linked.result (IsLinked a c.args.graph.now.default.now items r t (fields_of c.as_slice.result.now) c.in_ok-hard.hard item)
    (IsRecordOf a c.args.graph.now.default.now items r t c.args.hard.now item) (λ k is. record {
      configs = fields;
      inherited = is.inherited;
      applied = c.in_ok-configs.ensures;
      taken = is.taken;
      is =
          is.is ∙ ap (λ (z : List (Bor Fields)). record_of a item (fields_of z) is.inherited (dones_from items r t) c.in_ok-hard.hard) c.as_slice.ensures.value
          ∙ ap (λ (z : List (List ℕ)). record_of a item fields is.inherited (dones_from items r t) z) c.in_ok-hard.ensures;
    }) c.record_linked.ensures
