use Rattle.std.proofs.Common.{◌≡◌, ℕ, List, Option, subst, ap, ◌∙◌}
use Rattle.std.specs.Result.{IfErr}
use Rattle.gn_values.specs.Val.{Val}
use Rattle.gn_environment.specs.Environment.{value_of}
use Rattle.gn_rows.specs.Tables.{rows_of}
use Rattle.gn_define.specs.Defining.{block_defines}
use Rattle.gn_define.specs.Faults.{IsItemFault}
use Rattle.gn_meaning.specs.Items.{context_here, fields_here}
use Rattle.gn_unit.proofs.defining.fields_here.Goals as goal

pub returns-clause-wrong : goal.returns-clause-wrong
returns-clause-wrong c =
    let values : List ℕ → Option Val = λ variable. value_of variable c.args.env.now in
    let here = context_here c.args.env.now.setting c.args.kind in
    let name = c.as_bytes.result.now in
    let same : block_defines c.in-Ok.context c.rows_of.result.now name values ≡ fields_here c.args.kind c.args.name.now c.args.env.now =
    ap (λ w. block_defines w c.rows_of.result.now name values) c.in-Ok.ensures
    ∙ ap (λ rows. block_defines here rows name values) c.rows_of.ensures
    ∙ ap (λ n. block_defines here (rows_of c.args.kind) n values) c.as_bytes.ensures in
    subst (λ made. IfErr c.define.result (λ e. IsItemFault e made)) same c.define.ensures.wrong
