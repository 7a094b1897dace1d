use Rattle.std.proofs.Common.{◌∙◌, ap, map}
use Rattle.gn_basics.proofs.Results.{if_ok}
use Rattle.gn_file_faults.specs.Faults.{file_fault}
use Rattle.gn_file_faults.specs.Writes.{execution_of}
use Rattle.gn_built.specs.Files.{files_of, paths_lent}
use Rattle.gn_toolchains.specs.Frames.{surroundings}
use Rattle.gn_top.specs.GraphFaults.{is_defined, execution_in, made_where, fault_of_files}
use Rattle.gn_top.proofs.graph_faults.fault_of_files.Goals as goal

pub returns : goal.returns
unfolding fault_of_files
returns c =
    let declarations = ap (λ ds. map (λ d. d.now) ds) c.as_slice-3.ensures.value ∙ c.in_ok-declarations.ensures in
    let written = c.in_ok-executions.ensures ∙ ap (λ ws. map execution_in (files_of ws)) c.as_slice.ensures.value ∙ ap (map execution_in) c.in_ok-written.ensures in
    let executions = ap (λ es. map execution_of es) c.as_slice-4.ensures.value ∙ written in
    let made =
    c.in_ok-made.ensures
    ∙ ap (λ es. made_where (surroundings c.args.surroundings) c.args.items.now (map execution_of es) c.generated.result.now) c.as_slice-2.ensures.value
    ∙ (λ i. made_where (surroundings c.args.surroundings) (c.requires.items i) (written i) (c.generated.ensures i)) in
    let imported = ap paths_lent c.as_slice-5.ensures.value ∙ c.in_ok-imported.ensures in
    let listed = c.items.ensures ∙ c.requires.items in
    let defined = c.is_defined-is_toolchain.ensures ∙ (λ i. is_defined (c.requires.default i) (listed i) (c.default_named-default.ensures i)) in
    if_ok c.fault_by.result
    (λ fault is. is ∙ (λ i. file_fault (record {
      declarations = declarations i;
      default = c.default_named-default.ensures i;
      is_toolchain = defined i;
      executions = executions i;
      made = made i;
      build = (surroundings c.args.surroundings).build;
      loaded = c.requires.loaded i;
      imported = imported i;
    })))
    c.fault_by.ensures
