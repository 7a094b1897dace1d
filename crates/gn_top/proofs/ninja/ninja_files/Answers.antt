use Rattle.std.proofs.Common.{sym, ◌∙◌, ap}
use Rattle.gn_basics.proofs.Results.{if_ok}
use Rattle.gn_toolchains.specs.Frames.{surroundings as given}
use Rattle.gn_toolchains.specs.Toolchains.{Surroundings}
use Rattle.gn_build_faults.specs.Labels.{fault_of_labels}
use Rattle.gn_build_faults.specs.Reaching.{targets_of}
use Rattle.gn_files.specs.Files.{files_of_build}
use Rattle.gn_top.specs.Files.{ninja_files}
use Rattle.gn_top.specs.GraphFaults.{graph_fault}
use Rattle.gn_top.specs.Views.{build_view}
use Rattle.gn_top.proofs.NinjaLemmas.{labels_faultless}
use Rattle.gn_top.proofs.ninja.ninja_files.Goals as goal

pub files_by-requires-clause-targets : goal.files_by-requires-clause-targets
files_by-requires-clause-targets g c = λ l lives.
    let build = c.args.build.now in
    let default = ap (λ (s : Surroundings). s.default) c.surroundings_of.ensures in
    build.reached ∙ sym (λ i. targets_of (default i) (build.indexed i) (c.generated.ensures i))

pub files_by-requires-clause-faultless : goal.files_by-requires-clause-faultless
files_by-requires-clause-faultless g c = λ l lives.
    let build = c.args.build.now in
    let s = given c.surroundings_of.result in
    let loaded = (build_view build.build.now).loaded in
    let same = ap (λ (x : Surroundings). graph_fault x loaded) c.surroundings_of.ensures in
    (λ i. fault_of_labels s (build.indexed i) (build.reached i)) ∙ labels_faultless s loaded (same ∙ build.faultless)

pub returns : goal.returns
unfolding ninja_files
returns g c =
    if_ok c.files_by.result
    (λ files is. is ∙ (λ i. files_of_build (c.surroundings_of.ensures i) ((c.args.build.now).indexed i) (c.generated.ensures i)))
    c.files_by.ensures
