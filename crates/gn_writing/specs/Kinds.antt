-- What stands in the file of each kind of target, and in that of a toolchain: its blocks.
use Rattle.std.specs.Prelude.{ℕ, List, [], ◌∷◌, ◌++◌, codes, map}
use Rattle.std.specs.List.{flat_map}
use Rattle.gn_writing.specs.declared.records.Step.{Step}
use Rattle.gn_writing.specs.declared.records.Group.{Group}
use Rattle.gn_writing.specs.declared.records.Copied.{Copied}
use Rattle.gn_writing.specs.declared.records.CopyTarget.{CopyTarget}
use Rattle.gn_writing.specs.declared.records.Run.{Run}
use Rattle.gn_writing.specs.declared.records.Action.{Action}
use Rattle.gn_writing.specs.declared.records.Unit.{Unit as Source}
use Rattle.gn_writing.specs.declared.records.Compiled.{Compiled}
use Rattle.gn_writing.specs.declared.records.Tool.{Tool}
use Rattle.gn_writing.specs.declared.records.Written.{Written}
use Rattle.gn_writing.specs.declared.records.Written.TheVariants as target
use Rattle.gn_writing.specs.Lines.{plain, command_words, written, Line, a_build, a_rule, a_binding, an_indented, a_subninja, plain_if, fixed_if, words_if, written_if}

-- `build OUTS: RULE INS || ORDER`, where a tool makes one thing of others
abbrev pub step_block : Step → List (List ℕ) → List (List ℕ) → List Line
step_block s ins order = a_build (record { outs = s.outs; rule = s.rule; ins = ins; implicit = []; order = order }) ∷ []

-- a group: `build STAMP: stamp DONES || DATADONES`
abbrev pub group_blocks : Group → List (List Line)
group_blocks g = step_block g.stamp g.dones.deps g.dones.data_deps ∷ []

-- a file that is copied: `build OUT: copy SOURCE || DONES`
abbrev pub copied_block : CopyTarget → Copied → List Line
copied_block c f = a_build (record { outs = f.outs; rule = c.rule; ins = f.source ∷ []; implicit = []; order = c.dones.deps }) ∷ []

abbrev pub copied_outs : Copied → List (List ℕ)
copied_outs f = f.outs

-- a copy: its files, then `build STAMP: stamp OUTS || DATADONES`
abbrev pub copy_blocks : CopyTarget → List (List Line)
copy_blocks c = map (copied_block c) c.files ++ step_block c.stamp (flat_map copied_outs c.files) c.dones.data_deps ∷ []

-- the rule of an action
abbrev pub action_rule : Action → List Line
action_rule a =
    a_rule a.rule.name
    ∷ an_indented (codes "command") (written a.rule.command)
    ∷ an_indented (codes "description") (written a.rule.description)
    ∷ an_indented (codes "pool") (written_if a.rule.pool)
    ∷ an_indented (codes "restat") (plain (codes "1"))
    ∷ []

-- a run: `build OUTS: MANGLED SOURCE | SCRIPT INPUTS SOURCES || DONES`
abbrev pub run_block : Action → Run → List Line
run_block a r =
    a_build (record { outs = r.outs; rule = a.rule.name; ins = r.ins; implicit = a.script ∷ a.inputs ++ r.sources; order = a.dones.deps })
    ∷ an_indented (codes "args") (command_words [] r.args)
    ∷ an_indented (codes "depfile") (plain_if r.depfile)
    ∷ an_indented (codes "deps") (fixed_if (codes "gcc") r.depfile)
    ∷ an_indented (codes "rspfile") (plain_if r.response_file)
    ∷ an_indented (codes "rspfile_content") (words_if r.response)
    ∷ []

abbrev pub run_outs : Run → List (List ℕ)
run_outs r = r.outs

-- an action: its rule, its runs, then `build STAMP: stamp OUTS || DATADONES`
abbrev pub action_blocks : Action → List (List Line)
action_blocks a =
    action_rule a ∷ map (run_block a) a.runs ++ step_block a.stamp (flat_map run_outs a.runs) a.dones.data_deps ∷ []

-- the bindings of a compiled target, by their names
abbrev pub compiled_bindings : Compiled → List Line
compiled_bindings c =
    a_binding (codes "asmflags") (command_words [] c.compile.asmflags)
    ∷ a_binding (codes "cflags") (command_words [] c.compile.cflags)
    ∷ a_binding (codes "cflags_c") (command_words [] c.compile.cflags_c)
    ∷ a_binding (codes "cflags_cc") (command_words [] c.compile.cflags_cc)
    ∷ a_binding (codes "defines") (command_words (codes "-D") c.compile.defines)
    ∷ a_binding (codes "include_dirs") (command_words (codes "-I") c.compile.include_dirs)
    ∷ a_binding (codes "label") (plain c.names.label)
    ∷ a_binding (codes "label_name") (plain c.names.name)
    ∷ a_binding (codes "label_no_toolchain") (plain_if c.names.no_toolchain)
    ∷ a_binding (codes "ldflags") (command_words [] c.link.ldflags)
    ∷ a_binding (codes "libs") (command_words [] c.link.libs)
    ∷ a_binding (codes "output_dir") (plain c.output.directory)
    ∷ a_binding (codes "output_extension") (plain c.output.extension)
    ∷ a_binding (codes "root_gen_dir") (plain_if c.directories.root_gen_dir)
    ∷ a_binding (codes "root_out_dir") (plain c.directories.root_out_dir)
    ∷ a_binding (codes "solibs") (command_words [] c.link.solibs)
    ∷ a_binding (codes "target_gen_dir") (plain_if c.directories.target_gen_dir)
    ∷ a_binding (codes "target_out_dir") (plain c.directories.target_out_dir)
    ∷ a_binding (codes "target_output_name") (plain c.output.name)
    ∷ []

-- a source: `build OBJECTS: TOOL SOURCE | INPUTS || HARD`
abbrev pub source_block : Compiled → Source → List Line
source_block c s =
    a_build (record { outs = s.outs; rule = s.rule; ins = s.source ∷ []; implicit = c.sources.inputs; order = c.sources.hard })
    ∷ an_indented (codes "source_file_part") (plain s.file_part)
    ∷ an_indented (codes "source_name_part") (plain s.name_part)
    ∷ []

abbrev pub source_outs : Source → List (List ℕ)
source_outs s = s.outs

-- the last line: `build OUTS: TOOL OBJECTS SETOBJECTS STATICS | SHARED || REST`
abbrev pub last_block : Compiled → List Line
last_block c =
    a_build (record { outs = c.join.step.outs; rule = c.join.step.rule; ins = c.sources.objects ++ c.join.set_objects ++ c.join.statics; implicit = c.join.shared; order = c.join.rest }) ∷ []

-- a compiled target: its bindings, its sources, its last line
unfoldable pub compiled_blocks : Compiled → List (List Line)
compiled_blocks c = compiled_bindings c ∷ map (source_block c) c.sources.units ++ last_block c ∷ []

-- the file of a target
abbrev pub target_blocks : Written → List (List Line)
target_blocks (target.Group g) = group_blocks g
target_blocks (target.Copy c) = copy_blocks c
target_blocks (target.Action a) = action_blocks a
target_blocks (target.Compiled c) = compiled_blocks c

-- the rule of a tool
abbrev pub tool_block : Tool → List Line
tool_block t =
    a_rule t.rule
    ∷ an_indented (codes "command") (written_if t.command)
    ∷ an_indented (codes "depfile") (written_if t.depfile)
    ∷ an_indented (codes "deps") (written_if t.depsformat)
    ∷ an_indented (codes "description") (written_if t.description)
    ∷ an_indented (codes "pool") (written_if t.pool)
    ∷ an_indented (codes "restat") (written_if t.restat)
    ∷ an_indented (codes "rspfile") (written_if t.rspfile)
    ∷ an_indented (codes "rspfile_content") (written_if t.rspfile_content)
    ∷ []

-- toolchain.ninja: its tools, and the files of its targets
abbrev pub toolchain_blocks : List Tool → List (List ℕ) → List (List Line)
toolchain_blocks tools files = map tool_block tools ++ map (λ file. a_subninja file) files ∷ []
