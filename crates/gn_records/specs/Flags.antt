-- The lists of a compiled target: its own, and those of the configurations applied to it, in their order.
use Rattle.std.specs.Prelude.{ℕ, List, [], ◌∷◌, ◌++◌, Bool, true, false, Option, None, Some, map, if◌then◌else◌}
use Rattle.std.specs.List.{fold, flat_map, list_any}
use Rattle.gn_text.specs.Names.{with_name}
use Rattle.gn_paths.specs.Components.{is_slash}
use Rattle.gn_paths.specs.Rebase.{seen_from}
use Rattle.gn_rows.specs.declared.variable.Variable.{Variable}
use Rattle.gn_rows.specs.declared.variable.Variable.TheVariants.{Asmflags, Cflags, CflagsC, CflagsCc, Defines, IncludeDirs, Ldflags, LibDirs, Libs, LibDirSwitch, LibSwitch}
use Rattle.gn_define.specs.declared.fields.Fields.{Fields}
use Rattle.gn_define.specs.Fields.{field_at, texts_of, paths_of}
use Rattle.gn_define.specs.Held.{Held}
use Rattle.gn_items.specs.declared.tool.Tool.{Tool}
use Rattle.gn_writing.specs.declared.records.CompileFlags.{CompileFlags}
use Rattle.gn_writing.specs.declared.records.LinkFlags.{LinkFlags}
use Rattle.gn_writing.specs.Outputs.{paths_meant}
use Rattle.gn_records.specs.declared.inherited.Inherited.{Inherited}

-- the strings of a variable, and its paths as seen from the build directory
abbrev pub texts_at : Variable → List (Variable × Held) → List (List ℕ)
texts_at v fields = texts_of (field_at fields v)

abbrev pub seen_at : List ℕ → Variable → List (Variable × Held) → List (List ℕ)
seen_at build v fields = map (seen_from build) (paths_of (field_at fields v))

-- those of an item, and then of the configurations applied to it
abbrev pub all_texts : Variable → List (Variable × Held) → List Fields → List (List ℕ)
all_texts v own configs = texts_at v own ++ flat_map (texts_at v) configs

abbrev pub all_seen_at : List ℕ → Variable → List (Variable × Held) → List Fields → List (List ℕ)
all_seen_at build v own configs = seen_at build v own ++ flat_map (seen_at build v) configs

-- what the compilers bind: flags in this order, and each directory of headers once
abbrev pub compile_flags : List ℕ → List (Variable × Held) → List Fields → CompileFlags
compile_flags build own configs = record {
  asmflags = all_texts Asmflags own configs;
  cflags = all_texts Cflags own configs;
  cflags_c = all_texts CflagsC own configs;
  cflags_cc = all_texts CflagsCc own configs;
  defines = all_texts Defines own configs;
  include_dirs = fold with_name [] (all_seen_at build IncludeDirs own configs);
}

-- the string of a variable of a tool; nothing where there is no tool, or it doesn't set it
abbrev pub first_or : List ℕ → List (List ℕ) → List ℕ
first_or other [] = other
first_or other (text ∷ more) = text

abbrev pub text_of_tool : Variable → Option Tool → List ℕ
text_of_tool v None = []
text_of_tool v (Some t) = first_or [] (texts_at v t.fields)

-- a library as words of a command: as a path where it holds a slash, and else behind the switch
abbrev pub lib_words : List ℕ → List ℕ → List ℕ → List (List ℕ)
lib_words build switch text = if list_any is_slash text then paths_meant build text else (switch ++ text) ∷ []

-- the directories of libraries, and the libraries: the target's and its configurations', then those of what it inherits, each once
abbrev pub lib_dirs_of : List ℕ → List (Variable × Held) → List Fields → Inherited → List (List ℕ)
lib_dirs_of build own configs h = fold with_name [] (all_seen_at build LibDirs own configs ++ h.lib_dirs)

abbrev pub libs_of : List (Variable × Held) → List Fields → Inherited → List (List ℕ)
libs_of own configs h = fold with_name [] (all_texts Libs own configs ++ h.libs)

-- what the linker binds
abbrev pub link_flags : List ℕ → Option Tool → List (Variable × Held) → List Fields → Inherited → LinkFlags
link_flags build tool own configs h = record {
  ldflags = all_texts Ldflags own configs ++ map (λ d. text_of_tool LibDirSwitch tool ++ d) (lib_dirs_of build own configs h);
  libs = flat_map (lib_words build (text_of_tool LibSwitch tool)) (libs_of own configs h);
  solibs = h.solibs;
}

-- only where something is linked
abbrev pub link_flags_where : Bool → List ℕ → Option Tool → List (Variable × Held) → List Fields → Inherited → LinkFlags
link_flags_where false build tool own configs h = record { ldflags = []; libs = []; solibs = [] }
link_flags_where true build tool own configs h = link_flags build tool own configs h
