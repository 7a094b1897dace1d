-- What the answers of units say they need, as the rules of loading have it; and the directory of the file that defines a toolchain.
use Rattle.std.specs.Prelude.{ℕ, List, [], ◌∷◌, ◌++◌, map, Option, Some, None}
use Rattle.std.specs.Str.{bytes_eq}
use Rattle.std.specs.List.{flat_map}
use Rattle.gn_labels.specs.declared.named.Named.{Named}
use Rattle.gn_labels.specs.Toolchains.{toolchain_named}
use Rattle.gn_closure.specs.Closure.{Horn}
use Rattle.gn_closure.specs.Reach.{source_root, Setup, Load, Target, Toolchain, Done}
use Rattle.gn_closure.specs.Ground.{Step, Defined, Set_up}
use Rattle.gn_closure.specs.Computed.{when, rule_of, is_wanted, is_reached, target_rules, tool_rules, root_rules}
use Rattle.gn_graph.specs.declared.needs.TargetNeeds.{TargetNeeds}
use Rattle.gn_graph.specs.declared.needs.ToolchainNeeds.{ToolchainNeeds}
use Rattle.gn_graph.specs.declared.needs.UnitNeeds.{UnitNeeds}

abbrev pub target_of : TargetNeeds → Target
target_of t = record { name = t.name; deps = t.deps.items; others = t.others.items }

abbrev pub toolchain_of : ToolchainNeeds → Toolchain
toolchain_of t = record { name = t.name; pools = t.pools.items }

abbrev pub done_of : UnitNeeds → Done
done_of u = record { default = u.default; targets = map target_of u.targets.items; toolchains = map toolchain_of u.toolchains.items }

abbrev pub dir_of : Option Named → List ℕ
dir_of None = source_root
dir_of (Some part) = part.dir

-- the directory of the file that defines a toolchain, by the text of its label; a text that is no label stands for the source root
unfoldable pub home : List ℕ → List ℕ
home toolchain = dir_of (toolchain_named toolchain)

-- parts of the rules that an answer gives: that a toolchain's file is wanted, and what follows once the toolchain is defined and set up
abbrev pub home_wanted : List ℕ → List ℕ → List ℕ → List ℕ → List (Horn Step)
home_wanted default own dir toolchain =
    rule_of (Set_up [] ∷ is_wanted dir toolchain ∷ []) (is_wanted own default)
    ∷ rule_of (Set_up [] ∷ is_wanted own default ∷ []) (is_reached (Load own default))
    ∷ []

abbrev pub set_up_first : List ℕ → List ℕ → List (Horn Step)
set_up_first dir toolchain =
    rule_of (Set_up [] ∷ is_wanted dir toolchain ∷ Defined toolchain ∷ []) (is_reached (Setup toolchain))
    ∷ rule_of (Set_up [] ∷ is_wanted dir toolchain ∷ Set_up toolchain ∷ []) (is_reached (Load dir toolchain))
    ∷ []

-- the rules of a build file and of a build configuration that are done
abbrev pub load_rules : List ℕ → List ℕ → List ℕ → Done → List (Horn Step)
load_rules default dir toolchain u =
    flat_map (target_rules home default dir toolchain) u.targets ++ tool_rules home default dir toolchain u.toolchains

abbrev pub setup_rules : List ℕ → List ℕ → List (Horn Step)
setup_rules default toolchain =
    rule_of [] (Set_up toolchain) ∷ when (bytes_eq toolchain []) (root_rules home default source_root ++ root_rules home default (home default))

abbrev pub done_in : Option UnitNeeds → Option Done
done_in None = None
done_in (Some u) = Some (done_of u)
