-- The code's facts and rules, as the rules of loading have them.
use Rattle.std.specs.Prelude.{ℕ, List, [], ◌∷◌, ◌++◌, map}
use Rattle.std.specs.List.{flat_map}
use Rattle.gn_closure.specs.Closure.{Horn}
use Rattle.gn_closure.specs.Reach.{source_root, Unit_key, Setup, Load, label}
use Rattle.gn_closure.specs.Ground.{Step, Asked, Used, Defined, Set_up}
use Rattle.gn_closure.specs.Computed.{is_reached, is_wanted, is_generated}
use Rattle.gn_graph.specs.declared.unit_key.UnitKey.{UnitKey}
use Rattle.gn_graph.specs.declared.unit_key.UnitKey.TheVariants.{Setup as setup_key, Load as load_key}
use Rattle.gn_graph.specs.declared.fact.Fact.{Fact}
use Rattle.gn_graph.specs.declared.fact.Fact.TheVariants.{Reached, Wanted, Generated, Asked as asked, Used as used, Defined as defined, SetUp}
use Rattle.gn_graph.specs.declared.fact.Mention.{Mention}
use Rattle.gn_graph.specs.declared.fact.Mention.TheVariants.{Reached as at_unit, ReachedSetup, ReachedFirst, ReachedLoad, Wanted as at_wanted, Generated as at_generated}
use Rattle.gn_graph.specs.declared.fact.Mention.TheVariants.{Asked as at_asked, AskedFor, Used as at_used, Defined as at_defined, SetUp as at_set_up, SetUpFirst}
use Rattle.gn_graph.specs.declared.fact.Place.{Place}
use Rattle.gn_graph.specs.declared.fact.Place.TheVariants.{Dir, Home, Root}
use Rattle.gn_graph.specs.declared.rule.Needs.{Needs}
use Rattle.gn_graph.specs.declared.rule.Needs.TheVariants.{Nothing, One, Two, Three}
use Rattle.gn_graph.specs.declared.rule.Rule.{Rule}
use Rattle.gn_graph.specs.declared.rule.UnitRules.{UnitRules}
use Rattle.gn_graph.specs.declared.rule.UnitRules.TheVariants.{Plain, Under}
use Rattle.gn_graph.specs.Needs.{home}

abbrev pub unit_of : UnitKey → Unit_key
unit_of (setup_key toolchain) = Setup toolchain
unit_of (load_key dir toolchain) = Load dir toolchain

abbrev pub step_of : Fact → Step
step_of (Reached unit) = is_reached (unit_of unit)
step_of (Wanted dir toolchain) = is_wanted dir toolchain
step_of (Generated l) = is_generated l
step_of (asked l) = Asked l
step_of (used toolchain) = Used toolchain
step_of (defined toolchain) = Defined toolchain
step_of (SetUp toolchain) = Set_up toolchain

-- the directory that is named
abbrev pub place_of : Place → List ℕ
place_of (Dir dir) = dir.now
place_of (Home toolchain) = home toolchain.now
place_of Root = source_root

-- the fact that is named
abbrev pub meant : Mention → Step
meant (at_unit unit) = is_reached (unit_of unit.now)
meant (ReachedSetup toolchain) = is_reached (Setup toolchain.now)
meant ReachedFirst = is_reached (Setup [])
meant (ReachedLoad dir toolchain) = is_reached (Load (place_of dir) toolchain.now)
meant (at_wanted dir toolchain) = is_wanted (place_of dir) toolchain.now
meant (at_generated dir name toolchain) = is_generated (label dir.now name.now toolchain.now)
meant (at_asked l) = Asked l.now
meant (AskedFor dir name toolchain) = Asked (label dir.now name.now toolchain.now)
meant (at_used toolchain) = Used toolchain.now
meant (at_defined toolchain) = Defined toolchain.now
meant (at_set_up toolchain) = Set_up toolchain.now
meant SetUpFirst = Set_up []

-- the facts that a rule needs
abbrev pub needed : Needs → List Step
needed Nothing = []
needed (One a) = meant a ∷ []
needed (Two a b) = meant a ∷ meant b ∷ []
needed (Three a b c) = meant a ∷ meant b ∷ meant c ∷ []

abbrev pub horn_in : Rule → Horn Step
horn_in r = record { needs = needed r.needs; gives = meant r.gives }

abbrev pub rules_in : List Rule → List (Horn Step)
rules_in rs = map horn_in rs

-- the rule that needs also that the unit is reached
abbrev pub under : Unit_key → Horn Step → Horn Step
under unit h = record { needs = h.needs ++ is_reached unit ∷ []; gives = h.gives }

abbrev pub unit_horns : UnitRules → List (Horn Step)
unit_horns (Plain r) = horn_in r ∷ []
unit_horns (Under unit rs) = map (under (unit_of unit.now)) (rules_in rs.items)

abbrev pub unit_rules_in : List UnitRules → List (Horn Step)
unit_rules_in rs = flat_map unit_horns rs

abbrev pub steps_in : List Fact → List Step
steps_in facts = map step_of facts
