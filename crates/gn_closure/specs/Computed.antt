-- Reached and generated, computed: the rules that the answer of each unit gives.
use Rattle.std.specs.Prelude.{ℕ, ◌+◌, suc, List, [], ◌∷◌, ◌++◌, Option, Some, None, Bool, true, false, not, ◌&&◌}
use Rattle.std.specs.Str.{bytes_eq}
use Rattle.std.specs.List.{flat_map}
use Rattle.std.specs.Set.{is_member}
use Rattle.gn_labels.specs.declared.label.Label.{Label}
use Rattle.gn_closure.specs.Closure.{Horn, System, facts, opened}
use Rattle.gn_closure.specs.Laws.{exceeds}
use Rattle.gn_closure.specs.Reach.{source_root, Unit_key, Setup, Load, Target, Toolchain, Done, Units, Fact, Is_reached, Is_wanted, Is_generated, label, needed}
use Rattle.gn_closure.specs.Ground.{Step, Holding, Asked, Used, Defined, Set_up}

abbrev pub when : {A : Type 0} → Bool → List A → List A
when true xs = xs
when false xs = []

abbrev pub rule_of : List Step → Step → Horn Step
rule_of needs gives = record { needs = needs; gives = gives }

abbrev pub is_wanted : List ℕ → List ℕ → Step
is_wanted dir toolchain = Holding (Is_wanted dir toolchain)

abbrev pub is_reached : Unit_key → Step
is_reached unit = Holding (Is_reached unit)

abbrev pub is_generated : Label → Step
is_generated l = Holding (Is_generated l)

-- what follows for a directory and a toolchain that some answer wants
abbrev pub default_rules : List ℕ → List ℕ → List (Horn Step)
default_rules default dir = rule_of (Set_up [] ∷ is_wanted dir default ∷ []) (is_reached (Load dir default)) ∷ []

abbrev pub other_rules : (List ℕ → List ℕ) → List ℕ → List ℕ → List ℕ → List (Horn Step)
other_rules home default dir toolchain =
    rule_of (Set_up [] ∷ is_wanted dir toolchain ∷ []) (is_wanted (home toolchain) default)
    ∷ rule_of (Set_up [] ∷ is_wanted (home toolchain) default ∷ []) (is_reached (Load (home toolchain) default))
    ∷ rule_of (Set_up [] ∷ is_wanted dir toolchain ∷ Defined toolchain ∷ []) (is_reached (Setup toolchain))
    ∷ rule_of (Set_up [] ∷ is_wanted dir toolchain ∷ Set_up toolchain ∷ []) (is_reached (Load dir toolchain))
    ∷ []

abbrev pub wanted_rules : (List ℕ → List ℕ) → List ℕ → List ℕ → List ℕ → List (Horn Step)
wanted_rules home default dir toolchain =
    when (bytes_eq toolchain default) (default_rules default dir) ++ when (not (bytes_eq toolchain default)) (other_rules home default dir toolchain)

-- what a target of a unit gives: by itself, for its dependencies, as a dependency, for what it needs, and for its toolchain
abbrev pub own_rules : List ℕ → List ℕ → List ℕ → Target → List (Horn Step)
own_rules default dir toolchain t = when (bytes_eq toolchain default) (rule_of (Set_up [] ∷ []) (is_generated (label dir t.name default)) ∷ [])

abbrev pub ask_rules : List ℕ → List ℕ → Target → List (Horn Step)
ask_rules dir toolchain t = flat_map (λ l. rule_of (is_generated (label dir t.name toolchain) ∷ []) (Asked l) ∷ []) t.deps

abbrev pub find_rules : List ℕ → List ℕ → Target → List (Horn Step)
find_rules dir toolchain t = rule_of (Asked (label dir t.name toolchain) ∷ []) (is_generated (label dir t.name toolchain)) ∷ []

abbrev pub one_want : (List ℕ → List ℕ) → List ℕ → Label → Label → List (Horn Step)
one_want home default m l = rule_of (is_generated m ∷ []) (is_wanted l.dir l.toolchain) ∷ wanted_rules home default l.dir l.toolchain

abbrev pub want_rules : (List ℕ → List ℕ) → List ℕ → List ℕ → List ℕ → Target → List (Horn Step)
want_rules home default dir toolchain t = flat_map (one_want home default (label dir t.name toolchain)) (needed t)

abbrev pub home_rules : (List ℕ → List ℕ) → List ℕ → List ℕ → List (Horn Step)
home_rules home default toolchain =
    rule_of (Set_up [] ∷ Used toolchain ∷ []) (is_wanted (home toolchain) default) ∷ wanted_rules home default (home toolchain) default

abbrev pub use_rules : (List ℕ → List ℕ) → List ℕ → List ℕ → List ℕ → Target → List (Horn Step)
use_rules home default dir toolchain t = rule_of (is_generated (label dir t.name toolchain) ∷ []) (Used toolchain) ∷ home_rules home default toolchain

abbrev pub target_rules : (List ℕ → List ℕ) → List ℕ → List ℕ → List ℕ → Target → List (Horn Step)
target_rules home default dir toolchain t =
    own_rules default dir toolchain t
    ++ (ask_rules dir toolchain t ++ (find_rules dir toolchain t ++ (use_rules home default dir toolchain t ++ want_rules home default dir toolchain t)))

-- what a toolchain gives that the file of its label defines: for its build configuration, and for the pools of its tools
abbrev pub one_pool : (List ℕ → List ℕ) → List ℕ → List ℕ → Label → List (Horn Step)
one_pool home default toolchain l = rule_of (Set_up [] ∷ Used toolchain ∷ []) (is_wanted l.dir l.toolchain) ∷ wanted_rules home default l.dir l.toolchain

abbrev pub own_tool : (List ℕ → List ℕ) → List ℕ → Toolchain → List (Horn Step)
own_tool home default c = rule_of [] (Defined c.name) ∷ flat_map (one_pool home default c.name) c.pools

abbrev pub one_tool : (List ℕ → List ℕ) → List ℕ → List ℕ → List ℕ → Toolchain → List (Horn Step)
one_tool home default dir toolchain c = when (bytes_eq toolchain default && bytes_eq dir (home c.name)) (own_tool home default c)

abbrev pub tool_rules : (List ℕ → List ℕ) → List ℕ → List ℕ → List ℕ → List Toolchain → List (Horn Step)
tool_rules home default dir toolchain cs = flat_map (one_tool home default dir toolchain) cs

-- what the default toolchain's build configuration wants
abbrev pub root_rules : (List ℕ → List ℕ) → List ℕ → List ℕ → List (Horn Step)
root_rules home default dir = rule_of (Set_up [] ∷ []) (is_wanted dir default) ∷ wanted_rules home default dir default

abbrev pub unit_rules : (List ℕ → List ℕ) → List ℕ → Option (Option Done) → Unit_key → List (Horn Step)
unit_rules home default None unit = []
unit_rules home default (Some None) unit = []
unit_rules home default (Some (Some u)) (Load dir toolchain) =
    flat_map (target_rules home default dir toolchain) u.targets ++ tool_rules home default dir toolchain u.toolchains
unit_rules home default (Some (Some s)) (Setup toolchain) =
    rule_of [] (Set_up toolchain) ∷ when (bytes_eq toolchain []) (root_rules home default source_root ++ root_rules home default (home default))

-- two facts are one
abbrev pub same_unit : Unit_key → Unit_key → Bool
same_unit (Setup a) (Setup b) = bytes_eq a b
same_unit (Setup a) (Load d t) = false
same_unit (Load d t) (Setup b) = false
same_unit (Load d t) (Load e u) = bytes_eq d e && bytes_eq t u

abbrev pub same_label : Label → Label → Bool
same_label l m = bytes_eq l.dir m.dir && (bytes_eq l.name m.name && bytes_eq l.toolchain m.toolchain)

abbrev pub same_fact : Fact → Fact → Bool
same_fact (Is_reached k) (Is_reached q) = same_unit k q
same_fact (Is_reached k) (Is_wanted d t) = false
same_fact (Is_reached k) (Is_generated l) = false
same_fact (Is_wanted d t) (Is_reached k) = false
same_fact (Is_wanted d t) (Is_wanted e u) = bytes_eq d e && bytes_eq t u
same_fact (Is_wanted d t) (Is_generated l) = false
same_fact (Is_generated l) (Is_reached k) = false
same_fact (Is_generated l) (Is_wanted d t) = false
same_fact (Is_generated l) (Is_generated m) = same_label l m

abbrev pub same_step : Step → Step → Bool
same_step (Holding f) (Holding g) = same_fact f g
same_step (Holding f) (Asked l) = false
same_step (Holding f) (Used t) = false
same_step (Holding f) (Defined t) = false
same_step (Holding f) (Set_up t) = false
same_step (Asked l) (Holding f) = false
same_step (Asked l) (Asked m) = same_label l m
same_step (Asked l) (Used t) = false
same_step (Asked l) (Defined t) = false
same_step (Asked l) (Set_up t) = false
same_step (Used t) (Holding f) = false
same_step (Used t) (Asked l) = false
same_step (Used t) (Used u) = bytes_eq t u
same_step (Used t) (Defined u) = false
same_step (Used t) (Set_up u) = false
same_step (Defined t) (Holding f) = false
same_step (Defined t) (Asked l) = false
same_step (Defined t) (Used u) = false
same_step (Defined t) (Defined u) = bytes_eq t u
same_step (Defined t) (Set_up u) = false
same_step (Set_up t) (Holding f) = false
same_step (Set_up t) (Asked l) = false
same_step (Set_up t) (Used u) = false
same_step (Set_up t) (Defined u) = false
same_step (Set_up t) (Set_up u) = bytes_eq t u

abbrev pub opens_rules : Step → Bool
opens_rules (Holding (Is_reached unit)) = true
opens_rules (Holding (Is_wanted dir toolchain)) = false
opens_rules (Holding (Is_generated l)) = false
opens_rules (Asked l) = false
opens_rules (Used toolchain) = false
opens_rules (Defined toolchain) = false
opens_rules (Set_up toolchain) = false

abbrev pub rules_over : (List ℕ → List ℕ) → List ℕ → Units → Step → List (Horn Step)
rules_over home default a (Holding (Is_reached unit)) = unit_rules home default (a unit) unit
rules_over home default a (Holding (Is_wanted dir toolchain)) = []
rules_over home default a (Holding (Is_generated l)) = []
rules_over home default a (Asked l) = []
rules_over home default a (Used toolchain) = []
rules_over home default a (Defined toolchain) = []
rules_over home default a (Set_up toolchain) = []

abbrev pub start_rules : List (Horn Step)
start_rules = rule_of [] (is_reached (Setup [])) ∷ []

-- the rules over these answers, where the default toolchain is known
abbrev pub known_system : (List ℕ → List ℕ) → List ℕ → Units → System Step
known_system home default a = record { same = same_step; base = start_rules; opens = opens_rules; rules = rules_over home default a }

-- and until it is
abbrev pub first_system : System Step
first_system = record { same = same_step; base = start_rules; opens = opens_rules; rules = λ s. [] }

abbrev pub system_at : (List ℕ → List ℕ) → Units → Option (Option Done) → System Step
system_at home a None = first_system
system_at home a (Some None) = first_system
system_at home a (Some (Some d)) = known_system home d.default a

abbrev pub system_of : (List ℕ → List ℕ) → Units → System Step
system_of home a = system_at home a (a (Setup []))

-- the greatest number of build files that may be reached, each under each of its toolchains, and of build configurations
unfoldable pub load_limit : ℕ
load_limit = 1048576

unfoldable pub setup_limit : ℕ
setup_limit = 256

-- in each round one more unit is opened, so this many exceed one of the limits
abbrev pub rounds : ℕ
rounds = suc (load_limit + setup_limit)

abbrev pub is_load : Step → Bool
is_load (Holding (Is_reached (Load dir toolchain))) = true
is_load _ = false

abbrev pub is_setup : Step → Bool
is_setup (Holding (Is_reached (Setup toolchain))) = true
is_setup _ = false

-- all that holds over these answers, and whether a limit is exceeded
unfoldable pub all_facts : (List ℕ → List ℕ) → Units → List Step
all_facts home a = facts (system_of home a) (opened (system_of home a) rounds)

unfoldable pub is_too_large : (List ℕ → List ℕ) → Units → Bool
is_too_large home a = exceeds (system_of home a) rounds is_load load_limit is_setup setup_limit

abbrev pub holds_in : (List ℕ → List ℕ) → Units → Fact → Bool
holds_in home a f = is_member same_step (all_facts home a) (Holding f)
