-- The answers of units, and the rules that they give together.
use Rattle.std.specs.Prelude.{◌≡◌, ℕ, List, [], ◌∷◌, ◌++◌, Option, Some, None, cond, map}
use Rattle.std.specs.List.{flat_map}
use Rattle.gn_closure.specs.Closure.{Horn, In}
use Rattle.gn_closure.specs.Reach.{Unit_key, Setup, Done, Units}
use Rattle.gn_closure.specs.Ground.{Step}
use Rattle.gn_closure.specs.Computed.{same_unit, start_rules, unit_rules}
use Rattle.gn_graph.specs.Facts.{under}
use Rattle.gn_graph.specs.Needs.{home}

-- the answer of a unit: what it leaves, if it is done
pub record Reply : Type 0 where
  pub unit : Unit_key
  pub done : Option Done

abbrev pub reply : Unit_key → Option Done → Reply
reply unit done = record { unit = unit; done = done }

-- the answers as a function
abbrev pub units_in : List Reply → Units
units_in [] k = None
units_in (r ∷ rs) k = cond (same_unit r.unit k) (Some r.done) (units_in rs k)

-- no unit has two answers
abbrev pub AreSingle : List Reply → Type 0
AreSingle rs = (r : Reply) → In rs r → units_in rs r.unit ≡ Some r.done

-- the default toolchain that an answer of its build configuration names
abbrev pub default_in : Option (Option Done) → Option (List ℕ)
default_in None = None
default_in (Some None) = None
default_in (Some (Some d)) = Some d.default

-- what an answer by itself names
abbrev pub named : Reply → Option (List ℕ)
named r = default_in (units_in (r ∷ []) (Setup []))

-- the rules of an answer, each of which needs that the unit is reached
abbrev pub reply_rules : List ℕ → Reply → List (Horn Step)
reply_rules default r = map (under r.unit) (unit_rules home default (Some r.done) r.unit)

-- those of all answers, once the default toolchain is known
abbrev pub rules_by : Option (List ℕ) → List Reply → List (Horn Step)
rules_by None rs = []
rules_by (Some default) rs = flat_map (reply_rules default) rs

abbrev pub all_rules : List Reply → List (Horn Step)
all_rules rs = start_rules ++ rules_by (default_in (units_in rs (Setup []))) rs

-- the rules that one more answer adds: its own, where the default toolchain is known, else all that waited for it
abbrev pub more_rules : Option (List ℕ) → Option (List ℕ) → List Reply → Reply → List (Horn Step)
more_rules None after rs r = rules_by after (rs ++ r ∷ [])
more_rules (Some default) after rs r = reply_rules default r

-- the default toolchain after one more answer
abbrev pub after : Option (List ℕ) → Option (List ℕ) → Option (List ℕ)
after None o = o
after (Some t) o = Some t
