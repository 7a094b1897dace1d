-- Fields as trees of numbers, one to one, so that each is told from every other.
use Rattle.std.specs.Prelude.{◌≡◌, ◌⊎◌, ℕ, ℤ, List, Bool, refl}
use Rattle.std.specs.Coded.{Coded, code_by, coded×, coded⊎, coded_ℕ, coded_ℤ, coded_bool, coded_list}
use Rattle.std.proofs.Common.{inl, inr}
use base.Stored.{coded_unit}
use Rattle.gn_labels.specs.declared.label.Label.{Label}
use Rattle.gn_labels.specs.contracts.label.Label as label
use Rattle.gn_labels.specs.declared.pattern.Pattern.{Pattern}
use Rattle.gn_labels.specs.contracts.pattern.Pattern as pattern
use Rattle.gn_rows.specs.declared.variable.Variable.{Variable}
use Rattle.gn_rows.specs.contracts.variable.Variable as variable
use Rattle.gn_substs.specs.declared.subst.Subst.{Subst}
use Rattle.gn_substs.specs.contracts.subst.Subst as subst
use Rattle.gn_values.specs.Val.{Val}
use Rattle.gn_values.specs.ValCode.{val_code}
use Rattle.gn_define.specs.Held.{Held, boolean, count, texts, paths, labels, patterns, substs, scope, unused}

-- lists of what is written in a block, and what isn't a list
abbrev Lists : Type 0
Lists = (List (List ℕ) ⊎ List (List ℕ)) ⊎ (List Label ⊎ (List Pattern ⊎ List Subst))

abbrev Singles : Type 0
Singles = (Bool ⊎ ℤ) ⊎ (Val ⊎ Unit {0})

abbrev held_cases : Held → Lists ⊎ Singles
held_cases (boolean b) = inr (inl (inl b))
held_cases (count n) = inr (inl (inr n))
held_cases (texts ts) = inl (inl (inl ts))
held_cases (paths ps) = inl (inl (inr ps))
held_cases (labels ls) = inl (inr (inl ls))
held_cases (patterns ps) = inl (inr (inr (inl ps)))
held_cases (substs ss) = inl (inr (inr (inr ss)))
held_cases (scope v) = inr (inr (inl v))
held_cases unused = inr (inr (inr tt))

abbrev held_from : Lists ⊎ Singles → Held
held_from (inr (inl (inl b))) = boolean b
held_from (inr (inl (inr n))) = count n
held_from (inl (inl (inl ts))) = texts ts
held_from (inl (inl (inr ps))) = paths ps
held_from (inl (inr (inl ls))) = labels ls
held_from (inl (inr (inr (inl ps)))) = patterns ps
held_from (inl (inr (inr (inr ss)))) = substs ss
held_from (inr (inr (inl v))) = scope v
held_from (inr (inr (inr _))) = unused

pub held_back : (h : Held) → held_from (held_cases h) ≡ h
held_back (boolean b) = refl
held_back (count n) = refl
held_back (texts ts) = refl
held_back (paths ps) = refl
held_back (labels ls) = refl
held_back (patterns ps) = refl
held_back (substs ss) = refl
held_back (scope v) = refl
held_back unused = refl

abbrev texts_code : Coded (List (List ℕ))
texts_code = coded_list (coded_list coded_ℕ)

abbrev lists_code : Coded Lists
lists_code =
    coded⊎ (coded⊎ texts_code texts_code)
    (coded⊎ (coded_list label.the_row.coded) (coded⊎ (coded_list pattern.the_row.coded) (coded_list subst.the_row.coded)))

abbrev singles_code : Coded Singles
singles_code = coded⊎ (coded⊎ coded_bool coded_ℤ) (coded⊎ val_code coded_unit)

abbrev pub held_code : Coded Held
held_code = code_by (Lists ⊎ Singles) (coded⊎ lists_code singles_code) held_cases held_from held_back

abbrev pub fields_code : Coded (List (Variable × Held))
fields_code = coded_list (coded× variable.the_row.coded held_code)
