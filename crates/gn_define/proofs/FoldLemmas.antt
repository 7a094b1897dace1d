-- The fold over rows: what stands first is judged first, and fields are of the rows that are set.
use Rattle.std.specs.Prelude.{is_some, ◌==◌, nat_lt}
use Rattle.std.proofs.Common.{◌≡◌, ℕ, zero, suc, ◌≤◌, Bool, true, false, List, [], ◌∷◌, ◌++◌, Option, Some, None, Result, Ok, Err, cond, refl, sym, ap, ◌∙◌, subst, arith}
use Rattle.std.specs.List.{filter}
use Rattle.std.proofs.lemmas.Bool.Decides.{nat_tests}
use Rattle.std.proofs.lemmas.List.{append-nil, append_assoc}
use Rattle.gn_faults.specs.declared.code.Code.{Code}
use Rattle.gn_faults.specs.declared.code.Code.TheVariants as codes
use Rattle.gn_values.specs.Val.{Val}
use Rattle.gn_rows.specs.declared.row.Demand.{Demand}
use Rattle.gn_rows.specs.declared.row.Row.{Row}
use Rattle.gn_rows.specs.declared.row.Rule.{Rule}
use Rattle.gn_rows.specs.declared.row.Rule.TheVariants.{Required, Excluded, AtMostOne}
use Rattle.gn_rows.specs.declared.variable.Variable.{Variable}
use Rattle.gn_rows.specs.declared.variable.Variable.TheVariants.{Sources}
use Rattle.gn_rows.specs.Names.{variable_name}
use Rattle.gn_rows.specs.Tables.{demands_of}
use Rattle.gn_define.specs.declared.fault.ItemFault.{ItemFault}
use Rattle.gn_define.specs.declared.place.Where.{Where}
use Rattle.gn_define.specs.Checking.{checked}
use Rattle.gn_define.specs.Defining.{name_fault, complete, block_defines}
use Rattle.gn_define.specs.Demands.{size_of, broken, broken_or, first_broken}
use Rattle.gn_define.specs.Fields.{filled, with_field, with_checked, paths_of, field_at}
use Rattle.gn_define.specs.Held.{Held}
use Rattle.gn_define.specs.Laws.{is_set, AreFieldsOf, Meets, AreMet}
use Rattle.gn_define.specs.Reading.{then_do, unless}

pub goes_on : (w : Where) (values : List ℕ → Option Val) (made : List (Variable × Held)) (first others : List Row)
    → filled w values made (first ++ others) ≡ then_do (λ more. filled w values more others) (filled w values made first)
goes_on w values made [] others = refl
goes_on w values made (row ∷ rows) others =
    by (λ more. goes_on w values more rows others) (with_field w row (values (variable_name row.variable)) made)
  where
    by : ((more : List (Variable × Held)) → filled w values more (rows ++ others) ≡ then_do (λ ended. filled w values ended others) (filled w values more rows)) → (r : Result (List (Variable × Held)) ItemFault) → then_do (λ more. filled w values more (rows ++ others)) r ≡ then_do (λ more. filled w values more others) (then_do (λ more. filled w values more rows) r)
    by later (Ok more) = later more
    by later (Err fault) = refl

-- what is filled behind what is made
abbrev Further : Where → (List ℕ → Option Val) → List (Variable × Held) → List Row → List (Variable × Held) → Type 0
Further w values made rows fields =
    (more : List (Variable × Held)) × (fields ≡ made ++ more) × AreFieldsOf w values made more (filter (is_set values) rows)

further : (w : Where) (values : List ℕ → Option Val) (made : List (Variable × Held)) (rows : List Row) (fields : List (Variable × Held))
    → filled w values made rows ≡ Ok fields → Further w values made rows fields
further w values made [] fields h =
    let is : made ≡ fields = cc in
    ([], sym is ∙ sym (append-nil made), tt)
further w values made (row ∷ rows) fields h = by (λ more g. further w values more rows fields g) (values (variable_name row.variable)) refl h
  where
    Later : Type 0
    Later = (more : List (Variable × Held)) → filled w values more rows ≡ Ok fields → Further w values more rows fields

    sources : List (List ℕ)
    sources = paths_of (field_at made Sources)

    here : Option Val → List Row
    here p = cond (is_some p) (row ∷ filter (is_set values) rows) (filter (is_set values) rows)

    Here : Option Val → Type 0
    Here p = (more : List (Variable × Held)) × (fields ≡ made ++ more) × AreFieldsOf w values made more (here p)

    checked_as : Later → (v : Val) → values (variable_name row.variable) ≡ Some v → (r : Result Held Code) → checked w sources row.row_type v ≡ r
        → then_do (λ more. filled w values more rows) (with_checked row.variable r made) ≡ Ok fields → Here (Some v)
    checked_as later v e (Ok field) f g =
        let later_is = later (made ++ (row.variable, field) ∷ []) g in
        ((row.variable, field) ∷ later_is.0, later_is.1 ∙ append_assoc made ((row.variable, field) ∷ []) later_is.0, (v, e, refl, f, later_is.2))
    checked_as later v e (Err code) f g = absurd cc

    by : Later → (p : Option Val) → values (variable_name row.variable) ≡ p → then_do (λ more. filled w values more rows) (with_field w row p made) ≡ Ok fields
        → Further w values made (row ∷ rows) fields
    by later None e g = subst Here (sym e) (later made g)
    by later (Some v) e g = subst Here (sym e) (checked_as later v e (checked w sources row.row_type v) refl g)

-- where an item is defined, its fields are those that are filled, and all demands are met
as_defined : (w : Where) (rows : List Row) (name : List ℕ) (values : List ℕ → Option Val) (fields : List (Variable × Held)) → block_defines w rows name values ≡ Ok fields
    → (filled w values [] rows ≡ Ok fields) × (first_broken fields (demands_of w.kind name) ≡ None)
unfolding block_defines
as_defined w rows name values fields h = by (name_fault w.kind name) (filled w values [] rows) h
  where
    whole : List (Variable × Held) → Result (List (Variable × Held)) ItemFault
    whole made = Ok made

    completed : (made : List (Variable × Held)) (p : Option ItemFault) → first_broken made (demands_of w.kind name) ≡ p → unless p (whole made) ≡ Ok fields
        → (made ≡ fields) × (first_broken fields (demands_of w.kind name) ≡ None)
    completed made None e g =
        let is : made ≡ fields = cc in
        (is, subst (λ fs. first_broken fs (demands_of w.kind name) ≡ None) is e)
    completed made (Some fault) e g = absurd cc

    by : (n : Option ItemFault) (r : Result (List (Variable × Held)) ItemFault) → unless n (then_do (complete w.kind name) r) ≡ Ok fields
        → (r ≡ Ok fields) × (first_broken fields (demands_of w.kind name) ≡ None)
    by None (Ok made) g =
        let done = completed made (first_broken made (demands_of w.kind name)) refl g in
        (ap Ok done.0, done.1)
    by None (Err fault) g = absurd cc
    by (Some fault) r g = absurd cc

pub fields_are : (w : Where) (rows : List Row) (name : List ℕ) (values : List ℕ → Option Val) (fields : List (Variable × Held)) → block_defines w rows name values ≡ Ok fields
    → AreFieldsOf w values [] fields (filter (is_set values) rows)
fields_are w rows name values fields h =
    let more = further w values [] rows fields (as_defined w rows name values fields h).0 in
    subst (λ fs. AreFieldsOf w values [] fs (filter (is_set values) rows)) (sym more.1) more.2

-- demands that aren't broken are met
none_broken : (fields : List (Variable × Held)) (demands : List Demand) → first_broken fields demands ≡ None → AreMet fields demands
none_broken fields [] h = tt
none_broken fields (d ∷ ds) h = by (λ g. none_broken fields ds g) d.rule (field_at fields d.variable) h
  where
    Later : Type 0
    Later = first_broken fields ds ≡ None → AreMet fields ds

    not_broken : Later → (p : Option Code) → broken_or d.variable p (first_broken fields ds) ≡ None → (p ≡ None) × AreMet fields ds
    not_broken later None g = (refl, later g)
    not_broken later (Some code) g = absurd cc

    required : (n : ℕ) → cond (n == 0) (Some codes.Missing) None ≡ None → 1 ≤ n
    required zero g = absurd cc
    required (suc n) g = omega arith

    excluded : (field : Option Held) → cond (is_some field) (Some codes.Excluded) None ≡ None → field ≡ None
    excluded None g = refl
    excluded (Some held) g = absurd cc

    at_most_one : (n : ℕ) (b : Bool) → nat_lt 1 n ≡ b → cond b (Some codes.BadArguments) None ≡ None → n ≤ 1
    at_most_one n false e g = grind (arith, nat_tests)
    at_most_one n true e g = absurd cc

    by : Later → (rule : Rule) (field : Option Held) → broken_or d.variable (broken rule field) (first_broken fields ds) ≡ None → Meets rule field × AreMet fields ds
    by later Required field g = let p = not_broken later (broken Required field) g in (required (size_of field) p.0, p.1)
    by later Excluded field g = let p = not_broken later (broken Excluded field) g in (excluded field p.0, p.1)
    by later AtMostOne field g = let p = not_broken later (broken AtMostOne field) g in (at_most_one (size_of field) (nat_lt 1 (size_of field)) refl p.0, p.1)

pub demands_are_met : (w : Where) (rows : List Row) (name : List ℕ) (values : List ℕ → Option Val) (fields : List (Variable × Held)) → block_defines w rows name values ≡ Ok fields
    → AreMet fields (demands_of w.kind name)
demands_are_met w rows name values fields h = none_broken fields (demands_of w.kind name) (as_defined w rows name values fields h).1
