-- What the rules of a graph forbid a target is what its faults are of.
use Rattle.std.proofs.Common.{◌≡◌, ◌⊎◌, inl, inr, List, [], ◌∷◌, ◌++◌, Some, None, Bool, true, false, ◌||◌, cond, filter, refl, sym, ◌∙◌, ap, subst, true≢false}
use Rattle.std.specs.Cmp.Derive.{both_true}
use Rattle.std.proofs.lemmas.Bool.{and_parts, or_cases}
use Rattle.gn_labels.specs.declared.label.Label.{Label}
use Rattle.gn_rows.specs.declared.variable.Variable.TheVariants.{Pool}
use Rattle.gn_faults.specs.declared.code.Code.TheVariants.{Unresolved, WrongKind, Invisible, TestOnly, AssertNoDeps}
use Rattle.gn_dependencies.specs.Lists.{same_label, has}
use Rattle.gn_dependencies.specs.Shape.{all_deps}
use Rattle.gn_dependencies.specs.Configurations.{own_configs}
use Rattle.gn_dependencies.proofs.Same.{own, same}
use Rattle.gn_dependencies.proofs.Has.{has-filter, or_true}
use Rattle.gn_dependencies.proofs.Kept.{has-append}
use Rattle.gn_rules.specs.Rules.{names_target, names_config, names_pool, is_missing, is_foreign, hides, is_for_tests, MustNotReach, IsForbiddenTarget, missing_labels, foreign_labels, hidden_targets, hidden_configs, testonly_deps}
use Rattle.gn_graph_faults.specs.Faults.{Facts, HasFault, named_by, names_nothing, depends_on_another, applies_another, pools_another, depends_on_hidden, applies_hidden, depends_on_tests, reaches_forbidden}
use Rattle.gn_graph_faults.specs.Told.{AreFaulty}
use Rattle.gn_graph_faults.proofs.Ordered.{HasNoTies}

or_first : (a b : Bool) → a ≡ true → (a || b) ≡ true
or_first a b h = ap (λ v. v || b) h

-- ---- what two lists have, one behind the other, and what a filter leaves
has_cases : (xs ys : List Label) (d : Label) → has (xs ++ ys) d ≡ true → (has xs d ≡ true) ⊎ (has ys d ≡ true)
has_cases xs ys d h = or_cases (has xs d) (has ys d) (sym (has-append xs ys d) ∙ h)

has_left : (xs ys : List Label) (d : Label) → has xs d ≡ true → has (xs ++ ys) d ≡ true
has_left xs ys d h = has-append xs ys d ∙ or_first (has xs d) (has ys d) h

has_right : (xs ys : List Label) (d : Label) → has ys d ≡ true → has (xs ++ ys) d ≡ true
has_right xs ys d h = has-append xs ys d ∙ ap (λ v. has xs d || v) h ∙ or_true (has xs d)

passed : (p : Label → Bool) (xs : List Label) (d : Label) → has (filter p xs) d ≡ true → (has xs d ≡ true) × (p d ≡ true)
passed p xs d h = and_parts (has xs d) (p d) (sym (has-filter p d xs) ∙ h)

passes : (p : Label → Bool) (xs : List Label) (d : Label) → has xs d ≡ true → p d ≡ true → has (filter p xs) d ≡ true
passes p xs d h g = has-filter p d xs ∙ both_true h g

-- ---- labels that no item has
missing_to : (g : Facts) (t d : Label) → has (missing_labels g.shape t) d ≡ true → HasFault g t Unresolved (d ∷ [])
missing_to g t d h =
    let p : Label → Bool = is_missing g.shape in
    let ds = all_deps g.shape t in
    let cs = own_configs g.shape t in
    let ps = g.shape.lists t Pool in
    elim (has_cases (filter p ds ++ filter p cs) (filter p ps) d h) [
      | inl a ↦ elim (has_cases (filter p ds) (filter p cs) d a) [
        | inl b ↦ let k = passed p ds d b in names_nothing d (has_left (ds ++ cs) ps d (has_left ds cs d k.0)) k.1
        | inr b ↦ let k = passed p cs d b in names_nothing d (has_left (ds ++ cs) ps d (has_right ds cs d k.0)) k.1
      ]
      | inr a ↦ let k = passed p ps d a in names_nothing d (has_right (ds ++ cs) ps d k.0) k.1
    ]

missing_back : (g : Facts) (t d : Label) → has (named_by g.shape t) d ≡ true → is_missing g.shape d ≡ true → has (missing_labels g.shape t) d ≡ true
missing_back g t d h m =
    let p : Label → Bool = is_missing g.shape in
    let ds = all_deps g.shape t in
    let cs = own_configs g.shape t in
    let ps = g.shape.lists t Pool in
    elim (has_cases (ds ++ cs) ps d h) [
      | inl a ↦ elim (has_cases ds cs d a) [
        | inl b ↦ has_left (filter p ds ++ filter p cs) (filter p ps) d (has_left (filter p ds) (filter p cs) d (passes p ds d b m))
        | inr b ↦ has_left (filter p ds ++ filter p cs) (filter p ps) d (has_right (filter p ds) (filter p cs) d (passes p cs d b m))
      ]
      | inr a ↦ has_right (filter p ds ++ filter p cs) (filter p ps) d (passes p ps d a m)
    ]

missing_of : (g : Facts) (t d : Label) → HasFault g t Unresolved (d ∷ []) → has (missing_labels g.shape t) d ≡ true
missing_of g t d (names_nothing _ h m) = missing_back g t d h m

missing_alone : (g : Facts) (t : Label) (others : List Label) → HasFault g t Unresolved others → (d : Label) × (others ≡ d ∷ [])
missing_alone g t _ (names_nothing d h m) = (d, refl)

pub missing_faulty : (g : Facts) (t : Label) (labels : List Label) → labels ≡ missing_labels g.shape t → AreFaulty g t Unresolved labels
missing_faulty g t labels e = subst (AreFaulty g t Unresolved) (sym e) (record { each = λ d. (missing_to g t d, missing_of g t d); alone = missing_alone g t })

-- ---- items of another kind
foreign_to : (g : Facts) (t d : Label) → has (foreign_labels g.shape t) d ≡ true → HasFault g t WrongKind (d ∷ [])
foreign_to g t d h =
    let ds = filter (is_foreign names_target g.shape) (all_deps g.shape t) in
    let cs = filter (is_foreign names_config g.shape) (own_configs g.shape t) in
    let ps = filter (is_foreign names_pool g.shape) (g.shape.lists t Pool) in
    elim (has_cases (ds ++ cs) ps d h) [
      | inl a ↦ elim (has_cases ds cs d a) [
        | inl b ↦ let k = passed (is_foreign names_target g.shape) (all_deps g.shape t) d b in depends_on_another d k.0 k.1
        | inr b ↦ let k = passed (is_foreign names_config g.shape) (own_configs g.shape t) d b in applies_another d k.0 k.1
      ]
      | inr a ↦ let k = passed (is_foreign names_pool g.shape) (g.shape.lists t Pool) d a in pools_another d k.0 k.1
    ]

foreign_of : (g : Facts) (t d : Label) → HasFault g t WrongKind (d ∷ []) → has (foreign_labels g.shape t) d ≡ true
foreign_of g t d (depends_on_another _ h m) =
    let ds = filter (is_foreign names_target g.shape) (all_deps g.shape t) in
    let cs = filter (is_foreign names_config g.shape) (own_configs g.shape t) in
    let ps = filter (is_foreign names_pool g.shape) (g.shape.lists t Pool) in
    has_left (ds ++ cs) ps d (has_left ds cs d (passes (is_foreign names_target g.shape) (all_deps g.shape t) d h m))
foreign_of g t d (applies_another _ h m) =
    let ds = filter (is_foreign names_target g.shape) (all_deps g.shape t) in
    let cs = filter (is_foreign names_config g.shape) (own_configs g.shape t) in
    let ps = filter (is_foreign names_pool g.shape) (g.shape.lists t Pool) in
    has_left (ds ++ cs) ps d (has_right ds cs d (passes (is_foreign names_config g.shape) (own_configs g.shape t) d h m))
foreign_of g t d (pools_another _ h m) =
    let ds = filter (is_foreign names_target g.shape) (all_deps g.shape t) in
    let cs = filter (is_foreign names_config g.shape) (own_configs g.shape t) in
    let ps = filter (is_foreign names_pool g.shape) (g.shape.lists t Pool) in
    has_right (ds ++ cs) ps d (passes (is_foreign names_pool g.shape) (g.shape.lists t Pool) d h m)

foreign_alone : (g : Facts) (t : Label) (others : List Label) → HasFault g t WrongKind others → (d : Label) × (others ≡ d ∷ [])
foreign_alone g t _ (depends_on_another d h m) = (d, refl)
foreign_alone g t _ (applies_another d h m) = (d, refl)
foreign_alone g t _ (pools_another d h m) = (d, refl)

pub foreign_faulty : (g : Facts) (t : Label) (labels : List Label) → labels ≡ foreign_labels g.shape t → AreFaulty g t WrongKind labels
foreign_faulty g t labels e = subst (AreFaulty g t WrongKind) (sym e) (record { each = λ d. (foreign_to g t d, foreign_of g t d); alone = foreign_alone g t })

-- ---- what isn't visible
hidden_to : (g : Facts) (t d : Label) → has (hidden_targets g.shape g.visibility t ++ hidden_configs g.shape g.visibility t) d ≡ true → HasFault g t Invisible (d ∷ [])
hidden_to g t d h = elim (has_cases (hidden_targets g.shape g.visibility t) (hidden_configs g.shape g.visibility t) d h) [
  | inl a ↦ let k = passed (hides names_target g.shape g.visibility t) (all_deps g.shape t) d a in depends_on_hidden d k.0 k.1
  | inr a ↦ let k = passed (hides names_config g.shape g.visibility t) (own_configs g.shape t) d a in applies_hidden d k.0 k.1
]

hidden_of : (g : Facts) (t d : Label) → HasFault g t Invisible (d ∷ []) → has (hidden_targets g.shape g.visibility t ++ hidden_configs g.shape g.visibility t) d ≡ true
hidden_of g t d (depends_on_hidden _ h m) =
    has_left (hidden_targets g.shape g.visibility t) (hidden_configs g.shape g.visibility t) d (passes (hides names_target g.shape g.visibility t) (all_deps g.shape t) d h m)
hidden_of g t d (applies_hidden _ h m) =
    has_right (hidden_targets g.shape g.visibility t) (hidden_configs g.shape g.visibility t) d (passes (hides names_config g.shape g.visibility t) (own_configs g.shape t) d h m)

hidden_alone : (g : Facts) (t : Label) (others : List Label) → HasFault g t Invisible others → (d : Label) × (others ≡ d ∷ [])
hidden_alone g t _ (depends_on_hidden d h m) = (d, refl)
hidden_alone g t _ (applies_hidden d h m) = (d, refl)

pub hidden_faulty : (g : Facts) (t : Label) (targets configs labels : List Label) → targets ≡ hidden_targets g.shape g.visibility t → configs ≡ hidden_configs g.shape g.visibility t
    → labels ≡ targets ++ configs → AreFaulty g t Invisible labels
hidden_faulty g t targets configs labels a b e =
    subst (AreFaulty g t Invisible) (sym (e ∙ ap (λ (z : List Label). z ++ configs) a ∙ ap (λ (z : List Label). hidden_targets g.shape g.visibility t ++ z) b))
    (record { each = λ d. (hidden_to g t d, hidden_of g t d); alone = hidden_alone g t })

-- ---- what is for tests alone
tests_by : (g : Facts) (t d : Label) (b : Bool) → g.testonly t ≡ b → has (cond b [] (filter (is_for_tests g.shape g.testonly) (all_deps g.shape t))) d ≡ true → HasFault g t TestOnly (d ∷ [])
tests_by g t d true e h = absurd (cc h)
tests_by g t d false e h = let k = passed (is_for_tests g.shape g.testonly) (all_deps g.shape t) d h in depends_on_tests d e k.0 k.1

tests_of : (g : Facts) (t d : Label) → HasFault g t TestOnly (d ∷ []) → has (testonly_deps g.shape g.testonly t) d ≡ true
tests_of g t d (depends_on_tests _ e h m) =
    ap (λ (b : Bool). has (cond b [] (filter (is_for_tests g.shape g.testonly) (all_deps g.shape t))) d) e ∙ passes (is_for_tests g.shape g.testonly) (all_deps g.shape t) d h m

tests_alone : (g : Facts) (t : Label) (others : List Label) → HasFault g t TestOnly others → (d : Label) × (others ≡ d ∷ [])
tests_alone g t _ (depends_on_tests d e h m) = (d, refl)

pub tests_faulty : (g : Facts) (t : Label) (labels : List Label) → labels ≡ testonly_deps g.shape g.testonly t → AreFaulty g t TestOnly labels
tests_faulty g t labels e =
    subst (AreFaulty g t TestOnly) (sym e) (record { each = λ d. (tests_by g t d (g.testonly t) refl, tests_of g t d); alone = tests_alone g t })

-- ---- what mustn't be reached
forbidden_alone : (g : Facts) (t : Label) (others : List Label) → HasFault g t AssertNoDeps others → (d : Label) × (others ≡ d ∷ [])
forbidden_alone g t _ (reaches_forbidden d m l) = (d, refl)

none_forbidden : (g : Facts) (t d : Label) → ((q : Label) → MustNotReach g.shape g.forbidden t q → ⊥) → HasFault g t AssertNoDeps (d ∷ []) → has [] d ≡ true
none_forbidden g t d n (reaches_forbidden _ m l) = absurd (n d m)

one_forbidden : (g : Facts) (t x d : Label) → HasNoTies → IsForbiddenTarget g.default g.shape g.forbidden t (Some x) → HasFault g t AssertNoDeps (d ∷ []) → has (x ∷ []) d ≡ true
one_forbidden g t x d no_ties f (reaches_forbidden _ m l) = or_first (same_label d x) false (elim (no_ties g.default d x) [
  | inl a ↦ absurd (true≢false (sym a ∙ f.1 d m))
  | inr r ↦ elim r [ inl e ↦ ap (same_label d) (sym e) ∙ own d | inr a ↦ absurd (true≢false (sym a ∙ l x f.0)) ]
])

has_one : (x d : Label) → has (x ∷ []) d ≡ true → d ≡ x
has_one x d h = elim (or_cases (same_label d x) false h) [ inl e ↦ same d x e | inr e ↦ absurd (cc e) ]

pub nothing_faulty : (g : Facts) (t : Label) (labels : List Label) → labels ≡ [] → IsForbiddenTarget g.default g.shape g.forbidden t None → AreFaulty g t AssertNoDeps labels
nothing_faulty g t labels e n =
    subst (AreFaulty g t AssertNoDeps) (sym e) (record { each = λ d. (λ h. absurd (cc h), none_forbidden g t d n); alone = forbidden_alone g t })

pub forbidden_faulty : (g : Facts) (t x : Label) (labels : List Label) → HasNoTies → labels ≡ x ∷ [] → IsForbiddenTarget g.default g.shape g.forbidden t (Some x) → AreFaulty g t AssertNoDeps labels
forbidden_faulty g t x labels no_ties e f = subst (AreFaulty g t AssertNoDeps) (sym e) (record {
  each = λ d. (λ h. subst (λ (z : Label). HasFault g t AssertNoDeps (z ∷ [])) (sym (has_one x d h)) (reaches_forbidden x f.0 f.1), one_forbidden g t x d no_ties f);
  alone = forbidden_alone g t;
})
