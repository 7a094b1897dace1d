-- Just the faults that a target has are told.
use Rattle.std.proofs.Common.{◌≡◌, inl, inr, List, [], ◌∷◌, Option, Some, None, map, filter, Bool, true, false, not, refl, sym, ◌∙◌, ap, subst, true≢false}
use Rattle.std.specs.List.{Contains, flat_map, cons_option}
use Rattle.std.proofs.lemmas.Bool.{and_parts}
use Rattle.std.proofs.lemmas.Map.Views.{Contains-from_any, list_any-from_Contains}
use Rattle.gn_labels.specs.declared.label.Label.{Label}
use Rattle.gn_rows.specs.declared.variable.Variable.TheVariants.{Pool}
use Rattle.gn_faults.specs.declared.code.Code.{Code}
use Rattle.gn_faults.specs.declared.code.Code.TheVariants.{Unresolved, WrongKind, Cycle, Invisible, TestOnly, AssertNoDeps}
use Rattle.gn_dependencies.specs.Lists.{has}
use Rattle.gn_dependencies.specs.Shape.{Path, all_deps}
use Rattle.gn_dependencies.specs.Configurations.{own_configs}
use Rattle.gn_dependencies.specs.Cycles.{OnlyThese}
use Rattle.gn_dependencies.proofs.Same.{same, label_equiv}
use Rattle.gn_cycles.specs.Shortest.{IsShortest, IsShortestPath}
use Rattle.gn_rules.specs.Rules.{names_target, names_config, names_pool, is_missing, is_foreign, hides, is_for_tests, IsForbiddenTarget}
use Rattle.gn_graph_faults.specs.Faults.{Facts, HasFault, Finding, finding, named_by, finding_order, AreFaults, names_nothing, depends_on_another, applies_another, pools_another, lies_on_cycle, depends_on_hidden, applies_hidden, depends_on_tests, reaches_forbidden}
use Rattle.gn_graph_meant.specs.Ways.{shortest_path_in}
use Rattle.gn_graph_meant.specs.Computed.{in_order, forbidden_in, each_of, wants_tests, parts_in, faults_in}
use Rattle.gn_graph_meant.specs.Laws.{TellsFaults}
use Rattle.gn_graph_meant.proofs.Ways.{finds_shortest}
use Rattle.gn_graph_meant.proofs.Members.{contains_first, contains_cases, contains_nothing, contains_mapped, mapped_contains, Among, among_joined, joined_among}
use Rattle.gn_graph_meant.proofs.InOrder.{in_order_rises, in_order_contains}
use Rattle.gn_graph_meant.proofs.Orders.{HasNoTies, HaveNumbers, findings_total, findings_alike}
use Rattle.gn_graph_meant.proofs.Reaching.{both_true, has_passed, passed_has, first_found}

-- there is one shortest path
abbrev pub OneShortest : Type 0
OneShortest = (next : Label → List Label) (t goal : Label) (p q : Path) → IsShortest next t goal p → IsShortest next t goal q → p ≡ q

not_true : (b : Bool) → not b ≡ true → b ≡ false
not_true true e = absurd (cc e)
not_true false e = refl

each_in : (code : Code) (p : Label → Bool) (xs : List Label) (d : Label) → has xs d ≡ true → p d ≡ true → Contains (each_of code (filter p xs)) (finding code (d ∷ []))
each_in code p xs d h k = contains_mapped (λ (d : Label). finding code (d ∷ [])) (filter p xs) d (Contains-from_any same d (filter p xs) (has_passed p xs d h k))

module _ (g : Facts) (t : Label) where
  abbrev Has : Finding → Type 0
  Has f = HasFault g t f.code f.others

  each_out : (code : Code) (p : Label → Bool) (xs : List Label) → ((d : Label) → has xs d ≡ true → p d ≡ true → HasFault g t code (d ∷ []))
      → (f : Finding) → Contains (each_of code (filter p xs)) f → Has f
  each_out code p xs h f c =
      let r = mapped_contains (λ (d : Label). finding code (d ∷ [])) (filter p xs) f c in
      let k = passed_has p xs r.0 (list_any-from_Contains label_equiv r.0 (filter p xs) r.1) in
      subst Has r.2 (h r.0 k.0 k.1)

  one_out : (x f : Finding) → Has x → Contains (x ∷ []) f → Has f
  one_out x f h c = elim (contains_cases x [] f c) [ inl e ↦ subst Has e h | inr b ↦ absurd (contains_nothing f b) ]

  cycle_out : (o : Option Path) → IsShortestPath (all_deps g.shape) t t o → (f : Finding) → Contains (map (finding Cycle) (cons_option o [])) f → Has f
  cycle_out None s f c = absurd (contains_nothing f c)
  cycle_out (Some p) s f c = one_out (finding Cycle p) f (lies_on_cycle p s) c

  cycle_in : OneShortest → (o : Option Path) → IsShortestPath (all_deps g.shape) t t o → (p : Path) → IsShortest (all_deps g.shape) t t p
      → Contains (map (finding Cycle) (cons_option o [])) (finding Cycle p)
  cycle_in one None s p i = absurd (s p i.path i.ends)
  cycle_in one (Some q) s p i = subst (λ (z : Path). Contains (finding Cycle q ∷ []) (finding Cycle z)) (one (all_deps g.shape) t t q p s i) (contains_first (finding Cycle q) [])

  forbidden_out : (o : Option Label) → IsForbiddenTarget g.default g.shape g.forbidden t o → (f : Finding) → Contains (each_of AssertNoDeps (cons_option o [])) f → Has f
  forbidden_out None s f c = absurd (contains_nothing f c)
  forbidden_out (Some x) s f c = one_out (finding AssertNoDeps (x ∷ [])) f (reaches_forbidden x s.0 s.1) c

  one_forbidden : HasNoTies → (x d : Label) → IsForbiddenTarget g.default g.shape g.forbidden t (Some x) → IsForbiddenTarget g.default g.shape g.forbidden t (Some d) → x ≡ d
  one_forbidden no_ties x d s k = elim (no_ties g.default x d) [
    | inl l ↦ absurd (true≢false (sym l ∙ k.1 x s.0))
    | inr r ↦ elim r [ inl e ↦ e | inr l ↦ absurd (true≢false (sym l ∙ s.1 d k.0)) ]
  ]

  forbidden_in_part : HasNoTies → (o : Option Label) → IsForbiddenTarget g.default g.shape g.forbidden t o → (d : Label) → IsForbiddenTarget g.default g.shape g.forbidden t (Some d)
      → Contains (each_of AssertNoDeps (cons_option o [])) (finding AssertNoDeps (d ∷ []))
  forbidden_in_part no_ties None s d k = absurd (s d k.0)
  forbidden_in_part no_ties (Some x) s d k =
      subst (λ (z : Label). Contains (finding AssertNoDeps (x ∷ []) ∷ []) (finding AssertNoDeps (z ∷ []))) (one_forbidden no_ties x d s k) (contains_first (finding AssertNoDeps (x ∷ [])) [])

  tests_out : (d : Label) → has (all_deps g.shape t) d ≡ true → wants_tests g t d ≡ true → HasFault g t TestOnly (d ∷ [])
  tests_out d h k = let r = and_parts (not (g.testonly t)) (is_for_tests g.shape g.testonly d) k in depends_on_tests d (not_true (g.testonly t) r.0) h r.1

  module _ (numbers : HaveNumbers) (no_ties : HasNoTies) (one : OneShortest) (all : List Label) (only : OnlyThese g.shape all) where
    cycle : IsShortestPath (all_deps g.shape) t t (shortest_path_in all (all_deps g.shape) t t)
    cycle = finds_shortest all (all_deps g.shape) only t t

    forbidden : IsForbiddenTarget g.default g.shape g.forbidden t (forbidden_in all g.default g.shape g.forbidden t)
    forbidden = first_found no_ties all g.default g.shape g.forbidden only t

    out : (f : Finding) → Among (parts_in all g t) f → Has f
    out f (inl c) = each_out Unresolved (is_missing g.shape) (named_by g.shape t) names_nothing f c
    out f (inr (inl c)) = each_out WrongKind (is_foreign names_target g.shape) (all_deps g.shape t) depends_on_another f c
    out f (inr (inr (inl c))) = each_out WrongKind (is_foreign names_config g.shape) (own_configs g.shape t) applies_another f c
    out f (inr (inr (inr (inl c)))) = each_out WrongKind (is_foreign names_pool g.shape) (g.shape.lists t Pool) pools_another f c
    out f (inr (inr (inr (inr (inl c))))) = cycle_out (shortest_path_in all (all_deps g.shape) t t) cycle f c
    out f (inr (inr (inr (inr (inr (inl c)))))) = each_out Invisible (hides names_target g.shape g.visibility t) (all_deps g.shape t) depends_on_hidden f c
    out f (inr (inr (inr (inr (inr (inr (inl c))))))) = each_out Invisible (hides names_config g.shape g.visibility t) (own_configs g.shape t) applies_hidden f c
    out f (inr (inr (inr (inr (inr (inr (inr (inl c)))))))) = each_out TestOnly (wants_tests g t) (all_deps g.shape t) tests_out f c
    out f (inr (inr (inr (inr (inr (inr (inr (inr (inl c))))))))) = forbidden_out (forbidden_in all g.default g.shape g.forbidden t) forbidden f c
    out f (inr (inr (inr (inr (inr (inr (inr (inr (inr c))))))))) = absurd c

    back : (code : Code) (others : List Label) → HasFault g t code others → Among (parts_in all g t) (finding code others)
    back _ _ (names_nothing d h m) = inl (each_in Unresolved (is_missing g.shape) (named_by g.shape t) d h m)
    back _ _ (depends_on_another d h m) = inr (inl (each_in WrongKind (is_foreign names_target g.shape) (all_deps g.shape t) d h m))
    back _ _ (applies_another d h m) = inr (inr (inl (each_in WrongKind (is_foreign names_config g.shape) (own_configs g.shape t) d h m)))
    back _ _ (pools_another d h m) = inr (inr (inr (inl (each_in WrongKind (is_foreign names_pool g.shape) (g.shape.lists t Pool) d h m))))
    back _ _ (lies_on_cycle p s) = inr (inr (inr (inr (inl (cycle_in one (shortest_path_in all (all_deps g.shape) t t) cycle p s)))))
    back _ _ (depends_on_hidden d h m) = inr (inr (inr (inr (inr (inl (each_in Invisible (hides names_target g.shape g.visibility t) (all_deps g.shape t) d h m))))))
    back _ _ (applies_hidden d h m) = inr (inr (inr (inr (inr (inr (inl (each_in Invisible (hides names_config g.shape g.visibility t) (own_configs g.shape t) d h m)))))))
    back _ _ (depends_on_tests d e h m) =
        let k : wants_tests g t d ≡ true = both_true (not (g.testonly t)) (is_for_tests g.shape g.testonly d) (ap not e) m in
        inr (inr (inr (inr (inr (inr (inr (inl (each_in TestOnly (wants_tests g t) (all_deps g.shape t) d h k))))))))
    back _ _ (reaches_forbidden d m l) =
        inr (inr (inr (inr (inr (inr (inr (inr (inl (forbidden_in_part no_ties (forbidden_in all g.default g.shape g.forbidden t) forbidden d (m, l))))))))))

    pub faults_told : AreFaults g t (faults_in all g t)
    unfolding faults_in
    faults_told =
        let fs : List Finding = flat_map (λ part. part) (parts_in all g t) in
        let same_ones = in_order_contains (finding_order g.default) (findings_total g.default) (findings_alike numbers no_ties g.default) fs in
        record {
          findings = in_order (finding_order g.default) fs;
          rises = in_order_rises (finding_order g.default) fs;
          each = λ f. (
            (λ c. out f (joined_among (parts_in all g t) f ((same_ones f).0 c))),
            (λ h. (same_ones f).1 (among_joined (parts_in all g t) f (back f.code f.others h))),
          );
          told = refl;
        }

pub tells_faults : HaveNumbers → HasNoTies → OneShortest → TellsFaults
tells_faults numbers no_ties one all g only t = faults_told g t numbers no_ties one all only
