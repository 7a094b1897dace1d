-- The executions of a build and the labels that it generates: which they are, that they differ by their texts, and how many build files are among them.
use Rattle.std.proofs.Common.{◌≡◌, inl, inr, ℕ, List, [], ◌∷◌, map, Bool, true, false, if◌then◌else◌, refl, sym, ◌∙◌, ap, subst, arith, true≢false}
use Rattle.std.specs.List.{filter, IsDistinct}
use Rattle.std.specs.Str.{bytes_eq}
use Rattle.std.proofs.lemmas.Slice.Eq.{bytes_eq-Decides}
use Rattle.gn_labels.specs.declared.label.Label.{Label}
use Rattle.gn_labels.specs.Labels.{toolchain_key, order_key}
use Rattle.gn_runs.specs.Runs.{import_of}
use Rattle.gn_runs.specs.Laws.{IsAsked}
use Rattle.gn_imports.specs.Asked.{imports_asked}
use Rattle.gn_imports.proofs.PathOrder.{import_one, one_import}
use Rattle.gn_closure.specs.Closure.{In}
use Rattle.gn_closure.specs.Reach.{Unit_key, Setup, Load, Is_reached, Is_wanted, Is_generated, Holds}
use Rattle.gn_closure.specs.Ground.{Step, Holding, Asked, Used, Defined, Set_up}
use Rattle.gn_closure.specs.Computed.{same_step, all_facts}
use Rattle.gn_closure.specs.Least.{IsLoad, IsTooLarge}
use Rattle.gn_closure.proofs.Opened.{in_flat, flat_in}
use Rattle.gn_closure.proofs.Closed.{member_in}
use Rattle.gn_closure.proofs.SameStep.{step_tested}
use Rattle.gn_closure.proofs.Least.{computed_sound, computed_least}
use Rattle.gn_core.specs.Keys.{Layer, early, usual, Key, Read, Import, Unit_of, Resolve, layer_of, units, same_key}
use Rattle.gn_core.specs.Worlds.{World, all_meanings}
use Rattle.gn_core.specs.Layered.{IsLayered}
use Rattle.gn_core.specs.Machine.{IsNeeded}
use Rattle.gn_core.specs.Statements.{Wanted}
use Rattle.gn_core.specs.Counted.{units_reached, unit_asks, exceeds_limits}
use Rattle.gn_core.proofs.Counting.{key_import, unit_needed, needed_unit, reached_listed, listed_reached, limits_computed}
use Rattle.gn_projects.specs.Worlds.{world_of}
use Rattle.gn_projects.specs.Loaded.{execution_texts, executions_of_unit, executions_needed, label_in_step, labels_generated, default_meant, executions_in_order, is_build_file, files_reached}
use Rattle.gn_projects.proofs.Layered.{whole_builds_are_layered}
use Rattle.gn_builds.specs.Rest.{is_execution, ReachedAreCounted}
use Rattle.gn_builds.proofs.Members.{key_tested, map_in, in_map, long_map, one_in, in_one, filter_in, in_filter, distinct_filter, no_longer, in_member, distinct_keys}
use Rattle.gn_builds.proofs.Orders.{IsExactOn, ordered_in, in_ordered, ordered_distinct}

-- Texts

toolchain_exact : (default s t : List ℕ) → toolchain_key default s ≡ toolchain_key default t → s ≡ t
toolchain_exact default s t e = by (bytes_eq s default) refl (bytes_eq t default) refl e
  where
    by : (p : Bool) → bytes_eq s default ≡ p → (q : Bool) → bytes_eq t default ≡ q → (if p then [] else 0 ∷ s) ≡ (if q then [] else 0 ∷ t) → s ≡ t
    by true x true y h = (bytes_eq-Decides s default).0 x ∙ sym ((bytes_eq-Decides t default).0 y)
    by true x false y h = absurd (cc h)
    by false x true y h = absurd (cc h)
    by false x false y h = cc h

pub label_exact : (default : List ℕ) (a b : Label) → order_key default a ≡ order_key default b → a ≡ b
label_exact default a b e =
    let dir : a.dir ≡ b.dir = cc e in
    let name : a.name ≡ b.name = cc e in
    let key : toolchain_key default a.toolchain ≡ toolchain_key default b.toolchain = cc e in
    let toolchain = toolchain_exact default a.toolchain b.toolchain key in
    λ i. record { dir = dir i; name = name i; toolchain = toolchain i }

-- what stands first, second and third in the texts of an execution
abbrev first_of : List (List ℕ) → List ℕ
first_of [] = []
first_of (x ∷ xs) = x

abbrev rest_of : List (List ℕ) → List (List ℕ)
rest_of [] = []
rest_of (x ∷ xs) = xs

abbrev number_in : List ℕ → ℕ
number_in [] = 0
number_in (n ∷ ns) = n

abbrev kind_of : List (List ℕ) → ℕ
kind_of xs = number_in (first_of (rest_of xs))

abbrev last_of : List (List ℕ) → List ℕ
last_of xs = first_of (rest_of (rest_of xs))

other_kind : (xs ys : List (List ℕ)) (m n : ℕ) → kind_of xs ≡ m → kind_of ys ≡ n → (m ≡ n → ⊥) → xs ≡ ys → ⊥
other_kind xs ys m n a b apart e = apart (sym a ∙ ap kind_of e ∙ b)

pub execution_exact : (default : List ℕ) (k q : Key) → is_execution k ≡ true → is_execution q ≡ true → execution_texts default k ≡ execution_texts default q → k ≡ q
execution_exact default (Read path) q x y e = absurd (true≢false (sym x))
execution_exact default (Resolve label) q x y e = absurd (true≢false (sym x))
execution_exact default (Unit_of (Setup t)) (Read path) x y e = absurd (true≢false (sym y))
execution_exact default (Unit_of (Setup t)) (Resolve label) x y e = absurd (true≢false (sym y))
execution_exact default (Unit_of (Setup t)) (Unit_of (Setup u)) x y e = ap (λ z. Unit_of (Setup z)) (toolchain_exact [] t u (ap first_of e))
execution_exact default (Unit_of (Setup t)) (Import (early u) path) x y e = absurd (other_kind _ _ 0 1 refl refl (λ h. omega (arith, h)) e)
execution_exact default (Unit_of (Setup t)) (Import (usual u) path) x y e = absurd (other_kind _ _ 0 2 refl refl (λ h. omega (arith, h)) e)
execution_exact default (Unit_of (Setup t)) (Unit_of (Load dir u)) x y e = absurd (other_kind _ _ 0 3 refl refl (λ h. omega (arith, h)) e)
execution_exact default (Import (early t) p) (Read path) x y e = absurd (true≢false (sym y))
execution_exact default (Import (early t) p) (Resolve label) x y e = absurd (true≢false (sym y))
execution_exact default (Import (early t) p) (Unit_of (Setup u)) x y e = absurd (other_kind _ _ 1 0 refl refl (λ h. omega (arith, h)) e)
execution_exact default (Import (early t) p) (Import (early u) q) x y e =
    let toolchain = toolchain_exact [] t u (ap first_of e) in
    let path : p ≡ q = ap last_of e in
    λ i. Import (early (toolchain i)) (path i)
execution_exact default (Import (early t) p) (Import (usual u) q) x y e = absurd (other_kind _ _ 1 2 refl refl (λ h. omega (arith, h)) e)
execution_exact default (Import (early t) p) (Unit_of (Load dir u)) x y e = absurd (other_kind _ _ 1 3 refl refl (λ h. omega (arith, h)) e)
execution_exact default (Import (usual t) p) (Read path) x y e = absurd (true≢false (sym y))
execution_exact default (Import (usual t) p) (Resolve label) x y e = absurd (true≢false (sym y))
execution_exact default (Import (usual t) p) (Unit_of (Setup u)) x y e = absurd (other_kind _ _ 2 0 refl refl (λ h. omega (arith, h)) e)
execution_exact default (Import (usual t) p) (Import (early u) q) x y e = absurd (other_kind _ _ 2 1 refl refl (λ h. omega (arith, h)) e)
execution_exact default (Import (usual t) p) (Import (usual u) q) x y e =
    let toolchain = toolchain_exact default t u (ap first_of e) in
    let path : p ≡ q = ap last_of e in
    λ i. Import (usual (toolchain i)) (path i)
execution_exact default (Import (usual t) p) (Unit_of (Load dir u)) x y e = absurd (other_kind _ _ 2 3 refl refl (λ h. omega (arith, h)) e)
execution_exact default (Unit_of (Load d t)) (Read path) x y e = absurd (true≢false (sym y))
execution_exact default (Unit_of (Load d t)) (Resolve label) x y e = absurd (true≢false (sym y))
execution_exact default (Unit_of (Load d t)) (Unit_of (Setup u)) x y e = absurd (other_kind _ _ 3 0 refl refl (λ h. omega (arith, h)) e)
execution_exact default (Unit_of (Load d t)) (Import (early u) q) x y e = absurd (other_kind _ _ 3 1 refl refl (λ h. omega (arith, h)) e)
execution_exact default (Unit_of (Load d t)) (Import (usual u) q) x y e = absurd (other_kind _ _ 3 2 refl refl (λ h. omega (arith, h)) e)
execution_exact default (Unit_of (Load d t)) (Unit_of (Load c u)) x y e =
    let toolchain = toolchain_exact default t u (ap first_of e) in
    let dir : d ≡ c = ap last_of e in
    λ i. Unit_of (Load (dir i) (toolchain i))

-- Build files

pub file_unit : (k : Key) → is_build_file k ≡ true → (u : Unit_key) × (k ≡ Unit_of u) × IsLoad u
file_unit (Read path) e = absurd (true≢false (sym e))
file_unit (Import m path) e = absurd (true≢false (sym e))
file_unit (Unit_of (Setup t)) e = absurd (true≢false (sym e))
file_unit (Unit_of (Load dir t)) e = (Load dir t, refl, tt)
file_unit (Resolve label) e = absurd (true≢false (sym e))

pub unit_file : (u : Unit_key) → IsLoad u → is_build_file (Unit_of u) ≡ true
unit_file (Setup t) load = absurd load
unit_file (Load dir t) load = refl

file_execution : (k : Key) → is_build_file k ≡ true → is_execution k ≡ true
file_execution k e = let u = file_unit k e in ap is_execution u.1

-- Labels in facts

step_label : (s : Step) (label : Label) → In (label_in_step s) label → s ≡ Holding (Is_generated label)
step_label (Holding (Is_reached k)) label i = absurd i
step_label (Holding (Is_wanted d t)) label i = absurd i
step_label (Holding (Is_generated l)) label (inl e) = ap (λ z. Holding (Is_generated z)) e
step_label (Holding (Is_generated l)) label (inr i) = absurd i
step_label (Asked l) label i = absurd i
step_label (Used t) label i = absurd i
step_label (Defined t) label i = absurd i
step_label (Set_up t) label i = absurd i

module _ (w : World) (lay : IsLayered w) where
  pub not_large : (known : List ℕ → Bool) → exceeds_limits w known ≡ false → IsTooLarge w.home (units (all_meanings w)) → ⊥
  not_large known within large = true≢false (sym ((limits_computed w lay known).1 (inl large)) ∙ within)

  module _ (small : IsTooLarge w.home (units (all_meanings w)) → ⊥) where
    -- what is needed is wanted

    wanted_unit : (u : Unit_key) (k : Key) → In (units_reached w) u → In (executions_of_unit w u) k → Wanted w k × (is_execution k ≡ true)
    wanted_unit u k r (inl e) = subst (λ z. Wanted w z × (is_execution z ≡ true)) e (listed_reached w lay small u r, refl)
    wanted_unit u k r (inr i) =
        let p = in_map (Import (layer_of u)) (imports_asked (unit_asks w u)) k i in
        subst (λ z. Wanted w z × (is_execution z ≡ true)) p.2
        (needed_unit w lay u (listed_reached w lay small u r) (import_of p.0) (one_import (unit_asks w u) p.0 (in_one (imports_asked (unit_asks w u)) p.0 p.1)), refl)

    pub needed_wanted : (k : Key) → In (executions_needed w) k → Wanted w k × (is_execution k ≡ true)
    unfolding executions_needed
    needed_wanted k i = let u = in_flat (executions_of_unit w) (units_reached w) k i in wanted_unit u.0 k u.1 u.2

    import_listed : (m : Layer) (path : List ℕ) → IsNeeded w (all_meanings w) (Import m path) → In (executions_needed w) (Import m path)
    unfolding executions_needed
    import_listed m path n =
        let r = unit_needed w lay (Import m path) n in
        let e = key_import m (layer_of r.0) path r.2 r.3 in
        let asked : IsAsked (unit_asks w r.0) (import_of path) = subst (IsAsked (unit_asks w r.0)) e.0 r.4 in
        let there = map_in (Import (layer_of r.0)) (imports_asked (unit_asks w r.0)) path (one_in (imports_asked (unit_asks w r.0)) path (import_one (unit_asks w r.0) path asked)) in
        flat_in (executions_of_unit w) (units_reached w) r.0 (Import m path) (reached_listed w lay small r.0 r.1)
        (inr (subst (λ z. In (map (Import (layer_of r.0)) (imports_asked (unit_asks w r.0))) (Import z path)) (sym e.1) there))

    unit_listed : (u : Unit_key) → Holds w.home (units (all_meanings w)) (Is_reached u) → In (executions_needed w) (Unit_of u)
    unfolding executions_needed
    unit_listed u h = flat_in (executions_of_unit w) (units_reached w) u (Unit_of u) (reached_listed w lay small u h) (inl refl)

    pub wanted_needed : (k : Key) → is_execution k ≡ true → Wanted w k → In (executions_needed w) k
    wanted_needed (Read path) e h = absurd (true≢false (sym e))
    wanted_needed (Import m path) e h = import_listed m path h
    wanted_needed (Unit_of u) e h = unit_listed u h
    wanted_needed (Resolve label) e h = absurd (true≢false (sym e))

    pub exact_needed : (default : List ℕ) → IsExactOn (execution_texts default) (executions_needed w)
    exact_needed default k q i j e = execution_exact default k q (needed_wanted k i).1 (needed_wanted q j).1 e

    -- the build files that are reached, each once

    abbrev pub files_in_order : List Key
    files_in_order = filter is_build_file (executions_in_order w)

    pub files_distinct : IsDistinct same_key files_in_order
    unfolding executions_in_order
    files_distinct = distinct_filter is_build_file same_key (executions_in_order w) (ordered_distinct (execution_texts (default_meant w)) same_key key_tested (executions_needed w))

    pub file_there : (k : Key) → is_build_file k ≡ true → Wanted w k → In files_in_order k
    unfolding executions_in_order
    file_there k e h =
        filter_in is_build_file (executions_in_order w) k
        (in_ordered (execution_texts (default_meant w)) (executions_needed w) (exact_needed (default_meant w)) k (wanted_needed k (file_execution k e) h)) e

    pub there_file : (k : Key) → In files_in_order k → Wanted w k × (is_build_file k ≡ true)
    unfolding executions_in_order
    there_file k i =
        let f = in_filter is_build_file (executions_in_order w) k i in
        ((needed_wanted k (ordered_in (execution_texts (default_meant w)) (executions_needed w) k f.0)).0, f.1)

    -- the labels that are generated

    pub label_listed : (label : Label) → Holds w.home (units (all_meanings w)) (Is_generated label) → In (labels_generated w) label
    unfolding labels_generated
    label_listed label h =
        flat_in label_in_step (all_facts w.home (units (all_meanings w))) (Holding (Is_generated label)) label
        (member_in same_step step_tested (all_facts w.home (units (all_meanings w))) (Holding (Is_generated label)) ((computed_least w.home (units (all_meanings w)) small (Is_generated label)).1 h))
        (inl refl)

    pub listed_label : (label : Label) → In (labels_generated w) label → Holds w.home (units (all_meanings w)) (Is_generated label)
    unfolding labels_generated
    listed_label label i =
        let k = in_flat label_in_step (all_facts w.home (units (all_meanings w))) label i in
        computed_sound w.home (units (all_meanings w)) (Is_generated label)
        (in_member same_step step_tested (all_facts w.home (units (all_meanings w))) (Holding (Is_generated label)) (subst (In (all_facts w.home (units (all_meanings w)))) (step_label k.0 label k.2) k.1))

-- no more build files are reached than are counted
pub reached_are_counted : ReachedAreCounted
unfolding files_reached
reached_are_counted files known n within (ks, distinct, long, reached) =
    let small = not_large (world_of files) (whole_builds_are_layered files) known within in
    let few = no_longer same_key key_tested (map Unit_of ks) (files_in_order (world_of files) (whole_builds_are_layered files) small) (distinct_keys ks distinct) (λ k i.
    let u = in_map Unit_of ks k i in
    let r = reached u.0 u.1 in
    subst (In (files_in_order (world_of files) (whole_builds_are_layered files) small)) u.2
    (file_there (world_of files) (whole_builds_are_layered files) small (Unit_of u.0) (unit_file u.0 r.0) r.1)) in
    let same = long_map Unit_of ks in
    omega (arith, long, few, same)
