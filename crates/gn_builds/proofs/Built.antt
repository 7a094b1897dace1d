-- What a build leaves that has come to rest: what its executions leave, in their order, and the labels that it generates.
use Rattle.std.proofs.Common.{◌≡◌, inl, inr, ℕ, List, [], ◌∷◌, ◌++◌, map, Option, true, false, if◌then◌else◌, refl, sym, ◌∙◌, ap, subst}
use Rattle.std.specs.List.{flat_map}
use Rattle.std.specs.List.Sorted.{IsStrictlySortedBy}
use Rattle.std.specs.Ordering.{nat_cmp}
use Rattle.std.specs.Cmp.Lexicographic.{slice_cmp}
use Rattle.gn_labels.specs.declared.label.Label.{Label}
use Rattle.gn_labels.specs.Labels.{order_key}
use Rattle.gn_runs.specs.Runs.{Question, content_of, import_of}
use Rattle.gn_runs.specs.Laws.{IsAsked}
use Rattle.gn_imports.specs.Asked.{in_path_order}
use Rattle.gn_closure.specs.Closure.{In}
use Rattle.gn_closure.specs.Reach.{Unit_key, Setup, Load, Is_reached, Is_generated, Holds}
use Rattle.gn_closure.specs.Least.{IsTooLarge}
use Rattle.gn_closure.proofs.Least.{first_held}
use Rattle.gn_graph.specs.Needs.{home}
use Rattle.gn_core.specs.Keys.{Key, Read, Import, Unit_of, Resolve, Answer, Filed, content_in, unit_in, units}
use Rattle.gn_core.specs.Worlds.{all_meanings}
use Rattle.gn_core.specs.Layered.{IsLayered}
use Rattle.gn_core.specs.Machine.{IsFiled, HasLoaded, IsOpening, asked_in, by_unit}
use Rattle.gn_core.specs.Statements.{Wanted}
use Rattle.gn_core.proofs.Quiet.{Both, back, holds_above}
use Rattle.gn_book.specs.Graphs.{is_unit}
use Rattle.gn_book.specs.Logs.{Log, opening, state_of, key_at}
use Rattle.gn_projects.specs.Files.{Files}
use Rattle.gn_projects.specs.Worlds.{world_of}
use Rattle.gn_projects.specs.Errors.{default_told}
use Rattle.gn_projects.specs.Loaded.{effects_of, in_order_by, execution_texts, executions_needed, labels_generated, default_meant, executions_in_order, is_there, first_there, loaded_by_key, shown_of_key, written_under, written_by_key, files_loaded, files_imported, files_written, build_meant}
use Rattle.gn_projects.proofs.Layered.{whole_builds_are_layered}
use Rattle.gn_builds.specs.Rest.{IsAtRest, RestIsBuilt, effects_at, is_execution, AreInOrder, AreGenerated, default_filed}
use Rattle.gn_builds.proofs.Logs.{opens}
use Rattle.gn_builds.proofs.Named.{number_of, found_number}
use Rattle.gn_builds.proofs.Members.{map_in, in_map, map_both, map_same}
use Rattle.gn_builds.proofs.Orders.{in_order_same}
use Rattle.gn_builds.proofs.Executions.{label_exact, needed_wanted, wanted_needed, exact_needed, label_listed, listed_label}
use Rattle.gn_builds.proofs.Asked.{meant, filed_wanted, driven_both}
use Rattle.gn_builds.proofs.Rest.{named_at, rest_is_loaded, unit_filed, key_filed, execution_filed, small_units}

-- Lists of files

flat_same : {A B : Type 0} (f g : A → List B) (xs : List A) → ((x : A) → In xs x → f x ≡ g x) → flat_map f xs ≡ flat_map g xs
flat_same f g [] same = refl
flat_same f g (x ∷ xs) same = λ i. same x (inl refl) i ++ flat_same f g xs (λ y j. same y (inr j)) i

-- the first file there is the same where the contents are that are asked for
first_same : (a b : Filed) (qs : List Question) → ((path : List ℕ) → IsAsked qs (content_of path) → a (Read path) ≡ b (Read path)) → first_there a qs ≡ first_there b qs
first_same a b [] same = refl
first_same a b (content_of path ∷ qs) same =
    let this = same path (inl refl) in
    let rest = first_same a b qs (λ p i. same p (inr i)) in
    λ i. if is_there (content_in (this i)) then path ∷ [] else rest i
first_same a b (import_of path ∷ qs) same = first_same a b qs (λ p i. same p (inr i))

module _ (files : Files) (l : Log) (rest : IsAtRest files l) (small : IsTooLarge home (units (all_meanings (world_of files))) → ⊥) where
  abbrev layered : IsLayered (world_of files)
  layered = whole_builds_are_layered files

  abbrev opened : IsOpening (world_of files) (λ path. false) opening
  opened = opens (world_of files)

  both : Both (world_of files) layered (λ path. false) opening opened (state_of l)
  both = driven_both files l [] rest.driven rest.over

  all : HasLoaded (world_of files) (state_of l)
  all = rest_is_loaded files l rest

  same_answer : (k : Key) → IsFiled (state_of l).filed k → (state_of l).filed k ≡ all_meanings (world_of files) k
  same_answer k f = f.1 ∙ sym (meant (world_of files) layered opened (state_of l) both k f.0 f.1)

  generated_up : (label : Label) → Holds home (units (state_of l).filed) (Is_generated label) → Holds home (units (all_meanings (world_of files))) (Is_generated label)
  generated_up label h = holds_above (world_of files) layered opening (state_of l) both.inv both.bases both.scope opened.records opened.units (Is_generated label) h

  generated_down : (label : Label) → Holds home (units (all_meanings (world_of files))) (Is_generated label) → Holds home (units (state_of l).filed) (Is_generated label)
  generated_down label h = back (world_of files) layered opening (state_of l) both.inv both.bases both.scope opened.records opened.units all (Is_generated label) h

  reached_up : (u : Unit_key) → Holds home (units (state_of l).filed) (Is_reached u) → Holds home (units (all_meanings (world_of files))) (Is_reached u)
  reached_up u h = holds_above (world_of files) layered opening (state_of l) both.inv both.bases both.scope opened.records opened.units (Is_reached u) h

  -- the default toolchain
  default_same : default_filed l ≡ default_meant (world_of files)
  default_same =
      let first = unit_filed (world_of files) layered opened (state_of l) both all (Setup []) (first_held home (units (all_meanings (world_of files)))) in
      ap (λ (v : Option Answer). default_told (unit_in v)) (same_answer (Unit_of (Setup [])) first)

  -- an execution that has a number is one that the build needs, and it has its answer

  import_wanted : (k : Key) → In l.keys k → is_unit k ≡ false → Wanted (world_of files) k
  import_wanted k i e =
      filed_wanted (world_of files) layered opened (state_of l) both k
      (elim (rest.driven.named.begun k i e) [ inl none ↦ absurd none | inr f ↦ f ])

  numbered_wanted : (k : Key) → In l.keys k → is_execution k ≡ true → Wanted (world_of files) k
  numbered_wanted (Read path) i e = import_wanted (Read path) i refl
  numbered_wanted (Import m path) i e = import_wanted (Import m path) i refl
  numbered_wanted (Unit_of u) i e = reached_up u ((rest.numbers u).0 (number_of l.keys (Unit_of u) i))
  numbered_wanted (Resolve label) i e = absurd (rest.driven.named.labels label i)

  filed_execution : (k : Key) → is_execution k ≡ true → Wanted (world_of files) k → IsFiled (state_of l).filed k
  filed_execution k e h = execution_filed (world_of files) layered opened (state_of l) both all k e h

  module _ (numbers : List ℕ) (order : AreInOrder (default_filed l) l numbers) where
    abbrev keys : List Key
    keys = map (key_at l) numbers

    keys_sorted : IsStrictlySortedBy (slice_cmp (slice_cmp nat_cmp)) (map (execution_texts (default_filed l)) keys)
    keys_sorted = subst (IsStrictlySortedBy (slice_cmp (slice_cmp nat_cmp))) (sym (map_both (execution_texts (default_filed l)) (key_at l) numbers)) order.sorted

    -- the key of one of these numbers
    key_wanted : (n : ℕ) → In numbers n → (is_execution (key_at l n) ≡ true) × Wanted (world_of files) (key_at l n)
    key_wanted n i =
        let at = order.each n i in
        subst (λ (k : Key). (is_execution k ≡ true) × Wanted (world_of files) k) (sym (named_at l n at.0 at.1)) (at.2, numbered_wanted at.0 (found_number l.keys n at.0 at.1) at.2)

    key_needed : (k : Key) → In keys k → In (executions_needed (world_of files)) k
    key_needed k i =
        let n = in_map (key_at l) numbers k i in
        let h = key_wanted n.0 n.1 in
        subst (In (executions_needed (world_of files))) n.2 (wanted_needed (world_of files) layered small (key_at l n.0) h.0 h.1)

    needed_key : (k : Key) → In (executions_needed (world_of files)) k → In keys k
    needed_key k i =
        let h = needed_wanted (world_of files) layered small k i in
        let at = number_of l.keys k (rest.driven.named.filed k (filed_execution k h.1 h.0)) in
        subst (In keys) (named_at l at.0 k at.1) (map_in (key_at l) numbers at.0 (order.all at.0 k at.1 h.1))

    executions_same : executions_in_order (world_of files) ≡ keys
    unfolding executions_in_order
    executions_same =
        ap (λ (default : List ℕ). in_order_by (execution_texts default) (executions_needed (world_of files))) (sym default_same)
        ∙ sym (in_order_same (execution_texts (default_filed l)) (executions_needed (world_of files)) keys (exact_needed (world_of files) layered small (default_filed l)) keys_sorted key_needed needed_key)

    left_same : (n : ℕ) → In numbers n → effects_of (all_meanings (world_of files) (key_at l n)) ≡ effects_at l n
    left_same n i = let h = key_wanted n i in ap effects_of (sym (same_answer (key_at l n) (filed_execution (key_at l n) h.0 h.1)))

    all_left : map (λ (k : Key). effects_of (all_meanings (world_of files) k)) (executions_in_order (world_of files)) ≡ map (effects_at l) numbers
    all_left =
        ap (map (λ (k : Key). effects_of (all_meanings (world_of files) k))) executions_same
        ∙ map_both (λ (k : Key). effects_of (all_meanings (world_of files) k)) (key_at l) numbers
        ∙ map_same (λ n. effects_of (all_meanings (world_of files) (key_at l n))) (effects_at l) numbers left_same

    -- Files

    key_answered : (k : Key) → In keys k → (state_of l).filed k ≡ all_meanings (world_of files) k
    key_answered k i = let h = needed_wanted (world_of files) layered small k (key_needed k i) in same_answer k (filed_execution k h.1 h.0)

    -- the contents for which a unit asks that is reached are known
    content_same : (u : Unit_key) → Wanted (world_of files) (Unit_of u) → (path : List ℕ) → IsAsked (asked_in (all_meanings (world_of files) (Unit_of u))) (content_of path) → all_meanings (world_of files) (Read path) ≡ (state_of l).filed (Read path)
    content_same u h path i = sym (same_answer (Read path) (key_filed (world_of files) layered opened (state_of l) both all (Read path) (by_unit u (content_of path) h i)))

    file_same : (k : Key) → Wanted (world_of files) k → all_meanings (world_of files) k ≡ (state_of l).filed k → loaded_by_key (all_meanings (world_of files)) k ≡ loaded_by_key (state_of l).filed k
    file_same (Read path) h e = refl
    file_same (Import m path) h e = refl
    file_same (Resolve label) h e = refl
    file_same (Unit_of (Setup t)) h e = refl
    file_same (Unit_of (Load dir t)) h e =
        first_same (all_meanings (world_of files)) (state_of l).filed (asked_in (all_meanings (world_of files) (Unit_of (Load dir t)))) (content_same (Load dir t) h)
        ∙ ap (λ (v : Option Answer). first_there (state_of l).filed (asked_in v)) e

    all_loaded : files_loaded (all_meanings (world_of files)) (executions_in_order (world_of files)) ≡ files_loaded (state_of l).filed keys
    unfolding files_loaded
    all_loaded =
        ap (λ (ks : List Key). in_path_order (flat_map (loaded_by_key (all_meanings (world_of files))) ks)) executions_same
        ∙ ap in_path_order (flat_same (loaded_by_key (all_meanings (world_of files))) (loaded_by_key (state_of l).filed) keys
        (λ k i. file_same k (needed_wanted (world_of files) layered small k (key_needed k i)).0 (sym (key_answered k i))))

    all_written : files_written (default_meant (world_of files)) (all_meanings (world_of files)) (executions_in_order (world_of files)) ≡ files_written (default_filed l) (state_of l).filed keys
    unfolding files_written
    all_written =
        ap (λ (default : List ℕ). flat_map (written_by_key default (all_meanings (world_of files))) (executions_in_order (world_of files))) (sym default_same)
        ∙ ap (flat_map (written_by_key (default_filed l) (all_meanings (world_of files)))) executions_same
        ∙ flat_same (written_by_key (default_filed l) (all_meanings (world_of files))) (written_by_key (default_filed l) (state_of l).filed) keys
        (λ k i. ap (λ (v : Option Answer). written_under (shown_of_key (default_filed l) k) (effects_of v).written) (sym (key_answered k i)))

  module _ (labels : List Label) (generated : AreGenerated (default_filed l) l labels) where
    labels_same : in_order_by (order_key (default_meant (world_of files))) (labels_generated (world_of files)) ≡ labels
    labels_same =
        ap (λ (default : List ℕ). in_order_by (order_key default) (labels_generated (world_of files))) (sym default_same)
        ∙ sym (in_order_same (order_key (default_filed l)) (labels_generated (world_of files)) labels (λ a b i j e. label_exact (default_filed l) a b e) generated.sorted
        (λ label i. label_listed (world_of files) layered small label (generated_up label ((generated.all label).0 i)))
        (λ label i. (generated.all label).1 (generated_down label (listed_label (world_of files) layered small label i))))

pub rest_is_built : RestIsBuilt
unfolding build_meant
rest_is_built known files l numbers labels rest within order generated =
    let small = small_units files l rest known within in
    λ i. record {
      default = sym (default_same files l rest small) i;
      executions = all_left files l rest small numbers order i;
      generated = labels_same files l rest small labels generated i;
      loaded = all_loaded files l rest small numbers order i;
      imported = files_imported (executions_same files l rest small numbers order i);
      written = all_written files l rest small numbers order i;
    }
