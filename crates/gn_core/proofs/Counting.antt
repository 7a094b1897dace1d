-- The limits are computed.
use Rattle.std.proofs.Common.{◌≡◌, ℕ, suc, ◌<◌, ltb, length, List, [], ◌∷◌, Some, refl, sym, ◌∙◌, ap, subst, ◌⊎◌, inl, inr, Bool, true, false, not, ◌||◌, cond, map, arith}
use Rattle.std.specs.Bool.{Decides}
use Rattle.std.specs.List.{flat_map, list_any, filter, IsDistinct, AllByRecursion}
use Rattle.std.specs.Set.{is_member}
use Rattle.std.proofs.lemmas.Bool.Decides.{Decides-ltb}
use Rattle.std.proofs.lemmas.Map.Made.{length-le_from_is_member}
use Rattle.std.proofs.lemmas.Map.Keys.{IsDistinct-from_sorted}
use Rattle.std.proofs.lemmas.Bool.{or_cases, or_left, or_right, not-true, not_from_false}
use Rattle.gn_definitions.specs.Imported.{ImportState}
use Rattle.gn_runs.specs.Runs.{Question, content_of, import_of, End, ended, wrong, spoiled, needs, Run}
use Rattle.gn_runs.specs.Laws.{IsAsked}
use Rattle.gn_imports.specs.Rounds.{Project}
use Rattle.gn_imports.specs.Asked.{asked_by, all_asked, imports_asked, in_path_order}
use Rattle.gn_imports.specs.Projects.{IsOneOf, IsProject}
use Rattle.gn_imports.proofs.Final.{final_run}
use Rattle.gn_imports.proofs.Asked.{all_asked_given, all_asked_closed, all_asked_least}
use Rattle.gn_imports.proofs.PathOrder.{path_cmp, path_eq, path_eq-Decides, order_sorted, order_has, content_one, one_content, import_one, one_import}
use Rattle.gn_closure.specs.Closure.{In}
use Rattle.gn_closure.specs.Reach.{Unit_key, Is_reached, Is_wanted, Is_generated, Holds}
use Rattle.gn_closure.specs.Ground.{Step, Holding, Asked, Used, Defined, Set_up}
use Rattle.gn_closure.specs.Computed.{same_step, all_facts, is_too_large}
use Rattle.gn_closure.specs.Least.{IsTooLarge}
use Rattle.gn_closure.proofs.Closed.{same_equiv, member_first, member_more, member_in}
use Rattle.gn_closure.proofs.Opened.{in_flat, flat_in}
use Rattle.gn_closure.proofs.SameStep.{step_tested}
use Rattle.gn_closure.proofs.Least.{limits_exact, computed_sound, computed_least}
use Rattle.gn_core.specs.Keys.{Layer, Key, Read, Import, Unit_of, Answer, layer_of, key_of, units, same_key, Leaving}
use Rattle.gn_core.specs.Worlds.{World, project, last_run, import_as, all_meanings}
use Rattle.gn_core.specs.Layered.{IsLayered}
use Rattle.gn_core.specs.Machine.{import_limit, read_limit, asked_in, IsNeeded, by_unit, by_import, NeededBy, itself, through, HasMore, IsImport, Exceeds}
use Rattle.gn_core.specs.Counted.{imports_needed, unit_asks, unit_in_step, units_reached, is_large, has_large_import, files_of, files_read, LimitsAreComputed}
use Rattle.gn_core.proofs.Puts.{same_key_is, key_own}
use Rattle.gn_core.proofs.Lowered.{true_fixed}

-- Lists

key_tested : (k q : Key) → Decides (same_key k q) (k ≡ q)
key_tested k q = (same_key_is k q, λ e. subst (λ z. same_key k z ≡ true) e (key_own k))

module _ {F : Type 0} (same : F → F → Bool) (tested : (a b : F) → Decides (same a b) (a ≡ b)) where
  in_member : (xs : List F) (q : F) → In xs q → is_member same xs q ≡ true
  in_member [] q i = absurd i
  in_member (x ∷ xs) q (inl e) = subst (λ z. is_member same (x ∷ xs) z ≡ true) e (member_first same tested x xs)
  in_member (x ∷ xs) q (inr i) = member_more same tested x xs q (in_member xs q i)

one_in : (ps : List (List ℕ)) (p : List ℕ) → IsOneOf p ps → In ps p
one_in [] p h = absurd h
one_in (q ∷ ps) p (inl e) = inl (sym e)
one_in (q ∷ ps) p (inr h) = inr (one_in ps p h)

in_one : (ps : List (List ℕ)) (p : List ℕ) → In ps p → IsOneOf p ps
in_one [] p h = absurd h
in_one (q ∷ ps) p (inl e) = inl (sym e)
in_one (q ∷ ps) p (inr h) = inr (in_one ps p h)

module _ {A : Type 0} (test : A → Bool) where
  any_some : (xs : List A) → list_any test xs ≡ true → (x : A) × In xs x × (test x ≡ true)
  any_some [] h = cc
  any_some (x ∷ xs) h = go (or_cases (test x) (list_any test xs) h) (λ e. any_some xs e)
    where
      go : (test x ≡ true) ⊎ (list_any test xs ≡ true) → (list_any test xs ≡ true → (y : A) × In xs y × (test y ≡ true)) → (y : A) × In (x ∷ xs) y × (test y ≡ true)
      go (inl e) ih = (x, inl refl, e)
      go (inr e) ih = let m = ih e in (m.0, inr m.1, m.2)

  some_any : (xs : List A) (x : A) → In xs x → test x ≡ true → list_any test xs ≡ true
  some_any [] x i h = absurd i
  some_any (y ∷ xs) x (inl e) h = or_left (test y) (list_any test xs) (ap test e ∙ h)
  some_any (y ∷ xs) x (inr i) h = or_right (test y) (list_any test xs) (some_any xs x i h)

  filter_in : (xs : List A) (x : A) → In xs x → test x ≡ true → In (filter test xs) x
  filter_in [] x i h = absurd i
  filter_in (y ∷ xs) x i h = go (test y) refl i (λ j. filter_in xs x j h)
    where
      go : (b : Bool) → test y ≡ b → In (y ∷ xs) x → (In xs x → In (filter test xs) x) → In (cond b (y ∷ filter test xs) (filter test xs)) x
      go true e (inl k) ih = inl k
      go true e (inr j) ih = inr (ih j)
      go false e (inl k) ih = let t : test y ≡ true = ap test k ∙ h in cc
      go false e (inr j) ih = ih j

  in_filter : (xs : List A) (x : A) → In (filter test xs) x → In xs x × (test x ≡ true)
  in_filter [] x i = absurd i
  in_filter (y ∷ xs) x i = go (test y) refl i (λ j. in_filter xs x j)
    where
      go : (b : Bool) → test y ≡ b → In (cond b (y ∷ filter test xs) (filter test xs)) x → (In (filter test xs) x → In xs x × (test x ≡ true)) → In (y ∷ xs) x × (test x ≡ true)
      go true e (inl k) ih = (inl k, ap test (sym k) ∙ e)
      go true e (inr j) ih = let m = ih j in (inr m.0, m.1)
      go false e j ih = let m = ih j in (inr m.0, m.1)

-- Keys of paths, counted

module _ (f : List ℕ → Key) (exact : (p q : List ℕ) → f p ≡ f q → p ≡ q) where
  in_made : (ps : List (List ℕ)) (p : List ℕ) → IsOneOf p ps → In (map f ps) (f p)
  in_made [] p h = absurd h
  in_made (q ∷ ps) p (inl e) = inl (ap f (sym e))
  in_made (q ∷ ps) p (inr h) = inr (in_made ps p h)

  made_in : (ps : List (List ℕ)) (k : Key) → In (map f ps) k → (p : List ℕ) × (k ≡ f p) × IsOneOf p ps
  made_in [] k h = absurd h
  made_in (q ∷ ps) k (inl e) = (q, sym e, inl refl)
  made_in (q ∷ ps) k (inr h) = let m = made_in ps k h in (m.0, m.1, inr m.2)

  long_made : (ps : List (List ℕ)) → length (map f ps) ≡ length ps
  long_made [] = refl
  long_made (p ∷ ps) = ap suc (long_made ps)

  apart_made : (p : List ℕ) (ps : List (List ℕ)) → AllByRecursion (λ y. path_eq p y ≡ false) ps → AllByRecursion (λ y. same_key (f p) y ≡ false) (map f ps)
  apart_made p [] h = tt
  apart_made p (q ∷ ps) h = (go (same_key (f p) (f q)) refl, apart_made p ps h.1)
    where
      go : (b : Bool) → same_key (f p) (f q) ≡ b → b ≡ false
      go true e =
          let yes_same : path_eq p q ≡ true = (path_eq-Decides p q).1 (exact p q ((key_tested (f p) (f q)).0 e)) in
          let not_same : path_eq p q ≡ false = h.0 in
          cc
      go false e = refl

  distinct_made : (ps : List (List ℕ)) → IsDistinct path_eq ps → IsDistinct same_key (map f ps)
  unfolding IsDistinct
  distinct_made [] h = tt
  distinct_made (p ∷ ps) h = (apart_made p ps h.0, distinct_made ps h.1)

  -- there are more such keys exactly where there are more such paths
  module _ (P : Key → Type 0) (ps : List (List ℕ)) (to : (k : Key) → P k → (p : List ℕ) × (k ≡ f p) × IsOneOf p ps) (from : (p : List ℕ) → IsOneOf p ps → P (f p)) (limit : ℕ) where
    more_counted : HasMore P limit → limit < length (in_path_order ps)
    more_counted h =
        omega (
          arith,
          h.2,
          long_made (in_path_order ps),
          length-le_from_is_member (same_equiv same_key key_tested) h.0 (map f (in_path_order ps)) h.1 member,
        )
      where
        member : (q : Key) → is_member same_key h.0 q ≡ true → is_member same_key (map f (in_path_order ps)) q ≡ true
        member q i =
            let t = to q (h.3 q (member_in same_key key_tested h.0 q i)) in
            in_member same_key key_tested (map f (in_path_order ps)) q
            (subst (In (map f (in_path_order ps))) (sym t.1) (in_made (in_path_order ps) t.0 ((order_has ps t.0).1 t.2)))

    counted_more : limit < length (in_path_order ps) → HasMore P limit
    counted_more h = (
      map f (in_path_order ps),
      distinct_made (in_path_order ps) (IsDistinct-from_sorted path_cmp (in_path_order ps) (order_sorted ps)),
      subst (λ z. limit < z) (sym (long_made (in_path_order ps))) h,
      λ k i. let m = made_in (in_path_order ps) k i in subst P (sym m.1) (from m.0 ((order_has ps m.0).0 m.2)),
    )

-- What is needed is what is asked

as_asked : (end : End (Leaving ImportState)) (asked : List Question) → asked_in (Some (import_as end asked)) ≡ asked
as_asked (ended x) asked = refl
as_asked (wrong fault) asked = refl
as_asked (spoiled path place) asked = refl
as_asked (needs (content_of path) place) asked = refl
as_asked (needs (import_of path) place) asked = refl

pub key_import : (m n : Layer) (path : List ℕ) (q : Question) → Import m path ≡ key_of n q → (q ≡ import_of path) × (m ≡ n)
key_import m n path (content_of r) e = cc
key_import m n path (import_of r) e = (cc, cc)

key_read : (n : Layer) (path : List ℕ) (q : Question) → Read path ≡ key_of n q → q ≡ content_of path
key_read n path (content_of r) e = cc
key_read n path (import_of r) e = cc

import_exact : (l : Layer) (p q : List ℕ) → Import l p ≡ Import l q → p ≡ q
import_exact l p q e = cc

read_exact : (p q : List ℕ) → Read p ≡ Read q → p ≡ q
read_exact p q e = cc

step_unit : (s : Step) (u : Unit_key) → In (unit_in_step s) u → s ≡ Holding (Is_reached u)
step_unit (Holding (Is_reached k)) u (inl e) = ap (λ z. Holding (Is_reached z)) e
step_unit (Holding (Is_reached k)) u (inr i) = absurd i
step_unit (Holding (Is_wanted d t)) u i = absurd i
step_unit (Holding (Is_generated l)) u i = absurd i
step_unit (Asked l) u i = absurd i
step_unit (Used t) u i = absurd i
step_unit (Defined t) u i = absurd i
step_unit (Set_up t) u i = absurd i

module _ (w : World) (l : IsLayered w) where
  abbrev layer_project : Layer → Project
  layer_project m = project w (all_meanings w) m

  is_project : (m : Layer) → IsProject (layer_project m)
  is_project m = l.is.projects (all_meanings w) m

  asked_is : (m : Layer) (path : List ℕ) → asked_in (all_meanings w (Import m path)) ≡ asked_by (layer_project m) path
  unfolding last_run
  asked_is m path =
      ap (λ (v : Answer). asked_in (Some v)) (true_fixed w l (Import m path))
      ∙ as_asked (last_run w (all_meanings w) m path).end (last_run w (all_meanings w) m path).asked
      ∙ sym (ap (λ (r : Run (Leaving ImportState)). r.asked) (final_run (layer_project m) (w.import_run m (all_meanings w) path) (l.is.imports (all_meanings w) m path)))

  pub asked_there : (m : Layer) (path : List ℕ) (q : Question) → IsAsked (asked_in (all_meanings w (Import m path))) q → IsAsked (asked_by (layer_project m) path) q
  asked_there m path q i = subst (λ (z : List Question). IsAsked z q) (asked_is m path) i

  pub there_asked : (m : Layer) (path : List ℕ) (q : Question) → IsAsked (asked_by (layer_project m) path) q → IsAsked (asked_in (all_meanings w (Import m path))) q
  there_asked m path q i = subst (λ (z : List Question). IsAsked z q) (sym (asked_is m path)) i

  -- by one import
  by_asked : (m : Layer) (path : List ℕ) (k : Key) → NeededBy (all_meanings w) m path k → (q : Question) × (k ≡ key_of m q) × IsAsked (all_asked (layer_project m) (import_of path ∷ [])) q
  by_asked m path k itself = (import_of path, refl, all_asked_given (layer_project m) (import_of path ∷ []) (import_of path) (inl refl))
  by_asked m path k (through other q h i) =
      let r = by_asked m path (Import m other) h in
      let e = key_import m m other r.0 r.1 in (
        q,
        refl,
        all_asked_closed (layer_project m) (is_project m) (import_of path ∷ []) other (subst (IsAsked (all_asked (layer_project m) (import_of path ∷ []))) e.0 r.2) q (asked_there m other q i),
      )

  asked_by_it : (m : Layer) (path : List ℕ) (q : Question) → IsAsked (all_asked (layer_project m) (import_of path ∷ [])) q → NeededBy (all_meanings w) m path (key_of m q)
  asked_by_it m path q h =
      all_asked_least (layer_project m) (λ r. NeededBy (all_meanings w) m path (key_of m r)) (λ other n r i. through other r n (there_asked m other r i)) (import_of path ∷ []) first q h
    where
      first : (r : Question) → IsAsked (import_of path ∷ []) r → NeededBy (all_meanings w) m path (key_of m r)
      first r (inl e) = subst (λ z. NeededBy (all_meanings w) m path (key_of m z)) (sym e) itself
      first r (inr i) = absurd i

  module _ (m : Layer) (path : List ℕ) where
    abbrev Needs : Key → Type 0
    Needs q = IsImport q × NeededBy (all_meanings w) m path q

    abbrev needed_paths : List (List ℕ)
    needed_paths = imports_asked (all_asked (layer_project m) (import_of path ∷ []))

    needs_to : (k : Key) → Needs k → (p : List ℕ) × (k ≡ Import m p) × IsOneOf p needed_paths
    needs_to k h = let r = by_asked m path k h.1 in go r.0 r.1 r.2
      where
        go : (q : Question) → k ≡ key_of m q → IsAsked (all_asked (layer_project m) (import_of path ∷ [])) q → (p : List ℕ) × (k ≡ Import m p) × IsOneOf p needed_paths
        go (content_of r) e i = absurd (subst IsImport e h.0)
        go (import_of r) e i = (r, e, import_one (all_asked (layer_project m) (import_of path ∷ [])) r i)

    needs_from : (p : List ℕ) → IsOneOf p needed_paths → Needs (Import m p)
    needs_from p o = (tt, asked_by_it m path (import_of p) (one_import (all_asked (layer_project m) (import_of path ∷ [])) p o))

    large_there : HasMore Needs import_limit → is_large w m path ≡ true
    unfolding imports_needed
    large_there h = (Decides-ltb import_limit (length (imports_needed w m path))).1 (more_counted (Import m) (import_exact m) Needs needed_paths needs_to needs_from import_limit h)

    there_large : is_large w m path ≡ true → HasMore Needs import_limit
    unfolding imports_needed
    there_large h = counted_more (Import m) (import_exact m) Needs needed_paths needs_to needs_from import_limit ((Decides-ltb import_limit (length (imports_needed w m path))).0 h)

  -- by a unit
  pub unit_needed : (k : Key) → IsNeeded w (all_meanings w) k → (u : Unit_key) × Holds w.home (units (all_meanings w)) (Is_reached u) × (q : Question) × (k ≡ key_of (layer_of u) q) × IsAsked (unit_asks w u) q
  unfolding unit_asks
  unit_needed k (by_unit u q h i) = (u, h, q, refl, all_asked_given (layer_project (layer_of u)) (asked_in (all_meanings w (Unit_of u))) q i)
  unit_needed k (by_import m path q h i) =
      let r = unit_needed (Import m path) h in
      let e = key_import m (layer_of r.0) path r.2 r.3 in (
        r.0,
        r.1,
        q,
        ap (λ z. key_of z q) e.1,
        all_asked_closed (layer_project (layer_of r.0)) (is_project (layer_of r.0)) (asked_in (all_meanings w (Unit_of r.0))) path
            (subst (IsAsked (all_asked (layer_project (layer_of r.0)) (asked_in (all_meanings w (Unit_of r.0))))) e.0 r.4) q
            (subst (λ z. IsAsked (asked_by (layer_project z) path) q) e.1 (asked_there m path q i)),
      )

  pub needed_unit : (u : Unit_key) → Holds w.home (units (all_meanings w)) (Is_reached u) → (q : Question) → IsAsked (unit_asks w u) q → IsNeeded w (all_meanings w) (key_of (layer_of u) q)
  unfolding unit_asks
  needed_unit u h q a =
      all_asked_least (layer_project (layer_of u)) (λ r. IsNeeded w (all_meanings w) (key_of (layer_of u) r))
      (λ path n r i. by_import (layer_of u) path r n (there_asked (layer_of u) path r i)) (asked_in (all_meanings w (Unit_of u))) (λ r i. by_unit u r h i) q a

  -- Where no limit of units is exceeded

  module _ (small : IsTooLarge w.home (units (all_meanings w)) → ⊥) where
    pub reached_listed : (u : Unit_key) → Holds w.home (units (all_meanings w)) (Is_reached u) → In (units_reached w) u
    unfolding units_reached
    reached_listed u h =
        flat_in unit_in_step (all_facts w.home (units (all_meanings w))) (Holding (Is_reached u)) u
        (member_in same_step step_tested (all_facts w.home (units (all_meanings w))) (Holding (Is_reached u)) ((computed_least w.home (units (all_meanings w)) small (Is_reached u)).1 h))
        (inl refl)

    pub listed_reached : (u : Unit_key) → In (units_reached w) u → Holds w.home (units (all_meanings w)) (Is_reached u)
    unfolding units_reached
    listed_reached u i =
        let k = in_flat unit_in_step (all_facts w.home (units (all_meanings w))) u i in
        computed_sound w.home (units (all_meanings w)) (Is_reached u)
        (in_member same_step step_tested (all_facts w.home (units (all_meanings w))) (Holding (Is_reached u)) (subst (In (all_facts w.home (units (all_meanings w)))) (step_unit k.0 u k.2) k.1))

    -- an import that needs too many
    abbrev IsLargeImport : Type 0
    IsLargeImport = (m : Layer) × (path : List ℕ) × IsNeeded w (all_meanings w) (Import m path) × HasMore (Needs m path) import_limit

    large_found : list_any (has_large_import w) (units_reached w) ≡ true → IsLargeImport
    large_found h =
        let u = any_some (has_large_import w) (units_reached w) h in
        let p = any_some (is_large w (layer_of u.0)) (imports_asked (unit_asks w u.0)) u.2 in (
          layer_of u.0,
          p.0,
          needed_unit u.0 (listed_reached u.0 u.1) (import_of p.0) (one_import (unit_asks w u.0) p.0 (in_one (imports_asked (unit_asks w u.0)) p.0 p.1)),
          there_large (layer_of u.0) p.0 p.2,
        )

    found_large : IsLargeImport → list_any (has_large_import w) (units_reached w) ≡ true
    found_large (m, path, n, more) =
        let r = unit_needed (Import m path) n in
        let e = key_import m (layer_of r.0) path r.2 r.3 in
        some_any (has_large_import w) (units_reached w) r.0 (reached_listed r.0 r.1)
        (some_any (is_large w (layer_of r.0)) (imports_asked (unit_asks w r.0)) path
        (one_in (imports_asked (unit_asks w r.0)) path (import_one (unit_asks w r.0) path (subst (IsAsked (unit_asks w r.0)) e.0 r.4)))
        (subst (λ z. is_large w z path ≡ true) e.1 (large_there m path more)))

    -- the files that are read
    module _ (known : List ℕ → Bool) where
      abbrev Reads_new : Key → Type 0
      Reads_new q = (path : List ℕ) × (q ≡ Read path) × (known path ≡ false) × IsNeeded w (all_meanings w) q

      abbrev new_paths : List (List ℕ)
      new_paths = filter (λ path. not (known path)) (flat_map (files_of w) (units_reached w))

      new_to : (k : Key) → Reads_new k → (p : List ℕ) × (k ≡ Read p) × IsOneOf p new_paths
      new_to k (path, e, new, n) =
          let r = unit_needed k n in
          let q = key_read (layer_of r.0) path r.2 (sym e ∙ r.3) in (
            path,
            e,
            in_one new_paths path
                (filter_in (λ p. not (known p)) (flat_map (files_of w) (units_reached w)) path
                (flat_in (files_of w) (units_reached w) r.0 path (reached_listed r.0 r.1) (one_in (files_of w r.0) path (content_one (unit_asks w r.0) path (subst (IsAsked (unit_asks w r.0)) q r.4))))
                (not_from_false (known path) new)),
          )

      new_from : (p : List ℕ) → IsOneOf p new_paths → Reads_new (Read p)
      new_from p o =
          let f = in_filter (λ path. not (known path)) (flat_map (files_of w) (units_reached w)) p (one_in new_paths p o) in
          let u = in_flat (files_of w) (units_reached w) p f.0 in
          (p, refl, not-true (known p) f.1, needed_unit u.0 (listed_reached u.0 u.1) (content_of p) (one_content (unit_asks w u.0) p (in_one (files_of w u.0) p u.2)))

      reads_there : HasMore Reads_new read_limit → ltb read_limit (length (files_read w known)) ≡ true
      unfolding files_read
      reads_there h = (Decides-ltb read_limit (length (files_read w known))).1 (more_counted Read read_exact Reads_new new_paths new_to new_from read_limit h)

      there_reads : ltb read_limit (length (files_read w known)) ≡ true → HasMore Reads_new read_limit
      unfolding files_read
      there_reads h = counted_more Read read_exact Reads_new new_paths new_to new_from read_limit ((Decides-ltb read_limit (length (files_read w known))).0 h)

pub limits_computed : LimitsAreComputed
limits_computed w l known = (λ h. there (is_too_large w.home (units (all_meanings w))) refl h, λ h. back (is_too_large w.home (units (all_meanings w))) refl h)
  where
    large : Bool
    large = list_any (has_large_import w) (units_reached w)

    many : Bool
    many = ltb read_limit (length (files_read w known))

    not_large : is_too_large w.home (units (all_meanings w)) ≡ false → IsTooLarge w.home (units (all_meanings w)) → ⊥
    not_large e t = let yes_large : is_too_large w.home (units (all_meanings w)) ≡ true = (limits_exact w.home (units (all_meanings w))).1 t in cc

    found : is_too_large w.home (units (all_meanings w)) ≡ false → (large ≡ true) ⊎ (many ≡ true) → Exceeds w known (all_meanings w)
    found e (inl h) = inr (inl (large_found w l (not_large e) h))
    found e (inr h) = inr (inr (there_reads w l (not_large e) known h))

    there : (b : Bool) → is_too_large w.home (units (all_meanings w)) ≡ b → (b || (large || many)) ≡ true → Exceeds w known (all_meanings w)
    there true e h = inl ((limits_exact w.home (units (all_meanings w))).0 e)
    there false e h = found e (or_cases large many h)

    back : (b : Bool) → is_too_large w.home (units (all_meanings w)) ≡ b → Exceeds w known (all_meanings w) → (b || (large || many)) ≡ true
    back true e h = refl
    back false e (inl t) = absurd (not_large e t)
    back false e (inr (inl h)) = or_left large many (found_large w l (not_large e) h)
    back false e (inr (inr h)) = or_right large many (reads_there w l (not_large e) known h)
