-- What is reached or asked over a base has its base, and keeps it over more.
use Rattle.std.proofs.Common.{◌≡◌, ℕ, List, [], Option, Some, None, refl, sym, ◌∙◌, subst, inl, inr}
use Rattle.gn_runs.specs.Runs.{Question, content_of, import_of}
use Rattle.gn_closure.specs.Closure.{In}
use Rattle.gn_labels.specs.declared.label.Label.{Label}
use Rattle.gn_closure.specs.Reach.{Unit_key, Setup, Load, Target, Toolchain, Done, Units, Fact, Is_reached, Is_wanted, Is_generated, Told, told, Rule, first, root, own, target, dependency, want, want_toolchain, want_pool, load, want_home, setup, other_load, Holds, by_rule}
use Rattle.gn_closure.proofs.GroundRules.{holds_grows}
use Rattle.gn_core.specs.Keys.{Layer, early, usual, Key, Read, Import, Unit_of, Resolve, Answer, Filed, layer_of, key_of, unit_in, units}
use Rattle.gn_core.specs.Worlds.{World}
use Rattle.gn_core.specs.Machine.{IsLoaded, IsDone, Defines, HasTools, IsFiled, IsReachedKey}
use Rattle.gn_core.specs.Layered.{IsPart, HasDefinition, HasLayer, IsBased, for_read, for_import, for_unit, for_label}

-- Generated labels are of units that are done

generated_by : (home : List ℕ → List ℕ) (a : Units) (fs : List Fact) (ts : List Told) (f : Fact) → Rule home fs ts f → ((t : Told) → In ts t → Holds home a (Is_reached t.unit)) → ((t : Told) → In ts t → a t.unit ≡ Some (Some t.done))
    → (l : Label) → f ≡ Is_generated l → (d : Done) × Holds home a (Is_reached (Load l.dir l.toolchain)) × (a (Load l.dir l.toolchain) ≡ Some (Some d))
generated_by home a fs ts f first ht e l g = cc
generated_by home a fs ts f (root d) ht e l g = cc
generated_by home a fs ts f (own d) ht e l g = cc
generated_by home a fs ts f (target d u dir t i) ht e l g =
    let same : Rattle.gn_closure.specs.Reach.label dir t.name d.default ≡ l = cc in
    (u, subst (λ (z : Label). Holds home a (Is_reached (Load z.dir z.toolchain))) same (ht _ (inr (inl refl))), subst (λ (z : Label). a (Load z.dir z.toolchain) ≡ Some (Some u)) same (e _ (inr (inl refl))))
generated_by home a fs ts f (dependency u v m n t s i j o x y) ht e l g =
    let same : m ≡ l = cc in
    (v, subst (λ (z : Label). Holds home a (Is_reached (Load z.dir z.toolchain))) same (ht _ (inr (inl refl))), subst (λ (z : Label). a (Load z.dir z.toolchain) ≡ Some (Some v)) same (e _ (inr (inl refl))))
generated_by home a fs ts f (want u m n t i j k) ht e l g = cc
generated_by home a fs ts f (want_toolchain d u m t i n) ht e l g = cc
generated_by home a fs ts f (want_pool d u v m n t c i j x y z) ht e l g = cc
generated_by home a fs ts f (load d dir) ht e l g = cc
generated_by home a fs ts f (want_home d dir tc ne) ht e l g = cc
generated_by home a fs ts f (setup d u dir c ne i) ht e l g = cc
generated_by home a fs ts f (other_load d s dir tc ne) ht e l g = cc

pub generated_done : (home : List ℕ → List ℕ) (a : Units) (l : Label) → Holds home a (Is_generated l) → (d : Done) × Holds home a (Is_reached (Load l.dir l.toolchain)) × (a (Load l.dir l.toolchain) ≡ Some (Some d))
generated_done home a l (by_rule fs ts f r hf ht e) = generated_by home a fs ts f r ht e l refl

-- Units that are done stay so

pub units_part : (b c : Filed) → IsPart b c → (k : Unit_key) (d : Done) → units b k ≡ Some (Some d) → units c k ≡ Some (Some d)
units_part b c le k d h = go (b (Unit_of k)) refl h
  where
    go : (x : Option Answer) → b (Unit_of k) ≡ x → unit_in x ≡ Some (Some d) → unit_in (c (Unit_of k)) ≡ Some (Some d)
    go None e h = cc
    go (Some v) e h = subst (λ (z : Option Answer). unit_in z ≡ Some (Some d)) (sym (le (Unit_of k) v e)) h

module _ (w : World) (b c : Filed) (le : IsPart b c) where
  holds_part : (f : Fact) → Holds w.home (units b) f → Holds w.home (units c) f
  holds_part f h = holds_grows w.home (units b) (units c) (units_part b c le) f h

  loaded_part : (dir toolchain : List ℕ) (d : Done) → IsLoaded w (units b) dir toolchain d → IsLoaded w (units c) dir toolchain d
  loaded_part dir toolchain d h = (holds_part (Is_reached (Load dir toolchain)) h.0, units_part b c le (Load dir toolchain) d h.1)

  done_part : (m : Label) (d : Done) → IsDone w (units b) m d → IsDone w (units c) m d
  done_part m d h = loaded_part m.dir m.toolchain d h

  tools_part : (m : Label) → HasTools w (units b) m → HasTools w (units c) m
  tools_part m (d, v, x, y, f) =
      (d, v, units_part b c le (Setup []) d x, loaded_part (w.home m.toolchain) d.default v y, λ t i e p j. let z = f t i e p j in (z.0, done_part p z.0 z.1))

  defines_part : (m : Label) (t : Target) → Defines w (units b) m t → Defines w (units c) m t
  defines_part m t h = (h.0, done_part m h.0 h.1, h.2, h.3)

  defines_before : (m : Label) → Holds w.home (units b) (Is_generated m) → (t : Target) → Defines w (units c) m t → Defines w (units b) m t
  defines_before m g t h =
      let u = generated_done w.home (units b) m g in
      let same : Some (Some u.0) ≡ Some (Some h.0) = sym (units_part b c le (Load m.dir m.toolchain) u.0 u.2) ∙ h.1.1 in
      (h.0, (u.1, u.2 ∙ same), h.2, h.3)

  definition_grows : (tc : List ℕ) → HasDefinition w b tc → HasDefinition w c tc
  definition_grows tc (inl e) = inl e
  definition_grows tc (inr (d, u, t, x, y, i, n)) = inr (d, u, t, units_part b c le (Setup []) d x, units_part b c le (Load (w.home tc) d.default) u y, i, n)

  pub layer_grows : (l : Layer) → HasLayer w b l → HasLayer w c l
  layer_grows (early tc) h = definition_grows tc h
  layer_grows (usual tc) (d, x, inl e) = (d, units_part b c le (Setup []) d x, inl e)
  layer_grows (usual tc) (d, x, inr (h, (s, y))) = (d, units_part b c le (Setup []) d x, inr (definition_grows tc h, (s, units_part b c le (Setup tc) s y)))

  pub based_grows : (k : Key) → IsBased w b k → IsBased w c k
  based_grows k (for_read path) = for_read path
  based_grows k (for_import l path h) = for_import l path (layer_grows l h)
  based_grows k (for_unit u h) = for_unit u (layer_grows (layer_of u) h)
  based_grows k (for_label l g done defined behind) =
      for_label l (holds_part (Is_generated l) g)
      ((λ t d m i. let x = done.0 t (defines_before l g t d) m i in (x.0, done_part m x.0 x.1)), tools_part l done.1)
      (λ t d m i. let x = defined t (defines_before l g t d) m i in (x.0, defines_part m x.0 x.1))
      (λ t d m i. based_grows (Resolve m) (behind t (defines_before l g t d) m i))

-- What is reached

reached_by : (home : List ℕ → List ℕ) (w : World) (b : Filed) (fs : List Fact) (ts : List Told) (f : Fact) → w.home ≡ home → Rule home fs ts f → ((t : Told) → In ts t → units b t.unit ≡ Some (Some t.done))
    → ((t : Told) → In ts t → HasLayer w b (layer_of t.unit)) → (k : Unit_key) → f ≡ Is_reached k → HasLayer w b (layer_of k)
reached_by home w b fs ts f s first e ih k g = let same : Setup [] ≡ k = cc in subst (λ z. HasLayer w b (layer_of z)) same (inl refl)
reached_by home w b fs ts f s (root d) e ih k g = cc
reached_by home w b fs ts f s (own d) e ih k g = cc
reached_by home w b fs ts f s (target d u dir t i) e ih k g = cc
reached_by home w b fs ts f s (dependency u v m n t x i j o y z) e ih k g = cc
reached_by home w b fs ts f s (want u m n t i j x) e ih k g = cc
reached_by home w b fs ts f s (want_toolchain d u m t i n) e ih k g = cc
reached_by home w b fs ts f s (want_pool d u v m n t c i j x y z) e ih k g = cc
reached_by home w b fs ts f s (load d dir) e ih k g =
    let same : Load dir d.default ≡ k = cc in
    subst (λ z. HasLayer w b (layer_of z)) same (d, e _ (inl refl), inl refl)
reached_by home w b fs ts f s (want_home d dir tc ne) e ih k g = cc
reached_by home w b fs ts f s (setup d u dir c ne i) e ih k g =
    let same : Setup c.name ≡ k = cc in
    subst (λ z. HasLayer w b (layer_of z)) same (inr (d, u, c, e _ (inl refl), subst (λ (h : List ℕ → List ℕ). units b (Load (h c.name) d.default) ≡ Some (Some u)) (sym s) (e _ (inr (inl refl))), i, refl))
reached_by home w b fs ts f s (other_load d x dir tc ne) e ih k g =
    let same : Load dir tc ≡ k = cc in
    subst (λ z. HasLayer w b (layer_of z)) same (d, e _ (inl refl), inr (ih _ (inr (inl refl)), (x, e _ (inr (inl refl)))))

unit_based : (w : World) (b : Filed) (k : Unit_key) → Holds w.home (units b) (Is_reached k) → HasLayer w b (layer_of k)
unit_based w b k (by_rule fs ts f r hf ht e) = reached_by w.home w b fs ts f refl r e (λ t i. unit_based w b t.unit (ht t i)) k refl

pub reached_based : (w : World) (b : Filed) → ((m : Label) → IsFiled b (Resolve m) → IsBased w b (Resolve m)) → (k : Key) → IsReachedKey w b k → IsBased w b k
reached_based w b filed (Read path) h = for_read path
reached_based w b filed (Import l path) h = absurd h
reached_based w b filed (Unit_of k) h = for_unit k (unit_based w b k h)
reached_based w b filed (Resolve l) h =
    for_label l h.0 h.1 (λ t d m i. (h.2 t d m i).0) (λ t d m i. filed m (h.2 t d m i).1)

-- What is asked

pub layer_based : (w : World) (b : Filed) (l : Layer) (q : Question) → HasLayer w b l → IsBased w b (key_of l q)
layer_based w b l (content_of path) h = for_read path
layer_based w b l (import_of path) h = for_import l path h

pub import_layer : (w : World) (b : Filed) (l : Layer) (path : List ℕ) → IsBased w b (Import l path) → HasLayer w b l
import_layer w b l path (for_import l' path' h) = h

pub unit_layer : (w : World) (b : Filed) (k : Unit_key) → IsBased w b (Unit_of k) → HasLayer w b (layer_of k)
unit_layer w b k (for_unit k' h) = h
