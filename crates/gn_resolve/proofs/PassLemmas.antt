-- Passes over targets.
use Rattle.std.proofs.Common.{◌≡◌, ℕ, suc, ◌+◌, ◌<◌, length, take, get_or, add-one, Bor, List, [], ◌∷◌, ◌++◌, Bool, true, false, ◌||◌, ◌&&◌, Option, Some, None, IsSome, Result, Ok, Err, IsOk, OnOk, refl, sym, ◌∙◌, ap, subst, inl, inr, true≢false}
use Rattle.std.specs.List.{list_all}
use Rattle.gn_labels.specs.declared.label.Label.{Label}
use Rattle.gn_dependencies.specs.Lists.{same_label, has}
use Rattle.gn_dependencies.specs.Shape.{all_deps, EndsWithin}
use Rattle.gn_dependencies.proofs.Same.{same}
use Rattle.gn_dependencies.proofs.Has.{or_true, has_own}
use Rattle.gn_dependencies.proofs.Kept.{has-append}
use Rattle.std.proofs.lemmas.Bool.{or_cases}
use Rattle.std.proofs.lemmas.List.{take_more, length-map}
use Rattle.gn_items.specs.declared.item.Item.{Item}
use Rattle.gn_labelled.specs.Graphs.{shape_of}
use Rattle.gn_labelled.specs.Index.{lent}
use Rattle.gn_records.specs.Around.{Around}
use Rattle.gn_toolchains.specs.declared.frames.Frames.{Frames}
use Rattle.gn_toolchains.specs.Toolchains.{Surroundings}
use Rattle.gn_toolchains.specs.Frames.{known_of}
use Rattle.gn_resolve.specs.declared.table.Resolved.{Resolved}
use Rattle.gn_resolve.specs.Resolved.{labels_in}
use Rattle.gn_resolve.specs.Table.{is_in, AreIn}
use Rattle.gn_resolve.specs.Steps.{surroundings_of, IsFit, IsHeld, IsResolved, IsStep}
use Rattle.gn_resolve.specs.Whole.{CanBeResolved, AreResolved}
use Rattle.gn_resolve.proofs.Held.{known_right}
use Rattle.gn_resolve.proofs.Put.{kept, there}

-- the one label of a list
one_of : (t q : Label) → has (t ∷ []) q ≡ true → q ≡ t
one_of t q h = by (same_label q t) refl h
  where
    by : (b : Bool) → same_label q t ≡ b → (b || false) ≡ true → q ≡ t
    by true e i = same q t e
    by false e i = absurd (cc i)

-- all of a list, where each is
pub all_of : (p : Label → Bool) (xs : List Label) → ((d : Label) → has xs d ≡ true → p d ≡ true) → list_all p xs ≡ true
all_of p [] h = refl
all_of p (x ∷ xs) h =
    ap (λ b. b && list_all p xs) (h x (has_own x xs)) ∙ all_of p xs (λ d i. h d (ap (λ b. same_label d x || b) i ∙ or_true (same_label d x)))

-- the same of a graph that stayed the same
pub fit_at : (frames : Frames) (a b : List ℕ) (xs ys : List Item) → b ≡ a → ys ≡ xs → IsFit frames a xs → IsFit frames b ys
fit_at frames a b xs ys d e fit = subst (λ (z : List ℕ). IsFit frames z ys) (sym d) (subst (λ (z : List Item). IsFit frames a z) (sym e) fit)

pub held_at : (s : Surroundings) (xs ys : List Item) (r : Resolved) → ys ≡ xs → IsHeld s xs r → IsHeld s ys r
held_at s xs ys r e held = subst (λ (z : List Item). IsHeld s z r) (sym e) held

pub step_at : (frames : Frames) (xs ys : List Item) (ts : List Label) (old new : Resolved) → ys ≡ xs → IsStep frames ys ts old new → IsStep frames xs ts old new
step_at frames xs ys ts old new e step = subst (λ (z : List Item). IsStep frames z ts old new) e step

pub can_at : (frames : Frames) (xs ys : List Item) (ts : List Label) → ys ≡ xs → CanBeResolved frames xs ts → CanBeResolved frames ys ts
can_at frames xs ys ts e can = subst (λ (z : List Item). CanBeResolved frames z ts) (sym e) can

module _ (frames : Frames) (items : List Item) where
  -- a target that is resolved is left
  pub left_resolved : (t : Label) (r : Resolved) → IsHeld (surroundings_of frames) items r → is_in r t ≡ true → IsStep frames items (t ∷ []) r r
  left_resolved t r held is = record {
    held = held;
    kept = λ q h. h;
    made = λ q h framed ready. ap (is_in r) (one_of t q h) ∙ is;
  }

  -- and one that isn't ready
  pub left_waiting : (t : Label) (r : Resolved) → IsHeld (surroundings_of frames) items r → list_all (is_in r) (all_deps (shape_of items) t) ≡ false → IsStep frames items (t ∷ []) r r
  left_waiting t r held waits = record {
    held = held;
    kept = λ q h. h;
    made = λ q h framed ready.
        absurd (true≢false (sym (all_of (is_in r) (all_deps (shape_of items) t) (subst (λ (z : Label). AreIn r (all_deps (shape_of items) z)) (one_of t q h) ready)) ∙ waits));
  }

  -- and one of which it isn't known what never changes for it
  pub left_unknown : (t : Label) (r : Resolved) → IsHeld (surroundings_of frames) items r → known_of frames t.toolchain ≡ None → IsStep frames items (t ∷ []) r r
  left_unknown t r held none = record {
    held = held;
    kept = λ q h. h;
    made = λ q h framed ready. absurd (nothing (known_of frames t.toolchain) none (subst (λ (z : Label). IsSome (known_of frames z.toolchain)) (one_of t q h) framed));
  }
    where
      nothing : (o : Option Around) → o ≡ None → IsSome o → ⊥
      nothing None e i = cc i
      nothing (Some a) e i = cc e

  -- one whose dependencies are resolved is resolved
  pub resolves : (s : Surroundings) (t : Label) (old new : Resolved) → s ≡ surroundings_of frames → IsResolved s items t old new → IsStep frames items (t ∷ []) old new
  resolves s t old new e is = record {
    held = subst (λ (z : Surroundings). IsHeld z items new) e is.held;
    kept = kept s items old new t is.put.0 is.put.1;
    made = λ q h framed ready. ap (is_in new) (one_of t q h) ∙ there s items old new t is.put.0 is.put.1;
  }

  -- ---- several
  pub none_first : (r : Resolved) → IsHeld (surroundings_of frames) items r → IsStep frames items [] r r
  none_first r held = record { held = held; kept = λ q h. h; made = λ q h framed ready. absurd (cc h) }

  pub then_one : (ts : List Label) (t : Label) (a b c : Resolved) → IsStep frames items ts a b → IsStep frames items (t ∷ []) b c → IsStep frames items (ts ++ t ∷ []) a c
  then_one ts t a b c first next = record {
    held = next.held;
    kept = λ q h. next.kept q (first.kept q h);
    made = λ q h framed ready. elim (or_cases (has ts q) (has (t ∷ []) q) (sym (has-append ts (t ∷ []) q) ∙ h)) [
      | inl i ↦ next.kept q (first.made q i framed ready)
      | inr i ↦ next.made q i framed (λ d k. first.kept d (ready d k))
    ];
  }

  -- ---- passes
  -- those are resolved whose paths of dependencies have fewer edges
  abbrev pub AreWithin : List Label → ℕ → Resolved → Type 0
  AreWithin ts n r = (t : Label) → has ts t ≡ true → EndsWithin (shape_of items) n t → is_in r t ≡ true

  pub none_within : (ts : List Label) (r : Resolved) → AreWithin ts 0 r
  none_within ts r t h ends = absurd ends

  further : (ts : List Label) (n : ℕ) (a b : Resolved) → CanBeResolved frames items ts → AreWithin ts n a → IsStep frames items ts a b → AreWithin ts (suc n) b
  further ts n a b can within step t h ends = step.made t h (can.framed t h) (λ d i. within d (can.closed t d h i) (ends d i))

  pub one_further : (ts : List Label) (n : ℕ) (a b : Resolved) → CanBeResolved frames items ts → AreWithin ts n a → IsStep frames items ts a b → AreWithin ts (n + 1) b
  one_further ts n a b can within step = subst (λ (k : ℕ). AreWithin ts k b) (sym (add-one n)) (further ts n a b can within step)

  -- the last pass is that of the longest paths
  pub all_within : (ts : List Label) (refs : List (Bor Item)) (n : ℕ) (r : Resolved) → lent refs ≡ items → n ≡ length refs + 1 → CanBeResolved frames items ts → AreWithin ts n r → AreIn r ts
  all_within ts refs n r e l can within t h = within t h (subst (λ (k : ℕ). EndsWithin (shape_of items) k t) many (can.ends t h))
    where
      many : suc (length (labels_in items)) ≡ n
      many =
          ap suc (length-map items (λ (item : Item). item.label) ∙ ap length (sym e) ∙ length-map refs (λ (item : Bor Item). item.now))
          ∙ sym (add-one (length refs)) ∙ sym l

  -- ---- all
  pub all_right : (ts : List Label) (r : Resolved) → IsHeld (surroundings_of frames) items r → AreIn r ts → AreResolved (surroundings_of frames) items ts r
  all_right ts r held all t h = known_right (surroundings_of frames) items r held t (all t h)

  -- one more target was looked at
  pub then_next : (ts : List Label) (i : ℕ) (t : Label) (a b c : Resolved) → i < length ts → t ≡ get_or ts i t → IsStep frames items (take i ts) a b → IsStep frames items (t ∷ []) b c
      → IsStep frames items (take (i + 1) ts) a c
  then_next ts i t a b c l e first next =
      subst (λ (z : List Label). IsStep frames items z a c) (sym (take_more ts i t l ∙ ap (λ z. take i ts ++ z ∷ []) (sym e))) (then_one (take i ts) t a b c first next)

-- what holds where all went well, where it did
pub on_ok_given : {T E : Type 0} (r : Result T E) (P : Type 0) → OnOk r P → IsOk r → P
on_ok_given (Ok x) P h i = h
on_ok_given (Err e) P h i = absurd (cc i)
