-- The state of a walk.
use Rattle.std.proofs.Common.{◌≡◌, ℕ, zero, suc, ◌+◌, ◌<◌, ◌≤◌, List, [], length, Bool, true, false, cond, filter, ◌||◌, ◌&&◌, Option, Some, None, IsSome, slice_get, refl, sym, ◌∙◌, ap, subst, ◌⊎◌, inl, inr, arith}
use Rattle.std.proofs.lemmas.List.{length-append}
use Rattle.std.proofs.lemmas.Bool.{cases_lt}
use Rattle.gn_labels.specs.declared.label.Label.{Label}
use Rattle.gn_rows.specs.declared.kinds.ItemKind.{ItemKind}
use Rattle.gn_dependencies.specs.Lists.{same_label, has, kept, added}
use Rattle.gn_dependencies.specs.Shape.{Shape, all_deps, EndsWithin}
use Rattle.gn_dependencies.specs.Walks.{IsMet, first, onward}
use Rattle.gn_dependencies.specs.Inherited.{walks, Walked}
use Rattle.gn_dependencies.proofs.Same.{own, same}
use Rattle.gn_dependencies.proofs.Has.{has-added, has-filter, or_true}
use Rattle.gn_dependencies.proofs.OrderLaws.{place_of, has_at}
use Rattle.gn_dependencies.proofs.OrderLaws.{within as place_within}
use Rattle.gn_dependencies.proofs.Merge.{near_within}
use Rattle.gn_chains.specs.declared.kinds.Walk.{Walk}
use Rattle.gn_chains.specs.declared.kinds.Walk.TheVariants as what
use Rattle.gn_chains.specs.Walking.{is_other_target, looked_at, meets, goes_through, IsMetBy}
use Rattle.gn_dependencies.proofs.At.{was_at, one_there}

pub record WalkState (next : Label → List Label) (meets opens : Label → Bool) (t : Label) (out : List Label) (place : ℕ) : Type 0 where
  pub start : (d : Label) → has (next t) d ≡ true → meets d ≡ true → has out d ≡ true
  pub sound : (q : Label) → has out q ≡ true → IsMet next meets opens t q
  pub closed : (k : ℕ) (c : Label) → k < place → slice_get out k ≡ Some c → opens c ≡ true → (d : Label) → has (next c) d ≡ true → meets d ≡ true → has out d ≡ true
  pub within : place ≤ length out

both : (a b : Bool) → (a && b) ≡ true → (a ≡ true) × (b ≡ true)
both true b h = (refl, h)
both false b h = absurd (cc h)

and_is : (a b : Bool) → a ≡ true → b ≡ true → (a && b) ≡ true
and_is a b h k = rw (h, k) refl

either : (a b : Bool) → (a || b) ≡ true → (a ≡ true) ⊎ (b ≡ true)
either true b h = inl refl
either false b h = inr h

kept_in : (out xs : List Label) (q : Label) → has out q ≡ true → has (added out xs) q ≡ true
kept_in out xs q h = has-added out xs q ∙ ap (λ b. b || has xs q) h

new_in : (out xs : List Label) (q : Label) → has xs q ≡ true → has (added out xs) q ≡ true
new_in out xs q h = has-added out xs q ∙ ap (λ b. has out q || b) h ∙ or_true (has out q)

next_cases : (k n : ℕ) → k < n + 1 → (k < n) ⊎ (k ≡ n)
next_cases k n h = elim (cases_lt k n) [ inl l ↦ inl l | inr m ↦ inr (omega (arith, m, h)) ]

module _ (next : Label → List Label) (meets opens : Label → Bool) where
  met_in : (ds : List Label) (d : Label) → has ds d ≡ true → meets d ≡ true → has (filter meets ds) d ≡ true
  met_in ds d h w = has-filter meets d ds ∙ and_is (has ds d) (meets d) h w

  is_met : (ds : List Label) (d : Label) → has (filter meets ds) d ≡ true → (has ds d ≡ true) × (meets d ≡ true)
  is_met ds d h = both (has ds d) (meets d) (sym (has-filter meets d ds) ∙ h)

  is_opened : (c d : Label) → has (cond (opens c) (next c) []) d ≡ true → (opens c ≡ true) × (has (next c) d ≡ true)
  is_opened c d h = by (opens c) refl h
    where
      by : (b : Bool) → opens c ≡ b → has (cond b (next c) []) d ≡ true → (opens c ≡ true) × (has (next c) d ≡ true)
      by true e h = (e, h)
      by false e h = absurd (cc h)

  pub walk_start : (t : Label) (out : List Label) → out ≡ added [] (filter meets (next t)) → WalkState next meets opens t out 0
  walk_start t out e = record {
    start = λ d h w. ap (λ (z : List Label). has z d) e ∙ new_in [] (filter meets (next t)) d (met_in (next t) d h w);
    sound = λ q h.
        let p = is_met (next t) q (sym (has-added [] (filter meets (next t)) q) ∙ ap (λ (z : List Label). has z q) (sym e) ∙ h) in
        first q p.0 p.1;
    closed = λ k c l. absurd (omega (arith, l));
    within = omega arith;
  }

  pub walk_on : (t : Label) (out new : List Label) (place : ℕ) (z : Label) → WalkState next meets opens t out place → slice_get out place ≡ Some z
      → new ≡ added out (filter meets (cond (opens z) (next z) [])) → WalkState next meets opens t new (place + 1)
  walk_on t out new place z s e n = subst (λ (o : List Label). WalkState next meets opens t o (place + 1)) (sym n) (record {
    start = λ d h w. kept_in out more d (s.start d h w);
    sound = λ q h. elim (either (has out q) (has more q) (sym (has-added out more q) ∙ h)) [
      | inl i ↦ s.sound q i
      | inr i ↦ let p = is_met (cond (opens z) (next z) []) q i in
          let r = is_opened z q p.0 in
          onward z q (s.sound z (has_at same_label own same out place z e)) r.0 r.1 p.1
    ];
    closed = λ k c lt at op d h w. elim (next_cases k place lt) [
      | inl i ↦ kept_in out more d (s.closed k c i (was_at out (kept (has out) more) k c (omega (arith, i, l)) at) op d h w)
      | inr i ↦
          let here : slice_get out place ≡ Some c = was_at out (kept (has out) more) place c l (ap (λ j. slice_get (added out more) j) (sym i) ∙ at) in
          let is : c ≡ z = one_there c z (sym here ∙ e) in
          let o : opens z ≡ true = ap opens (sym is) ∙ op in
          let i : has (cond (opens z) (next z) []) d ≡ true = ap (λ b. has (cond b (next z) []) d) o ∙ ap (λ x. has (next x) d) (sym is) ∙ h in
          new_in out more d (met_in (cond (opens z) (next z) []) d i w)
    ];
    within = omega (arith, length-append out (kept (has out) more), l);
  })
    where
      more : List Label
      more = filter meets (cond (opens z) (next z) [])

      l : place < length out
      l = place_within out place z e

  pub walk_done : (t : Label) (out : List Label) (place : ℕ) → WalkState next meets opens t out place → length out ≤ place → (q : Label) → IsMet next meets opens t q → has out q ≡ true
  walk_done t out place s l q (first d h w) = s.start d h w
  walk_done t out place s l q (onward c d wc o h w) =
      let p = place_of same_label own same c out (walk_done t out place s l c wc) in
      s.closed p.0 c (omega (arith, place_within out p.0 c p.1, l)) p.1 o d h w

  -- what is met has the kind that a walk meets
  pub met_meets : (t q : Label) → IsMet next meets opens t q → meets q ≡ true
  met_meets t q (first d h w) = w
  met_meets t q (onward c d wc o h w) = w

-- what is met is an item
some_kind : (k : Option ItemKind) → walks k ≡ true → IsSome k
some_kind None h = absurd (cc h)
some_kind (Some k) h = refl

other_kind : (k : Option ItemKind) → is_other_target k ≡ true → IsSome k
other_kind None h = absurd (cc h)
other_kind (Some k) h = refl

kind_met : (walk : Walk) (k : Option ItemKind) → meets walk k ≡ true → IsSome k
kind_met what.Libraries k h = some_kind k h
kind_met what.Targets k h = other_kind k h

pub met_some : (walk : Walk) (g : Shape) (t q : Label) → IsMetBy walk g t q → IsSome (g.kind q)
met_some walk g t q m = kind_met walk (g.kind q) (met_meets (λ d. looked_at walk g d) (λ d. meets walk (g.kind d)) (λ d. goes_through walk (g.kind d)) t q m)

-- what is walked has no longer paths than the target
ends_more : (g : Shape) (n : ℕ) (t : Label) → EndsWithin g n t → EndsWithin g (suc n) t
ends_more g zero t h = absurd h
ends_more g (suc n) t h = λ d i. ends_more g n d (h d i)

ends_at : (g : Shape) (n : ℕ) (t d : Label) → EndsWithin g n t → has (all_deps g t) d ≡ true → EndsWithin g n d
ends_at g zero t d h i = absurd h
ends_at g (suc n) t d h i = ends_more g n d (h d i)

pub walked_ends : (g : Shape) (n : ℕ) (t : Label) → EndsWithin g n t → (q : Label) → Walked g t q → EndsWithin g n q
walked_ends g n t h q (first d i w) = ends_at g n t d h (near_within g t d i)
walked_ends g n t h q (onward c d wc o i w) = ends_at g n c d (walked_ends g n t h c wc) (near_within g c d i)
