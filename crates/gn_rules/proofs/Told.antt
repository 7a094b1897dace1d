-- What is told of outputs that are made again.
use Rattle.std.proofs.Common.{◌≡◌, ◌⊎◌, inl, inr, ℕ, zero, suc, ◌+◌, ◌-◌, ◌<◌, List, [], ◌∷◌, ◌++◌, length, map, slice_get, Some, Bool, true, false, cond, ◌||◌, refl, sym, ◌∙◌, ap, subst, arith, true≢false}
use Rattle.std.specs.List.{flat_map, list_any}
use Rattle.std.specs.Str.{bytes_eq}
use Rattle.std.proofs.lemmas.List.{length-append, length-map}
use Rattle.std.proofs.lemmas.List.Folds.{list_any-append}
use Rattle.std.proofs.lemmas.Slice.Eq.{bytes_eq-Decides}
use Rattle.std.proofs.lemmas.Bool.{cases_lt}
use Rattle.gn_basics.proofs.Texts.{bytes_eq-itself}
use Rattle.gn_labels.specs.declared.label.Label.{Label}
use Rattle.gn_dependencies.proofs.At.{left_at, was_at, one_there}
use Rattle.gn_dependencies.proofs.OrderLaws.{within, place_of, has_at}
use Rattle.gn_rules.specs.declared.outputs.MadeOutput.{MadeOutput}
use Rattle.gn_rules.specs.Outputs.{has_text, output_of, made_by, all_made, made_again, repeated_outputs, IsMadeAgain, IsRepeated}

same_text : (a b : List ℕ) → bytes_eq a b ≡ true → a ≡ b
same_text a b h = (bytes_eq-Decides a b).0 h

either : (a b : Bool) → (a || b) ≡ true → (a ≡ true) ⊎ (b ≡ true)
either true b h = inl refl
either false b h = inr h

or_false : (b : Bool) → (b || false) ≡ b
or_false true = refl
or_false false = refl

text_left : (xs ys : List (List ℕ)) (p : List ℕ) → has_text xs p ≡ true → has_text (xs ++ ys) p ≡ true
text_left xs ys p h = list_any-append (bytes_eq p) xs ys ∙ ap (λ b. b || has_text ys p) h

text_last : (xs : List (List ℕ)) (p : List ℕ) → has_text (xs ++ p ∷ []) p ≡ true
text_last xs p = list_any-append (bytes_eq p) xs (p ∷ []) ∙ ap (λ b. has_text xs p || (b || false)) (bytes_eq-itself p) ∙ or_last (has_text xs p)
  where
    or_last : (b : Bool) → (b || (true || false)) ≡ true
    or_last true = refl
    or_last false = refl

text_cases : (xs : List (List ℕ)) (q p : List ℕ) → has_text (xs ++ q ∷ []) p ≡ true → (has_text xs p ≡ true) ⊎ (p ≡ q)
text_cases xs q p h = elim (either (has_text xs p) (has_text (q ∷ []) p) (sym (list_any-append (bytes_eq p) xs (q ∷ [])) ∙ h)) [
  | inl a ↦ inl a
  | inr b ↦ inr (same_text p q (sym (or_false (bytes_eq p q)) ∙ b))
]

-- ---- a list of outputs, with what was seen before it
abbrev Earlier : List MadeOutput → ℕ → List ℕ → Type 0
Earlier ms i p = (j : ℕ) × (n : MadeOutput) × ((j < i) × ((slice_get ms j ≡ Some n) × (n.output ≡ p)))

abbrev Because : List (List ℕ) → List MadeOutput → ℕ → List ℕ → Type 0
Because seen ms i p = (has_text seen p ≡ true) ⊎ Earlier ms i p

abbrev Says : List (List ℕ) → List MadeOutput → MadeOutput → Type 0
Says seen ms m = (i : ℕ) × ((slice_get ms i ≡ Some m) × Because seen ms i m.output)

later : (x : MadeOutput) (ms : List MadeOutput) (i : ℕ) (p : List ℕ) → Earlier ms i p → Earlier (x ∷ ms) (suc i) p
later x ms i p (j, n, (l, (a, e))) = (suc j, n, (omega (arith, l), (a, e)))

told_says : (ms : List MadeOutput) (seen : List (List ℕ)) (m : MadeOutput) (k : ℕ) → slice_get (made_again seen ms) k ≡ Some m → Says seen ms m
told_says [] seen m k e = absurd (cc e)
told_says (x ∷ ms) seen m k e = by (has_text seen x.output) refl (λ k e. told_says ms seen m k e) (λ k e. told_says ms (seen ++ x.output ∷ []) m k e) k e
  where
    shifted : (i : ℕ) → (slice_get ms i ≡ Some m) × Because seen ms i m.output → Says seen (x ∷ ms) m
    shifted i (a, inl h) = (suc i, (a, inl h))
    shifted i (a, inr w) = (suc i, (a, inr (later x ms i m.output w)))

    shifted_new : (i : ℕ) → (slice_get ms i ≡ Some m) × Because (seen ++ x.output ∷ []) ms i m.output → Says seen (x ∷ ms) m
    shifted_new i (a, inr w) = (suc i, (a, inr (later x ms i m.output w)))
    shifted_new i (a, inl h) = elim (text_cases seen x.output m.output h) [
      | inl b ↦ (suc i, (a, inl b))
      | inr b ↦ (suc i, (a, inr (0, x, (omega arith, (refl, sym b)))))
    ]

    by : (b : Bool) → has_text seen x.output ≡ b → ((k : ℕ) → slice_get (made_again seen ms) k ≡ Some m → Says seen ms m)
        → ((k : ℕ) → slice_get (made_again (seen ++ x.output ∷ []) ms) k ≡ Some m → Says (seen ++ x.output ∷ []) ms m)
        → (k : ℕ) → slice_get (cond b (x ∷ made_again seen ms) (made_again (seen ++ x.output ∷ []) ms)) k ≡ Some m → Says seen (x ∷ ms) m
    by true h old new zero e = let i : x ≡ m = one_there x m e in (0, (e, inl (ap (λ (z : MadeOutput). has_text seen z.output) (sym i) ∙ h)))
    by true h old new (suc k) e = let r = old k e in shifted r.0 r.1
    by false h old new k e = let r = new k e in shifted_new r.0 r.1

abbrev Told : List (List ℕ) → List MadeOutput → MadeOutput → Type 0
Told seen ms m = (k : ℕ) × (slice_get (made_again seen ms) k ≡ Some m)

says_told : (ms : List MadeOutput) (seen : List (List ℕ)) (m : MadeOutput) → Says seen ms m → Told seen ms m
says_told [] seen m (i, (a, w)) = absurd (cc a)
says_told (x ∷ ms) seen m (i, (a, w)) =
    by (has_text seen x.output) refl (λ i a w. says_told ms seen m (i, (a, w))) (λ i a w. says_told ms (seen ++ x.output ∷ []) m (i, (a, w))) i a w
  where
    less : (i : ℕ) → has_text seen x.output ≡ true → Because seen (x ∷ ms) (suc i) m.output → Because seen ms i m.output
    less i h (inl w) = inl w
    less i h (inr (zero, n, (l, (b, e)))) = inl (ap (has_text seen) (sym e ∙ ap (λ (z : MadeOutput). z.output) (sym (one_there x n b))) ∙ h)
    less i h (inr (suc j, n, (l, (b, e)))) = inr (j, n, (omega (arith, l), (b, e)))

    less_new : (i : ℕ) → Because seen (x ∷ ms) (suc i) m.output → Because (seen ++ x.output ∷ []) ms i m.output
    less_new i (inl w) = inl (text_left seen (x.output ∷ []) m.output w)
    less_new i (inr (zero, n, (l, (b, e)))) =
        inl (ap (has_text (seen ++ x.output ∷ [])) (sym e ∙ ap (λ (z : MadeOutput). z.output) (sym (one_there x n b))) ∙ text_last seen x.output)
    less_new i (inr (suc j, n, (l, (b, e)))) = inr (j, n, (omega (arith, l), (b, e)))

    first : has_text seen x.output ≡ false → x ≡ m → Because seen (x ∷ ms) 0 m.output → ⊥
    first h e (inl w) = true≢false (sym w ∙ ap (λ (z : MadeOutput). has_text seen z.output) (sym e) ∙ h)
    first h e (inr (j, n, (l, b))) = omega (arith, l)

    by : (b : Bool) → has_text seen x.output ≡ b → ((i : ℕ) → slice_get ms i ≡ Some m → Because seen ms i m.output → Told seen ms m)
        → ((i : ℕ) → slice_get ms i ≡ Some m → Because (seen ++ x.output ∷ []) ms i m.output → Told (seen ++ x.output ∷ []) ms m)
        → (i : ℕ) → slice_get (x ∷ ms) i ≡ Some m → Because seen (x ∷ ms) i m.output
        → (k : ℕ) × (slice_get (cond b (x ∷ made_again seen ms) (made_again (seen ++ x.output ∷ []) ms)) k ≡ Some m)
    by true h old new zero a w = (0, a)
    by true h old new (suc i) a w = let r = old i a (less i h w) in (suc r.0, r.1)
    by false h old new zero a w = absurd (first h (one_there x m a) w)
    by false h old new (suc i) a w = new i a (less_new i w)

-- ---- places of lists
map_at : {A B : Type 0} (f : A → B) (xs : List A) (k : ℕ) (x : A) → slice_get xs k ≡ Some x → slice_get (map f xs) k ≡ Some (f x)
map_at f [] k x e = absurd (cc e)
map_at f (y ∷ xs) zero x e = ap (λ z. Some (f z)) (one_there y x e)
map_at f (y ∷ xs) (suc k) x e = map_at f xs k x e

at_map : {A B : Type 0} (f : A → B) (xs : List A) (k : ℕ) (y : B) → slice_get (map f xs) k ≡ Some y → (x : A) × (slice_get xs k ≡ Some x) × (f x ≡ y)
at_map f [] k y e = absurd (cc e)
at_map f (x ∷ xs) zero y e = (x, refl, one_there (f x) y e)
at_map f (x ∷ xs) (suc k) y e = at_map f xs k y e

right_at : {A : Type 0} (xs ys : List A) (i k : ℕ) → i ≡ length xs + k → slice_get (xs ++ ys) i ≡ slice_get ys k
right_at [] ys i k e = ap (slice_get ys) (omega (arith, e))
right_at (x ∷ xs) ys zero k e = absurd (omega (arith, e))
right_at (x ∷ xs) ys (suc i) k e = right_at xs ys i k (omega (arith, e))

module _ (made : Label → List (List ℕ)) where
  -- where the outputs of a target begin
  abbrev offset : List Label → ℕ → ℕ
  offset [] a = 0
  offset (x ∷ ts) zero = 0
  offset (x ∷ ts) (suc a) = length (made x) + offset ts a

  size : (x : Label) → length (made_by x (made x)) ≡ length (made x)
  size x = length-map (made x) (output_of x)

  at_place : (ts : List Label) (a b : ℕ) (t : Label) (p : List ℕ) → slice_get ts a ≡ Some t → slice_get (made t) b ≡ Some p
      → slice_get (all_made made ts) (offset ts a + b) ≡ Some (output_of t p)
  at_place [] a b t p e f = absurd (cc e)
  at_place (x ∷ ts) zero b t p e f =
      let i : x ≡ t = one_there x t e in
      let n : 0 + b ≡ b = omega arith in
      let g : slice_get (made x) b ≡ Some p = ap (λ (z : Label). slice_get (made z) b) i ∙ f in
      ap (slice_get (all_made made (x ∷ ts))) n
      ∙ left_at (made_by x (made x)) (all_made made ts) b (output_of x p) (map_at (output_of x) (made x) b p g)
      ∙ ap (λ (z : Label). Some (output_of z p)) i
  at_place (x ∷ ts) (suc a) b t p e f =
      right_at (made_by x (made x)) (all_made made ts) ((length (made x) + offset ts a) + b) (offset ts a + b) (omega (arith, size x)) ∙ at_place ts a b t p e f

  abbrev IsAt : List Label → ℕ → MadeOutput → ℕ → ℕ → Type 0
  IsAt ts i m a b = (slice_get ts a ≡ Some m.label) × ((slice_get (made m.label) b ≡ Some m.output) × (i ≡ offset ts a + b))

  place_at : (ts : List Label) (i : ℕ) (m : MadeOutput) → slice_get (all_made made ts) i ≡ Some m → (a : ℕ) × (b : ℕ) × IsAt ts i m a b
  place_at [] i m e = absurd (cc e)
  place_at (x ∷ ts) i m e = elim (cases_lt i (length (made x))) [
    | inl l ↦
        let r = at_map (output_of x) (made x) i m (was_at (made_by x (made x)) (all_made made ts) i m (omega (arith, l, size x)) e) in
        let label : x ≡ m.label = ap (λ (z : MadeOutput). z.label) r.2 in
        (0, i, (ap Some label, (ap (λ (z : Label). slice_get (made z) i) (sym label) ∙ r.1 ∙ ap (λ (z : MadeOutput). Some z.output) r.2, omega arith)))
    | inr l ↦
        let k : ℕ = i - length (made x) in
        let n : i ≡ length (made x) + k = omega (arith, l) in
        let r = place_at ts k m (sym (right_at (made_by x (made x)) (all_made made ts) i k (omega (arith, n, size x))) ∙ e) in
        let s = r.2 in
        let p = s.1.1 in
        (suc r.0, r.1, (s.0, (s.1.0, omega (arith, n, p))))
  ]

  before : (ts : List Label) (a' a b' b : ℕ) (s : Label) (p : List ℕ) → a' < a → slice_get ts a' ≡ Some s → slice_get (made s) b' ≡ Some p → a < length ts
      → offset ts a' + b' < offset ts a + b
  before [] a' a b' b s p l e f w = absurd (cc e)
  before (x ∷ ts) zero zero b' b s p l e f w = absurd (omega (arith, l))
  before (x ∷ ts) zero (suc a) b' b s p l e f w =
      let g : slice_get (made x) b' ≡ Some p = ap (λ (z : Label). slice_get (made z) b') (one_there x s e) ∙ f in
      omega (arith, within (made x) b' p g)
  before (x ∷ ts) (suc a') zero b' b s p l e f w = absurd (omega (arith, l))
  before (x ∷ ts) (suc a') (suc a) b' b s p l e f w = omega (arith, before ts a' a b' b s p (omega (arith, l)) e f (omega (arith, w)))

  not_after : (ts : List Label) (i j : ℕ) (m n : MadeOutput) (a b a' b' : ℕ) → IsAt ts i m a b → IsAt ts j n a' b' → j < i → (a' < a) ⊎ ((a' ≡ a) × (b' < b))
  not_after ts i j m n a b a' b' s r l = elim (cases_lt a' a) [
    | inl k ↦ inl k
    | inr k ↦ elim (cases_lt a a') [
      | inl h ↦
          let x = before ts a a' b b' m.label m.output h s.0 s.1.0 (within ts a' n.label r.0) in
          let p = s.1.1 in
          let q = r.1.1 in
          absurd (omega (arith, x, p, q, l))
      | inr h ↦
          let same : a' ≡ a = omega (arith, k, h) in
          let q : j ≡ offset ts a + b' = r.1.1 ∙ ap (λ z. offset ts z + b') same in
          let p = s.1.1 in
          inr (same, omega (arith, p, q, l))
    ]
  ]

  pub told_again : (ts : List Label) (t : Label) (p : List ℕ) → IsRepeated made ts t p → IsMadeAgain made ts t p
  told_again ts t p (k, e) = from (told_says (all_made made ts) [] m k e)
    where
      m : MadeOutput
      m = output_of t p

      made_of : (i j : ℕ) (n : MadeOutput) (a b a' b' : ℕ) → IsAt ts i (output_of t p) a b × (IsAt ts j n a' b' × (n.output ≡ p)) → (a' < a) ⊎ ((a' ≡ a) × (b' < b)) → IsMadeAgain made ts t p
      made_of i j n a b a' b' (s, (r, q)) (inl l) = record {
        place = a;
        here = s.0;
        at = b;
        makes = s.1.0;
        again = inl (a', n.label, l, r.0, has_at bytes_eq bytes_eq-itself same_text (made n.label) b' p (r.1.0 ∙ ap Some q));
      }
      made_of i j n a b a' b' (s, (r, q)) (inr (same, l)) = record {
        place = a;
        here = s.0;
        at = b;
        makes = s.1.0;
        again =
            let label : n.label ≡ t = one_there n.label t (sym r.0 ∙ ap (slice_get ts) same ∙ s.0) in
            inr (b', l, ap (λ (z : Label). slice_get (made z) b') (sym label) ∙ r.1.0 ∙ ap Some q);
      }

      from : Says [] (all_made made ts) m → IsMadeAgain made ts t p
      from (i, (a, inl h)) = absurd (true≢false (sym h))
      from (i, (a, inr (j, n, (l, (b, q))))) =
          let x = place_at ts i m a in
          let y = place_at ts j n b in
          made_of i j n x.0 x.1 y.0 y.1 (x.2, (y.2, q)) (not_after ts i j m n x.0 x.1 y.0 y.1 x.2 y.2 l)

  pub again_told : (ts : List Label) (t : Label) (p : List ℕ) → IsMadeAgain made ts t p → IsRepeated made ts t p
  again_told ts t p s = says_told (all_made made ts) [] m (offset ts s.place + s.at, (at_place ts s.place s.at t p s.here s.makes, inr (from s.again)))
    where
      m : MadeOutput
      m = output_of t p

      from : ((j : ℕ) × (x : Label) × (j < s.place) × (slice_get ts j ≡ Some x) × (has_text (made x) p ≡ true)) ⊎ ((i : ℕ) × (i < s.at) × (slice_get (made t) i ≡ Some p))
          → Earlier (all_made made ts) (offset ts s.place + s.at) p
      from (inl (j, x, l, e, h)) =
          let k = place_of bytes_eq bytes_eq-itself same_text p (made x) h in
          (offset ts j + k.0, output_of x p, (before ts j s.place k.0 s.at x p l e k.1 (within ts s.place t s.here), (at_place ts j k.0 x p e k.1, refl)))
      from (inr (i, l, e)) = (offset ts s.place + i, m, (omega (arith, l), (at_place ts s.place i t p s.here e, refl)))
