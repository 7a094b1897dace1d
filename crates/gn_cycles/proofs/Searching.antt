-- A search by breadth meets all dependencies of a label, and ends.
use Rattle.std.proofs.Common.{◌≡◌, ◌⊎◌, inl, inr, ℕ, zero, suc, ◌+◌, ◌<◌, ◌≤◌, List, [], ◌∷◌, ◌++◌, length, slice_get, Option, Some, None, Bool, true, false, cond, ◌||◌, refl, sym, ◌∙◌, ap, subst, arith, true≢false, append_assoc, append-nil, replicate, reverse, ◌-◌}
use Rattle.std.proofs.lemmas.List.{length-append, reverse-append}
use Rattle.gn_labels.specs.declared.label.Label.{Label}
use Rattle.gn_dependencies.specs.Lists.{same_label, has, kept, added}
use Rattle.gn_dependencies.specs.Shape.{Path, end_from}
use Rattle.gn_dependencies.specs.Cycles.{IsPath}
use Rattle.gn_dependencies.proofs.Same.{own, same}
use Rattle.gn_dependencies.proofs.Has.{or_false}
use Rattle.gn_dependencies.proofs.Kept.{has-append, kept-same}
use Rattle.gn_dependencies.proofs.At.{left_at, one_there}
use Rattle.gn_dependencies.proofs.OrderLaws.{at_some, within, place_of}
use Rattle.gn_cycles.specs.Shortest.{IsShortest, IsApart}
use Rattle.gn_cycles.specs.Search.{IsWalk, AreWays, AreEarlier, IsSearch, IsSearched}
use Rattle.gn_cycles.proofs.Walks.{path_walk, more_path}
use Rattle.gn_cycles.proofs.Steps.{started, met, passed, apart}
use Rattle.gn_cycles.proofs.NewLabel.{another}

-- the numbers from which labels were met, with one for each that is new
abbrev pub sources : List ℕ → ℕ → List Label → List Label → List ℕ
sources came m labels rest = came ++ replicate (length (kept (has labels) rest)) m

module _ (next : Label → List Label) (t : Label) (m : ℕ) (c : Label) where
  abbrev Searched : List Label → List ℕ → List Label → Type 0
  Searched labels came seen = (ways : List Path) × IsSearch next t labels came ways m seen

  all_met : (rest seen labels : List Label) (came : List ℕ) (ways : List Path) (w : Path) → IsSearch next t labels came ways m seen → slice_get (t ∷ labels) m ≡ Some c
      → slice_get ([] ∷ ways) m ≡ Some w → next c ≡ seen ++ rest → Searched (added labels rest) (sources came m labels rest) (seen ++ rest)
  all_met [] seen labels came ways w s at way e = (
    ways,
    subst (λ (z : List Label). IsSearch next t z (came ++ []) ways m (seen ++ [])) (sym (append-nil labels))
        (subst (λ (z : List ℕ). IsSearch next t labels z ways m (seen ++ [])) (sym (append-nil came))
        (subst (λ (z : List Label). IsSearch next t labels came ways m z) (sym (append-nil seen)) s)),
  )
  all_met (d ∷ rest) seen labels came ways w s at way e =
      by (has labels d) refl
      (λ h. all_met rest (seen ++ d ∷ []) labels came ways w (met next t labels came ways m seen d s h) at way on)
      (λ h.
      all_met rest (seen ++ d ∷ []) (labels ++ d ∷ []) (came ++ m ∷ []) (ways ++ (w ++ d ∷ []) ∷ []) w (another next t labels came ways m seen s c w at way d rest e h)
      (left_at (t ∷ labels) (d ∷ []) m c at) (left_at ([] ∷ ways) ((w ++ d ∷ []) ∷ []) m w way) on)
    where
      on : next c ≡ (seen ++ d ∷ []) ++ rest
      on = e ∙ sym (append_assoc seen (d ∷ []) rest)

      by : (b : Bool) → has labels d ≡ b
          → (has labels d ≡ true → Searched (added labels rest) (sources came m labels rest) ((seen ++ d ∷ []) ++ rest))
          → (has labels d ≡ false → Searched (added (labels ++ d ∷ []) rest) (sources (came ++ m ∷ []) m (labels ++ d ∷ []) rest) ((seen ++ d ∷ []) ++ rest))
          → Searched (labels ++ cond b (kept (has labels) rest) (d ∷ kept (λ y. has labels y || same_label y d) rest))
          (came ++ replicate (length (cond b (kept (has labels) rest) (d ∷ kept (λ y. has labels y || same_label y d) rest))) m) (seen ++ d ∷ rest)
      by true h old new =
          let r = old h in
          (r.0, subst (λ (z : List Label). IsSearch next t (added labels rest) (sources came m labels rest) r.0 m z) (append_assoc seen (d ∷ []) rest) r.1)
      by false h old new =
          let r = new h in
          let labels' : List Label = labels ++ d ∷ [] in
          let more : Label → Bool = λ y. has labels y || same_label y d in
          let k : kept (has labels') rest ≡ kept more rest = kept-same (has labels') more (λ y. has-append labels (d ∷ []) y ∙ ap (λ b. has labels y || b) (or_false (same_label y d))) rest in
          let a : added labels' rest ≡ labels ++ d ∷ kept more rest = append_assoc labels (d ∷ []) (kept (has labels') rest) ∙ ap (λ (z : List Label). labels ++ d ∷ z) k in
          let b : sources (came ++ m ∷ []) m labels' rest ≡ came ++ replicate (suc (length (kept more rest))) m
          = append_assoc came (m ∷ []) (replicate (length (kept (has labels') rest)) m) ∙ ap (λ (z : List Label). came ++ replicate (suc (length z)) m) k in (
            r.0,
            subst (λ (z : List Label). IsSearch next t z (came ++ replicate (suc (length (kept more rest))) m) r.0 m (seen ++ d ∷ rest)) a
                (subst (λ (z : List ℕ). IsSearch next t (added labels' rest) z r.0 m (seen ++ d ∷ rest)) b
                (subst (λ (z : List Label). IsSearch next t (added labels' rest) (sources (came ++ m ∷ []) m labels' rest) r.0 m z) (append_assoc seen (d ∷ []) rest) r.1)),
          )

module _ (next : Label → List Label) (t : Label) where
  abbrev pub Passed : List Label → List ℕ → ℕ → Type 0
  Passed labels came m = (ways : List Path) × IsSearch next t labels came ways m []

  pub next_at : (labels : List Label) (n : ℕ) (z : Label) → slice_get labels n ≡ Some z → slice_get (t ∷ labels) (n + 1) ≡ Some z
  next_at labels n z e = let i : n + 1 ≡ suc n = omega arith in ap (slice_get (t ∷ labels)) i ∙ e

  -- the dependencies of one more
  pub stepped : (labels labels' deps : List Label) (came came' : List ℕ) (ways : List Path) (m : ℕ) (c : Label) → IsSearch next t labels came ways m []
      → slice_get (t ∷ labels) m ≡ Some c → deps ≡ next c → labels' ≡ added labels deps → came' ≡ came ++ replicate (length labels' - length came) m → Passed labels' came' (m + 1)
  stepped labels labels' deps came came' ways m c s at f a b =
      let w = at_some ([] ∷ ways) m (omega (arith, s.known.sized, within (t ∷ labels) m c at)) in
      let r = all_met next t m c (next c) [] labels came ways w.0 s at w.1 refl in
      let is : labels' ≡ added labels (next c) = a ∙ ap (λ (z : List Label). added labels z) f in
      let count : length labels' - length came ≡ length (kept (has labels) (next c)) =
      omega (arith, ap length is, length-append labels (kept (has labels) (next c)), s.known.matched) in
      let all : came' ≡ sources came m labels (next c) = b ∙ ap (λ k. came ++ replicate k m) count in
      let q : IsSearch next t labels' came' r.0 m (next c) = subst (λ (z : List Label). IsSearch next t z came' r.0 m (next c)) (sym is)
      (subst (λ (z : List ℕ). IsSearch next t (added labels (next c)) z r.0 m (next c)) (sym all) r.1) in
      let there : slice_get (t ∷ labels') m ≡ Some c =
      ap (λ (z : List Label). slice_get (t ∷ z) m) is ∙ left_at (t ∷ labels) (kept (has labels) (next c)) m c at in
      (r.0, passed next t labels' came' r.0 m c there q)

  pub begun : (labels labels' deps : List Label) (came came' : List ℕ) → labels ≡ [] → came ≡ [] → deps ≡ next t → labels' ≡ added labels deps
      → came' ≡ came ++ replicate (length labels' - length came) 0 → Passed labels' came' 1
  begun labels labels' deps came came' e f g a b =
      stepped [] labels' deps [] came' [] 0 t (started next t) refl g (a ∙ ap (λ (z : List Label). added z deps) e)
      (b ∙ ap (λ (z : List ℕ). z ++ replicate (length labels' - length z) 0) f)

  -- ---- what is found at the end
  pub is_shortest : (labels : List Label) (came : List ℕ) (ways : List Path) (m k : ℕ) (goal : Label) (p : Path) → IsSearch next t labels came ways m []
      → slice_get labels k ≡ Some goal → slice_get ([] ∷ ways) (k + 1) ≡ Some p → IsShortest next t goal p
  is_shortest labels came ways m k goal p s a b =
      let r = s.known.each k goal a in
      let n : k + 1 ≡ suc k = omega arith in
      let b' : slice_get ways k ≡ Some p = ap (slice_get ([] ∷ ways)) (sym n) ∙ b in
      let is : r.way ++ goal ∷ [] ≡ p = one_there (r.way ++ goal ∷ []) p (sym r.own ∙ b') in
      let l = s.leads (suc k) goal p a b' in
      record {
        path = subst (λ (z : Path). IsPath next t z) is (more_path next t goal r.way (subst (λ (z : Path). IsWalk next t z) (sym is) l.0));
        ends = l.1;
        first = s.first k goal p a b';
      }

  pub is_apart : (labels : List Label) (came : List ℕ) (ways : List Path) (m : ℕ) (goal : Label) → IsSearch next t labels came ways m [] → length labels < m → has labels goal ≡ false
      → IsApart next t goal
  is_apart labels came ways m goal s few n q h e = ends_in q h e
    where
      go : (x : Label) (j : ℕ) → slice_get (t ∷ labels) j ≡ Some x → (d : Label) (p : Path) → IsWalk next x (d ∷ p) → has labels (end_from x (d ∷ p)) ≡ true
      go x j a d [] h = s.closed j x (omega (arith, few, within (t ∷ labels) j x a)) a d h.0
      go x j a d (y ∷ p) h =
          let i = s.closed j x (omega (arith, few, within (t ∷ labels) j x a)) a d h.0 in
          let k = place_of same_label own same d labels i in
          go d (suc k.0) k.1 y p h.1

      ends_in : (q : Path) → IsPath next t q → end_from t q ≡ goal → ⊥
      ends_in [] h e = h
      ends_in (d ∷ p) h e = apart labels goal (ap (has labels) (sym e) ∙ go t 0 refl d p (path_walk next t (d ∷ p) h)) n

-- a search that has ended without its goal
pub is_searched_apart : (next : Label → List Label) (t goal : Label) (labels : List Label) (came : List ℕ) → IsSearched next t goal labels came → has labels goal ≡ false → IsApart next t goal
is_searched_apart next t goal labels came (ways, (m, (s, inl h))) n = absurd (apart labels goal h n)
is_searched_apart next t goal labels came (ways, (m, (s, inr l))) n = is_apart next t labels came ways m goal s l n

-- ---- the way back
pub earlier : (labels : List Label) (came : List ℕ) (ways : List Path) → AreWays labels came ways → AreEarlier labels came
earlier labels came ways s = record {
  matched = s.matched;
  each = λ k m e.
      let z = at_some labels k (omega (arith, s.matched, within came k m e)) in
      let r = s.each k z.0 z.1 in
      let is : r.source ≡ m = one_there r.source m (sym r.came_is ∙ e) in
      omega (arith, is, r.earlier);
}

abbrev pub IsLeft : List Path → ℕ → Path → List Label → Type 0
IsLeft ways left full items = (q : Path) × (slice_get ([] ∷ ways) left ≡ Some q) × (full ≡ q ++ reverse items)

way_back : (labels : List Label) (came : List ℕ) (ways : List Path) (left : ℕ) (z : Label) (m : ℕ) (full : Path) (items : List Label) → AreWays labels came ways → 0 < left
    → slice_get labels (left - 1) ≡ Some z → slice_get came (left - 1) ≡ Some m → IsLeft ways left full items → IsLeft ways m full (items ++ z ∷ [])
way_back labels came ways zero z m full items s l a b w = absurd (omega (arith, l))
way_back labels came ways (suc k) z m full items s l a b (q, at, is) =
    let n : suc k - 1 ≡ k = omega arith in
    let r = s.each k z (ap (slice_get labels) (sym n) ∙ a) in
    let source : r.source ≡ m = one_there r.source m (sym r.came_is ∙ ap (slice_get came) (sym n) ∙ b) in
    let one : r.way ++ z ∷ [] ≡ q = one_there (r.way ++ z ∷ []) q (sym r.own ∙ at) in (
      r.way,
      ap (slice_get ([] ∷ ways)) (sym source) ∙ r.way_is,
      is ∙ ap (λ (x : Path). x ++ reverse items) (sym one) ∙ append_assoc r.way (z ∷ []) (reverse items) ∙ ap (λ (x : Path). r.way ++ x) (sym (reverse-append items (z ∷ []))),
    )

-- the labels behind the way to a number, the last first, make up with it the way to the number that is sought
abbrev pub IsGoing : List Label → List ℕ → ℕ → ℕ → List Label → Type 0
IsGoing labels came number left items = (left ≤ length labels)
    × ((ways : List Path) → AreWays labels came ways → (full : Path) × (slice_get ([] ∷ ways) number ≡ Some full) × IsLeft ways left full items)

pub way_begins : (labels : List Label) (came : List ℕ) (number : ℕ) (items : List Label) → number ≤ length labels → items ≡ [] → IsGoing labels came number number items
way_begins labels came number items l e = (
  l,
  λ ways s.
      let q = at_some ([] ∷ ways) number (omega (arith, l, s.sized)) in
      (q.0, q.1, (q.0, q.1, sym (append-nil q.0) ∙ ap (λ (z : List Label). q.0 ++ reverse z) (sym e))),
)

pub way_on : (labels : List Label) (came : List ℕ) (number left : ℕ) (z : Label) (m : ℕ) (items items' : List Label) → AreEarlier labels came → 0 < left
    → slice_get labels (left - 1) ≡ Some z → slice_get came (left - 1) ≡ Some m → items' ≡ items ++ z ∷ [] → IsGoing labels came number left items → IsGoing labels came number m items'
way_on labels came number left z m items items' s l a b e g = (
  let h = s.each (left - 1) m b in let k = g.0 in omega (arith, h, k),
  λ ways w.
      let f = g.1 ways w in
      (f.0, f.1, subst (λ (x : List Label). IsLeft ways m f.0 x) (sym e) (way_back labels came ways left z m f.0 items w l a b f.2)),
)

pub way_shorter : (labels : List Label) (came : List ℕ) (left m : ℕ) → AreEarlier labels came → 0 < left → slice_get came (left - 1) ≡ Some m → m < left
way_shorter labels came left m s l b = let h = s.each (left - 1) m b in omega (arith, h, l)

pub way_done : (labels : List Label) (came : List ℕ) (number left : ℕ) (items out : List Label) → IsGoing labels came number left items → left ≤ 0 → out ≡ reverse items
    → (ways : List Path) → AreWays labels came ways → slice_get ([] ∷ ways) number ≡ Some out
way_done labels came number left items out g l e ways s = by (g.1 ways s)
  where
    by : (full : Path) × (slice_get ([] ∷ ways) number ≡ Some full) × IsLeft ways left full items → slice_get ([] ∷ ways) number ≡ Some out
    by (full, at, (q, first, is)) =
        let zero_left : left ≡ 0 = omega (arith, l) in
        let none : [] ≡ q = one_there [] q (ap (slice_get ([] ∷ ways)) (sym zero_left) ∙ first) in
        at ∙ ap Some (is ∙ ap (λ (z : Path). z ++ reverse items) (sym none) ∙ sym e)
