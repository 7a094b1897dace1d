-- The first way of the least number of edges is the shortest path.
use Rattle.std.proofs.Common.{◌≡◌, ◌⊎◌, inl, inr, ℕ, zero, suc, ◌+◌, ◌<◌, ◌≤◌, List, [], ◌∷◌, ◌++◌, Option, Some, None, length, take, Bool, true, false, ◌||◌, if◌then◌else◌, refl, sym, ◌∙◌, ap, subst, arith, true≢false}
use Rattle.std.specs.Option.{option_map, option_or}
use Rattle.std.proofs.lemmas.Bool.{cases_lt}
use Rattle.std.proofs.lemmas.List.{append_assoc}
use Rattle.std.proofs.Math.Seq.{take-append_seam}
use Rattle.gn_labels.specs.declared.label.Label.{Label}
use Rattle.gn_dependencies.specs.Lists.{same_label, has}
use Rattle.gn_dependencies.specs.Shape.{Path, end_from}
use Rattle.gn_dependencies.specs.Cycles.{IsPath}
use Rattle.gn_dependencies.proofs.Same.{own, same}
use Rattle.gn_dependencies.proofs.Has.{or_false, or_true, has_own}
use Rattle.gn_dependencies.proofs.Kept.{has-append}
use Rattle.gn_cycles.specs.Search.{IsWalk}
use Rattle.gn_cycles.specs.Shortest.{StandsBefore, Precedes, IsNotBehind, IsShortestPath}
use Rattle.gn_graph_meant.specs.Ways.{first_through, first_way, least_way, shortest_path_in}
use Rattle.gn_graph_meant.specs.Laws.{OnlyFrom, FindsShortest}
use Rattle.gn_graph_meant.proofs.Shortening.{short_walk}

has_in : (xs ys : List Label) (q : Label) → has xs q ≡ true → has (xs ++ ys) q ≡ true
has_in xs ys q h = has-append xs ys q ∙ ap (λ b. b || has ys q) h

has_middle : (xs ys : List Label) (q : Label) → has (xs ++ q ∷ ys) q ≡ true
has_middle xs ys q = has-append xs (q ∷ ys) q ∙ ap (λ b. has xs q || b) (has_own q ys) ∙ or_true (has xs q)

-- a label that isn't among those at the start, and isn't the one behind them, stands later
stands_before : (all xs ys : List Label) (d e : Label) → all ≡ xs ++ d ∷ ys → has xs e ≡ false → same_label e d ≡ false → StandsBefore all d e
stands_before all xs ys d e is h s = (
  length (xs ++ d ∷ []),
  ap (λ (z : List Label). has z d) cut ∙ has_middle xs [] d,
  ap (λ (z : List Label). has z e) cut ∙ has-append xs (d ∷ []) e ∙ ap (λ b. b || has (d ∷ []) e) h ∙ or_false (same_label e d) ∙ s,
)
  where
    cut : take (length (xs ++ d ∷ [])) all ≡ xs ++ d ∷ []
    cut = ap (take (length (xs ++ d ∷ []))) (is ∙ sym (append_assoc xs (d ∷ []) ys)) ∙ take-append_seam (xs ++ d ∷ []) ys

module _ (next : Label → List Label) (goal : Label) where
  -- no way of just n edges
  abbrev HasNone : ℕ → Label → Type 0
  HasNone n t = (q : Path) → IsWalk next t q → length q ≡ n → end_from t q ≡ goal → ⊥

  -- the path is the other, or precedes it
  abbrev GoesFirst : Label → Path → Path → Type 0
  GoesFirst t p q = (p ≡ q) ⊎ Precedes next t p q

  abbrev IsWay : ℕ → Label → Path → Type 0
  IsWay n t p = IsWalk next t p × (length p ≡ n) × (end_from t p ≡ goal)

  abbrev IsFirstWay : ℕ → Label → Option Path → Type 0
  IsFirstWay n t None = HasNone n t
  IsFirstWay n t (Some p) = IsWay n t p × ((q : Path) → IsWay n t q → GoesFirst t p q)

  here : (t : Label) (b : Bool) → same_label t goal ≡ b → IsFirstWay 0 t (if b then Some [] else None)
  here t true e = ((tt, refl, same t goal e), first)
    where
      first : (q : Path) → IsWay 0 t q → GoesFirst t [] q
      first [] w = inl refl
      first (d ∷ q) w = absurd (omega (arith, w.1))
  here t false e = none
    where
      none : HasNone 0 t
      none [] w l f = true≢false (sym (ap (same_label t) (sym f) ∙ own t) ∙ e)
      none (d ∷ q) w l f = absurd (omega (arith, l))

  module _ (n : ℕ) (t : Label) (way : Label → Option Path) (each : (d : Label) → IsFirstWay n d (way d)) where
    abbrev NoneFrom : List Label → Type 0
    NoneFrom xs = (e : Label) → has xs e ≡ true → HasNone n e

    none_more : (xs : List Label) (d : Label) → NoneFrom xs → HasNone n d → NoneFrom (xs ++ d ∷ [])
    none_more xs d none h e i = go (has xs e) (same_label e d) refl refl (sym (has-append xs (d ∷ []) e) ∙ i)
      where
        go : (a b : Bool) → has xs e ≡ a → same_label e d ≡ b → (a || (b || false)) ≡ true → HasNone n e
        go true b p q i = none e p
        go false true p q i = subst (HasNone n) (sym (same e d q)) h
        go false false p q i = absurd (cc i)

    ends : (xs : List Label) → next t ≡ xs ++ [] → NoneFrom xs → HasNone (suc n) t
    ends xs is none [] w l f = absurd (omega (arith, l))
    ends xs is none (e ∷ q) w l f =
        let h : has xs e ≡ true = sym (has-append xs [] e ∙ or_false (has xs e)) ∙ sym (ap (λ (z : List Label). has z e) is) ∙ w.0 in
        none e h q w.1 (omega (arith, l)) f

    -- the first edge to d is the first for which there is a way
    chosen : (xs ds : List Label) (d : Label) (p : Path) → next t ≡ xs ++ d ∷ ds → NoneFrom xs → IsFirstWay n d (Some p) → IsFirstWay (suc n) t (Some (d ∷ p))
    chosen xs ds d p is none f = (((ap (λ (z : List Label). has z d) is ∙ has_middle xs ds d, f.0.0), ap suc f.0.1, f.0.2), first)
      where
        first : (q : Path) → IsWay (suc n) t q → GoesFirst t (d ∷ p) q
        first [] w = absurd (omega (arith, w.1))
        first (e ∷ q) w = go (has xs e) (same_label e d) refl refl
          where
            way_on : IsWay n e q
            way_on = (w.0.1, omega (arith, w.1), w.2)

            onward : d ≡ e → GoesFirst t (d ∷ p) (e ∷ q)
            onward s = elim (f.1 q (subst (λ (z : Label). IsWay n z q) (sym s) way_on)) [
              | inl same ↦ inl (λ i. s i ∷ same i)
              | inr before ↦ inr (inr (s, before))
            ]

            go : (a b : Bool) → has xs e ≡ a → same_label e d ≡ b → GoesFirst t (d ∷ p) (e ∷ q)
            go true b h s = absurd (none e h q way_on.0 way_on.1 way_on.2)
            go false true h s = onward (sym (same e d s))
            go false false h s = inr (inl (stands_before (next t) xs ds d e is h s))

    through : (xs ds : List Label) → next t ≡ xs ++ ds → NoneFrom xs → IsFirstWay (suc n) t (first_through way ds)
    through xs [] is none = ends xs is none
    through xs (d ∷ ds) is none = go (way d) (each d) (through (xs ++ d ∷ []) ds (is ∙ sym (append_assoc xs (d ∷ []) ds)))
      where
        go : (o : Option Path) → IsFirstWay n d o → (NoneFrom (xs ++ d ∷ []) → IsFirstWay (suc n) t (first_through way ds))
            → IsFirstWay (suc n) t (option_or (option_map (λ (p : Path). d ∷ p) o) (first_through way ds))
        go None h onward = onward (none_more xs d none h)
        go (Some p) h onward = chosen xs ds d p is none h

  is_first_way : (n : ℕ) (t : Label) → IsFirstWay n t (first_way next goal n t)
  is_first_way zero t = here t (same_label t goal) refl
  is_first_way (suc n) t = through n t (λ d. first_way next goal n d) (is_first_way n) [] (next t) refl (λ e h. absurd (cc h))

  -- ---- the least number
  abbrev IsLeastWay : Label → ℕ → ℕ → Option Path → Type 0
  IsLeastWay t n more None = (q : Path) → IsWalk next t q → n ≤ length q → length q < n + more → end_from t q ≡ goal → ⊥
  IsLeastWay t n more (Some p) =
      (IsWalk next t p × (n ≤ length p) × (end_from t p ≡ goal)) × ((q : Path) → IsWalk next t q → n ≤ length q → end_from t q ≡ goal → IsNotBehind next t p q)

  later : (t : Label) (n more : ℕ) (o : Option Path) → HasNone n t → IsLeastWay t (suc n) more o → IsLeastWay t n (suc more) o
  later t n more None none h = λ q w l m f. elim (cases_lt n (length q)) [
    | inl k ↦ h q w (omega (arith, k)) (omega (arith, m)) f
    | inr k ↦ none q w (omega (arith, k, l)) f
  ]
  later t n more (Some p) none h = (
    (h.0.0, omega (arith, h.0.1), h.0.2),
    λ q w l f. elim (cases_lt n (length q)) [
      | inl k ↦ h.1 q w (omega (arith, k)) f
      | inr k ↦ absurd (none q w (omega (arith, k, l)) f)
    ],
  )

  now : (t : Label) (n more : ℕ) (p : Path) → IsFirstWay n t (Some p) → IsLeastWay t n more (Some p)
  now t n more p h = (
    (h.0.0, omega (arith, h.0.1), h.0.2),
    λ q w l f. elim (cases_lt n (length q)) [
      | inl k ↦ inr (inl (omega (arith, k, h.0.1)))
      | inr k ↦
          let m : length q ≡ n = omega (arith, k, l) in
          elim (h.1 q (w, m, f)) [ inl e ↦ inl e | inr e ↦ inr (inr (h.0.1 ∙ sym m, e)) ]
    ],
  )

  is_least_way : (t : Label) (n more : ℕ) → IsLeastWay t n more (least_way next goal t n more)
  is_least_way t n zero = λ q w l m f. omega (arith, l, m)
  is_least_way t n (suc more) = go (first_way next goal n t) (is_first_way n t) (is_least_way t (suc n) more)
    where
      go : (o : Option Path) → IsFirstWay n t o → IsLeastWay t (suc n) more (least_way next goal t (suc n) more)
          → IsLeastWay t n (suc more) (option_or o (least_way next goal t (suc n) more))
      go None h others = later t n more (least_way next goal t (suc n) more) h others
      go (Some p) h others = now t n (suc more) p h

  -- ---- paths are walks of one edge at least
  path_from : (t : Label) (p : Path) → IsWalk next t p → 1 ≤ length p → IsPath next t p
  path_from t [] w l = absurd (omega (arith, l))
  path_from t (d ∷ []) w l = w.0
  path_from t (d ∷ e ∷ p) w l = (w.0, path_from d (e ∷ p) w.1 (omega arith))

  walk_of : (t : Label) (p : Path) → IsPath next t p → IsWalk next t p × (1 ≤ length p)
  walk_of t [] h = absurd h
  walk_of t (d ∷ []) h = ((h, tt), omega arith)
  walk_of t (d ∷ e ∷ p) h = ((h.0, (walk_of d (e ∷ p) h.1).0), omega arith)

  module _ (all : List Label) (only : OnlyFrom next all) (t : Label) where
    no_path : IsLeastWay t 1 (length all) None → (q : Path) → IsPath next t q → end_from t q ≡ goal → ⊥
    no_path h [] i f = absurd i
    no_path h (d ∷ q) i f = on (short_walk next all only t d q (walk_of t (d ∷ q) i).0)
      where
        on : ((p : Path) × IsWalk next t p × (end_from t p ≡ end_from d q) × (1 ≤ length p) × (length p ≤ length all)) → ⊥
        on (p, w, e, one, few) = h p w one (omega (arith, few)) (e ∙ f)

    shortest_from : (o : Option Path) → IsLeastWay t 1 (length all) o → IsShortestPath next t goal o
    shortest_from None h = no_path h
    shortest_from (Some p) h = record {
      path = path_from t p h.0.0 h.0.1;
      ends = h.0.2;
      first = λ q i f. let w = walk_of t q i in h.1 q w.0 w.1 f;
    }

pub finds_shortest : FindsShortest
unfolding shortest_path_in
finds_shortest all next only t goal = shortest_from next goal all only t (least_way next goal t 1 (length all)) (is_least_way next goal t 1 (length all))
