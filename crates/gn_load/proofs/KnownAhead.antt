-- What was read before, where more was read ahead.
use Rattle.std.proofs.Common.{◌≡◌, ◌⊎◌, inl, inr, ℕ, List, [], ◌∷◌, Some, refl, sym, ◌∙◌, subst}
use Rattle.std.specs.Ordering.{nat_cmp, match_ordering}
use Rattle.std.specs.declared.cmp.Ordering.{Ordering}
use Rattle.std.specs.declared.cmp.Ordering.TheVariants.{Less, Equal, Greater}
use Rattle.std.specs.Cmp.Lexicographic.{slice_cmp}
use Rattle.std.proofs.lemmas.Map.Lookups.{exact_bytes}
use Rattle.gn_outside.specs.Tree.{Tree, read_of}
use Rattle.gn_outside.specs.States.{SourceState}
use Rattle.gn_outside.specs.Lists.{Each}
use Rattle.gn_values.specs.Tables.{with_name}
use Rattle.gn_closure.specs.Closure.{In}
use Rattle.gn_core.specs.Keys.{Key, Read}
use Rattle.gn_projects.specs.Files.{content_in}
use Rattle.gn_answers.specs.Answers.{content_view}
use Rattle.gn_load.specs.Turns.{known_paths, KeepsKnown}
use Rattle.gn_answers.specs.declared.answer.FileContent.{FileContent}

abbrev Contents : Type 0
Contents = List (List ℕ × FileContent)

-- One more path in a table
module _ (path : List ℕ) (content : FileContent) where
  -- a table with the entry in its place
  abbrev placed : Ordering → List ℕ × FileContent → Contents → Contents
  placed o e es = match_ordering o ((path, content) ∷ e ∷ es) ((e.0, content) ∷ es) (e ∷ with_name path content es)

  put_has : (es : Contents) (q : List ℕ) → In (known_paths es) q → In (known_paths (with_name path content es)) q
  put_has [] q i = absurd i
  put_has (e ∷ es) q i = by (slice_cmp nat_cmp path e.0) (put_has es q) i
    where
      by : (o : Ordering) → (In (known_paths es) q → In (known_paths (with_name path content es)) q) → In (known_paths (e ∷ es)) q → In (known_paths (placed o e es)) q
      by Less later j = inr j
      by Equal later j = j
      by Greater later (inl same) = inl same
      by Greater later (inr j) = inr (later j)

  put_was : (es : Contents) (q : List ℕ) → In (known_paths (with_name path content es)) q → In (known_paths es) q ⊎ (q ≡ path)
  put_was [] q (inl same) = inr (sym same)
  put_was [] q (inr i) = absurd i
  put_was (e ∷ es) q i = by (slice_cmp nat_cmp path e.0) (put_was es q) i
    where
      by : (o : Ordering) → (In (known_paths (with_name path content es)) q → In (known_paths es) q ⊎ (q ≡ path)) → In (known_paths (placed o e es)) q → In (known_paths (e ∷ es)) q ⊎ (q ≡ path)
      by Less later (inl same) = inr (sym same)
      by Less later (inr j) = inl j
      by Equal later j = inl j
      by Greater later (inl same) = inl (inl same)
      by Greater later (inr j) = elim (later j) [ inl a ↦ inl (inr a) | inr a ↦ inr a ]

  put_new : (es : Contents) → In (known_paths (with_name path content es)) path
  put_new [] = inl refl
  put_new (e ∷ es) = by (slice_cmp nat_cmp path e.0) refl (put_new es)
    where
      by : (o : Ordering) → slice_cmp nat_cmp path e.0 ≡ o → In (known_paths (with_name path content es)) path → In (known_paths (placed o e es)) path
      by Less is later = inl refl
      by Equal is later = inl (sym (exact_bytes path e.0 is))
      by Greater is later = inr later

  put_each : (P : List ℕ → FileContent → Type 0) (es : Contents) → P path content → Each (λ (e : List ℕ × FileContent). P e.0 e.1) es → Each (λ (e : List ℕ × FileContent). P e.0 e.1) (with_name path content es)
  put_each P [] here each = (here, tt)
  put_each P (e ∷ es) here each = by (slice_cmp nat_cmp path e.0) refl (put_each P es here each.1)
    where
      by : (o : Ordering) → slice_cmp nat_cmp path e.0 ≡ o → Each (λ (x : List ℕ × FileContent). P x.0 x.1) (with_name path content es) → Each (λ (x : List ℕ × FileContent). P x.0 x.1) (placed o e es)
      by Less is later = (here, each)
      by Equal is later = (subst (λ (p : List ℕ). P p content) (exact_bytes path e.0 is) here, each.1)
      by Greater is later = (each.0, later)

-- more is known, all of which has numbers
pub kept_more : (known more : List (List ℕ)) (before next : SourceState) (left : Contents) (keys : List Key) → KeepsKnown known before left keys → next.tree ≡ before.tree
    → ((path : List ℕ) → In known path → In more path) → ((path : List ℕ) → In more path → In known path ⊎ In keys (Read path)) → KeepsKnown more next left keys
kept_more known more before next left keys kept tree has was = record {
  all = λ path i. elim (was path i) [ inl j ↦ kept.all path j | inr j ↦ inr j ];
  only = λ path i. has path (kept.only path i);
  told = λ t told. kept.told t (sym tree ∙ told);
}

-- a path was read ahead
pub kept_put : (known more : List (List ℕ)) (before next : SourceState) (left : Contents) (keys : List Key) (path : List ℕ) (content : FileContent) → KeepsKnown known before left keys → next.tree ≡ before.tree
    → ((p : List ℕ) → In known p → In more p) → In more path → ((p : List ℕ) → In more p → In known p ⊎ (p ≡ path))
    → ((tree : Tree) → before.tree ≡ Some tree → content_view content ≡ content_in (read_of tree path)) → KeepsKnown more next (with_name path content left) keys
kept_put known more before next left keys path content kept tree has one was is = record {
  all = λ p i. elim (was p i) [
    | inl j ↦ elim (kept.all p j) [ inl k ↦ inl (put_has path content left p k) | inr k ↦ inr k ]
    | inr same ↦ inl (subst (In (known_paths (with_name path content left))) (sym same) (put_new path content left))
  ];
  only = λ p i. elim (put_was path content left p i) [ inl j ↦ has p (kept.only p j) | inr same ↦ subst (In more) (sym same) one ];
  told = λ t told. put_each path content (λ p x. content_view x ≡ content_in (read_of t p)) left (is t (sym tree ∙ told)) (kept.told t (sym tree ∙ told));
}
