-- What was read before a build is loaded, as it is filed.
use Rattle.std.proofs.Common.{◌≡◌, ◌⊎◌, inl, inr, ℕ, ◌+◌, List, [], ◌∷◌, ◌++◌, length, Some, None, Bool, true, false, ◌||◌, cond, if◌then◌else◌, refl, sym, ◌∙◌, ap, subst, true≢false, arith}
use Rattle.std.specs.declared.cmp.Ordering.TheVariants.{Less, Equal}
use Rattle.std.specs.Ordering.{nat_cmp}
use Rattle.std.specs.Cmp.{tied_itself}
use Rattle.std.specs.Cmp.Lexicographic.{slice_cmp, nat_list_cmp_total}
use Rattle.std.specs.List.{list_any, AllByRecursion}
use Rattle.std.specs.List.Sorted.{IsStrictlySortedBy}
use Rattle.std.specs.Str.{bytes_eq}
use Rattle.std.proofs.lemmas.Slice.Eq.{bytes_eq-Decides}
use Rattle.std.proofs.lemmas.Bool.{or_left, or_right}
use Rattle.std.proofs.lemmas.Option.{same_Some}
use Rattle.gn_basics.proofs.Texts.{bytes_eq-itself}
use Rattle.gn_outside.specs.Tree.{Tree, read_of}
use Rattle.gn_outside.specs.States.{SourceState}
use Rattle.gn_outside.specs.Lists.{AllDiffer, Each}
use Rattle.gn_values.specs.Tables.{at_name, without_name}
use Rattle.gn_environment.specs.Chains.{is_one_of}
use Rattle.gn_imports.proofs.PathOrder.{path_eq, path_eq-Decides}
use Rattle.gn_closure.specs.Closure.{In}
use Rattle.gn_core.specs.Keys.{Key, Read, same_key}
use Rattle.gn_book.specs.Logs.{Log, with_key}
use Rattle.gn_projects.specs.Files.{content_in}
use Rattle.gn_builds.proofs.Counts.{in_front, in_new, in_any}
use Rattle.gn_answers.specs.Answers.{content_view}
use Rattle.gn_load.specs.Turns.{known_paths, KeepsKnown}
use Rattle.gn_answers.specs.declared.answer.FileContent.{FileContent}

-- Tables of paths

abbrev Contents : Type 0
Contents = List (List ℕ × FileContent)

-- a path at which something stands is one of the table's
pub at_path : (es : Contents) (path : List ℕ) (x : FileContent) → at_name path es ≡ Some x → In (known_paths es) path
at_path [] path x h = absurd (cc h)
at_path (e ∷ es) path x h = by (path_eq path e.0) refl (at_path es path x) h
  where
    by : (b : Bool) → path_eq path e.0 ≡ b → (at_name path es ≡ Some x → In (known_paths es) path) → cond b (Some e.1) (at_name path es) ≡ Some x → In (known_paths (e ∷ es)) path
    by true is more there = inl (sym ((path_eq-Decides path e.0).0 is))
    by false is more there = inr (more there)

pub at_no_path : (es : Contents) (path : List ℕ) → at_name path es ≡ None → In (known_paths es) path → ⊥
at_no_path [] path h i = i
at_no_path (e ∷ es) path h i = by (path_eq path e.0) refl (at_no_path es path) h i
  where
    by : (b : Bool) → path_eq path e.0 ≡ b → (at_name path es ≡ None → In (known_paths es) path → ⊥) → cond b (Some e.1) (at_name path es) ≡ None → In (known_paths (e ∷ es)) path → ⊥
    by true is more none j = absurd (cc none)
    by false is more none (inl same) = absurd (true≢false (sym ((path_eq-Decides path e.0).1 (sym same)) ∙ is))
    by false is more none (inr j) = more none j

-- what holds of each entry holds of what stands at a path
pub at_each : (P : List ℕ → FileContent → Type 0) (es : Contents) (path : List ℕ) (x : FileContent) → at_name path es ≡ Some x → Each (λ (e : List ℕ × FileContent). P e.0 e.1) es → P path x
at_each P [] path x h each = absurd (cc h)
at_each P (e ∷ es) path x h each = by (path_eq path e.0) refl (λ there. at_each P es path x there each.1) h
  where
    by : (b : Bool) → path_eq path e.0 ≡ b → (at_name path es ≡ Some x → P path x) → cond b (Some e.1) (at_name path es) ≡ Some x → P path x
    by true is more there = subst (λ (y : FileContent). P path y) (same_Some e.1 x there) (subst (λ (p : List ℕ). P p e.1) (sym ((path_eq-Decides path e.0).0 is)) each.0)
    by false is more there = more there

-- without a path there are the others
rest_has : (es : Contents) (path q : List ℕ) → In (known_paths es) q → In (known_paths (without_name path es)) q ⊎ (q ≡ path)
rest_has [] path q i = absurd i
rest_has (e ∷ es) path q i = by (path_eq path e.0) refl (rest_has es path q) i
  where
    by : (b : Bool) → path_eq path e.0 ≡ b → (In (known_paths es) q → In (known_paths (without_name path es)) q ⊎ (q ≡ path)) → In (known_paths (e ∷ es)) q → In (known_paths (cond b es (e ∷ without_name path es))) q ⊎ (q ≡ path)
    by true is more (inl same) = inr (sym same ∙ sym ((path_eq-Decides path e.0).0 is))
    by true is more (inr j) = inl j
    by false is more (inl same) = inl (inl same)
    by false is more (inr j) = elim (more j) [ inl a ↦ inl (inr a) | inr a ↦ inr a ]

rest_was : (es : Contents) (path q : List ℕ) → In (known_paths (without_name path es)) q → In (known_paths es) q
rest_was [] path q i = i
rest_was (e ∷ es) path q i = by (path_eq path e.0) (rest_was es path q) i
  where
    by : (b : Bool) → (In (known_paths (without_name path es)) q → In (known_paths es) q) → In (known_paths (cond b es (e ∷ without_name path es))) q → In (known_paths (e ∷ es)) q
    by true more j = inr j
    by false more (inl same) = inl same
    by false more (inr j) = inr (more j)

rest_each : (P : List ℕ × FileContent → Type 0) (es : Contents) (path : List ℕ) → Each P es → Each P (without_name path es)
rest_each P [] path each = tt
rest_each P (e ∷ es) path each = by (path_eq path e.0) (rest_each P es path each.1)
  where
    by : (b : Bool) → Each P (without_name path es) → Each P (cond b es (e ∷ without_name path es))
    by true more = each.1
    by false more = (each.0, more)

pub rest_shorter : (es : Contents) (path : List ℕ) (x : FileContent) → at_name path es ≡ Some x → length (without_name path es) + 1 ≡ length es
rest_shorter [] path x h = absurd (cc h)
rest_shorter (e ∷ es) path x h = by (path_eq path e.0) (rest_shorter es path x) h
  where
    by : (b : Bool) → (at_name path es ≡ Some x → length (without_name path es) + 1 ≡ length es) → cond b (Some e.1) (at_name path es) ≡ Some x → length (cond b es (e ∷ without_name path es)) + 1 ≡ length (e ∷ es)
    by true more there = omega arith
    by false more there = let less = more there in omega (arith, less)

pub rest_same : (es : Contents) (path : List ℕ) → at_name path es ≡ None → without_name path es ≡ es
rest_same [] path h = refl
rest_same (e ∷ es) path h = by (path_eq path e.0) (rest_same es path) h
  where
    by : (b : Bool) → (at_name path es ≡ None → without_name path es ≡ es) → cond b (Some e.1) (at_name path es) ≡ None → cond b es (e ∷ without_name path es) ≡ e ∷ es
    by true more none = absurd (cc none)
    by false more none = ap (λ (rest : Contents). e ∷ rest) (more none)

-- a table that a map has has no path twice
pub sorted_differ : (ps : List (List ℕ)) → IsStrictlySortedBy (slice_cmp nat_cmp) ps → AllDiffer ps
unfolding IsStrictlySortedBy
sorted_differ [] sorted = tt
sorted_differ (p ∷ ps) sorted = (apart ps sorted.0, sorted_differ ps sorted.1)
  where
    apart : (qs : List (List ℕ)) → AllByRecursion (λ y. slice_cmp nat_cmp p y ≡ Less) qs → Each (λ y. p ≡ y → ⊥) qs
    apart [] less = tt
    apart (q ∷ qs) less =
        ((λ e. (let tied : Less ≡ Equal = sym less.0 ∙ ap (slice_cmp nat_cmp p) (sym e) ∙ tied_itself nat_list_cmp_total p in absurd (cc tied))), apart qs less.1)

-- Whether a path was read before

pub known_one : (known : List (List ℕ)) (path : List ℕ) → In known path → is_one_of path known ≡ true
known_one [] path i = absurd i
known_one (k ∷ ks) path (inl same) = or_left (bytes_eq path k) (list_any (bytes_eq path) ks) (ap (bytes_eq path) same ∙ bytes_eq-itself path)
known_one (k ∷ ks) path (inr i) = or_right (bytes_eq path k) (list_any (bytes_eq path) ks) (known_one ks path i)

one_known : (known : List (List ℕ)) (path : List ℕ) → is_one_of path known ≡ true → In known path
one_known [] path h = absurd (cc h)
one_known (k ∷ ks) path h = by (bytes_eq path k) refl (one_known ks path) h
  where
    by : (b : Bool) → bytes_eq path k ≡ b → (is_one_of path ks ≡ true → In ks path) → (b || list_any (bytes_eq path) ks) ≡ true → In (k ∷ ks) path
    by true is more there = inl (sym ((bytes_eq-Decides path k).0 is))
    by false is more there = inr (more there)

pub not_known : (known : List (List ℕ)) (path : List ℕ) → (In known path → ⊥) → is_one_of path known ≡ false
not_known known path apart = by (is_one_of path known) refl
  where
    by : (b : Bool) → is_one_of path known ≡ b → b ≡ false
    by true is = absurd (apart (one_known known path is))
    by false is = refl

-- Keys that get numbers

still_has : (l : Log) (k q : Key) → In l.keys q → In (with_key l k).keys q
still_has l k q i = by (list_any (same_key k) l.keys)
  where
    by : (b : Bool) → In (if b then l.keys else l.keys ++ k ∷ []) q
    by true = i
    by false = in_front l.keys (k ∷ []) q i

has_new : (l : Log) (k : Key) → In (with_key l k).keys k
has_new l k = by (list_any (same_key k) l.keys) refl
  where
    by : (b : Bool) → list_any (same_key k) l.keys ≡ b → In (if b then l.keys else l.keys ++ k ∷ []) k
    by true is = in_any l.keys k is
    by false is = in_new l.keys k

-- What is kept of it

module _ (known : List (List ℕ)) (before : SourceState) (left : Contents) (l : Log) (kept : KeepsKnown known before left l.keys) where
  pub kept_named : (k : Key) → KeepsKnown known before left (with_key l k).keys
  kept_named k = record {
    all = λ path i. elim (kept.all path i) [ inl a ↦ inl a | inr a ↦ inr (still_has l k (Read path) a) ];
    only = kept.only;
    told = kept.told;
  }

  pub kept_rest : (path : List ℕ) → KeepsKnown known before (without_name path left) (with_key l (Read path)).keys
  kept_rest path = record {
    all = λ q i. elim (kept.all q i) [
      | inl a ↦ elim (rest_has left path q a) [
        | inl b ↦ inl b
        | inr same ↦ inr (subst (λ (p : List ℕ). In (with_key l (Read path)).keys (Read p)) (sym same) (has_new l (Read path)))
      ]
      | inr a ↦ inr (still_has l (Read path) (Read q) a)
    ];
    only = λ q i. kept.only q (rest_was left path q i);
    told = λ tree is. rest_each (λ (e : List ℕ × FileContent). content_view e.1 ≡ content_in (read_of tree e.0)) left path (kept.told tree is);
  }

  -- a path that has no number was read before just where something of it is kept
  pub taken_known : (path : List ℕ) (content : FileContent) → at_name path left ≡ Some content → is_one_of path known ≡ true
  taken_known path content found = known_one known path (kept.only path (at_path left path content found))

  pub taken_told : (path : List ℕ) (content : FileContent) → at_name path left ≡ Some content → (tree : Tree) → before.tree ≡ Some tree → content_view content ≡ content_in (read_of tree path)
  taken_told path content found tree is = at_each (λ p x. content_view x ≡ content_in (read_of tree p)) left path content found (kept.told tree is)

  pub read_unknown : (path : List ℕ) → (In l.keys (Read path) → ⊥) → at_name path left ≡ None → is_one_of path known ≡ false
  read_unknown path new none = not_known known path (λ i. elim (kept.all path i) [ inl a ↦ at_no_path left path none a | inr a ↦ new a ])
