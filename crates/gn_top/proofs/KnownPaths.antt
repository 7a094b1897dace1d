-- What was read before: which paths are known, and what is known at each.
use Rattle.std.proofs.Common.{◌≡◌, ◌⊎◌, inl, inr, ℕ, Bool, true, false, ◌||◌, cond, if◌then◌else◌, List, [], ◌∷◌, Option, Some, None, Result, Err, refl, sym, ◌∙◌, ap, subst, true≢false}
use Rattle.std.specs.Prelude.{◌↔◌, is_some}
use Rattle.std.specs.List.{list_any}
use Rattle.std.specs.Cmp.{both_ways}
use Rattle.std.specs.Str.{bytes_eq}
use Rattle.std.specs.BTreeMap.{insert_entry}
use Rattle.std.specs.declared.cmp.Ordering.{Ordering}
use Rattle.std.specs.declared.cmp.Ordering.TheVariants.{Less, Equal, Greater}
use Rattle.std.specs.Ordering.{nat_cmp, is_eq, match_ordering}
use Rattle.std.specs.Cmp.Lexicographic.{slice_cmp}
use Rattle.std.proofs.lemmas.Bool.{or_left, or_right}
use Rattle.std.proofs.lemmas.Cmp.{nat_list_cmp_total, tied_itself}
use Rattle.std.proofs.lemmas.Map.Lookups.{exact_bytes}
use Rattle.std.proofs.lemmas.Option.{same_Some}
use Rattle.std.proofs.lemmas.Slice.Eq.{bytes_eq-Decides}
use Rattle.gn_outside.specs.Tree.{Tree, read_of}
use Rattle.gn_outside.specs.Lists.{Each, OneOf}
use Rattle.gn_values.specs.Tables.{Table, at_name, with_name}
use Rattle.gn_environment.specs.Chains.{is_one_of}
use Rattle.gn_core.specs.Counted.{exceeds_limits}
use Rattle.gn_projects.specs.Files.{content_in, Files}
use Rattle.gn_projects.specs.Worlds.{world_of}
use Rattle.gn_projects.specs.Errors.{too_large}
use Rattle.gn_projects.specs.Computed.{faults_of, least_of}
use Rattle.gn_projects.specs.Loaded.{Build, Failure, UpTo, loaded_by, loaded}
use Rattle.gn_answers.specs.Answers.{content_view}
use Rattle.gn_load.specs.Turns.{known_paths}
use Rattle.gn_load.specs.Plain.{Agrees}
use Rattle.gn_answers.specs.declared.answer.FileContent.{FileContent}
use Rattle.gn_top.specs.Building.{KnowsAlso}

-- One more path

each_put : {X : Type 0} (P : List ℕ → X → Type 0) (es : Table X) (path : List ℕ) (x : X) → Each (λ (e : List ℕ × X). P e.0 e.1) es → P path x → Each (λ (e : List ℕ × X). P e.0 e.1) (with_name path x es)
each_put {X} P [] path x each here = (here, tt)
each_put {X} P (e ∷ es) path x each here = by (slice_cmp nat_cmp path e.0) refl (each_put P es path x each.1 here)
  where
    by : (r : Ordering) → slice_cmp nat_cmp path e.0 ≡ r → Each (λ (d : List ℕ × X). P d.0 d.1) (insert_entry (slice_cmp nat_cmp) es path x) → Each (λ (d : List ℕ × X). P d.0 d.1) (match_ordering r ((path, x) ∷ e ∷ es) ((e.0, x) ∷ es) (e ∷ insert_entry (slice_cmp nat_cmp) es path x))
    by Less h rest = (here, each)
    by Equal h rest = (subst (λ q. P q x) (exact_bytes path e.0 h) here, each.1)
    by Greater h rest = (each.0, rest)

key_put : (es : List (List ℕ × FileContent)) (path : List ℕ) (x : FileContent) → OneOf (known_paths (with_name path x es)) path
key_put [] path x = inl refl
key_put (e ∷ es) path x = by (slice_cmp nat_cmp path e.0) refl (key_put es path x)
  where
    by : (r : Ordering) → slice_cmp nat_cmp path e.0 ≡ r → OneOf (known_paths (insert_entry (slice_cmp nat_cmp) es path x)) path → OneOf (known_paths (match_ordering r ((path, x) ∷ e ∷ es) ((e.0, x) ∷ es) (e ∷ insert_entry (slice_cmp nat_cmp) es path x))) path
    by Less h rest = inl refl
    by Equal h rest = inl (exact_bytes path e.0 h)
    by Greater h rest = inr rest

keys_put : (es : List (List ℕ × FileContent)) (path : List ℕ) (x : FileContent) (q : List ℕ) → OneOf (known_paths es) q → OneOf (known_paths (with_name path x es)) q
keys_put [] path x q one = absurd one
keys_put (e ∷ es) path x q one = by (slice_cmp nat_cmp path e.0) one (keys_put es path x q)
  where
    by : (r : Ordering) → OneOf (known_paths (e ∷ es)) q → (OneOf (known_paths es) q → OneOf (known_paths (insert_entry (slice_cmp nat_cmp) es path x)) q) → OneOf (known_paths (match_ordering r ((path, x) ∷ e ∷ es) ((e.0, x) ∷ es) (e ∷ insert_entry (slice_cmp nat_cmp) es path x))) q
    by Less one more = inr one
    by Equal one more = one
    by Greater (inl same) more = inl same
    by Greater (inr later) more = inr (more later)

keys_back : (es : List (List ℕ × FileContent)) (path : List ℕ) (x : FileContent) (q : List ℕ) → OneOf (known_paths (with_name path x es)) q → OneOf (known_paths es) q ⊎ OneOf (path ∷ []) q
keys_back [] path x q (inl same) = inr (inl same)
keys_back [] path x q (inr none) = absurd none
keys_back (e ∷ es) path x q one = by (slice_cmp nat_cmp path e.0) one (keys_back es path x q)
  where
    by : (r : Ordering) → OneOf (known_paths (match_ordering r ((path, x) ∷ e ∷ es) ((e.0, x) ∷ es) (e ∷ insert_entry (slice_cmp nat_cmp) es path x))) q
        → (OneOf (known_paths (insert_entry (slice_cmp nat_cmp) es path x)) q → OneOf (known_paths es) q ⊎ OneOf (path ∷ []) q) → OneOf (known_paths (e ∷ es)) q ⊎ OneOf (path ∷ []) q
    by Less (inl same) more = inr (inl same)
    by Less (inr later) more = inl later
    by Equal one more = inl one
    by Greater (inl same) more = inl (inl same)
    by Greater (inr later) more = elim (more later) [ inl a ↦ inl (inr a) | inr b ↦ inr b ]

pub knows_put : (es : List (List ℕ × FileContent)) (path : List ℕ) (x : FileContent) → KnowsAlso (known_paths es) (path ∷ []) (known_paths (with_name path x es))
knows_put es path x q = (keys_back es path x q, λ one. elim one [ inl there ↦ keys_put es path x q there | inr here ↦ only q here ])
  where
    only : (q : List ℕ) → OneOf (path ∷ []) q → OneOf (known_paths (with_name path x es)) q
    only q (inl same) = subst (OneOf (known_paths (with_name path x es))) (sym same) (key_put es path x)
    only q (inr none) = absurd none

pub agrees_put : (tree : Tree) (es : List (List ℕ × FileContent)) (path : List ℕ) (x : FileContent) → Agrees es tree → content_view x ≡ content_in (read_of tree path) → Agrees (with_name path x es) tree
agrees_put tree es path x agrees here = each_put (λ p y. content_view y ≡ content_in (read_of tree p)) es path x agrees here

-- one that is known already
pub knows_still : (known : List (List ℕ)) (path : List ℕ) → OneOf known path → KnowsAlso known (path ∷ []) known
knows_still known path there q = (λ one. inl one, λ one. elim one [ inl a ↦ a | inr b ↦ only b ])
  where
    only : OneOf (path ∷ []) q → OneOf known q
    only (inl same) = subst (OneOf known) (sym same) there
    only (inr none) = absurd none

-- nothing more
pub knows_same : (known : List (List ℕ)) → KnowsAlso known [] known
knows_same known q = (λ one. inl one, λ one. elim one [ inl a ↦ a | inr b ↦ absurd b ])

-- some more, and then others
pub knows_both : (known ps more qs all : List (List ℕ)) → KnowsAlso known ps more → KnowsAlso more qs all → (both : List (List ℕ)) → ((q : List ℕ) → OneOf both q → OneOf ps q ⊎ OneOf qs q) → ((q : List ℕ) → OneOf ps q → OneOf both q) → ((q : List ℕ) → OneOf qs q → OneOf both q)
    → KnowsAlso known both all
knows_both known ps more qs all one two both parts left right q = (
  λ there. elim ((two q).0 there) [ inl a ↦ elim ((one q).0 a) [ inl b ↦ inl b | inr c ↦ inr (left q c) ] | inr d ↦ inr (right q d) ],
  λ there. elim there [ inl a ↦ (two q).1 (inl ((one q).1 (inl a))) | inr b ↦ elim (parts q b) [ inl c ↦ (two q).1 (inl ((one q).1 (inr c))) | inr d ↦ (two q).1 (inr d) ] ],
)

-- What is known at a path

pub found_known : (es : List (List ℕ × FileContent)) (path : List ℕ) (x : FileContent) → at_name path es ≡ Some x → OneOf (known_paths es) path
found_known [] path x h = absurd (cc h)
found_known (e ∷ es) path x h = by (slice_cmp nat_cmp path e.0) refl h (found_known es path x)
  where
    by : (r : Ordering) → slice_cmp nat_cmp path e.0 ≡ r → cond (is_eq r) (Some e.1) (at_name path es) ≡ Some x → (at_name path es ≡ Some x → OneOf (known_paths es) path) → OneOf (known_paths (e ∷ es)) path
    by Less s h more = inr (more h)
    by Equal s h more = inl (exact_bytes path e.0 s)
    by Greater s h more = inr (more h)

pub not_missing : (es : List (List ℕ × FileContent)) (path : List ℕ) → OneOf (known_paths es) path → at_name path es ≡ None → ⊥
not_missing [] path one h = one
not_missing (e ∷ es) path one h = by (slice_cmp nat_cmp path e.0) refl h (not_missing es path)
  where
    later : (r : Ordering) → slice_cmp nat_cmp path e.0 ≡ r → (r ≡ Equal → ⊥) → OneOf (known_paths (e ∷ es)) path → (OneOf (known_paths es) path → ⊥) → ⊥
    later r s other (inl same) more = other (sym s ∙ ap (λ q. slice_cmp nat_cmp path q) (sym same) ∙ tied_itself nat_list_cmp_total path)
    later r s other (inr rest) more = more rest

    by : (r : Ordering) → slice_cmp nat_cmp path e.0 ≡ r → cond (is_eq r) (Some e.1) (at_name path es) ≡ None → (OneOf (known_paths es) path → at_name path es ≡ None → ⊥) → ⊥
    by Less s g more = later Less s (λ q. cc) one (λ rest. more rest g)
    by Equal s g more = absurd (cc g)
    by Greater s g more = later Greater s (λ q. cc) one (λ rest. more rest g)

pub known_there : (es : List (List ℕ × FileContent)) (path : List ℕ) → is_some (at_name path es) ≡ true → OneOf (known_paths es) path
known_there es path h = by (at_name path es) refl h
  where
    by : (x : Option FileContent) → at_name path es ≡ x → is_some x ≡ true → OneOf (known_paths es) path
    by None e h = absurd (true≢false (sym h))
    by (Some x) e h = found_known es path x e

pub not_there : (es : List (List ℕ × FileContent)) (path : List ℕ) → is_some (at_name path es) ≡ false → OneOf (known_paths es) path → ⊥
not_there es path h one = by (at_name path es) refl h
  where
    by : (x : Option FileContent) → at_name path es ≡ x → is_some x ≡ false → ⊥
    by None e h = not_missing es path one e
    by (Some x) e h = true≢false h

pub found_agrees : (tree : Tree) (es : List (List ℕ × FileContent)) (path : List ℕ) (x : FileContent) → at_name path es ≡ Some x → Agrees es tree → content_view x ≡ content_in (read_of tree path)
found_agrees tree [] path x h agrees = absurd (cc h)
found_agrees tree (e ∷ es) path x h agrees = by (slice_cmp nat_cmp path e.0) refl h (λ g. found_agrees tree es path x g agrees.1)
  where
    by : (r : Ordering) → slice_cmp nat_cmp path e.0 ≡ r → cond (is_eq r) (Some e.1) (at_name path es) ≡ Some x → (at_name path es ≡ Some x → content_view x ≡ content_in (read_of tree path)) → content_view x ≡ content_in (read_of tree path)
    by Less s h more = more h
    by Equal s h more = ap content_view (sym (same_Some e.1 x h)) ∙ agrees.0 ∙ ap (λ p. content_in (read_of tree p)) (sym (exact_bytes path e.0 s))
    by Greater s h more = more h

-- Which paths are known decides what a build means, and not their order

one_is : (known : List (List ℕ)) (path : List ℕ) → OneOf known path → is_one_of path known ≡ true
one_is [] path one = absurd one
one_is (k ∷ ks) path (inl same) = or_left (bytes_eq path k) (list_any (bytes_eq path) ks) ((bytes_eq-Decides path k).1 same)
one_is (k ∷ ks) path (inr later) = or_right (bytes_eq path k) (list_any (bytes_eq path) ks) (one_is ks path later)

is_one : (known : List (List ℕ)) (path : List ℕ) → is_one_of path known ≡ true → OneOf known path
is_one [] path h = absurd (true≢false (sym h))
is_one (k ∷ ks) path h = by (bytes_eq path k) refl h (is_one ks path)
  where
    by : (b : Bool) → bytes_eq path k ≡ b → (b || is_one_of path ks) ≡ true → (is_one_of path ks ≡ true → OneOf ks path) → OneOf (k ∷ ks) path
    by true e h more = inl ((bytes_eq-Decides path k).0 e)
    by false e h more = inr (more h)

module _ (one two : List (List ℕ)) (same : (path : List ℕ) → OneOf one path ↔ OneOf two path) where
  is_same : (path : List ℕ) → is_one_of path one ≡ is_one_of path two
  is_same path =
      both_ways (is_one_of path one) (is_one_of path two) (λ h. one_is two path ((same path).0 (is_one one path h))) (λ h. one_is one path ((same path).1 (is_one two path h)))

  -- a build whose first stage has read the paths that pass a test
  loaded_where : Files → (List ℕ → Bool) → Result Build Failure
  loaded_where files known =
      if exceeds_limits (world_of files) known then Err (record { fault = too_large; units = UpTo (world_of files) })
      else loaded_by (world_of files) (least_of (faults_of (world_of files)))

  pub loaded_same : (files : Files) → loaded one files ≡ loaded two files
  unfolding loaded loaded_where
  loaded_same files i = loaded_where files (λ path. is_same path i)
