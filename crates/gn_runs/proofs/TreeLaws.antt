-- The laws hold of every tree of questions, so of whatever is one.
use Rattle.std.proofs.Common.{◌≡◌, ℕ, List, Option, Some, None, inl, inr, refl, sym, ◌∙◌, ap, subst}
use mathlib.Core.Path.{fun_ext}
use Rattle.gn_paths.specs.declared.place.Place.{Place}
use Rattle.gn_definitions.specs.Imported.{ImportState}
use Rattle.gn_runs.specs.Runs.{Question, content_of, import_of, Content, Imported, has_value, is_unusable, Answers, End, spoiled, needs, Run, asking_content, asking_import, Tree, leaf, fault_leaf, asks_content, asks_import, run_tree, IsTree}
use Rattle.gn_runs.specs.Laws.{Below, IsUnknown, Agree, IsSettled, IsAsked, StaysSettled, StaysInNeed, AsksMore, NeedsUnknown, AsksKnown, SpoiledByUnusable, UnusableSpoils, DependsOnAsked}
use Rattle.gn_runs.proofs.Trees.{asked_first}

-- answers include themselves
pub below_itself : (a : Answers) → Below a a
below_itself a = record { contents = λ path y h. h; imports = λ path y h. h }

-- the meaning that a tree has
tree_meaning : {A : Type 0} (meaning : Answers → Run A) (t : IsTree meaning) → run_tree t.0 ≡ meaning
tree_meaning meaning t = fun_ext (λ a. sym (t.1 a))

needs_question : {A : Type 0} (q r : Question) (m n : Place) → ◌≡◌ {A = End A} (needs q m) (needs r n) → r ≡ q
needs_question q r m n e = cc

spoiled_path : {A : Type 0} (q r : List ℕ) (m n : Place) → ◌≡◌ {A = End A} (spoiled q m) (spoiled r n) → r ≡ q
spoiled_path q r m n e = cc

pub import_path : (q r : List ℕ) → import_of q ≡ import_of r → q ≡ r
import_path q r e = cc

module _ {A : Type 0} where
  -- the run of a question over known answers, whose own answer is told
  abbrev content_told : Option Content → List ℕ → Place → (Content → Tree A) → Answers → Run A
  content_told x path p next a = asking_content x path p (λ y. run_tree (next y) a)

  abbrev import_told : Option Imported → List ℕ → Place → (ImportState → Tree A) → Answers → Run A
  import_told x path p next a = asking_import x path p (λ y. run_tree (next y) a)

  -- Larger answers

  settled_content : (path : List ℕ) (p : Place) (next : Content → Tree A) (a b : Answers) → Below a b → ((y : Content) → IsSettled (run_tree (next y) a).end → run_tree (next y) b ≡ run_tree (next y) a) → (x : Option Content) → a.contents path ≡ x → IsSettled (content_told x path p next a).end → content_told (b.contents path) path p next b ≡ content_told x path p next a
  settled_content path p next a b le ih None e h = absurd h
  settled_content path p next a b le ih (Some y) e h = rw (le.contents path y e) (ap (asked_first (content_of path)) (ih y h))

  settled_import : (path : List ℕ) (p : Place) (next : ImportState → Tree A) (a b : Answers) → Below a b → ((y : ImportState) → IsSettled (run_tree (next y) a).end → run_tree (next y) b ≡ run_tree (next y) a) → (x : Option Imported) → a.imports path ≡ x → IsSettled (import_told x path p next a).end → import_told (b.imports path) path p next b ≡ import_told x path p next a
  settled_import path p next a b le ih None e h = absurd h
  settled_import path p next a b le ih (Some is_unusable) e h = rw (le.imports path is_unusable e) refl
  settled_import path p next a b le ih (Some (has_value y)) e h = rw (le.imports path (has_value y) e) (ap (asked_first (import_of path)) (ih y h))

  stays_settled : (t : Tree A) → StaysSettled (run_tree t)
  stays_settled (leaf x) a b le h = refl
  stays_settled (fault_leaf fault) a b le h = refl
  stays_settled (asks_content path p next) a b le h = settled_content path p next a b le (λ y i. stays_settled (next y) a b le i) (a.contents path) refl h
  stays_settled (asks_import path p next) a b le h = settled_import path p next a b le (λ y i. stays_settled (next y) a b le i) (a.imports path) refl h

  in_need_content : (path : List ℕ) (p : Place) (next : Content → Tree A) (a b : Answers) (r : Question) (m : Place) → Below a b → IsUnknown b r → ((y : Content) → (run_tree (next y) a).end ≡ needs r m → run_tree (next y) b ≡ run_tree (next y) a) → (x : Option Content) → a.contents path ≡ x → (content_told x path p next a).end ≡ needs r m → content_told (b.contents path) path p next b ≡ content_told x path p next a
  in_need_content path p next a b r m le lack ih None e h =
      let none : b.contents path ≡ None = subst (IsUnknown b) (needs_question (content_of path) r p m h) lack in
      rw none refl
  in_need_content path p next a b r m le lack ih (Some y) e h = rw (le.contents path y e) (ap (asked_first (content_of path)) (ih y h))

  in_need_import : (path : List ℕ) (p : Place) (next : ImportState → Tree A) (a b : Answers) (r : Question) (m : Place) → Below a b → IsUnknown b r → ((y : ImportState) → (run_tree (next y) a).end ≡ needs r m → run_tree (next y) b ≡ run_tree (next y) a) → (x : Option Imported) → a.imports path ≡ x → (import_told x path p next a).end ≡ needs r m → import_told (b.imports path) path p next b ≡ import_told x path p next a
  in_need_import path p next a b r m le lack ih None e h =
      let none : b.imports path ≡ None = subst (IsUnknown b) (needs_question (import_of path) r p m h) lack in
      rw none refl
  in_need_import path p next a b r m le lack ih (Some is_unusable) e h = rw (le.imports path is_unusable e) refl
  in_need_import path p next a b r m le lack ih (Some (has_value y)) e h = rw (le.imports path (has_value y) e) (ap (asked_first (import_of path)) (ih y h))

  stays_in_need : (t : Tree A) → StaysInNeed (run_tree t)
  stays_in_need (leaf x) a b r m le h lack = refl
  stays_in_need (fault_leaf fault) a b r m le h lack = refl
  stays_in_need (asks_content path p next) a b r m le h lack = in_need_content path p next a b r m le lack (λ y i. stays_in_need (next y) a b r m le i lack) (a.contents path) refl h
  stays_in_need (asks_import path p next) a b r m le h lack = in_need_import path p next a b r m le lack (λ y i. stays_in_need (next y) a b r m le i lack) (a.imports path) refl h

  first_content : (x : Option Content) (path : List ℕ) (p : Place) (next : Content → Run A) → IsAsked (asking_content x path p next).asked (content_of path)
  first_content None path p next = inl refl
  first_content (Some y) path p next = inl refl

  first_import : (x : Option Imported) (path : List ℕ) (p : Place) (next : ImportState → Run A) → IsAsked (asking_import x path p next).asked (import_of path)
  first_import None path p next = inl refl
  first_import (Some is_unusable) path p next = inl refl
  first_import (Some (has_value y)) path p next = inl refl

  -- the first question is asked whatever is known of its answer
  more_content_first : (path : List ℕ) (p : Place) (next : Content → Tree A) (b : Answers) (s : Question) → s ≡ content_of path → IsAsked (content_told (b.contents path) path p next b).asked s
  more_content_first path p next b s i =
      subst (IsAsked (content_told (b.contents path) path p next b).asked) (sym i) (first_content (b.contents path) path p (λ y. run_tree (next y) b))

  more_import_first : (path : List ℕ) (p : Place) (next : ImportState → Tree A) (b : Answers) (s : Question) → s ≡ import_of path → IsAsked (import_told (b.imports path) path p next b).asked s
  more_import_first path p next b s i =
      subst (IsAsked (import_told (b.imports path) path p next b).asked) (sym i) (first_import (b.imports path) path p (λ y. run_tree (next y) b))

  more_content : (path : List ℕ) (p : Place) (next : Content → Tree A) (a b : Answers) (s : Question) → Below a b → ((y : Content) → IsAsked (run_tree (next y) a).asked s → IsAsked (run_tree (next y) b).asked s) → (x : Option Content) → a.contents path ≡ x → IsAsked (content_told x path p next a).asked s → IsAsked (content_told (b.contents path) path p next b).asked s
  more_content path p next a b s le ih None e (inl i) = more_content_first path p next b s i
  more_content path p next a b s le ih None e (inr i) = absurd i
  more_content path p next a b s le ih (Some y) e (inl i) = more_content_first path p next b s i
  more_content path p next a b s le ih (Some y) e (inr i) = rw (le.contents path y e) (inr (ih y i))

  more_import : (path : List ℕ) (p : Place) (next : ImportState → Tree A) (a b : Answers) (s : Question) → Below a b → ((y : ImportState) → IsAsked (run_tree (next y) a).asked s → IsAsked (run_tree (next y) b).asked s) → (x : Option Imported) → a.imports path ≡ x → IsAsked (import_told x path p next a).asked s → IsAsked (import_told (b.imports path) path p next b).asked s
  more_import path p next a b s le ih None e (inl i) = more_import_first path p next b s i
  more_import path p next a b s le ih None e (inr i) = absurd i
  more_import path p next a b s le ih (Some is_unusable) e (inl i) = more_import_first path p next b s i
  more_import path p next a b s le ih (Some is_unusable) e (inr i) = absurd i
  more_import path p next a b s le ih (Some (has_value y)) e (inl i) = more_import_first path p next b s i
  more_import path p next a b s le ih (Some (has_value y)) e (inr i) = rw (le.imports path (has_value y) e) (inr (ih y i))

  asks_more : (t : Tree A) → AsksMore (run_tree t)
  asks_more (leaf x) a b s le h = h
  asks_more (fault_leaf fault) a b s le h = h
  asks_more (asks_content path p next) a b s le h = more_content path p next a b s le (λ y i. asks_more (next y) a b s le i) (a.contents path) refl h
  asks_more (asks_import path p next) a b s le h = more_import path p next a b s le (λ y i. asks_more (next y) a b s le i) (a.imports path) refl h

  -- What is needed, and what spoils

  needs_content : (path : List ℕ) (p : Place) (next : Content → Tree A) (a : Answers) (r : Question) (m : Place) → ((y : Content) → (run_tree (next y) a).end ≡ needs r m → IsUnknown a r × IsAsked (run_tree (next y) a).asked r) → (x : Option Content) → a.contents path ≡ x → (content_told x path p next a).end ≡ needs r m → IsUnknown a r × IsAsked (content_told x path p next a).asked r
  needs_content path p next a r m ih None e h =
      let same : r ≡ content_of path = needs_question (content_of path) r p m h in
      (subst (IsUnknown a) (sym same) e, inl same)
  needs_content path p next a r m ih (Some y) e h = ((ih y h).0, inr (ih y h).1)

  needs_import : (path : List ℕ) (p : Place) (next : ImportState → Tree A) (a : Answers) (r : Question) (m : Place) → ((y : ImportState) → (run_tree (next y) a).end ≡ needs r m → IsUnknown a r × IsAsked (run_tree (next y) a).asked r) → (x : Option Imported) → a.imports path ≡ x → (import_told x path p next a).end ≡ needs r m → IsUnknown a r × IsAsked (import_told x path p next a).asked r
  needs_import path p next a r m ih None e h =
      let same : r ≡ import_of path = needs_question (import_of path) r p m h in
      (subst (IsUnknown a) (sym same) e, inl same)
  needs_import path p next a r m ih (Some is_unusable) e h = cc
  needs_import path p next a r m ih (Some (has_value y)) e h = ((ih y h).0, inr (ih y h).1)

  needs_unknown : (t : Tree A) → NeedsUnknown (run_tree t)
  needs_unknown (leaf x) a r m h = cc
  needs_unknown (fault_leaf fault) a r m h = cc
  needs_unknown (asks_content path p next) a r m h = needs_content path p next a r m (λ y i. needs_unknown (next y) a r m i) (a.contents path) refl h
  needs_unknown (asks_import path p next) a r m h = needs_import path p next a r m (λ y i. needs_unknown (next y) a r m i) (a.imports path) refl h

  known_content : (path : List ℕ) (p : Place) (next : Content → Tree A) (a : Answers) (r : Question) → IsUnknown a r → ((y : Content) → IsAsked (run_tree (next y) a).asked r → (m : Place) × ((run_tree (next y) a).end ≡ needs r m)) → (x : Option Content) → a.contents path ≡ x → IsAsked (content_told x path p next a).asked r → (m : Place) × ((content_told x path p next a).end ≡ needs r m)
  known_content path p next a r lack ih None e (inl i) = (p, ap (λ q. needs q p) (sym i))
  known_content path p next a r lack ih None e (inr i) = absurd i
  known_content path p next a r lack ih (Some y) e (inl i) = let none : a.contents path ≡ None = subst (IsUnknown a) i lack in cc
  known_content path p next a r lack ih (Some y) e (inr i) = ih y i

  known_import : (path : List ℕ) (p : Place) (next : ImportState → Tree A) (a : Answers) (r : Question) → IsUnknown a r → ((y : ImportState) → IsAsked (run_tree (next y) a).asked r → (m : Place) × ((run_tree (next y) a).end ≡ needs r m)) → (x : Option Imported) → a.imports path ≡ x → IsAsked (import_told x path p next a).asked r → (m : Place) × ((import_told x path p next a).end ≡ needs r m)
  known_import path p next a r lack ih None e (inl i) = (p, ap (λ q. needs q p) (sym i))
  known_import path p next a r lack ih None e (inr i) = absurd i
  known_import path p next a r lack ih (Some is_unusable) e (inl i) = let none : a.imports path ≡ None = subst (IsUnknown a) i lack in cc
  known_import path p next a r lack ih (Some is_unusable) e (inr i) = absurd i
  known_import path p next a r lack ih (Some (has_value y)) e (inl i) = let none : a.imports path ≡ None = subst (IsUnknown a) i lack in cc
  known_import path p next a r lack ih (Some (has_value y)) e (inr i) = ih y i

  asks_known : (t : Tree A) → AsksKnown (run_tree t)
  asks_known (leaf x) a r h lack = absurd h
  asks_known (fault_leaf fault) a r h lack = absurd h
  asks_known (asks_content path p next) a r h lack = known_content path p next a r lack (λ y i. asks_known (next y) a r i lack) (a.contents path) refl h
  asks_known (asks_import path p next) a r h lack = known_import path p next a r lack (λ y i. asks_known (next y) a r i lack) (a.imports path) refl h

  spoiled_content : (path : List ℕ) (p : Place) (next : Content → Tree A) (a : Answers) (r : List ℕ) (m : Place) → ((y : Content) → (run_tree (next y) a).end ≡ spoiled r m → (a.imports r ≡ Some is_unusable) × IsAsked (run_tree (next y) a).asked (import_of r)) → (x : Option Content) → (content_told x path p next a).end ≡ spoiled r m → (a.imports r ≡ Some is_unusable) × IsAsked (content_told x path p next a).asked (import_of r)
  spoiled_content path p next a r m ih None h = cc
  spoiled_content path p next a r m ih (Some y) h = ((ih y h).0, inr (ih y h).1)

  spoiled_import : (path : List ℕ) (p : Place) (next : ImportState → Tree A) (a : Answers) (r : List ℕ) (m : Place) → ((y : ImportState) → (run_tree (next y) a).end ≡ spoiled r m → (a.imports r ≡ Some is_unusable) × IsAsked (run_tree (next y) a).asked (import_of r)) → (x : Option Imported) → a.imports path ≡ x → (import_told x path p next a).end ≡ spoiled r m → (a.imports r ≡ Some is_unusable) × IsAsked (import_told x path p next a).asked (import_of r)
  spoiled_import path p next a r m ih None e h = cc
  spoiled_import path p next a r m ih (Some is_unusable) e h =
      let same : r ≡ path = spoiled_path path r p m h in
      (ap a.imports same ∙ e, inl (ap import_of same))
  spoiled_import path p next a r m ih (Some (has_value y)) e h = ((ih y h).0, inr (ih y h).1)

  spoiled_by_unusable : (t : Tree A) → SpoiledByUnusable (run_tree t)
  spoiled_by_unusable (leaf x) a r m h = cc
  spoiled_by_unusable (fault_leaf fault) a r m h = cc
  spoiled_by_unusable (asks_content path p next) a r m h = spoiled_content path p next a r m (λ y i. spoiled_by_unusable (next y) a r m i) (a.contents path) h
  spoiled_by_unusable (asks_import path p next) a r m h = spoiled_import path p next a r m (λ y i. spoiled_by_unusable (next y) a r m i) (a.imports path) refl h

  unusable_content : (path : List ℕ) (p : Place) (next : Content → Tree A) (a : Answers) (r : List ℕ) → ((y : Content) → IsAsked (run_tree (next y) a).asked (import_of r) → (m : Place) × ((run_tree (next y) a).end ≡ spoiled r m)) → (x : Option Content) → IsAsked (content_told x path p next a).asked (import_of r) → (m : Place) × ((content_told x path p next a).end ≡ spoiled r m)
  unusable_content path p next a r ih None (inl i) = cc
  unusable_content path p next a r ih None (inr i) = absurd i
  unusable_content path p next a r ih (Some y) (inl i) = cc
  unusable_content path p next a r ih (Some y) (inr i) = ih y i

  unusable_import : (path : List ℕ) (p : Place) (next : ImportState → Tree A) (a : Answers) (r : List ℕ) → a.imports r ≡ Some is_unusable → ((y : ImportState) → IsAsked (run_tree (next y) a).asked (import_of r) → (m : Place) × ((run_tree (next y) a).end ≡ spoiled r m)) → (x : Option Imported) → a.imports path ≡ x → IsAsked (import_told x path p next a).asked (import_of r) → (m : Place) × ((import_told x path p next a).end ≡ spoiled r m)
  unusable_import path p next a r u ih None e (inl i) = let none : a.imports r ≡ None = ap a.imports (import_path r path i) ∙ e in cc
  unusable_import path p next a r u ih None e (inr i) = absurd i
  unusable_import path p next a r u ih (Some is_unusable) e (inl i) = (p, ap (λ q. spoiled q p) (sym (import_path r path i)))
  unusable_import path p next a r u ih (Some is_unusable) e (inr i) = absurd i
  unusable_import path p next a r u ih (Some (has_value y)) e (inl i) = let has : a.imports r ≡ Some (has_value y) = ap a.imports (import_path r path i) ∙ e in cc
  unusable_import path p next a r u ih (Some (has_value y)) e (inr i) = ih y i

  unusable_spoils : (t : Tree A) → UnusableSpoils (run_tree t)
  unusable_spoils (leaf x) a r h u = absurd h
  unusable_spoils (fault_leaf fault) a r h u = absurd h
  unusable_spoils (asks_content path p next) a r h u = unusable_content path p next a r (λ y i. unusable_spoils (next y) a r i u) (a.contents path) h
  unusable_spoils (asks_import path p next) a r h u = unusable_import path p next a r u (λ y i. unusable_spoils (next y) a r i u) (a.imports path) refl h

  -- What a run depends on

  depends_content : (path : List ℕ) (p : Place) (next : Content → Tree A) (a b : Answers) → ((y : Content) → ((s : Question) → IsAsked (run_tree (next y) a).asked s → Agree a b s) → run_tree (next y) b ≡ run_tree (next y) a) → (x : Option Content) → b.contents path ≡ x → ((s : Question) → IsAsked (content_told x path p next a).asked s → Agree a b s) → content_told (b.contents path) path p next b ≡ content_told x path p next a
  depends_content path p next a b ih None e h = rw e refl
  depends_content path p next a b ih (Some y) e h = rw e (ap (asked_first (content_of path)) (ih y (λ s i. h s (inr i))))

  depends_import : (path : List ℕ) (p : Place) (next : ImportState → Tree A) (a b : Answers) → ((y : ImportState) → ((s : Question) → IsAsked (run_tree (next y) a).asked s → Agree a b s) → run_tree (next y) b ≡ run_tree (next y) a) → (x : Option Imported) → b.imports path ≡ x → ((s : Question) → IsAsked (import_told x path p next a).asked s → Agree a b s) → import_told (b.imports path) path p next b ≡ import_told x path p next a
  depends_import path p next a b ih None e h = rw e refl
  depends_import path p next a b ih (Some is_unusable) e h = rw e refl
  depends_import path p next a b ih (Some (has_value y)) e h = rw e (ap (asked_first (import_of path)) (ih y (λ s i. h s (inr i))))

  depends_on_asked : (t : Tree A) → DependsOnAsked (run_tree t)
  depends_on_asked (leaf x) a b h = refl
  depends_on_asked (fault_leaf fault) a b h = refl
  depends_on_asked (asks_content path p next) a b h =
      depends_content path p next a b (λ y i. depends_on_asked (next y) a b i) (a.contents path) (h (content_of path) (first_content (a.contents path) path p (λ y. run_tree (next y) a))) h
  depends_on_asked (asks_import path p next) a b h =
      depends_import path p next a b (λ y i. depends_on_asked (next y) a b i) (a.imports path) (h (import_of path) (first_import (a.imports path) path p (λ y. run_tree (next y) a))) h

  -- The laws of whatever is a tree

  module _ (meaning : Answers → Run A) (t : IsTree meaning) where
    pub tree_stays_settled : StaysSettled meaning
    tree_stays_settled = subst StaysSettled (tree_meaning meaning t) (stays_settled t.0)

    pub tree_stays_in_need : StaysInNeed meaning
    tree_stays_in_need = subst StaysInNeed (tree_meaning meaning t) (stays_in_need t.0)

    pub tree_asks_more : AsksMore meaning
    tree_asks_more = subst AsksMore (tree_meaning meaning t) (asks_more t.0)

    pub tree_needs_unknown : NeedsUnknown meaning
    tree_needs_unknown = subst NeedsUnknown (tree_meaning meaning t) (needs_unknown t.0)

    pub tree_asks_known : AsksKnown meaning
    tree_asks_known = subst AsksKnown (tree_meaning meaning t) (asks_known t.0)

    pub tree_spoiled_by_unusable : SpoiledByUnusable meaning
    tree_spoiled_by_unusable = subst SpoiledByUnusable (tree_meaning meaning t) (spoiled_by_unusable t.0)

    pub tree_unusable_spoils : UnusableSpoils meaning
    tree_unusable_spoils = subst UnusableSpoils (tree_meaning meaning t) (unusable_spoils t.0)

    pub tree_depends_on_asked : DependsOnAsked meaning
    tree_depends_on_asked = subst DependsOnAsked (tree_meaning meaning t) (depends_on_asked t.0)
