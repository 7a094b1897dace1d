-- Files in the order of their paths: none is lost, and those of one path keep their order.
use Rattle.std.proofs.Common.{◌≡◌, ℕ, Bool, true, false, cond, if◌then◌else◌, List, [], ◌∷◌, refl, sym, ap, ◌∙◌, true≢false}
use Rattle.std.specs.List.{filter}
use Rattle.std.specs.Cmp.Lexicographic.{slice_cmp}
use Rattle.std.specs.Ordering.{nat_cmp, is_gt, ordering_reverse}
use Rattle.std.specs.declared.cmp.Ordering.{Ordering}
use Rattle.std.specs.declared.cmp.Ordering.TheVariants.{Less, Equal, Greater}
use Rattle.std.proofs.lemmas.Cmp.{nat_list_cmp_total, tied_itself}
use Rattle.std.proofs.lemmas.Slice.Eq.{bytes_eq-Decides}
use Rattle.gn_outside.specs.Lists.{Each}
use Rattle.gn_outside.specs.States.{PutFile}
use Rattle.gn_out_files.specs.Files.{stands_behind, with_file, with_files, in_path_order}
use Rattle.gn_out_files.specs.Laws.{is_at, AreInOrder}

-- Those of one path

-- files of one path don't stand behind one another
beside : (path : List ℕ) (f g : PutFile) → is_at path f ≡ true → is_at path g ≡ true → stands_behind f g ≡ false
beside path f g one two =
    let first : f.0 ≡ path = (bytes_eq-Decides f.0 path).0 one in
    let second : g.0 ≡ path = (bytes_eq-Decides g.0 path).0 two in
    ap (λ (p : List ℕ). is_gt (slice_cmp nat_cmp p g.0)) first ∙ ap (λ (p : List ℕ). is_gt (slice_cmp nat_cmp path p)) second ∙ ap is_gt (tied_itself nat_list_cmp_total path)

module _ (path : List ℕ) (f : PutFile) where
  kept_by : (gs : List PutFile) → filter (is_at path) (with_file f gs) ≡ filter (is_at path) (f ∷ gs)
  kept_by [] = refl
  kept_by (g ∷ gs) = by (stands_behind f g) (is_at path f) (is_at path g) refl refl refl (kept_by gs)
    where
      by : (behind one two : Bool) → stands_behind f g ≡ behind → is_at path f ≡ one → is_at path g ≡ two → filter (is_at path) (with_file f gs) ≡ cond one (f ∷ filter (is_at path) gs) (filter (is_at path) gs)
          → filter (is_at path) (if behind then g ∷ with_file f gs else f ∷ g ∷ gs) ≡ filter (is_at path) (f ∷ g ∷ gs)
      by false one two b o t more = refl
      by true true true b o t more = absurd (true≢false (sym b ∙ beside path f g o t))
      by true true false b o t more = rw (t, o) more
      by true false two b o t more = rw o (ap (λ (fs : List PutFile). cond (is_at path g) (g ∷ fs) fs) more)

kept : (path : List ℕ) (files : List PutFile) → filter (is_at path) (with_files files []) ≡ filter (is_at path) files
kept path [] = refl
kept path (f ∷ fs) = kept_by path f (with_files fs []) ∙ ap (λ (gs : List PutFile). cond (is_at path f) (f ∷ gs) gs) (kept path fs)

pub one_path : (path : List ℕ) (files : List PutFile) → filter (is_at path) (in_path_order files) ≡ filter (is_at path) files
unfolding in_path_order
one_path path files = kept path files

-- Order

-- one that stands behind another doesn't stand before it
other_way : (f g : PutFile) → stands_behind f g ≡ true → stands_behind g f ≡ false
other_way f g behind = ap is_gt (nat_list_cmp_total.antisymm g.0 f.0) ∙ by (slice_cmp nat_cmp f.0 g.0) behind
  where
    by : (o : Ordering) → is_gt o ≡ true → is_gt (ordering_reverse o) ≡ false
    by Less h = absurd (true≢false (sym h))
    by Equal h = absurd (true≢false (sym h))
    by Greater h = refl

-- what stands behind neither stands behind nothing further on
further : (f g h : PutFile) → stands_behind f g ≡ false → stands_behind g h ≡ false → stands_behind f h ≡ false
further f g h one two = by (slice_cmp nat_cmp f.0 g.0) (slice_cmp nat_cmp f.0 h.0) refl refl one
  where
    less : slice_cmp nat_cmp f.0 g.0 ≡ Less → slice_cmp nat_cmp f.0 h.0 ≡ Greater → slice_cmp nat_cmp g.0 h.0 ≡ Greater
    less before behind =
        nat_list_cmp_total.antisymm g.0 h.0 ∙ ap ordering_reverse (nat_list_cmp_total.trans h.0 f.0 g.0 (nat_list_cmp_total.antisymm h.0 f.0 ∙ ap ordering_reverse behind) before)

    by : (o r : Ordering) → slice_cmp nat_cmp f.0 g.0 ≡ o → slice_cmp nat_cmp f.0 h.0 ≡ r → is_gt o ≡ false → is_gt (slice_cmp nat_cmp f.0 h.0) ≡ false
    by o Less s t none = ap is_gt t
    by o Equal s t none = ap is_gt t
    by Less Greater s t none = absurd (true≢false (sym (ap is_gt (less s t)) ∙ two))
    by Equal Greater s t none = ap is_gt (nat_list_cmp_total.congr f.0 g.0 h.0 s) ∙ two
    by Greater Greater s t none = absurd (true≢false none)

module _ (f : PutFile) where
  -- a file in front of all these doesn't come behind one more
  each_with : (g : PutFile) (gs : List PutFile) → stands_behind g f ≡ false → Each (λ (h : PutFile). stands_behind g h ≡ false) gs → Each (λ (h : PutFile). stands_behind g h ≡ false) (with_file f gs)
  each_with g [] before each = (before, tt)
  each_with g (h ∷ hs) before each = by (stands_behind f h) (each_with g hs before each.1)
    where
      by : (b : Bool) → Each (λ (k : PutFile). stands_behind g k ≡ false) (with_file f hs) → Each (λ (k : PutFile). stands_behind g k ≡ false) (if b then h ∷ with_file f hs else f ∷ h ∷ hs)
      by true more = (each.0, more)
      by false more = (before, each)

  each_further : (g : PutFile) (gs : List PutFile) → stands_behind f g ≡ false → Each (λ (h : PutFile). stands_behind g h ≡ false) gs → Each (λ (h : PutFile). stands_behind f h ≡ false) gs
  each_further g [] before each = tt
  each_further g (h ∷ hs) before each = (further f g h before each.0, each_further g hs before each.1)

  in_order_with : (gs : List PutFile) → AreInOrder gs → AreInOrder (with_file f gs)
  in_order_with [] order = (tt, tt)
  in_order_with (g ∷ gs) order = by (stands_behind f g) refl (in_order_with gs order.1)
    where
      by : (b : Bool) → stands_behind f g ≡ b → AreInOrder (with_file f gs) → AreInOrder (if b then g ∷ with_file f gs else f ∷ g ∷ gs)
      by true h more = (each_with g gs (other_way f g h) order.0, more)
      by false h more = ((h, each_further g gs h order.0), order)

in_order_all : (files : List PutFile) → AreInOrder (with_files files [])
in_order_all [] = tt
in_order_all (f ∷ fs) = in_order_with f (with_files fs []) (in_order_all fs)

pub ordered : (files : List PutFile) → AreInOrder (in_path_order files)
unfolding in_path_order
ordered files = in_order_all files
