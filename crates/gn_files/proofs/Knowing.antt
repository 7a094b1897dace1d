-- Files are the same by what is known of a build in part, where that is so of its targets and of their toolchains.
use Rattle.std.proofs.Common.{◌≡◌, ℕ, List, [], ◌∷◌, ◌++◌, map, filter, codes, refl, ap, ◌∙◌, All}
use Rattle.std.specs.List.{flat_map, fold}
use Rattle.std.specs.Map.{keys_of}
use Rattle.std.specs.Ordering.{nat_cmp}
use Rattle.std.specs.Cmp.Lexicographic.{slice_cmp}
use Rattle.std.proofs.lemmas.List.Elements.{All-filter, All-cons, All-head, All-tail, All-nil}
use Rattle.std.proofs.lemmas.Map.Views.{All-keys-insert_entry}
use Rattle.gn_labels.specs.declared.label.Label.{Label}
use Rattle.gn_labels.specs.declared.key.LabelKey.{LabelKey}
use Rattle.gn_items.specs.declared.item.Item.{Item}
use Rattle.gn_toolchains.specs.Toolchains.{Surroundings}
use Rattle.gn_paths.specs.Directory.{obj_directory_of}
use Rattle.gn_writing.specs.Kinds.{toolchain_blocks}
use Rattle.gn_ninja.specs.Format.{text_of_file}
use Rattle.gn_ninja.specs.Root.{root_blocks}
use Rattle.gn_ninja.specs.Claims.{claims_of}
use Rattle.gn_ninja.specs.Taken.{taken_by}
use Rattle.gn_files.specs.Files.{path_in, seen, Knowledge, out_in, root_path, toolchain_path, target_path}
use Rattle.gn_files.specs.Files.{with_member, toolchains_of, is_other, toolchains_used, is_under, under}
use Rattle.gn_files.specs.Files.{with_pools_of_tool, with_pools_of_tools, with_pools_of_target, item_tools, pools_used}
use Rattle.gn_files.specs.Files.{file, written_in, done_in, done_of, target_text, target_out, tools_in, files_under, toolchain_out}
use Rattle.gn_files.specs.Files.{pool_out, claimant_with, claimant_of, root_with, root_of, all_written, root_out, files_by}

-- two functions that agree on a list make the same of it
same_map : {A B : Type 0} (f g : A → B) (xs : List A) → All (λ x. f x ≡ g x) xs → map f xs ≡ map g xs
same_map f g [] a = refl
same_map f g (x ∷ xs) a = ap (λ y. y ∷ map f xs) (All-head (λ x. f x ≡ g x) x xs a) ∙ ap (λ ys. g x ∷ ys) (same_map f g xs (All-tail (λ x. f x ≡ g x) x xs a))

same_flat : {A B : Type 0} (f g : A → List B) (xs : List A) → All (λ x. f x ≡ g x) xs → flat_map f xs ≡ flat_map g xs
same_flat f g [] a = refl
same_flat f g (x ∷ xs) a = ap (λ y. y ++ flat_map f xs) (All-head (λ x. f x ≡ g x) x xs a) ∙ ap (λ ys. g x ++ ys) (same_flat f g xs (All-tail (λ x. f x ≡ g x) x xs a))

-- what holds of each holds in other words
weaker : {A : Type 0} (P Q : A → Type 0) → ((x : A) → P x → Q x) → (xs : List A) → All P xs → All Q xs
weaker P Q h [] a = All-nil Q
weaker P Q h (x ∷ xs) a = All-cons Q x xs (h x (All-head P x xs a)) (weaker P Q h xs (All-tail P x xs a))

mapped : {A B : Type 0} (P : B → Type 0) (f : A → B) (xs : List A) → All (λ x. P (f x)) xs → All P (map f xs)
mapped P f [] a = All-nil P
mapped P f (x ∷ xs) a = All-cons P (f x) (map f xs) (All-head (λ x. P (f x)) x xs a) (mapped P f xs (All-tail (λ x. P (f x)) x xs a))

both : {A : Type 0} (P Q : A → Type 0) (xs : List A) → All P xs → All Q xs → All (λ x. P x × Q x) xs
both P Q [] a b = All-nil (λ x. P x × Q x)
both P Q (x ∷ xs) a b =
    All-cons (λ x. P x × Q x) x xs (All-head P x xs a, All-head Q x xs b) (both P Q xs (All-tail P x xs a) (All-tail Q x xs b))

same_fold : {A B : Type 0} (f g : B → A → B) (xs : List A) → All (λ x. (b : B) → f b x ≡ g b x) xs → (b : B) → fold f b xs ≡ fold g b xs
same_fold f g [] a b = refl
same_fold f g (x ∷ xs) a b =
    ap (λ c. fold f c xs) (All-head (λ x. (b : _) → f b x ≡ g b x) x xs a b) ∙ same_fold f g xs (All-tail (λ x. (b : _) → f b x ≡ g b x) x xs a) (g b x)

-- what holds of texts holds of those that are put in their order
put_in : (P : List ℕ → Type 0) (texts : List (List ℕ)) (es : List (List ℕ × Unit {0})) → All P (keys_of es) → All P texts → All P (keys_of (fold with_member es texts))
put_in P [] es a b = a
put_in P (x ∷ xs) es a b =
    put_in P xs (with_member es x) (All-keys-insert_entry (slice_cmp nat_cmp) x tt P es a (All-head P x xs b)) (All-tail P x xs b)

of_targets : (P : List ℕ → Type 0) (ts : List Label) → All (λ (t : Label). P t.toolchain) ts → All P (toolchains_of ts)
unfolding toolchains_of
of_targets P ts a = put_in P (map (λ (t : Label). t.toolchain) ts) [] (All-nil P) (mapped P (λ (t : Label). t.toolchain) ts a)

of_used : (P : List ℕ → Type 0) (default : List ℕ) (ts : List Label) → P default → All (λ (t : Label). P t.toolchain) ts → All P (toolchains_used default ts)
unfolding toolchains_used
of_used P default ts d a =
    All-cons P default (filter (is_other default) (toolchains_of ts)) d (All-filter (is_other default) P (toolchains_of ts) (of_targets P ts a))

module _ (s : Surroundings) (items : List Item) (k m : Knowledge) (ts : List Label) where
  abbrev pub Same : List ℕ → Type 0
  Same x = k.around x ≡ m.around x

  abbrev pub SameOf : Label → Type 0
  SameOf t = Same t.toolchain × (k.target t ≡ m.target t)

  same_path : (t : Label) → SameOf t → target_path s k t ≡ target_path s m t
  same_path t h = ap (λ a. path_in (obj_directory_of (out_in s.build a) t.dir) (t.name ++ codes ".ninja")) h.0

  same_target : (t : Label) → SameOf t → target_out s k t ≡ target_out s m t
  same_target t h = ap (λ p. file p (target_text (k.target t))) (same_path t h) ∙ ap (λ r. file (target_path s m t) (target_text r)) h.1

  same_toolchain_path : (x : List ℕ) → Same x → toolchain_path s k x ≡ toolchain_path s m x
  same_toolchain_path x h = ap (λ a. path_in (out_in s.build a) (codes "toolchain.ninja")) h

  same_files : All SameOf ts → (x : List ℕ) → files_under s k ts x ≡ files_under s m ts x
  same_files a x =
      same_map (λ t. seen s (target_path s k t)) (λ t. seen s (target_path s m t)) (under x ts)
      (weaker SameOf (λ t. seen s (target_path s k t) ≡ seen s (target_path s m t)) (λ t h. ap (seen s) (same_path t h)) (under x ts) (All-filter (is_under x) SameOf ts a))

  same_toolchain : All SameOf ts → (x : List ℕ) → Same x → toolchain_out s k ts x ≡ toolchain_out s m ts x
  same_toolchain a x h =
      ap (λ p. file p (text_of_file (toolchain_blocks (tools_in (k.around x)) (files_under s k ts x)))) (same_toolchain_path x h)
      ∙ ap (λ c. file (toolchain_path s m x) (text_of_file (toolchain_blocks (tools_in c) (files_under s k ts x)))) h
      ∙ ap (λ fs. file (toolchain_path s m x) (text_of_file (toolchain_blocks (tools_in (m.around x)) fs))) (same_files a x)

  same_pools : All Same (toolchains_of ts) → pools_used s.default k items ts ≡ pools_used s.default m items ts
  unfolding pools_used
  same_pools a =
      ap (λ es. map (λ e. e.1) es)
      (same_fold (with_pools_of_tools s.default k) (with_pools_of_tools s.default m) (toolchains_of ts)
      (weaker Same (λ x. (es : List (LabelKey × Label)) → with_pools_of_tools s.default k es x ≡ with_pools_of_tools s.default m es x)
      (λ x h es. ap (λ c. fold (with_pools_of_tool s.default) es (item_tools c)) h) (toolchains_of ts) a)
      (fold (with_pools_of_target s.default items) [] ts))

  same_done : (t : Label) → SameOf t → done_of k t ≡ done_of m t
  same_done t h = ap done_in h.1

  of_default : All SameOf ts → All SameOf (under s.default ts)
  of_default a = All-filter (is_under s.default) SameOf ts a

  same_dones : All SameOf ts → map (done_of k) (under s.default ts) ≡ map (done_of m) (under s.default ts)
  same_dones a =
      same_map (done_of k) (done_of m) (under s.default ts) (weaker SameOf (λ t. done_of k t ≡ done_of m t) same_done (under s.default ts) (of_default a))

  same_claimants : All SameOf ts → map (claimant_of k items) (under s.default ts) ≡ map (claimant_of m items) (under s.default ts)
  same_claimants a =
      same_map (claimant_of k items) (claimant_of m items) (under s.default ts)
      (weaker SameOf (λ t. claimant_of k items t ≡ claimant_of m items t) (λ t h. ap (λ d. claimant_with items t d) (same_done t h)) (under s.default ts) (of_default a))

  same_written : All SameOf ts → all_written k ts ≡ all_written m ts
  same_written a =
      same_flat (λ t. written_in (k.target t)) (λ t. written_in (m.target t)) ts
      (weaker SameOf (λ t. written_in (k.target t) ≡ written_in (m.target t)) (λ t h. ap written_in h.1) ts a)

  same_seen : All Same (toolchains_used s.default ts)
      → map (λ x. seen s (toolchain_path s k x)) (toolchains_used s.default ts) ≡ map (λ x. seen s (toolchain_path s m x)) (toolchains_used s.default ts)
  same_seen a =
      same_map (λ x. seen s (toolchain_path s k x)) (λ x. seen s (toolchain_path s m x)) (toolchains_used s.default ts)
      (weaker Same (λ x. seen s (toolchain_path s k x) ≡ seen s (toolchain_path s m x)) (λ x h. ap (seen s) (same_toolchain_path x h)) (toolchains_used s.default ts) a)

  same_root_of : All SameOf ts → All Same (toolchains_of ts) → All Same (toolchains_used s.default ts) → root_of s k items ts ≡ root_of s m items ts
  same_root_of a b c =
      ap (λ ps. root_with s ts ps (map (λ x. seen s (toolchain_path s k x)) (toolchains_used s.default ts)) (map (done_of k) (under s.default ts))) (ap (map (pool_out s.default items)) (same_pools b))
      ∙ ap (λ xs. root_with s ts (map (pool_out s.default items) (pools_used s.default m items ts)) xs (map (done_of k) (under s.default ts))) (same_seen c)
      ∙ ap (λ ds. root_with s ts (map (pool_out s.default items) (pools_used s.default m items ts)) (map (λ x. seen s (toolchain_path s m x)) (toolchains_used s.default ts)) ds) (same_dones a)

  same_root : All SameOf ts → All Same (toolchains_of ts) → All Same (toolchains_used s.default ts) → root_out s k items ts ≡ root_out s m items ts
  same_root a b c =
      ap (λ r. file (root_path s) (text_of_file (root_blocks r (taken_by (all_written k ts)) (claims_of (map (claimant_of k items) (under s.default ts)))))) (same_root_of a b c)
      ∙ ap (λ w. file (root_path s) (text_of_file (root_blocks (root_of s m items ts) (taken_by w) (claims_of (map (claimant_of k items) (under s.default ts)))))) (same_written a)
      ∙ ap (λ cs. file (root_path s) (text_of_file (root_blocks (root_of s m items ts) (taken_by (all_written m ts)) (claims_of cs)))) (same_claimants a)

  pub all_same : All SameOf ts → Same s.default → files_by s k items ts ≡ files_by s m items ts
  unfolding files_by
  all_same a d =
      let texts = weaker SameOf (λ t. Same t.toolchain) (λ t h. h.0) ts a in
      let used = of_used Same s.default ts d texts in
      ap (λ f. f ∷ map (toolchain_out s k ts) (toolchains_used s.default ts) ++ map (target_out s k) ts) (same_root a (of_targets Same ts texts) used)
      ∙ ap (λ fs. root_out s m items ts ∷ fs ++ map (target_out s k) ts)
      (same_map (toolchain_out s k ts) (toolchain_out s m ts) (toolchains_used s.default ts)
      (weaker Same (λ x. toolchain_out s k ts x ≡ toolchain_out s m ts x) (same_toolchain a) (toolchains_used s.default ts) used))
      ∙ ap (λ fs. root_out s m items ts ∷ map (toolchain_out s m ts) (toolchains_used s.default ts) ++ fs)
      (same_map (target_out s k) (target_out s m) ts (weaker SameOf (λ t. target_out s k t ≡ target_out s m t) same_target ts a))
