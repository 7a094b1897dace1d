-- Each output of a build without a fault is made once.
use Rattle.std.proofs.Common.{◌≡◌, inl, inr, ℕ, List, [], ◌∷◌, ◌++◌, Bool, true, false, cond, Option, Some, None, T, codes, refl, sym, ap, ◌∙◌, subst, true≢false}
use Rattle.std.proofs.lemmas.Bool.{false≢true}
use Rattle.std.specs.List.{flat_map, list_all, IsDistinct}
use Rattle.std.specs.Str.{bytes_eq}
use Rattle.std.specs.Ordering.{nat_cmp}
use Rattle.std.specs.Cmp.Lexicographic.{slice_cmp}
use Rattle.std.specs.FinMap.{is_sorted}
use Rattle.gn_labels.specs.declared.label.Label.{Label}
use Rattle.gn_dependencies.specs.Lists.{same_label}
use Rattle.gn_dependencies.proofs.Same.{same, own}
use Rattle.gn_define.specs.declared.fields.Fields.{Fields}
use Rattle.gn_items.specs.declared.item.Item.{Item}
use Rattle.gn_items.specs.Effects.{same_label as same_item, item_at}
use Rattle.gn_labelled.specs.Listed.{same_tie}
use Rattle.gn_writing.specs.declared.records.Dones.{Dones}
use Rattle.gn_writing.specs.Kinds.{target_blocks}
use Rattle.gn_writing.specs.Lines.{made}
use Rattle.gn_ninja.specs.Claims.{Claimant, claims_of}
use Rattle.gn_ninja.specs.Phony.{winners, is_free}
use Rattle.gn_ninja.specs.Taken.{made_by_all}
use Rattle.gn_records.specs.declared.inherited.Inherited.{Inherited}
use Rattle.gn_records.specs.Alone.{made_at}
use Rattle.gn_records.specs.Around.{Around}
use Rattle.gn_records.specs.Records.{record_of}
use Rattle.gn_toolchains.specs.Toolchains.{Surroundings, around_of}
use Rattle.gn_toolchains.specs.Frames.{has_text}
use Rattle.gn_build_faults.specs.Laws.{GeneratedAreTargets}
use Rattle.gn_build_faults.specs.Outputs.{made_around}
use Rattle.gn_build_faults.specs.Reaching.{targets_of}
use Rattle.gn_resolve.specs.Resolved.{configs_at, inherited_at, dones_at, hard_at, record_in, record_at}
use Rattle.gn_files.specs.Files.{all_written, meant}
use Rattle.gn_file_laws.specs.Made.{blocks_in, made_of_target, made_of_targets, IsFaultless}
use Rattle.gn_file_laws.specs.Laws.{TargetsMakeOnce, MakersAreOne, OutputsAreMadeOnce, LeftSidesStandOnce}
use Rattle.gn_file_laws.proofs.Once.{IsOnce, AreApart, one_of, in_one, same_text, once_both, once_distinct, of_one, of_two, of_some}
use Rattle.gn_file_laws.proofs.Names.{names, rising_once, free_apart, stays, is_put}
use Rattle.gn_file_laws.proofs.LeftSides.{taken_in, claimants_in, left_sides, made_nothing, taken_are_made}
use Rattle.gn_file_laws.proofs.Faultless.{outputs_of, outputs_once}

-- what the laws of the layers below say
abbrev pub NeedsNoDependency : Type 0
NeedsNoDependency = (c : Around) (i : Item) (configs : List Fields) (h : Inherited) (d : Dones) (hard : List (List ℕ))
    → made (target_blocks (record_of c i configs h d hard).written) ≡ made_at c i

abbrev pub NamesRise : Type 0
NamesRise = (taken : List (List ℕ)) (claimants : List Claimant) → T (is_sorted (slice_cmp nat_cmp) (winners taken (claims_of claimants)))

abbrev pub NamesAreFree : Type 0
NamesAreFree = (taken : List (List ℕ)) (claimants : List Claimant) → list_all (is_free taken) (winners taken (claims_of claimants)) ≡ true

-- the item that is found has the label
found_by : (q : Label) (y : Item) (rest : Option Item) (x : Item) (b : Bool) → same_item q y.label ≡ b → cond b (Some y) rest ≡ Some x
    → (rest ≡ Some x → x.label ≡ q) → x.label ≡ q
found_by q y rest x true e i onward = ap (λ (z : Item). z.label) (sym (item_is i)) ∙ sym (same q y.label (sym (same_tie q y.label) ∙ e))
  where
    item_is : Some y ≡ Some x → y ≡ x
    item_is j = cc j
found_by q y rest x false e i onward = onward i

label_found : (q : Label) (items : List Item) (x : Item) → item_at q items ≡ Some x → x.label ≡ q
label_found q [] x h = absurd (cc h)
label_found q (y ∷ items) x h = found_by q y (item_at q items) x (same_item q y.label) refl h (label_found q items x)

module _ (alone : NeedsNoDependency) (s : Surroundings) (items : List Item) where
  made_by_item : (t : Label) (o : Option Item) → item_at t items ≡ o → made (blocks_in (record_in s items o)) ≡ made_around (around_of s items t.toolchain) o
  made_by_item t None e = made_nothing
  made_by_item t (Some item) e =
      alone (around_of s items item.label.toolchain) item (configs_at items item.label) (inherited_at s items item.label) (dones_at s items item.label) (hard_at s items item.label)
      ∙ ap (λ (l : Label). made_at (around_of s items l.toolchain) item) (label_found t items item e)

  -- what the file of a target makes is what faults are told of
  made_is : (t : Label) → made_of_target s items t ≡ outputs_of s items t
  unfolding record_at
  made_is t = made_by_item t (item_at t items) refl

  all_made : (ts : List Label) → made_of_targets s items ts ≡ flat_map (outputs_of s items) ts
  all_made [] = refl
  all_made (t ∷ ts) = ap (λ z. z ++ made_of_targets s items ts) (made_is t) ∙ ap (λ z. outputs_of s items t ++ z) (all_made ts)

  reached_once : (generated : List Label) → IsFaultless s items generated → IsOnce (made_of_targets s items (targets_of s.default items generated))
  reached_once generated clear =
      let us = targets_of s.default items generated in
      subst IsOnce (sym (all_made us)) (outputs_once s items us clear)

module _ (reached : GeneratedAreTargets) (alone : NeedsNoDependency) where
  pub in_target : TargetsMakeOnce
  in_target s items generated clear t h =
      once_distinct (made_of_target s items t)
      (of_one same_label same own (made_of_target s items) (targets_of s.default items generated) (reached_once alone s items generated clear) t
      (reached s.default items generated t h))

  pub makers : MakersAreOne
  makers s items generated clear t u h i p m n =
      of_two same_label same own (made_of_target s items) (targets_of s.default items generated) (reached_once alone s items generated clear) t u
      (reached s.default items generated t h) (reached s.default items generated u i) p m n

  generated_once : (s : Surroundings) (items : List Item) (generated : List Label) → IsFaultless s items generated → IsDistinct same_label generated
      → IsOnce (made_of_targets s items generated)
  generated_once s items generated clear differ =
      of_some same_label same own (made_of_target s items) (targets_of s.default items generated) (reached_once alone s items generated clear) generated differ
      (reached s.default items generated)

  pub outputs : OutputsAreMadeOnce
  outputs s items generated clear differ = once_distinct (made_of_targets s items generated) (generated_once s items generated clear differ)

  -- the names of phony lines are apart from `all` and from what targets make
  pub all_left_sides : NamesRise → NamesAreFree → LeftSidesStandOnce
  all_left_sides rise free s items generated clear differ no_all =
      let taken = taken_in s items generated in
      let named = winners taken (claims_of (claimants_in s items generated)) in
      let made_there = made_of_targets s items generated in
      let written = made_by_all (all_written (meant s items) generated) in
      let all : List (List ℕ) = codes "all" ∷ [] in
      let apart : AreApart (names named) taken = free_apart taken named (free taken (claimants_in s items generated)) in
      let put = λ (q : List ℕ) (n : has_text made_there q ≡ true).
      is_put all written q (subst (λ z. has_text z q ≡ true) (sym (taken_are_made s items generated)) n) in
      let first : IsOnce (names named ++ all) =
      once_both (names named) all (rising_once named (rise taken (claimants_in s items generated))) (refl, tt) (λ q m n. apart q m (stays all written q n)) in
      let both : AreApart (names named ++ all) made_there = λ q m n. elim (in_one (names named) all q m) [
        | inl j ↦ apart q j (put q n)
        | inr j ↦ elim (one_of (bytes_eq q (codes "all")) false j) [
          | inl e ↦ true≢false (sym (subst (λ z. has_text made_there z ≡ true) (same_text q (codes "all") e) n) ∙ no_all)
          | inr f ↦ false≢true f
        ]
      ] in
      subst (IsDistinct bytes_eq) (sym (left_sides s items generated))
      (once_distinct ((names named ++ all) ++ made_there) (once_both (names named ++ all) made_there first (generated_once s items generated clear differ) both))
