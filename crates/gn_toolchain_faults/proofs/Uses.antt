-- The toolchains that are used are those of targets.
use Rattle.std.proofs.Common.{◌≡◌, ◌⊎◌, inl, inr, ℕ, List, [], ◌∷◌, ◌++◌, Bool, true, false, cond, refl, ◌∙◌, ap, subst}
use Rattle.std.specs.List.{Contains}
use Rattle.std.specs.Str.{bytes_eq}
use Rattle.std.proofs.lemmas.Slice.Eq.{bytes_eq-Decides}
use Rattle.std.proofs.lemmas.Map.Views.{Contains-from_any}
use Rattle.std.proofs.lemmas.List.Elements.{Contains-append_left, Contains-push, Contains-push_cases}
use Rattle.gn_labels.specs.declared.label.Label.{Label}
use Rattle.gn_items.specs.declared.item.Item.{Item}
use Rattle.gn_toolchains.specs.Toolchains.{toolchain_at}
use Rattle.gn_toolchains.specs.Frames.{has_text, with_text, with_toolchains}
use Rattle.gn_toolchain_faults.specs.Used.{used}
use Rattle.gn_toolchain_faults.specs.Laws.{IsUsed, TargetsUseThem}
use Rattle.gn_toolchain_faults.proofs.Contained.{contains_first, contains_later, contains_nothing, contains_cases, IsFound, of_filter_map, in_filter_map}

-- a text that is put in is there, and what was there stays
own_by : (texts : List (List ℕ)) (text : List ℕ) (b : Bool) → has_text texts text ≡ b → Contains (cond b texts (texts ++ text ∷ [])) text
own_by texts text true e = Contains-from_any {eq = bytes_eq} (λ x y. (bytes_eq-Decides x y).0) text texts e
own_by texts text false e = Contains-push texts text

stays_by : (texts : List (List ℕ)) (text : List ℕ) (b : Bool) (q : List ℕ) → Contains texts q → Contains (cond b texts (texts ++ text ∷ [])) q
stays_by texts text true q c = c
stays_by texts text false q c = Contains-append_left texts (text ∷ []) q c

cases_by : (texts : List (List ℕ)) (text : List ℕ) (b : Bool) (q : List ℕ) → Contains (cond b texts (texts ++ text ∷ [])) q → Contains texts q ⊎ (text ≡ q)
cases_by texts text true q c = inl c
cases_by texts text false q c = Contains-push_cases texts text q c

-- a target of a list has the toolchain of this text
pub record IsOfOne (targets : List Label) (text : List ℕ) : Type 0 where
  pub target : Label
  pub inside : Contains targets target
  pub its : target.toolchain ≡ text

one_later : (t : Label) (ts : List Label) (text : List ℕ) → IsOfOne ts text → IsOfOne (t ∷ ts) text
one_later t ts text o = record { target = o.target; inside = contains_later t ts o.target o.inside; its = o.its }

texts_are_of_one : (before : List (List ℕ)) (ts : List Label) (q : List ℕ) → Contains (with_toolchains before ts) q → Contains before q ⊎ IsOfOne ts q
texts_are_of_one before [] q c = inl c
texts_are_of_one before (t ∷ ts) q c = elim (texts_are_of_one (with_text before t.toolchain) ts q c) [
  | inl d ↦ elim (cases_by before t.toolchain (has_text before t.toolchain) q d) [
    | inl e ↦ inl e
    | inr s ↦ inr (record { target = t; inside = contains_first t ts; its = s })
  ]
  | inr o ↦ inr (one_later t ts q o)
]

stays : (before : List (List ℕ)) (ts : List Label) (q : List ℕ) → Contains before q → Contains (with_toolchains before ts) q
stays before [] q c = c
stays before (t ∷ ts) q c = stays (with_text before t.toolchain) ts q (stays_by before t.toolchain (has_text before t.toolchain) q c)

has_each : (before : List (List ℕ)) (ts : List Label) (t : Label) → Contains ts t → Contains (with_toolchains before ts) t.toolchain
has_each before [] t c = absurd (contains_nothing t c)
has_each before (u ∷ ts) t c = elim (contains_cases u ts t c) [
  | inl s ↦ subst (λ (z : Label). Contains (with_toolchains (with_text before u.toolchain) ts) z.toolchain) s
      (stays (with_text before u.toolchain) ts u.toolchain (own_by before u.toolchain (has_text before u.toolchain) refl))
  | inr d ↦ has_each (with_text before u.toolchain) ts t d
]

module _ (default : List ℕ) (items : List Item) (targets : List Label) (item : Item) where
  by_text : IsFound (λ text. toolchain_at default text items) (with_toolchains [] targets) item → IsUsed default items targets item
  by_text f = elim (texts_are_of_one [] targets f.from f.inside) [
    | inl n ↦ absurd (contains_nothing f.from n)
    | inr o ↦ record { target = o.target; inside = o.inside; found = ap (λ (text : List ℕ). toolchain_at default text items) o.its ∙ f.gives }
  ]

  used_one : Contains (used default items targets) item → IsUsed default items targets item
  unfolding used
  used_one c = by_text (of_filter_map (λ text. toolchain_at default text items) (with_toolchains [] targets) item c)

  one_used : IsUsed default items targets item → Contains (used default items targets) item
  unfolding used
  one_used u = in_filter_map (λ text. toolchain_at default text items) (with_toolchains [] targets) u.target.toolchain item u.found (has_each [] targets u.target u.inside)

pub targets_use_them : TargetsUseThem
targets_use_them default items targets item = (used_one default items targets item, one_used default items targets item)
