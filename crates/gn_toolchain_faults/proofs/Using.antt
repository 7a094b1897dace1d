-- The items that define toolchains are enough to find them.
use Rattle.std.proofs.Common.{◌≡◌, ℕ, List, [], ◌∷◌, Bool, true, false, ◌&&◌, cond, Option, Some, refl, ◌∙◌, ap}
use Rattle.std.specs.List.{filter_map, cons_option}
use Rattle.std.specs.Str.{bytes_eq}
use Rattle.gn_labels.specs.declared.label.Label.{Label}
use Rattle.gn_labels.specs.Labels.{spelling}
use Rattle.gn_items.specs.declared.item.Item.{Item}
use Rattle.gn_toolchains.specs.Toolchains.{is_toolchain, toolchain_at}
use Rattle.gn_toolchains.specs.Frames.{with_toolchains}
use Rattle.gn_toolchain_faults.specs.Used.{used, definitions}

module _ (default text : List ℕ) where
  -- an item of another kind, which is left out, defines none
  found_by : (x : Item) (xs : List Item) (kept : Bool) (own : Bool) → toolchain_at default text (definitions xs) ≡ toolchain_at default text xs
      → is_toolchain x.kind ≡ kept → (bytes_eq x.label.toolchain default && bytes_eq (spelling x.label.dir x.label.name) text) ≡ own
      → toolchain_at default text (cond kept (x ∷ definitions xs) (definitions xs)) ≡ cond (kept && own) (Some x) (toolchain_at default text xs)
  found_by x xs true own h e f = ap (λ b. cond (b && (bytes_eq x.label.toolchain default && bytes_eq (spelling x.label.dir x.label.name) text)) (Some x) (toolchain_at default text (definitions xs))) e
      ∙ ap (λ b. cond b (Some x) (toolchain_at default text (definitions xs))) f ∙ ap (cond own (Some x)) h
  found_by x xs false own h e f = h

  pub found_in_definitions : (items : List Item) → toolchain_at default text (definitions items) ≡ toolchain_at default text items
  found_in_definitions [] = refl
  found_in_definitions (x ∷ xs) =
      found_by x xs (is_toolchain x.kind) (bytes_eq x.label.toolchain default && bytes_eq (spelling x.label.dir x.label.name) text) (found_in_definitions xs) refl refl

found_among_definitions : (default : List ℕ) (items : List Item) (texts : List (List ℕ))
    → filter_map (λ text. toolchain_at default text (definitions items)) texts ≡ filter_map (λ text. toolchain_at default text items) texts
found_among_definitions default items [] = refl
found_among_definitions default items (t ∷ ts) =
    ap (λ (o : Option Item). cons_option o (filter_map (λ text. toolchain_at default text (definitions items)) ts)) (found_in_definitions default t items)
    ∙ ap (cons_option (toolchain_at default t items)) (found_among_definitions default items ts)

-- so what is found among them for the toolchains of targets are the toolchains that these use
pub used_by : (default : List ℕ) (items : List Item) (targets : List Label) (texts : List (List ℕ)) (defined : List Item) → texts ≡ with_toolchains [] targets
    → defined ≡ definitions items → filter_map (λ text. toolchain_at default text defined) texts ≡ used default items targets
unfolding used
used_by default items targets texts defined e d =
    ap (λ (z : List Item). filter_map (λ text. toolchain_at default text z) texts) d ∙ found_among_definitions default items texts
    ∙ ap (filter_map (λ text. toolchain_at default text items)) e
