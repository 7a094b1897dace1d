-- What is shown of a path leads back to it.
use Rattle.std.proofs.Common.{◌≡◌, ℕ, ◌&&◌, false, List, [], ◌∷◌, Ok, sym, ap, ◌∙◌}
use Rattle.std.specs.Str.{bytes_eq}
use Rattle.std.proofs.lemmas.List.{append-nil}
use Rattle.gn_paths.specs.Components.{two_slashes, ends_in_slash}
use Rattle.gn_paths.specs.Normal.{is_path_text}
use Rattle.gn_paths.specs.Rebase.{closed, rebased}
use Rattle.gn_paths.specs.Resolve.{path_meant, resolved}
use Rattle.gn_values.specs.Val.{vstr}
use Rattle.gn_calls_text.specs.Answers.{gives, text_answer}
use Rattle.gn_calls_path.specs.declared.call.PathCall.TheVariants.{RebasePath}
use Rattle.gn_calls_path.specs.declared.place.Where.{Where}
use Rattle.gn_calls_path.specs.Calls.{path_call}
use Rattle.gn_calls_path.specs.Directories.{path_at}
use Rattle.gn_calls_path.specs.Each.{one}
use Rattle.gn_calls_path.specs.Found.{read_at}
use Rattle.gn_calls_path.specs.Rebase.{new_base_at, current_base_at, shown, shown_if, rebased_answer}
use Rattle.gn_calls_path.proofs.LawLemmas.{text_is}

not_empty : (directory base : List ℕ) → path_at directory [] ≡ Ok base → ⊥
unfolding path_meant is_path_text
not_empty directory base h = cc

new_base_is : (w : Where) (b base : List ℕ) → path_at w.directory b ≡ Ok base → new_base_at w b ≡ Ok base
new_base_is w [] base h = absurd (not_empty w.directory base h)
new_base_is w (x ∷ xs) base h = h

shown_plain : (w : Where) (base text path : List ℕ) → bytes_eq path two_slashes ≡ false → shown w base text path ≡ rebased path base w.root
shown_plain w base text path h =
    ap (λ v. closed (rebased path base w.root) (v && ends_in_slash text)) h ∙ append-nil (rebased path base w.root)

pub leads_back : (w : Where) (p b c s here base path : List ℕ) → resolved base (rebased path base w.root) ≡ Ok path → bytes_eq path two_slashes ≡ false
    → current_base_at w c ≡ Ok here → path_at here p ≡ Ok path → path_at w.directory b ≡ Ok base
    → path_call RebasePath w (vstr p ∷ vstr b ∷ vstr c ∷ []) ≡ gives (vstr s) → resolved base s ≡ Ok path
unfolding path_call
leads_back w p b c s here base path back below current meant shows h =
    let answered = sym (λ i. rebased_answer w (one p) (new_base_is w b base shows i) (current i)) ∙ h in
    let given = sym (ap (λ r. read_at 0 (shown_if w base p r) text_answer) meant) ∙ answered in
    ap (resolved base) (sym (text_is (shown w base p path) s given) ∙ shown_plain w base p path below) ∙ back
