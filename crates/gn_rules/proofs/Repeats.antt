-- Outputs that are made again.
use Rattle.std.proofs.Common.{◌≡◌, ◌⊎◌, inl, inr, ℕ, ◌+◌, ◌<◌, ◌≤◌, List, [], ◌∷◌, ◌++◌, length, map, drop, get_or, slice_get, Some, Bool, true, false, cond, ◌||◌, if◌then◌else◌, refl, sym, ◌∙◌, ap, subst, arith, append_assoc, append-nil}
use Rattle.std.proofs.lemmas.List.{drop_all}
use Rattle.std.specs.Str.{bytes_eq}
use Rattle.indexmap.specs.IndexSet.{insert_key}
use Rattle.gn_labels.specs.declared.label.Label.{Label}
use Rattle.gn_dependencies.proofs.Drops.{drop_next}
use Rattle.gn_rules.specs.declared.outputs.MadeOutput.{MadeOutput}
use Rattle.gn_rules.specs.Outputs.{has_text, output_of, made_by, all_made, made_again}

-- ---- one output
pub seen_again : (keys : List (List ℕ)) (out new rest : List MadeOutput) (m : MadeOutput) → has_text keys m.output ≡ true → new ≡ out ++ m ∷ []
    → out ++ made_again keys (m ∷ rest) ≡ new ++ made_again keys rest
seen_again keys out new rest m h e =
    ap (λ b. out ++ cond b (m ∷ made_again keys rest) (made_again (keys ++ m.output ∷ []) rest)) h
    ∙ sym (append_assoc out (m ∷ []) (made_again keys rest)) ∙ ap (λ (z : List MadeOutput). z ++ made_again keys rest) (sym e)

pub seen_first : (keys keys' : List (List ℕ)) (out rest : List MadeOutput) (m : MadeOutput) → has_text keys m.output ≡ false → keys' ≡ insert_key bytes_eq keys m.output
    → out ++ made_again keys (m ∷ rest) ≡ out ++ made_again keys' rest
seen_first keys keys' out rest m h e =
    let k : keys' ≡ keys ++ m.output ∷ [] = e ∙ ap (λ b. if b then keys else keys ++ m.output ∷ []) h in
    ap (λ b. out ++ cond b (m ∷ made_again keys rest) (made_again (keys ++ m.output ∷ []) rest)) h
    ∙ ap (λ (z : List (List ℕ)). out ++ made_again z rest) (sym k)

-- ---- the outputs of a target from a place on, and the targets from a place on
pub outputs_next : (t : Label) (outputs : List (List ℕ)) (i : ℕ) (p : List ℕ) (rest : List MadeOutput) → i < length outputs → p ≡ get_or outputs i p
    → made_by t (drop i outputs) ++ rest ≡ output_of t p ∷ (made_by t (drop (i + 1) outputs) ++ rest)
outputs_next t outputs i p rest l e = ap (λ (z : List (List ℕ)). made_by t z ++ rest) (drop_next outputs i p l e)

pub targets_next : (made : Label → List (List ℕ)) (ts : List Label) (i : ℕ) (t : Label) → i < length ts → t ≡ get_or ts i t
    → all_made made (drop i ts) ≡ made_by t (made t) ++ all_made made (drop (i + 1) ts)
targets_next made ts i t l e = ap (all_made made) (drop_next ts i t l e)

pub nothing_seen : (again : List MadeOutput) (keys : List (List ℕ)) (ms : List MadeOutput) → again ≡ [] → keys ≡ [] → made_again [] ms ≡ again ++ made_again keys ms
nothing_seen again keys ms e f = sym (ap (λ (z : List MadeOutput). z ++ made_again keys ms) e ∙ ap (λ (z : List (List ℕ)). made_again z ms) f)

-- a target more, where the list and its outputs are known by other words
pub next_target : (made : Label → List (List ℕ)) (ts ts' : List Label) (i : ℕ) (t : Label) (outputs : List (List ℕ)) (again : List MadeOutput) (keys : List (List ℕ))
    → ts' ≡ ts → i < length ts' → t ≡ get_or ts' i t → outputs ≡ made t
    → again ++ made_again keys (all_made made (drop i ts)) ≡ again ++ made_again keys (made_by t outputs ++ all_made made (drop (i + 1) ts))
next_target made ts ts' i t outputs again keys e l a f =
    ap (λ (z : List MadeOutput). again ++ made_again keys z)
    (targets_next made ts i t (omega (arith, l, ap length e)) (a ∙ ap (λ (z : List Label). get_or z i t) e)
    ∙ ap (λ (z : List (List ℕ)). made_by t z ++ all_made made (drop (i + 1) ts)) (sym f))

pub nothing_left : (made : Label → List (List ℕ)) (ts ts' : List Label) (i : ℕ) (again : List MadeOutput) (keys : List (List ℕ)) → ts' ≡ ts → length ts' ≤ i
    → made_again [] (all_made made ts) ≡ again ++ made_again keys (all_made made (drop i ts)) → again ≡ made_again [] (all_made made ts)
nothing_left made ts ts' i again keys e l a =
    sym (a ∙ ap (λ (z : List Label). again ++ made_again keys (all_made made z)) (drop_all i ts (omega (arith, l, ap length e))) ∙ append-nil again)
