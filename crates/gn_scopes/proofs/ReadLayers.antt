-- Layers that are gone through, the first ones read.
use Rattle.std.proofs.Common.{◌≡◌, ℕ, zero, suc, ◌+◌, ◌<◌, List, [], ◌∷◌, map, length, get_or, refl, sym, ap, ◌∙◌, arith}
use Rattle.std.specs.Prelude.{slice_set}
use Rattle.gn_environment.specs.Layers.{LayerState}
use Rattle.gn_environment.specs.Chains.{all_read}

-- the first layers read

abbrev pub first_read : ℕ → List LayerState → List LayerState
first_read zero ls = ls
first_read (suc i) [] = []
first_read (suc i) (l ∷ ls) = all_read l ∷ first_read i ls

pub all_first_read : (ls : List LayerState) (i : ℕ) → i ≡ length ls → first_read i ls ≡ map all_read ls
all_first_read [] i e = ap (λ k. first_read k []) e
all_first_read (l ∷ ls) zero e = absurd (omega arith)
all_first_read (l ∷ ls) (suc i) e = ap (λ ms. all_read l ∷ ms) (all_first_read ls i (omega arith))

pub length_first_read : (i : ℕ) (ls : List LayerState) → length (first_read i ls) ≡ length ls
length_first_read zero ls = refl
length_first_read (suc i) [] = refl
length_first_read (suc i) (l ∷ ls) = ap suc (length_first_read i ls)

pub one_more_read : (ls : List LayerState) (i : ℕ) (l : LayerState) → i < length ls → l ≡ get_or (first_read i ls) i l → slice_set (first_read i ls) i (all_read l) ≡ first_read (i + 1) ls
one_more_read [] i l h is = absurd (omega arith)
one_more_read (m ∷ ls) zero l h is = ap (λ n. all_read n ∷ ls) is
one_more_read (m ∷ ls) (suc i) l h is =
    let e : suc i + 1 ≡ suc (i + 1) = omega arith in
    ap (λ ms. all_read m ∷ ms) (one_more_read ls i l (omega arith) is) ∙ ap (λ k. first_read k (m ∷ ls)) (sym e)
