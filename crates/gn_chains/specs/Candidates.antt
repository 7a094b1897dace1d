-- The labels that may be placed next, in label order.
use Rattle.std.specs.Prelude.{◌≡◌, ℕ, List, [], ◌∷◌, Option, Some, None, Bool, true, false, cond, slice_get, ◌||◌}
use Rattle.std.specs.declared.cmp.Ordering.{Ordering}
use Rattle.std.specs.Ordering.{is_eq, is_gt}
use Rattle.std.specs.BTreeSet.{BTreeSet, contains}
use Rattle.gn_labels.specs.declared.label.Label.{Label}
use Rattle.gn_labels.specs.declared.key.LabelKey.{LabelKey}
use Rattle.gn_labels.specs.Keys.{key_of}
use Rattle.gn_chains.specs.declared.candidates.Candidate.{Candidate}

-- the key of a label, where there is one
abbrev pub key_at : List ℕ → Option Label → LabelKey
key_at default None = record { dir = []; name = []; toolchain = None }
key_at default (Some label) = key_of default label

-- the candidate of a number
abbrev pub candidate_at : List ℕ → List Label → ℕ → Candidate
candidate_at default labels n = record { key = key_at default (slice_get labels n); number = n }

-- each is the candidate of its number
abbrev pub AreCandidates : List ℕ → List Label → List Candidate → Type 0
AreCandidates default labels [] = Unit {0}
AreCandidates default labels (c ∷ cs) = (c ≡ candidate_at default labels c.number) × AreCandidates default labels cs

-- a number is a candidate too where it is so; and all are what they were
pub record IsOffered (cmp : Candidate → Candidate → Ordering) (default : List ℕ) (labels : List Label) (test : ℕ → Bool)
    (old new : BTreeSet Candidate) : Type 0 where
  pub has : (n : ℕ) → contains cmp new (candidate_at default labels n) ≡ (contains cmp old (candidate_at default labels n) || test n)
  pub kept : AreCandidates default labels old.keys → AreCandidates default labels new.keys

-- the first of them is taken out
pub record IsFirst (cmp : Candidate → Candidate → Ordering) (old new : BTreeSet Candidate) (c : Candidate) : Type 0 where
  pub keys : old.keys ≡ c ∷ new.keys
  pub member : contains cmp old c ≡ true
  pub least : (d : Candidate) → contains cmp old d ≡ true → is_gt (cmp c d) ≡ false
  pub rest : (d : Candidate) → contains cmp new d ≡ cond (is_eq (cmp c d)) false (contains cmp old d)

abbrev pub IsTaken : (Candidate → Candidate → Ordering) → BTreeSet Candidate → BTreeSet Candidate → Option ℕ → Type 0
IsTaken cmp old new None = (d : Candidate) → contains cmp old d ≡ false
IsTaken cmp old new (Some n) = (c : Candidate) × (c.number ≡ n) × IsFirst cmp old new c
