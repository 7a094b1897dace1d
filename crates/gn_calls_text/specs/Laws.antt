-- Words for laws of the calls.
use Rattle.std.specs.Prelude.{◌≡◌, ℕ, true, suc, ◌<◌, ◌≤◌, ◌/◌, ◌%◌, ◌⊎◌, List, [], ◌∷◌, ◌++◌, length, slice_index_or}
use Rattle.std.specs.List.{flat_map, concat, list_all, prefix_len, suffix_len}
use Rattle.gn_values.specs.Val.{Val}
use Rattle.gn_calls_text.specs.declared.patterns.Part.{Part}
use Rattle.gn_calls_text.specs.declared.patterns.Part.TheVariants.{Any, Boundary, Byte}
use Rattle.gn_calls_text.specs.Calls.{list_list}
use Rattle.gn_calls_text.specs.Pieces.{is_white_space}

-- the third list has the items of the first two and no others, each list's in its order
abbrev pub IsMerge : {A : Type 0} → List A → List A → List A → Type 0
IsMerge xs ys [] = (xs ≡ []) × (ys ≡ [])
IsMerge {A} xs ys (z ∷ zs) =
    ((rest : List A) × ((xs ≡ z ∷ rest) × IsMerge rest ys zs)) ⊎ ((rest : List A) × ((ys ≡ z ∷ rest) × IsMerge xs rest zs))

-- a list in `count` lists, which joined in order are the list. The first ones, as many as are left over where all are
-- equally long, have one item more
pub record IsParted (vs : List Val) (count : ℕ) (parts : List Val) : Type 0 where
  pub lists : List (List Val)
  pub are : parts ≡ list_list lists
  pub counted : length lists ≡ count
  pub joined : flat_map (λ list. list) lists ≡ vs
  pub longer : (i : ℕ) → i < length vs % count → length (slice_index_or lists i []) ≡ suc (length vs / count)
  pub others : (i : ℕ) → length vs % count ≤ i → i < count → length (slice_index_or lists i []) ≡ length vs / count

-- what a part of a pattern stands for, in a string with these bytes before and behind it
abbrev pub StandsFor : Part → List ℕ → List ℕ → List ℕ → Type 0
StandsFor Any before piece behind = Unit {0}
StandsFor Boundary before piece behind = (piece ≡ 47 ∷ []) ⊎ ((piece ≡ []) × ((before ≡ []) ⊎ (behind ≡ [])))
StandsFor (Byte b) before piece behind = piece ≡ b ∷ []

-- each piece is what its part stands for
abbrev pub StandFor : List Part → List ℕ → List (List ℕ) → Type 0
StandFor [] before [] = Unit {0}
StandFor [] before (piece ∷ pieces) = ⊥
StandFor (part ∷ parts) before [] = ⊥
StandFor (part ∷ parts) before (piece ∷ pieces) = StandsFor part before piece (concat pieces) × StandFor parts (before ++ piece) pieces

-- the text is made of pieces, one for each part of the pattern and what that part stands for
abbrev pub IsMatch : List Part → List ℕ → Type 0
IsMatch parts text = (pieces : List (List ℕ)) × ((concat pieces ≡ text) × StandFor parts [] pieces)

-- what is left of a text between the white space before it and behind it: it neither begins nor ends with any
pub record IsTrimmed (text left : List ℕ) : Type 0 where
  pub before : List ℕ
  pub behind : List ℕ
  pub is : text ≡ before ++ (left ++ behind)
  pub space_before : list_all is_white_space before ≡ true
  pub space_behind : list_all is_white_space behind ≡ true
  pub begins : prefix_len is_white_space left ≡ 0
  pub ends : suffix_len is_white_space left ≡ 0
