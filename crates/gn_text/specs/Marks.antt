-- The mark of a text, and which marks are there.
use Rattle.std.specs.Prelude.{ℕ, ◌≡◌, ◌↔◌, ◌⊎◌, ◌+◌, ◌*◌, ◌%◌, List, length, slice_index}
use Rattle.std.specs.Int.{bit_at}
use Rattle.std.specs.List.{AllByRecursion}
use Rattle.gn_text.specs.declared.marks.Marks.{Marks}

-- the mark of a text: a number below 64 made of its length and its first byte, where the empty text's byte counts as 0
abbrev pub mark_of : List ℕ → ℕ
mark_of text = (5 * length text + slice_index text 0) % 64

-- the mark of the text is there
unfoldable pub IsMarked : Marks → List ℕ → Type 0
IsMarked marks text = bit_at marks.bits (mark_of text) ≡ 1

-- the mark of each text is there
abbrev pub AllMarked : Marks → List (List ℕ) → Type 0
AllMarked marks texts = AllByRecursion (IsMarked marks) texts

-- the marks after are those before and that of the text
abbrev pub AddsMark : Marks → List ℕ → Marks → Type 0
AddsMark before text after =
    (other : List ℕ) → IsMarked after other ↔ (IsMarked before other ⊎ (mark_of other ≡ mark_of text))

-- texts that are all marked stay so
abbrev pub KeepsMarked : Marks → Marks → Type 0
KeepsMarked before after = (texts : List (List ℕ)) → AllMarked before texts → AllMarked after texts
