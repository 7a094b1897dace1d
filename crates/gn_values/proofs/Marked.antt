-- Entries whose names are marked.
use Rattle.std.proofs.Common.{◌≡◌, ℕ, ◌+◌, ◌<◌, List, [], ◌∷◌, ◌++◌, length, get_or, take, map, None, refl, sym, ◌∙◌, subst}
use Rattle.std.specs.declared.cmp.Ordering.TheVariants.{Less, Greater}
use Rattle.gn_text.specs.Marks.{IsMarked, AllMarked, KeepsMarked}
use Rattle.gn_text.specs.declared.marks.Marks.{Marks}
use Rattle.gn_basics.proofs.Lists.{took_more}
use Rattle.gn_basics.proofs.Orders.{order, tied, by_answer}
use Rattle.gn_values.specs.Val.{Val, names_of}
use Rattle.gn_values.specs.Operators.{value_at, with_entry}
use Rattle.gn_values.specs.View.{entry_of}
use Rattle.gn_values.specs.declared.value.Entry.{Entry}
use Rattle.gn_values.proofs.Setting.{all_with, found_here}

-- a name whose mark isn't there has no value
pub unmarked_absent : (marks : Marks) (name : List ℕ) → (IsMarked marks name → ⊥) → (bs : List (List ℕ × Val)) → AllMarked marks (names_of bs) → None ≡ value_at name bs
unmarked_absent marks name absent [] h = refl
unmarked_absent marks name absent (b ∷ bs) h =
    let rest = unmarked_absent marks name absent bs h.1 in
    by_answer (order name b.0)
    (λ e. rest ∙ sym (found_here name b.1 b bs Less e))
    (λ e. absurd (absent (subst (IsMarked marks) (sym (tied name b.0 e)) h.0)))
    (λ e. rest ∙ sym (found_here name b.1 b bs Greater e))

all_pushed : (marks : Marks) (bs : List (List ℕ × Val)) (b : List ℕ × Val) → AllMarked marks (names_of bs) → IsMarked marks b.0 → AllMarked marks (names_of (bs ++ b ∷ []))
all_pushed marks [] b h m = (m, tt)
all_pushed marks (c ∷ bs) b h m = (h.0, all_pushed marks bs b h.1 m)

module _ (before after : Marks) (keeps : KeepsMarked before after) where
  -- with the mark of one more entry that is looked at
  pub marked_more : (es : List Entry) (i : ℕ) (x : Entry) → i < length es → x ≡ get_or es i x → IsMarked after x.name → AllMarked before (names_of (take i (map entry_of es))) → AllMarked after (names_of (take (i + 1) (map entry_of es)))
  marked_more es i x l is itself h =
      subst (λ bs. AllMarked after (names_of bs)) (sym (took_more entry_of es i x l is)) (all_pushed after _ (entry_of x) (keeps _ h) itself)

  -- with the mark of a name that is set
  pub marked_with : (name : List ℕ) (v : Val) (bs : List (List ℕ × Val)) → IsMarked after name → AllMarked before (names_of bs) → AllMarked after (names_of (with_entry bs name v))
  marked_with name v bs itself h = all_with name v (IsMarked after) bs itself (keeps _ h)
