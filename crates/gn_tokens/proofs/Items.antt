-- A string is its items.
use Rattle.std.proofs.Common.{◌≡◌, ℕ, ◌+◌, ◌-◌, false, List, [], ◌∷◌, length, drop, sym, ◌∙◌, ap, subst, arith, drop_at}
use Rattle.gn_tokens.specs.Text.{IsString, Reads, AllExpand, is_stop, text_len, text_items, placed, string_items, front_item, item_bytes, items_skip}
use Rattle.gn_tokens.proofs.Texts.{IsRead, IsJudged, read}
use Rattle.gn_tokens.proofs.Unique.{passed}

pub string_reads : (text : List ℕ) → IsString (34 ∷ text) → Reads (text_items text) text (34 ∷ []) × AllExpand (text_items text)
string_reads text (items, same, e, reads, good) =
    let text_is : text ≡ same = cc in
    let p = passed items text (34 ∷ []) (subst (λ x. Reads items x (34 ∷ [])) (sym text_is) reads) in
    let back : drop (text_len false text) text ≡ 34 ∷ [] = ap (drop (text_len false text)) p.bytes ∙ drop_at p.front (34 ∷ []) (text_len false text) (omega (arith, p.len)) in
    let whole : IsRead text (34 ∷ []) = subst (IsRead text) back (read (length text) text (omega arith)) in
    (whole.reads, subst (IsJudged text (34 ∷ [])) (p.bad good) whole.judged)

pub items_next : (at b : ℕ) (bs : List ℕ) → is_stop b ≡ false →
    (let len = length (item_bytes (front_item b bs)) in string_items at (b ∷ bs) ≡ (at, front_item b bs) ∷ string_items (at + len) (drop (len - 1) bs))
items_next at b bs inside = rw inside (ap (λ x. (at, front_item b bs) ∷ placed (at + length (item_bytes (front_item b bs))) x) (items_skip (length (item_bytes (front_item b bs)) - 1) bs))
