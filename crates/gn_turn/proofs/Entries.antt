-- The entries of one seat, in what it saw and in what the seats made of it.
use Rattle.std.proofs.Common.{◌≡◌, ◌≢◌, ℕ, Bool, cond, eqb, List, [], ◌∷◌, ◌++◌, drop, length, sym, refl, ap, ◌∙◌, eq-eqb, ne_eqb}
use Rattle.std.specs.List.{All}
use Rattle.std.proofs.lemmas.List.Elements.{All-head, All-tail, filter-append}
use Rattle.std.proofs.lemmas.List.{append-nil}
use Rattle.std.proofs.Math.Seq.{drop-append_seam}
use Rattle.gn_turn.specs.History.{SeenPrefix, AddsOwn, entries_of}

module _ {E : Type 0} (number : E → ℕ) (j : ℕ) where
  entries_of-others : (l : List E) → All (λ e. number e ≢ j) l → entries_of number j l ≡ []
  entries_of-others [] h = refl
  entries_of-others (x ∷ xs) h =
      ap (λ (b : Bool). cond b (x ∷ entries_of number j xs) (entries_of number j xs)) (ne_eqb (number x) j (All-head (λ e. number e ≢ j) x xs h))
      ∙ entries_of-others xs (All-tail (λ e. number e ≢ j) x xs h)

  entries_of-own : (l : List E) → All (λ e. number e ≡ j) l → entries_of number j l ≡ l
  entries_of-own [] h = refl
  entries_of-own (x ∷ xs) h =
      ap (λ (b : Bool). cond b (x ∷ entries_of number j xs) (entries_of number j xs)) (eq-eqb (number x) j (All-head (λ e. number e ≡ j) x xs h))
      ∙ ap (λ (l : List E). x ∷ l) (entries_of-own xs (All-tail (λ e. number e ≡ j) x xs h))

  -- the other seats add no entry of this one
  pub entries_of-SeenPrefix : (seen whole : List E) → SeenPrefix number j seen whole → entries_of number j whole ≡ entries_of number j seen
  entries_of-SeenPrefix seen whole s =
      ap (entries_of number j) (sym s.is)
      ∙ (filter-append (λ e. eqb (number e) j) seen s.later
      ∙ (ap (λ (l : List E). entries_of number j seen ++ l) (entries_of-others s.later s.others)
      ∙ append-nil (entries_of number j seen)))

  -- all that this seat adds are entries of its own
  pub entries_of-AddsOwn : (before after : List E) → AddsOwn number j before after
      → entries_of number j after ≡ entries_of number j before ++ drop (length before) after
  entries_of-AddsOwn before after a =
      let added : drop (length before) after ≡ a.added = ap (drop (length before)) (sym a.is) ∙ drop-append_seam before a.added in
      ap (entries_of number j) (sym a.is)
      ∙ (filter-append (λ e. eqb (number e) j) before a.added
      ∙ ap (λ (l : List E). entries_of number j before ++ l) (entries_of-own a.added a.own ∙ sym added))
