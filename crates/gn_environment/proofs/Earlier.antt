-- Of names at positions the one that stands first, in whatever order they are gone through.
use Rattle.std.proofs.Common.{◌≡◌, ℕ, Bool, true, false, if◌then◌else◌, List, [], ◌∷◌, Option, Some, None, true≢false, refl, sym, ap, ◌∙◌}
use Rattle.std.specs.Ordering.{is_lt, ordering_reverse}
use Rattle.std.specs.Cmp.{IsStrictWeakOrder}
use Rattle.std.specs.Cmp.Lexicographic.{nat_list_cmp_total}
use Rattle.std.proofs.lemmas.List.MinMax.{ranks_by}
use Rattle.gn_tree.specs.declared.position.Position.{Position}
use Rattle.gn_environment.proofs.Names.{order, tied, by_answer}
use Rattle.gn_environment.specs.Unread.{rank, stands_before, first_of, earlier}

abbrev Placed : Type 0
Placed = List ℕ × Position

standing : IsStrictWeakOrder stands_before
standing = ranks_by nat_list_cmp_total rank

before_further : (a b c : Placed) → stands_before b a ≡ true → stands_before c b ≡ true → stands_before c a ≡ true
before_further a b c p q =
    elim (stands_before c a) as (λ r. stands_before c a ≡ r → r ≡ true) [
      | true ↦ λ e. refl
      | false ↦ λ e. absurd (true≢false (sym q ∙ standing.chain c a b e (standing.one_way b a p)))
    ] refl

-- of three
chosen : (a b c : Placed) (p q : Bool) → p ≡ stands_before b a → q ≡ stands_before c b → earlier (if p then Some b else Some a) (Some c) ≡ first_of a (if q then Some c else Some b)
chosen a b c true true e f =
    ap (λ x. if x then Some c else Some b) (sym f) ∙ ap (λ x. if x then Some c else Some a) (sym (before_further a b c (sym e) (sym f)))
chosen a b c true false e f =
    ap (λ x. if x then Some c else Some b) (sym f) ∙ ap (λ x. if x then Some b else Some a) e
chosen a b c false true e f = refl
chosen a b c false false e f =
    ap (λ x. if x then Some c else Some a) (standing.chain c b a (sym f) (sym e)) ∙ ap (λ x. if x then Some b else Some a) e

earlier_none : (a : Option Placed) → earlier a None ≡ a
earlier_none None = refl
earlier_none (Some a) = refl

pub earlier_assoc : (a b c : Option Placed) → earlier (earlier a b) c ≡ earlier a (earlier b c)
earlier_assoc None b c = refl
earlier_assoc (Some a) None c = refl
earlier_assoc (Some a) (Some b) None = earlier_none (first_of a (Some b))
earlier_assoc (Some a) (Some b) (Some c) = chosen a b c (stands_before b a) (stands_before c b) refl refl

-- names at positions that have one rank are the same
abbrev of_rank : List ℕ → Placed
of_rank (line ∷ column ∷ name) = (name, record { line = line; column = column })
of_rank (line ∷ []) = ([], record { line = 0; column = 0 })
of_rank [] = ([], record { line = 0; column = 0 })

same_rank : (a b : Placed) → rank a ≡ rank b → a ≡ b
same_rank a b h = ap of_rank h

first_of_two : (a b : Placed) → first_of a (Some b) ≡ first_of b (Some a)
first_of_two a b =
    let back = nat_list_cmp_total.antisymm (rank b) (rank a) in
    by_answer (order (rank a) (rank b))
    (λ e. ap (λ r. if is_lt r then Some b else Some a) (back ∙ ap ordering_reverse e) ∙ ap (λ r. if is_lt r then Some a else Some b) (sym e))
    (λ e. ap (λ r. if is_lt r then Some b else Some a) (back ∙ ap ordering_reverse e) ∙ ap Some (same_rank a b (tied (rank a) (rank b) e)) ∙ ap (λ r. if is_lt r then Some a else Some b) (sym e))
    (λ e. ap (λ r. if is_lt r then Some b else Some a) (back ∙ ap ordering_reverse e) ∙ ap (λ r. if is_lt r then Some a else Some b) (sym e))

earlier_comm : (a b : Option Placed) → earlier a b ≡ earlier b a
earlier_comm None None = refl
earlier_comm None (Some b) = refl
earlier_comm (Some a) None = refl
earlier_comm (Some a) (Some b) = first_of_two a b

pub earlier_swap : (a b c : Option Placed) → earlier a (earlier b c) ≡ earlier b (earlier a c)
earlier_swap a b c =
    sym (earlier_assoc a b c) ∙ ap (λ x. earlier x c) (earlier_comm a b) ∙ earlier_assoc b a c
