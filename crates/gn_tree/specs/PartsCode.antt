-- Texts, positions, operators and pieces of strings as trees of numbers, one to one.
use Rattle.std.specs.Prelude.{◌≡◌, ℕ, zero, suc, ℤ, pos, negsuc, List, [], ◌∷◌, Bool, true, false, refl}
use Rattle.std.proofs.Common.{ap}
use base.Stored.{Gv, gnil, gnum, gcons}
use Rattle.gn_tree.specs.declared.position.Position.{Position}
use Rattle.gn_tree.specs.declared.operator.AssignOp.{AssignOp}
use Rattle.gn_tree.specs.declared.operator.AssignOp.TheVariants.{Set, Add as AddTo, Subtract as SubtractFrom}
use Rattle.gn_tree.specs.declared.operator.BinaryOp.{BinaryOp}
use Rattle.gn_tree.specs.declared.operator.BinaryOp.TheVariants.{Add, Subtract, Less, LessEqual, Greater, GreaterEqual, Equal, NotEqual, And, Or}
use Rattle.gn_tree.specs.declared.piece.Subscript.{Subscript}
use Rattle.gn_tree.specs.declared.piece.Subscript.TheVariants.{Name as NameSubscript, Integer as IntegerSubscript}
use Rattle.gn_tree.specs.declared.piece.Piece.{Piece}
use Rattle.gn_tree.specs.declared.piece.Piece.TheVariants.{Bytes, Name, Item, Entry}

abbrev pub number_back : Gv → ℕ
number_back (gnum n) = n
number_back gnil = 0
number_back (gcons a b) = 0

abbrev pub front : Gv → Gv
front gnil = gnil
front (gnum n) = gnil
front (gcons a b) = a

abbrev pub back : Gv → Gv
back gnil = gnil
back (gnum n) = gnil
back (gcons a b) = b

abbrev pub text_g : List ℕ → Gv
text_g [] = gnil
text_g (b ∷ bs) = gcons (gnum b) (text_g bs)

abbrev pub text_back : Gv → List ℕ
text_back gnil = []
text_back (gnum n) = []
text_back (gcons a b) = number_back a ∷ text_back b

pub text_there : (bs : List ℕ) → text_back (text_g bs) ≡ bs
text_there [] = refl
text_there (b ∷ bs) = ap (λ r. b ∷ r) (text_there bs)

abbrev pub position_g : Position → Gv
position_g p = gcons (gnum p.line) (gnum p.column)

abbrev pub position_back : Gv → Position
position_back g = record { line = number_back (front g); column = number_back (back g) }

abbrev pub integer_g : ℤ → Gv
integer_g (pos n) = gcons (gnum 0) (gnum n)
integer_g (negsuc n) = gcons (gnum 1) (gnum n)

abbrev signed : ℕ → ℕ → ℤ
signed zero n = pos n
signed (suc k) n = negsuc n

abbrev pub integer_back : Gv → ℤ
integer_back g = signed (number_back (front g)) (number_back (back g))

pub integer_there : (z : ℤ) → integer_back (integer_g z) ≡ z
integer_there (pos n) = refl
integer_there (negsuc n) = refl

abbrev pub boolean_g : Bool → Gv
boolean_g false = gnum 0
boolean_g true = gnum 1

abbrev is_positive : ℕ → Bool
is_positive zero = false
is_positive (suc n) = true

abbrev pub boolean_back : Gv → Bool
boolean_back g = is_positive (number_back g)

pub boolean_there : (b : Bool) → boolean_back (boolean_g b) ≡ b
boolean_there false = refl
boolean_there true = refl

abbrev pub assign_g : AssignOp → Gv
assign_g Set = gnum 0
assign_g AddTo = gnum 1
assign_g SubtractFrom = gnum 2

abbrev pub assign_back : Gv → AssignOp
assign_back (gnum zero) = Set
assign_back (gnum (suc zero)) = AddTo
assign_back _ = SubtractFrom

pub assign_there : (o : AssignOp) → assign_back (assign_g o) ≡ o
assign_there Set = refl
assign_there AddTo = refl
assign_there SubtractFrom = refl

abbrev pub binary_g : BinaryOp → Gv
binary_g Add = gnum 0
binary_g Subtract = gnum 1
binary_g Less = gnum 2
binary_g LessEqual = gnum 3
binary_g Greater = gnum 4
binary_g GreaterEqual = gnum 5
binary_g Equal = gnum 6
binary_g NotEqual = gnum 7
binary_g And = gnum 8
binary_g Or = gnum 9

abbrev pub binary_back : Gv → BinaryOp
binary_back (gnum zero) = Add
binary_back (gnum (suc zero)) = Subtract
binary_back (gnum (suc (suc zero))) = Less
binary_back (gnum (suc (suc (suc zero)))) = LessEqual
binary_back (gnum (suc (suc (suc (suc zero))))) = Greater
binary_back (gnum (suc (suc (suc (suc (suc zero)))))) = GreaterEqual
binary_back (gnum (suc (suc (suc (suc (suc (suc zero))))))) = Equal
binary_back (gnum (suc (suc (suc (suc (suc (suc (suc zero)))))))) = NotEqual
binary_back (gnum (suc (suc (suc (suc (suc (suc (suc (suc zero))))))))) = And
binary_back _ = Or

pub binary_there : (o : BinaryOp) → binary_back (binary_g o) ≡ o
binary_there Add = refl
binary_there Subtract = refl
binary_there Less = refl
binary_there LessEqual = refl
binary_there Greater = refl
binary_there GreaterEqual = refl
binary_there Equal = refl
binary_there NotEqual = refl
binary_there And = refl
binary_there Or = refl

abbrev subscript_g : Subscript → Gv
subscript_g (NameSubscript n) = gcons (gnum 0) (text_g n)
subscript_g (IntegerSubscript z) = gcons (gnum 1) (integer_g z)

abbrev subscript_back : Gv → Subscript
subscript_back (gcons (gnum zero) g) = NameSubscript (text_back g)
subscript_back (gcons (gnum (suc k)) g) = IntegerSubscript (integer_back g)
subscript_back _ = NameSubscript []

subscript_there : (s : Subscript) → subscript_back (subscript_g s) ≡ s
subscript_there (NameSubscript n) = ap NameSubscript (text_there n)
subscript_there (IntegerSubscript z) = ap IntegerSubscript (integer_there z)

abbrev piece_g : Piece → Gv
piece_g (Bytes t) = gcons (gnum 0) (text_g t)
piece_g (Name p n) = gcons (gnum 1) (gcons (position_g p) (text_g n))
piece_g (Item p b s) = gcons (gnum 2) (gcons (position_g p) (gcons (text_g b) (subscript_g s)))
piece_g (Entry p b e) = gcons (gnum 3) (gcons (position_g p) (gcons (text_g b) (text_g e)))

abbrev piece_back : Gv → Piece
piece_back (gcons (gnum zero) g) = Bytes (text_back g)
piece_back (gcons (gnum (suc zero)) g) = Name (position_back (front g)) (text_back (back g))
piece_back (gcons (gnum (suc (suc zero))) g) = Item (position_back (front g)) (text_back (front (back g))) (subscript_back (back (back g)))
piece_back (gcons (gnum (suc (suc (suc k)))) g) = Entry (position_back (front g)) (text_back (front (back g))) (text_back (back (back g)))
piece_back _ = Bytes []

piece_there : (p : Piece) → piece_back (piece_g p) ≡ p
piece_there (Bytes t) = ap Bytes (text_there t)
piece_there (Name p n) = λ i. Name p (text_there n i)
piece_there (Item p b s) = λ i. Item p (text_there b i) (subscript_there s i)
piece_there (Entry p b e) = λ i. Entry p (text_there b i) (text_there e i)

abbrev pub pieces_g : List Piece → Gv
pieces_g [] = gnil
pieces_g (p ∷ ps) = gcons (piece_g p) (pieces_g ps)

abbrev pub pieces_back : Gv → List Piece
pieces_back gnil = []
pieces_back (gnum n) = []
pieces_back (gcons a b) = piece_back a ∷ pieces_back b

pub pieces_there : (ps : List Piece) → pieces_back (pieces_g ps) ≡ ps
pieces_there [] = refl
pieces_there (p ∷ ps) = λ i. piece_there p i ∷ pieces_there ps i
