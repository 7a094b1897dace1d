-- The pieces of a text, joined again, are the text.
use Rattle.std.proofs.Common.{◌≡◌, ℕ, zero, suc, ◌+◌, ◌<◌, Bool, true, false, ◌&&◌, ◌==◌, cond, List, [], ◌∷◌, ◌++◌, length, take, drop, Some, Ok, refl, sym, ◌∙◌, ap, subst, append_assoc, arith}
use Rattle.std.specs.List.{flat_map}
use Rattle.std.specs.Str.{bytes_eq}
use Rattle.std.proofs.lemmas.Bool.Decides.{Decides-eqb}
use Rattle.std.proofs.lemmas.List.{take-append-drop, drop-drop}
use Rattle.std.proofs.lemmas.List.Concat.{flat_map-cons}
use Rattle.std.proofs.lemmas.Slice.Eq.{bytes_eq-Decides}
use Rattle.std.proofs.lemmas.Bool.{and_parts}
use Rattle.gn_substs.specs.declared.names.Substitution.{Substitution}
use Rattle.gn_substs.specs.declared.positions.Position.{Position}
use Rattle.gn_substs.specs.declared.pieces.SubstPiece.{SubstPiece}
use Rattle.gn_substs.specs.declared.subst.Subst.{Subst}
use Rattle.gn_substs.specs.declared.subst.BracedName.{BracedName}
use Rattle.gn_substs.specs.Names.{substitution_name}
use Rattle.gn_substs.specs.Positions.{first_named, names_at, substitution_at}
use Rattle.gn_substs.specs.Pieces.{first_is, pair_at, name_from, piece_of}
use Rattle.gn_substs.specs.Reading.{LeadsTo, subst_read}
use Rattle.gn_substs.specs.Expansions.{piece_with, with_texts}
use Rattle.gn_substs.specs.Laws.{braced, IsPieceAt, ArePiecesAt, IsWrittenAs}
use Rattle.gn_substs.proofs.ReadLemmas.{is_found, found_room, one_reading}

first_head : (b : ℕ) (t : List ℕ) → first_is b t ≡ true → t ≡ b ∷ drop 1 t
first_head b [] h = absurd cc
first_head b (x ∷ more) h = ap (λ z. z ∷ more) ((Decides-eqb x b).0 h)

drop_more : (n : ℕ) (x : ℕ) (t : List ℕ) → drop (1 + n) (x ∷ t) ≡ drop n t
drop_more n x t = let e : 1 + n ≡ suc n = omega arith in ap (λ m. drop m (x ∷ t)) e

-- The first pair stands where it is said to.
pub pair_there : (b : ℕ) (t : List ℕ) → pair_at b t < length t → drop (pair_at b t) t ≡ b ∷ b ∷ drop (pair_at b t + 2) t
pair_there b [] lt = absurd (omega arith)
pair_there b (x ∷ more) lt = by ((x == b) && first_is b more) refl lt (pair_there b more)
  where
    by : (v : Bool) → ((x == b) && first_is b more) ≡ v → cond v 0 (1 + pair_at b more) < length (x ∷ more) →
        (pair_at b more < length more → drop (pair_at b more) more ≡ b ∷ b ∷ drop (pair_at b more + 2) more) →
        drop (cond v 0 (1 + pair_at b more)) (x ∷ more) ≡ b ∷ b ∷ drop (cond v 0 (1 + pair_at b more) + 2) (x ∷ more)
    by true e lt again =
        let both = and_parts (x == b) (first_is b more) e in
        ap (λ z. z ∷ more) ((Decides-eqb x b).0 both.0) ∙ ap (λ z. b ∷ z) (first_head b more both.1)
    by false e lt again =
        let n : 1 + pair_at b more + 2 ≡ 1 + (pair_at b more + 2) = omega arith in
        drop_more (pair_at b more) x more ∙ again (omega (arith, lt))
        ∙ ap (λ z. b ∷ b ∷ z) (sym (ap (λ m. drop m (x ∷ more)) n ∙ drop_more (pair_at b more + 2) x more))

name_is : (ns : List Substitution) (name : List ℕ) (s : Substitution) → first_named ns name ≡ Some s → substitution_name s ≡ name
name_is [] name s h = absurd cc
name_is (n ∷ ns) name s h = name_by n ns name s (bytes_eq (substitution_name n) name) refl h (name_is ns name s)
  where
    name_by : (n : Substitution) (ns : List Substitution) (name : List ℕ) (s : Substitution) (b : Bool) → bytes_eq (substitution_name n) name ≡ b →
        cond b (Some n) (first_named ns name) ≡ Some s → (first_named ns name ≡ Some s → substitution_name s ≡ name) → substitution_name s ≡ name
    name_by n ns name s true e h again = let same : n ≡ s = cc in ap substitution_name (sym same) ∙ (bytes_eq-Decides (substitution_name n) name).0 e
    name_by n ns name s false e h again = again h

-- A piece with its substitution between braces, and what is left behind it, are the text.
piece_whole : (position : Position) (text : List ℕ) (found : BracedName) → name_from position text (pair_at 123 text) ≡ Some found →
    piece_with braced (piece_of text found) ++ drop found.end text ≡ text
piece_whole position text found h =
    let start = pair_at 123 text in
    let inside = drop (start + 2) text in
    let close = pair_at 125 inside in
    let f = is_found position text start found h in
    let lt = (found_room position text start found h).0 in
    let name : substitution_name found.substitution ≡ take close inside = name_is (names_at position) (take close inside) found.substitution f.named in
    let end : drop found.end text ≡ drop (close + 2) inside =
    let e : found.end ≡ (start + 2) + (close + 2) = omega (arith, f.ends) in ap (λ n. drop n text) e ∙ sym (drop-drop (close + 2) (start + 2) text) in
    let behind : substitution_name found.substitution ++ 125 ∷ 125 ∷ drop found.end text ≡ inside =
    ap (λ n. n ++ 125 ∷ 125 ∷ drop found.end text) name ∙ ap (λ z. take close inside ++ 125 ∷ 125 ∷ z) end
    ∙ ap (λ z. take close inside ++ z) (sym (pair_there 125 inside f.within)) ∙ take-append-drop close inside in
    append_assoc (take found.start text) (braced found.substitution) (drop found.end text)
    ∙ ap (λ z. take found.start text ++ 123 ∷ 123 ∷ z) (append_assoc (substitution_name found.substitution) (125 ∷ 125 ∷ []) (drop found.end text) ∙ behind)
    ∙ ap (λ n. take n text ++ 123 ∷ 123 ∷ inside) f.starts
    ∙ ap (λ z. take start text ++ z) (sym (pair_there 123 text lt)) ∙ take-append-drop start text

joined : (position : Position) (text : List ℕ) (ps : List SubstPiece) (last : List ℕ) → LeadsTo position text ps last → with_texts braced ps last ≡ text
joined position text [] last h = sym h
joined position text (p ∷ ps) last h =
    ap (λ z. z ++ last) (flat_map-cons (piece_with braced) p ps) ∙ append_assoc (piece_with braced p) (flat_map (piece_with braced) ps) last
    ∙ ap (λ z. piece_with braced p ++ z) (joined position (drop h.0.end text) ps last h.3)
    ∙ ap (λ q. piece_with braced q ++ drop h.0.end text) h.2 ∙ piece_whole position text h.0 h.1

-- No pair stands before the first one.
none_before : (b : ℕ) (t : List ℕ) → pair_at b (take (pair_at b t) t) ≡ length (take (pair_at b t) t)
none_before b [] = refl
none_before b (x ∷ more) = by ((x == b) && first_is b more) refl (none_before b more)
  where
    lead : (n : ℕ) (t : List ℕ) (c : Bool) → (c && first_is b t) ≡ false → (c && first_is b (take n t)) ≡ false
    lead n t false h = refl
    lead zero t true h = refl
    lead (suc n) [] true h = refl
    lead (suc n) (y ∷ t) true h = h

    by : (v : Bool) → ((x == b) && first_is b more) ≡ v → pair_at b (take (pair_at b more) more) ≡ length (take (pair_at b more) more) →
        pair_at b (take (cond v 0 (1 + pair_at b more)) (x ∷ more)) ≡ length (take (cond v 0 (1 + pair_at b more)) (x ∷ more))
    by true e again = refl
    by false e again =
        let n : 1 + pair_at b more ≡ suc (pair_at b more) = omega arith in
        rw n (
        let one : pair_at b (x ∷ take (pair_at b more) more) ≡ 1 + pair_at b (take (pair_at b more) more) =
        ap (λ c. cond c 0 (1 + pair_at b (take (pair_at b more) more))) (lead (pair_at b more) more (x == b) e) in
        omega (arith, one, again)
        )

pieces_at : (position : Position) (text : List ℕ) (ps : List SubstPiece) (last : List ℕ) → LeadsTo position text ps last → ArePiecesAt position ps
pieces_at position text [] last h = tt
pieces_at position text (p ∷ ps) last h =
    let f = is_found position text (pair_at 123 text) h.0 h.1 in
    let close = pair_at 125 (drop (pair_at 123 text + 2) text) in
    let name = name_is (names_at position) (take close (drop (pair_at 123 text + 2) text)) h.0.substitution f.named in
    let here : IsPieceAt position (piece_of text h.0) =
    (ap (substitution_at position) name ∙ f.named, subst (λ (n : ℕ). pair_at 123 (take n text) ≡ length (take n text)) (sym f.starts) (none_before 123 text)) in
    (subst (IsPieceAt position) (sym h.2) here, pieces_at position (drop h.0.end text) ps last h.3)

pub written_as : (position : Position) (text : List ℕ) (s : Subst) → subst_read position text ≡ Ok s → IsWrittenAs position text s
written_as position text s h =
    let r = (one_reading position text).are_pieces s h in
    record { joined = joined position text s.pieces s.last r.0; pieces = pieces_at position text s.pieces s.last r.0; last = r.1 }
