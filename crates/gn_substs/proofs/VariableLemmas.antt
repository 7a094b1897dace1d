-- A tool's text is read back as its parts.
use Rattle.std.proofs.Common.{◌≡◌, ℕ, Bool, true, false, not, cond, List, [], ◌∷◌, ◌++◌, length, ◌==◌, ◌||◌, ◌&&◌, Some, option_map, map, refl, sym, ◌∙◌, ap, subst, append_assoc, true≢false}
use Rattle.std.specs.List.{list_all, flat_map}
use Rattle.std.proofs.lemmas.Bool.{eqb-true}
use Rattle.std.proofs.lemmas.List.{append-nil}
use Rattle.std.proofs.lemmas.Grind.{flat_map-append}
use Rattle.gn_basics.proofs.Tests.{first_true, second_true}
use Rattle.gn_basics.proofs.Texts.{not_one, one_of_more}
use Rattle.gn_ninja_text.specs.Marks.{is_one_of}
use Rattle.gn_ninja_text.specs.Escapes.{doubled, value_escaped, without_first_spaces}
use Rattle.gn_ninja_text.specs.Values.{ValuePart, Byte, Variable, Bytes, Name, is_name_byte, with_byte, with_variable, parts_from, value_parts_read, part_bytes, parts_bytes, value_made}
use Rattle.gn_substs.specs.declared.names.Substitution.{Substitution}
use Rattle.gn_substs.specs.declared.names.Substitution.TheVariants.{Source, SourceFilePart, SourceNamePart, SourceDir, SourceRootRelativeDir, SourceGenDir, SourceOutDir, SourceTargetRelative, ResponseFileName, TargetOutputName, OutputDir, OutputExtension, RootOutDir, RootGenDir, TargetOutDir, TargetGenDir, LabelName, Inputs, Output, InputsNewline, LabelNoToolchain, Asmflags, Cflags, CflagsC, CflagsCc, Defines, IncludeDirs, Label, Ldflags, Libs, Solibs}
use Rattle.gn_substs.specs.declared.pieces.SubstPiece.{SubstPiece}
use Rattle.gn_substs.specs.Expansions.{piece_with}
use Rattle.gn_substs.specs.Variables.{variable_name, variable_of, doubled_with, tool_text, piece_parts, value_parts, with_values}

-- bytes behind the beginning are read back
doubled_read : (bytes rest : List ℕ) (parts : List ValuePart) → parts_from Bytes rest ≡ Some parts → parts_from Bytes (doubled bytes ++ rest) ≡ Some (map Byte bytes ++ parts)
doubled_read [] rest parts h = h
doubled_read (b ∷ more) rest parts h = by (is_one_of (36 ∷ []) b) refl (doubled_read more rest parts h)
  where
    by : (v : Bool) → is_one_of (36 ∷ []) b ≡ v → parts_from Bytes (doubled more ++ rest) ≡ Some (map Byte more ++ parts) →
        parts_from Bytes ((cond v (36 ∷ b ∷ []) (b ∷ []) ++ doubled more) ++ rest) ≡ Some (map Byte (b ∷ more) ++ parts)
    by true e again = rw (one_of_more (36 ∷ []) (32 ∷ []) b e) (ap (with_byte b) again)
    by false e again = rw (not_one (36 ∷ []) 36 b refl e) (ap (with_byte b) again)

-- a byte of a name doesn't close it
name_goes_on : (b : ℕ) → is_name_byte b ≡ true → b == 125 ≡ false
name_goes_on b h = by (b == 125) refl
  where
    by : (v : Bool) → b == 125 ≡ v → v ≡ false
    by false q = refl
    by true q = absurd (true≢false (sym h ∙ ap is_name_byte (eqb-true b 125 q)))

-- the rest of a name is read up to the brace that closes it
name_read : (so_far name rest : List ℕ) → list_all is_name_byte name ≡ true → parts_from (Name so_far) ((name ++ 125 ∷ []) ++ rest) ≡ with_variable (so_far ++ name) (parts_from Bytes rest)
name_read so_far [] rest h = ap (λ n. with_variable n (parts_from Bytes rest)) (sym (append-nil so_far))
name_read so_far (b ∷ name) rest h =
    let here = first_true (is_name_byte b) (list_all is_name_byte name) h in
    let behind = second_true (is_name_byte b) (list_all is_name_byte name) h in
    rw (name_goes_on b here, here)
    (name_read (so_far ++ b ∷ []) name rest behind ∙ ap (λ n. with_variable n (parts_from Bytes rest)) (append_assoc so_far (b ∷ []) name))

-- whether Ninja takes a name between braces
abbrev is_variable_name : List ℕ → Bool
is_variable_name name = not (length name == 0) && list_all is_name_byte name

has_variable_name : (s : Substitution) → is_variable_name (variable_name s) ≡ true
has_variable_name Source = refl
has_variable_name SourceFilePart = refl
has_variable_name SourceNamePart = refl
has_variable_name SourceDir = refl
has_variable_name SourceRootRelativeDir = refl
has_variable_name SourceGenDir = refl
has_variable_name SourceOutDir = refl
has_variable_name SourceTargetRelative = refl
has_variable_name ResponseFileName = refl
has_variable_name TargetOutputName = refl
has_variable_name OutputDir = refl
has_variable_name OutputExtension = refl
has_variable_name RootOutDir = refl
has_variable_name RootGenDir = refl
has_variable_name TargetOutDir = refl
has_variable_name TargetGenDir = refl
has_variable_name LabelName = refl
has_variable_name Inputs = refl
has_variable_name Output = refl
has_variable_name InputsNewline = refl
has_variable_name LabelNoToolchain = refl
has_variable_name Asmflags = refl
has_variable_name Cflags = refl
has_variable_name CflagsC = refl
has_variable_name CflagsCc = refl
has_variable_name Defines = refl
has_variable_name IncludeDirs = refl
has_variable_name Label = refl
has_variable_name Ldflags = refl
has_variable_name Libs = refl
has_variable_name Solibs = refl

named : (name : List ℕ) (parts : List ValuePart) → is_variable_name name ≡ true → with_variable name (Some parts) ≡ Some (Variable name ∷ parts)
named [] parts h = absurd (true≢false (sym h))
named (b ∷ name) parts h = refl

-- a variable is read back
variable_read : (s : Substitution) (rest : List ℕ) (parts : List ValuePart) → parts_from Bytes rest ≡ Some parts → parts_from Bytes (variable_of s ++ rest) ≡ Some (Variable (variable_name s) ∷ parts)
variable_read s rest parts h =
    let name = variable_name s in
    let good = has_variable_name s in
    name_read [] name rest (second_true (not (length name == 0)) (list_all is_name_byte name) good)
    ∙ ap (with_variable name) h ∙ named name parts good

-- pieces behind the beginning are read back
pieces_read : (pieces : List SubstPiece) (rest : List ℕ) (parts : List ValuePart) → parts_from Bytes rest ≡ Some parts → parts_from Bytes (flat_map doubled_with pieces ++ rest) ≡ Some (flat_map piece_parts pieces ++ parts)
pieces_read [] rest parts h = h
pieces_read (p ∷ more) rest parts h =
    let again = variable_read p.substitution (flat_map doubled_with more ++ rest) (flat_map piece_parts more ++ parts) (pieces_read more rest parts h) in
    ap (parts_from Bytes) (append_assoc (doubled_with p) (flat_map doubled_with more) rest ∙ append_assoc (doubled p.before) (variable_of p.substitution) (flat_map doubled_with more ++ rest))
    ∙ doubled_read p.before (variable_of p.substitution ++ (flat_map doubled_with more ++ rest)) (Variable (variable_name p.substitution) ∷ (flat_map piece_parts more ++ parts)) again
    ∙ ap Some (sym (append_assoc (piece_parts p) (flat_map piece_parts more) parts ∙ append_assoc (map Byte p.before) (Variable (variable_name p.substitution) ∷ []) (flat_map piece_parts more ++ parts)))

-- bytes at the beginning are read back, where what follows them doesn't begin with a space
begins_with : (b : ℕ) (more rest : List ℕ) → b == 32 ≡ false → without_first_spaces (doubled (b ∷ more) ++ rest) ≡ doubled (b ∷ more) ++ rest
begins_with b more rest e = by (is_one_of (36 ∷ []) b)
  where
    by : (v : Bool) → without_first_spaces ((cond v (36 ∷ b ∷ []) (b ∷ []) ++ doubled more) ++ rest) ≡ (cond v (36 ∷ b ∷ []) (b ∷ []) ++ doubled more) ++ rest
    by true = refl
    by false = rw e refl

escaped_read : (value rest : List ℕ) (parts : List ValuePart) → without_first_spaces rest ≡ rest → parts_from Bytes rest ≡ Some parts → value_parts_read (value_escaped value ++ rest) ≡ Some (map Byte value ++ parts)
unfolding value_parts_read value_escaped
escaped_read [] rest parts s h = ap (parts_from Bytes) s ∙ h
escaped_read (b ∷ more) rest parts s h = by (32 == b) refl
  where
    by : (v : Bool) → 32 == b ≡ v → parts_from Bytes (without_first_spaces ((cond (v && true) (36 ∷ []) [] ++ doubled (b ∷ more)) ++ rest)) ≡ Some (map Byte (b ∷ more) ++ parts)
    by true q =
        subst (λ (x : ℕ). parts_from Bytes (without_first_spaces ((36 ∷ doubled (x ∷ more)) ++ rest)) ≡ Some (map Byte (x ∷ more) ++ parts)) (eqb-true 32 b q) (ap (with_byte 32) (doubled_read more rest parts h))
    by false q =
        ap (parts_from Bytes) (begins_with b more rest (not_one (32 ∷ []) 32 b refl (ap (λ v. v || false) q))) ∙ doubled_read (b ∷ more) rest parts h

-- what stands behind the bytes of a text ends there
ends_here : (bytes : List ℕ) → parts_from Bytes (doubled bytes) ≡ Some (map Byte bytes)
ends_here bytes = ap (parts_from Bytes) (sym (append-nil (doubled bytes))) ∙ doubled_read bytes [] [] refl ∙ ap Some (append-nil (map Byte bytes))

pub text_read_back : (pieces : List SubstPiece) (last : List ℕ) → value_parts_read (tool_text pieces last) ≡ Some (value_parts pieces last)
text_read_back [] last = ap value_parts_read (sym (append-nil (value_escaped last))) ∙ escaped_read last [] [] refl refl ∙ ap Some (append-nil (map Byte last))
text_read_back (p ∷ more) last =
    let rest = flat_map doubled_with more ++ doubled last in
    let parts = flat_map piece_parts more ++ map Byte last in
    let again = variable_read p.substitution rest parts (pieces_read more (doubled last) (map Byte last) (ends_here last)) in
    ap value_parts_read (
    append_assoc (value_escaped p.before ++ variable_of p.substitution) (flat_map doubled_with more) (doubled last)
    ∙ append_assoc (value_escaped p.before) (variable_of p.substitution) rest
    )
    ∙ escaped_read p.before (variable_of p.substitution ++ rest) (Variable (variable_name p.substitution) ∷ parts) refl again
    ∙ ap Some (sym (append_assoc (piece_parts p) (flat_map piece_parts more) (map Byte last) ∙ append_assoc (map Byte p.before) (Variable (variable_name p.substitution) ∷ []) parts))

-- bytes are themselves whatever the variables' values are
bytes_of : (values : List ℕ → List ℕ) (bytes : List ℕ) → parts_bytes values (map Byte bytes) ≡ bytes
bytes_of values [] = refl
bytes_of values (b ∷ more) = ap (λ z. b ∷ z) (bytes_of values more)

bytes_of_pieces : (values : List ℕ → List ℕ) (pieces : List SubstPiece) → parts_bytes values (flat_map piece_parts pieces) ≡ flat_map (piece_with (λ s. values (variable_name s))) pieces
bytes_of_pieces values [] = refl
bytes_of_pieces values (p ∷ more) =
    let name = variable_name p.substitution in
    flat_map-append (part_bytes values) (piece_parts p) (flat_map piece_parts more)
    ∙ ap (λ z. parts_bytes values (piece_parts p) ++ z) (bytes_of_pieces values more)
    ∙ ap (λ z. z ++ flat_map (piece_with (λ s. values (variable_name s))) more)
    (flat_map-append (part_bytes values) (map Byte p.before) (Variable name ∷ []) ∙ ap (λ z. z ++ (values name ++ [])) (bytes_of values p.before) ∙ ap (λ z. p.before ++ z) (append-nil (values name)))

pub text_value : (values : List ℕ → List ℕ) (pieces : List SubstPiece) (last : List ℕ) → value_made values (tool_text pieces last) ≡ Some (with_values values pieces last)
text_value values pieces last =
    ap (option_map (parts_bytes values)) (text_read_back pieces last)
    ∙ ap Some (
    flat_map-append (part_bytes values) (flat_map piece_parts pieces) (map Byte last)
    ∙ ap (λ z. parts_bytes values (flat_map piece_parts pieces) ++ z) (bytes_of values last)
    ∙ ap (λ z. z ++ last) (bytes_of_pieces values pieces)
    )
