-- The texts of the files of a build are those of its blocks.
use Rattle.std.proofs.Common.{◌≡◌, List, [], ◌∷◌, ◌++◌, Option, None, Some, map, refl, ap, ◌∙◌}
use Rattle.gn_outside.specs.States.{PutFile}
use Rattle.gn_writing.specs.Lines.{Line}
use Rattle.gn_ninja.specs.Format.{text_of_file}
use Rattle.gn_records.specs.declared.records.Record.{Record}
use Rattle.gn_resolve.specs.Resolved.{record_at}
use Rattle.gn_files.specs.Files.{toolchains_used, target_text, target_out, toolchain_out, root_out, files_by, meant, files_of_build}
use Rattle.gn_file_laws.specs.Made.{blocks_in, blocks_of_target, blocks_of_toolchain, blocks_of_build}
use Rattle.gn_file_laws.specs.Laws.{FilesArePrinted}

-- files whose texts are those of their blocks, before others of which that is so
printed_each : {A : Type 0} (out : A → PutFile) (blocks : A → List (List Line)) → ((x : A) → (out x).1 ≡ text_of_file (blocks x)) → (xs : List A)
    (rest : List PutFile) (more : List (List (List Line))) → map (λ (f : PutFile). f.1) rest ≡ map text_of_file more
    → map (λ (f : PutFile). f.1) (map out xs ++ rest) ≡ map text_of_file (map blocks xs ++ more)
printed_each out blocks each [] rest more h = h
printed_each out blocks each (x ∷ xs) rest more h =
    ap (λ z. z ∷ map (λ (f : PutFile). f.1) (map out xs ++ rest)) (each x)
    ∙ ap (λ zs. text_of_file (blocks x) ∷ zs) (printed_each out blocks each xs rest more h)

printed_all : {A : Type 0} (out : A → PutFile) (blocks : A → List (List Line)) → ((x : A) → (out x).1 ≡ text_of_file (blocks x)) → (xs : List A)
    → map (λ (f : PutFile). f.1) (map out xs) ≡ map text_of_file (map blocks xs)
printed_all out blocks each [] = refl
printed_all out blocks each (x ∷ xs) =
    ap (λ z. z ∷ map (λ (f : PutFile). f.1) (map out xs)) (each x) ∙ ap (λ zs. text_of_file (blocks x) ∷ zs) (printed_all out blocks each xs)

target_printed : (known : Option Record) → target_text known ≡ text_of_file (blocks_in known)
target_printed None = refl
target_printed (Some r) = refl

pub files_printed : FilesArePrinted
unfolding files_of_build files_by blocks_of_build
files_printed s items ts =
    ap (λ zs. (root_out s (meant s items) items ts).1 ∷ zs)
    (printed_each (toolchain_out s (meant s items) ts) (blocks_of_toolchain s items ts) (λ x. refl) (toolchains_used s.default ts)
    (map (target_out s (meant s items)) ts) (map (blocks_of_target s items) ts)
    (printed_all (target_out s (meant s items)) (blocks_of_target s items) (λ t. target_printed (record_at s items t)) ts))
