-- The build file of a directory is found.
use Rattle.std.proofs.Common.{◌≡◌, ◌⊎◌, inl, inr, ℕ, List, Ok, Err, refl, ap}
use Rattle.std.specs.Prelude.{codes}
use Rattle.std.specs.Str.{is_utf8, chars}
use lib.Utf8.{encode}
use Rattle.gn_paths.specs.declared.error.PathError.{PathError}
use Rattle.gn_paths.specs.declared.error.PathError.TheVariants.{Memory}
use Rattle.gn_paths.specs.Normal.{is_path_text}
use Rattle.gn_paths.specs.Resolve.{led, path_meant, path_answered, resolved}
use Rattle.gn_executions.specs.Units.{build_file_of}

-- what `BUILD.gn` means in a directory
pub build_file_meant : (directory : List ℕ) → path_meant directory (codes "BUILD.gn") ≡ Ok (build_file_of directory)
unfolding is_utf8 chars encode is_path_text led path_meant build_file_of
build_file_meant directory = refl

pub build_file_resolved : (directory : List ℕ) → resolved directory (codes "BUILD.gn") ≡ Ok (build_file_of directory)
unfolding resolved
build_file_resolved directory = ap path_answered (build_file_meant directory)

-- so it is refused for want of memory alone
pub refused_for_memory : (directory : List ℕ) (e : PathError) → (e ≡ Memory) ⊎ (resolved directory (codes "BUILD.gn") ≡ Err e) → e ≡ Memory
refused_for_memory directory e (inl h) = h
refused_for_memory directory e (inr h) = absurd (cc (build_file_resolved directory, h))
