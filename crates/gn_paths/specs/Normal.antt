-- Texts that name a path, and paths in normal form.
use Rattle.std.specs.Prelude.{ℕ, Bool, List, [], ◌==◌, ◌&&◌, ◌≡◌, ◌≢◌, ◌⊎◌, not, IsTrue}
use Rattle.std.specs.List.{All, list_all}
use Rattle.std.specs.Str.{is_utf8, bytes_eq}
use Rattle.gn_paths.specs.Components.{HasNoSlash, is_system, spelled, slash, dot, two_dots}

-- the bytes that may stand in a path: all but NUL and newline
abbrev pub is_path_byte : ℕ → Bool
is_path_byte b = not (b == 0) && not (b == 10)

-- a text that may name a path: it isn't empty, has no NUL and no newline, and is UTF-8
unfoldable pub is_path_text : List ℕ → Bool
is_path_text t = not (bytes_eq t []) && (list_all is_path_byte t && is_utf8 t)

-- a component that normalizing keeps: not empty, not `.`, not `..`, and without a slash
pub record IsPlain (c : List ℕ) : Type 0 where
  pub not_empty : c ≢ []
  pub not_dot : c ≢ dot
  pub not_dots : c ≢ two_dots
  pub no_slash : HasNoSlash c

-- a path of the source tree: `//`, then plain components between slashes, and perhaps a final slash
pub record IsInSource (p : List ℕ) : Type 0 where
  pub parts : List (List ℕ)
  pub final : Bool
  pub plain : All IsPlain parts
  pub spelling : p ≡ spelled slash parts final

-- a path in normal form: a text that may name a path, and a system path as it stands or a path of the
-- source tree without empty, `.` and `..` components
pub record IsNormal (p : List ℕ) : Type 0 where
  pub text : IsTrue (is_path_text p)
  pub shape : IsTrue (is_system p) ⊎ IsInSource p
