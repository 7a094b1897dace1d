-- Facts of texts that may name a path.
use Rattle.std.proofs.Common.{◌≡◌, ℕ, true, false, ◌==◌, List, [], length, IsTrue, refl, rules, inr, sym, ◌∙◌}
use Rattle.std.proofs.lemmas.Slice.Eq.{bytes_eq-Decides}
use lib.Utf8.{encode}
use Rattle.std.specs.Str.{IsUtf8, is_utf8, chars}
use Rattle.std.proofs.lemmas.Str.{IsUtf8-from_is_utf8}
use Rattle.gn_basics.proofs.Texts.{bytes_eq_nil}
use Rattle.gn_paths.specs.Components.{two_slashes}
use Rattle.gn_paths.specs.Normal.{is_path_text, IsNormal}

-- what may name a path is UTF-8
pub IsUtf8-path_text : (t : List ℕ) → IsTrue (is_path_text t) → IsUtf8 t
unfolding is_path_text
IsUtf8-path_text t h = IsUtf8-from_is_utf8 t (search rules)

-- the source root is in normal form
pub IsNormal-root : IsNormal two_slashes
unfolding is_path_text is_utf8 chars encode
IsNormal-root = record {
  text = refl;
  shape = inr (record { parts = []; final = false; plain = search rules; spelling = refl });
}

-- a text that passes the test for the empty text, as code makes it, is empty
pub empty_text : (t : List ℕ) → true ≡ (length t == 0) → t ≡ []
empty_text t h = (bytes_eq-Decides t []).0 (bytes_eq_nil t ∙ sym h)
