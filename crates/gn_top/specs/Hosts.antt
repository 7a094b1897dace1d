-- The host as contracts see it.
use Rattle.std.specs.Prelude.{◌≡◌, ◌≢◌, ℕ, ◌-◌, List, length, Some, slice_get, string_bytes}
use Rattle.gn_top.specs.declared.host.Host.{Host}

-- the host's three texts as bytes
pub record HostTexts : Type 0 where
  pub os : List ℕ
  pub cpu : List ℕ
  pub root : List ℕ

abbrev pub host_texts : Host → HostTexts
host_texts host = record { os = string_bytes host.os; cpu = string_bytes host.cpu; root = string_bytes host.root }

-- a source root begins with a slash and doesn't end with one
pub record IsRoot (root : List ℕ) : Type 0 where
  pub begins : slice_get root 0 ≡ Some 47
  pub ends : slice_get root (length root - 1) ≢ Some 47
