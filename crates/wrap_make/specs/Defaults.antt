-- The modes of new objects where a call gives none (RFC 1094, 2.2.10, 2.2.14 and 2.2.15).
use Rattle.std.specs.Prelude.{ℕ}
use Rattle.node_changes.specs.Objects.{New, new_dir, new_file, new_link}

-- 0755, 0644, 0777
abbrev pub default_mode : New → ℕ
default_mode new_dir = 493
default_mode (new_file size) = 420
default_mode (new_link text) = 511
