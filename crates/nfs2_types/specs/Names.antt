-- Names of directories: what each may be, and the two that every directory has (RFC 1094, 2.3.7).
use Rattle.std.specs.Prelude.{ℕ, List, [], ◌∷◌, length, bytes_eq}
use Rattle.std.specs.Prelude.{Bool, not, ◌&&◌, ◌||◌, ◌==◌, nat_le}
use Rattle.std.specs.List.{list_any}
use Rattle.nfs2_types.specs.Sizes.{max_name}

abbrev pub name_dot : List ℕ
name_dot = 46 ∷ []

abbrev pub name_dots : List ℕ
name_dots = 46 ∷ 46 ∷ []

-- "." or ".."
abbrev pub is_dot : List ℕ → Bool
is_dot name = bytes_eq name name_dot || bytes_eq name name_dots

-- empty, or with a '/' or a NUL
abbrev pub is_bad : List ℕ → Bool
is_bad name = length name == 0 || list_any (λ b. b == 47 || b == 0) name

-- a name that a directory may have
abbrev pub is_name : List ℕ → Bool
is_name name = not (is_bad name) && nat_le (length name) max_name && not (is_dot name)
