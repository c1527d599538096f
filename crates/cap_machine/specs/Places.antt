-- A call at a directory (openat(2)): where its paths begin.
use Rattle.std.specs.Prelude.{ℕ, ◌==◌, ◌&&◌, ◌||◌, not, Bool, true, false, List, [], ◌∷◌, Option, Some, None}
use Rattle.std.specs.Prelude.{if◌then◌else◌}
use Rattle.cap_trace.specs.declared.line.Dir.{Dir}
use Rattle.cap_trace.specs.declared.line.Dir.TheVariants as dirs

-- a directory, a path that is looked up there, and the rights that the lookup needs of the directory
pub record Place : Type 0 where
  pub dir : Dir
  pub path : List ℕ
  pub needs : ℕ

abbrev pub place : Dir → List ℕ → ℕ → Place
place dir path needs = record { dir = dir; path = path; needs = needs }

abbrev pub is_empty : List ℕ → Bool
is_empty [] = true
is_empty (c ∷ path) = false

-- a path that begins with `/`
abbrev pub is_absolute : List ℕ → Bool
is_absolute [] = false
is_absolute (c ∷ path) = c == 47

-- the descriptor of a directory
abbrev pub dir_fd : Dir → Option ℕ
dir_fd (dirs.Fd f) = Some f
dir_fd dirs.Cwd = None

abbrev pub is_cwd : Dir → Bool
is_cwd (dirs.Fd f) = false
is_cwd dirs.Cwd = true

-- capability mode denies global name spaces: a path that begins with `/`, or where the process is
abbrev pub is_global : Dir → List ℕ → Bool
is_global dir path = not (is_empty path) && (is_cwd dir || is_absolute path)

-- the descriptor of the directory below which a relative path is looked up
abbrev pub below : Dir → List ℕ → Option ℕ
below dir path = if is_empty path || is_absolute path then None else dir_fd dir
