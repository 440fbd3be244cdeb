-- The version that a host can ask the library for: docs/SCOPE.md 1.3.
use Rattle.std.specs.Prelude.{◌≡◌, refl, ℕ, ◌+◌, ◌*◌}

pub major : ℕ
major = 1

pub minor : ℕ
minor = 5

pub version : ℕ
version = 100 * major + minor

-- of 1.5 it is 105
pub in_figures : 105 ≡ version
unfolding version major minor
in_figures = refl
