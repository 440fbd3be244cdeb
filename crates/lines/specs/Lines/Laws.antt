-- A hue with its bracket, piece by piece. Assumes nothing.
use Rattle.std.specs.Prelude.{◌≡◌, ℕ, ◌+◌, length}
use mathlib.Core.List.{List, [], ◌∷◌, append_assoc}
use Rattle.std.proofs.Common.{arith, length-append}
use Rattle.names.specs.declared.Axis.{Axis}
use Rattle.names.specs.declared.Hue.TheVariants.{Towards}
use Rattle.text.specs.Ascii.{ascii}
use Rattle.text.specs.Put.{joined, line}
use Rattle.lines.specs.Lines.{axis_word, hue_word}

module _ (name bracket : Axis) where
  abbrev pub axes_pieces : List (List ℕ)
  axes_pieces = ascii "hue=" ∷ axis_word name ∷ ascii "(" ∷ axis_word bracket ∷ ascii ")\n" ∷ []

  pub hue-axes : line (ascii "hue=") (hue_word (Towards name bracket)) ≡ joined axes_pieces
  unfolding line
  hue-axes = simp append_assoc

  pub axes-length : length (hue_word (Towards name bracket)) ≡ 2 + length (axis_word name) + length (axis_word bracket)
  axes-length = simp length-append (omega arith)
