-- docs/SCOPE.md 4, whites: BS 6923, Table 1. Assumes nothing.
use Rattle.std.specs.Prelude.{◌≡◌, refl, cond, ℕ, ◌*◌, eqb, Option, Some, None}
use Rattle.colour.specs.declared.white.TristimulusValues.{TristimulusValues}
use Rattle.colour.specs.declared.white.White.{White}
use Rattle.colour.specs.declared.white.White.TheVariants.{D65Ten, D65Two, CTen, CTwo}

-- from the table's thousandths
abbrev thousandths : (Xn Yn Zn : ℕ) → TristimulusValues
thousandths Xn Yn Zn = record { X = Xn * 1000; Y = Yn * 1000; Z = Zn * 1000 }

-- D65/10, D65/2, C/10, C/2
unfoldable pub white_of : White → TristimulusValues
white_of D65Ten = thousandths 94811 100000 107304
white_of D65Two = thousandths 95047 100000 108883
white_of CTen = thousandths 97285 100000 116145
white_of CTwo = thousandths 98074 100000 118232

-- by which a load names them
abbrev pub number_of_white : White → ℕ
number_of_white D65Ten = 1
number_of_white D65Two = 2
number_of_white CTen = 3
number_of_white CTwo = 4

-- the white of a number, if there is one
unfoldable pub white_numbered : ℕ → Option White
white_numbered n =
    cond (eqb n 1) (Some D65Ten)
    (cond (eqb n 2) (Some D65Two) (cond (eqb n 3) (Some CTen) (cond (eqb n 4) (Some CTwo) None)))

pub numbered_back : (w : White) → white_numbered (number_of_white w) ≡ Some w
unfolding white_numbered
numbered_back D65Ten = refl
numbered_back D65Two = refl
numbered_back CTen = refl
numbered_back CTwo = refl
