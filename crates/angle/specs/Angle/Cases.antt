-- Some hue angles, by computing, in grid units, of which one has 2 ^ 20: the axes and a unit to each side of them, both
-- sides of 45 degrees, each quadrant. No proof cites this. Assumes nothing.
use Rattle.std.specs.Prelude.{◌≡◌, refl, pos, negsuc}
use Rattle.sheet.specs.Sheet.{cross}
use Rattle.angle.specs.Table.{cosines, sines}
use Rattle.angle.specs.Angle.{quadrant, reached, greatest, hue_angle}

pub record AngleCases : Type 0 where
  pub neutral : hue_angle (pos 0) (pos 0) ≡ 0
  pub red : hue_angle (pos 10485760) (pos 0) ≡ 0
  pub past_red : hue_angle (pos 10485760) (pos 1) ≡ 0
  pub before_red : hue_angle (pos 10485760) (negsuc 0) ≡ 359
  pub yellow : hue_angle (pos 0) (pos 10485760) ≡ 90
  pub before_yellow : hue_angle (pos 1) (pos 10485760) ≡ 89
  pub green : hue_angle (negsuc 10485759) (pos 0) ≡ 180
  pub before_green : hue_angle (negsuc 10485759) (pos 1) ≡ 179
  pub blue : hue_angle (pos 0) (negsuc 10485759) ≡ 270
  pub before_blue : hue_angle (negsuc 0) (negsuc 10485759) ≡ 269
  pub half_way : hue_angle (pos 10485760) (pos 10485760) ≡ 45
  pub before_half_way : hue_angle (pos 10485760) (pos 10485759) ≡ 44
  -- (-40, -31) and (3, -4)
  pub third-quadrant : hue_angle (negsuc 41943039) (negsuc 32505855) ≡ 217
  pub fourth-quadrant : hue_angle (pos 3145728) (negsuc 4194303) ≡ 306

pub angle_cases : AngleCases
unfolding cosines sines cross quadrant reached greatest hue_angle
angle_cases = record {
  neutral = refl;
  red = refl;
  past_red = refl;
  before_red = refl;
  yellow = refl;
  before_yellow = refl;
  green = refl;
  before_green = refl;
  blue = refl;
  before_blue = refl;
  half_way = refl;
  before_half_way = refl;
  third-quadrant = refl;
  fourth-quadrant = refl;
}
