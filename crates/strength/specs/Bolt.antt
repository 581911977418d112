-- Rules 3.3 and 3.6: a bolt's strengths by class, and what a pair of bolts takes, by the area that the bolt table in force lists (rule
-- 3.2). What a table doesn't have is 0. Assumes nothing.
use Rattle.std.specs.Prelude.{ℕ, ◌*◌, ◌/◌, [], ◌∷◌}
use Rattle.arithmetic.specs.Table.{lookup}
use Rattle.joint.specs.Ranges.{classes}
use Rattle.joint.specs.declared.Bolts.{Bolts}
use Rattle.strength.specs.declared.ClassStrengths.{ClassStrengths}
use Rattle.strength.specs.declared.BoltStrengths.{BoltStrengths}

-- rule 3.3: pt
unfoldable pub bolt_tension : (class : ℕ) → ℕ
bolt_tension = lookup classes (240 ∷ 560 ∷ 700 ∷ [])

-- rule 3.3: ps
unfoldable pub bolt_shear : (class : ℕ) → ℕ
bolt_shear = lookup classes (160 ∷ 375 ∷ 400 ∷ [])

-- rule 3.3
unfoldable pub bolt_bearing : (class : ℕ) → ℕ
bolt_bearing = lookup classes (460 ∷ 1000 ∷ 1300 ∷ [])

-- rule 3.3: U
unfoldable pub bolt_ultimate : (class : ℕ) → ℕ
bolt_ultimate = lookup classes (400 ∷ 800 ∷ 1000 ∷ [])

-- rule 3.6: W, by A in tenths of mm²
unfoldable pub pair_tension : (area class : ℕ) → ℕ
pair_tension area class = 2 * area * bolt_tension class / 10

-- rule 3.6: S
unfoldable pub pair_shear : (area class : ℕ) → ℕ
pair_shear area class = 2 * area * bolt_shear class / 10

-- the four tables by class, side by side
abbrev pub class_strengths : (class : ℕ) → ClassStrengths
class_strengths class = record {
  tension = bolt_tension class;
  shear = bolt_shear class;
  bearing = bolt_bearing class;
  ultimate = bolt_ultimate class;
}

-- what limits and verdicts need of bolts that have this area
abbrev pub bolt_strengths : Bolts → (area : ℕ) → BoltStrengths
bolt_strengths bolts area = record {
  diameter = bolts.diameter;
  pair_tension = pair_tension area bolts.class;
  pair_shear = pair_shear area bolts.class;
  bearing = bolt_bearing bolts.class;
  ultimate = bolt_ultimate bolts.class;
}
