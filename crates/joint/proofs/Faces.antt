-- What field 1 says of the rows: a face may have eight at most, marked counts are 16 to 24, and others are as stored. Assumes nothing.
use mathlib.Core.Path.{◌≡◌, refl}
use mathlib.Core.Bool.{Bool, true, false}
use Prim.Native.Nat.{ℕ, ◌≤◌}
use native.Mathlib.Omega.{arith}
use Rattle.arithmetic.specs.Range.{Within, within}
use Rattle.arithmetic.proofs.Bounds.{within_yes}
use Rattle.joint.specs.Ranges.{row_counts}
use Rattle.joint.specs.Faces.{marked_counts, two_faced, first_rows}

pub at_most_eight : (count : ℕ) → within row_counts count ≡ true → count ≤ row_counts.high
at_most_eight count e = (within_yes row_counts count (rw e tt)).high

pub marked : (count : ℕ) → two_faced count ≡ true → Within marked_counts count
unfolding two_faced
marked count e = within_yes marked_counts count (rw e tt)

pub rows_as_stored : (count : ℕ) → two_faced count ≡ false → first_rows count ≡ count
unfolding first_rows
rows_as_stored count e = rw e

-- a count of a joint with at most eight rows is no greater than a marked one
pub count_most : (count : ℕ) → first_rows count ≤ 8 → count ≤ marked_counts.high
count_most count few = by_mark (two_faced count) refl
  where
    by_mark : (mark : Bool) → two_faced count ≡ mark → count ≤ marked_counts.high
    by_mark true two = (marked count two).high
    by_mark false one = omega (arith, rows_as_stored count one)
