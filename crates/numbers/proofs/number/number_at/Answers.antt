-- `number::number_at` meets its contract. The loop's head is `Head`: a number is the value so far plus the scale times what the groups
-- from `at` on give; each return is one case of reading a group. Assumes nothing.
use Prim.Native.Nat.{◌-◌}
use native.Mathlib.Omega.{arith}
use lib.ListN.{drop}
use Rattle.numbers.proofs.Groups.{Turn, turn_at, head_next, head_more, reads_over, reads_longer, reads_value}
use Rattle.numbers.proofs.Groups.{last_fits, more_fits, scale_fits, low_fifth, not_none}
use Rattle.numbers.proofs.Groups.{refused_there, cut_there, value_there}
use Rattle.numbers.proofs.number.number_at.Goals as goal
use Rattle.numbers.proofs.number.number_at.Goals.{After-from-byte}

-- what a turn knows once its byte is read
turn : (c : After-from-byte) → let loop = c.loop-at in
    Turn (drop c.args.from c.args.bytes.now) (loop.at - c.args.from) loop.scale loop.value c.from-byte.result
turn c =
    turn_at c.args.bytes.now c.loop-at.invariant c.loop-at.auto.at c.loop-at-test.true c.from-byte.ensures
    (omega (arith, c.from-byte.ensures, c.type_inv.bytes c.loop-at.at))

-- a fifth byte above 15
pub returns-then-byte-gt-GREATEST_FIFTH : goal.returns-then-byte-gt-GREATEST_FIFTH
returns-then-byte-gt-GREATEST_FIFTH c =
    let here = goal.at.returns-then-byte-gt-GREATEST_FIFTH c in
    refused_there _ (reads_over (turn here.After-from-byte) c.if-before-ge4.true c.if-byte-gt-GREATEST_FIFTH.true)

-- not the shortest form
pub returns-then-byte-eq0 : goal.returns-then-byte-eq0
returns-then-byte-eq0 c =
    let here = goal.at.returns-then-byte-eq0 c in
    refused_there _
    (reads_longer (turn here.After-from-byte) (low_fifth c.else-before-ge4.either) c.if-before-gt0.true c.if-byte-eq0.true)

pub overflow_mul-result : goal.overflow_mul-result
overflow_mul-result c =
    let here = goal.at.overflow_mul-result c in
    omega (arith, last_fits (turn here.After-from-byte) (low_fifth c.else-before-ge4.either) c.if-byte-lt128.true)

pub overflow_add-result : goal.overflow_add-result
overflow_add-result c =
    let here = goal.at.overflow_add-result c in
    record { fits = last_fits (turn here.After-from-byte) (low_fifth c.else-before-ge4.either) c.if-byte-lt128.true }

pub returns-then-byte-lt128 : goal.returns-then-byte-lt128
returns-then-byte-lt128 c =
    let here = goal.at.returns-then-byte-lt128 c in
    value_there _ _ c.loop-at.auto.at c.loop-at-test.true
    (reads_value (turn here.After-from-byte) (low_fifth c.else-before-ge4.either) c.if-byte-lt128.true
    (not_none c.else-before-gt0.either))

pub overflow_mul-value : goal.overflow_mul-value
overflow_mul-value c =
    let here = goal.at.overflow_mul-value c in
    omega (arith, more_fits (turn here.After-from-byte) (low_fifth c.else-before-ge4.either) c.if-byte-lt128.false)

pub overflow_add-value : goal.overflow_add-value
overflow_add-value c =
    let here = goal.at.overflow_add-value c in
    record { fits = more_fits (turn here.After-from-byte) (low_fifth c.else-before-ge4.either) c.if-byte-lt128.false }

pub overflow_mul-scale : goal.overflow_mul-scale
overflow_mul-scale c =
    let here = goal.at.overflow_mul-scale c in
    record { fits = scale_fits (turn here.After-from-byte) (low_fifth c.else-before-ge4.either) c.if-byte-lt128.false }

pub loop-at-preserved : goal.loop-at-preserved
loop-at-preserved c =
    let here = goal.at.loop-at-preserved c in
    head_next c.loop-at.auto.at (head_more (turn here.After-from-byte) (low_fifth c.else-before-ge4.either) c.if-byte-lt128.false)

-- the bytes end
pub returns : goal.returns
returns c = cut_there _ c.loop-at.invariant c.loop-at-test.false
