-- Numbers of a joint file (rules 9.1 and 9.3): the stored form of a number, and what reading one
-- gives. Both go group by group from the lowest. Assumes nothing.
use Rattle.std.specs.Prelude.{ℕ, zero, suc, ◌+◌, ◌-◌, ◌*◌, ◌/◌, ◌%◌, ◌<◌, List, [], ◌∷◌, cond, ◌&&◌, leb, ltb, eqb, get_or}
use Rattle.numbers.specs.Parse.{Parse, got, refused}

-- The seven-bit groups of a number, the lowest first, 128 added to each that more follow; at most so many.
unfoldable pub groups : ℕ → ℕ → List ℕ
groups zero x = []
groups (suc most) x = cond (ltb x 128) (x ∷ []) ((128 + x % 128) ∷ groups most (x / 128))

-- The stored form of a number: a field has 32 bits, and five groups hold 35.
abbrev pub stored : ℕ → List ℕ
stored x = groups 5 x

-- What reading a number gives, where what reading its groups above the lowest gives is known.
abbrev pub above : ℕ → ℕ → Parse ℕ → Parse ℕ
above scale low (got x left) = got (low + scale * x) left
above scale low (refused r) = refused r

-- Reading a number, of which `before` groups are read. 1 where the bytes end. 2 there and then at a fifth byte above 15, so that a number
-- never passes 4294967295; any other is judged at its last byte, and is 2 where its highest group is 0 and not the only one, since
-- then a shorter form has the same value.
unfoldable pub read_groups : ℕ → List ℕ → Parse ℕ
read_groups before [] = refused 1
read_groups before (byte ∷ left) =
    cond (leb 4 before && ltb 15 byte) (refused 2)
    (cond (ltb byte 128)
    (cond (ltb 0 before && eqb byte 0) (refused 2) (got byte left))
    (above 128 (byte - 128) (read_groups (suc before) left)))

abbrev pub read_number : List ℕ → Parse ℕ
read_number bytes = read_groups 0 bytes

-- a list of bytes
abbrev pub Bytes : List ℕ → Type 0
Bytes bytes = (k : ℕ) → get_or bytes k 0 < 256
