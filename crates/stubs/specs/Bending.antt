-- Bending of a T-stub: the column flange or the end plate (rules 4.2 to 4.5, and 4.7).
-- Lengths in hundredths of a millimetre, thickness t in tenths, strength y in newtons per square millimetre.
-- Assumes nothing.
use Rattle.std.specs.Prelude.{ℕ, ◌+◌, ◌*◌, ◌/◌, min, List, [], ◌∷◌}

-- the least of some numbers, of which there is at least one
abbrev pub least_of : ℕ → List ℕ → ℕ
least_of x [] = x
least_of x (y ∷ ys) = least_of (min x y) ys

-- rule 4.2: circular yielding
abbrev pub circular : (m s : ℕ) → ℕ
circular m s = 6283 * m / 1000 + 20 * s

-- rule 4.2: side yielding
abbrev pub side : (m e s : ℕ) → ℕ
side m e s = 4 * m + 5 * e / 4 + 10 * s

-- rule 4.3: side yielding near the beam flange
abbrev pub near_flange : (alpha m s : ℕ) → ℕ
near_flange alpha m s = alpha * m / 100 + 10 * s

-- rule 4.2: L
abbrev pub effective_length : (m e s : ℕ) → ℕ
effective_length m e s = min (circular m s) (side m e s)

-- rule 4.3: L on the plate, for a group that begins at the first row below the beam flange
abbrev pub effective_length_near_flange : (alpha m s : ℕ) → ℕ
effective_length_near_flange alpha m s = min (circular m s) (near_flange alpha m s)

-- rule 4.7: L of the extension row
unfoldable pub extension_length : (mx edge e g bp : ℕ) → ℕ
extension_length mx edge e g bp =
    let c = 6283 * mx / 2000 in
    let E = 10 * edge in
    least_of (6283 * mx / 1000)
    ((c + 10 * g)
    ∷ (c + 2 * e)
    ∷ (4 * mx + 5 * E / 4)
    ∷ (2 * mx + 5 * E / 8 + e)
    ∷ (2 * mx + 5 * E / 8 + 5 * g)
    ∷ (5 * bp)
    ∷ [])

-- rule 4.4: n'
abbrev pub effective_edge : (column_edge plate_edge m : ℕ) → ℕ
effective_edge column_edge plate_edge m = min (min column_edge plate_edge) (5 * m / 4)

-- rule 4.5: mode 1, complete yielding of the flange
abbrev pub mode1 : (m t y L : ℕ) → ℕ
mode1 m t y L = L * (t * t) * y / (100 * m)

-- rule 4.5: mode 2, bolt failure with yielding of the flange; n is n'
abbrev pub mode2 : (m n t y W k L : ℕ) → ℕ
mode2 m n t y W k L = (L * (t * t) * y + 200 * n * k * W) / (200 * (m + n))

-- rule 4.5: mode 3, bolt failure
abbrev pub mode3 : (W k : ℕ) → ℕ
mode3 W k = k * W

-- rule 4.5: the least of the three; n is n'
unfoldable pub bending : (m n t y W k L : ℕ) → ℕ
bending m n t y W k L = min (min (mode1 m t y L) (mode2 m n t y W k L)) (mode3 W k)
