-- A group's limit from the figures worked once is the rules' limit: each product is theirs in another order, of two webs the lesser stands
-- for both, and the limits that apply are counted in the order of the rules. Assumes nothing.
use mathlib.Core.Path.{◌≡◌, refl, ap, ◌∙◌}
use mathlib.Core.Bool.{Bool, true, false, cond}
use Prim.Native.Nat.{ℕ, suc, ◌+◌, ◌-◌, ◌*◌, ◌/◌, ◌≤◌, ◌<◌, min}
use native.Mathlib.Nat.{add-zero, mul-le-mul, le_trans, le_refl, min-le_left, min-le_right}
use native.Mathlib.Omega.{arith}
use mathlib.Core.List.{List, [], ◌∷◌, ◌++◌}
use lib.ListN.{get_or, drop}
use Rattle.std.proofs.lemmas.List.{get_or-drop}
use lib.Dec.{ltb, eqb, lit≤}
use borrow.Author.Tests.{ltb-true, ne_eqb}
use Rattle.arithmetic.proofs.Bounds.{cond_le}
use Rattle.joint.specs.Ranges.{row_counts}
use Rattle.joint.specs.declared.Column.{Column}
use Rattle.joint.specs.declared.Face.{Face}
use Rattle.sharing.specs.Groups.{most_limit}
use Rattle.strength.specs.Steel.{steel_strength}
use Rattle.strength.specs.declared.SteelStrengths.{SteelStrengths}
use Rattle.spacing.specs.Spacing.{rise}
use Rattle.spacing.specs.declared.Spacing.{Spacing}
use Rattle.stubs.specs.Bending.{least_of, extension_length, bending}
use Rattle.stubs.specs.Worked.{stub_of, length_by, bending_by, web_by}
use Rattle.stubs.specs.declared.Stub.{Stub}
use Rattle.stubs.proofs.Same.{bending-worked, web_worked, lesser_web, length-worked}
use Rattle.tension.specs.Limits.{
  rows_in,
  column_flange_bending,
  extension_bending,
  end_plate_bending,
  end_plate_limits,
  column_web_tension,
  beam_web_limits,
  group_limit,
}
use Rattle.tension.specs.Dimensions.{dimensions_of, column_by, plate_side_by, plate_by, webs_by, limit_by, limits_by}
use Rattle.tension.specs.InRange.{most_group_limit, DimensionsWithin}
use Rattle.tension.specs.Admissible.{FiguresGiven, ExtensionFigures}
use Rattle.tension.specs.declared.Dimensions.{Dimensions}

-- the limits that apply, counted one after the other
abbrev counted : (above alone below : Bool) (flange extension plate column beam : ℕ) → ℕ
counted above alone below flange extension plate column beam =
    let limit = min (cond above (cond alone (min flange extension) flange) (min flange plate)) column in cond below (min limit beam) limit

in_order : (above alone below : Bool) (flange extension plate column beam : ℕ)
    → counted above alone below flange extension plate column beam
    ≡ least_of flange (cond above (cond alone (extension ∷ []) []) (plate ∷ []) ++ (column ∷ cond below (beam ∷ []) []))
in_order true true true flange extension plate column beam = refl
in_order true true false flange extension plate column beam = refl
in_order true false true flange extension plate column beam = refl
in_order true false false flange extension plate column beam = refl
in_order false alone true flange extension plate column beam = refl
in_order false alone false flange extension plate column beam = refl

-- the limit by the lesser web is the limit by each web in turn
webs_counted : (below : Bool) (limit web_length s column beam : ℕ) → min limit (web_by web_length s (cond below (min column beam) column))
    ≡ (let web = min limit (web_by web_length s column) in cond below (min web (web_by web_length s beam)) web)
webs_counted true limit web_length s column beam = omega (arith, lesser_web web_length s column beam)
webs_counted false limit web_length s column beam = refl

-- above the first row under the flange the plate is extended
extension_counts : (extended i x : ℕ) (above : Bool) → ltb i extended ≡ above → (alone below : Bool) (flange plate column beam : ℕ)
    → counted above alone below flange (cond (eqb extended 0) 0 x) plate column beam ≡ counted above alone below flange x plate column beam
extension_counts extended i x true e alone below flange plate column beam =
    let more = ltb-true i extended e in rw (ne_eqb extended 0 (omega arith))
extension_counts extended i x false e alone below flange plate column beam = refl

length_either : (near : Bool) (c a b s : ℕ) → length_by c (cond near a b) s ≡ cond near (length_by c a s) (length_by c b s)
length_either true c a b s = refl
length_either false c a b s = refl

module _ (column : Column) (face : Face) (W i j : ℕ) where
  column_worked : column_by (dimensions_of column face W) (rows_in i j) (rise face i j) ≡ column_flange_bending column face W i j
  unfolding column_by dimensions_of column_flange_bending
  column_worked = bending-worked _ _ _ _ _ _ _ ∙ ap (bending _ _ _ _ _ _) (length-worked _ _ _)

  plate-worked :
      (let d = dimensions_of column face W in
      bending_by d.plate d.pair (rows_in i j) (length_by d.plate_lengths.circular (plate_side_by d i) (rise face i j)))
      ≡ end_plate_bending column face W i j
  unfolding dimensions_of end_plate_bending
  plate-worked =
      bending-worked _ _ _ _ _ _ _
      ∙ ap (bending _ _ _ _ _ _) (length_either (eqb i face.extended) _ _ _ _)

  pub limit_worked : limits_by (dimensions_of column face W) face.levers i j ≡ group_limit column face W i j
  unfolding limit_by plate_by webs_by dimensions_of group_limit end_plate_limits beam_web_limits column_web_tension
  limit_worked =
      let d = dimensions_of column face W in
      let above = ltb i face.extended in
      let alone = eqb (rows_in i j) 1 in
      let below = ltb face.extended i in
      let web = web_worked face.layout.gauge (rise face i j) in
      webs_counted below _ d.web_length (rise face i j) _ _
      ∙ (λ t. counted above alone below (column_worked t) d.extension_limit (plate-worked t)
      (web column.web (steel_strength column.grade column.flange) t)
      (web face.beam.web (steel_strength face.beam.grade face.beam.flange) t))
      ∙ extension_counts face.extended i (extension_bending face W) above refl alone below _ _ _ _
      ∙ in_order above alone below _ _ _ _ _

-- The figures of a face as measured are the definitions'.
module _ (column : Column) (face : Face) (spacing : Spacing) (steel : SteelStrengths) (W : ℕ) (m : FiguresGiven column face spacing steel W)
    (edge : ℕ) (both : edge ≡ min spacing.column_edge spacing.plate_edge) where
  pub column_stub : stub_of spacing.column (min edge (5 * spacing.column / 4)) column.flange steel.column W
      ≡ (dimensions_of column face W).column
  unfolding dimensions_of
  column_stub = rw (both, m.distances, m.strengths)

  pub plate_stub : stub_of spacing.plate (min edge (5 * spacing.plate / 4)) face.plate.thickness steel.plate W
      ≡ (dimensions_of column face W).plate
  unfolding dimensions_of
  plate_stub = rw (both, m.distances, m.strengths)

-- the extension row's limit, from its stub and its length
module _ (face : Face) (mx e yp W : ℕ) (x : ExtensionFigures face mx e yp W) where
  pub extension_worked : (length limit : ℕ) (stub : Stub) → stub ≡ stub_of mx (min (10 * face.layout.edge) (5 * mx / 4)) face.plate.thickness yp W
      → length ≡ extension_length mx face.layout.edge e face.layout.gauge face.plate.width
      → limit ≡ bending_by stub W 1 length → limit ≡ extension_bending face W
  unfolding extension_bending
  extension_worked length limit stub es el limit_is =
      rw (limit_is, es, el, x.distance, x.edge, x.strength)
      (bending-worked _ _ _ _ _ _ _)

-- A limit is at most the bolts' own.
module _ (d : Dimensions) (i k s : ℕ) where
  webs_le : (limit : ℕ) → webs_by d i s limit ≤ limit
  unfolding webs_by
  webs_le limit = min-le_left _ _

  plate_le : (limit : ℕ) → plate_by d i k s limit ≤ limit
  unfolding plate_by
  plate_le limit = cond_le (ltb i d.first) _ _ limit (cond_le (eqb k 1) _ _ limit (min-le_left _ _) (le_refl limit)) (min-le_left _ _)

  limit_le : limit_by d i k s ≤ k * d.pair
  unfolding limit_by column_by bending_by
  limit_le = le_trans (webs_le _) (le_trans (plate_le _) (min-le_right _ _))

  limit_small : DimensionsWithin d → k ≤ row_counts.high → limit_by d i k s ≤ most_group_limit
  limit_small w few = le_trans limit_le (mul-le-mul few w.pair.high)

-- A group's limit by the levers from its row on, and that Allocate takes it.
module _ (d : Dimensions) (levers : List ℕ) (row k : ℕ) where
  pub own_limit : limit_by d row (k + 1) (get_or (drop row levers) 0 0 - get_or (drop row levers) k 0) ≡ limits_by d levers row (row + k)
  own_limit =
      let rows : k + 1 ≡ suc (row + k) - row = omega arith in
      let first : get_or (drop row levers) 0 0 ≡ get_or levers row 0 = get_or-drop row levers 0 0 ∙ ap (λ p. get_or levers p 0) (add-zero row) in
      λ i. limit_by d row (rows i) (first i - get_or-drop row levers k 0 i)

  pub own_limit_small : DimensionsWithin d → row + k < row_counts.high → limits_by d levers row (row + k) ≤ most_limit
  own_limit_small w few = le_trans (limit_small d row _ _ w (omega (arith, few))) (lit≤ tt)
