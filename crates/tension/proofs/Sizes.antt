-- How large a face's figures are: from the fields' ranges and refusal 13, figure by figure as they are put together.
-- Assumes nothing.
use mathlib.Core.Path.{◌≡◌, refl}
use Prim.Native.Nat.{ℕ, zero, suc, ◌*◌, ◌≤◌, ◌<◌}
use native.Mathlib.Nat.{le_refl, le_trans, le-suc_iff, min-le_left}
use mathlib.Core.Logic.{⊎_elim}
use native.Mathlib.Omega.{arith}
use lib.ListN.{length, get_or, take}
use lib.Seq.{get_or-take}
use Rattle.arithmetic.specs.Range.{Within, ◌to◌}
use Rattle.arithmetic.proofs.Bounds.{exactly, at_most, ◌⊗◌, ◌⊘◌, loosen}
use Rattle.joint.specs.declared.Column.{Column}
use Rattle.joint.specs.declared.Face.{Face}
use Rattle.joint.proofs.InRange.{extended_most, edge_most, lever_most}
use Rattle.strength.specs.Steel.{steel_strength, steel_strengths}
use Rattle.strength.specs.InRange.{most_thickness, most_pair_tension, SteelInRange}
use Rattle.strength.specs.declared.SteelStrengths.{SteelStrengths}
use Rattle.strength.proofs.Ranges.{steel_range, steel_in_range}
use Rattle.spacing.specs.Spacing.{spacing_of}
use Rattle.spacing.specs.declared.Spacing.{Spacing}
use Rattle.stubs.specs.InRange.{bolt_distances, extension_distances, edge_distances, most_pattern, most_web_length, most_web, StubParts}
use Rattle.stubs.proofs.Sizes.{group_stub_within, lengths_within}
use Rattle.tension.specs.Dimensions.{dimensions_of}
use Rattle.tension.specs.InRange.{DimensionsWithin}
use Rattle.tension.specs.Admissible.{Admissible, FiguresGiven, ExtensionFigures, Levers}

-- The distances and strengths of a face that refusals 10, 11 and 13 let pass.
pub record Sizes (spacing : Spacing) (steel : SteelStrengths) : Type 0 where
  pub column : Within bolt_distances spacing.column
  pub plate : Within bolt_distances spacing.plate
  pub column_edge : Within edge_distances spacing.column_edge
  pub plate_edge : Within edge_distances spacing.plate_edge
  pub strengths : SteelInRange steel

module _ (column : Column) (face : Face) (a : Admissible column face) where
  -- no lever is above one over it, however far down
  pub levers_of : length (take face.rows face.levers) ≡ face.rows → Levers (take face.rows face.levers)
  levers_of long =
      let own = λ (k : ℕ) (h : k < face.rows). get_or-take face.rows face.levers k 0 h in
      record {
        rows = omega (arith, long, a.face.rows.high);
        fall = λ i j h inside.
            omega (arith, own i (omega (arith, long)), own j (omega (arith, long)), fall i j h (omega (arith, long)));
        high = λ i h. omega (arith, own i (omega (arith, long)), lever_most face a.face i);
      }
    where
      fall : (i j : ℕ) → i ≤ j → j < face.rows → get_or face.levers j 0 ≤ get_or face.levers i 0
      fall i zero h inside = let top : i ≡ 0 = omega arith in rw top (le_refl _)
      fall i (suc j) h inside =
          ⊎_elim
          (λ above. let step = a.falls j inside in omega (arith, fall i j above (omega arith)))
          (λ here. rw here (le_refl _))
          (le-suc_iff.0 h)

  own_sizes : Sizes (spacing_of column face) (steel_strengths column face.beam face.plate)
  own_sizes =
      let f = a.face in
      record {
        column = record { low = a.column_m; high = omega (arith, f.layout.gauge.high) };
        plate = record { low = a.plate_m; high = omega (arith, f.layout.gauge.high) };
        column_edge = record { low = a.column_edge; high = omega (arith, a.column.width.high) };
        plate_edge = record { low = a.plate_edge; high = omega (arith, f.plate.width.high) };
        strengths = steel_in_range column face.beam face.plate a.column f.beam f.plate;
      }

  module _ (spacing : Spacing) (steel : SteelStrengths) (W : ℕ) (m : FiguresGiven column face spacing steel W) where
    pub sizes : Sizes spacing steel
    sizes = rw (m.distances, m.strengths) own_sizes

    -- the parts of the column's stub and the plate's, n' at most some edge distance
    pub column_parts : (edge : ℕ) → edge ≤ edge_distances.high → StubParts spacing.column edge column.flange steel.column W
    column_parts edge h =
        record {
          distance = loosen extension_distances sizes.column tt;
          edge_most = h;
          thickness = loosen (0 to most_thickness) a.column.flange tt;
          strength = sizes.strengths.column;
          pair = m.pair;
        }

    pub plate_parts : (edge : ℕ) → edge ≤ edge_distances.high
        → StubParts spacing.plate edge face.plate.thickness steel.plate W
    plate_parts edge h =
        record {
          distance = loosen extension_distances sizes.plate tt;
          edge_most = h;
          thickness = loosen (0 to most_thickness) a.face.plate.thickness tt;
          strength = sizes.strengths.plate;
          pair = m.pair;
        }

    pub extension_figures : ExtensionFigures face spacing.extension spacing.plate_edge steel.plate W
    extension_figures =
        rw (m.distances, m.strengths)
        (record {
          face = a.face;
          distance = refl;
          distance_least = a.extension_m;
          edge = refl;
          edge_least = a.plate_edge;
          strength = refl;
          pair = m.pair;
        })

  pub dimensions_within : (W : ℕ) → Within (0 to most_pair_tension) W → DimensionsWithin (dimensions_of column face W)
  unfolding dimensions_of
  dimensions_within W pair =
      let own : FiguresGiven column face (spacing_of column face) (steel_strengths column face.beam face.plate) W
      = record { distances = refl; strengths = refl; pair = pair } in
      let s = own_sizes in
      let both = le_trans (min-le_left _ _) s.column_edge.high in
      let web : Within (0 to most_web) (column.web * steel_strength column.grade column.flange)
      = loosen (0 to most_web) (a.column.web ⊗ s.strengths.column) tt in
      record {
        column = group_stub_within _ _ _ _ _ s.column (column_parts _ _ _ own _ both);
        plate = group_stub_within _ _ _ _ _ s.plate (plate_parts _ _ _ own _ both);
        column_lengths = lengths_within _ _ s.column s.column_edge;
        plate_lengths = lengths_within _ _ s.plate s.plate_edge;
        near_flange = loosen (0 to most_pattern) (a.face.layout.alpha ⊗ s.plate ⊘ 100) tt;
        web_length = loosen (0 to most_web_length) (exactly 173 ⊗ a.face.layout.gauge) tt;
        column_web = web;
        lesser_web = at_most (le_trans (min-le_left _ _) web.high);
        pair = pair;
      }

-- The extension row's figures, where there is one.
module _ (face : Face) (mx e yp W : ℕ) (x : ExtensionFigures face mx e yp W) where
  module _ (extended : face.extended ≡ 0 → ⊥) where
    distance_range : Within extension_distances mx
    distance_range =
        record {
          low = x.distance_least (omega (arith, extended_most face x.face));
          high = omega (arith, x.distance, lever_most face x.face 0, x.face.beam.flange.high);
        }

    pub extension_parts : StubParts mx (10 * face.layout.edge) face.plate.thickness yp W
    extension_parts =
        record {
          distance = distance_range;
          edge_most = omega (arith, edge_most face x.face);
          thickness = loosen (0 to most_thickness) x.face.plate.thickness tt;
          strength = rw x.strength (steel_range _ _ x.face.plate.grade (omega (arith, x.face.plate.thickness.high)));
          pair = x.pair;
        }
