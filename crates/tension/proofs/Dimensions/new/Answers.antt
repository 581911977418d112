-- `Dimensions::new` meets its contract, figure by figure: what was measured is what the definitions say. Assumes nothing.
use mathlib.Core.Path.{◌∙◌}
use Prim.Native.Nat.{◌*◌, ◌/◌, ◌≤◌, min}
use native.Mathlib.Omega.{arith}
use Rattle.arithmetic.proofs.Bounds.{◌⊗◌, fits}
use Rattle.stubs.specs.InRange.{edge_distances}
use Rattle.stubs.specs.Worked.{lengths_of}
use Rattle.tension.specs.Dimensions.{dimensions_of}
use Rattle.tension.proofs.Sizes.{Sizes, sizes, column_parts, plate_parts, extension_figures}
use Rattle.tension.proofs.Worked.{column_stub, plate_stub}
use Rattle.tension.proofs.Dimensions.new.Goals as goal
use Rattle.tension.proofs.Dimensions.new.Goals.{After-min-edge}

sizes_at : (c : After-min-edge) → Sizes c.args.spacing c.args.steel
sizes_at c =
    sizes c.args.column.now c.args.face.now c.requires.0 c.args.spacing c.args.steel c.args.pair c.requires.1

-- n' is at most some edge distance
edge_most : (c : After-min-edge) → c.min-edge.result ≤ edge_distances.high
edge_most c = omega (arith, c.min-edge.ensures, (sizes_at c).column_edge.high, (sizes_at c).plate_edge.high)

pub new-requires : goal.new-requires
new-requires c =
    let here = goal.at.new-requires c in
    column_parts _ _ c.requires.0 _ _ _ c.requires.1 _ (edge_most here.After-min-edge)

pub new-requires-2 : goal.new-requires-2
new-requires-2 c =
    let here = goal.at.new-requires-2 c in
    plate_parts _ _ c.requires.0 _ _ _ c.requires.1 _ (edge_most here.After-min-edge)

pub overflow_mul-column_web : goal.overflow_mul-column_web
overflow_mul-column_web c =
    let here = goal.at.overflow_mul-column_web c in
    rw c.from.ensures (fits (c.requires.0.column.web ⊗ (sizes_at here.After-min-edge).strengths.column) tt)

pub overflow_mul-beam_web : goal.overflow_mul-beam_web
overflow_mul-beam_web c =
    let here = goal.at.overflow_mul-beam_web c in
    rw c.from-2.ensures (fits (c.requires.0.face.beam.web ⊗ (sizes_at here.After-min-edge).strengths.beam) tt)

pub extension_limit-requires : goal.extension_limit-requires
extension_limit-requires c = extension_figures _ _ c.requires.0 _ _ _ c.requires.1

pub returns : goal.returns
unfolding dimensions_of
returns c =
    let column = c.args.column.now in
    let face = c.args.face.now in
    let m = c.requires.1 in
    λ i. record {
      column = (c.new.ensures ∙ column_stub column face _ _ _ m _ c.min-edge.ensures) i;
      plate = (c.new-2.ensures ∙ plate_stub column face _ _ _ m _ c.min-edge.ensures) i;
      column_lengths = (c.new-3.ensures
          ∙ (λ t. lengths_of (m.distances t).column (m.distances t).column_edge)) i;
      plate_lengths = (c.new-4.ensures
          ∙ (λ t. lengths_of (m.distances t).plate (m.distances t).plate_edge)) i;
      near_flange = c.from-3.ensures i * (m.distances i).plate / 100;
      extension_limit = c.extension_limit.ensures i;
      web_length = 173 * c.from-4.ensures i;
      column_web = c.from.ensures i * (m.strengths i).column;
      lesser_web = (c.min.ensures ∙ (λ t. min (c.from.ensures t * (m.strengths t).column) (c.from-2.ensures t * (m.strengths t).beam))) i;
      pair = c.args.pair;
      first = face.extended;
    }
