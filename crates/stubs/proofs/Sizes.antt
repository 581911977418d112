-- How large a T-stub's figures and lengths are, from those of its parts. Assumes nothing.
use Prim.Native.Nat.{ℕ, ◌*◌, ◌/◌, ◌≤◌, min}
use native.Mathlib.Nat.{le_trans, min-le_left, min-le_right, mul_left_comm}
use native.Mathlib.Omega.{arith}
use Rattle.arithmetic.specs.Range.{Within, ◌to◌}
use Rattle.arithmetic.proofs.Bounds.{exactly, at_most, ◌⊗◌, ◌⊕◌, ◌⊘◌, loosen}
use Rattle.stubs.specs.Bending.{extension_length}
use Rattle.stubs.specs.Worked.{stub_of, lengths_of}
use Rattle.stubs.specs.InRange.{bolt_distances, edge_distances, most_pattern, StubParts, StubWithin, GroupStubWithin, LengthsWithin}

pub stub_within : (m edge t y W : ℕ) → StubParts m edge t y W → StubWithin (stub_of m (min edge (5 * m / 4)) t y W)
stub_within m edge t y W p =
    let n : Within (0 to edge_distances.high) (min edge (5 * m / 4)) = at_most (le_trans (min-le_left _ _) p.edge_most) in
    record {
      flexure = p.thickness ⊗ p.thickness ⊗ p.strength;
      yielding = exactly 100 ⊗ p.distance;
      prying = exactly 200 ⊗ n ⊗ p.pair;
      breaking = exactly 200 ⊗ (p.distance ⊕ n);
      reach = p.distance ⊕ exactly 2 ⊗ n;
      prying_moment = exactly 200 ⊗ n ⊗ p.pair ⊗ p.distance;
      breaking_is = omega arith;
      prying_moment_is = mul_left_comm 100 (200 * min edge (5 * m / 4) * W) m;
    }

-- one whose m is at most half the gauge
pub group_stub_within : (m edge t y W : ℕ) → Within bolt_distances m → StubParts m edge t y W
    → GroupStubWithin (stub_of m (min edge (5 * m / 4)) t y W)
group_stub_within m edge t y W near p =
    let n : Within (0 to 5 * bolt_distances.high / 4) (min edge (5 * m / 4))
    = at_most (le_trans (min-le_right edge _) (exactly 5 ⊗ near ⊘ 4).high) in
    record {
      figures = stub_within m edge t y W p;
      prying_moment_most = exactly 200 ⊗ n ⊗ p.pair ⊗ near;
    }

pub lengths_within : (m e : ℕ) → Within bolt_distances m → Within edge_distances e → LengthsWithin (lengths_of m e)
lengths_within m e wm we =
    record {
      circular = loosen (0 to most_pattern) (exactly 6283 ⊗ wm ⊘ 1000) tt;
      side = loosen (0 to most_pattern) (exactly 4 ⊗ wm ⊕ exactly 5 ⊗ we ⊘ 4) tt;
    }

-- the plate's width ends the extension row's length
pub extension_length_le : (mx edge e g bp : ℕ) → extension_length mx edge e g bp ≤ 5 * bp
unfolding extension_length
extension_length_le mx edge e g bp = min-le_right _ _
