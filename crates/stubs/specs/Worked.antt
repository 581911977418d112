-- A T-stub's bending and a web's tension from figures that are the same for every group: each is a factor of those of `Bending` and `Web`,
-- but for reach and prying moment, which only tell modes 1 and 2 apart. proofs/Same.antt has the laws that they come out as those say. Assumes
-- nothing.
use Rattle.std.specs.Prelude.{ℕ, ◌+◌, ◌*◌, ◌/◌, min}
use Rattle.stubs.specs.declared.Stub.{Stub}
use Rattle.stubs.specs.declared.Lengths.{Lengths}

abbrev pub stub_of : (m n t y W : ℕ) → Stub
stub_of m n t y W =
    record {
      flexure = t * t * y;
      yielding = 100 * m;
      prying = 200 * n * W;
      breaking = 200 * (m + n);
      reach = m + 2 * n;
      prying_moment = 200 * n * W * m;
    }

abbrev pub lengths_of : (m e : ℕ) → Lengths
lengths_of m e = record { circular = 6283 * m / 1000; side = 4 * m + 5 * e / 4 }

-- the effective length of a group: the smaller of two patterns, with the rise s
abbrev pub length_by : (circular side s : ℕ) → ℕ
length_by circular side s = min (circular + 20 * s) (side + 10 * s)

-- the least of the three modes, for k rows and an effective length L
unfoldable pub bending_by : Stub → (W k L : ℕ) → ℕ
bending_by stub W k L =
    min (min (L * stub.flexure / stub.yielding) ((L * stub.flexure + k * stub.prying) / stub.breaking)) (k * W)

abbrev pub web_by : (web_length s web : ℕ) → ℕ
web_by web_length s web = (web_length + 100 * s) * web / 10000
