-- How large the figures of a T-stub and a web are that the code is called with, and how a stub's go together: each bound by its name, and
-- what each function asks.
-- Assumes nothing.
use Rattle.std.specs.Prelude.{◌≡◌, ℕ, ◌+◌, ◌*◌, ◌/◌, ◌^◌, ◌≤◌, ◌<◌}
use Rattle.arithmetic.specs.Range.{Range, Within, ◌to◌}
use Rattle.joint.specs.Ranges.{row_counts, flanges, webs, plate_widths, gauges, edges, alphas, most_lever}
use Rattle.spacing.specs.Spacing.{least_distance, least_edge}
use Rattle.strength.specs.InRange.{yield_strengths, most_thickness, most_pair_tension}
use Rattle.stubs.specs.declared.Stub.{Stub}
use Rattle.stubs.specs.declared.Lengths.{Lengths}

-- the rows of a group, and its rise s, which is at most the greatest lever
abbrev pub group_rows : Range
group_rows = 0 to row_counts.high

abbrev pub rises : Range
rises = 0 to most_lever

-- m of the column flange and the plate: from refusal 13's least to half the gauge
abbrev pub bolt_distances : Range
bolt_distances = least_distance to 5 * gauges.high

-- mx: from the same to the greatest lever with the thickest flange
abbrev pub extension_distances : Range
extension_distances = least_distance to 5 * (2 * most_lever + flanges.high)

-- e: from refusal 13's least to half the width
abbrev pub edge_distances : Range
edge_distances = least_edge to 5 * plate_widths.high

-- no yield-line pattern of one row is longer: the longest is that with alpha
abbrev pub most_pattern : ℕ
most_pattern = alphas.high * bolt_distances.high / 100

-- and no effective length of a group, which has the rise as well
abbrev pub most_length : ℕ
most_length = most_pattern + 20 * rises.high

-- no 200n'Wm of the column flange or the plate is above this: n' is at most 5m÷4
abbrev pub most_prying_moment : ℕ
most_prying_moment = 200 * (5 * bolt_distances.high / 4) * most_pair_tension * bolt_distances.high

-- no 173g is above this, and no web's thickness times its strength
abbrev pub most_web_length : ℕ
most_web_length = 173 * gauges.high

abbrev pub most_web : ℕ
most_web = webs.high * yield_strengths.high

-- ---- what each function asks

-- of a T-stub's parts; n' is the lesser of the edge and 5m÷4
pub record StubParts (m edge t y W : ℕ) : Type 0 where
  pub distance : Within extension_distances m
  pub edge_most : edge ≤ edge_distances.high
  pub thickness : Within (0 to most_thickness) t
  pub strength : Within yield_strengths y
  pub pair : Within (0 to most_pair_tension) W

pub record PatternParts (circular side s : ℕ) : Type 0 where
  pub circular_most : circular ≤ most_pattern
  pub side_most : side ≤ most_pattern
  pub rise : Within rises s

pub record ExtensionParts (mx edge e g bp : ℕ) : Type 0 where
  pub distance : Within extension_distances mx
  pub edge_most : edge ≤ (edges 1).high
  pub plate_edge : Within edge_distances e
  pub gauge : Within gauges g
  pub width : Within plate_widths bp

pub record WebTensionParts (web_length s web : ℕ) : Type 0 where
  pub length_most : Within (0 to most_web_length) web_length
  pub rise : Within rises s
  pub web_most : Within (0 to most_web) web

-- ---- what comes of the parts

pub record StubWithin (stub : Stub) : Type 0 where
  pub flexure : Within (0 to most_thickness * most_thickness * yield_strengths.high) stub.flexure
  pub yielding : Within (100 * extension_distances.low to 100 * extension_distances.high) stub.yielding
  pub prying : Within (0 to 200 * edge_distances.high * most_pair_tension) stub.prying
  pub breaking : Within (200 * extension_distances.low to 200 * (extension_distances.high + edge_distances.high)) stub.breaking
  pub reach : Within (extension_distances.low to extension_distances.high + 2 * edge_distances.high) stub.reach
  pub prying_moment : Within (0 to 200 * edge_distances.high * most_pair_tension * extension_distances.high) stub.prying_moment
  -- 200(m + n') is 100m and 100(m + 2n'), and 100 times 200n'Wm is 200n'W times 100m
  pub breaking_is : stub.breaking ≡ stub.yielding + 100 * stub.reach
  pub prying_moment_is : 100 * stub.prying_moment ≡ stub.prying * stub.yielding

-- of the column flange or the plate, on which groups of up to eight rows pull
pub record GroupStubWithin (stub : Stub) : Type 0 where
  pub figures : StubWithin stub
  pub prying_moment_most : Within (0 to most_prying_moment) stub.prying_moment

pub record LengthsWithin (lengths : Lengths) : Type 0 where
  pub circular : Within (0 to most_pattern) lengths.circular
  pub side : Within (0 to most_pattern) lengths.side

-- and what bending asks of it
pub record BendingParts (s : Stub) (W k L : ℕ) : Type 0 where
  pub stub : StubWithin s
  pub pair : Within (0 to most_pair_tension) W
  pub rows : Within group_rows k
  pub length_most : Within (0 to most_length) L
  -- eight rows with an m as great as the extension row's would not fit; that row is always alone
  pub prying_moment_fits : k * s.prying_moment < 2 ^ 64
