-- A space of which a part from a place on was read into: its front is what it was, and then what was read. Assumes nothing.
use Rattle.std.proofs.Common.{ℕ, ◌+◌, ◌-◌, ◌≤◌, ◌≡◌, List, ◌++◌, length, take, drop, arith, sym, ap, ◌∙◌}
use Rattle.std.proofs.lemmas.List.{take-append-drop, take_at}
use Rattle.std.proofs.lemmas.Grind.{common_steps}
use Rattle.std.specs.Prelude.{Option}
use Rattle.std.specs.Io.KnownBytes.{Consumes}
use Rattle.std.proofs.KnownBytes.{Consumes-trans}
use borrow.Rule.Slice.PartMut.{put_mid, post_of}

pub take_part : (from size count : ℕ) (space part : List ℕ) → from ≤ length space → count ≤ length part
    → take (from + count) (put_mid from size space part) ≡ take from space ++ take count part
take_part from size count space part inside most =
    let front = take from space ++ take count part in
    let left = drop count part ++ post_of from size space in
    let long : length front ≡ from + count = grind (arith, common_steps) in
    let cut : put_mid from size space part ≡ front ++ left =
    ap (λ (p : List ℕ). take from space ++ (p ++ post_of from size space)) (sym (take-append-drop count part)) ∙ grind (arith, common_steps) in
    ap (λ (l : List ℕ). take (from + count) l) cut ∙ take_at front left (from + count) long

-- so much was read before, and a read of so many bytes more into what was left of the space
pub read_on : (before between after : Option (List ℕ)) (from count : ℕ) (space part : List ℕ) → from ≤ length space
    → Consumes before between (take from space)
    → length part ≡ length space - from
    → count ≤ length part
    → Consumes between after (take count part)
    → (from + count ≤ length (put_mid from (length space - from) space part))
    × Consumes before after (take (from + count) (put_mid from (length space - from) space part))
read_on before between after from count space part inside first fills most second =
    let size = length space - from in
    let long : length (put_mid from size space part) ≡ length space = grind (arith, common_steps) in (
      omega (arith, long),
      rw (take_part from size count space part inside most)
          (Consumes-trans before between after (take from space) (take count part) first second),
    )
