-- How far one limit moves what Allocate answers (rule 7.3): two calls, the second with the limit of one group raised.
-- Assumes nothing.
use Rattle.std.specs.Prelude.{◌≡◌, ℕ, ◌+◌, ◌≤◌, ◌<◌, List, get_or, set, take}
use Rattle.sharing.specs.Groups.{place_of}
use Rattle.sharing.specs.Raising.{Raise, MovesWithin}
use Rattle.allocation.specs.Allocation.{allocated}

-- The list of limits after the raise: every other number in it stays.
unfoldable pub raised_limits : Raise → ℕ → List ℕ → List ℕ
raised_limits raise n limits =
    let place = place_of n raise.first raise.last in
    set limits place (get_or limits place 0 + raise.newtons)

-- The raise is of a group of the n rows, and neither call refuses: the forces move within the raise.
abbrev pub AllocateMovesWithin : Raise → ℕ → List ℕ → Type 0
AllocateMovesWithin raise n limits =
    raise.first ≤ raise.last → raise.last < n
    → (allocated n limits).refusal ≡ 0 → (allocated n (raised_limits raise n limits)).refusal ≡ 0
    → MovesWithin raise n (take n (allocated n limits).forces) (take n (allocated n (raised_limits raise n limits)).forces)
