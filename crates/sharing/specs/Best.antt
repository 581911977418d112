-- What it means that no other list of row forces does better: demand 3 for a table of limits (rule 7.2).
-- Assumes nothing.
use Rattle.std.specs.Prelude.{◌≡◌, ◌↔◌, Bool, true, false, ℕ, ◌≤◌, List, take}
use Rattle.sharing.specs.Groups.{Table, total}
use Rattle.sharing.specs.Sharing.{Competes, Falling, moment}

-- A test of moments that a larger moment passes whenever a smaller one does.
pub record Monotone (passes : ℕ → Bool) : Type 0 where
  pub larger : (small large : ℕ) → small ≤ large → passes small ≡ true → passes large ≡ true

pub record Best (limit : Table) (n : ℕ) (forces : List ℕ) : Type 0 where
  -- the list competes
  pub competes : Competes limit n forces
  -- for whatever list competes, the sum from the top row down to any row is at most this list's
  pub sums : (other : List ℕ) → Competes limit n other → (k : ℕ) → total (take k other) ≤ total (take k forces)
  -- that list's moment is at most this list's
  pub moments : (levers : List ℕ) → Falling levers n → (other : List ℕ) → Competes limit n other
      → moment levers other ≤ moment levers forces
  -- that list is this one exactly when their moments are equal
  pub same : (levers : List ℕ) → Falling levers n → (other : List ℕ) → Competes limit n other
      → (other ≡ forces) ↔ (moment levers other ≡ moment levers forces)
  -- this list fails a test exactly when every list that competes fails it
  pub fails : (levers : List ℕ) → Falling levers n → (passes : ℕ → Bool) → Monotone passes
      → (passes (moment levers forces) ≡ false)
      ↔ ((other : List ℕ) → Competes limit n other → passes (moment levers other) ≡ false)
