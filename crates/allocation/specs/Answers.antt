-- What the code answers for a list of limits, the forces or what it is refused for, and what of rules 10 that says. Assumes nothing.
use Rattle.std.specs.Prelude.{ℕ, List, replicate, Result, Ok, Err}
use Rattle.allocation.specs.Allocation.{Allocation}
use Rattle.allocation.specs.declared.LimitsRefusal.{LimitsRefusal}
use Rattle.allocation.specs.declared.LimitsRefusal.TheVariants.{RowCount, TooFewLimits, LimitTooLarge}

abbrev pub number_of : LimitsRefusal → ℕ
number_of RowCount = 3
number_of TooFewLimits = 7
number_of LimitTooLarge = 8

abbrev pub allocation_meaning : Result (List ℕ) LimitsRefusal → Allocation
allocation_meaning (Ok forces) = record { refusal = 0; forces = forces }
allocation_meaning (Err refusal) = record { refusal = number_of refusal; forces = replicate 8 0 }
