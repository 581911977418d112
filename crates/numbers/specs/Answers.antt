-- What the code's answers mean: the answer to reading a number, and to reading a run of numbers, at a place of the bytes; and what the list
-- that a run is read into holds afterwards, whether the run could be read or not. Assumes nothing.
use Rattle.std.specs.Prelude.{ℕ, zero, suc, ◌≤◌, ◌≡◌, Result, Ok, Err, List, [], ◌∷◌, length, drop}
use Rattle.buffers.specs.Put.{at_front}
use Rattle.numbers.specs.Parse.{Parse, got, refused}
use Rattle.numbers.specs.Number.{read_number}
use Rattle.numbers.specs.Run.{read_numbers}
use Rattle.numbers.specs.declared.number.Number.{Number}
use Rattle.numbers.specs.declared.number.NumberRefusal.{NumberRefusal}
use Rattle.numbers.specs.declared.number.NumberRefusal.TheVariants.{BytesEnd, WrongForm}

-- the number of each refusal
abbrev pub number_of : NumberRefusal → ℕ
number_of BytesEnd = 1
number_of WrongForm = 2

-- ---- a number

-- What an answer means: the value with the bytes from the next place on, or the refusal's number.
abbrev pub number_meaning : List ℕ → Result Number NumberRefusal → Parse ℕ
number_meaning bytes (Ok number) = got number.value (drop number.next bytes)
number_meaning bytes (Err r) = refused (number_of r)

-- the next place, where there is one
abbrev pub next_place : Result Number NumberRefusal → ℕ
next_place (Ok number) = number.next
next_place (Err r) = 0

-- The answer to reading a number at a place: it means what the definition gives there, and its next place lies in the bytes.
pub record NumberRead (bytes : List ℕ) (from : ℕ) (answer : Result Number NumberRefusal) : Type 0 where
  pub means : number_meaning bytes answer ≡ read_number (drop from bytes)
  pub within : next_place answer ≤ length bytes

-- ---- a run

-- What an answer means, where the numbers that were read stand in `values`.
abbrev pub run_meaning : List ℕ → List ℕ → Result ℕ NumberRefusal → Parse (List ℕ)
run_meaning bytes values (Ok next) = got values (drop next bytes)
run_meaning bytes values (Err r) = refused (number_of r)

-- the place after what was read
abbrev pub end_place : {E : Type 0} → Result ℕ E → ℕ
end_place (Ok next) = next
end_place (Err r) = 0

-- a number, and those that follow it; none where it can't be read
abbrev pub with_those : Parse ℕ → (List ℕ → List ℕ) → List ℕ
with_those (got x left) those = x ∷ those left
with_those (refused r) those = []

-- the numbers before the first that can't be read, at most so many
unfoldable pub readable : ℕ → List ℕ → List ℕ
readable zero bytes = []
readable (suc count) bytes = with_those (read_number bytes) (readable count)

-- The answer to filling a list, as it was at entry, with the numbers from a place on: it means what the definition gives there; from a
-- place in the bytes it goes to another; and whether all were read or not, those that can be read stand at the list's front.
pub record RunRead (bytes : List ℕ) (from : ℕ) (entry exit : List ℕ) (run : Result ℕ NumberRefusal) : Type 0 where
  pub means : run_meaning bytes exit run ≡ read_numbers (length entry) (drop from bytes)
  pub within : from ≤ length bytes → end_place run ≤ length bytes
  pub front : exit ≡ at_front (readable (length entry) (drop from bytes)) entry
