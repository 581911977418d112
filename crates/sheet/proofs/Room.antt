-- What `printer::sheet` says of an output that holds any sheet: all of it was printed, since what printing gives there is the whole sheet.
-- Assumes nothing.
use Prim.Native.Nat.{ℕ, ◌≤◌}
use mathlib.Core.Path.{◌≡◌, ap, ◌∙◌}
use mathlib.Core.List.{List}
use native.Mathlib.Omega.{arith}
use lib.ListN.{length, drop, length-append}
use Rattle.std.specs.Prelude.{Result, Ok, Err}
use Rattle.std.specs.Result.{result_unwrap_or}
use Rattle.numbers.specs.Number.{Bytes}
use Rattle.buffers.specs.Put.{at_front}
use Rattle.printer.specs.Sheet.{sheet_of}
use Rattle.printer.specs.Answers.{most_sheet, printing, printed_meaning}
use Rattle.printer.specs.declared.NoRoom.{NoRoom}
use Rattle.printer.proofs.Sizes.{sheet_whole}
use Rattle.sheet.specs.Whole.{Whole}

module _ (input output exit : List ℕ) (all : Bytes input) (room : most_sheet ≤ length output) where
  -- by what printing answered
  pub printed_whole : (printed : Result ℕ NoRoom) → printed_meaning printed exit ≡ printing (sheet_of input) output
      → Whole input output exit (result_unwrap_or printed 0)
  printed_whole (Ok size) means =
      let equal = means ∙ sheet_whole input output all room in
      let bytes : exit ≡ at_front (sheet_of input) output = cc in
      let long : size ≡ length (sheet_of input) = cc in
      let inside : size ≤ length exit =
      omega
      (arith, long, ap length bytes, length-append (sheet_of input) (drop (length (sheet_of input)) output)) in
      record { bytes = bytes; all = long; inside = inside }
  printed_whole (Err none) means =
      let equal = means ∙ sheet_whole input output all room in
      let z : ◌≡◌ {A = ℕ} 0 1 = cc in
      let never : ⊥ = omega arith in
      absurd never
