-- A file put into a buffer: how long it may be, what is refused for want of room, and what is written where there is room. Assumes nothing.
use Prim.Native.Nat.{ℕ, ◌+◌, ◌-◌, ◌*◌, ◌≤◌, ◌<◌}
use mathlib.Core.Path.{◌≡◌, sym, ap, ◌∙◌}
use mathlib.Core.Bool.{true, false}
use mathlib.Core.List.{List, [], ◌∷◌}
use native.Mathlib.Omega.{arith}
use borrow.Author.Tests.{leb-true, le-leb}
use lib.Dec.{leb}
use lib.ListN.{length, get_or, take, length-append, length-take}
use Rattle.arithmetic.specs.Checks.{first_failing}
use Rattle.arithmetic.proofs.Checks.{fails}
use Rattle.joint.specs.Faces.{two_faced, first_rows}
use Rattle.joint.specs.declared.Joint.{Joint}
use Rattle.joint.proofs.Faces.{count_most}
use Rattle.buffers.specs.Put.{at_front}
use Rattle.buffers.specs.Writing.{Puts, HasRoom}
use Rattle.buffers.specs.declared.Writer.{Writer}
use Rattle.buffers.proofs.Puts.{sets_front}
use Rattle.numbers.specs.Number.{stored}
use Rattle.numbers.specs.Run.{stored_all}
use Rattle.numbers.proofs.Codec.{groups_last}
use Rattle.numbers.proofs.Sizes.{stored_all_short}
use Rattle.fields.specs.Fields.{fields_of, own_of, own_count}
use Rattle.jointfile.specs.Write.{first_fields, second_fields, part_of, file, wrote, turned_down, rows_check}
use Rattle.jointfile.specs.Answers.{part_stored, numbers_stored, FileParts, writing_if_room}
use Rattle.jointfile.specs.declared.FileKind.TheVariants.{New}
use Rattle.jointfile.proofs.Faces.{first_rows_few}

-- a number below 128 takes one byte, and no number more than five
first_short : (xs : List ℕ) → get_or xs 0 0 < 128 → length (stored_all xs) ≤ 1 + 5 * (length xs - 1)
unfolding stored_all
first_short [] low = omega arith
first_short (x ∷ xs) low =
    let one : length (stored x) ≡ 1 = rw (groups_last 4 x low) in
    rw length-append (omega (arith, stored_all_short xs))

-- the bytes of a file are those of its four lists
pub numbers_size : (fields levers own other_levers : List ℕ)
    → length (stored_all fields) + length (stored_all levers) + length (stored_all own) + length (stored_all other_levers)
    ≡ length (numbers_stored fields levers own other_levers)
numbers_size fields levers own other_levers =
    omega (
      arith,
      length-append (part_stored fields levers) (part_stored own other_levers),
      length-append (stored_all fields) (stored_all levers),
      length-append (stored_all own) (stored_all other_levers),
    )

pub numbers_fit : (fields levers own other_levers : List ℕ) (room : ℕ) → FileParts fields levers own other_levers
    → 1 + 5 * (length fields - 1 + length levers + length own + length other_levers) ≤ room
    → true ≡ leb (length (numbers_stored fields levers own other_levers)) room
numbers_fit fields levers own other_levers room parts wide =
    sym (le-leb _ room
    (omega (
      arith,
      numbers_size fields levers own other_levers,
      first_short fields parts.count,
      stored_all_short levers,
      stored_all_short own,
      stored_all_short other_levers,
    )))

pub short_of_room : (bytes buffer : List ℕ) → leb (length bytes) (length buffer) ≡ false → turned_down buffer 5 ≡ writing_if_room bytes buffer
unfolding writing_if_room
short_of_room bytes buffer short = sym (fails (wrote buffer bytes) (turned_down buffer) 5 _ [] short)

-- bytes that a writer puts from the front on, where there is room for them
module _ (bytes : List ℕ) {buffer : List ℕ} (begun : Writer) (lent : begun.buffer.now ≡ buffer) (front : begun.at ≡ 0)
    (room : leb (length bytes) (length buffer) ≡ true) where
  pub writer_room : HasRoom begun (length bytes)
  writer_room = omega (arith, front, ap length lent, leb-true (length bytes) (length buffer) room)

  pub put_in_room : {exit : List ℕ} (after : Writer) → Puts begun bytes after → exit ≡ after.buffer.now
      → record { refusal = 0; size = after.at; buffer = exit } ≡ writing_if_room bytes buffer
  unfolding writing_if_room first_failing
  put_in_room {exit} after puts last =
      let fits = leb-true (length bytes) (length buffer) room in
      let size : after.at ≡ length bytes = omega (arith, puts.put.place, front) in
      let whole : exit ≡ at_front bytes buffer = last ∙ puts.put.stores ∙ rw (lent, front) (sets_front bytes buffer fits) in
      simp room (λ i. record { refusal = 0; size = size i; buffer = whole i })

-- ---- the file of a joint is these numbers: fields and levers of the first face, and those of the second where there is one

pub own_count_lem : (joint : Joint) → length (second_fields joint) ≤ own_count
unfolding fields_of own_of
own_count_lem joint = omega arith

module _ (joint : Joint) {fields levers : List ℕ} {rows : ℕ} (numbers : fields ≡ first_fields joint) (arms : levers ≡ joint.face.levers)
    (by : rows ≡ first_rows joint.face.rows) where
  pub file_alone : two_faced joint.face.rows ≡ false → numbers_stored fields (take rows levers) [] [] ≡ file New joint
  unfolding file part_of stored_all fields_of
  file_alone one = rw (one, numbers, arms, by)

  module _ {own other_levers : List ℕ} (numbers' : own ≡ second_fields joint) (arms' : other_levers ≡ joint.other.levers) where
    pub file_both : two_faced joint.face.rows ≡ true
        → numbers_stored fields (take rows levers) own (take joint.other.rows other_levers) ≡ file New joint
    unfolding file part_of fields_of
    file_both two = rw (two, numbers, arms, by, numbers', arms')

  -- and they are no more than a file has
  module _ (right : (rows_check joint).1 ≡ true) where
    pub first_counts : (own other_levers : List ℕ) → length own ≤ own_count → length other_levers ≤ 8 → FileParts fields (take rows levers) own other_levers
    unfolding fields_of
    first_counts own other_levers own_few other_rows =
        let few = first_rows_few joint right in
        record {
          some = rw numbers (omega arith);
          few = rw numbers (omega arith);
          count = rw numbers (omega (arith, count_most joint.face.rows few));
          rows = omega (arith, length-take rows levers, by, few);
          own_few = own_few;
          other_rows = other_rows;
        }
