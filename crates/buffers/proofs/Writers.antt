-- The laws of bytes put by a writer one after another: two runs make one, and where all the bytes have room, so has each part. Each is
-- that of bytes put from places on. Assumes nothing.
use Rattle.std.proofs.Common.{ℕ, List, [], ◌++◌, length, refl, ◌∙◌}
use Rattle.buffers.specs.declared.Writer.{Writer}
use Rattle.buffers.specs.Writing.{Puts, HasRoom}
use Rattle.buffers.proofs.Puts.{put_both, put_none, room_first, room_after}

pub puts_both : {before between after : Writer} {xs ys : List ℕ} → Puts before xs between → Puts between ys after
    → Puts before (xs ++ ys) after
puts_both first second =
    record { same = second.same ∙ first.same; put = put_both first.put second.put }

pub puts_none : (writer : Writer) → Puts writer [] writer
puts_none writer = record { same = refl; put = put_none writer.buffer.now writer.at }

pub has_room_first : (writer : Writer) (xs ys : List ℕ) → HasRoom writer (length (xs ++ ys)) → HasRoom writer (length xs)
has_room_first writer xs ys room = room_first xs ys writer.at (length writer.buffer.now) room

pub has_room_after : {before after : Writer} {xs : List ℕ} (ys : List ℕ) → Puts before xs after → HasRoom before (length (xs ++ ys))
    → HasRoom after (length ys)
has_room_after ys puts room = room_after ys puts.put room
