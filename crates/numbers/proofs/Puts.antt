-- Putting stored forms: what is still to be put where each loop begins a turn, and that a turn carries it on or ends it.
-- Assumes nothing.
use Prim.Native.Nat.{ℕ, zero, suc, ◌+◌, ◌*◌, ◌/◌, ◌%◌, ◌^◌, ◌≤◌, ◌<◌}
use mathlib.Core.Path.{◌≡◌, refl, ap}
use mathlib.Core.List.{List, [], ◌∷◌, ◌++◌}
use mathlib.Core.Bool.{◌&&◌}
use lib.Dec.{eqb}
use native.Mathlib.Omega.{arith}
use native.Mathlib.Numerals.{add-one}
use native.Mathlib.Nat.{pow-suc}
use lib.ListN.{length, get_or, drop, drop_of_length-le}
use lib.Seq.{drop-cons}
use Rattle.std.specs.List.{list_all}
use Rattle.buffers.specs.declared.Writer.{Writer}
use Rattle.buffers.specs.Writing.{Puts, HasRoom}
use Rattle.buffers.proofs.Writers.{puts_both, puts_none, has_room_first, has_room_after}
use Rattle.numbers.specs.Number.{groups, stored}
use Rattle.numbers.specs.Run.{stored_all, all_zero}
use Rattle.numbers.proofs.Codec.{groups_last, groups_more}
use Rattle.numbers.proofs.Sizes.{groups_positive}

-- A number's groups are being put: `left` is what the groups still to be put hold, in one and at most `more` others.
pub record PutHead (begun : Writer) (x : ℕ) (writer : Writer) (left : ℕ) : Type 0 where
  pub more : ℕ
  pub small : left < 16 * 128 ^ more
  pub room : HasRoom writer (length (groups (suc more) left))
  pub ends : (after : Writer) → Puts writer (groups (suc more) left) after → Puts begun (stored x) after

pub put_none : (writer : Writer) (x : ℕ) → x < 2 ^ 32 → HasRoom writer (length (stored x)) → PutHead writer x writer x
put_none writer x small room = record { more = 4; small = small; room = room; ends = λ after puts. puts }

module _ {begun : Writer} {x : ℕ} {writer : Writer} {left : ℕ} (head : PutHead begun x writer left) where
  pub put_room : HasRoom writer 1
  put_room = omega (arith, head.room, groups_positive head.more left)

  pub put_last : {after : Writer} → left < 128 → Puts writer (left ∷ []) after → Puts begun (stored x) after
  put_last {after} last puts = head.ends after (rw (groups_last head.more left last) puts)

  pub put_more : {after : Writer} → 128 ≤ left → Puts writer ((128 + left % 128) ∷ []) after → PutHead begun x after (left / 128)
  put_more {after} follows puts = go head.more head.small head.room head.ends
    where
      go : (more : ℕ) → left < 16 * 128 ^ more → HasRoom writer (length (groups (suc more) left))
          → ((end : Writer) → Puts writer (groups (suc more) left) end → Puts begun (stored x) end)
          → PutHead begun x after (left / 128)
      go zero small room ends = absurd (omega arith)
      go (suc more) small room ends =
          let group = groups_more (suc more) left follows in
          let power : 128 ^ suc more ≡ 128 ^ more * 128 = pow-suc 128 more in
          record {
            more = more;
            small = omega arith;
            room = has_room_after (groups (suc more) (left / 128)) puts (rw group at room);
            ends = λ end others. ends end (rw group (puts_both puts others));
          }

-- ---- runs of numbers

-- the numbers from `i` on are one number and those after it
pub stored_next : (values : List ℕ) (i : ℕ) → i < length values
    → stored_all (drop i values) ≡ stored (get_or values i 0) ++ stored_all (drop (i + 1) values)
unfolding stored_all
stored_next values i inside = rw (add-one, drop-cons values i 0)

pub stored_end : (values : List ℕ) (i : ℕ) → length values ≤ i → stored_all (drop i values) ≡ []
unfolding stored_all
stored_end values i outside = rw (drop_of_length-le values outside)

-- The numbers from place `i` on are still to be put.
pub record PutsHead (begun : Writer) (values : List ℕ) (writer : Writer) (i : ℕ) : Type 0 where
  pub room : HasRoom writer (length (stored_all (drop i values)))
  pub ends : (after : Writer) → Puts writer (stored_all (drop i values)) after → Puts begun (stored_all values) after

pub puts_head_none : (writer : Writer) (values : List ℕ) → HasRoom writer (length (stored_all values)) → PutsHead writer values writer 0
puts_head_none writer values room = record { room = room; ends = λ after puts. puts }

module _ {begun : Writer} {values : List ℕ} {writer : Writer} {i : ℕ} (head : PutsHead begun values writer i) where
  pub puts_done : length values ≤ i → Puts begun (stored_all values) writer
  puts_done outside = head.ends writer (rw (stored_end values i outside) (puts_none writer))

  module _ (inside : i < length values) where
    number_and_others : stored_all (drop i values) ≡ stored (get_or values i 0) ++ stored_all (drop (i + 1) values)
    number_and_others = stored_next values i inside

    -- there is room for the next number
    pub puts_room : HasRoom writer (length (stored (get_or values i 0)))
    puts_room = has_room_first writer (stored (get_or values i 0)) (stored_all (drop (i + 1) values)) (rw number_and_others at head.room)

    pub puts_more : {after : Writer} → Puts writer (stored (get_or values i 0)) after → PutsHead begun values after (i + 1)
    puts_more puts =
        record {
          room = has_room_after (stored_all (drop (i + 1) values)) puts (rw number_and_others at head.room);
          ends = λ end others. head.ends end (rw number_and_others (puts_both puts others));
        }

-- ---- numbers that are all 0

pub all_by_each : (values : List ℕ) → list_all (λ x. eqb x 0) values ≡ all_zero values
unfolding all_zero
all_by_each [] = refl
all_by_each (x ∷ xs) = ap (λ t. eqb x 0 && t) (all_by_each xs)
