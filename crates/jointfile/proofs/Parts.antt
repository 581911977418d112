-- The round trip of a face's part of a file, the first's or the second's: its bytes, with anything after them, read back to it and leave
-- exactly that; and bytes that were read are those of the part. Number by number from the codec. Assumes nothing.
use Prim.Native.Nat.{ℕ, zero, suc, ◌-◌, ◌^◌, ◌≤◌, ◌<◌}
use mathlib.Core.Path.{◌≡◌, refl, sym, ap₂, subst₂}
use mathlib.Core.List.{List, [], ◌∷◌, ◌++◌, append_assoc}
use mathlib.Core.Bool.{Bool, true, false, cond, and-eq-true_iff}
use mathlib.Core.Logic.{⊎_elim}
use native.Mathlib.Omega.{arith}
use borrow.Author.Tests.{eqb-true}
use lib.Dec.{eqb}
use lib.ListN.{length, get_or, take, drop, replicate, length-append, length-take, length-drop, length-replicate}
use lib.ListN.{take-append-drop, get_or-eq_default}
use lib.Seq.{get_or-take, length-take-le, take_at, drop_at}
use Rattle.arithmetic.specs.Range.{within}
use Rattle.arithmetic.proofs.Tests.{split}
use Rattle.joint.specs.Ranges.{row_counts}
use Rattle.joint.specs.Places.{eight_places}
use Rattle.joint.proofs.Faces.{at_most_eight}
use Rattle.numbers.specs.Run.{read_numbers, stored_all, all_zero}
use Rattle.numbers.specs.Parse.{got, refused, and_then}
use Rattle.numbers.specs.Number.{stored, read_number, Bytes}
use Rattle.numbers.proofs.Parsing.{then_got}
use Rattle.numbers.proofs.RunCodec.{read_stored_all, bytes_left, TakenAll, taken_all}
use Rattle.numbers.proofs.Codec.{read_stored, stored_read, number_small}
use Rattle.fields.specs.Fields.{field}
use Rattle.jointfile.specs.File.{Part, rows_by, read_others, read_part}
use Rattle.jointfile.specs.Write.{part_of}
use Rattle.jointfile.specs.Answers.{PartHeld}

-- ---- numbers of 32 bits

pub take_small : (n : ℕ) (xs : List ℕ) → ((k : ℕ) → get_or xs k 0 < 2 ^ 32) → (k : ℕ) → get_or (take n xs) k 0 < 2 ^ 32
take_small n xs small k =
    ⊎_elim (λ h. rw (get_or-take n xs k 0 h) (small k))
    (λ (h : n ≤ k). rw (get_or-eq_default (take n xs) 0 {n = k} (rw length-take (omega arith))) (omega arith))
    (split k n)

pub append_small : (xs ys : List ℕ) → ((k : ℕ) → get_or xs k 0 < 2 ^ 32) → ((k : ℕ) → get_or ys k 0 < 2 ^ 32)
    → (k : ℕ) → get_or (xs ++ ys) k 0 < 2 ^ 32
append_small [] ys small small' k = small' k
append_small (x ∷ xs) ys small small' zero = small 0
append_small (x ∷ xs) ys small small' (suc k) = append_small xs ys (λ i. small (suc i)) small' k

pub zeros_small : (n k : ℕ) → get_or (replicate n 0) k 0 < 2 ^ 32
zeros_small zero k = omega arith
zeros_small (suc n) zero = omega arith
zeros_small (suc n) (suc k) = zeros_small n k

-- ---- spare levers

zeros_zero : (n : ℕ) → all_zero (replicate n 0) ≡ true
unfolding all_zero
zeros_zero zero = refl
zeros_zero (suc n) = zeros_zero n

zeros : (xs : List ℕ) → all_zero xs ≡ true → replicate (length xs) 0 ≡ xs
unfolding all_zero
zeros [] e = refl
zeros (x ∷ xs) e =
    let both = (and-eq-true_iff (eqb x 0) (all_zero xs)).0 e in
    ap₂ (λ (y : ℕ) (ys : List ℕ). y ∷ ys) (sym (eqb-true x 0 both.0)) (zeros xs both.1)

-- the levers of the rows, with the spare ones
eight_levers : (rows : ℕ) (levers : List ℕ) → length levers ≡ 8 → rows ≤ 8 → all_zero (drop rows levers) ≡ true
    → eight_places (take rows levers) ≡ levers
unfolding eight_places
eight_levers rows levers long few spare =
    let count : 8 - length (take rows levers) ≡ length (drop rows levers) =
    simp (length-take, length-drop) (omega arith) in
    rw (count, zeros (drop rows levers) spare, take-append-drop)

-- ---- a part that can be held, whose rows are at most eight and whose spare levers are 0

-- the rows of a part by its fields, of which the count is the first
abbrev pub part_rows : (first : Bool) (fields : List ℕ) → ℕ
part_rows first fields = rows_by first (field 1 fields)

pub record PartRight (first : Bool) (fields levers : List ℕ) : Type 0 where
  pub held : PartHeld fields levers
  pub rows : within row_counts (part_rows first fields) ≡ true
  pub spare : all_zero (drop (part_rows first fields) levers) ≡ true

-- ---- what is written reads back

pub reads_part : (first : Bool) (others : ℕ) (fields levers left : List ℕ) → length fields ≡ suc others → PartRight first fields levers
    → read_part first others (part_of fields (part_rows first fields) levers ++ left) ≡ got (record { fields = fields; levers = levers }) left
unfolding read_part read_others part_of stored_all
reads_part first others [] levers left long right = absurd (omega arith)
reads_part first others (count ∷ numbers) levers left long right =
    let rows = rows_by first count in
    let held = right.held in
    let few : rows ≤ 8 = at_most_eight rows right.rows in
    let whole : length numbers ≡ others = omega arith in
    let each : length (take rows levers) ≡ rows = length-take-le rows levers (omega (arith, held.eight)) in
    let fields = read_stored_all numbers (λ k. held.fields (suc k)) (stored_all (take rows levers) ++ left) in
    let arms = read_stored_all (take rows levers) (take_small rows levers held.levers) left in
    rw (
      append_assoc (stored_all (count ∷ numbers)) (stored_all (take rows levers)) left,
      append_assoc (stored count) (stored_all numbers) (stored_all (take rows levers) ++ left),
      read_stored count (held.fields 0),
      right.rows,
      ← whole,
      fields,
      rw each at arms,
      eight_levers rows levers held.eight few right.spare,
    )

-- ---- what was read, written again

-- What a part that was read is: the bytes that were read are its own, as many fields as were asked for, and it is right.
pub record TookPart (first : Bool) (others : ℕ) (bytes fs hs left : List ℕ) : Type 0 where
  pub form : part_of fs (part_rows first fs) hs ++ left ≡ bytes
  pub long : length fs ≡ suc others
  pub right : PartRight first fs hs

module _ (first : Bool) (others count : ℕ) (numbers levers bytes bytes₁ bytes₂ left : List ℕ)
    (right : within row_counts (rows_by first count) ≡ true) (small : count < 2 ^ 32) (form : stored count ++ bytes₁ ≡ bytes)
    (taken : TakenAll bytes₁ others numbers bytes₂) (taken' : TakenAll bytes₂ (rows_by first count) levers left) where
  took : TookPart first others bytes (count ∷ numbers) (eight_places levers) left
  unfolding part_of stored_all eight_places
  took =
      let rows = rows_by first count in
      let few : rows ≤ 8 = at_most_eight rows right in
      let spares : List ℕ = replicate (8 - length levers) 0 in
      record {
        form =
            rw (
              take_at levers spares rows taken'.long,
              append_assoc (stored_all (count ∷ numbers)) (stored_all levers) left,
              append_assoc (stored count) (stored_all numbers) (stored_all levers ++ left),
              taken'.form,
              taken.form,
            )
            form;
        long = omega (arith, taken.long);
        right =
            record {
              held =
                  record {
                    eight = simp (length-append, length-replicate) (omega (arith, taken'.long));
                    fields = elim [ zero ↦ small | suc k ↦ taken.small k ];
                    levers = append_small levers spares taken'.small (zeros_small (8 - length levers));
                  };
              rows = right;
              spare = rw (drop_at levers spares rows taken'.long) (zeros_zero (8 - length levers));
            };
      }

-- the count was read, and then the rest
took_others : (first : Bool) (others : ℕ) (bytes : List ℕ) (count : ℕ) (bytes₁ : List ℕ) (part : Part) (left : List ℕ) → Bytes bytes
    → read_number bytes ≡ got count bytes₁ → within row_counts (rows_by first count) ≡ true
    → read_others others count (rows_by first count) bytes₁ ≡ got part left
    → TookPart first others bytes part.fields part.levers left
unfolding read_others
took_others first others bytes count bytes₁ part left all number right e =
    let rows = rows_by first count in
    let (numbers, bytes₂, read, e₁) =
    then_got (read_numbers others bytes₁)
    (λ numbers rest. and_then (read_numbers rows rest)
    (λ levers end. got (record { fields = count ∷ numbers; levers = eight_places levers }) end))
    part left e in
    let (levers, end, read', e₂) =
    then_got (read_numbers rows bytes₂) (λ levers end. got (record { fields = count ∷ numbers; levers = eight_places levers }) end)
    part left e₁ in
    let form = stored_read bytes count bytes₁ all number in
    let all₁ = bytes_left (stored count) bytes₁ bytes form all in
    let taken = taken_all others bytes₁ numbers bytes₂ all₁ read in
    let taken' = taken_all rows bytes₂ levers end (bytes_left (stored_all numbers) bytes₂ bytes₁ taken.form all₁) read' in
    let is : record { fields = count ∷ numbers; levers = eight_places levers } ≡ part = cc in
    let ends : end ≡ left = cc in
    subst₂ (λ (p : Part) (rest : List ℕ). TookPart first others bytes p.fields p.levers rest) is ends
    (took first others count numbers levers bytes bytes₁ bytes₂ end right (number_small bytes count bytes₁ all number) form taken taken')

pub took_part : (first : Bool) (others : ℕ) (bytes : List ℕ) (part : Part) (left : List ℕ) → Bytes bytes
    → read_part first others bytes ≡ got part left → TookPart first others bytes part.fields part.levers left
unfolding read_part
took_part first others bytes part left all e =
    let (count, bytes₁, number, e₁) =
    then_got (read_number bytes)
    (λ count rest. cond (within row_counts (rows_by first count)) (read_others others count (rows_by first count) rest) (refused 3))
    part left e in
    counted count bytes₁ number (within row_counts (rows_by first count)) refl e₁
  where
    counted : (count : ℕ) (bytes₁ : List ℕ) → read_number bytes ≡ got count bytes₁ → (t : Bool) → within row_counts (rows_by first count) ≡ t
        → cond t (read_others others count (rows_by first count) bytes₁) (refused 3) ≡ got part left
        → TookPart first others bytes part.fields part.levers left
    counted count bytes₁ number true right e₁ = took_others first others bytes count bytes₁ part left all number right e₁
    counted count bytes₁ number false right e₁ = let z : ◌≡◌ {A = ℕ} 0 1 = cc in absurd (omega arith)
