-- Sum, moment and pulling rows of one row more; and the bolts' total, by counting the rows of each kind.
-- Assumes nothing.
use mathlib.Core.Path.{◌≡◌, refl, sym, ap, ap₂, ◌∙◌}
use mathlib.Core.Bool.{Bool, true, false, cond}
use Prim.Native.Nat.{ℕ, suc, ◌+◌, ◌-◌, ◌*◌, ◌≤◌, ◌<◌}
use native.Mathlib.Nat.{add_assoc, zero-add, zero-mul, add-mul, one-mul, suc-mul, mul-le-mul}
use native.Mathlib.Numerals.{add-one}
use native.Mathlib.Omega.{arith}
use mathlib.Core.List.{List, [], ◌∷◌, ◌++◌, map}
use lib.ListN.{length, get_or, take}
use lib.Seq.{take-suc, length-take-le}
use lib.Dec.{eqb}
use Rattle.sharing.specs.Groups.{total, most_limit}
use Rattle.sharing.specs.Sharing.{moment}
use Rattle.sharing.proofs.Totals.{total_snoc}
use Rattle.verdicts.specs.Tally.{pulling_rows}
use Rattle.verdicts.specs.Bolts.{idle_pair, pulling_pair, bolt_total}
use Rattle.joint.specs.declared.Column.{Column}
use Rattle.joint.specs.declared.Plate.{Plate}
use Rattle.strength.specs.declared.BoltStrengths.{BoltStrengths}
use Rattle.joint.specs.Ranges.{most_lever}
use Rattle.verdicts.specs.Asked.{most_row_moment}

moment_snoc : (levers forces : List ℕ) (h f : ℕ) → length levers ≡ length forces
    → moment (levers ++ (h ∷ [])) (forces ++ (f ∷ [])) ≡ moment levers forces + f * h
unfolding moment
moment_snoc [] [] h f e = omega arith
moment_snoc [] (x ∷ xs) h f e = absurd (omega arith)
moment_snoc (l ∷ ls) [] h f e = absurd (omega arith)
moment_snoc (l ∷ ls) (x ∷ xs) h f e =
    ap (λ m. x * l + m) (moment_snoc ls xs h f (omega arith)) ∙ sym (add_assoc (x * l) _ _)

pulling_snoc : (forces : List ℕ) (f : ℕ) → pulling_rows (forces ++ (f ∷ [])) ≡ pulling_rows forces + cond (eqb f 0) 0 1
unfolding pulling_rows
pulling_snoc [] f = omega arith
pulling_snoc (x ∷ xs) f = ap (λ m. cond (eqb x 0) 0 1 + m) (pulling_snoc xs f) ∙ sym (add_assoc _ _ _)

-- How things stand when so many rows are counted.
pub record Counted (levers forces : List ℕ) (sum z pulling row : ℕ) : Type 0 where
  pub sums : sum ≡ total (take row forces)
  pub moments : z ≡ moment (take row levers) (take row forces)
  pub pulls : pulling ≡ pulling_rows (take row forces)
  pub sum_le : sum ≤ most_limit * row
  pub moment_le : z ≤ most_row_moment * row
  pub pulling_le : pulling ≤ row

pub start : (levers forces : List ℕ) → Counted levers forces 0 0 0 0
unfolding moment pulling_rows
start levers forces =
    record { sums = refl; moments = refl; pulls = refl; sum_le = omega arith; moment_le = omega arith; pulling_le = omega arith }

pub either_le : (test : Bool) → cond test 0 1 ≤ 1
either_le true = omega arith
either_le false = omega arith

-- a row's force times its lever
pub row_moment_le : (force lever : ℕ) → force ≤ most_limit → lever ≤ most_lever → force * lever ≤ most_row_moment
row_moment_le force lever small low = mul-le-mul {n₁ = force} {m₁ = lever} {n₂ = most_limit} {m₂ = most_lever} small low

-- the next row's force and lever
pub record Next (levers forces : List ℕ) (row force lever : ℕ) : Type 0 where
  pub lever_inside : row < length levers
  pub force_inside : row < length forces
  pub force_is : force ≡ get_or forces row 0
  pub lever_is : lever ≡ get_or levers row 0
  pub force_most : force ≤ most_limit
  pub lever_most : lever ≤ most_lever

pub one_more : (levers forces : List ℕ) (sum z pulling row force lever : ℕ) → Next levers forces row force lever
    → (has : ℕ) → has ≡ cond (eqb force 0) 0 1 → Counted levers forces sum z pulling row
    → Counted levers forces (sum + force) (z + force * lever) (pulling + has) (row + 1)
one_more levers forces sum z pulling row force lever r has eh c =
    let one : row + 1 ≡ suc row = add-one row in
    let ls : take (suc row) levers ≡ take row levers ++ (lever ∷ []) = rw r.lever_is (take-suc levers row 0 r.lever_inside) in
    let fs : take (suc row) forces ≡ take row forces ++ (force ∷ []) = rw r.force_is (take-suc forces row 0 r.force_inside) in
    let levers_inside = r.lever_inside in
    let forces_inside = r.force_inside in
    let same : length (take row levers) ≡ length (take row forces)
    = length-take-le row levers (omega arith) ∙ sym (length-take-le row forces (omega arith)) in
    let product = row_moment_le force lever r.force_most r.lever_most in
    rw one
    (record {
      sums = ap (λ s. s + force) c.sums ∙ sym (total_snoc (take row forces) force) ∙ ap total (sym fs);
      moments = ap (λ m. m + force * lever) c.moments ∙ sym (moment_snoc _ _ lever force same) ∙ ap₂ moment (sym ls) (sym fs);
      pulls = ap₂ (λ p q. p + q) c.pulls eh ∙ sym (pulling_snoc (take row forces) force) ∙ ap pulling_rows (sym fs);
      sum_le = omega (arith, c.sum_le, r.force_most);
      moment_le = omega (arith, c.moment_le);
      pulling_le = omega (arith, c.pulling_le, eh, either_le (eqb force 0));
    })

pub pulling_le_length : (forces : List ℕ) → pulling_rows forces ≤ length forces
unfolding pulling_rows
pulling_le_length [] = omega arith
pulling_le_length (x ∷ xs) = omega (arith, either_le (eqb x 0), pulling_le_length xs)

-- counting each row's pair is counting the pulling pairs and the idle ones
by_kind : (idle pulling : ℕ) (forces : List ℕ)
    → total (map (λ f. cond (eqb f 0) idle pulling) forces) ≡ pulling_rows forces * pulling + (length forces - pulling_rows forces) * idle
unfolding pulling_rows
by_kind idle pulling [] = omega (arith, zero-mul pulling, zero-mul idle)
by_kind idle pulling (x ∷ xs) = one (eqb x 0) (by_kind idle pulling xs) (pulling_le_length xs)
  where
    one : (none : Bool)
        → total (map (λ f. cond (eqb f 0) idle pulling) xs) ≡ pulling_rows xs * pulling + (length xs - pulling_rows xs) * idle
        → pulling_rows xs ≤ length xs
        → cond none idle pulling + total (map (λ f. cond (eqb f 0) idle pulling) xs)
        ≡ (cond none 0 1 + pulling_rows xs) * pulling + (suc (length xs) - (cond none 0 1 + pulling_rows xs)) * idle
    one true rest le =
        let k : suc (length xs) - (0 + pulling_rows xs) ≡ suc (length xs - pulling_rows xs) = omega arith in
        rw (k, zero-add, suc-mul (length xs - pulling_rows xs) idle) (omega arith)
    one false rest le =
        let k : suc (length xs) - (1 + pulling_rows xs) ≡ length xs - pulling_rows xs = omega arith in
        rw (k, add-mul 1 (pulling_rows xs) pulling, one-mul) (omega arith)

-- the bolts' total of a list of forces
pub total_by_kind : (bolt : BoltStrengths) (column : Column) (plate : Plate) (shear_rows : ℕ) (forces : List ℕ)
    → pulling_rows forces * pulling_pair bolt column plate + (length forces - pulling_rows forces + shear_rows) * idle_pair bolt column plate
    ≡ bolt_total bolt column plate shear_rows forces
unfolding bolt_total
total_by_kind bolt column plate shear_rows forces =
    rw (
      by_kind (idle_pair bolt column plate) (pulling_pair bolt column plate) forces,
      add-mul (length forces - pulling_rows forces) shear_rows (idle_pair bolt column plate),
    ) (omega arith)

-- the first rows of a list, one by one; a row that it lacks is 0
pub top_two : (forces : List ℕ) → get_or forces 0 0 + get_or forces 1 0 ≡ total (take 2 forces)
top_two [] = refl
top_two (x ∷ []) = refl
top_two (x ∷ y ∷ forces) = omega arith

pub top_three : (forces : List ℕ) → get_or forces 0 0 + get_or forces 1 0 + get_or forces 2 0 ≡ total (take 3 forces)
top_three [] = refl
top_three (x ∷ []) = omega arith
top_three (x ∷ y ∷ []) = omega arith
top_three (x ∷ y ∷ z ∷ forces) = omega arith
