-- Items one after another: how long they are, and that one more joins those that were taken, with the space before it.
-- Assumes nothing.
use Prim.Native.Nat.{ℕ, ◌+◌, ◌*◌, ◌≤◌, ◌<◌}
use mathlib.Core.Path.{◌≡◌, refl, ap}
use mathlib.Core.List.{List, [], ◌∷◌, ◌++◌, map, append_assoc, append-nil}
use native.Mathlib.Omega.{arith}
use native.Mathlib.Numerals.{add-one}
use lib.ListN.{length, get_or, take, drop, length-append}
use lib.Seq.{take-suc, take_all}
use Rattle.std.proofs.lemmas.List.{drop_more}
use Rattle.items.specs.Digits.{decimal}
use Rattle.items.specs.Items.{spaced, letter}
use Rattle.items.proofs.Numerals.{decimal_short}

pub spaced-append : (xs ys : List (List ℕ)) → spaced (xs ++ ys) ≡ spaced xs ++ spaced ys
unfolding spaced
spaced-append [] ys = refl
spaced-append (x ∷ xs) ys = rw (spaced-append xs ys, append_assoc)

map-append : (f : ℕ → List ℕ) (xs ys : List ℕ) → map f (xs ++ ys) ≡ map f xs ++ map f ys
map-append f [] ys = refl
map-append f (x ∷ xs) ys = ap (λ (l : List (List ℕ)). f x ∷ l) (map-append f xs ys)

-- what each is written as, as items
abbrev pub items : (ℕ → List ℕ) → List ℕ → List ℕ
items f xs = spaced (map f xs)

pub items_append : (f : ℕ → List ℕ) (xs ys : List ℕ) → items f (xs ++ ys) ≡ items f xs ++ items f ys
items_append f xs ys = rw map-append (spaced-append (map f xs) (map f ys))

-- a number has at most twenty digits and its space
pub items_short : (numbers : List ℕ) → length (items decimal numbers) ≤ 21 * length numbers
unfolding spaced
items_short [] = omega arith
items_short (x ∷ xs) = rw length-append (omega (arith, decimal_short x, items_short xs))

-- a letter and its space are two bytes
pub letters_size : (letters : List ℕ) → length (items letter letters) ≡ 2 * length letters
unfolding spaced
letters_size [] = refl
letters_size (x ∷ xs) = omega (arith, letters_size xs)

-- one item more, and its space before it
items_more : (f : ℕ → List ℕ) (xs : List ℕ) (i : ℕ) → i < length xs
    → items f (take (i + 1) xs) ≡ items f (take i xs) ++ ((32 ∷ []) ++ f (get_or xs i 0))
unfolding spaced
items_more f xs i inside =
    rw (add-one, take-suc xs i 0 inside, items_append)
    (ap (λ (l : List ℕ). items f (take i xs) ++ (32 ∷ l)) (append-nil (f (get_or xs i 0))))

-- ---- whatever takes items: those passed are taken, and there is room for the others

pub record ItemsHead {Taker : Type 0} (takes : Taker → List ℕ → Taker → Type 0) (has_room : Taker → List ℕ → Type 0) (f : ℕ → List ℕ)
    (xs : List ℕ) (begun : Taker) (i : ℕ) (taker : Taker) : Type 0 where
  pub taken : takes begun (items f (take i xs)) taker
  pub room : has_room taker (items f (drop i xs))

module _ {Taker : Type 0} {takes : Taker → List ℕ → Taker → Type 0} {has_room : Taker → List ℕ → Type 0} {f : ℕ → List ℕ} {xs : List ℕ}
    {begun : Taker} {i : ℕ} {taker : Taker} (head : ItemsHead takes has_room f xs begun i taker) where
  -- room for the next item, its space before it, and those after it
  pub items_left : i < length xs → has_room taker ((32 ∷ []) ++ (f (get_or xs i 0) ++ items f (drop (i + 1) xs)))
  unfolding spaced
  items_left inside = rw (drop_more xs i 0 inside) at head.room

  pub items_next : ((a b c : Taker) (xs ys : List ℕ) → takes a xs b → takes b ys c → takes a (xs ++ ys) c)
      → ((a b : Taker) (xs ys : List ℕ) → takes a xs b → has_room a (xs ++ ys) → has_room b ys)
      → i < length xs → {between after : Taker} → takes taker (32 ∷ []) between → takes between (f (get_or xs i 0)) after
      → ItemsHead takes has_room f xs begun (i + 1) after
  items_next takes_both room_after inside space item =
      record {
        taken = rw (items_more f xs i inside) (takes_both _ _ _ _ _ head.taken (takes_both _ _ _ _ _ space item));
        room = room_after _ _ _ _ item (room_after _ _ _ _ space (items_left inside));
      }

  pub items_all : length xs ≤ i → takes begun (items f xs) taker
  items_all outside = rw (take_all i xs outside) at head.taken
