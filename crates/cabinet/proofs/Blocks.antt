-- A block of a list written over, and its first element anew: every other block is as it was.
use Rattle.std.proofs.Common.{◌≡◌, ℕ, ◌+◌, ◌≤◌, List, ◌∷◌, ◌++◌, length, get_or, take, drop, set, ap, ◌∙◌, arith, rules}
use borrow.Rule.Slice.PartMut.{put_mid}
use Rattle.std.proofs.lemmas.List.{places, same_lists, length-take, length-drop, length-append, take_at, drop_at, drop-drop, set_at}

-- the m elements from place i on are those of ys
abbrev pub over : {A : Type 0} → List A → ℕ → ℕ → List A → List A
over xs i m ys = take i xs ++ (ys ++ drop (i + m) xs)

module _ {A : Type 0} (xs : List A) (i m : ℕ) (ys : List A) (room : i + m ≤ length xs) (long : length ys ≡ m) where
  pub over_length : length (over xs i m ys) ≡ length xs
  over_length = simp (length-append, length-take, length-drop) (omega arith)

  pub block_here : take m (drop i (over xs i m ys)) ≡ ys
  block_here = ap (take m) (drop_at (take i xs) (ys ++ drop (i + m) xs) i (simp length-take (omega arith))) ∙ take_at ys (drop (i + m) xs) m long

  pub block_before : (j n : ℕ) → j + n ≤ i → take n (drop j (over xs i m ys)) ≡ take n (drop j xs)
  block_before j n h = same_lists _ _ (search (rules, places)) (λ k d l. grind (arith, places))

  pub block_after : (j n : ℕ) → i + m ≤ j → take n (drop j (over xs i m ys)) ≡ take n (drop j xs)
  block_after j n h = same_lists _ _ (search (rules, places)) (λ k d l. grind (arith, places))

-- a block of a block is a block of the whole
pub over_over : {A : Type 0} (xs : List A) (a s i m : ℕ) (ys : List A) → a + s ≤ length xs → i + m ≤ s → length ys ≡ m → over xs a s (over (take s (drop a xs)) i m ys) ≡ over xs (a + i) m ys
over_over xs a s i m ys whole room long = same_lists _ _ (search (rules, places)) (λ k d l. grind (arith, places))

-- a block written, and its first element anew
module _ {A : Type 0} (xs : List A) (i m : ℕ) (ys : List A) where
  pub block_written : put_mid i m xs ys ≡ over xs i m ys
  block_written = ap (λ z. take i xs ++ (ys ++ z)) (drop-drop m i xs)

  -- a block is the longer one that begins an element before it, if that element is as it was
  pub block_longer : (d : A) → i + 1 + m ≤ length xs → length ys ≡ m → over xs (i + 1) m ys ≡ over xs i (m + 1) (get_or xs i d ∷ ys)
  block_longer d room long = same_lists _ _ (search (rules, places)) (λ k e l. grind (arith, places))

  pub first_written : i ≤ length xs → (d y : A) → set (over xs i m (d ∷ ys)) i y ≡ over xs i m (y ∷ ys)
  first_written h d y = set_at (take i xs) d (ys ++ drop (i + m) xs) y i (simp length-take (omega arith))
