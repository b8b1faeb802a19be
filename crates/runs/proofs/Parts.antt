-- The books of a site as parts of the same length, one of which is put anew.
use Rattle.std.proofs.Common.{◌≡◌, ℕ, ◌+◌, ◌*◌, ◌≤◌, ◌≢◌, List, length, inl, inr, arith}
use Rattle.std.proofs.lemmas.List.{length-drop, length-take}
use Rattle.std.proofs.lemmas.Bool.{cases_order}
use Rattle.cabinet.proofs.Blocks.{block_before, block_after}
use Rattle.cabinet.proofs.Cuts.{parts_apart}
use Rattle.site.specs.States.{part, with_part}

module _ {A : Type 0} where
  pub part_long : (books : List A) (cap i : ℕ) → i * cap + cap ≤ length books → length (part books cap i) ≡ cap
  part_long books cap i fits = simp (length-take, length-drop) (omega arith)

  -- the other parts are as they were
  pub with_part_other : (books : List A) (cap i : ℕ) (b : List A) → i * cap + cap ≤ length books → length b ≡ cap
      → (c : ℕ) → c ≢ i → part (with_part books cap i b) cap c ≡ part books cap c
  with_part_other books cap i b fits long c other =
      elim (cases_order c i) [
        | inl e ↦ absurd (other e)
        | inr rest ↦ elim rest [
          | inl lt ↦ block_before books (i * cap) cap b fits long (c * cap) cap (parts_apart c i cap lt)
          | inr gt ↦ block_after books (i * cap) cap b fits long (c * cap) cap (parts_apart i c cap gt)
        ]
      ]
