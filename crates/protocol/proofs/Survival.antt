-- What is confirmed is in every later opening book, and what is lost is in none.
use Rattle.std.proofs.Common.{◌≡◌, ℕ, ◌≤◌, ◌<◌, ◌≢◌, ◌⊎◌, sym, ap, ◌∙◌, inl, inr, arith}
use Rattle.std.proofs.lemmas.Bool.{cases_lt}
use Rattle.protocol.specs.Model.{Entry, Replica, View, Site}
use Rattle.protocol.specs.Guarantee.{Keeps}
use Rattle.protocol.proofs.Majorities.{majorities_meet}
use Rattle.protocol.proofs.Invariant.{Carries, ConfirmedOk, Invariant, LookupOk, LostOk, MajorityHad, Opened, OpeningOk, Safe, SafeTo}

module _ {E : Type 0} (n : ℕ) (s : Site E) (inv : Invariant n s) where
  abbrev R : ℕ → Replica E
  R = s.replicas

  abbrev W : ℕ → View E
  W = s.views

  -- a book that is safe for w, where a majority was past the length k, carries w up to k
  carries : (w k l : ℕ) (f : ℕ → Entry E) → MajorityHad n R w k → Safe n R W w l f → Carries (W w) w k l f
  carries w k l f most h = go (h k)
    where
      go : SafeTo n R W w k l f → Carries (W w) w k l f
      go (inl g) = g
      go (inr b) =
          let m = majorities_meet most.who b.who n most.most b.most in
          absurd (omega (arith, most.had m.who m.below m.left, (b.left m.who m.below m.right).1))

  -- what is confirmed in w is in the opening book of a later v
  pub confirmed_kept : (w k : ℕ) (f : ℕ → Entry E) (v : ℕ) → ConfirmedOk n R W w k f → Opened (W v) → w < v → Keeps k f (W v).opening_length (W v).opening_book
  confirmed_kept w k f v c o h =
      let g = carries w k (W v).opening_length (W v).opening_book c.most ((inv.view_ok v).safe o w h) in
      (g.in_book, λ j a. g.begins.same j a ∙ sym (c.begins.same j a))

  -- what is lost in w is not in the opening book of a later v
  lost_gone : (w z k v : ℕ) → LostOk n R W w z k → Opened (W v) → w < v → k < (W v).opening_length → ((W v).opening_book k).view ≢ z
  lost_gone w z k v c o h a e = go (carries w (W w).opening_length (W v).opening_length (W v).opening_book past ((inv.view_ok v).safe o w h)) (cases_lt k (W w).opening_length)
    where
      past : MajorityHad n R w (W w).opening_length
      past = record { who = c.most.who; most = c.most.most; had = λ d b q. ((inv.replica_ok d).held.floors w (c.most.had d b q)).above }

      go : Carries (W w) w (W w).opening_length (W v).opening_length (W v).opening_book → (k < (W w).opening_length) ⊎ ((W w).opening_length ≤ k) → ⊥
      go g (inl b) = c.clear (omega (arith, g.begins.within)) (ap (λ x. x.view) (sym (g.begins.same k b)) ∙ e)
      go g (inr b) = omega (arith, g.late k b a, c.later)

  -- nor in the log of w or of a later v
  lost_not_in_log : (w z k v : ℕ) → LostOk n R W w z k → Opened (W v) → w ≤ v → k < (W v).log_length → ((W v).log k).view ≢ z
  lost_not_in_log w z k v c o h a e = go (cases_lt w v)
    where
      after : w < v → (k < (W v).opening_length) ⊎ ((W v).opening_length ≤ k) → ⊥
      after l (inl b) = lost_gone w z k v c o l b (ap (λ x. x.view) (sym (((inv.view_ok v).log o).begins k b)) ∙ e)
      after l (inr b) = omega (arith, ((inv.view_ok v).log o).stamps k b a, c.later)

      go : (w < v) ⊎ (v ≤ w) → ⊥
      go (inl l) = after l (cases_lt k (W v).opening_length)
      go (inr l) =
          let q : v ≡ w = omega arith in
          c.clear (omega (arith, ap (λ x. (W x).log_length) q)) (ap (λ x. ((W x).log k).view) (sym q) ∙ e)

  -- nothing is both confirmed and lost
  pub not_both : (w z k v m : ℕ) (f : ℕ → Entry E) → LostOk n R W w z k → ConfirmedOk n R W v m f → k < m → (f k).view ≢ z
  not_both w z k v m f c d a e = go (cases_lt v w)
    where
      before : v < w → ⊥
      before h =
          let t = confirmed_kept v m f w d c.opens h in
          let b : k < (W w).opening_length = omega (arith, t.0) in
          let log = (inv.view_ok w).log c.opens in
          c.clear (omega (arith, log.fits)) (ap (λ x. x.view) (log.begins k b ∙ t.1 k a) ∙ e)

      go : (v < w) ⊎ (w ≤ v) → ⊥
      go (inl h) = before h
      go (inr h) = lost_not_in_log w z k v c d.begins.opens h (omega (arith, d.begins.within)) (ap (λ x. x.view) (sym (d.begins.same k a)) ∙ e)

  pub in_openings : (w k : ℕ) (f : ℕ → Entry E) (v l : ℕ) (g : ℕ → Entry E) → ConfirmedOk n R W w k f → OpeningOk (W v) l g → w < v → Keeps k f l g
  in_openings w k f v l g c o h =
      let t = confirmed_kept w k f v c o.opens h in
      (omega (arith, t.0, o.length_is), λ j a. ap (λ x. x j) (sym o.book_is) ∙ t.1 j a)

  pub in_lookups : (w k : ℕ) (f : ℕ → Entry E) (v l : ℕ) (g : ℕ → Entry E) → ConfirmedOk n R W w k f → LookupOk (W v) l g → w < v → Keeps k f l g
  in_lookups w k f v l g c o h =
      let t = confirmed_kept w k f v c o.begins.opens h in (
        omega (arith, t.0, o.above),
        λ j a. o.begins.same j (omega (arith, t.0, o.above)) ∙ ((inv.view_ok v).log o.begins.opens).begins j (omega (arith, t.0)) ∙ t.1 j a,
      )
