-- An active replica's book lies between the opening book and the log of its view; a primary has the whole log.
use Rattle.std.proofs.Common.{◌≡◌, ℕ, suc, ap, ◌∙◌, arith}
use Rattle.protocol.specs.Model.{active, Site, IsPrimary}
use Rattle.protocol.proofs.Invariant.{BookOk, Invariant, LookupOk}

module _ {E : Type 0} (n : ℕ) (s : Site E) (inv : Invariant n s) where
  book_of : (i : ℕ) → (s.replicas i).status ≡ active
      → BookOk (s.views (s.replicas i).current) (s.replicas i).primary ((s.replicas i).floor (s.replicas i).current) (s.replicas i).length (s.replicas i).book
  book_of i a = let h = inv.replica_ok i in h.held.its_book (h.state.active_complete a)

  pub active_book : (i : ℕ) → (s.replicas i).status ≡ active → LookupOk (s.views (s.replicas i).current) (s.replicas i).length (s.replicas i).book
  active_book i a =
      let b = book_of i a in
      let fl = (inv.replica_ok i).held.floors (s.replicas i).current (omega (arith, b.at_floor)) in
      record { begins = b.begins; above = omega (arith, fl.above, b.at_floor) }

  pub leads : (i : ℕ) → IsPrimary s i → (s.views (s.replicas i).current).opened_by ≡ suc i
  leads i p = (book_of i p.is_active).led ∙ ap suc p.is_primary

  pub whole_log : (i : ℕ) → IsPrimary s i → (s.views (s.replicas i).current).log_length ≡ (s.replicas i).length
  whole_log i p =
      let b = book_of i p.is_active in
      omega (arith, (inv.view_ok (s.replicas i).current).led i (leads i p), b.at_floor, b.begins.within)
