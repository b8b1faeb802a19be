-- A replica that goes on: with one entry more in its view, or to a later view.
use Rattle.std.proofs.Common.{◌≡◌, Bool, true, ℕ, suc, ◌≤◌, ◌<◌, ◌⊎◌, refl, sym, inl, inr, arith}
use Rattle.std.proofs.lemmas.Bool.{cases_lt}
use Rattle.protocol.specs.Updates.{upd}
use Rattle.protocol.specs.Model.{active, Entry, Replica, View, appending, entering}
use Rattle.protocol.proofs.Updates.{upd_all, upd_same}
use Rattle.protocol.proofs.Invariant.{EntryOk, FloorOk, HeldOk, LookupOk, ReplicaOk}
use Rattle.protocol.proofs.Growth.{ReplicaGrows, replica_active}

module _ {E : Type 0} {n : ℕ} {R : ℕ → Replica E} {W : ℕ → View E} {c : ℕ} {r : Replica E} (h : ReplicaOk n R W c r) where
  -- what it holds once it is active in v under p with the book (l, f)
  held_now : (complete : Bool) (v p l : ℕ) (f : ℕ → Entry E) → r.current ≤ v → (complete ≡ true → (W v).opened_by ≡ suc p) → LookupOk (W v) l f
      → HeldOk W v complete p l f (upd r.floor v (suc l))
  held_now complete v p l f up led b = record {
    its_book = λ q. record { led = led q; at_floor = upd_same r.floor v (suc l); begins = b.begins };
    floors = upd_all (λ w y. 1 ≤ y → FloorOk (W w) w y v) r.floor v (suc l)
        (λ _. record { reached = omega arith; opens = b.begins.opens; above = omega (arith, b.above); within = omega (arith, b.begins.within) })
        (λ w _ k.
        let g = h.held.floors w k in
        record { reached = omega (arith, g.reached); opens = g.opens; above = g.above; within = g.within });
  }

  -- One entry more

  module _ (e : Entry E) (acknowledged : ℕ → ℕ) (act : r.status ≡ active) where
    pub appending_grows : ReplicaGrows r (appending r e acknowledged)
    appending_grows =
        let b = h.held.its_book (h.state.active_complete act) in
        let same = h.state.active_current act in
        replica_active r (appending r e acknowledged) r.current (suc (suc r.length)) (omega arith) same (omega (arith, b.at_floor)) act

    -- the entry stands in the log
    pub appending_ok : EntryOk (W r.current) r.length e → (r.primary ≡ c → (d : ℕ) → acknowledged d ≤ (R d).floor r.current) → ReplicaOk n R W c (appending r e acknowledged)
    appending_ok there counted = record {
      state = h.state;
      held = held_now r.complete r.current r.primary (suc r.length) (upd r.book r.length e) (omega arith) (λ f. (h.held.its_book f).led) book_now;
      answers = h.answers;
      counted = λ _. counted;
    }
      where
        book_now : LookupOk (W r.current) (suc r.length) (upd r.book r.length e)
        book_now =
            let b = h.held.its_book (h.state.active_complete act) in
            let fl = h.held.floors r.current (omega (arith, b.at_floor)) in
            record {
              begins = record {
                opens = there.opens;
                within = there.in_log;
                same = upd_all (λ j y. j < suc r.length → y ≡ (W r.current).log j) r.book r.length e (λ _. sym there.same) (λ j d q. b.begins.same j (omega arith));
              };
              above = omega (arith, fl.above, b.at_floor);
            }

  -- A later view

  pub no_floor : (v : ℕ) → r.current < v → r.floor v ≡ 0
  no_floor v later = go (cases_lt 0 (r.floor v))
    where
      go : (0 < r.floor v) ⊎ (r.floor v ≤ 0) → r.floor v ≡ 0
      go (inr k) = omega arith
      go (inl k) = absurd (omega (arith, (h.held.floors v k).reached))

  module _ (v p l : ℕ) (f : ℕ → Entry E) (acknowledged : ℕ → ℕ) where
    pub entering_grows : r.current < v → r.promised ≡ v → ReplicaGrows r (entering r v p l f acknowledged)
    entering_grows later here = replica_active r (entering r v p l f acknowledged) v (suc l) (omega arith) refl (omega (arith, no_floor v later)) refl

    pub entering_ok : r.current ≤ v → (W v).opened_by ≡ suc p → LookupOk (W v) l f → (p ≡ c → (d : ℕ) → acknowledged d ≤ (R d).floor v)
        → ReplicaOk n R W c (entering r v p l f acknowledged)
    entering_ok later led b counted = record {
      state = record { ordered = omega arith; idle = λ a. absurd a; active_complete = λ _. refl; active_current = λ _. refl };
      held = held_now true v p l f later (λ _. led) b;
      answers = λ m. absurd (cc);
      counted = λ _. counted;
    }
