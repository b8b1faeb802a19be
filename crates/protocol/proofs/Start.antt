-- The site that runs start from satisfies the invariant.
use Rattle.std.proofs.Common.{◌≡◌, ℕ, ◌≤◌, ◌<◌, [], ◌∷◌, length, ◌≢◌, refl, sym, ap, subst, arith}
use Rattle.std.proofs.Math.Decide.{ℕ_discrete, dec_lt}
use Rattle.protocol.specs.Updates.{pick, upd}
use Rattle.protocol.specs.Model.{manager, Entry, Replica, View}
use Rattle.protocol.specs.Model.{opening, active_replica, absent_replica, made_replica, first_view, unopened_view, made_view, made}
use Rattle.protocol.proofs.Updates.{pick_all, upd_all, upd_same}
use Rattle.protocol.proofs.Members.{each_first}
use Rattle.protocol.proofs.Invariant.{EventOk, Invariant, LookupOk, ReplicaOk, Told, ViewOk}
use Rattle.protocol.proofs.Advancing.{entering_ok}
use Rattle.protocol.proofs.History.{opening_elsewhere}

module _ {E : Type 0} (n : ℕ) (blank : ℕ → Entry E) (some : 0 < n) where
  abbrev R : ℕ → Replica E
  R = made_replica n blank

  abbrev W : ℕ → View E
  W = made_view blank

  view_is : W 0 ≡ first_view blank
  view_is = upd_same (λ _. unopened_view blank) 0 (first_view blank)

  floor_is : (R 0).floor 0 ≡ 1
  floor_is = pick_all (λ r. r.floor 0 ≡ 1) (dec_lt 0 n) (active_replica blank 0) (absent_replica blank) (λ _. upd_same (λ _. 0) 0 1) (λ h. absurd (h some))

  no_manager : (c : ℕ) → (R c).status ≢ manager
  no_manager c = pick_all (λ r. r.status ≢ manager) (dec_lt c n) (active_replica blank c) (absent_replica blank) (λ _ e. cc) (λ _ e. cc)

  absent_ok : (c : ℕ) → ReplicaOk n R W c (absent_replica blank)
  absent_ok c = record {
    state = record { ordered = omega arith; idle = λ a. absurd a; active_complete = λ a. absurd (cc); active_current = λ a. refl };
    held = record { its_book = λ f. absurd (cc); floors = λ w k. absurd (omega arith) };
    answers = λ m. absurd (cc);
    counted = λ a. absurd (cc);
  }

  empty_book : LookupOk (W 0) 0 blank
  empty_book = subst (λ y. LookupOk y 0 blank) (sym view_is)
      (record { begins = record { opens = omega arith; within = omega arith; same = λ j k. refl }; above = omega arith })

  active_ok : (c : ℕ) → ReplicaOk n R W c (active_replica blank c)
  active_ok c = entering_ok (absent_ok c) 0 0 0 blank (pick (ℕ_discrete c 0) (upd (λ _. 0) 0 1) (λ _. 0))
      (omega arith) (ap (λ y. y.opened_by) view_is) empty_book
      (λ _ d. pick_all (λ a. a d ≤ (R d).floor 0) (ℕ_discrete c 0) (upd (λ _. 0) 0 1) (λ _. 0)
      (λ _. upd_all (λ b y. y ≤ (R b).floor 0) (λ _. 0) 0 1 (omega (arith, floor_is)) (λ b _. omega arith) d) (λ _. omega arith))

  first_ok : ViewOk n R W 0 (first_view blank)
  first_ok = record {
    log = λ _. record { fits = omega arith; begins = λ j k. refl; stamps = λ j a b. absurd (omega arith); source = λ j k. absurd (omega arith) };
    formed = record { own = λ c h. h; past = λ _. omega arith; over = λ _ _. no_manager 0 };
    led = λ c h.
        let q : c ≡ 0 = omega arith in
        omega (arith, floor_is, ap (λ y. (R y).floor 0) q);
    safe = λ _ u k. absurd (omega arith);
  }

  unopened_ok : (w : ℕ) → ViewOk n R W w (unopened_view blank)
  unopened_ok w = record {
    log = λ h. absurd (omega arith);
    formed = record { own = λ c h. h; past = λ h. absurd (omega arith); over = λ h. absurd (omega arith) };
    led = λ c h. absurd (omega arith);
    safe = λ h. absurd (omega arith);
  }

  told_first : Told 0 (first_view blank) (opening 0 0 blank ∷ [])
  told_first = record { once = λ k t. absurd (omega (arith, t.below)); unused = λ k _. refl; opened = λ _. refl; unopened = λ h. absurd (omega arith) }

  told_unopened : (w : ℕ) → w ≢ 0 → Told w (unopened_view blank) (opening 0 0 blank ∷ [])
  told_unopened w other = record {
    once = λ k t. absurd (omega (arith, t.opens));
    unused = λ k _. refl;
    opened = λ h. absurd (omega arith);
    unopened = λ _. ap length (opening_elsewhere [] 0 0 blank w (λ e. other (sym e)));
  }

  pub invariant_at_start : Invariant n (made n blank)
  invariant_at_start = record {
    replica_ok = λ c. pick_all (λ r. ReplicaOk n R W c r) (dec_lt c n) (active_replica blank c) (absent_replica blank) (λ _. active_ok c) (λ _. absent_ok c);
    view_ok = upd_all (λ w V. ViewOk n R W w V) (λ _. unopened_view blank) 0 (first_view blank) first_ok (λ w _. unopened_ok w);
    told_ok = upd_all (λ w V. Told w V (opening 0 0 blank ∷ [])) (λ _. unopened_view blank) 0 (first_view blank) told_first told_unopened;
    message_ok = λ m h. absurd h;
    event_ok = each_first (λ x. EventOk n R W x) [] (opening 0 0 blank) (λ x h. absurd h)
        (record { opens = omega (arith, ap (λ y. y.opened_by) view_is); length_is = ap (λ y. y.opening_length) view_is; book_is = ap (λ y. y.opening_book) view_is });
  }
