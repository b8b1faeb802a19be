-- How a step may change replicas and views: promises and logs only grow, and what a promise left behind stays.
use Rattle.std.proofs.Common.{◌≡◌, ℕ, suc, ◌≤◌, ◌<◌, true, ◌⊎◌, refl, subst, inr, arith}
use Rattle.protocol.specs.Updates.{upd}
use Rattle.protocol.specs.Model.{active, manager, Replica, View}
use Rattle.protocol.proofs.Updates.{upd_all}
use Rattle.protocol.proofs.Invariant.{Idle, Opened}

module _ {E : Type 0} where
  pub record SameBook (r r' : Replica E) : Type 0 where
    pub idle : Idle r.status
    pub complete : r.complete ≡ true
    pub promised : r'.promised ≡ r.promised
    pub current : r'.current ≡ r.current
    pub length : r'.length ≡ r.length
    pub book : r'.book ≡ r.book

  pub record ReplicaGrows (r r' : Replica E) : Type 0 where
    pub promised_up : r.promised ≤ r'.promised
    pub floor_up : (w : ℕ) → r.floor w ≤ r'.floor w
    pub floor_fix : (w : ℕ) → w < r.promised → r'.floor w ≡ r.floor w
    -- it waits for a later view, or with the same book
    pub waits : Idle r'.status → r'.complete ≡ true → (r.promised < r'.promised) ⊎ SameBook r r'
    pub manages : r'.status ≡ manager → (r.promised < r'.promised) ⊎ (r.status ≡ manager)

  -- the log of an opened view w goes on with entries of its own
  pub record LogGrows (w : ℕ) (V V' : View E) : Type 0 where
    pub opening_length_fix : V'.opening_length ≡ V.opening_length
    pub opening_book_fix : V'.opening_book ≡ V.opening_book
    pub log_length_up : V.log_length ≤ V'.log_length
    pub log_fix : (j : ℕ) → j < V.log_length → V'.log j ≡ V.log j
    pub log_new : (j : ℕ) → V.log_length ≤ j → j < V'.log_length → (V'.log j).view ≡ w

  pub record ViewGrows (w : ℕ) (V V' : View E) : Type 0 where
    pub opened_by_fix : (c : ℕ) → V.opened_by ≡ suc c → V'.opened_by ≡ suc c
    pub formed_for_fix : (c : ℕ) → V.formed_for ≡ suc c → V'.formed_for ≡ suc c
    pub log : Opened V → LogGrows w V V'

  pub record Grows (R R' : ℕ → Replica E) (W W' : ℕ → View E) : Type 0 where
    pub replica : (c : ℕ) → ReplicaGrows (R c) (R' c)
    pub view : (w : ℕ) → ViewGrows w (W w) (W' w)

  -- A replica that grows

  -- with its views and its book as they were
  pub replica_stays : (r r' : Replica E) → (Idle r'.status → Idle r.status) → (r'.status ≡ manager → r.status ≡ manager)
      → ReplicaGrows r (record r' { current = r.current; promised = r.promised; complete = r.complete; length = r.length; book = r.book; floor = r.floor })
  replica_stays r r' idle manages = record {
    promised_up = omega arith;
    floor_up = λ w. omega arith;
    floor_fix = λ w h. refl;
    waits = λ i f. inr (record { idle = idle i; complete = f; promised = refl; current = refl; length = refl; book = refl });
    manages = λ m. inr (manages m);
  }

  pub replica_same : (r : Replica E) → ReplicaGrows r r
  replica_same r = replica_stays r r (λ i. i) (λ m. m)

  -- active in the view v that it promised, at a floor from its old one on
  pub replica_active : (r r' : Replica E) (v fl : ℕ) → r.promised ≤ v → v ≡ r'.promised → r.floor v ≤ fl → r'.status ≡ active
      → ReplicaGrows r (record r' { floor = upd r.floor v fl })
  replica_active r r' v fl past here up act = record {
    promised_up = omega arith;
    floor_up = upd_all (λ w y. r.floor w ≤ y) r.floor v fl up (λ w _. omega arith);
    floor_fix = upd_all (λ w y. w < r.promised → y ≡ r.floor w) r.floor v fl (λ h. absurd (omega arith)) (λ w _ _. refl);
    waits = λ i f. absurd (subst Idle act i);
    manages = λ m. absurd (cc);
  }

  -- A view that grows

  -- with its log as it was
  pub log_same : (w : ℕ) (V : View E) (c : ℕ) → LogGrows w V (record V { formed_for = c })
  log_same w V c = record {
    opening_length_fix = refl;
    opening_book_fix = refl;
    log_length_up = omega arith;
    log_fix = λ j h. refl;
    log_new = λ j a b. absurd (omega arith);
  }

  pub view_same : (w : ℕ) (V : View E) → ViewGrows w V V
  view_same w V = record { opened_by_fix = λ c h. h; formed_for_fix = λ c h. h; log = λ h. log_same w V V.formed_for }

  -- What grows where only the replica i and the view v change

  pub one_replica : (R : ℕ → Replica E) (i : ℕ) (r : Replica E) → ReplicaGrows (R i) r → (c : ℕ) → ReplicaGrows (R c) (upd R i r c)
  one_replica R i r g = upd_all (λ c x. ReplicaGrows (R c) x) R i r g (λ c _. replica_same (R c))

  pub one_view : (W : ℕ → View E) (v : ℕ) (V : View E) → ViewGrows v (W v) V → (w : ℕ) → ViewGrows w (W w) (upd W v V w)
  one_view W v V g = upd_all (λ w x. ViewGrows w (W w) x) W v V g (λ w _. view_same w (W w))
