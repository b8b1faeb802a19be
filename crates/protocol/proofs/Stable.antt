-- What holds of replicas and views holds of what they grow into.
use Rattle.std.proofs.Common.{◌≡◌, ℕ, pred, ◌≤◌, ◌<◌, ◌⊎◌, ◌≢◌, sym, ap, ◌∙◌, inl, inr, arith}
use Rattle.std.proofs.lemmas.Bool.{cases_lt}
use Rattle.protocol.specs.Views.{caller_of}
use Rattle.protocol.specs.Model.{manager, Answer, none, crashed, normal, Entry, Replica, View}
use Rattle.protocol.specs.Model.{Message, invitation, answer, formation, entry, acknowledgement, Event, handed, opening, looked_up, confirmed, lost}
use Rattle.protocol.proofs.Invariant.{AnswerOk, Begins, EntryOk, EventOk, FloorOk, FormedOk, LastIn, MajorityHad, MessageOk, Opened, Ready, ReplicaOk, Safe, SafeTo, Source, ViewOk}
use Rattle.protocol.proofs.Growth.{Grows, SameBook}

module _ {E : Type 0} {R R' : ℕ → Replica E} {W W' : ℕ → View E} (grows : Grows R R' W W') where
  opens_stable : {w : ℕ} → Opened (W w) → Opened (W' w)
  opens_stable {w} h = let e = (grows.view w).opened_by_fix (pred (W w).opened_by) (omega arith) in omega arith

  pub begins_stable : {w l : ℕ} {f : ℕ → Entry E} → Begins (W w) l f → Begins (W' w) l f
  begins_stable {w} h =
      let up = (grows.view w).log h.opens in
      record {
        opens = opens_stable h.opens;
        within = omega (arith, h.within, up.log_length_up);
        same = λ j a. h.same j a ∙ sym (up.log_fix j (omega (arith, h.within)));
      }

  entry_stable : {w j : ℕ} {e : Entry E} → EntryOk (W w) j e → EntryOk (W' w) j e
  entry_stable {w} {j} h =
      let up = (grows.view w).log h.opens in
      record { opens = opens_stable h.opens; in_log = omega (arith, h.in_log, up.log_length_up); same = up.log_fix j h.in_log ∙ h.same }

  had_stable : {n w k : ℕ} → MajorityHad n R w k → MajorityHad n R' w k
  had_stable {w} h = record { who = h.who; most = h.most; had = λ c a b. omega (arith, h.had c a b, (grows.replica c).floor_up w) }

  -- Safe books

  pub safe_stable : {n w l : ℕ} {f : ℕ → Entry E} → Safe n R W w l f → Safe n R' W' w l f
  safe_stable {n} {w} {l} {f} h k = go (h k)
    where
      go : SafeTo n R W w k l f → SafeTo n R' W' w k l f
      go (inl g) = inl (record {
        begins = begins_stable g.begins;
        in_book = g.in_book;
        late = λ j a b. g.late j (omega (arith, ((grows.view w).log g.begins.opens).opening_length_fix)) b;
      })
      go (inr b) = inr (record {
        who = b.who;
        most = b.most;
        left = λ c a q.
            let h = b.left c a q in
            (omega (arith, (grows.replica c).promised_up, h.0), omega (arith, (grows.replica c).floor_fix w h.0, h.1));
      })

  pub ready_stable : (n c v : ℕ) → v ≤ (R c).promised → Ready n R W (R c) v → Ready n R' W' (R' c) v
  ready_stable n c v past h i f e w k = go ((grows.replica c).waits i f)
    where
      go : ((R c).promised < (R' c).promised) ⊎ SameBook (R c) (R' c) → Safe n R' W' w (R' c).length (R' c).book
      go (inl a) = absurd (omega arith)
      go (inr a) = rw (a.length, a.book) (safe_stable {n = n} (h a.idle a.complete (omega arith) w k))

  -- Replicas

  -- who has promised v is fixed in the views before it
  last_stable : (c v u : ℕ) → LastIn (R c) v u → LastIn (R' c) v u
  last_stable c v u h = record {
    past = omega (arith, h.past, (grows.replica c).promised_up);
    upto = λ w a b. h.upto w a (omega (arith, h.past, (grows.replica c).floor_fix w (omega (arith, h.past))));
  }

  pub answer_stable : (c v : ℕ) (a : Answer) → AnswerOk (R c) W c v a → AnswerOk (R' c) W' c v a
  answer_stable c v none h = tt
  answer_stable c v (crashed u) h = last_stable c v u h
  answer_stable c v (normal u l p) h = record {
    last = last_stable c v u h.last;
    before = h.before;
    at_floor = (grows.replica c).floor_fix u (omega (arith, h.last.past, h.before)) ∙ h.at_floor;
    leads = λ e. (grows.view u).opened_by_fix c (h.leads e);
    kept = λ i f e. go e ((grows.replica c).waits i f);
  }
    where
      go : (R' c).promised ≡ v → ((R c).promised < (R' c).promised) ⊎ SameBook (R c) (R' c) → (R' c).current ≡ u
      go e (inl k) = absurd (omega (arith, h.last.past))
      go e (inr k) = k.current ∙ h.kept k.idle k.complete (omega arith)

  floor_stable : {w fl current : ℕ} → FloorOk (W w) w fl current → FloorOk (W' w) w fl current
  floor_stable {w} h =
      let up = (grows.view w).log h.opens in
      record { reached = h.reached; opens = opens_stable h.opens; above = omega (arith, h.above, up.opening_length_fix); within = omega (arith, h.within, up.log_length_up) }

  pub replica_stable : {n : ℕ} (c : ℕ) (r : Replica E) → ReplicaOk n R W c r → ReplicaOk n R' W' c r
  replica_stable c r h = record {
    state = h.state;
    held = record {
      its_book = λ f.
          let b = h.held.its_book f in
          record { led = (grows.view r.current).opened_by_fix r.primary b.led; at_floor = b.at_floor; begins = begins_stable b.begins };
      floors = λ w k. floor_stable (h.held.floors w k);
    };
    answers = λ m. record { own = (h.answers m).own; each = λ d. answer_stable d r.promised (r.answers d) ((h.answers m).each d) };
    counted = λ a p d. omega (arith, h.counted a p d, (grows.replica d).floor_up r.current);
  }

  -- Views

  pub source_stable : (j : ℕ) (e : Entry E) → Source W j e → Source W' j e
  source_stable j e h = record {
    stands = entry_stable h.stands;
    above = omega (arith, h.above, ((grows.view e.view).log h.stands.opens).opening_length_fix);
  }

  formed_stable : (w opened_by formed_for c : ℕ) → FormedOk w opened_by formed_for (R c).status (R c).promised
      → FormedOk w opened_by formed_for (R' c).status (R' c).promised
  formed_stable w opened_by formed_for c h = record {
    own = h.own;
    past = λ e. omega (arith, h.past e, (grows.replica c).promised_up);
    over = λ e q m. go e q ((grows.replica c).manages m);
  }
    where
      go : 1 ≤ formed_for → (R' c).promised ≡ w → ((R c).promised < (R' c).promised) ⊎ ((R c).status ≡ manager) → ⊥
      go e q (inl k) = omega (arith, h.past e)
      go e q (inr m) = h.over e (omega (arith, h.past e, (grows.replica c).promised_up)) m

  pub view_stable : {n : ℕ} (w : ℕ) (V : View E) → ViewOk n R W w V → ViewOk n R' W' w V
  view_stable {n} w V h = record {
    log = λ o.
        let g = h.log o in
        record { fits = g.fits; begins = g.begins; stamps = g.stamps; source = λ j k. source_stable j (V.log j) (g.source j k) };
    formed = formed_stable w V.opened_by V.formed_for (caller_of w) h.formed;
    led = λ c e. omega (arith, h.led c e, (grows.replica c).floor_up w);
    safe = λ o u k. safe_stable {n = n} (h.safe o u k);
  }

  -- Messages and events

  pub message_stable : (n : ℕ) (m : Message E) → MessageOk n R W m → MessageOk n R' W' m
  message_stable n (invitation a b v) h = tt
  message_stable n (answer c i v a) h = answer_stable c v a h
  message_stable n (formation i c v) h = record {
    named = (grows.view v).formed_for_fix c h.named;
    past = omega (arith, h.past, (grows.replica c).promised_up);
    ready = ready_stable n c v h.past h.ready;
  }
  message_stable n (entry p b v k e) h = entry_stable h
  message_stable n (acknowledgement b p v l) h = omega (arith, (grows.replica b).floor_up v)

  pub event_stable : (n : ℕ) (x : Event E) → EventOk n R W x → EventOk n R' W' x
  event_stable n (handed w k x) h = tt
  event_stable n (opening w l f) h =
      let up = (grows.view w).log h.opens in
      record { opens = opens_stable h.opens; length_is = up.opening_length_fix ∙ h.length_is; book_is = up.opening_book_fix ∙ h.book_is }
  event_stable n (looked_up w l f) h = record {
    begins = begins_stable h.begins;
    above = omega (arith, h.above, ((grows.view w).log h.begins.opens).opening_length_fix);
  }
  event_stable n (confirmed w k f) h = record { begins = begins_stable h.begins; most = had_stable h.most }
  event_stable n (lost w z k) h = record { opens = opens_stable h.opens; later = h.later; clear = clear (cases_lt k (W w).log_length); most = had_stable h.most }
    where
      clear : (k < (W w).log_length) ⊎ ((W w).log_length ≤ k) → k < (W' w).log_length → ((W' w).log k).view ≢ z
      clear (inl b) a e = h.clear b (ap (λ x. x.view) (sym (((grows.view w).log h.opens).log_fix k b)) ∙ e)
      clear (inr b) a e = omega (arith, ((grows.view w).log h.opens).log_new k b a, h.later)
