-- What a step owes, for what it changes only, to keep the invariant.
use Rattle.std.proofs.Common.{ℕ, List, [], ◌∷◌, ◌++◌}
use Rattle.protocol.specs.Updates.{upd}
use Rattle.protocol.specs.Members.{Member}
use Rattle.protocol.specs.Model.{Replica, View, Message, Event, Site, send, note, with_pool}
use Rattle.protocol.proofs.Updates.{upd_all}
use Rattle.protocol.proofs.Members.{each_first, each_last}
use Rattle.protocol.proofs.Invariant.{EventOk, Invariant, MessageOk, ReplicaOk, Told, ViewOk}
use Rattle.protocol.proofs.Growth.{Grows, ReplicaGrows, one_replica, view_same}
use Rattle.protocol.proofs.Stable.{event_stable, message_stable, replica_stable, view_stable}

module _ {E : Type 0} (n : ℕ) (s : Site E) (inv : Invariant n s) where
  -- what was so of the site s is so of it among the replicas R and the views W that it grows into
  pub record Still (R : ℕ → Replica E) (W : ℕ → View E) : Type 0 where
    pub grows : Grows s.replicas R s.views W
    pub replica : (c : ℕ) → ReplicaOk n R W c (s.replicas c)
    pub view : (w : ℕ) → ViewOk n R W w (s.views w)
    pub message : (m : Message E) → Member m s.pool → MessageOk n R W m
    pub event : (x : Event E) → Member x s.history → EventOk n R W x

  pub still : {R : ℕ → Replica E} {W : ℕ → View E} → Grows s.replicas R s.views W → Still R W
  still grows = record {
    grows = grows;
    replica = λ c. replica_stable grows c (s.replicas c) (inv.replica_ok c);
    view = λ w. view_stable grows w (s.views w) (inv.view_ok w);
    message = λ m h. message_stable grows n m (inv.message_ok m h);
    event = λ x h. event_stable grows n x (inv.event_ok x h);
  }

  -- other messages
  pub step_pool : (ms : List (Message E)) → ((m : Message E) → Member m ms → MessageOk n s.replicas s.views m) → Invariant n (with_pool s ms)
  step_pool ms ok = record { replica_ok = inv.replica_ok; view_ok = inv.view_ok; told_ok = inv.told_ok; message_ok = ok; event_ok = inv.event_ok }

  -- one message more
  pub step_send : (m : Message E) → MessageOk n s.replicas s.views m → Invariant n (send s m)
  step_send m ok = step_pool (s.pool ++ (m ∷ [])) (each_last (λ m. MessageOk n s.replicas s.views m) s.pool m inv.message_ok ok)

  -- one event more
  pub step_note : (x : Event E) → ((w : ℕ) → Told w (s.views w) (x ∷ s.history)) → EventOk n s.replicas s.views x → Invariant n (note s x)
  step_note x told ok = record {
    replica_ok = inv.replica_ok;
    view_ok = inv.view_ok;
    told_ok = told;
    message_ok = inv.message_ok;
    event_ok = each_first (λ y. EventOk n s.replicas s.views y) s.history x inv.event_ok ok;
  }

  -- another replica i, and other messages
  module _ (i : ℕ) (r : Replica E) (ms : List (Message E)) (grows : ReplicaGrows (s.replicas i) r) where
    abbrev R : ℕ → Replica E
    R = upd s.replicas i r

    pub step_replica : (Still R s.views → ReplicaOk n R s.views i r) → (Still R s.views → (m : Message E) → Member m ms → MessageOk n R s.views m)
        → Invariant n (record s { replicas = R; pool = ms })
    step_replica here messages =
        let old : Still R s.views = still (record { replica = one_replica s.replicas i r grows; view = λ w. view_same w (s.views w) }) in
        record {
          replica_ok = upd_all (λ c x. ReplicaOk n R s.views c x) s.replicas i r (here old) (λ c _. old.replica c);
          view_ok = old.view;
          told_ok = inv.told_ok;
          message_ok = messages old;
          event_ok = old.event;
        }
