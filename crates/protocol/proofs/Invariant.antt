-- The invariant of a run: what every reached site satisfies.
-- R are a site's replicas, and W its views. A part of a fact is told of the fields that it speaks of, and of no whole
-- replica or view: so a step hands on each part whose fields it leaves.
use Rattle.std.proofs.Common.{◌≡◌, ℕ, suc, ◌≤◌, ◌<◌, Bool, true, List, [], ◌∷◌, length, ◌⊎◌, ◌≢◌}
use Rattle.protocol.specs.Members.{Member}
use Rattle.protocol.specs.Majorities.{Majority}
use Rattle.protocol.specs.Views.{caller_of}
use Rattle.protocol.specs.Model.{Status, active, manager, waiting, Answer, none, crashed, normal, Entry, Replica, View, Site}
use Rattle.protocol.specs.Model.{Message, invitation, answer, formation, entry, acknowledgement, Event, handed, opening, looked_up, confirmed, lost}
use Rattle.protocol.specs.Guarantee.{handed_with, openings_of}

-- up, and active in no view
abbrev pub Idle : Status → Type 0
Idle manager = Unit {0}
Idle waiting = Unit {0}
Idle _ = ⊥

-- a replica's two views, by its status and whether its book is complete
pub record StateOk (status : Status) (current promised : ℕ) (complete : Bool) : Type 0 where
  pub ordered : current ≤ promised
  pub idle : Idle status → complete ≡ true → current < promised
  pub active_complete : status ≡ active → complete ≡ true
  pub active_current : status ≡ active → current ≡ promised

-- whom the form message of the view w names; `status` and `promised` are those of its caller
pub record FormedOk (w opened_by formed_for : ℕ) (status : Status) (promised : ℕ) : Type 0 where
  -- it was opened by the one that is named
  pub own : (c : ℕ) → opened_by ≡ suc c → formed_for ≡ suc c
  -- once it is formed, its caller has promised it or a later view, and manages it no more
  pub past : 1 ≤ formed_for → w ≤ promised
  pub over : 1 ≤ formed_for → promised ≡ w → status ≢ manager

-- a place that an opened view has an entry of its own at: past the opening book, within the log
pub record Stamped (opened_by opening_length log_length k : ℕ) : Type 0 where
  pub opens : 1 ≤ opened_by
  pub above : opening_length ≤ k
  pub below : k < log_length

module _ {E : Type 0} where
  abbrev pub Opened : View E → Type 0
  Opened V = 1 ≤ V.opened_by

  -- the book (l, f) begins the log
  pub record Begins (V : View E) (l : ℕ) (f : ℕ → Entry E) : Type 0 where
    pub opens : Opened V
    pub within : l ≤ V.log_length
    pub same : (j : ℕ) → j < l → f j ≡ V.log j

  -- the entry e stands at place j of the log
  pub record EntryOk (V : View E) (j : ℕ) (e : Entry E) : Type 0 where
    pub opens : Opened V
    pub in_log : j < V.log_length
    pub same : V.log j ≡ e

  -- the book (l, f) has the first k entries of the log of w, and past the opening book of w only entries of w and later views
  pub record Carries (V : View E) (w k l : ℕ) (f : ℕ → Entry E) : Type 0 where
    pub begins : Begins V k f
    pub in_book : k ≤ l
    pub late : (j : ℕ) → V.opening_length ≤ j → j < l → w ≤ (f j).view

  -- a majority had more than k entries in the view w
  pub record MajorityHad (n : ℕ) (R : ℕ → Replica E) (w k : ℕ) : Type 0 where
    pub who : ℕ → Bool
    pub most : Majority n who
    pub had : (c : ℕ) → c < n → who c ≡ true → k < (R c).floor w

  -- a majority will never have more than k entries in the view w: it has promised later views, and did not get that far
  pub record Blocked (n : ℕ) (R : ℕ → Replica E) (w k : ℕ) : Type 0 where
    pub who : ℕ → Bool
    pub most : Majority n who
    pub left : (c : ℕ) → c < n → who c ≡ true → (w < (R c).promised) × ((R c).floor w ≤ k)

  -- the book (l, f) has the first k entries of w, or they cannot be confirmed there
  abbrev pub SafeTo : ℕ → (ℕ → Replica E) → (ℕ → View E) → (w k l : ℕ) → (ℕ → Entry E) → Type 0
  SafeTo n R W w k l f = Carries (W w) w k l f ⊎ Blocked n R w k

  -- the book (l, f) has all that can ever be confirmed in w
  abbrev pub Safe : ℕ → (ℕ → Replica E) → (ℕ → View E) → (w l : ℕ) → (ℕ → Entry E) → Type 0
  Safe n R W w l f = (k : ℕ) → SafeTo n R W w k l f

  -- an answer of the replica r for the view v: that it was last in the view u
  pub record LastIn (r : Replica E) (v u : ℕ) : Type 0 where
    pub past : v ≤ r.promised
    -- of the views before v, it was in none after u
    pub upto : (w : ℕ) → w < v → 1 ≤ r.floor w → w ≤ u

  -- an answer of c for v: that it was last in the view u, V, with l entries, and whether as its primary
  pub record NormalOk (r : Replica E) (V : View E) (c v u l : ℕ) (p : Bool) : Type 0 where
    pub last : LastIn r v u
    pub before : u < v
    pub at_floor : r.floor u ≡ suc l
    pub leads : p ≡ true → V.opened_by ≡ suc c
    -- as long as c waits for v with a complete book, its current view is still u
    pub kept : Idle r.status → r.complete ≡ true → r.promised ≡ v → r.current ≡ u

  abbrev pub AnswerOk : Replica E → (ℕ → View E) → ℕ → ℕ → Answer → Type 0
  AnswerOk r W c v none = Unit {0}
  AnswerOk r W c v (crashed u) = LastIn r v u
  AnswerOk r W c v (normal u l p) = NormalOk r (W u) c v u l p

  -- a complete book begins the log of its current view V, and is what its replica was last active with there
  pub record BookOk (V : View E) (primary fl length : ℕ) (book : ℕ → Entry E) : Type 0 where
    pub led : V.opened_by ≡ suc primary
    pub at_floor : fl ≡ suc length
    pub begins : Begins V length book

  -- a replica that is in the view `current` was active in w, at the floor fl
  pub record FloorOk (V : View E) (w fl current : ℕ) : Type 0 where
    pub reached : w ≤ current
    pub opens : Opened V
    pub above : V.opening_length < fl
    pub within : fl ≤ suc V.log_length

  -- a manager c has answers for a view of its own
  pub record AnswersOk (R : ℕ → Replica E) (W : ℕ → View E) (c promised : ℕ) (answers : ℕ → Answer) : Type 0 where
    pub own : caller_of promised ≡ c
    pub each : (d : ℕ) → AnswerOk (R d) W d promised (answers d)

  -- what a promise leaves as it is
  pub record HeldOk (W : ℕ → View E) (current : ℕ) (complete : Bool) (primary length : ℕ) (book : ℕ → Entry E) (floor : ℕ → ℕ) : Type 0 where
    pub its_book : complete ≡ true → BookOk (W current) primary (floor current) length book
    pub floors : (w : ℕ) → 1 ≤ floor w → FloorOk (W w) w (floor w) current

  pub record ReplicaOk (n : ℕ) (R : ℕ → Replica E) (W : ℕ → View E) (c : ℕ) (r : Replica E) : Type 0 where
    pub state : StateOk r.status r.current r.promised r.complete
    pub held : HeldOk W r.current r.complete r.primary r.length r.book r.floor
    pub answers : r.status ≡ manager → AnswersOk R W c r.promised r.answers
    -- a primary counts no more than what others had
    pub counted : r.status ≡ active → r.primary ≡ c → (d : ℕ) → r.acknowledged d ≤ (R d).floor r.current

  -- the entry e at place j was appended in its own view
  pub record Source (W : ℕ → View E) (j : ℕ) (e : Entry E) : Type 0 where
    pub stands : EntryOk (W e.view) j e
    pub above : (W e.view).opening_length ≤ j

  pub record LogOk (W : ℕ → View E) (w opening_length : ℕ) (opening_book : ℕ → Entry E) (log_length : ℕ) (log : ℕ → Entry E) : Type 0 where
    pub fits : opening_length ≤ log_length
    pub begins : (j : ℕ) → j < opening_length → log j ≡ opening_book j
    pub stamps : (j : ℕ) → opening_length ≤ j → j < log_length → (log j).view ≡ w
    pub source : (j : ℕ) → j < log_length → Source W j (log j)

  pub record ViewOk (n : ℕ) (R : ℕ → Replica E) (W : ℕ → View E) (w : ℕ) (V : View E) : Type 0 where
    pub log : Opened V → LogOk W w V.opening_length V.opening_book V.log_length V.log
    pub formed : FormedOk w V.opened_by V.formed_for (R (caller_of w)).status (R (caller_of w)).promised
    -- its primary has the whole log
    pub led : (c : ℕ) → V.opened_by ≡ suc c → V.log_length < (R c).floor w
    -- the heart of it: the opening book has all that can ever be confirmed in earlier views
    pub safe : Opened V → (u : ℕ) → u < w → Safe n R W u V.opening_length V.opening_book

  -- what the history has of a view: `given` with the stamp of each place, and `openings`
  pub record ToldOk (opened_by opening_length log_length : ℕ) (log : ℕ → Entry E) (given : ℕ → List E) (openings : List (Event E)) : Type 0 where
    -- with the stamp of an own entry of the view that entry, with any other nothing
    pub once : (k : ℕ) → Stamped opened_by opening_length log_length k → given k ≡ (log k).what ∷ []
    pub unused : (k : ℕ) → (Stamped opened_by opening_length log_length k → ⊥) → given k ≡ []
    -- one opening of an opened view, else none
    pub opened : 1 ≤ opened_by → length openings ≡ 1
    pub unopened : opened_by ≡ 0 → length openings ≡ 0

  abbrev pub Told : ℕ → View E → List (Event E) → Type 0
  Told w V history = ToldOk V.opened_by V.opening_length V.log_length V.log (λ k. handed_with w k history) (openings_of w history)

  -- while r waits for v, its book is safe to open v with
  abbrev pub Ready : ℕ → (ℕ → Replica E) → (ℕ → View E) → Replica E → ℕ → Type 0
  Ready n R W r v = Idle r.status → r.complete ≡ true → r.promised ≡ v → (w : ℕ) → w < v → Safe n R W w r.length r.book

  -- a form message of v to c
  pub record FormationOk (n : ℕ) (R : ℕ → Replica E) (W : ℕ → View E) (c v : ℕ) : Type 0 where
    pub named : (W v).formed_for ≡ suc c
    pub past : v ≤ (R c).promised
    pub ready : Ready n R W (R c) v

  abbrev pub MessageOk : ℕ → (ℕ → Replica E) → (ℕ → View E) → Message E → Type 0
  MessageOk n R W (invitation a b v) = Unit {0}
  MessageOk n R W (answer c i v a) = AnswerOk (R c) W c v a
  MessageOk n R W (formation i c v) = FormationOk n R W c v
  MessageOk n R W (entry p b v k e) = EntryOk (W v) k e
  MessageOk n R W (acknowledgement b p v l) = l < (R b).floor v

  pub record OpeningOk (V : View E) (l : ℕ) (f : ℕ → Entry E) : Type 0 where
    pub opens : Opened V
    pub length_is : V.opening_length ≡ l
    pub book_is : V.opening_book ≡ f

  pub record LookupOk (V : View E) (l : ℕ) (f : ℕ → Entry E) : Type 0 where
    pub begins : Begins V l f
    pub above : V.opening_length ≤ l

  pub record ConfirmedOk (n : ℕ) (R : ℕ → Replica E) (W : ℕ → View E) (w k : ℕ) (f : ℕ → Entry E) : Type 0 where
    pub begins : Begins (W w) k f
    pub most : MajorityHad n R w k

  pub record LostOk (n : ℕ) (R : ℕ → Replica E) (W : ℕ → View E) (w z k : ℕ) : Type 0 where
    pub opens : Opened (W w)
    pub later : z < w
    pub clear : k < (W w).log_length → ((W w).log k).view ≢ z
    pub most : MajorityHad n R w 0

  abbrev pub EventOk : ℕ → (ℕ → Replica E) → (ℕ → View E) → Event E → Type 0
  EventOk n R W (handed w k x) = Unit {0}
  EventOk n R W (opening w l f) = OpeningOk (W w) l f
  EventOk n R W (looked_up w l f) = LookupOk (W w) l f
  EventOk n R W (confirmed w k f) = ConfirmedOk n R W w k f
  EventOk n R W (lost w z k) = LostOk n R W w z k

  pub record Invariant (n : ℕ) (s : Site E) : Type 0 where
    pub replica_ok : (c : ℕ) → ReplicaOk n s.replicas s.views c (s.replicas c)
    pub view_ok : (w : ℕ) → ViewOk n s.replicas s.views w (s.views w)
    pub told_ok : (w : ℕ) → Told w (s.views w) s.history
    pub message_ok : (m : Message E) → Member m s.pool → MessageOk n s.replicas s.views m
    pub event_ok : (x : Event E) → Member x s.history → EventOk n s.replicas s.views x
