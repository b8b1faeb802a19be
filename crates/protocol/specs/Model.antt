-- The protocol: what a site holds, the steps that its replicas take, and the runs that they make.
-- A view is one number (Views). A length or none is one number: 0 for none, suc l for l.
-- A book is a length and a function from places, counted from 0; what it gives from the length on means nothing.
-- A slip is the receipt of a change: the stamp, of a view and a place, that it was handed out with.
use Rattle.std.specs.Prelude.{◌≡◌, Bool, true, false, List, [], ◌∷◌, ◌++◌, ◌≢◌, ℕ, suc, ◌+◌, ◌≤◌, ◌<◌, max, eqb, ltb}
use Rattle.std.proofs.Math.Decide.{ℕ_discrete, dec_lt}
use Rattle.protocol.specs.Updates.{upd, pick}
use Rattle.protocol.specs.Members.{Member}
use Rattle.protocol.specs.Majorities.{Majority}
use Rattle.protocol.specs.Views.{view_number, count_of}

pub data Status : Type 0 where
  active manager waiting down : Status

-- what a replica answers when it is invited to a view: its current view and, where its book is complete,
-- the book's length and whether it is itself the primary of that view
pub data Answer : Type 0 where
  none : Answer
  crashed : (current : ℕ) → Answer
  normal : (current length : ℕ) (primary : Bool) → Answer

-- a change, and the view in which it was handed out
pub record Entry (E : Type 0) : Type 0 where
  pub view : ℕ
  pub what : E

pub record Replica (E : Type 0) : Type 0 where
  pub status : Status
  -- the last view that it was active in, and the latest that it promised to go on to: both outlast a crash
  pub current : ℕ
  pub promised : ℕ
  -- whether its book is the one with which it was last active
  pub complete : Bool
  -- the primary of its current view
  pub primary : ℕ
  pub length : ℕ
  pub book : ℕ → Entry E
  -- at a primary: the length or none that each replica acknowledged in the current view
  pub acknowledged : ℕ → ℕ
  -- at a manager: the answers that it counted for its promised view
  pub answers : ℕ → Answer
  -- history: for each view, the length of its book when it was last active there, or none
  pub floor : ℕ → ℕ

-- the history of a view
pub record View (E : Type 0) : Type 0 where
  -- its primary: suc c once c has opened the view, 0 before
  pub opened_by : ℕ
  -- whom its form message names: suc c, or 0 where none was sent
  pub formed_for : ℕ
  -- its primary's book when the view was opened
  pub opening_length : ℕ
  pub opening_book : ℕ → Entry E
  -- its log: the primary's book as it grew in the view
  pub log_length : ℕ
  pub log : ℕ → Entry E

pub data Message (E : Type 0) : Type 0 where
  invitation : (from to view : ℕ) → Message E
  answer : (from to view : ℕ) → Answer → Message E
  formation : (from to view : ℕ) → Message E
  entry : (from to view place : ℕ) → Entry E → Message E
  acknowledgement : (from to view length : ℕ) → Message E

-- what is told of a run
pub data Event (E : Type 0) : Type 0 where
  -- a change got the stamp of this view and place
  handed : (view place : ℕ) → E → Event E
  -- a view was opened with this book
  opening : (view length : ℕ) → (ℕ → Entry E) → Event E
  -- a question was answered from this book, in this view
  looked_up : (view length : ℕ) → (ℕ → Entry E) → Event E
  -- a slip was confirmed in this view: the last of the first `length` entries of this book
  confirmed : (view length : ℕ) → (ℕ → Entry E) → Event E
  -- in this view, the slip of the view `stamped` at `place` was said to be lost
  lost : (view stamped place : ℕ) → Event E

-- the pool has the messages sent, the history the events, the latest first
pub record Site (E : Type 0) : Type 0 where
  pub replicas : ℕ → Replica E
  pub views : ℕ → View E
  pub pool : List (Message E)
  pub history : List (Event E)

abbrev pub is_normal : Answer → Bool
is_normal (normal u l p) = true
is_normal _ = false

abbrev pub is_answer : Answer → Bool
is_answer none = false
is_answer _ = true

-- x is the latest view of the normal answers, and l the greatest length that was answered in it
pub record Latest (n : ℕ) (a : ℕ → Answer) (x l : ℕ) : Type 0 where
  pub newest : (d : ℕ) → d < n → (u k : ℕ) (p : Bool) → a d ≡ normal u k p → u ≤ x
  pub longest : (d : ℕ) → d < n → (k : ℕ) (p : Bool) → a d ≡ normal x k p → k ≤ l

-- the three rules by which a manager may form a view from its answers, x being the latest view of the normal ones:
-- a majority answered normally; or a majority answered, and those that crashed were in earlier views than x;
-- or a majority answered, those that crashed were in no later view than x, and the primary of x answered normally
pub data Rule (n : ℕ) (a : ℕ → Answer) (x : ℕ) : Type 0 where
  normal_majority : Majority n (λ d. is_normal (a d)) → Rule n a x
  crashed_earlier : Majority n (λ d. is_answer (a d)) → ((d : ℕ) → d < n → (u : ℕ) → a d ≡ crashed u → u < x) → Rule n a x
  primary_answered : Majority n (λ d. is_answer (a d)) → ((d : ℕ) → d < n → (u : ℕ) → a d ≡ crashed u → u ≤ x)
      → (p : ℕ) → p < n → (k : ℕ) → a p ≡ normal x k true → Rule n a x

module _ {E : Type 0} where
  -- how a replica changes

  -- one entry more, in its current view
  abbrev pub appending : Replica E → Entry E → (ℕ → ℕ) → Replica E
  appending r e acknowledged = record r {
    length = suc r.length;
    book = upd r.book r.length e;
    acknowledged = acknowledged;
    floor = upd r.floor r.current (suc (suc r.length));
  }

  -- promised to the view v, as manager or waiting
  abbrev pub promising : Replica E → Status → ℕ → (ℕ → Answer) → Replica E
  promising r t v a = record r { status = t; promised = v; acknowledged = λ _. 0; answers = a }

  -- active in the view v under the primary p, with this book
  abbrev pub entering : Replica E → (v p length : ℕ) → (ℕ → Entry E) → (ℕ → ℕ) → Replica E
  entering r v p l f acknowledged = record {
    status = active;
    current = v;
    promised = v;
    complete = true;
    primary = p;
    length = l;
    book = f;
    acknowledged = acknowledged;
    answers = λ _. none;
    floor = upd r.floor v (suc l);
  }

  -- no longer a manager
  abbrev pub resting : Replica E → Replica E
  resting r = record r { status = waiting; acknowledged = λ _. 0; answers = λ _. none }

  abbrev pub with_answers : Replica E → (ℕ → Answer) → Replica E
  with_answers r a = record r { answers = a }

  abbrev pub with_acknowledged : Replica E → (ℕ → ℕ) → Replica E
  with_acknowledged r a = record r { acknowledged = a }

  -- all is forgotten but the two views
  abbrev pub forgetting : Replica E → Status → Replica E
  forgetting r t = record r { status = t; complete = false; primary = 0; length = 0; acknowledged = λ _. 0; answers = λ _. none }

  -- how the history of a view changes

  abbrev pub growing : View E → Entry E → View E
  growing V e = record V { log_length = suc V.log_length; log = upd V.log V.log_length e }

  abbrev pub forming : View E → ℕ → View E
  forming V c = record V { formed_for = suc c }

  -- opened by c with this book
  abbrev pub opening_by : View E → (c length : ℕ) → (ℕ → Entry E) → View E
  opening_by V c l f = record V { opened_by = suc c; opening_length = l; opening_book = f; log_length = l; log = f }

  -- how a site changes

  abbrev pub with_replica : Site E → ℕ → Replica E → Site E
  with_replica s i r = record s { replicas = upd s.replicas i r }

  abbrev pub with_view : Site E → ℕ → View E → Site E
  with_view s w V = record s { views = upd s.views w V }

  abbrev pub with_pool : Site E → List (Message E) → Site E
  with_pool s ms = record s { pool = ms }

  abbrev pub send : Site E → Message E → Site E
  send s m = with_pool s (s.pool ++ (m ∷ []))

  abbrev pub note : Site E → Event E → Site E
  note s x = record s { history = x ∷ s.history }

  -- what c answers when it is invited to a view
  abbrev pub answer_of : ℕ → Replica E → Answer
  answer_of c r = elim r.complete [ true ↦ normal r.current r.length (eqb r.primary c) | false ↦ crashed r.current ]

  -- the view that i calls: its own, with the next count
  abbrev pub next_view : Replica E → ℕ → ℕ
  next_view r i = view_number (count_of r.promised + 1) i

  pub record IsPrimary (s : Site E) (i : ℕ) : Type 0 where
    pub is_active : (s.replicas i).status ≡ active
    pub is_primary : (s.replicas i).primary ≡ i

  -- the site after each step

  -- the primary i appends the change x
  abbrev pub after_change : Site E → ℕ → E → Site E
  after_change s i x =
      let r = s.replicas i in
      let e : Entry E = record { view = r.current; what = x } in
      let appended = with_replica s i (appending r e (upd r.acknowledged i (suc (suc r.length)))) in
      let logged = with_view appended r.current (growing (s.views r.current) e) in
      note logged (handed r.current r.length x)

  -- the primary i sends b its entry at place k
  abbrev pub after_pass : Site E → (i b k : ℕ) → Site E
  after_pass s i b k = send s (entry i b (s.replicas i).current k ((s.replicas i).book k))

  -- i becomes the manager of a view of its own, and counts its own answer
  abbrev pub after_call : Site E → ℕ → Site E
  after_call s i =
      let r = s.replicas i in
      with_replica s i (promising r manager (next_view r i) (upd (λ _. none) i (answer_of i r)))

  abbrev pub after_invite : Site E → (i b : ℕ) → Site E
  after_invite s i b = send s (invitation i b (s.replicas i).promised)

  -- the manager i names c the primary of its view, and is no manager any more
  abbrev pub after_form : Site E → (i c : ℕ) → Site E
  after_form s i c =
      let r = s.replicas i in
      let formed = with_view (with_replica s i (resting r)) r.promised (forming (s.views r.promised) c) in
      send formed (formation i c r.promised)

  -- c promises the view v, and answers a
  abbrev pub after_invitation : Site E → (a c v : ℕ) → Site E
  after_invitation s a c v =
      let r = s.replicas c in
      send (with_replica s c (promising r waiting v (λ _. none))) (answer c a v (answer_of c r))

  -- the manager i counts an answer of c
  abbrev pub after_answer : Site E → (c i : ℕ) → Answer → Site E
  after_answer s c i a =
      let r = s.replicas i in
      with_replica s i (with_answers r (upd r.answers c a))

  -- c opens the view v with its own book
  abbrev pub after_formation : Site E → (c v : ℕ) → Site E
  after_formation s c v =
      let r = s.replicas c in
      let entered = with_replica s c (entering r v c r.length r.book (upd (λ _. 0) c (suc r.length))) in
      let opened = with_view entered v (opening_by (s.views v) c r.length r.book) in
      note opened (opening v r.length r.book)

  -- b appends the entry e, and acknowledges it to p
  abbrev pub after_entry : Site E → (p b v : ℕ) → Entry E → Site E
  after_entry s p b v e =
      let r = s.replicas b in
      send (with_replica s b (appending r e r.acknowledged)) (acknowledgement b p v (suc r.length))

  -- the primary p notes that b has the length l
  abbrev pub after_acknowledgement : Site E → (b p l : ℕ) → Site E
  after_acknowledgement s b p l =
      let r = s.replicas p in
      with_replica s p (with_acknowledged r (upd r.acknowledged b (max (r.acknowledged b) (suc l))))

  -- i takes over the book of the primary p, and is active in its promised view
  abbrev pub after_join : Site E → (i p : ℕ) → Site E
  after_join s i p =
      let r = s.replicas i in
      let q = s.replicas p in
      send (with_replica s i (entering r r.promised p q.length q.book (λ _. 0))) (acknowledgement i p r.promised q.length)

  -- the steps that can be taken at a site of n replicas, each with its conditions
  pub data Next (n : ℕ) (s : Site E) : Site E → Type 0 where
    change : (i : ℕ) (x : E) → IsPrimary s i → Next n s (after_change s i x)
    pass : (i b k : ℕ) → IsPrimary s i → k < (s.replicas i).length → Next n s (after_pass s i b k)
    call : (i : ℕ) → i < 8 → (s.replicas i).status ≢ down → Next n s (after_call s i)
    invite : (i b : ℕ) → (s.replicas i).status ≡ manager → Next n s (after_invite s i b)
    form : (i c x l : ℕ) (p : Bool) → (s.replicas i).status ≡ manager
        → c < n → (s.replicas i).answers c ≡ normal x l p → Latest n (s.replicas i).answers x l → Rule n (s.replicas i).answers x
        → Next n s (after_form s i c)
    deliver_invitation : (a c v : ℕ) → Member (invitation a c v) s.pool → (s.replicas c).status ≢ down → (s.replicas c).promised < v
        → Next n s (after_invitation s a c v)
    deliver_answer : (c i v : ℕ) (a : Answer) → Member (answer c i v a) s.pool → (s.replicas i).status ≡ manager → (s.replicas i).promised ≡ v
        → Next n s (after_answer s c i a)
    deliver_formation : (i c v : ℕ) → Member (formation i c v) s.pool
        → (s.replicas c).status ≡ waiting → (s.replicas c).promised ≡ v → (s.replicas c).complete ≡ true
        → Next n s (after_formation s c v)
    deliver_entry : (p b v k : ℕ) (e : Entry E) → Member (entry p b v k e) s.pool
        → (s.replicas b).status ≡ active → (s.replicas b).current ≡ v → k ≡ (s.replicas b).length
        → Next n s (after_entry s p b v e)
    deliver_acknowledgement : (b p v l : ℕ) → Member (acknowledgement b p v l) s.pool → IsPrimary s p → (s.replicas p).current ≡ v
        → Next n s (after_acknowledgement s b p l)
    join : (i p : ℕ) → (s.replicas i).status ≡ waiting → IsPrimary s p
        → (s.replicas p).current ≡ (s.replicas i).promised → (s.replicas i).current < (s.replicas p).current
        → Next n s (after_join s i p)
    -- the slip at place k of the primary's book: a majority acknowledged more than k entries
    settle_confirmed : (i k : ℕ) → IsPrimary s i → k < (s.replicas i).length
        → Majority n (λ d. ltb (suc k) ((s.replicas i).acknowledged d))
        → Next n s (note s (confirmed (s.replicas i).current (suc k) (s.replicas i).book))
    -- the slip of an earlier view z at place k, which the primary does not have: a majority is active under it
    settle_lost : (i z k : ℕ) → IsPrimary s i → z < (s.replicas i).current → (k < (s.replicas i).length → ((s.replicas i).book k).view ≢ z)
        → Majority n (λ d. ltb 0 ((s.replicas i).acknowledged d))
        → Next n s (note s (lost (s.replicas i).current z k))
    lookup : (i : ℕ) → (s.replicas i).status ≡ active
        → Next n s (note s (looked_up (s.replicas i).current (s.replicas i).length (s.replicas i).book))
    crash : (i : ℕ) → (s.replicas i).status ≢ down → Next n s (with_replica s i (forgetting (s.replicas i) down))
    recover : (i : ℕ) → (s.replicas i).status ≡ down → Next n s (with_replica s i (forgetting (s.replicas i) waiting))
    -- messages are lost, repeated and reordered
    lose : (ms : List (Message E)) → ((m : Message E) → Member m ms → Member m s.pool) → Next n s (with_pool s ms)

  -- the site that runs start from: all below n are active in the view 0 under the primary 0, with empty books

  abbrev pub absent_replica : (ℕ → Entry E) → Replica E
  absent_replica blank = record {
    status = down;
    current = 0;
    promised = 0;
    complete = false;
    primary = 0;
    length = 0;
    book = blank;
    acknowledged = λ _. 0;
    answers = λ _. none;
    floor = λ _. 0;
  }

  -- the primary has acknowledged its own length
  abbrev pub active_replica : (ℕ → Entry E) → ℕ → Replica E
  active_replica blank c = entering (absent_replica blank) 0 0 0 blank (pick (ℕ_discrete c 0) (upd (λ _. 0) 0 1) (λ _. 0))

  abbrev pub made_replica : ℕ → (ℕ → Entry E) → ℕ → Replica E
  made_replica n blank c = pick (dec_lt c n) (active_replica blank c) (absent_replica blank)

  abbrev pub unopened_view : (ℕ → Entry E) → View E
  unopened_view blank = record { opened_by = 0; formed_for = 0; opening_length = 0; opening_book = blank; log_length = 0; log = blank }

  abbrev pub first_view : (ℕ → Entry E) → View E
  first_view blank = record (unopened_view blank) { opened_by = 1; formed_for = 1 }

  abbrev pub made_view : (ℕ → Entry E) → ℕ → View E
  made_view blank = upd (λ _. unopened_view blank) 0 (first_view blank)

  abbrev pub made : ℕ → (ℕ → Entry E) → Site E
  made n blank = record { replicas = made_replica n blank; views = made_view blank; pool = []; history = opening 0 0 blank ∷ [] }

  pub data Run (n : ℕ) (blank : ℕ → Entry E) : Site E → Type 0 where
    start : Run n blank (made n blank)
    then : {s t : Site E} → Run n blank s → Next n s t → Run n blank t
