-- How a state of the site belongs to a state of the protocol, and its history to the protocol's.
use Rattle.std.proofs.Common.{◌≡◌, ℕ, suc, ◌-◌, ◌*◌, ◌<◌, ◌≤◌, Bool, true, List, [], ◌∷◌, length, get_or, Some, None, Option}
use Rattle.numbers.specs.declared.rows.Row.{Row}
use Rattle.numbers.specs.declared.views.View.{View}
use Rattle.numbers.specs.Rows.{row_ok}
use Rattle.numbers.specs.Views.{controller_of}
use Rattle.entries.specs.declared.messages.Body.{Body}
use Rattle.entries.specs.declared.messages.Body.TheVariants.{Invitation, Answer, Form, Entry as Carries, Acknowledgement}
use Rattle.entries.specs.declared.book.Entry.{Entry}
use Rattle.entries.specs.declared.messages.Message.{Message}
use Rattle.entries.specs.declared.messages.Reply.{Reply}
use Rattle.entries.specs.declared.messages.Reply.TheVariants.{Normal, Crash}
use Rattle.entries.specs.declared.kinds.Answer.{Answer as Light}
use Rattle.entries.specs.declared.kinds.Question.{Question}
use Rattle.entries.specs.Lookups.{looked}
use Rattle.cabinet.specs.Cells.{cell_at}
use Rattle.controller.specs.declared.records.Controller.{Controller}
use Rattle.controller.specs.declared.records.Status.{Status}
use Rattle.controller.specs.declared.records.Status.TheVariants.{Down, Waiting, Manager, Backup, Primary}
use Rattle.controller.specs.Books.{item}
use Rattle.controller.specs.Records.{down_record, is_up}
use Rattle.site.specs.States.{State, book, row}
use Rattle.protocol.specs.Members.{Member}
use Rattle.protocol.specs.Views.{view_number}
use Rattle.protocol.specs.Model as model
use Rattle.protocol.specs.Model.{active, manager, waiting, down, none, crashed, normal, invitation, answer, formation, entry, acknowledgement, Replica, Site}
use Rattle.runs.specs.History.{Event, handed, opened, confirmed, lost, looked_up}

-- Translations

-- a view as one number; controllers below 8 make that one to one
abbrev pub code : View → ℕ
code v = view_number v.count.number v.controller.number

abbrev pub Small : View → Type 0
Small v = v.controller.number < 8

-- an answer, and an acknowledged length, or none
abbrev pub the_answer : Option Reply → model.Answer
the_answer None = none
the_answer (Some (Normal u l p)) = normal (code u) l p
the_answer (Some (Crash u)) = crashed (code u)

abbrev pub SmallAnswer : Option Reply → Type 0
SmallAnswer None = Unit {0}
SmallAnswer (Some (Normal u l p)) = Small u
SmallAnswer (Some (Crash u)) = Small u

abbrev pub the_length : Option ℕ → ℕ
the_length None = 0
the_length (Some l) = suc l

-- the views in a cell, and those of a replica
pub record CellR (w : Row) (v u : ℕ) : Type 0 where
  pub kept : row_ok w ≡ true
  pub current : v ≡ code w.current
  pub promised : u ≡ code w.promised

-- a primary's own acknowledged length is its length l
abbrev pub OwnR : ℕ → ℕ → Status → Type 0
OwnR c l (Primary lengths) = get_or lengths c None ≡ Some l
OwnR c l st = Unit {0}

-- the sizes of a site that is made
pub record SizesR (n : ℕ) (is_made : Bool) (k cap : ℕ) : Type 0 where
  pub made : is_made ≡ true
  pub size : k ≡ n
  pub least : 3 ≤ n
  pub most : n ≤ 7
  pub cap_most : cap ≤ 65535

-- the lengths of its memory, where p messages fit the pool
pub record MemoryR (n cap p books pool rows cells : ℕ) : Type 0 where
  pub books_long : books ≡ n * cap
  pub pool_long : pool ≡ p
  pub rows_long : rows ≡ 7
  pub cells_long : cells ≡ 7

module _ {E : Type 0} where
  abbrev pub the_entry : Entry E → model.Entry E
  the_entry e = record { view = code e.view; what = e.change }

  abbrev pub message_of : ℕ → ℕ → ℕ → Body E → model.Message E
  message_of a b v Invitation = invitation a b v
  message_of a b v (Answer r) = answer a b v (the_answer (Some r))
  message_of a b v Form = formation a b v
  message_of a b v (Carries k e) = entry a b v (k.number - 1) (the_entry e)
  message_of a b v (Acknowledgement l) = acknowledgement a b v l

  abbrev pub the_message : Message E → model.Message E
  the_message m = message_of m.sender.number m.addressee.number (code m.view) m.body

  -- a book as a length and a function from places
  pub record BookR (b : List (Entry E)) (l : ℕ) (f : ℕ → model.Entry E) : Type 0 where
    pub long : l ≡ length b
    pub same : (j : ℕ) (e : Entry E) → item b j ≡ Some e → f j ≡ the_entry e
    pub small : (j : ℕ) (e : Entry E) → item b j ≡ Some e → Small e.view

  -- A controller and its replica

  -- the status, with what belongs to it, of controllers below n
  abbrev pub StatusR : ℕ → ℕ → Status → Replica E → Type 0
  StatusR n c Down r = r.status ≡ down
  StatusR n c Waiting r = r.status ≡ waiting
  StatusR n c (Manager a) r =
      (r.status ≡ manager) × (length a ≡ 7)
      × ((d : ℕ) → d < n → r.answers d ≡ the_answer (get_or a d None))
      × ((d : ℕ) → d < n → SmallAnswer (get_or a d None))
  StatusR n c Backup r = r.status ≡ active
  StatusR n c (Primary l) r =
      (r.status ≡ active) × (length l ≡ 7) × (r.primary ≡ c)
      × ((d : ℕ) → d < n → r.acknowledged d ≡ the_length (get_or l d None))

  -- l entries of the part b of the books, and the k entries f of a replica
  pub record LogR (l : ℕ) (b : List (Entry E)) (k : ℕ) (f : ℕ → model.Entry E) : Type 0 where
    pub len : k ≡ l
    pub within : l ≤ length b
    pub same : (j : ℕ) (e : Entry E) → j < l → item b j ≡ Some e → f j ≡ the_entry e
    pub small : (j : ℕ) (e : Entry E) → j < l → item b j ≡ Some e → Small e.view

  -- controller c's record x, the row in its cell and its part b of the books, and its replica r
  pub record ReplicaR (n c : ℕ) (x : Controller) (w : Row) (b : List (Entry E)) (r : Replica E) : Type 0 where
    pub status : StatusR n c x.status r
    pub views : is_up x ≡ true → x.views ≡ w
    pub cell : CellR w r.current r.promised
    pub complete : r.complete ≡ x.complete
    pub primary : r.primary ≡ x.primary.number
    pub log : LogR x.length b r.length r.book
    pub own : OwnR c x.length x.status

  -- the messages in use are known to the protocol, which keeps every one
  pub record MessagesR (count p : ℕ) (pool : List (Message E)) (sent : List (model.Message E)) : Type 0 where
    pub holds : count ≤ p
    pub known : (j : ℕ) (x : Message E) → j < count → item pool j ≡ Some x → Member (the_message x) sent

  -- Histories

  module _ (says : E → Question → Option Light) (unsettled : Light) where
    abbrev pub EventR : Event E → model.Event E → Type 0
    EventR (handed t x) (model.handed w k y) = (w ≡ code t.view) × Small t.view × (t.place.number ≡ suc k) × (x ≡ y)
    EventR (opened v b) (model.opening w l f) = (w ≡ code v) × Small v × BookR b l f
    EventR (confirmed t v b) (model.confirmed w k f) =
        (w ≡ code v) × Small v × Small t.view × (t.place.number ≡ k) × (1 ≤ k) × BookR b (k - 1) f × ((f (k - 1)).view ≡ code t.view)
    EventR (lost t) (model.lost w z k) = (z ≡ code t.view) × Small t.view × (t.place.number ≡ suc k)
    EventR (looked_up v b q a) (model.looked_up w l f) = (w ≡ code v) × Small v × BookR b l f × (a ≡ looked says unsettled b q)
    EventR e f = ⊥

    abbrev pub HistoryR : List (Event E) → List (model.Event E) → Type 0
    HistoryR [] [] = Unit {0}
    HistoryR (x ∷ xs) (y ∷ ys) = EventR x y × HistoryR xs ys
    HistoryR xs ys = ⊥

    -- The whole

    pub record Bond (n : ℕ) (s : State E) (h : List (Event E)) (m : Site E) : Type 0 where
      pub sizes : SizesR n s.site.made s.site.n s.site.cap
      pub memory : MemoryR n s.site.cap s.site.pool (length s.books) (length s.pool) (length s.site.rows) (length s.cells)
      pub replicas : (c : ℕ) → c < n → ReplicaR n c (row s (controller_of c)) (cell_at s.cells c).row (book s (controller_of c)) (m.replicas c)
      pub rest : (c : ℕ) → n ≤ c → row s (controller_of c) ≡ down_record
      pub messages : MessagesR s.site.count s.site.pool s.pool m.pool
      pub histories : HistoryR h m.history
