-- What a step that touches one controller has to show, so that site and protocol still belong together.
use Rattle.std.proofs.Common.{◌≡◌, ℕ, ◌+◌, ◌*◌, ◌<◌, ◌≤◌, ◌≢◌, ◌⊎◌, List, [], ◌∷◌, ◌++◌, length, get_or, set, Some, Option, sym, ap, ◌∙◌, subst, inl, inr, arith, length-set}
use Rattle.std.proofs.lemmas.List.{get_or-set_other, get_or-set_same}
use Rattle.std.proofs.lemmas.Bool.{cases_eq}
use Rattle.std.proofs.lemmas.Option.{same_Some}
use Rattle.numbers.specs.declared.rows.Row.{Row}
use Rattle.numbers.specs.declared.views.ControllerNumber.{ControllerNumber}
use Rattle.entries.specs.declared.book.Entry.{Entry}
use Rattle.entries.specs.declared.messages.Message.{Message}
use Rattle.entries.specs.declared.kinds.Answer.{Answer as Light}
use Rattle.entries.specs.declared.kinds.Question.{Question}
use Rattle.cabinet.specs.Cells.{Cell, cell_at}
use Rattle.cabinet.proofs.Blocks.{over_length, block_here}
use Rattle.cabinet.proofs.Cuts.{parts_apart}
use Rattle.controller.specs.declared.records.Controller.{Controller}
use Rattle.controller.specs.Actions.{own}
use Rattle.controller.specs.Books.{item}
use Rattle.controller.specs.Records.{down_record}
use Rattle.site.specs.States.{State, book, part, put_share, sent, with_count, with_part, with_row}
use Rattle.protocol.specs.Members.{Member}
use Rattle.protocol.specs.Updates.{upd}
use Rattle.protocol.proofs.Updates.{upd_all}
use Rattle.protocol.specs.Model as model
use Rattle.protocol.specs.Model.{Replica, Site, note, send}
use Rattle.runs.specs.History.{Event}
use Rattle.runs.proofs.Bond.{Bond, EventR, ReplicaR, the_message}
use Rattle.runs.proofs.Items.{item_set_other, item_set_same}
use Rattle.runs.proofs.Members.{member_front, member_last}
use Rattle.runs.proofs.Parts.{part_long, with_part_other}

-- the same of what equals a controller's record, row and part
pub replica_as : {E : Type 0} (n c : ℕ) (x y : Controller) (v w : Row) (a b : List (Entry E)) (r : Replica E)
    → y ≡ x → w ≡ v → b ≡ a → ReplicaR n c x v a r → ReplicaR n c y w b r
replica_as n c x y v w a b r same_x same_v same_a h =
    subst (λ z. ReplicaR n c z w b r) (sym same_x) (subst (λ z. ReplicaR n c x z b r) (sym same_v) (subst (λ z. ReplicaR n c x v z r) (sym same_a) h))

module _ {E : Type 0} (says : E → Question → Option Light) (unsettled : Light) (n : ℕ) (s : State E) (h : List (Event E)) (m : Site E) (bond : Bond says unsettled n s h m) where
  -- i's part is within the books
  fits : (i : ControllerNumber) → i.number < n → i.number * s.site.cap + s.site.cap ≤ length s.books
  fits i below = omega (arith, parts_apart i.number n s.site.cap below, bond.memory.books_long)

  -- the record of i, the cells and the books changed, and no cell or part of another controller
  framed : (i : ControllerNumber) → i.number < n → (x : Controller) (cells : List Cell) (books : List (Entry E)) (r : Replica E) (views : ℕ → model.View E)
      → length cells ≡ 7 → ((c : ℕ) → c ≢ i.number → cell_at cells c ≡ cell_at s.cells c)
      → length books ≡ length s.books → ((c : ℕ) → c ≢ i.number → part books s.site.cap c ≡ part s.books s.site.cap c)
      → ReplicaR n i.number x (cell_at cells i.number).row (part books s.site.cap i.number) r
      → Bond says unsettled n (record { site = with_row s.site i x; cells = cells; books = books; pool = s.pool }) h
      (record { replicas = upd m.replicas i.number r; views = views; pool = m.pool; history = m.history })
  framed i below x cells books r views cells_long cells_same books_long books_same here =
      let k : ℕ = i.number in
      let cap : ℕ = s.site.cap in
      let rows : List Controller = s.site.rows in
      let inside : k < length rows = omega (arith, bond.memory.rows_long, bond.sizes.most) in
      let mine : k < n → ReplicaR n k (get_or (set rows k x) k down_record) (cell_at cells k).row (part books cap k) r =
      λ lt. subst (λ z. ReplicaR n k z (cell_at cells k).row (part books cap k) r) (sym (get_or-set_same rows k x down_record inside)) here in
      let others : (c : ℕ) → c ≢ k → c < n → ReplicaR n c (get_or (set rows k x) c down_record) (cell_at cells c).row (part books cap c) (m.replicas c) =
      λ c other lt. replica_as n c (get_or rows c down_record) (get_or (set rows k x) c down_record) (cell_at s.cells c).row (cell_at cells c).row
      (part s.books cap c) (part books cap c) (m.replicas c)
      (get_or-set_other rows k c x down_record other) (ap (λ z. z.row) (cells_same c other)) (books_same c other) (bond.replicas c lt) in
      record {
        sizes = bond.sizes;
        memory = record { books_long = books_long ∙ bond.memory.books_long; pool_long = bond.memory.pool_long; rows_long = length-set rows k x ∙ bond.memory.rows_long; cells_long = cells_long };
        replicas = upd_all (λ c y. c < n → ReplicaR n c (get_or (set rows k x) c down_record) (cell_at cells c).row (part books cap c) y) m.replicas k r mine others;
        rest = λ c above. get_or-set_other rows k c x down_record (λ e. omega (arith, e)) ∙ bond.rest c above;
        messages = bond.messages;
        histories = bond.histories;
      }

  -- what controller i has changed: its record, its part of the books, and the cells, of which no other; `views` is the protocol's own record of views, which the bond does not speak of
  pub frame_own : (i : ControllerNumber) → i.number < n → (x : Controller) (b : List (Entry E)) (cells : List Cell) (r : Replica E) (views : ℕ → model.View E)
      → length b ≡ length (book s i)
      → length cells ≡ 7 → ((c : ℕ) → c ≢ i.number → cell_at cells c ≡ cell_at s.cells c)
      → ReplicaR n i.number x (cell_at cells i.number).row b r
      → Bond says unsettled n (put_share s i (own x b cells)) h (record { replicas = upd m.replicas i.number r; views = views; pool = m.pool; history = m.history })
  frame_own i below x b cells r views long long_cells others here =
      let cap : ℕ = s.site.cap in
      let within = fits i below in
      let long_b : length b ≡ cap = long ∙ part_long s.books cap i.number within in
      framed i below x cells (with_part s.books cap i.number b) r views long_cells others
      (over_length s.books (i.number * cap) cap b within long_b) (with_part_other s.books cap i.number b within long_b)
      (subst (λ z. ReplicaR n i.number x (cell_at cells i.number).row z r) (sym (block_here s.books (i.number * cap) cap b within long_b)) here)

  -- other messages in the pools, k of them in use
  pub frame_pool : (k : ℕ) (pool : List (Message E)) (sent_all : List (model.Message E)) → length pool ≡ length s.pool → k ≤ length s.pool
      → ((j : ℕ) (x : Message E) → j < k → item pool j ≡ Some x → Member (the_message x) sent_all)
      → Bond says unsettled n (record { site = with_count s.site k; cells = s.cells; books = s.books; pool = pool }) h (record { replicas = m.replicas; views = m.views; pool = sent_all; history = m.history })
  frame_pool k pool sent_all long holds messages =
      record {
        sizes = bond.sizes;
        memory = record { books_long = bond.memory.books_long; pool_long = long ∙ bond.memory.pool_long; rows_long = bond.memory.rows_long; cells_long = bond.memory.cells_long };
        replicas = bond.replicas;
        rest = bond.rest;
        messages = record { holds = omega (arith, bond.memory.pool_long); known = messages };
        histories = bond.histories;
      }

  -- a message more in both pools
  pub frame_send : (x : Message E) → s.site.count < length s.pool → Bond says unsettled n (sent s x) h (send m (the_message x))
  frame_send x room =
      frame_pool (s.site.count + 1) (set s.pool s.site.count x) (m.pool ++ (the_message x ∷ [])) (length-set s.pool s.site.count x) (omega arith)
      (λ j y lt read. at j y lt read (cases_eq j s.site.count))
    where
      at : (j : ℕ) (y : Message E) → j < s.site.count + 1 → item (set s.pool s.site.count x) j ≡ Some y
          → (j ≡ s.site.count) ⊎ (j ≡ s.site.count → ⊥) → Member (the_message y) (m.pool ++ (the_message x ∷ []))
      at j y lt read (inl e) =
          let new : Some x ≡ Some y = sym (item_set_same s.pool s.site.count x room) ∙ subst (λ k. item (set s.pool s.site.count x) k ≡ Some y) e read in
          subst (λ z. Member (the_message z) (m.pool ++ (the_message x ∷ []))) (same_Some x y new) (member_last (the_message x) m.pool)
      at j y lt read (inr other) =
          member_front (the_message y) m.pool (the_message x ∷ []) (bond.messages.known j y (omega arith) (sym (item_set_other s.pool s.site.count j x other) ∙ read))

  -- an event more in both histories
  pub frame_note : (e : Event E) (f : model.Event E) → EventR says unsettled e f → Bond says unsettled n s (e ∷ h) (note m f)
  frame_note e f same = record { sizes = bond.sizes; memory = bond.memory; replicas = bond.replicas; rest = bond.rest; messages = bond.messages; histories = (same, bond.histories) }
