-- A controller's step at a site: what the controller's call gave, from what the site lent it, placed in the site.
use Rattle.std.proofs.Common.{◌≡◌, ℕ, ◌-◌, ◌<◌, Bool, List, [], length, get_or, take, drop, set, Some, Ok, Err, Option, Result, sym, refl, ap, ◌∙◌, subst, ltb-true}
use borrow.Rule.Slice.PartMut.{put_mid}
use Rattle.std.proofs.lemmas.List.{set-get_or}
use Rattle.numbers.specs.declared.views.ControllerNumber.{ControllerNumber}
use Rattle.entries.specs.declared.book.Entry.{Entry}
use Rattle.entries.specs.declared.messages.Message.{Message}
use Rattle.cabinet.specs.Cells.{Cell}
use Rattle.numbers.specs.declared.members.Member.{Member}
use Rattle.controller.specs.declared.faults.Fault.{Fault as Stopped}
use Rattle.controller.specs.declared.outcomes.Outcome.{Outcome}
use Rattle.controller.specs.declared.records.Controller.{Controller}
use Rattle.controller.specs.Actions.{Action, Effect, Own, effect, own}
use Rattle.controller.specs.Records.{down_record}
use Rattle.controller.proofs.Actions.{asks_go, kept, sent_room}
use Rattle.site.specs.declared.faults.Fault.{Fault}
use Rattle.site.specs.declared.records.Site.{Site}
use Rattle.site.specs.Faults.{site_fault}
use Rattle.site.specs.States.{IsMember, IsPair, State, book, done, has_room, put_share, sends, state, with_part}
use Rattle.site.specs.Steps.{acts, left_by, other_asks, refuse, share, site_asks, step_at, step_between}
use Rattle.site.proofs.Lent.{LentTo, lent, part_back, part_same, row_back}

-- the same site with other rows
abbrev pub with_rows : Site → List Controller → Site
with_rows x rs = record x { rows = rs }

-- a row that came back as it was
pub rows_back : (x : Site) (j : ℕ) → with_rows x (set x.rows j (get_or x.rows j down_record)) ≡ x
rows_back x j = ap (with_rows x) (set-get_or x.rows j down_record)

-- all came back as it was
pub put_same : {E : Type 0} (s : State E) (i : ControllerNumber) (o : Own E) → o ≡ share s i → put_share s i o ≡ s
put_same s i o same =
    ap (put_share s i) same
    ∙ ap (λ z. state z s.cells (with_part s.books s.site.cap i.number (book s i)) s.pool) (rows_back s.site i.number)
    ∙ ap (λ z. state s.site s.cells z s.pool) (part_same s.books s.site.cap i.number)

-- the controller's result, with its fault as the site's
abbrev pub named : {E : Type 0} → Result (Outcome E) Stopped → Result (Outcome E) Fault
named (Ok x) = Ok x
named (Err f) = Err (site_fault f)

module _ {E : Type 0} (s : State E) (i : ControllerNumber) (action : ControllerNumber → Own E → Action E) where
  -- the site's questions are answered yes
  pub at_go : {m : Member} → IsMember s.site (length s.books) (length s.pool) i m → step_at s i action ≡ acts s i action
  at_go member = asks_go (site_asks s i []) (refuse s i) (acts s i action) (member.made, (member.below, tt))

  pub between_go : {b : ControllerNumber} {m : Member × Member} → IsPair s.site (length s.books) (length s.pool) i b m → step_between s i b action ≡ acts s i action
  between_go {b = b} pair = asks_go (site_asks s i (other_asks s i b)) (refuse s i) (acts s i action) (pair.first.made, (pair.first.below, (pair.second.below, (pair.two, tt))))

  -- what is left is as it was where the step was refused
  by_result : (t : State E) (r : Result (Outcome E) Stopped) → ((f : Stopped) → r ≡ Err f → t ≡ s) → left_by s i r t ≡ done (named r) t
  by_result t (Ok x) same = refl
  by_result t (Err f) same = ap (done (Err (site_fault f))) (sym (same f refl))

  abbrev left : Effect E → State E
  left g = sends (put_share s i g.own) g.sent

  -- the site's step is what the controller's step gave
  pub acts_is : (g : Effect E) → effect i (has_room s) (share s i) action ≡ g → acts s i action ≡ done (named g.result) (sends (put_share s i g.own) g.sent)
  acts_is g e =
      let o : Effect E = effect i (has_room s) (share s i) action in
      subst (λ z. acts s i action ≡ done (named z.result) (left z)) e (by_result (left o) o.result (λ f err.
      let same = kept i (has_room s) (share s i) (action i (share s i)) f err in
      ap (λ z. sends (put_share s i o.own) z) same.1 ∙ put_same s i o.own same.0))

-- A call that was lent controller i's record, which is row j, and of which r is the result, and m is sent

module _ {E : Type 0} (x : Site) (cs : List Cell) (books : List (Entry E)) (pool : List (Message E)) (k i : ControllerNumber) (j : ℕ) (room : Bool) (action : ControllerNumber → Own E → Action E)
    (r : Result (Outcome E) Stopped) (m : Option (Message E)) (fits : room ≡ has_room (state x cs books pool)) where
  abbrev s : State E
  s = state x cs books pool

  room_for : {y : Message E} (o : Own E) → (effect k room o action).sent ≡ Some y → s.site.count < length s.pool
  room_for {y = y} o is = ltb-true s.site.count (length s.pool) (sym fits ∙ sent_room k room o (action k o) y is)

  module _ (who : k ≡ i) (at : j ≡ k.number) (row' : Controller) (cs' : List Cell)
      (told : (b : List (Entry E)) → effect k room (own (get_or x.rows j down_record) b cs) action ≡ record { result = r; own = own row' b cs'; sent = m }) where
    -- the record has changed, and the cells
    pub row_acts : acts s i action ≡ done (named r) (sends (state (with_rows x (set x.rows j row')) cs' books pool) m)
    row_acts =
        let j_is : j ≡ i.number = at ∙ ap (λ z. z.number) who in
        let given : effect i (has_room s) (share s i) action ≡ record { result = r; own = own row' (book s i) cs'; sent = m } =
        sym (ap (λ z. effect z room (own (get_or x.rows j down_record) (book s i) cs) action) who
        ∙ ap (λ z. effect i room (own (get_or x.rows z down_record) (book s i) cs) action) j_is
        ∙ ap (λ z. effect i z (share s i) action) fits)
        ∙ told (book s i) in
        acts_is s i action _ given
        ∙ ap (λ z. done (named r) (sends (state (with_rows x (set x.rows i.number row')) cs' z pool) m)) (part_same books x.cap i.number)
        ∙ ap (λ z. done (named r) (sends (state (with_rows x (set x.rows z row')) cs' books pool) m)) (sym j_is)

    -- what is sent has room
    pub row_room : {y : Message E} → m ≡ Some y → s.site.count < length s.pool
    row_room is = room_for (own (get_or x.rows j down_record) [] cs) (ap (λ z. z.sent) (told []) ∙ is)

  -- the record has been read alone
  pub row_read : k ≡ i → j ≡ k.number → ((b : List (Entry E)) → effect k room (own (get_or x.rows j down_record) b cs) action ≡ record { result = r; own = own (get_or x.rows j down_record) b cs; sent = m })
      → acts s i action ≡ done (named r) (sends s m)
  row_read who at told = row_acts who at _ cs told ∙ ap (λ z. done (named r) (sends (state z cs books pool) m)) (rows_back x j)

  -- its part of the books, from a to b, was lent too
  module _ (a b : ℕ) (given : LentTo x k i j a b) where
    abbrev lent_own : Own E
    lent_own = own (get_or x.rows j down_record) (take (b - a) (drop a books)) cs

    at_share : (g : Effect E) → effect k room lent_own action ≡ g → effect i (has_room s) (share s i) action ≡ g
    at_share g told =
        sym (lent x books k i j a b given (λ z y p. effect z room (own y p cs) action) ∙ ap (λ z. effect i z (share s i) action) fits) ∙ told

    -- all that was lent has changed, and the part is back at its place
    pub part_placed : (row' : Controller) (book' : List (Entry E)) (cs' : List Cell) → effect k room lent_own action ≡ record { result = r; own = own row' book' cs'; sent = m }
        → acts s i action ≡ done (named r) (sends (state (with_rows x (set x.rows j row')) cs' (with_part books x.cap i.number book') pool) m)
    part_placed row' book' cs' told =
        acts_is s i action _ (at_share _ told) ∙ ap (λ z. done (named r) (sends (state z cs' (with_part books x.cap i.number book') pool) m)) (sym (row_back x books k i j a b given row' row' refl))

    pub part_acts : (row' : Controller) (book' : List (Entry E)) (cs' : List Cell) → effect k room lent_own action ≡ record { result = r; own = own row' book' cs'; sent = m }
        → acts s i action ≡ done (named r) (sends (state (with_rows x (set x.rows j row')) cs' (put_mid a (b - a) books book') pool) m)
    part_acts row' book' cs' told =
        part_placed row' book' cs' told ∙ ap (λ z. done (named r) (sends (state (with_rows x (set x.rows j row')) cs' z pool) m)) (sym (part_back x books k i j a b given book' book' refl))

    -- nothing has changed
    pub part_read : effect k room lent_own action ≡ record { result = r; own = lent_own; sent = m } → acts s i action ≡ done (named r) (sends s m)
    part_read told =
        acts_is s i action _ (at_share _ told)
        ∙ ap (λ z. done (named r) (sends (put_share s i z) m)) (lent x books k i j a b given (λ _ y p. own y p cs))
        ∙ ap (λ z. done (named r) (sends z m)) (put_same s i (share s i) refl)

    -- what is sent has room
    pub part_room : {o' : Own E} {y : Message E} → effect k room lent_own action ≡ record { result = r; own = o'; sent = m } → m ≡ Some y → s.site.count < length s.pool
    part_room told is = room_for lent_own (ap (λ z. z.sent) told ∙ is)
