-- What controller i has after an action whose put is told to be taken, and what it then has to show.
use Rattle.std.proofs.Common.{◌≡◌, ℕ, ◌-◌, ◌<◌, Bool, true, false, cond, List, length, set, Option, sym, refl, ap, ◌∙◌, subst, arith, length-set}
use Rattle.std.proofs.lemmas.List.{get_or-set_same}
use Rattle.std.proofs.lemmas.Bool.{not-true}
use Rattle.numbers.specs.declared.rows.Row.{Row}
use Rattle.numbers.specs.declared.views.ControllerNumber.{ControllerNumber}
use Rattle.entries.specs.declared.kinds.Answer.{Answer as Light}
use Rattle.entries.specs.declared.kinds.Question.{Question}
use Rattle.cabinet.specs.Cells.{Cell, cell_at, fresh, is_worn}
use Rattle.controller.specs.Actions.{Action, cells_after, own, put_asks}
use Rattle.controller.proofs.Actions.{AllYes, cells_others}
use Rattle.site.specs.States.{State, book, put_share}
use Rattle.protocol.specs.Updates.{upd}
use Rattle.protocol.specs.Model as model
use Rattle.protocol.specs.Model.{Replica, Site}
use Rattle.runs.specs.History.{Event}
use Rattle.runs.proofs.Bond.{Bond, ReplicaR}
use Rattle.runs.proofs.Frame.{frame_own}

-- the views in the cell after an action: those of the new record where it puts, else the old ones
abbrev pub row_after : Bool → Row → Row → Row
row_after true w old = w
row_after false w old = old

module _ (cs : List Cell) (i : ControllerNumber) (within : i.number < length cs) where
  put_row_in : (b : Bool) (w : Row) → AllYes (put_asks b cs i w) → (cell_at (cells_after b cs i w) i.number).row ≡ row_after b w (cell_at cs i.number).row
  put_row_in false w ready = refl
  put_row_in true w ready =
      let new : Cell = record { row = w; left = (cell_at cs i.number).left - 1 } in
      ap (λ z. (cell_at (cond z cs (set cs i.number new)) i.number).row) (not-true _ ready.0)
      ∙ ap (λ c. c.row) (get_or-set_same cs i.number new (fresh 0) within)

  put_long : (b : Bool) (w : Row) → length (cells_after b cs i w) ≡ length cs
  put_long false w = refl
  put_long true w = by (is_worn cs i.number)
    where
      by : (worn : Bool) → length (cond worn cs (set cs i.number (record { row = w; left = (cell_at cs i.number).left - 1 }))) ≡ length cs
      by true = refl
      by false = length-set cs i.number _

module _ {E : Type 0} (says : E → Question → Option Light) (unsettled : Light) (n : ℕ) (s : State E) (h : List (Event E)) (m : Site E) (bond : Bond says unsettled n s h m) (i : ControllerNumber) (below : i.number < n) where
  -- action a was taken, whose replica is then r
  pub frame_action : (a : Action E) (r : Replica E) (views : ℕ → model.View E) → AllYes (put_asks a.puts s.cells i a.row.views) → length a.book ≡ length (book s i)
      → ReplicaR n i.number a.row (row_after a.puts a.row.views (cell_at s.cells i.number).row) a.book r
      → Bond says unsettled n (put_share s i (own a.row a.book (cells_after a.puts s.cells i a.row.views))) h (record { replicas = upd m.replicas i.number r; views = views; pool = m.pool; history = m.history })
  frame_action a r views ready long here =
      let most = bond.sizes.most in
      let seven = bond.memory.cells_long in
      let within : i.number < length s.cells = omega arith in
      frame_own says unsettled n s h m bond i below a.row a.book (cells_after a.puts s.cells i a.row.views) r views long
      (put_long s.cells i within a.puts a.row.views ∙ seven) (cells_others s.cells i a.puts a.row.views)
      (subst (λ v. ReplicaR n i.number a.row v a.book r) (sym (put_row_in s.cells i within a.puts a.row.views ready)) here)
