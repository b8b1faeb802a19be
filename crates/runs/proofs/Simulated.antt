-- What is shown of a step: the protocol has a run that the state after it belongs to.
use Rattle.std.proofs.Common.{◌≡◌, ℕ, ◌<◌, List, [], Ok, Err, Option, sym, subst}
use Rattle.entries.specs.declared.kinds.Answer.{Answer as Light}
use Rattle.entries.specs.declared.kinds.Question.{Question}
use Rattle.numbers.specs.declared.views.ControllerNumber.{ControllerNumber}
use Rattle.controller.specs.declared.outcomes.Outcome.{Outcome}
use Rattle.controller.specs.Actions.{Action, Own, cells_after, own, put_asks, room_asks, taken}
use Rattle.controller.proofs.Actions.{AllYes, asks_split, effect_split}
use Rattle.site.specs.declared.faults.Fault.{Fault}
use Rattle.site.specs.States.{Done, State, done, has_room, sends}
use Rattle.site.specs.Steps.{acts, other_asks, placed, refuse, share, site_asks, step_at, step_between}
use Rattle.site.proofs.Placing.{put_same}
use Rattle.protocol.specs.Model as model
use Rattle.protocol.specs.Model.{Run, Site}
use Rattle.runs.specs.History.{Event}
use Rattle.runs.proofs.Bond.{Bond}
use Rattle.runs.proofs.Ranges.{member_below}

module _ {E : Type 0} (says : E → Question → Option Light) (unsettled : Light) (n : ℕ) (blank : ℕ → model.Entry E) where
  pub record Simulated (s : State E) (h : List (Event E)) : Type 0 where
    pub site : Site E
    pub run : Run n blank site
    pub bond : Bond says unsettled n s h site

-- a refused step leaves all as it was
pub stays : {E : Type 0} {says : E → Question → Option Light} {unsettled : Light} {n : ℕ} {blank : ℕ → model.Entry E} {s : State E} {h : List (Event E)} {m : Site E}
    → Run n blank m → Bond says unsettled n s h m → Simulated says unsettled n blank s h
stays {m = m} run bond = record { site = m; run = run; bond = bond }

-- What holds of a state that stays, and of what controller i leaves where all is answered yes, holds of its step at the site

module _ {E : Type 0} (P : Done (Outcome E) E → Type 0) (s : State E) (i : ControllerNumber) (action : ControllerNumber → Own E → Action E) (none : (f : Fault) → P (done (Err f) s)) where
  abbrev a : Action E
  a = action i (share s i)

  -- what is left where nothing of its own changes
  pub reads : own a.row a.book (cells_after a.puts s.cells i a.row.views) ≡ share s i → P (done (Ok a.gives) (sends s a.sent)) → P (placed s i (taken i (has_room s) (share s i) a))
  reads same shown = subst (λ z. P (done (Ok a.gives) (sends z a.sent))) (sym (put_same s i (own a.row a.book (cells_after a.puts s.cells i a.row.views)) same)) shown

  pub acts_split : (AllYes a.asks → AllYes (room_asks (has_room s) a.sent) → AllYes (put_asks a.puts s.cells i a.row.views) → P (placed s i (taken i (has_room s) (share s i) a))) → P (acts s i action)
  acts_split go = effect_split i (has_room s) (share s i) (λ g. P (placed s i g)) a (λ k. none _) go

  pub at_split : (n : ℕ) → s.site.n ≡ n
      → (i.number < n → AllYes a.asks → AllYes (room_asks (has_room s) a.sent) → AllYes (put_asks a.puts s.cells i a.row.views) → P (placed s i (taken i (has_room s) (share s i) a)))
      → P (step_at s i action)
  at_split n size go = asks_split P (site_asks s i []) (refuse s i) (acts s i action) (λ k. none _) (λ ys. acts_split (go (member_below s.site.n n i size ys.1.0)))

  pub between_split : (n : ℕ) → s.site.n ≡ n → (b : ControllerNumber)
      → (i.number < n → b.number < n → AllYes a.asks → AllYes (room_asks (has_room s) a.sent) → AllYes (put_asks a.puts s.cells i a.row.views) → P (placed s i (taken i (has_room s) (share s i) a)))
      → P (step_between s i b action)
  between_split n size b go =
      asks_split P (site_asks s i (other_asks s i b)) (refuse s i) (acts s i action) (λ k. none _)
      (λ ys. acts_split (go (member_below s.site.n n i size ys.1.0) (member_below s.site.n n b size ys.1.1.0)))
