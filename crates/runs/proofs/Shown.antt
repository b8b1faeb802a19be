-- What is shown of a delivery: the state after it and what it tells belong to a run.
use Rattle.std.proofs.Common.{◌≡◌, ℕ, true, List, ◌++◌, Option, sym, subst}
use Rattle.entries.specs.declared.messages.Body.{Body}
use Rattle.entries.specs.declared.messages.Message.{Message}
use Rattle.entries.specs.declared.kinds.Answer.{Answer as Light}
use Rattle.entries.specs.declared.kinds.Question.{Question}
use Rattle.controller.specs.Books.{cap_of}
use Rattle.controller.specs.Deliveries.{takes}
use Rattle.controller.specs.Messages.{message_ok}
use Rattle.controller.specs.Messages.{message}
use Rattle.controller.specs.Actions.{Action, Effect, effect_of, put_asks, room_asks, taken}
use Rattle.controller.proofs.Actions.{AllYes, effect_split}
use Rattle.site.specs.States.{State, book, has_room}
use Rattle.site.specs.Steps.{placed, share, done_about}
use Rattle.protocol.specs.Members.{Member}
use Rattle.protocol.specs.Model as model
use Rattle.protocol.specs.Model.{Site}
use Rattle.runs.specs.History.{Event, deliver_tells}
use Rattle.runs.proofs.Bond.{the_message}
use Rattle.runs.proofs.Simulated.{Simulated}

module _ {E : Type 0} (says : E → Question → Option Light) (unsettled : Light) (n : ℕ) (blank : ℕ → model.Entry E) (s : State E) (h : List (Event E)) (j : ℕ) where
  -- message x was delivered, and its addressee gave g
  abbrev pub Shown : Message E → Effect E → Type 0
  Shown x g = let d = done_about j (placed s x.addressee g) in Simulated says unsettled n blank d.state (deliver_tells d.state d.result ++ h)

  -- so it is if it is shown of what is done where all is answered yes
  pub shown_split : (x : Message E) (a : Action E) → Simulated says unsettled n blank s h
      → (AllYes a.asks → AllYes (room_asks (has_room s) a.sent) → AllYes (put_asks a.puts s.cells x.addressee a.row.views) → Shown x (taken x.addressee (has_room s) (share s x.addressee) a))
      → Shown x (effect_of x.addressee (has_room s) (share s x.addressee) a)
  shown_split x a same go = effect_split x.addressee (has_room s) (share s x.addressee) (Shown x) a (λ k. same) go

  -- message x of the pool, in range, is taken by its addressee
  abbrev pub Takes : Site E → Message E → Type 0
  Takes m x = Member (the_message x) m.pool → message_ok n (cap_of (book s x.addressee)) x ≡ true
      → Shown x (effect_of x.addressee (has_room s) (share s x.addressee) (takes x x.addressee (share s x.addressee)))

  -- to show it of a message with the body b
  pub of_body : (m : Site E) (x : Message E) (b : Body E) → x.body ≡ b → Takes m (message x.sender x.addressee x.view b) → Takes m x
  of_body m x b e t = subst (λ y. Takes m (message x.sender x.addressee x.view y)) (sym e) t
