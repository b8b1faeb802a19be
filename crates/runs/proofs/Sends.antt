-- A pass of an entry and an invitation are sendings of the protocol.
use Rattle.std.proofs.Common.{◌≡◌, ℕ, ◌-◌, ◌<◌, true, List, Some, None, Option, refl, ap, ◌∙◌, subst, arith}
use Rattle.std.proofs.lemmas.Bool.{false≢true, ltb-true}
use Rattle.numbers.specs.declared.views.ControllerNumber.{ControllerNumber}
use Rattle.numbers.specs.declared.views.Place.{Place}
use Rattle.entries.specs.declared.messages.Body.TheVariants.{Invitation, Entry as Carries}
use Rattle.entries.specs.declared.book.Entry.{Entry}
use Rattle.entries.specs.declared.messages.Message.{Message}
use Rattle.entries.specs.declared.kinds.Answer.{Answer as Light}
use Rattle.entries.specs.declared.kinds.Question.{Question}
use Rattle.cabinet.specs.Cells.{cell_at}
use Rattle.controller.specs.Books.{at_place, in_use}
use Rattle.controller.specs.declared.outcomes.Outcome.{Outcome}
use Rattle.controller.specs.Messages.{message}
use Rattle.controller.specs.Primaries.{passes}
use Rattle.controller.specs.Records.{is_manager, is_primary, is_up}
use Rattle.controller.specs.ViewChanges.{invite}
use Rattle.site.specs.States.{Done, State, book, has_room, row, sent}
use Rattle.site.specs.Steps.{step_between}
use Rattle.protocol.specs.Model as model
use Rattle.protocol.specs.Model.{Next, Replica, Run, Site, send, then}
use Rattle.runs.specs.declared.steps.Step.TheVariants.{Invite, Pass}
use Rattle.runs.specs.History.{Event, told}
use Rattle.runs.specs.Runs.{step}
use Rattle.runs.proofs.Acting.{current_code, manager_is_manager, primary_leads, promised_code}
use Rattle.runs.proofs.Bond.{Bond, ReplicaR, code, the_message}
use Rattle.runs.proofs.Frame.{frame_send}
use Rattle.runs.proofs.Items.{item_of_take, place_item}
use Rattle.runs.proofs.Simulated.{Simulated, between_split, reads, stays}

module _ {E : Type 0} (says : E → Question → Option Light) (unsettled : Light) (n : ℕ) (blank : ℕ → model.Entry E)
    (s : State E) (h : List (Event E)) (m : Site E) (run : Run n blank m) (bond : Bond says unsettled n s h m) where
  abbrev Sim : State E → Type 0
  Sim t = Simulated says unsettled n blank t h

  abbrev P : Done (Outcome E) E → Type 0
  P d = Sim d.state

  -- the protocol may send the message that was sent
  sends : (x : Message E) → has_room s ≡ true → (y : model.Message E) → y ≡ the_message x → Next n m (send m y) → Sim (sent s x)
  sends x room y same next = record {
    site = send m (the_message x);
    run = then run (subst (λ z. Next n m (send m z)) same next);
    bond = frame_send says unsettled n s h m bond x (ltb-true _ _ room);
  }

  module _ (i b : ControllerNumber) where
    module _ (below : i.number < n) where
      abbrev r : Replica E
      r = m.replicas i.number

      bonded : ReplicaR n i.number (row s i) (cell_at s.cells i.number).row (book s i) r
      bonded = bond.replicas i.number below

      passing : (k : Place) → is_up (row s i) ≡ true → is_primary (row s i) ≡ true → has_room s ≡ true → (x : Entry E) → at_place (in_use (row s i) (book s i)) k.number ≡ Some x
          → Sim (sent s (message i b (row s i).views.current (Carries k x)))
      passing k up leads room x e =
          let used = item_of_take (row s i).length (book s i) (k.number - 1) x (place_item (in_use (row s i) (book s i)) k.number x e).1 in
          let within = used.0 in
          let len = bonded.log.len in
          sends (message i b (row s i).views.current (Carries k x)) room (model.entry i.number b.number r.current (k.number - 1) (r.book (k.number - 1)))
          (ap (λ z. model.entry i.number b.number z (k.number - 1) (r.book (k.number - 1))) (current_code bonded up)
          ∙ ap (λ z. model.entry i.number b.number (code (row s i).views.current) (k.number - 1) z) (bonded.log.same (k.number - 1) x within used.1))
          (model.pass i.number b.number (k.number - 1) (primary_leads n i.number m (row s i).status bonded.status leads) (omega arith))

      inviting : is_up (row s i) ≡ true → is_manager (row s i) ≡ true → has_room s ≡ true → Sim (sent s (message i b (row s i).views.promised Invitation))
      inviting up manages room =
          sends (message i b (row s i).views.promised Invitation) room (model.invitation i.number b.number r.promised)
          (ap (λ z. model.invitation i.number b.number z) (promised_code bonded up))
          (model.invite i.number b.number (manager_is_manager n i.number r (row s i).status bonded.status manages))

    -- by the entry at the place, or none
    pub sim_pass : (k : Place) → Simulated says unsettled n blank (step says unsettled s (Pass i b k)).state (told says unsettled h s (Pass i b k))
    sim_pass k = by (at_place (in_use (row s i) (book s i)) k.number) refl
      where
        by : (o : Option (Entry E)) → at_place (in_use (row s i) (book s i)) k.number ≡ o → P (step_between s i b (λ z y. passes b k z y o))
        by None e = between_split P s i (λ z y. passes b k z y None) (λ f. stays run bond) n bond.sizes.size b (λ below other zs room put. absurd (false≢true zs.1.1.1.0))
        by (Some x) e =
            between_split P s i (λ z y. passes b k z y (Some x)) (λ f. stays run bond) n bond.sizes.size b
            (λ below other zs room put. reads P s i (λ z y. passes b k z y (Some x)) (λ f. stays run bond) refl (passing below k zs.0 zs.1.1.0 room.0 x e))

    pub sim_invite : Simulated says unsettled n blank (step says unsettled s (Invite i b)).state (told says unsettled h s (Invite i b))
    sim_invite =
        between_split P s i (invite b) (λ f. stays run bond) n bond.sizes.size b
        (λ below other zs room put. reads P s i (invite b) (λ f. stays run bond) refl (inviting below zs.0 zs.1.0 room.0))
