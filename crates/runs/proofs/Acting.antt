-- What the status of an acting controller says of its replica, and the views of one that is up.
use Rattle.std.proofs.Common.{◌≡◌, ℕ, true, false, ◌≢◌, List, sym, ap, ◌∙◌, arith}
use Rattle.std.proofs.lemmas.Bool.{false≢true}
use Rattle.numbers.specs.declared.rows.Row.{Row}
use Rattle.numbers.specs.Rows.{row_ok}
use Rattle.entries.specs.declared.book.Entry.{Entry}
use Rattle.controller.specs.declared.records.Controller.{Controller}
use Rattle.controller.specs.declared.records.Status.{Status}
use Rattle.controller.specs.declared.records.Status.TheVariants.{Down, Waiting, Manager, Backup, Primary}
use Rattle.controller.specs.Records as records
use Rattle.controller.specs.Records.{leading}
use Rattle.protocol.specs.Model.{IsPrimary, Replica, Site, active, down, manager, waiting}
use Rattle.runs.proofs.Bond.{ReplicaR, Small, StatusR, code}
use Rattle.runs.proofs.Ranges.{row_small}

module _ {E : Type 0} (n c : ℕ) (r : Replica E) where
  pub up_not_down : (t : Status) → StatusR n c t r → records.up t ≡ true → r.status ≢ down
  up_not_down Down k h e = false≢true h
  up_not_down Waiting k h e = let z : ◌≡◌ {A = ℕ} 0 1 = cc in omega arith
  up_not_down (Manager a) k h e = let f = k.0 in let z : ◌≡◌ {A = ℕ} 0 1 = cc in omega arith
  up_not_down Backup k h e = let z : ◌≡◌ {A = ℕ} 0 1 = cc in omega arith
  up_not_down (Primary l) k h e = let f = k.0 in let z : ◌≡◌ {A = ℕ} 0 1 = cc in omega arith

  pub down_is_down : (t : Status) → StatusR n c t r → records.up t ≡ false → r.status ≡ down
  down_is_down Down k h = k
  down_is_down t k h = absurd (false≢true (sym h))

  pub waiting_is_waiting : (t : Status) → StatusR n c t r → records.waiting t ≡ true → r.status ≡ waiting
  waiting_is_waiting Waiting k h = k
  waiting_is_waiting t k h = absurd (false≢true h)

  pub manager_is_manager : (t : Status) → StatusR n c t r → records.managing t ≡ true → r.status ≡ manager
  manager_is_manager (Manager a) k h = k.0
  manager_is_manager t k h = absurd (false≢true h)

  pub active_is_active : (t : Status) → StatusR n c t r → records.active t ≡ true → r.status ≡ active
  active_is_active Backup k h = k
  active_is_active (Primary l) k h = k.0
  active_is_active t k h = absurd (false≢true h)

pub primary_leads : {E : Type 0} (n c : ℕ) (m : Site E) (t : Status) → StatusR n c t (m.replicas c) → leading t ≡ true → IsPrimary m c
primary_leads n c m (Primary l) k h = record { is_active = k.0; is_primary = k.2 }
primary_leads n c m t k h = absurd (false≢true h)

module _ {E : Type 0} {n c : ℕ} {x : Controller} {w : Row} {b : List (Entry E)} {r : Replica E} (bonded : ReplicaR n c x w b r) (up : records.is_up x ≡ true) where
  pub current_code : r.current ≡ code x.views.current
  current_code = bonded.cell.current ∙ ap (λ z. code z.current) (sym (bonded.views up))

  pub promised_code : r.promised ≡ code x.views.promised
  promised_code = bonded.cell.promised ∙ ap (λ z. code z.promised) (sym (bonded.views up))

  pub views_small : Small x.views.current × Small x.views.promised
  views_small = row_small x.views (ap row_ok (bonded.views up) ∙ bonded.cell.kept)
