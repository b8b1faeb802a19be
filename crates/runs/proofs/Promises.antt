-- A controller that gets another status, or promises a view, still belongs to its replica.
use Rattle.std.proofs.Common.{◌≡◌, ℕ, true, List, Some, refl}
use Rattle.numbers.specs.declared.rows.Row.{Row}
use Rattle.numbers.specs.declared.views.ControllerNumber.{ControllerNumber}
use Rattle.numbers.specs.declared.views.View.{View}
use Rattle.numbers.specs.Rows.{row_ok}
use Rattle.entries.specs.declared.book.Entry.{Entry}
use Rattle.controller.specs.declared.records.Controller.{Controller}
use Rattle.controller.specs.declared.records.Status.{Status}
use Rattle.controller.specs.Records.{is_up, reply_of}
use Rattle.controller.proofs.Statuses.{with_status}
use Rattle.protocol.specs.Model as model
use Rattle.protocol.specs.Model.{Replica, answer_of, promising}
use Rattle.runs.proofs.Acting.{current_code}
use Rattle.runs.proofs.Bond.{OwnR, ReplicaR, StatusR, code, the_answer}
use Rattle.runs.proofs.Tables.{reply_same}

module _ {E : Type 0} where
  -- the replica with another status, other lengths and other answers
  abbrev pub restating : Replica E → model.Status → (ℕ → ℕ) → (ℕ → model.Answer) → Replica E
  restating r t k a = record r { status = t; acknowledged = k; answers = a }

  module _ {n c : ℕ} {x : Controller} {w : Row} {b : List (Entry E)} {r : Replica E} (old : ReplicaR n c x w b r) (is : is_up x ≡ true) where
    -- both say the same of themselves
    pub answer_is : (i : ControllerNumber) → answer_of i.number r ≡ the_answer (Some (reply_of i x))
    answer_is i = reply_same i x r old.complete (current_code old is) old.log.len old.primary

    pub restated : (st : Status) (t : model.Status) (k : ℕ → ℕ) (a : ℕ → model.Answer) → StatusR n c st (restating r t k a) → OwnR c x.length st → ReplicaR n c (with_status x st) w b (restating r t k a)
    restated st t k a status mine = record { status = status; views = λ _. old.views is; cell = old.cell; complete = old.complete; primary = old.primary; log = old.log; own = mine }

    -- promised to the view v, whose code is u, with another status
    pub promises : (st : Status) (t : model.Status) (v : View) (u : ℕ) (a : ℕ → model.Answer)
        → u ≡ code v → row_ok (record { current = x.views.current; promised = v }) ≡ true
        → StatusR n c st (promising r t u a) → OwnR c x.length st
        → ReplicaR n c (record { status = st; views = record { current = x.views.current; promised = v }; complete = x.complete; length = x.length; primary = x.primary })
        (record { current = x.views.current; promised = v }) b (promising r t u a)
    promises st t v u a e kept status mine =
        record { status = status; views = λ _. refl; cell = record { kept = kept; current = current_code old is; promised = e }; complete = old.complete; primary = old.primary; log = old.log; own = mine }
