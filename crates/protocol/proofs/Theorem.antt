-- The theorem: of every run, what is confirmed was handed out once, is in one list and survives every later view; no stamp is handed out twice, no view opened twice.
use Prim.Native.Nat.{ℕ}
use Rattle.protocol.specs.Model.{opening, looked_up, confirmed, Site}
use Rattle.protocol.specs.Guarantee.{Stands, Statement}
use Rattle.protocol.proofs.Invariant.{Invariant}
use Rattle.protocol.proofs.Runs.{invariant_of_run}
use Rattle.protocol.proofs.Survival.{in_lookups, in_openings}
use Rattle.protocol.proofs.OneList.{one_list}
use Rattle.protocol.proofs.Once.{handed_at_most_once, handed_once, opened_at_most_once}

module _ {E : Type 0} where
  stands_by : (n : ℕ) (s : Site E) → Invariant n s → Stands s
  stands_by n s inv = record {
    in_openings = λ w k f v l g c o h. in_openings n s inv w k f v l g (inv.event_ok (confirmed w k f) c) (inv.event_ok (opening v l g) o) h;
    in_lookups = λ w k f v l g c o h. in_lookups n s inv w k f v l g (inv.event_ok (confirmed w k f) c) (inv.event_ok (looked_up v l g) o) h;
    handed_once = λ w l f c. handed_once n s inv w l f (inv.event_ok (confirmed w l f) c);
    one_list = one_list n s inv;
    handed_at_most_once = handed_at_most_once n s inv;
    opened_at_most_once = opened_at_most_once n s inv;
  }

pub stands : (E : Type 0) → Statement E
stands E n blank s some run = stands_by n s (invariant_of_run n blank some s run)
