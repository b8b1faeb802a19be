-- A slip by the controller's verdict is the slip by the site's.
use Rattle.std.proofs.Common.{◌≡◌, ℕ, ◌-◌, List, length, get_or, take, drop, Ok, Err, Result, MatchResult, refl, sym, ap, ◌∙◌, subst}
use Rattle.std.proofs.lemmas.Result.{MatchResult-weaker}
use Rattle.numbers.specs.declared.views.ControllerNumber.{ControllerNumber}
use Rattle.entries.specs.declared.book.Entry.{Entry}
use Rattle.entries.specs.declared.messages.Message.{Message}
use Rattle.cabinet.specs.Cells.{Cell}
use Rattle.numbers.specs.declared.members.Member.{Member}
use Rattle.controller.specs.declared.faults.Fault.{Fault as Stopped}
use Rattle.controller.specs.declared.outcomes.Outcome.{Outcome}
use Rattle.controller.specs.declared.outcomes.Outcome.TheVariants.{Settled}
use Rattle.controller.specs.declared.slips.Settled.{Settled as Settlement}
use Rattle.controller.specs.declared.slips.Slip.{Slip}
use Rattle.controller.specs.Actions.{Own, effect, own}
use Rattle.controller.specs.Records.{down_record}
use Rattle.controller.specs.Slips.{stamp_on}
use Rattle.controller.specs.Verdicts.{settle, settled_by}
use Rattle.site.specs.declared.faults.Fault.{Fault}
use Rattle.site.specs.declared.records.Site.{Site}
use Rattle.site.specs.Faults.{site_fault}
use Rattle.site.specs.States.{IsMember, State, has_room, state}
use Rattle.site.specs.Steps.{left_by, share, step_at}
use Rattle.site.proofs.Lent.{LentTo, lent}
use Rattle.site.proofs.Placing.{at_go, named}

result_is : {E : Type 0} (s : State E) (i : ControllerNumber) (r : Result (Outcome E) Stopped) (t : State E) → (left_by s i r t).result ≡ named r
result_is s i (Ok x) t = refl
result_is s i (Err f) t = refl

-- the slip comes back with the controller's fault, which is then the site's
settled_named : {E : Type 0} (slip : Slip) (r : Result (Outcome E) Stopped) (out : Result Settlement (Fault × Slip))
    → MatchResult (settled_by slip r) (λ v. out ≡ Ok v) (λ e. out ≡ Err (site_fault e.0, e.1)) → settled_by slip (named r) ≡ out
settled_named slip (Ok (Settled v)) out is = sym is
settled_named slip (Ok x) out is = sym is
settled_named slip (Err f) out is = sym is

module _ {E : Type 0} (x : Site) (cs : List Cell) (books : List (Entry E)) (pool : List (Message E)) (k i : ControllerNumber) (j a b : ℕ) (slip : Slip) where
  pub settled_at : {m : Member} {r : Result Settlement (Stopped × Slip)} {out : Result Settlement (Fault × Slip)} {Told : (Stopped × Slip) → Type 0} {n : ℕ}
      → IsMember x (length books) (length pool) i m → LentTo x k i j a b → n ≡ x.n
      → settled_by slip (effect k (has_room (state x cs books pool)) (own (get_or x.rows j down_record) (take (b - a) (drop a books)) cs) (settle n (stamp_on slip))).result ≡ r
      → MatchResult r (λ v. out ≡ Ok v) Told → ((e : Stopped × Slip) → Told e → out ≡ Err (site_fault e.0, e.1))
      → settled_by slip (step_at (state x cs books pool) i (settle x.n (stamp_on slip))).result ≡ out
  settled_at {r = gave} {out = out} {n = n} member given size told cases by_name =
      let s = state x cs books pool in
      let t = stamp_on slip in
      let says : ControllerNumber → Own E → ℕ → Result Settlement (Stopped × Slip) = λ z o y. settled_by slip (effect z (has_room s) o (settle y t)).result in
      let same = sym (ap (says i (share s i)) size) ∙ sym (lent x books k i j a b given (λ z y p. says z (own y p cs) n)) ∙ told in
      let r = (effect i (has_room s) (share s i) (settle x.n t)).result in
      ap (λ d. settled_by slip d.result) (at_go s i (settle x.n t) member)
      ∙ ap (settled_by slip) (result_is s i r _)
      ∙ settled_named slip r out (subst (λ z. MatchResult z (λ v. out ≡ Ok v) (λ e. out ≡ Err (site_fault e.0, e.1))) (sym same) (MatchResult-weaker gave cases (λ v p. p) by_name))
