-- Of every list of steps from a made site: the four laws hold, and the records are in order.
use Rattle.std.proofs.Common.{◌≡◌, ℕ, ◌<◌, List, [], ◌∷◌, ◌++◌, length, Ok, Option, ap, ◌∙◌, subst, arith}
use Rattle.numbers.specs.Views.{controller_of, view_of}
use Rattle.entries.specs.declared.kinds.Answer.{Answer as Light}
use Rattle.entries.specs.declared.kinds.Question.{Question}
use Rattle.cabinet.proofs.Cuts.{parts_apart}
use Rattle.site.specs.Making.{make_step}
use Rattle.site.specs.States.{State, row}
use Rattle.protocol.specs.Model as model
use Rattle.protocol.specs.Model.{Site, made, start}
use Rattle.protocol.proofs.Theorem.{stands}
use Rattle.runs.specs.declared.steps.Step.{Step}
use Rattle.runs.specs.Guarantee.{Guarantee}
use Rattle.runs.specs.History.{Event, history, opened}
use Rattle.runs.specs.Records.{InOrder}
use Rattle.runs.specs.Runs.{ran}
use Rattle.runs.proofs.Bond.{Bond, OwnR, the_entry}
use Rattle.runs.proofs.EveryStep.{sim_all}
use Rattle.runs.proofs.Items.{item_some}
use Rattle.runs.proofs.Laws.{laws}
use Rattle.runs.proofs.Leading.{ran_on}
use Rattle.runs.proofs.Simulated.{Simulated}
use Rattle.runs.proofs.Start.{Sizes, made_bond, made_yes, sizes_of}

-- the records of a state that belongs to the protocol's are in order
in_order : {E : Type 0} {says : E → Question → Option Light} {unsettled : Light} {n : ℕ} {s : State E} {h : List (Event E)} {m : Site E} → Bond says unsettled n s h m → InOrder s
in_order {n = n} {s = s} bond =
    let size : s.site.n ≡ n = bond.sizes.size in
    record {
      views = λ c below. (bond.replicas c (omega (arith, size))).views;
      own_acknowledged = λ c below lengths leads.
          let here = bond.replicas c (omega (arith, size)) in
          subst (OwnR c (row s (controller_of c)).length) leads here.own;
      rest = λ c above. bond.rest c (omega (arith, size));
    }

module _ {E : Type 0} (says : E → Question → Option Light) (unsettled : Light) (s : State E) (n cap : ℕ) (cells_long : length s.cells ≡ 7) (x : Unit {0}) (taken : (make_step s n cap).result ≡ Ok x) where
  sizes : Sizes n cap (length s.books) (length s.pool)
  sizes = sizes_of n cap (length s.books) (length s.pool) (made_yes s n cap x taken).0

  least : 0 < n
  least = omega (arith, sizes.least)

  -- what stands beyond a book means nothing: any entry will do
  blank : ℕ → model.Entry E
  blank =
      let some : 0 < length s.books = omega (arith, least, sizes.cap_least, sizes.books_long, parts_apart 0 n cap least) in
      λ _. the_entry (item_some s.books 0 some).0

  -- every list of steps is a run of the protocol
  all : (xs : List (Step E)) → Simulated says unsettled n blank (ran says unsettled (make_step s n cap).state xs) (history says unsettled (make_step s n cap).state xs)
  all xs =
      let asked = made_yes s n cap x taken in
      let bond = made_bond says unsettled s n cap blank cells_long asked.0 asked.1 in
      sim_all says unsettled n blank (make_step s n cap).state (opened (view_of 0 0) [] ∷ []) (made n blank) start bond xs

  pub guaranteed : (xs : List (Step E)) → Guarantee says unsettled (make_step s n cap).state xs
  guaranteed xs = let run = all xs in laws says unsettled (history says unsettled (make_step s n cap).state xs) run.site (stands E n blank run.site least run.run) run.bond.histories

  pub ordered : (xs : List (Step E)) → InOrder (ran says unsettled (make_step s n cap).state xs)
  ordered xs = in_order (all xs).bond

-- more steps after those that led to a state

module _ {E : Type 0} (says : E → Question → Option Light) (unsettled : Light) (s : State E) (n cap : ℕ) (here there : State E) (steps : List (Step E)) (leads : ran says unsettled here steps ≡ there)
    (cells_long : length s.cells ≡ 7) (taken : (make_step s n cap).result ≡ Ok tt) (before : List (Step E)) (led : ran says unsettled (make_step s n cap).state before ≡ here) where
  led_on : ran says unsettled (make_step s n cap).state (before ++ steps) ≡ there
  led_on = ran_on says unsettled (make_step s n cap).state before steps ∙ ap (λ z. ran says unsettled z steps) led ∙ leads

  pub goes_on : (ran says unsettled (make_step s n cap).state (before ++ steps) ≡ there) × Guarantee says unsettled (make_step s n cap).state (before ++ steps)
  goes_on = (led_on, guaranteed says unsettled s n cap cells_long tt taken (before ++ steps))

  pub stays_in_order : InOrder there
  stays_in_order = subst InOrder led_on (ordered says unsettled s n cap cells_long tt taken (before ++ steps))
