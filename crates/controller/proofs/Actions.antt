-- What holds of every step, by its shape: a refused one leaves what is held, and nothing is sent without room.
use Rattle.std.proofs.Common.{◌≡◌, ℕ, ◌-◌, Bool, true, false, cond, List, [], ◌∷◌, Some, None, Err, Option, sym, refl, ap, ◌∙◌, subst, ◌≢◌, set}
use Rattle.std.proofs.lemmas.List.{get_or-set_other}
use Rattle.numbers.specs.declared.refusals.Refusal.{Refusal}
use Rattle.numbers.specs.declared.rows.Row.{Row}
use Rattle.numbers.specs.declared.views.ControllerNumber.{ControllerNumber}
use Rattle.entries.specs.declared.messages.Message.{Message}
use Rattle.cabinet.specs.Cells.{Cell, cell_at, fresh, is_worn}
use Rattle.controller.specs.declared.faults.Fault.{Fault}
use Rattle.controller.specs.Questions.{Question, asks}
use Rattle.controller.specs.Actions.{Action, Effect, Own, cells_after, effect_of, put_asks, refused, room_asks, taken}

-- all is answered yes
abbrev pub AllYes : List Question → Type 0
AllYes [] = Unit {0}
AllYes (x ∷ xs) = (x.yes ≡ true) × AllYes xs

-- what holds of every refusal, and of what is done if all is answered yes
pub asks_split : {A : Type 0} (P : A → Type 0) (qs : List Question) (refuse : Refusal → A) (go : A)
    → ((k : Refusal) → P (refuse k)) → (AllYes qs → P go) → P (asks qs refuse go)
asks_split P [] refuse go none done = done tt
asks_split P (x ∷ xs) refuse go none done = by x.yes refl (λ k. asks_split P xs refuse go none k)
  where
    by : (b : Bool) → x.yes ≡ b → ((AllYes xs → P go) → P (asks xs refuse go)) → P (cond x.yes (asks xs refuse go) (refuse x.refusal))
    by true e rest = subst (λ c. P (cond c (asks xs refuse go) (refuse x.refusal))) (sym e) (rest (λ ys. done (e, ys)))
    by false e rest = subst (λ c. P (cond c (asks xs refuse go) (refuse x.refusal))) (sym e) (none x.refusal)

-- where all is answered yes, the questions are gone
pub asks_go : {A : Type 0} (qs : List Question) (refuse : Refusal → A) (go : A) → AllYes qs → asks qs refuse go ≡ go
asks_go [] refuse go ys = refl
asks_go (x ∷ xs) refuse go ys = ap (λ b. cond b (asks xs refuse go) (refuse x.refusal)) ys.0 ∙ asks_go xs refuse go ys.1

-- only the controller's own cell is put
pub cells_others : (cs : List Cell) (i : ControllerNumber) (b : Bool) (w : Row) (c : ℕ) → c ≢ i.number → cell_at (cells_after b cs i w) c ≡ cell_at cs c
cells_others cs i false w c other = refl
cells_others cs i true w c other = by (is_worn cs i.number)
  where
    by : (worn : Bool) → cell_at (cond worn cs (set cs i.number (record { row = w; left = (cell_at cs i.number).left - 1 }))) c ≡ cell_at cs c
    by true = refl
    by false = get_or-set_other cs i.number c _ (fresh 0) other

module _ {E : Type 0} (i : ControllerNumber) (room : Bool) (o : Own E) where
  -- what holds of every refusal and of the step taken holds of the step
  pub effect_split : (P : Effect E → Type 0) (a : Action E) → ((k : Refusal) → P (refused i room o k))
      → (AllYes a.asks → AllYes (room_asks room a.sent) → AllYes (put_asks a.puts o.cells i a.row.views) → P (taken i room o a)) → P (effect_of i room o a)
  effect_split P a none go =
      let refuse : Refusal → Effect E = refused i room o in
      asks_split P a.asks refuse _ none (λ x. asks_split P (room_asks room a.sent) refuse _ none (λ y. asks_split P (put_asks a.puts o.cells i a.row.views) refuse _ none (go x y)))

  -- a refused step leaves what the controller has, and sends nothing
  pub kept : (a : Action E) (f : Fault) → (effect_of i room o a).result ≡ Err f → ((effect_of i room o a).own ≡ o) × ((effect_of i room o a).sent ≡ None)
  kept a = effect_split (λ g. (f : Fault) → g.result ≡ Err f → (g.own ≡ o) × (g.sent ≡ None)) a (λ k f e. (refl, refl)) (λ x y z f e. cc)

  -- what is sent has room
  pub sent_room : (a : Action E) (m : Message E) → (effect_of i room o a).sent ≡ Some m → room ≡ true
  sent_room a = effect_split (λ g. (m : Message E) → g.sent ≡ Some m → room ≡ true) a (λ k m e. cc) (λ x y z m e. by a.sent m y e)
    where
      by : (s : Option (Message E)) (m : Message E) → AllYes (room_asks room s) → s ≡ Some m → room ≡ true
      by None m y e = cc
      by (Some x) m y e = y.0

  -- no other cell changes
  pub others : (a : Action E) (c : ℕ) → c ≢ i.number → cell_at (effect_of i room o a).own.cells c ≡ cell_at o.cells c
  others a c other = effect_split (λ g. cell_at g.own.cells c ≡ cell_at o.cells c) a (λ k. refl) (λ x y z. cells_others o.cells i a.puts a.row.views c other)
