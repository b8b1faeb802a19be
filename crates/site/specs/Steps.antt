-- The steps of a site: what the site asks, and then what the controller's step gives.
use Rattle.std.specs.Prelude.{ℕ, ◌-◌, not, List, [], ◌∷◌, Some, None, Ok, Err, Option, Result, ◌==◌, nat_lt, slice_set}
use Rattle.numbers.specs.declared.refusals.Refusal.{Refusal}
use Rattle.numbers.specs.declared.refusals.Refusal.TheVariants.{BadMessage, NoSuchController, NoSuchMessage, NotMade}
use Rattle.numbers.specs.declared.views.ControllerNumber.{ControllerNumber}
use Rattle.entries.specs.declared.messages.Message.{Message}
use Rattle.numbers.specs.Members.{is_member}
use Rattle.controller.specs.declared.faults.Fault.{Fault as Stopped}
use Rattle.controller.specs.declared.outcomes.Outcome.{Outcome}
use Rattle.controller.specs.declared.outcomes.Outcome.TheVariants.{Delivered, Done as Taken}
use Rattle.controller.specs.Actions.{Action, Effect, Own, effect, own}
use Rattle.controller.specs.Books.{in_use, item}
use Rattle.controller.specs.Deliveries.{deliver}
use Rattle.controller.specs.Joins.{join}
use Rattle.controller.specs.Questions.{Question, ask, asks}
use Rattle.site.specs.declared.faults.Fault.{Fault}
use Rattle.site.specs.Faults.{about, site_fault}
use Rattle.site.specs.States.{Done, State, book, fault_about, fault_by, has_room, is_made, put_share, row, sends, with_count}

-- Controller i's share of a site, and its step

module _ {E : Type 0} (s : State E) (i : ControllerNumber) where
  abbrev pub share : Own E
  share = own (row s i) (book s i) s.cells

  -- taken: the state t is left; refused: nothing has changed
  abbrev pub left_by : Result (Outcome E) Stopped → State E → Done (Outcome E) E
  left_by (Ok x) t = record { result = Ok x; state = t }
  left_by (Err f) t = record { result = Err (site_fault f); state = s }

  -- what the controller's step gave, in the site
  abbrev pub placed : Effect E → Done (Outcome E) E
  placed g = left_by g.result (sends (put_share s i g.own) g.sent)

  abbrev pub acts : (ControllerNumber → Own E → Action E) → Done (Outcome E) E
  acts action = placed (effect i (has_room s) share action)

-- What the site asks first

module _ {E : Type 0} (s : State E) where
  -- the site is made, and i is one of its controllers
  abbrev pub site_asks : ControllerNumber → List Question → List Question
  site_asks i qs = ask (is_made s) NotMade ∷ ask (is_member s.site.n i) NoSuchController ∷ qs

  -- a step that names controller b too: it is another one of the site's
  abbrev pub other_asks : ControllerNumber → ControllerNumber → List Question
  other_asks i b = ask (is_member s.site.n b) NoSuchController ∷ ask (not (i.number == b.number)) NoSuchController ∷ []

  -- the site is made, and its pool has a message j
  abbrev pub pool_asks : ℕ → List Question
  pool_asks j = ask (is_made s) NotMade ∷ ask (nat_lt j s.site.count) NoSuchMessage ∷ []

  -- refused by question k; the acting controller is named, or the message
  abbrev pub refuse : {A : Type 0} → ControllerNumber → Refusal → Done A E
  refuse i k = record { result = Err (fault_by i k); state = s }

  abbrev pub refuse_about : {A : Type 0} → ℕ → Refusal → Done A E
  refuse_about j k = record { result = Err (fault_about j k); state = s }

-- what was refused is told of message j
abbrev pub done_about : {E : Type 0} → ℕ → Done (Outcome E) E → Done (Outcome E) E
done_about j d = record { result = about j d.result; state = d.state }

-- what the addressee gave of message m, with a reply to it, if any, where the state t is left
abbrev pub replied : {E : Type 0} → State E → Message E → Result (Option (Message E)) Fault → Done (Outcome E) E
replied t m (Ok reply) = record { result = Ok (Delivered m); state = sends t reply }
replied t m (Err f) = record { result = Err f; state = t }

-- The steps

module _ {E : Type 0} (s : State E) where
  -- a step of controller i
  abbrev pub step_at : ControllerNumber → (ControllerNumber → Own E → Action E) → Done (Outcome E) E
  step_at i action = asks (site_asks s i []) (refuse s i) (acts s i action)

  -- a step of controller i that names controller b
  abbrev pub step_between : ControllerNumber → ControllerNumber → (ControllerNumber → Own E → Action E) → Done (Outcome E) E
  step_between i b action = asks (site_asks s i (other_asks s i b)) (refuse s i) (acts s i action)

  -- i joins the view of p, as p's record and entries are
  abbrev pub join_step : ControllerNumber → ControllerNumber → Done (Outcome E) E
  join_step i p = step_between i p (join p (row s p) (in_use (row s p) (book s p)))

  abbrev pub deliver_message : ℕ → Option (Message E) → Done (Outcome E) E
  deliver_message j None = refuse_about s j NoSuchMessage
  deliver_message j (Some m) = asks (ask (is_member s.site.n m.addressee) BadMessage ∷ []) (refuse_about s j) (done_about j (acts s m.addressee (deliver s.site.n m)))

  -- message j of the pool is taken by its addressee
  abbrev pub deliver_step : ℕ → Done (Outcome E) E
  deliver_step j = asks (pool_asks s j) (refuse_about s j) (deliver_message j (item s.pool j))

  -- the last message takes the place of message j
  abbrev pub dropped : ℕ → Option (Message E) → State E
  dropped j None = s
  dropped j (Some m) = record s { site = with_count s.site (s.site.count - 1); pool = slice_set s.pool j m }

  abbrev pub lose_step : ℕ → Done (Outcome E) E
  lose_step j = asks (pool_asks s j) (refuse_about s j) (record { result = Ok Taken; state = dropped j (item s.pool (s.site.count - 1)) })
