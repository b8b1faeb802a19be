-- One entry more in a manager's table of answers, or in a primary's of lengths.
use Rattle.std.proofs.Common.{◌≡◌, ℕ, ◌<◌, ◌≤◌, Bool, true, false, cond, eqb, List, length, get_or, set, replicate, Some, None, Option, sym, ap, ◌∙◌, subst, arith, length-set}
use native.Mathlib.Decide.{ℕ_discrete}
use lib.ListN.{get_or-replicate}
use Rattle.std.proofs.lemmas.List.{get_or-set_same, get_or-set_other}
use Rattle.numbers.specs.declared.views.ControllerNumber.{ControllerNumber}
use Rattle.entries.specs.declared.messages.Reply.{Reply}
use Rattle.entries.specs.declared.messages.Reply.TheVariants.{Normal, Crash}
use Rattle.controller.specs.declared.records.Controller.{Controller}
use Rattle.controller.specs.Records.{only, reply_of}
use Rattle.protocol.specs.Updates.{upd}
use Rattle.protocol.proofs.Updates.{upd_all}
use Rattle.protocol.specs.Model as model
use Rattle.protocol.specs.Model.{Replica, answer_of, crashed, normal}
use Rattle.runs.proofs.Bond.{Small, SmallAnswer, code, the_answer}

pub only_long : {A : Type 0} (i : ControllerNumber) (y : A) → length (only i y) ≡ 7
only_long i y = length-set (replicate 7 None) i.number (Some y)

module _ {A : Type 0} {X : Type 0} (of : Option A → X) (n : ℕ) where
  -- a table and its function still agree when both get y, which is z for the function, at k
  pub table_set : (a : List (Option A)) (f : ℕ → X) (k : ℕ) (y : A) (z : X) → z ≡ of (Some y) → k < length a
      → ((d : ℕ) → d < n → f d ≡ of (get_or a d None))
      → (d : ℕ) → d < n → upd f k z d ≡ of (get_or (set a k (Some y)) d None)
  table_set a f k y z is below agree = upd_all (λ d x. d < n → x ≡ of (get_or (set a k (Some y)) d None)) f k z
      (λ lt. is ∙ ap of (sym (get_or-set_same a k (Some y) None below)))
      (λ d other lt. agree d lt ∙ ap of (sym (get_or-set_other a k d (Some y) None other)))

  -- a table with nothing in it but y at k
  pub table_only : n ≤ 7 → (i : ControllerNumber) → i.number < n → (y : A) (z : X) → z ≡ of (Some y) → (x : X) → x ≡ of None
      → (d : ℕ) → d < n → upd (λ _. x) i.number z d ≡ of (get_or (only i y) d None)
  table_only most i below y z is x e = table_set (replicate 7 None) (λ _. x) i.number y z is (omega arith) (λ d lt. e ∙ ap of (sym (get_or-replicate 7 d None None (omega arith))))

-- every answer of a table with one more is of a small view
pub small_set : (n : ℕ) (a : List (Option Reply)) (k : ℕ) (y : Reply) → k < length a → SmallAnswer (Some y)
    → ((d : ℕ) → d < n → SmallAnswer (get_or a d None)) → (d : ℕ) → d < n → SmallAnswer (get_or (set a k (Some y)) d None)
small_set n a k y below small all d lt = by (ℕ_discrete d k)
  where
    by : Dec (d ≡ k) → SmallAnswer (get_or (set a k (Some y)) d None)
    by (yes e) = subst (λ j. SmallAnswer (get_or (set a k (Some y)) j None)) (sym e) (subst SmallAnswer (sym (get_or-set_same a k (Some y) None below)) small)
    by (no h) = subst SmallAnswer (sym (get_or-set_other a k d (Some y) None h)) (all d lt)

pub small_only : (n : ℕ) → n ≤ 7 → (i : ControllerNumber) → i.number < n → (y : Reply) → SmallAnswer (Some y)
    → (d : ℕ) → d < n → SmallAnswer (get_or (only i y) d None)
small_only n most i below y small = small_set n (replicate 7 None) i.number y (omega arith) small (λ d lt. subst SmallAnswer (sym (get_or-replicate 7 d None None (omega arith))) tt)

-- What a controller says of itself

-- of plain parts: whether the book is complete, the view, the length and the primary
abbrev said : ℕ → Bool → ℕ → ℕ → ℕ → model.Answer
said i c u l p = elim c [ true ↦ normal u l (eqb p i) | false ↦ crashed u ]

said_same : (i : ControllerNumber) (x : Controller) (c : Bool) (u l p : ℕ) → x.complete ≡ c → u ≡ code x.views.current → l ≡ x.length → p ≡ x.primary.number
    → said i.number c u l p ≡ the_answer (Some (reply_of i x))
said_same i x true u l p e f g h = rw e (cc)
said_same i x false u l p e f g h = rw e (cc)

pub reply_same : {E : Type 0} (i : ControllerNumber) (x : Controller) (r : Replica E)
    → r.complete ≡ x.complete → r.current ≡ code x.views.current → r.length ≡ x.length → r.primary ≡ x.primary.number
    → answer_of i.number r ≡ the_answer (Some (reply_of i x))
reply_same i x r e f g h = said_same i x r.complete r.current r.length r.primary (sym e) f g h

pub reply_small : (i : ControllerNumber) (x : Controller) → Small x.views.current → SmallAnswer (Some (reply_of i x))
reply_small i x small = by x.complete
  where
    by : (c : Bool) → SmallAnswer (Some (cond c (Normal x.views.current x.length (eqb x.primary.number i.number)) (Crash x.views.current)))
    by true = small
    by false = small
