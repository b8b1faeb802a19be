-- A controller and its replica still belong together with one entry more in both books.
use Rattle.std.proofs.lemmas.List.{get_or-set_same}
use Rattle.std.proofs.Common.{◌≡◌, ℕ, ◌+◌, ◌<◌, true, ◌⊎◌, List, length, set, Some, sym, ap, ◌∙◌, subst, inl, inr, arith, length-set, None}
use Rattle.std.proofs.lemmas.Bool.{cases_eq}
use Rattle.numbers.specs.declared.rows.Row.{Row}
use Rattle.numbers.specs.declared.views.ControllerNumber.{ControllerNumber}
use Rattle.entries.specs.declared.book.Entry.{Entry}
use Rattle.controller.specs.declared.records.Controller.{Controller}
use Rattle.controller.specs.declared.records.Status.{Status}
use Rattle.controller.specs.declared.records.Status.TheVariants.{Primary}
use Rattle.controller.specs.Books.{appended, item, own_length}
use Rattle.controller.specs.Records.{is_up}
use Rattle.protocol.specs.Updates.{upd}
use Rattle.protocol.proofs.Updates.{upd_all}
use Rattle.protocol.specs.Model as model
use Rattle.protocol.specs.Model.{Replica, appending}
use Rattle.runs.proofs.Bond.{OwnR, ReplicaR, Small, StatusR, the_entry}
use Rattle.runs.proofs.Items.{item_set_other, item_set_same}

module _ {E : Type 0} (b : List (Entry E)) (e : Entry E) (l : ℕ) (inside : l < length b) where
  -- what stands after a put at l is the new entry, or stood there before
  put_cases : (j : ℕ) (x : Entry E) → item (set b l e) j ≡ Some x → ((j ≡ l) × (e ≡ x)) ⊎ ((j ≡ l → ⊥) × (item b j ≡ Some x))
  put_cases j x at = by (cases_eq j l)
    where
      by : (j ≡ l) ⊎ (j ≡ l → ⊥) → ((j ≡ l) × (e ≡ x)) ⊎ ((j ≡ l → ⊥) × (item b j ≡ Some x))
      by (inl is) =
          let here : item (set b l e) j ≡ Some e = subst (λ z. item (set b l e) z ≡ Some e) (sym is) (item_set_same b l e inside) in
          let one : e ≡ x = cc in
          inl (is, one)
      by (inr other) = inr (other, sym (item_set_other b l j e other) ∙ at)

  same_after : (f : ℕ → model.Entry E) (k : ℕ) (z : model.Entry E) → l ≡ k → z ≡ the_entry e
      → ((j : ℕ) (x : Entry E) → j < l → item b j ≡ Some x → f j ≡ the_entry x)
      → (j : ℕ) (x : Entry E) → j < l + 1 → item (set b l e) j ≡ Some x → upd f k z j ≡ the_entry x
  same_after f k z is new same j x =
      upd_all (λ j y. j < l + 1 → item (set b l e) j ≡ Some x → y ≡ the_entry x) f k z
      (λ lt at. elim (put_cases k x at) [ inl here ↦ new ∙ ap the_entry here.1 | inr there ↦ absurd (there.0 (sym is)) ])
      (λ j other lt at. elim (put_cases j x at) [ inl here ↦ absurd (other (here.0 ∙ is)) | inr there ↦ same j x (omega (arith, there.0)) there.1 ])
      j

  small_after : Small e.view → ((j : ℕ) (x : Entry E) → j < l → item b j ≡ Some x → Small x.view)
      → (j : ℕ) (x : Entry E) → j < l + 1 → item (set b l e) j ≡ Some x → Small x.view
  small_after new old j x lt at =
      elim (put_cases j x at) [ inl here ↦ subst (λ (z : Entry E). Small z.view) here.1 new | inr there ↦ old j x (omega (arith, there.0)) there.1 ]

-- a primary's own length is then one more too
pub own_after : {E : Type 0} (n : ℕ) (i : ControllerNumber) (l : ℕ) (r : Replica E) → i.number < 7 → (t : Status) → StatusR n i.number t r → OwnR i.number l (own_length i l t)
own_after n i l r low (Primary lengths) k = let long = k.1 in get_or-set_same lengths i.number (Some l) None (omega arith)
own_after n i l r low t k = tt

-- the entry e, which is z for the replica
module _ {E : Type 0} {n : ℕ} {x : Controller} {w : Row} {b : List (Entry E)} {r : Replica E} (i : ControllerNumber) (old : ReplicaR n i.number x w b r) (is : is_up x ≡ true) where
  pub appends : (e : Entry E) (z : model.Entry E) (k : ℕ → ℕ) → z ≡ the_entry e → Small e.view → x.length < length b → StatusR n i.number (appended i x).status (appending r z k) → OwnR i.number (x.length + 1) (appended i x).status
      → ReplicaR n i.number (appended i x) w (set b x.length e) (appending r z k)
  appends e z k new small room status mine =
      record {
        status = status;
        views = λ _. old.views is;
        cell = old.cell;
        complete = old.complete;
        primary = old.primary;
        log = record {
          len = omega (arith, old.log.len);
          within = omega (arith, length-set b x.length e);
          same = same_after b e x.length room r.book r.length z (sym old.log.len) new old.log.same;
          small = small_after b e x.length room small old.log.small;
        };
        own = mine;
      }
