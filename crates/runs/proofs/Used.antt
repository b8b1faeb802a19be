-- The entries that a controller uses, and the first of them, are the book of its replica.
use Rattle.std.proofs.Common.{ℕ, ◌≤◌, List, take, arith, length-take}
use Rattle.numbers.specs.declared.rows.Row.{Row}
use Rattle.entries.specs.declared.book.Entry.{Entry}
use Rattle.controller.specs.declared.records.Controller.{Controller}
use Rattle.controller.specs.Books.{in_use}
use Rattle.protocol.specs.Model as model
use Rattle.protocol.specs.Model.{Replica}
use Rattle.runs.proofs.Bond.{BookR, ReplicaR}
use Rattle.runs.proofs.Items.{item_of_take}

module _ {E : Type 0} where
  pub used_book : {n c : ℕ} {x : Controller} {w : Row} {b : List (Entry E)} {r : Replica E} → ReplicaR n c x w b r → BookR (in_use x b) r.length r.book
  used_book {x = x} {b = b} bonded =
      record {
        long = simp length-take (omega (arith, bonded.log.len, bonded.log.within));
        same = λ j e at. (let two = item_of_take x.length b j e at in bonded.log.same j e two.0 two.1);
        small = λ j e at. (let two = item_of_take x.length b j e at in bonded.log.small j e two.0 two.1);
      }

  pub book_front : (b : List (Entry E)) (l k : ℕ) (f : ℕ → model.Entry E) → k ≤ l → BookR b l f → BookR (take k b) k f
  book_front b l k f low bonded =
      record {
        long = simp length-take (omega (arith, bonded.long));
        same = λ j e at. bonded.same j e (item_of_take k b j e at).1;
        small = λ j e at. bonded.small j e (item_of_take k b j e at).1;
      }
