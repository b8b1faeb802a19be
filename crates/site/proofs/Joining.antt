-- A join, from what the controller's call gave to the books with the entries copied.
use Rattle.std.proofs.Common.{◌≡◌, ℕ, ◌+◌, ◌-◌, ◌*◌, ◌<◌, ◌≤◌, Bool, List, [], length, get_or, take, drop, set, min, Some, None, Err, Option, Result, sym, ap, ◌∙◌, arith}
use lib.Seq.{paste}
use Rattle.numbers.specs.declared.views.ControllerNumber.{ControllerNumber}
use Rattle.entries.specs.declared.book.Entry.{Entry}
use Rattle.entries.specs.declared.messages.Message.{Message}
use Rattle.cabinet.specs.Cells.{Cell}
use Rattle.numbers.specs.declared.members.Member.{Member}
use Rattle.controller.specs.declared.faults.Fault.{Fault as Stopped}
use Rattle.controller.specs.declared.outcomes.Outcome.{Outcome}
use Rattle.controller.specs.declared.outcomes.Outcome.TheVariants.{Done}
use Rattle.controller.specs.declared.records.Controller.{Controller}
use Rattle.controller.specs.Actions.{Own, as_outcome, effect, own}
use Rattle.controller.specs.Books.{in_use}
use Rattle.controller.specs.Joins.{copied, join}
use Rattle.controller.specs.Records.{down_record}
use Rattle.site.specs.declared.faults.Fault.{Fault}
use Rattle.site.specs.declared.records.Site.{Site}
use Rattle.site.specs.Faults.{site_fault}
use Rattle.site.specs.States.{IsPair, State, book, done, has_room, part, row, sends, state, with_part}
use Rattle.site.specs.Steps.{join_step}
use Rattle.site.proofs.Copied.{part_copied}
use Rattle.site.proofs.Lent.{LentTo, lent, part_lent, part_same}
use Rattle.site.proofs.Placing.{between_go, named, part_placed, part_room, with_rows}

module _ {E : Type 0} {x : Site} (cs : List Cell) (books : List (Entry E)) (pool : List (Message E)) (room : Bool) {i p k l : ControllerNumber} {j a b j' a' b' : ℕ} {m : Member × Member}
    (pair : IsPair x (length books) (length pool) i p m) (given : LentTo x k i j a b) (other : LentTo x l p j' a' b') where
  abbrev s : State E
  s = state x cs books pool

  abbrev mine : List (Entry E)
  mine = take (b - a) (drop a books)

  abbrev led : Controller
  led = get_or x.rows j' down_record

  abbrev log : List (Entry E)
  log = in_use led (take (b' - a') (drop a' books))

  -- the site's step is what the controller's gave
  pub joins : {r : Result (Outcome E) Stopped} {row' : Controller} {book' : List (Entry E)} {cs' : List Cell} {sent : Option (Message E)} → room ≡ has_room (state x cs books pool)
      → effect k room (own (get_or x.rows j down_record) (take (b - a) (drop a books)) cs) (join l (get_or x.rows j' down_record) (in_use (get_or x.rows j' down_record) (take (b' - a') (drop a' books)))) ≡ record { result = r; own = own row' book' cs'; sent = sent }
      → join_step (state x cs books pool) i p ≡ done (named r) (sends (state (with_rows x (set x.rows j row')) cs' (with_part books x.cap i.number book') pool) sent)
  joins {r = r} {row' = row'} {book' = book'} {cs' = cs'} {sent = sent} fits told =
      let at_p = sym (lent x books l p j' a' b' other (λ z y q. effect k room (own (get_or x.rows j down_record) mine cs) (join z y (in_use y q)))) ∙ told in
      between_go s i (join p (row s p) (in_use (row s p) (book s p))) pair
      ∙ part_placed x cs books pool k i j room (join p (row s p) (in_use (row s p) (book s p))) r sent fits a b given row' book' cs' at_p

  -- what is sent has room
  pub join_room : {r : Result (Outcome E) Stopped} {o : Own E} {sent : Option (Message E)} {y : Message E} → room ≡ has_room (state x cs books pool)
      → effect k room (own (get_or x.rows j down_record) (take (b - a) (drop a books)) cs) (join l (get_or x.rows j' down_record) (in_use (get_or x.rows j' down_record) (take (b' - a') (drop a' books)))) ≡ record { result = r; own = o; sent = sent }
      → sent ≡ Some y → x.count < length pool
  join_room {r = r} {o = o} {sent = sent} fits told is = part_room x cs books pool k i j room (join l led log) r sent fits a b given told is

  books_back : with_part books x.cap i.number (take (b - a) (drop a books)) ≡ books
  books_back =
      ap (λ z. with_part books x.cap z.number mine) (sym given.who)
      ∙ ap (with_part books x.cap k.number) (part_lent books x.cap k.number a b mine given.from given.to).0
      ∙ part_same books x.cap k.number

  -- refused: the books are as they were
  pub join_refused : {f : Stopped} {row' : Controller} {cs' : List Cell} {out : Result (Unit {0}) Fault} → room ≡ has_room (state x cs books pool)
      → effect k room (own (get_or x.rows j down_record) (take (b - a) (drop a books)) cs) (join l (get_or x.rows j' down_record) (in_use (get_or x.rows j' down_record) (take (b' - a') (drop a' books)))) ≡ record { result = Err f; own = own row' (take (b - a) (drop a books)) cs'; sent = None }
      → out ≡ Err (site_fault f) → join_step (state x cs books pool) i p ≡ done (as_outcome (λ _. Done) out) (state (with_rows x (set x.rows j row')) cs' books pool)
  join_refused {f = f} {row' = row'} {cs' = cs'} fits told is =
      joins fits told
      ∙ ap (λ z. done (Err (site_fault f)) (state (with_rows x (set x.rows j row')) cs' z pool)) books_back
      ∙ ap (λ z. done (as_outcome (λ _. Done) z) (state (with_rows x (set x.rows j row')) cs' books pool)) (sym is)

  -- taken: the entries in use of the other's part, which begins at a', are copied to where the part of i begins
  pub books_copied : {n : ℕ} {books' : List (Entry E)} → a' + x.cap ≤ m.1.n * x.cap → n ≡ min led.length x.cap → books' ≡ paste books a (drop a' books) n
      → books' ≡ with_part books x.cap i.number (copied (in_use (get_or x.rows j' down_record) (take (b' - a') (drop a' books))) (take (b - a) (drop a books)))
  books_copied {n = n} within count copy =
      let cap = x.cap in
      let to_i : a ≡ i.number * cap = given.from ∙ ap (λ z. z.number * cap) given.who in
      let from_p : a' ≡ p.number * cap = other.from ∙ ap (λ z. z.number * cap) other.who in
      let size = ap (λ z. z * cap) pair.second.size in
      let fits : p.number * cap + cap ≤ length books = omega (arith, size, from_p, within, pair.first.books_long) in
      let log_is : take (b' - a') (drop a' books) ≡ part books cap p.number = (part_lent books cap l.number a' b' [] other.from other.to).0 ∙ ap (λ z. part books cap z.number) other.who in
      let mine_is : mine ≡ part books cap i.number = (part_lent books cap k.number a b [] given.from given.to).0 ∙ ap (λ z. part books cap z.number) given.who in
      copy
      ∙ ap (λ z. paste books z (drop a' books) n) to_i
      ∙ ap (λ z. paste books (i.number * cap) (drop z books) n) from_p
      ∙ ap (paste books (i.number * cap) (drop (p.number * cap) books)) count
      ∙ part_copied books cap i.number p.number led.length fits
      ∙ ap (λ z. with_part books cap i.number (copied (take led.length z) (part books cap i.number))) (sym log_is)
      ∙ ap (λ z. with_part books cap i.number (copied log z)) (sym mine_is)
