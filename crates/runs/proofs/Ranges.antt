-- What keeps its range: its views are small, and its controllers are of the site.
use Rattle.std.proofs.Common.{◌≡◌, ℕ, ◌<◌, ◌≤◌, true, not, ◌&&◌, ltb, leb, arith}
use Rattle.std.proofs.lemmas.Bool.{and_parts, leb-true, ltb-true}
use Rattle.numbers.specs.declared.rows.Row.{Row}
use Rattle.numbers.specs.declared.views.ControllerNumber.{ControllerNumber}
use Rattle.numbers.specs.declared.views.View.{View}
use Rattle.numbers.specs.Rows.{row_ok}
use Rattle.numbers.specs.Views.{controller_ok, count_ok, earlier, view_ok}
use Rattle.entries.specs.declared.messages.Message.{Message}
use Rattle.numbers.specs.Members.{is_member}
use Rattle.controller.specs.Messages.{below, body_ok, message_ok, view_below}
use Rattle.runs.proofs.Bond.{Small}

pub ok_small : (v : View) → view_ok v ≡ true → Small v
ok_small v h = omega (arith, leb-true v.controller.number 6 (and_parts (count_ok v.count) (controller_ok v.controller) h).1)

pub row_small : (w : Row) → row_ok w ≡ true → Small w.current × Small w.promised
row_small w h =
    let parts = and_parts (view_ok w.current && view_ok w.promised) (not (earlier w.promised w.current)) h in
    let both = and_parts (view_ok w.current) (view_ok w.promised) parts.0 in
    (ok_small w.current both.0, ok_small w.promised both.1)

pub below_small : (n : ℕ) (v : View) → n ≤ 7 → view_below n v ≡ true → Small v
below_small n v most h = omega (arith, ltb-true v.controller.number n (and_parts (count_ok v.count) (below n v.controller) h).1)

-- a member of a site of n
pub member_below : (k n : ℕ) (i : ControllerNumber) → k ≡ n → is_member k i ≡ true → i.number < n
member_below k n i e h = omega (arith, ltb-true i.number k (and_parts (ltb i.number k) (leb k 7) h).0)

module _ {E : Type 0} (n cap : ℕ) (x : Message E) where
  pub record InRange : Type 0 where
    pub sender : x.sender.number < n
    pub addressee : x.addressee.number < n
    pub small : Small x.view
    pub body : body_ok n cap x.body ≡ true

  pub in_range : n ≤ 7 → message_ok n cap x ≡ true → InRange
  in_range most h =
      let parts = and_parts (below n x.sender && below n x.addressee && view_below n x.view) (body_ok n cap x.body) h in
      let front = and_parts (below n x.sender && below n x.addressee) (view_below n x.view) parts.0 in
      let two = and_parts (below n x.sender) (below n x.addressee) front.0 in
      record {
        sender = ltb-true x.sender.number n two.0;
        addressee = ltb-true x.addressee.number n two.1;
        small = below_small n x.view most front.1;
        body = parts.1;
      }
