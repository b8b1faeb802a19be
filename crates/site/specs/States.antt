-- The whole state of a site: its record, the cells, the books and the pool.
use Rattle.std.specs.Prelude.{◌≡◌, ℕ, ◌+◌, ◌*◌, ◌<◌, ◌≤◌, Bool, true, false, not, ◌&&◌, ◌⊎◌, Some, None, Option, List, ◌++◌, length, take, drop, Result, ◌==◌, nat_le, nat_lt, slice_index_or, slice_set}
use Rattle.numbers.specs.declared.refusals.Refusal.TheVariants.{NoSuchController, NoSuchMessage, NotMade}
use Rattle.numbers.specs.declared.views.ControllerNumber.{ControllerNumber}
use Rattle.numbers.specs.declared.refusals.Refusal.{Refusal}
use Rattle.entries.specs.declared.book.Entry.{Entry}
use Rattle.entries.specs.declared.messages.Message.{Message}
use Rattle.entries.specs.declared.messages.Reply.{Reply}
use Rattle.cabinet.specs.Cells.{Cell}
use Rattle.numbers.specs.declared.members.Member.{Member}
use Rattle.numbers.specs.Members.{is_member}
use Rattle.controller.specs.declared.records.Controller.{Controller}
use Rattle.controller.specs.declared.records.Status.TheVariants.{Manager}
use Rattle.controller.specs.Actions.{Own}
use Rattle.controller.specs.Records.{down_record}
use Rattle.site.specs.declared.faults.Fault.{Fault}
use Rattle.site.specs.declared.faults.Named.TheVariants.{Message as About, Controller as By}
use Rattle.site.specs.declared.records.Site.{Site}

pub record State (E : Type 0) : Type 0 where
  pub site : Site
  pub cells : List Cell
  pub books : List (Entry E)
  pub pool : List (Message E)

-- what a call gives: its result, and the state after it
pub record Done (A E : Type 0) : Type 0 where
  pub result : Result A Fault
  pub state : State E

abbrev pub state : {E : Type 0} → Site → List Cell → List (Entry E) → List (Message E) → State E
state x cs books pool = record { site = x; cells = cs; books = books; pool = pool }

abbrev pub done : {A E : Type 0} → Result A Fault → State E → Done A E
done r s = record { result = r; state = s }

-- controller i's part of the books: cap entries from i × cap on
module _ {A : Type 0} where
  abbrev pub part : List A → ℕ → ℕ → List A
  part books cap i = take cap (drop (i * cap) books)

  -- the books with another part for i
  abbrev pub with_part : List A → ℕ → ℕ → List A → List A
  with_part books cap i b = take (i * cap) books ++ (b ++ drop (i * cap + cap) books)

-- the site is made, both lengths are as then, and the pool has no more messages than it can hold
abbrev pub made_with : Site → ℕ → ℕ → Bool
made_with x books pool = x.made && books == x.n * x.cap && pool == x.pool && nat_le x.count x.pool

module _ {E : Type 0} (s : State E) where
  abbrev pub is_made : Bool
  is_made = made_with s.site (length s.books) (length s.pool)

  abbrev pub has_room : Bool
  has_room = nat_lt s.site.count (length s.pool)

  -- controller i's record
  abbrev pub row : ControllerNumber → Controller
  row i = slice_index_or s.site.rows i.number down_record

  abbrev pub book : ControllerNumber → List (Entry E)
  book i = part s.books s.site.cap i.number

-- the same site with another record of controller i, or another number of messages
abbrev pub with_row : Site → ControllerNumber → Controller → Site
with_row x i r = record x { rows = slice_set x.rows i.number r }

abbrev pub with_count : Site → ℕ → Site
with_count x k = record x { count = k }

module _ {E : Type 0} where
  -- the state with what controller i has after its step: its record, its part of the books, and the cells
  abbrev pub put_share : State E → ControllerNumber → Own E → State E
  put_share s i o = record s { site = with_row s.site i o.row; cells = o.cells; books = with_part s.books s.site.cap i.number o.book }

  -- a message more at the end of the pool
  abbrev pub sent : State E → Message E → State E
  sent s m = record s { site = with_count s.site (s.site.count + 1); pool = slice_set s.pool s.site.count m }

  -- what is sent, if anything
  abbrev pub sends : State E → Option (Message E) → State E
  sends s None = s
  sends s (Some m) = sent s m

-- the fault of question k: it names the acting controller, or the message
abbrev pub fault_by : ControllerNumber → Refusal → Fault
fault_by i k = record { refusal = k; named = By i }

abbrev pub fault_about : ℕ → Refusal → Fault
fault_about j k = record { refusal = k; named = About j }

-- What the first two questions tell

-- m is controller i of the site, which is made with memory of these lengths
pub record IsMember (x : Site) (books pool : ℕ) (i : ControllerNumber) (m : Member) : Type 0 where
  pub made : made_with x books pool ≡ true
  pub below : is_member x.n i ≡ true
  pub number : m.number ≡ i
  pub size : m.n ≡ x.n
  pub books_long : books ≡ x.n * x.cap
  pub pool_long : pool ≡ x.pool
  pub few : pool ≤ 65535

-- why i is none: question 1, then question 2
abbrev pub MemberFails : Site → ℕ → ℕ → ControllerNumber → Fault → Type 0
MemberFails x books pool i e =
    ((made_with x books pool ≡ false) × (e ≡ fault_by i NotMade))
    ⊎ ((made_with x books pool ≡ true) × ((is_member x.n i ≡ false) × (e ≡ fault_by i NoSuchController)))

-- a controller of the site, and another one
pub record IsPair (x : Site) (books pool : ℕ) (i b : ControllerNumber) (m : Member × Member) : Type 0 where
  pub first : IsMember x books pool i m.0
  pub second : IsMember x books pool b m.1
  pub two : not (i.number == b.number) ≡ true

-- why they are none: question 1, then question 2 of each, and of both
abbrev pub PairFails : Site → ℕ → ℕ → ControllerNumber → ControllerNumber → Fault → Type 0
PairFails x books pool i b e =
    MemberFails x books pool i e
    ⊎ ((made_with x books pool ≡ true) × ((is_member x.n i ≡ true)
    × (((is_member x.n b ≡ false) × (e ≡ fault_by i NoSuchController)) ⊎ ((is_member x.n b ≡ true) × ((not (i.number == b.number) ≡ false) × (e ≡ fault_by i NoSuchController))))))

-- the pool of the site, which is made with memory of these lengths, has a message j
pub record HasMessage (x : Site) (books pool j : ℕ) : Type 0 where
  pub made : made_with x books pool ≡ true
  pub below : j < x.count
  pub counted : x.count ≤ pool
  pub few : pool ≤ 65535

-- why there is no message j: question 1, then question 3
abbrev pub MessageFails : Site → ℕ → ℕ → ℕ → Fault → Type 0
MessageFails x books pool j e =
    ((made_with x books pool ≡ false) × (e ≡ fault_about j NotMade))
    ⊎ ((made_with x books pool ≡ true) × ((nat_lt j x.count ≡ false) × (e ≡ fault_about j NoSuchMessage)))

-- controller i is a manager of the site, which is made, and has counted these answers
pub record Manages {E : Type 0} (s : State E) (i : ControllerNumber) (answers : List (Option Reply)) : Type 0 where
  pub made : is_made s ≡ true
  pub below : is_member s.site.n i ≡ true
  pub status : (row s i).status ≡ Manager answers
