-- The guarantee on confirmed changes, over the history of any list of steps.
use Rattle.std.specs.Prelude.{◌≡◌, ℕ, ◌-◌, ◌≤◌, true, List, [], ◌∷◌, ◌++◌, length, take, Some, Ok, Option, ◌≢◌}
use Rattle.numbers.specs.declared.views.Stamp.{Stamp}
use Rattle.numbers.specs.declared.views.View.{View}
use Rattle.numbers.specs.Views.{earlier}
use Rattle.entries.specs.declared.book.Entry.{Entry}
use Rattle.entries.specs.declared.kinds.Answer.{Answer}
use Rattle.entries.specs.declared.kinds.Question.{Question}
use Rattle.entries.specs.Lookups.{looked}
use Rattle.protocol.specs.Members.{Member}
use Rattle.controller.specs.Books.{at_place}
use Rattle.site.specs.Making.{make_step}
use Rattle.site.specs.States.{State}
use Rattle.runs.specs.declared.steps.Step.{Step}
use Rattle.runs.specs.Runs.{ran}
use Rattle.runs.specs.History.{Event, confirmed, handed_with, history, looked_up, lost, opened, openings_of}

module _ {E : Type 0} where
  -- the entry of a stamp and a change: its view with the change
  abbrev pub entry_of : Stamp → E → Entry E
  entry_of t x = record { view = t.view; change = x }

  -- x is the change that exactly one change of the list handed out with this stamp
  abbrev pub HandedOnce : List (Event E) → Stamp → E → Type 0
  HandedOnce h t x = handed_with t h ≡ x ∷ []

  -- the book holds the entry of the stamp, with its one change, at its place, after all of `before`
  pub record Holds (h : List (Event E)) (t : Stamp) (before book : List (Entry E)) : Type 0 where
    pub change : E
    pub once : HandedOnce h t change
    pub stands : at_place book t.place.number ≡ Some (entry_of t change)
    pub after_all : take (t.place.number - 1) book ≡ before

  -- every change confirmed in a view stands at its place, after all that preceded it, in the opening book of each later view, whether it was opened before the confirmation or after
  abbrev pub Survival : List (Event E) → Type 0
  Survival h = (t : Stamp) (w : View) (before : List (Entry E)) → Member (confirmed t w before) h
      → (v : View) (book : List (Entry E)) → Member (opened v book) h → earlier w v ≡ true
      → Holds h t before book

  -- one list of entries in which every confirmed slip finds its entry at its place, after all that preceded it, and no slip reported lost finds an entry of its view at its place
  pub record OneList (h : List (Event E)) : Type 0 where
    pub entries : List (Entry E)
    pub has : (t : Stamp) (w : View) (before : List (Entry E)) → Member (confirmed t w before) h
        → Holds h t before entries
    pub lacks : (t : Stamp) → Member (lost t) h
        → (e : Entry E) → at_place entries t.place.number ≡ Some e → e.view ≢ t.view

  -- a lookup in any view later than a confirmation's is answered by its rule from a book that holds the confirmed change at its place, after all that preceded it, whether the lookup came before the confirmation or after
  abbrev pub Lookups : (E → Question → Option Answer) → Answer → List (Event E) → Type 0
  Lookups says unsettled h = (t : Stamp) (w : View) (before : List (Entry E)) → Member (confirmed t w before) h
      → (v : View) (book : List (Entry E)) (q : Question) (a : Answer) → Member (looked_up v book q a) h → earlier w v ≡ true
      → (a ≡ looked says unsettled book q) × Holds h t before book

  -- no stamp is handed out twice, and no view is opened twice
  pub record Once (h : List (Event E)) : Type 0 where
    pub stamps : (t : Stamp) → length (handed_with t h) ≤ 1
    pub views : (v : View) → length (openings_of v h) ≤ 1

  -- the four laws, of one history
  pub record Laws (says : E → Question → Option Answer) (unsettled : Answer) (h : List (Event E)) : Type 0 where
    pub survival : Survival h
    pub one_list : OneList h
    pub lookups : Lookups says unsettled h
    pub once : Once h

  -- the guarantee: the laws hold of the history of every list of steps from a made site
  abbrev pub Guarantee : (E → Question → Option Answer) → Answer → State E → List (Step E) → Type 0
  Guarantee says unsettled made steps = Laws says unsettled (history says unsettled made steps)

  -- of every cabinet's cells, of every memory and size that a make takes, and of every list of steps
  abbrev pub EveryRun : (E → Question → Option Answer) → Answer → Type 0
  EveryRun says unsettled = (s : State E) (n cap : ℕ) → length s.cells ≡ 7 → (make_step s n cap).result ≡ Ok tt
      → (steps : List (Step E)) → Guarantee says unsettled (make_step s n cap).state steps

  -- whatever make and list of steps led to `here`: these steps lead on from there to `there`, and the laws hold of the whole list
  abbrev pub GoesOn : (E → Question → Option Answer) → Answer → State E → List (Step E) → State E → Type 0
  GoesOn says unsettled here steps there = (s : State E) (n cap : ℕ) → length s.cells ≡ 7 → (make_step s n cap).result ≡ Ok tt
      → (before : List (Step E)) → ran says unsettled (make_step s n cap).state before ≡ here
      → (ran says unsettled (make_step s n cap).state (before ++ steps) ≡ there) × Guarantee says unsettled (make_step s n cap).state (before ++ steps)
