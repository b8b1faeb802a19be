-- What is guaranteed of the history of every run: a confirmed change survives; no stamp is handed out twice, no view opened twice.
use Rattle.std.specs.Prelude.{◌≡◌, cond, ◌&&◌, List, [], ◌∷◌, ◌++◌, length, ◌≢◌, ℕ, ◌≤◌, ◌<◌, eqb}
use Rattle.protocol.specs.Members.{Member}
use Rattle.protocol.specs.Model.{Entry, Event, handed, opening, looked_up, confirmed, lost, Site, Run}

module _ {E : Type 0} where
  -- the change that an event hands out with the stamp of view w and place k, or none
  abbrev pub handed_by : ℕ → ℕ → Event E → List E
  handed_by w k (handed z j x) = cond (eqb z w && eqb j k) (x ∷ []) []
  handed_by w k _ = []

  -- all changes that were handed out with that stamp, the latest first
  abbrev pub handed_with : ℕ → ℕ → List (Event E) → List E
  handed_with w k [] = []
  handed_with w k (x ∷ xs) = handed_by w k x ++ handed_with w k xs

  -- an event as an opening of the view v, or none
  abbrev pub openings_by : ℕ → Event E → List (Event E)
  openings_by v (opening w l f) = cond (eqb w v) (opening w l f ∷ []) []
  openings_by v _ = []

  -- all openings of that view, the latest first
  abbrev pub openings_of : ℕ → List (Event E) → List (Event E)
  openings_of v [] = []
  openings_of v (x ∷ xs) = openings_by v x ++ openings_of v xs

  -- the book (l, g) begins with the first k entries of f
  abbrev pub Keeps : ℕ → (ℕ → Entry E) → ℕ → (ℕ → Entry E) → Type 0
  Keeps k f l g = (k ≤ l) × ((j : ℕ) → j < k → g j ≡ f j)

  -- a book that begins with all that was confirmed, and has no slip that was said to be lost
  pub record OneList (history : List (Event E)) : Type 0 where
    pub length : ℕ
    pub book : ℕ → Entry E
    pub has : (w k : ℕ) (f : ℕ → Entry E) → Member (confirmed w k f) history → Keeps k f length book
    pub lacks : (w z k : ℕ) → Member (lost w z k) history → k < length → (book k).view ≢ z

  pub record Stands (s : Site E) : Type 0 where
    -- what was confirmed in a view is in the opening book of every later view
    pub in_openings : (w k : ℕ) (f : ℕ → Entry E) (v l : ℕ) (g : ℕ → Entry E)
        → Member (confirmed w k f) s.history → Member (opening v l g) s.history → w < v → Keeps k f l g
    -- and in the book that any question is answered from in a later view
    pub in_lookups : (w k : ℕ) (f : ℕ → Entry E) (v l : ℕ) (g : ℕ → Entry E)
        → Member (confirmed w k f) s.history → Member (looked_up v l g) s.history → w < v → Keeps k f l g
    -- each confirmed entry is the one change that was handed out with its stamp
    pub handed_once : (w l : ℕ) (f : ℕ → Entry E) → Member (confirmed w l f) s.history
        → (k : ℕ) → k < l → handed_with (f k).view k s.history ≡ (f k).what ∷ []
    -- all that was confirmed is in one list, and what was lost is not
    pub one_list : OneList s.history
    -- no stamp is handed out twice, confirmed or not
    pub handed_at_most_once : (w k : ℕ) → length (handed_with w k s.history) ≤ 1
    -- and no view is opened twice
    pub opened_at_most_once : (v : ℕ) → length (openings_of v s.history) ≤ 1

abbrev pub Statement : Type 0 → Type 0
Statement E = (n : ℕ) (blank : ℕ → Entry E) (s : Site E) → 0 < n → Run n blank s → Stands s
