-- The rule of lookup: the last entry that settles a question answers it.
use Rattle.std.specs.Prelude.{◌≡◌, ◌⊎◌, List, [], ◌∷◌, ◌++◌, Some, None, Option}
use Rattle.std.specs.Option.{unwrap_or}
use Rattle.entries.specs.declared.book.Entry.{Entry}
use Rattle.entries.specs.declared.kinds.Answer.{Answer}
use Rattle.entries.specs.declared.kinds.Question.{Question}

-- the first of two that is there
abbrev pub or_else : {A : Type 0} → Option A → Option A → Option A
or_else (Some x) o = Some x
or_else None o = o

module _ {E : Type 0} (says : E → Question → Option Answer) where
  -- what the last entry that settles the question says, or nothing
  abbrev pub settled : List (Entry E) → Question → Option Answer
  settled [] q = None
  settled (e ∷ es) q = or_else (settled es q) (says e.change q)

  -- what a lookup answers: `unsettled` where no entry settles the question
  abbrev pub looked : Answer → List (Entry E) → Question → Answer
  looked unsettled es q = unwrap_or (settled es q) unsettled

  -- no entry of the book settles the question
  abbrev pub NoneSettles : List (Entry E) → Question → Type 0
  NoneSettles [] q = Unit {0}
  NoneSettles (e ∷ es) q = (says e.change q ≡ None) × NoneSettles es q

  -- an entry of the book says the answer, and none after it settles the question
  pub record LastSays (es : List (Entry E)) (q : Question) (a : Answer) : Type 0 where
    pub before : List (Entry E)
    pub last : Entry E
    pub after : List (Entry E)
    pub whole : es ≡ before ++ last ∷ after
    pub answers : says last.change q ≡ Some a
    pub final : NoneSettles after q

  -- the rule in words: the last entry that settles the question answers it or, where none does, the answer is `unsettled`
  abbrev pub Rule : Answer → List (Entry E) → Question → Answer → Type 0
  Rule unsettled es q a = LastSays es q a ⊎ (NoneSettles es q × (a ≡ unsettled))
