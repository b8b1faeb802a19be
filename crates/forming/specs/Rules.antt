-- The rules by which a manager forms a view, from the answers to its call.
use Rattle.std.specs.Prelude.{◌≡◌, ℕ, ◌≤◌, Bool, true, false, if◌then◌else◌, not, ◌&&◌, ◌||◌, ◌⊎◌, List, Some, None, Option, nat_le, nat_lt, slice_index_or}
use Rattle.numbers.specs.declared.views.View.{View}
use Rattle.numbers.specs.Majorities.{majority_of}
use Rattle.numbers.specs.Views.{earlier, same_view, view_of}
use Rattle.entries.specs.declared.messages.Reply.{Reply}
use Rattle.entries.specs.declared.messages.Reply.TheVariants.{Normal, Crash}
use Rattle.numbers.specs.Counting.{count, every, some, first}

-- Tests of one controller's answer, or none

abbrev pub answered : Option Reply → Bool
answered None = false
answered _ = true

abbrev pub is_normal : Option Reply → Bool
is_normal (Some (Normal u l p)) = true
is_normal _ = false

-- a normal answer of a later view than x, or of x with a greater length than m
abbrev pub beats : View → ℕ → Option Reply → Bool
beats x m (Some (Normal u l p)) = earlier x u || (same_view x u && nat_lt m l)
beats x m _ = false

-- a normal answer of view x that says primary
abbrev pub leads : View → Option Reply → Bool
leads x (Some (Normal u l p)) = same_view x u && p
leads x _ = false

-- a crash answer of view x
abbrev pub crashed_in : View → Option Reply → Bool
crashed_in x (Some (Crash u)) = same_view x u
crashed_in x _ = false

-- no crash answer of view x or a later one
abbrev pub crashed_before : View → Option Reply → Bool
crashed_before x (Some (Crash u)) = earlier u x
crashed_before x _ = true

-- no crash answer of a later view than x
abbrev pub crashed_until : View → Option Reply → Bool
crashed_until x (Some (Crash u)) = not (earlier x u)
crashed_until x _ = true

-- the current view that an answer gives
abbrev pub answer_view : Option Reply → View
answer_view (Some (Normal u l p)) = u
answer_view (Some (Crash u)) = u
answer_view None = view_of 0 0

-- The choice, computed from the answers of controllers 0, 1, ..

module _ (answers : List (Option Reply)) where
  -- a normal answer that none beats: of the latest normal view, and in it of the greatest length
  abbrev pub is_best : Option Reply → Bool
  is_best (Some (Normal u l p)) = not (some (beats u l) answers)
  is_best _ = false

  abbrev pub rule_1 : ℕ → Bool
  rule_1 n = nat_le (majority_of n) (count is_normal answers)

  -- x is the latest normal view
  abbrev pub rule_2 : View → Bool
  rule_2 x = every (crashed_before x) answers

  abbrev pub rule_3 : View → Bool
  rule_3 x = some (crashed_in x) answers && every (crashed_until x) answers && some (leads x) answers

  abbrev pub some_rule : ℕ → View → Bool
  some_rule n x = rule_1 n || (rule_2 x || rule_3 x)

  abbrev pub if_allowed : ℕ → Option ℕ → Option ℕ
  if_allowed n None = None
  if_allowed n (Some c) = if some_rule n (answer_view (slice_index_or answers c None)) then Some c else None

  -- the controller that becomes primary, or none where no rule allows the view
  abbrev pub choice : ℕ → Option ℕ
  choice n = if nat_le (majority_of n) (count answered answers) then if_allowed n (first is_best answers) else None

-- The rules in words

module _ (answers : List (Option Reply)) where
  -- controller c answered normally, from view u with length l; p says whether it is that view's primary
  abbrev pub AnswersNormally : ℕ → View → ℕ → Bool → Type 0
  AnswersNormally c u l p = slice_index_or answers c None ≡ Some (Normal u l p)

  abbrev pub AnswersCrashed : ℕ → View → Type 0
  AnswersCrashed c u = slice_index_or answers c None ≡ Some (Crash u)

  -- x is the latest view of a normal answer
  pub record LatestNormal (x : View) : Type 0 where
    pub who : ℕ
    pub length : ℕ
    pub primary : Bool
    pub answers_so : AnswersNormally who x length primary
    pub latest : (d : ℕ) (u : View) (l : ℕ) (p : Bool) → AnswersNormally d u l p → earlier x u ≡ false

  -- 2: some answered normally, and every crash answer's view is earlier than the latest normal one
  pub record Rule2 : Type 0 where
    pub newest : View
    pub normal : LatestNormal newest
    pub crashes : (d : ℕ) (u : View) → AnswersCrashed d u → earlier u newest ≡ true

  -- 3: the latest crash and normal views are equal, and a normal answer of that view says primary
  pub record Rule3 : Type 0 where
    pub newest : View
    pub normal : LatestNormal newest
    pub crashed : ℕ
    pub crash : AnswersCrashed crashed newest
    pub crashes : (d : ℕ) (u : View) → AnswersCrashed d u → earlier newest u ≡ false
    pub leader : ℕ
    pub length : ℕ
    pub leads_it : AnswersNormally leader newest length true

  -- a majority have answered, and 1: a majority answered normally, or 2, or 3
  pub record Allowed (n : ℕ) : Type 0 where
    pub most : majority_of n ≤ count answered answers
    pub rule : (majority_of n ≤ count is_normal answers) ⊎ (Rule2 ⊎ Rule3)

  -- c has the latest normal view and in it the greatest length; of equals, the smallest number
  pub record Chosen (c : ℕ) : Type 0 where
    pub view : View
    pub length : ℕ
    pub primary : Bool
    pub answers_so : AnswersNormally c view length primary
    pub latest : (d : ℕ) (u : View) (l : ℕ) (p : Bool) → AnswersNormally d u l p → earlier view u ≡ false
    pub longest : (d : ℕ) (l : ℕ) (p : Bool) → AnswersNormally d view l p → l ≤ length
    pub smallest : (d : ℕ) (p : Bool) → AnswersNormally d view length p → c ≤ d

  -- what a choice means: where one is made, the rules allow it and it is the one that they name; where none is, no rule allows the view
  abbrev pub ByRules : ℕ → Option ℕ → Type 0
  ByRules n None = Allowed n → ⊥
  ByRules n (Some c) = Allowed n × Chosen c × ((d : ℕ) → Chosen d → c ≡ d)
