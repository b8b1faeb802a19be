-- The three rules of form: the chosen book is safe to open the view with.
use Rattle.std.proofs.Common.{◌≡◌, ℕ, ◌≤◌, ◌<◌, Bool, true, ◌⊎◌, refl, sym, ap, subst, ◌∙◌, inl, inr, arith}
use Rattle.std.proofs.lemmas.Bool.{false≢true, cases_lt}
use Rattle.protocol.specs.Majorities.{Majority}
use Rattle.protocol.specs.Model.{Answer, none, crashed, normal, Entry, Site}
use Rattle.protocol.specs.Model.{is_normal, is_answer, Latest, Rule, normal_majority, crashed_earlier, primary_answered}
use Rattle.protocol.proofs.Invariant.{AnswerOk, Begins, Blocked, Carries, Invariant, LogOk, NormalOk, Ready, SafeTo}

module _ {E : Type 0} (n : ℕ) (s : Site E) (inv : Invariant n s) (v : ℕ) (a : ℕ → Answer)
    (ok : (d : ℕ) → AnswerOk (s.replicas d) s.views d v (a d)) (x l : ℕ) (best : Latest n a x l) where
  ok_of : (d : ℕ) (b : Answer) → a d ≡ b → AnswerOk (s.replicas d) s.views d v b
  ok_of d b e = subst (λ y. AnswerOk (s.replicas d) s.views d v y) e (ok d)

  normal_of : (d u m : ℕ) (p : Bool) → a d ≡ normal u m p → NormalOk (s.replicas d) (s.views u) d v u m p
  normal_of d u m p e = ok_of d (normal u m p) e

  -- w is a view from x on, and k past the greatest length where w is x itself
  module _ (w k : ℕ) (w_before : w < v) (w_from : x ≤ w) (past_best : w ≤ x → l < k) where
    -- a replica that was never in w is not past k there
    unless_in : (d : ℕ) → (1 ≤ (s.replicas d).floor w → (s.replicas d).floor w ≤ k) → (s.replicas d).floor w ≤ k
    unless_in d h = go (cases_lt 0 ((s.replicas d).floor w))
      where
        go : (0 < (s.replicas d).floor w) ⊎ ((s.replicas d).floor w ≤ 0) → (s.replicas d).floor w ≤ k
        go (inl z) = h z
        go (inr z) = omega arith

    normal_behind : (d : ℕ) → d < n → (u m : ℕ) (p : Bool) → a d ≡ normal u m p → (s.replicas d).floor w ≤ k
    normal_behind d hd u m p e = unless_in d (λ z.
        let g = normal_of d u m p e in
        let b = g.last.upto w w_before z in
        let c = best.newest d hd u m p e in
        let q : u ≡ x = omega arith in
        let q2 : w ≡ u = omega arith in
        let t = best.longest d hd m p (e ∙ ap (λ y. normal y m p) q) in
        omega (arith, g.at_floor, ap (s.replicas d).floor q2))

    crashed_before : (d u : ℕ) → a d ≡ crashed u → u < x → (s.replicas d).floor w ≤ k
    crashed_before d u e h = unless_in d (λ z. absurd (omega (arith, (ok_of d (crashed u) e).upto w w_before z)))

    -- the primary of x has answered, so nobody is past its length
    crashed_under : (p m : ℕ) → p < n → a p ≡ normal x m true → (d u : ℕ) → a d ≡ crashed u → u ≤ x → (s.replicas d).floor w ≤ k
    crashed_under p m hp ep d u e h = unless_in d (λ z.
        let g = normal_of p x m true ep in
        let b = (ok_of d (crashed u) e).upto w w_before z in
        let q : w ≡ x = omega arith in
        let t = best.longest p hp m true ep in
        let c = ((inv.replica_ok d).held.floors w z).within in
        let f = (inv.view_ok x).led p (g.leads refl) in
        omega (arith, g.at_floor, ap (λ y. (s.views y).log_length) q))

    -- a majority of those who answered, of whom the crashed ones are not past k, blocks w at k
    blocked_by : (who : ℕ → Bool) → Majority n who → ((d : ℕ) → who d ≡ true → is_answer (a d) ≡ true)
        → ((d : ℕ) → d < n → who d ≡ true → (u : ℕ) → a d ≡ crashed u → (s.replicas d).floor w ≤ k) → Blocked n s.replicas w k
    blocked_by who most answered crashed_behind = record { who = who; most = most; left = λ d hd q. left d hd q (a d) refl (answered d q) }
      where
        left : (d : ℕ) → d < n → who d ≡ true → (b : Answer) → a d ≡ b → is_answer b ≡ true → (w < (s.replicas d).promised) × ((s.replicas d).floor w ≤ k)
        left d hd h none e q = absurd (false≢true q)
        left d hd h (crashed u) e q = (omega (arith, (ok_of d (crashed u) e).past), crashed_behind d hd h u e)
        left d hd h (normal u m p) e q = (omega (arith, (normal_of d u m p e).last.past), normal_behind d hd u m p e)

    blocked : Rule n a x → Blocked n s.replicas w k
    blocked (normal_majority most) = blocked_by (λ d. is_normal (a d)) most (λ d q. answers (a d) q)
        (λ d hd q u e. absurd (false≢true (sym (ap is_normal e) ∙ q)))
      where
        answers : (b : Answer) → is_normal b ≡ true → is_answer b ≡ true
        answers none q = q
        answers _ q = refl
    blocked (crashed_earlier most all) = blocked_by (λ d. is_answer (a d)) most (λ d q. q) (λ d hd q u e. crashed_before d u e (all d hd u e))
    blocked (primary_answered most all p hp m ep) = blocked_by (λ d. is_answer (a d)) most (λ d q. q) (λ d hd q u e. crashed_under p m hp ep d u e (all d hd u e))

  -- the book of the chosen c: it carries x up to its length, views from x on are blocked past that,
  -- and earlier views are as safe as they were when x was opened
  pub chosen_safe : Rule n a x → (c : ℕ) (p : Bool) → a c ≡ normal x l p → Ready n s.replicas s.views (s.replicas c) v
  chosen_safe rule c p e idle complete here w w_before k = split (cases_lt w x)
    where
      length : ℕ
      length = (s.replicas c).length

      book : ℕ → Entry E
      book = (s.replicas c).book

      ok_c : NormalOk (s.replicas c) (s.views x) c v x l p
      ok_c = normal_of c x l p e

      current_is : (s.replicas c).current ≡ x
      current_is = ok_c.kept idle complete here

      length_is : length ≡ l
      length_is = omega (arith, ((inv.replica_ok c).held.its_book complete).at_floor, ok_c.at_floor, ap (s.replicas c).floor current_is)

      begins : Begins (s.views x) length book
      begins = subst (λ u. Begins (s.views u) length book) current_is ((inv.replica_ok c).held.its_book complete).begins

      above : (s.views x).opening_length ≤ length
      above = omega (arith, ((inv.replica_ok c).held.floors x (omega (arith, ok_c.at_floor))).above, ok_c.at_floor, length_is)

      log : LogOk s.views x (s.views x).opening_length (s.views x).opening_book (s.views x).log_length (s.views x).log
      log = (inv.view_ok x).log begins.opens

      stamped : (j : ℕ) → (s.views x).opening_length ≤ j → j < length → (book j).view ≡ x
      stamped j h h2 = ap (λ y. y.view) (begins.same j h2) ∙ log.stamps j h (omega (arith, begins.within))

      opened_with : (j : ℕ) → j < (s.views x).opening_length → book j ≡ (s.views x).opening_book j
      opened_with j h = begins.same j (omega (arith, above)) ∙ log.begins j h

      earlier : w < x → SafeTo n s.replicas s.views w k (s.views x).opening_length (s.views x).opening_book → SafeTo n s.replicas s.views w k length book
      earlier h (inr b) = inr b
      earlier h (inl g) = inl (record {
        begins = record { opens = g.begins.opens; within = g.begins.within; same = λ j b. opened_with j (omega (arith, g.in_book)) ∙ g.begins.same j b };
        in_book = omega (arith, g.in_book, above);
        late = λ j b b2. late j b b2 (cases_lt j (s.views x).opening_length);
      })
        where
          late : (j : ℕ) → (s.views w).opening_length ≤ j → j < length → (j < (s.views x).opening_length) ⊎ ((s.views x).opening_length ≤ j) → w ≤ (book j).view
          late j b b2 (inl q) = omega (arith, g.late j b q, ap (λ y. y.view) (opened_with j q))
          late j b b2 (inr q) = omega (arith, stamped j q b2)

      exact : w ≡ x → (length < k) ⊎ (k ≤ length) → SafeTo n s.replicas s.views w k length book
      exact q (inl h) = inr (blocked w k w_before (omega arith) (λ _. omega (arith, length_is)) rule)
      exact q (inr h) = inl (subst (λ y. Carries (s.views y) y k length book) (sym q) (record {
        begins = record { opens = begins.opens; within = omega (arith, begins.within); same = λ j b. begins.same j (omega arith) };
        in_book = h;
        late = λ j b b2. omega (arith, stamped j b b2);
      }))

      from : x ≤ w → (x < w) ⊎ (w ≤ x) → SafeTo n s.replicas s.views w k length book
      from h (inl g) = inr (blocked w k w_before h (λ t. absurd (omega arith)) rule)
      from h (inr g) = exact (omega arith) (cases_lt length k)

      split : (w < x) ⊎ (x ≤ w) → SafeTo n s.replicas s.views w k length book
      split (inl h) = earlier h ((inv.view_ok x).safe begins.opens w h k)
      split (inr h) = from h (cases_lt x w)
