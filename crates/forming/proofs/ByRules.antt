-- The choice is the one that the rules name, and is made where they allow one.
use Rattle.std.proofs.Common.{◌≡◌, ℕ, zero, suc, ◌≤◌, Bool, true, false, cond, ◌&&◌, ◌||◌, eqb, ltb, leb, List, [], ◌∷◌, get_or, Some, None, Option, sym, refl, ap, ◌∙◌, subst, inl, inr, arith}
use Rattle.std.proofs.lemmas.Bool.{and_parts, and_from, or_parts, or_from, or_cases, cases_Bool, both_ways, false≢true, not-true, not_from_false, leb-true, le-leb, ltb-false, cases_lt}
use Rattle.std.proofs.lemmas.Bool.Decides.{nat_tests}
use Rattle.numbers.specs.declared.views.View.{View}
use Rattle.numbers.specs.Majorities.{majority_of}
use Rattle.numbers.specs.Views.{earlier, same_view}
use Rattle.entries.specs.declared.messages.Reply.{Reply}
use Rattle.entries.specs.declared.messages.Reply.TheVariants.{Normal, Crash}
use Rattle.numbers.specs.Counting.{count, every, some, first}
use Rattle.forming.specs.Rules.{answered, is_normal, beats, leads, crashed_in, crashed_before, crashed_until, answer_view, is_best, rule_1, rule_2, rule_3, some_rule, if_allowed, choice, AnswersNormally, AnswersCrashed, LatestNormal, Rule2, Rule3, Allowed, Chosen, ByRules}
use Rattle.numbers.proofs.SameViews.{sooner, same_view_equal, same_view_self, views_level}
use Rattle.numbers.proofs.Counted.{every_at, every_from, some_at, some_none, some_from, count_at, first_some, first_none, FirstAt, get_or_within}

-- An answer that another beats

-- (c, d) with length m beats (a, b) with length l
abbrev below : ℕ → ℕ → ℕ → ℕ → ℕ → ℕ → Bool
below a b l c d m = sooner a b c d || ((eqb a c && eqb b d) && ltb l m)

below_self : (a b l : ℕ) → below a b l a b l ≡ false
below_self a b l = grind (arith, nat_tests)

below_not : (a b l c d m e f k : ℕ) → below a b l c d m ≡ true → below e f k c d m ≡ false → below e f k a b l ≡ false
below_not a b l c d m e f k p q = grind (arith, nat_tests)

pub beats_self : (u : View) (l : ℕ) (p : Bool) → beats u l (Some (Normal u l p)) ≡ false
beats_self u l p = below_self u.count.number u.controller.number l

pub beats_normal : (u : View) (l : ℕ) (o : Option Reply) → beats u l o ≡ true → is_normal o ≡ true
beats_normal u l (Some (Normal w m q)) h = refl
beats_normal u l _ h = h

-- what does not beat w, and beats u, shows that u does not beat w
pub beats_not : (u : View) (l : ℕ) (p : Bool) (w : View) (m : ℕ) (o : Option Reply) → beats u l o ≡ true → beats w m o ≡ false → beats w m (Some (Normal u l p)) ≡ false
beats_not u l p w m (Some (Normal x i q)) h k = below_not u.count.number u.controller.number l x.count.number x.controller.number i w.count.number w.controller.number m h k
beats_not u l p w m _ h k = absurd (false≢true h)

-- answer c is normal, and none beats it
pub record Unbeaten (answers : List (Option Reply)) (c : ℕ) : Type 0 where
  pub view : View
  pub length : ℕ
  pub primary : Bool
  pub answers_so : AnswersNormally answers c view length primary
  pub none_beats : some (beats view length) answers ≡ false

further : (o : Option Reply) (xs : List (Option Reply)) (c : ℕ) (b : Unbeaten xs c) → beats b.view b.length o ≡ false → Unbeaten (o ∷ xs) (suc c)
further o xs c b h = record { view = b.view; length = b.length; primary = b.primary; answers_so = b.answers_so; none_beats = or_from _ _ h b.none_beats }

-- where some answer is normal, there is one that none beats
pub unbeaten : (xs : List (Option Reply)) → some is_normal xs ≡ true → (c : ℕ) × Unbeaten xs c
unbeaten [] h = absurd (false≢true h)
unbeaten (Some (Normal u l p) ∷ xs) h =
    elim (cases_Bool (some (beats u l) xs)) [
      | inl e ↦
          (let at = some_at (beats u l) xs None e in
          let rest = unbeaten xs (some_from is_normal xs at.0 None (at.1.0, beats_normal u l (get_or xs at.0 None) at.1.1)) in
          (suc rest.0, further (Some (Normal u l p)) xs rest.0 rest.1 (beats_not u l p rest.1.view rest.1.length (get_or xs at.0 None) at.1.1 (some_none (beats rest.1.view rest.1.length) xs at.0 None rest.1.none_beats at.1.0))))
      | inr e ↦ (zero, record { view = u; length = l; primary = p; answers_so = refl; none_beats = or_from _ _ (beats_self u l p) e })
    ]
unbeaten (o ∷ xs) h = let rest = unbeaten xs h in (suc rest.0, further o xs rest.0 rest.1 refl)

module _ (answers : List (Option Reply)) where
  pub some_normal : (c : ℕ) (u : View) (l : ℕ) (p : Bool) → AnswersNormally answers c u l p → some is_normal answers ≡ true
  some_normal c u l p h = some_from is_normal answers c None (get_or_within answers c (Normal u l p) h, ap is_normal h)

  -- none beats the answer u with length l: so neither does that of d
  not_beaten : (u : View) (l : ℕ) → some (beats u l) answers ≡ false → (d : ℕ) (w : View) (m : ℕ) (q : Bool) → AnswersNormally answers d w m q → beats u l (Some (Normal w m q)) ≡ false
  not_beaten u l none d w m q h = sym (ap (beats u l) h) ∙ some_none (beats u l) answers d None none (get_or_within answers d (Normal w m q) h)

  not_later : (u : View) (l : ℕ) → some (beats u l) answers ≡ false → (d : ℕ) (w : View) (m : ℕ) (q : Bool) → AnswersNormally answers d w m q → earlier u w ≡ false
  not_later u l none d w m q h = (or_parts (earlier u w) (same_view u w && ltb l m) (not_beaten u l none d w m q h)).0

  not_longer : (u : View) (l : ℕ) → some (beats u l) answers ≡ false → (d : ℕ) (m : ℕ) (q : Bool) → AnswersNormally answers d u m q → m ≤ l
  not_longer u l none d m q h = ltb-false l m (sym (ap (λ b. b && ltb l m) (same_view_self u)) ∙ (or_parts (earlier u u) (same_view u u && ltb l m) (not_beaten u l none d u m q h)).1)

  is_best_of : (c : ℕ) (o : Option Reply) → get_or answers c None ≡ o → is_best answers o ≡ true → Unbeaten answers c
  is_best_of c (Some (Normal u l p)) e h = record { view = u; length = l; primary = p; answers_so = e; none_beats = not-true (some (beats u l) answers) h }
  is_best_of c _ e h = absurd (false≢true h)

  pub best_unbeaten : (c : ℕ) → is_best answers (get_or answers c None) ≡ true → Unbeaten answers c
  best_unbeaten c h = is_best_of c (get_or answers c None) refl h

  pub unbeaten_best : (c : ℕ) → Unbeaten answers c → is_best answers (get_or answers c None) ≡ true
  unbeaten_best c b = ap (is_best answers) b.answers_so ∙ not_from_false (some (beats b.view b.length) answers) b.none_beats

  pub unbeaten_latest : (c : ℕ) (b : Unbeaten answers c) → LatestNormal answers b.view
  unbeaten_latest c b = record { who = c; length = b.length; primary = b.primary; answers_so = b.answers_so; latest = not_later b.view b.length b.none_beats }

  -- there is one latest view of normal answers
  pub latest_same : (x y : View) → LatestNormal answers x → LatestNormal answers y → x ≡ y
  latest_same x y p q = views_level x y (p.latest q.who y q.length q.primary q.answers_so) (q.latest p.who x p.length p.primary p.answers_so)

  -- The choice is unique

  pub chosen_same : (c d : ℕ) → Chosen answers c → Chosen answers d → c ≡ d
  chosen_same c d p q =
      let views : p.view ≡ q.view = views_level p.view q.view (p.latest d q.view q.length q.primary q.answers_so) (q.latest c p.view p.length p.primary p.answers_so) in
      let d_so : AnswersNormally answers d p.view q.length q.primary = subst (λ v. AnswersNormally answers d v q.length q.primary) (sym views) q.answers_so in
      let c_so : AnswersNormally answers c q.view p.length p.primary = subst (λ v. AnswersNormally answers c v p.length p.primary) views p.answers_so in
      let least : q.length ≤ p.length = p.longest d q.length q.primary d_so in
      let most : p.length ≤ q.length = q.longest c p.length p.primary c_so in
      let lengths : p.length ≡ q.length = omega arith in
      let one : c ≤ d = p.smallest d q.primary (subst (λ l. AnswersNormally answers d p.view l q.primary) (sym lengths) d_so) in
      let other : d ≤ c = q.smallest c p.primary (subst (λ l. AnswersNormally answers c q.view l p.primary) lengths c_so) in
      omega arith

  -- The first of the best is the one that the rules name

  none_sooner : (c : ℕ) (b : Unbeaten answers c) → FirstAt (is_best answers) answers None c → (d : ℕ) (q : Bool) → AnswersNormally answers d b.view b.length q → c ≤ d
  none_sooner c b f d q h =
      elim (cases_lt d c) [
        | inl lt ↦ absurd (both_ways (is_best answers (get_or answers d None)) (f.1 d lt) (unbeaten_best d (record { view = b.view; length = b.length; primary = q; answers_so = h; none_beats = b.none_beats })))
        | inr le ↦ le
      ]

  chosen : (c : ℕ) (b : Unbeaten answers c) → FirstAt (is_best answers) answers None c → Chosen answers c
  chosen c b f = record { view = b.view; length = b.length; primary = b.primary; answers_so = b.answers_so; latest = not_later b.view b.length b.none_beats; longest = not_longer b.view b.length b.none_beats; smallest = none_sooner c b f }

  -- The rules as computed, at the latest normal view, and in words

  module _ (x : View) where
    is_crash : (c : ℕ) (o : Option Reply) → get_or answers c None ≡ o → crashed_in x o ≡ true → AnswersCrashed answers c x
    is_crash c (Some (Crash u)) e h = e ∙ ap (λ v. Some (Crash v)) (sym (same_view_equal x u h))
    is_crash c _ e h = absurd (false≢true h)

    is_lead : (c : ℕ) (o : Option Reply) → get_or answers c None ≡ o → leads x o ≡ true → (l : ℕ) × AnswersNormally answers c x l true
    is_lead c (Some (Normal u l p)) e h =
        let parts = and_parts (same_view x u) p h in
        (l, e ∙ ap (λ v. Some (Normal v l p)) (sym (same_view_equal x u parts.0)) ∙ ap (λ q. Some (Normal x l q)) parts.1)
    is_lead c _ e h = absurd (false≢true h)

    before : ((d : ℕ) (u : View) → AnswersCrashed answers d u → earlier u x ≡ true) → (d : ℕ) (o : Option Reply) → get_or answers d None ≡ o → crashed_before x o ≡ true
    before all d (Some (Crash u)) e = all d u e
    before all d _ e = refl

    until : ((d : ℕ) (u : View) → AnswersCrashed answers d u → earlier x u ≡ false) → (d : ℕ) (o : Option Reply) → get_or answers d None ≡ o → crashed_until x o ≡ true
    until all d (Some (Crash u)) e = not_from_false (earlier x u) (all d u e)
    until all d _ e = refl

  rule_2_there : (r : Rule2 answers) → rule_2 answers r.newest ≡ true
  rule_2_there r = every_from (crashed_before r.newest) answers None (λ d lt. before r.newest r.crashes d (get_or answers d None) refl)

  rule_3_there : (r : Rule3 answers) → rule_3 answers r.newest ≡ true
  rule_3_there r =
      let x : View = r.newest in
      let crash : some (crashed_in x) answers ≡ true = some_from (crashed_in x) answers r.crashed None (get_or_within answers r.crashed (Crash x) r.crash, ap (crashed_in x) r.crash ∙ same_view_self x) in
      let crashes : every (crashed_until x) answers ≡ true = every_from (crashed_until x) answers None (λ d lt. until x r.crashes d (get_or answers d None) refl) in
      let lead : some (leads x) answers ≡ true = some_from (leads x) answers r.leader None (get_or_within answers r.leader (Normal x r.length true) r.leads_it, ap (leads x) r.leads_it ∙ and_from (same_view x x) true (same_view_self x) refl) in
      and_from (some (crashed_in x) answers && every (crashed_until x) answers) (some (leads x) answers) (and_from (some (crashed_in x) answers) (every (crashed_until x) answers) crash crashes) lead

  module _ (x : View) (normal : LatestNormal answers x) where
    rule_2_said : rule_2 answers x ≡ true → Rule2 answers
    rule_2_said h = record { newest = x; normal = normal; crashes = λ d u e. sym (ap (crashed_before x) e) ∙ every_at (crashed_before x) answers d None h (get_or_within answers d (Crash u) e) }

    rule_3_said : rule_3 answers x ≡ true → Rule3 answers
    rule_3_said h =
        let parts = and_parts (some (crashed_in x) answers && every (crashed_until x) answers) (some (leads x) answers) h in
        let crashes_so = and_parts (some (crashed_in x) answers) (every (crashed_until x) answers) parts.0 in
        let crash = some_at (crashed_in x) answers None crashes_so.0 in
        let lead = some_at (leads x) answers None parts.1 in
        let leads_so = is_lead x lead.0 (get_or answers lead.0 None) refl lead.1.1 in
        record { newest = x; normal = normal; crashed = crash.0; crash = is_crash x crash.0 (get_or answers crash.0 None) refl crash.1.1; crashes = λ d u e. not-true (earlier x u) (sym (ap (crashed_until x) e) ∙ every_at (crashed_until x) answers d None crashes_so.1 (get_or_within answers d (Crash u) e)); leader = lead.0; length = leads_so.0; leads_it = leads_so.1 }

    rule_2_kept : Rule2 answers → rule_2 answers x ≡ true
    rule_2_kept r = subst (λ v. rule_2 answers v ≡ true) (latest_same r.newest x r.normal normal) (rule_2_there r)

    rule_3_kept : Rule3 answers → rule_3 answers x ≡ true
    rule_3_kept r = subst (λ v. rule_3 answers v ≡ true) (latest_same r.newest x r.normal normal) (rule_3_there r)

    pub allowed : (n : ℕ) → majority_of n ≤ count answered answers → some_rule answers n x ≡ true → Allowed answers n
    allowed n most h =
        record {
          most = most;
          rule = elim (or_cases (rule_1 answers n) (rule_2 answers x || rule_3 answers x) h) [
            | inl one ↦ inl (leb-true (majority_of n) (count is_normal answers) one)
            | inr more ↦ elim (or_cases (rule_2 answers x) (rule_3 answers x) more) [ inl two ↦ inr (inl (rule_2_said two)) | inr three ↦ inr (inr (rule_3_said three)) ]
          ];
        }

    pub not_allowed : (n : ℕ) → some_rule answers n x ≡ false → Allowed answers n → ⊥
    not_allowed n h a =
        let parts = or_parts (rule_1 answers n) (rule_2 answers x || rule_3 answers x) h in
        let more = or_parts (rule_2 answers x) (rule_3 answers x) parts.1 in
        elim a.rule [
          | inl one ↦ both_ways (rule_1 answers n) parts.0 (le-leb (majority_of n) (count is_normal answers) one)
          | inr rest ↦ elim rest [ inl two ↦ both_ways (rule_2 answers x) more.0 (rule_2_kept two) | inr three ↦ both_ways (rule_3 answers x) more.1 (rule_3_kept three) ]
        ]

  latest_normal : (x : View) → LatestNormal answers x → some is_normal answers ≡ true
  latest_normal x p = some_normal p.who x p.length p.primary p.answers_so

  -- where the rules allow a view, some answer is normal
  pub allowed_normal : (n : ℕ) → Allowed answers n → some is_normal answers ≡ true
  allowed_normal n a =
      elim a.rule [
        | inl one ↦
            (let it = count_at is_normal answers None (omega arith) in some_from is_normal answers it.0 None it.1)
        | inr rest ↦ elim rest [ inl two ↦ latest_normal two.newest two.normal | inr three ↦ latest_normal three.newest three.normal ]
      ]

  -- The choice, step by step

  module _ (n : ℕ) where
    by_rule : (c : ℕ) → FirstAt (is_best answers) answers None c → majority_of n ≤ count answered answers → (t : Bool) → some_rule answers n (answer_view (get_or answers c None)) ≡ t → ByRules answers n (cond t (Some c) None)
    by_rule c f most true h =
        let b = best_unbeaten c f.0.1 in
        (allowed b.view (unbeaten_latest c b) n most (sym (ap (λ o. some_rule answers n (answer_view o)) b.answers_so) ∙ h), chosen c b f, λ d other. chosen_same c d (chosen c b f) other)
    by_rule c f most false h =
        let b = best_unbeaten c f.0.1 in
        not_allowed b.view (unbeaten_latest c b) n (sym (ap (λ o. some_rule answers n (answer_view o)) b.answers_so) ∙ h)

    by_first : majority_of n ≤ count answered answers → (r : Option ℕ) → first (is_best answers) answers ≡ r → ByRules answers n (if_allowed answers n r)
    by_first most None e = λ a.
        let it = unbeaten answers (allowed_normal n a) in
        both_ways (is_best answers (get_or answers it.0 None)) (first_none (is_best answers) answers it.0 None e (get_or_within answers it.0 (Normal it.1.view it.1.length it.1.primary) it.1.answers_so)) (unbeaten_best it.0 it.1)
    by_first most (Some c) e = by_rule c (first_some (is_best answers) answers None c e) most (some_rule answers n (answer_view (get_or answers c None))) refl

    by_most : (t : Bool) → leb (majority_of n) (count answered answers) ≡ t → ByRules answers n (cond t (if_allowed answers n (first (is_best answers) answers)) None)
    by_most true h = by_first (leb-true (majority_of n) (count answered answers) h) (first (is_best answers) answers) refl
    by_most false h = λ a. both_ways (leb (majority_of n) (count answered answers)) h (le-leb (majority_of n) (count answered answers) a.most)

pub by_rules : (answers : List (Option Reply)) (n : ℕ) → ByRules answers n (choice answers n)
by_rules answers n = by_most answers n (leb (majority_of n) (count answered answers)) refl

-- the same of what equals the choice
pub by_rules_at : (answers : List (Option Reply)) (n : ℕ) (r : Option ℕ) → r ≡ choice answers n → ByRules answers n r
by_rules_at answers n r e = subst (ByRules answers n) (sym e) (by_rules answers n)
