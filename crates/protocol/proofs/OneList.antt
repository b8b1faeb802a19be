-- What is confirmed is in one list: the longest confirmed book begins with all the others.
use Rattle.std.proofs.Common.{◌≡◌, ℕ, ◌≤◌, ◌<◌, ◌≢◌, ◌⊎◌, List, [], ◌∷◌, refl, sym, ap, ◌∙◌, inl, inr, arith}
use Rattle.std.proofs.lemmas.Bool.{cases_lt, cases_order}
use Rattle.protocol.specs.Members.{Member}
use Rattle.protocol.specs.Model.{Entry, Event, confirmed, lost, Site}
use Rattle.protocol.specs.Guarantee.{Keeps, OneList}
use Rattle.protocol.proofs.Invariant.{ConfirmedOk, EventOk, Invariant, LostOk}
use Rattle.protocol.proofs.Survival.{confirmed_kept, not_both}

module _ {E : Type 0} (n : ℕ) (s : Site E) (inv : Invariant n s) where
  -- two confirmed books agree where both have entries
  agree_later : (w k : ℕ) (f : ℕ → Entry E) (v m : ℕ) (g : ℕ → Entry E) → ConfirmedOk n s.replicas s.views w k f → ConfirmedOk n s.replicas s.views v m g → w < v
      → (j : ℕ) → j < k → j < m → g j ≡ f j
  agree_later w k f v m g c d h j a b =
      let t = confirmed_kept n s inv w k f v c d.begins.opens h in
      d.begins.same j b ∙ ((inv.view_ok v).log d.begins.opens).begins j (omega (arith, t.0)) ∙ t.1 j a

  agree : (w k : ℕ) (f : ℕ → Entry E) (v m : ℕ) (g : ℕ → Entry E) → ConfirmedOk n s.replicas s.views w k f → ConfirmedOk n s.replicas s.views v m g
      → (j : ℕ) → j < k → j < m → g j ≡ f j
  agree w k f v m g c d j a b = go (cases_order w v)
    where
      go : (w ≡ v) ⊎ ((w < v) ⊎ (v < w)) → g j ≡ f j
      go (inl e) = d.begins.same j b ∙ ap (λ y. (s.views y).log j) (sym e) ∙ sym (c.begins.same j a)
      go (inr (inl h)) = agree_later w k f v m g c d h j a b
      go (inr (inr h)) = sym (agree_later v m g w k f d c h j b a)

  -- a book with no entry, or a confirmed one
  abbrev Origin : ℕ → (ℕ → Entry E) → Type 0
  Origin l f = (l ≡ 0) ⊎ ((w : ℕ) × ConfirmedOk n s.replicas s.views w l f)

  -- of the confirmed books of some events the longest
  record Longest (events : List (Event E)) : Type 0 where
    pub length : ℕ
    pub book : ℕ → Entry E
    pub origin : Origin length book
    pub has : (w k : ℕ) (f : ℕ → Entry E) → Member (confirmed w k f) events → k ≤ length

  keeps : (w k : ℕ) (f : ℕ → Entry E) → ConfirmedOk n s.replicas s.views w k f → (l : ℕ) (g : ℕ → Entry E) → Origin l g → k ≤ l → Keeps k f l g
  keeps w k f c l g (inl z) h = (h, λ j a. absurd (omega arith))
  keeps w k f c l g (inr (v, d)) h = (h, λ j a. agree w k f v l g c d j a (omega arith))

  -- how many entries an event confirms
  abbrev confirmed_length : Event E → ℕ
  confirmed_length (confirmed w k f) = k
  confirmed_length _ = 0

  -- one event more, where the longest book is now (l, f)
  now_longest : (x : Event E) (xs : List (Event E)) (m : Longest xs) (l : ℕ) (f : ℕ → Entry E) → Origin l f → m.length ≤ l → confirmed_length x ≤ l → Longest (x ∷ xs)
  now_longest x xs m l f origin up upto = record { length = l; book = f; origin = origin; has = has }
    where
      has : (w k : ℕ) (g : ℕ → Entry E) → Member (confirmed w k g) (x ∷ xs) → k ≤ l
      has w k g (inl e) = omega (arith, ap confirmed_length e)
      has w k g (inr q) = omega (arith, m.has w k g q)

  with_event : (x : Event E) (xs : List (Event E)) → EventOk n s.replicas s.views x → (m : Longest xs) → (m.length < confirmed_length x) ⊎ (confirmed_length x ≤ m.length) → Longest (x ∷ xs)
  with_event x xs ok m (inr h) = now_longest x xs m m.length m.book m.origin (omega arith) h
  with_event (confirmed w k f) xs ok m (inl h) = now_longest (confirmed w k f) xs m k f (inr (w, ok)) (omega arith) (omega arith)
  with_event _ xs ok m (inl h) = absurd (omega arith)

  longest : (xs : List (Event E)) → ((x : Event E) → Member x xs → EventOk n s.replicas s.views x) → Longest xs
  longest [] ok = record { length = 0; book = (s.views 0).log; origin = inl refl; has = λ w k f h. absurd h }
  longest (x ∷ xs) ok = let m = longest xs (λ y h. ok y (inr h)) in with_event x xs (ok x (inl refl)) m (cases_lt m.length (confirmed_length x))

  pub one_list : OneList s.history
  one_list = record {
    length = all.length;
    book = all.book;
    has = λ w k f h. keeps w k f (inv.event_ok (confirmed w k f) h) all.length all.book all.origin (all.has w k f h);
    lacks = λ w z k h a. lacks w z k (inv.event_ok (lost w z k) h) all.length all.book all.origin a;
  }
    where
      all : Longest s.history
      all = longest s.history inv.event_ok

      lacks : (w z k : ℕ) → LostOk n s.replicas s.views w z k → (l : ℕ) (g : ℕ → Entry E) → Origin l g → k < l → (g k).view ≢ z
      lacks w z k c l g (inl e) a q = omega arith
      lacks w z k c l g (inr (v, d)) a q = not_both n s inv w z k v l g c d a q
