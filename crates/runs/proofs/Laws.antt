-- From the protocol's theorem to the four laws in the words of the guarantee.
use Rattle.std.proofs.Common.{◌≡◌, ℕ, suc, ◌-◌, ◌<◌, ◌≤◌, cond, ◌&&◌, eqb, List, [], ◌∷◌, ◌++◌, map, length, take, Some, Option, sym, refl, ap, ◌∙◌, subst, inl, inr, arith}
use Rattle.std.proofs.lemmas.Bool.Decides.{nat_tests}
use Rattle.std.specs.List.{range_with_len}
use Rattle.std.proofs.lemmas.List.FromFn.{length-map-range_with_len}
use Rattle.std.proofs.lemmas.Option.{same_Some}
use Rattle.numbers.specs.declared.views.Stamp.{Stamp}
use Rattle.numbers.specs.declared.views.View.{View}
use Rattle.entries.specs.declared.book.Entry.{Entry}
use Rattle.entries.specs.declared.kinds.Answer.{Answer as Light}
use Rattle.entries.specs.declared.kinds.Question.{Question}
use Rattle.entries.specs.Lookups.{looked}
use Rattle.controller.specs.Books.{at_place, item}
use Rattle.protocol.specs.Members.{Member}
use Rattle.protocol.specs.Guarantee as theorem
use Rattle.protocol.specs.Guarantee.{Keeps, Stands}
use Rattle.protocol.specs.Model as model
use Rattle.protocol.specs.Model.{Site}
use Rattle.runs.specs.Guarantee.{HandedOnce, Holds, Laws, entry_of}
use Rattle.runs.specs.History.{Event, confirmed, handed, handed_by, handed_with, looked_up, lost, opened, same_stamp}
use Rattle.runs.proofs.Bond.{BookR, EventR, HistoryR, Small, code, the_entry}
use Rattle.runs.proofs.Codes.{code_same, code_of_view, earlier_code, same_view_code, coded_view}
use Rattle.runs.proofs.Items.{at_item, front_same, item_counted, item_below, item_some}
use Rattle.runs.proofs.Once.{once}

module _ {E : Type 0} where
  -- Entries

  pub entry_is : (e : Entry E) (f : Entry E) → Small e.view → Small f.view → the_entry e ≡ the_entry f → e ≡ f
  entry_is e f small_e small_f same =
      let views : e.view ≡ f.view = code_same e.view f.view small_e small_f (ap (λ x. x.view) same) in
      let changes : e.change ≡ f.change = ap (λ x. x.what) same in
      ap (λ v. record { view = v; change = e.change }) views ∙ ap (λ x. record { view = f.view; change = x }) changes

  decoded : model.Entry E → Entry E
  decoded e = record { view = coded_view e.view; change = e.what }

  -- What a confirmation says

  -- the book f of k entries, whose last one has the stamp t, begins with `before`
  record Confirmed (t : Stamp) (before : List (Entry E)) (k : ℕ) (f : ℕ → model.Entry E) : Type 0 where
    small : Small t.view
    place : t.place.number ≡ k
    least : 1 ≤ k
    front : BookR before (k - 1) f
    last : (f (k - 1)).view ≡ code t.view

  module _ (t : Stamp) (before : List (Entry E)) (k : ℕ) (f : ℕ → model.Entry E) (c : Confirmed t before k f) where
    -- the entry that the slip is of
    stamped : the_entry (entry_of t (f (k - 1)).what) ≡ f (k - 1)
    stamped = ap (λ v. record { view = v; what = (f (k - 1)).what }) (sym c.last)

    module _ (book : List (Entry E)) (l : ℕ) (g : ℕ → model.Entry E) (is : BookR book l g) (keeps : Keeps k f l g) where
      stands_there : at_place book t.place.number ≡ Some (entry_of t (f (k - 1)).what)
      stands_there =
          let inside : k - 1 < length book = omega (arith, is.long, keeps.0, c.least) in
          let there = item_some book (k - 1) inside in
          let same : the_entry there.0 ≡ the_entry (entry_of t (f (k - 1)).what) = sym (is.same (k - 1) there.0 there.1) ∙ keeps.1 (k - 1) (omega (arith, c.least)) ∙ sym stamped in
          let equal : there.0 ≡ entry_of t (f (k - 1)).what = entry_is there.0 (entry_of t (f (k - 1)).what) (is.small (k - 1) there.0 there.1) c.small same in
          ap (at_place book) c.place ∙ at_item book k c.least ∙ there.1 ∙ ap (λ e. Some e) equal

      after_all_there : take (t.place.number - 1) book ≡ before
      after_all_there =
          let size : length before ≡ k - 1 = sym c.front.long in
          let size_at : t.place.number - 1 ≡ length before = ap (λ z. z - 1) c.place ∙ sym size in
          ap (λ z. take z book) size_at
          ∙ front_same book before (omega (arith, is.long, keeps.0)) (λ j x y in_book in_before.
          let below : j < length before = item_below before j y in_before in
          entry_is x y (is.small j x in_book) (c.front.small j y in_before)
          (sym (is.same j x in_book) ∙ keeps.1 j (omega (arith, c.least)) ∙ c.front.same j y in_before))

  -- Histories

  module _ (says : E → Question → Option Light) (unsettled : Light) where
    -- the event of the protocol that belongs to an event
    related : (x : Event E) (h : List (Event E)) (H : List (model.Event E)) → HistoryR says unsettled h H → Member x h
        → (y : model.Event E) × Member y H × EventR says unsettled x y
    related x [] H r mem = absurd mem
    related x (z ∷ zs) [] r mem = absurd r
    related x (z ∷ zs) (y ∷ ys) r (inl e) = (y, inl refl, subst (λ a. EventR says unsettled a y) (sym e) r.0)
    related x (z ∷ zs) (y ∷ ys) r (inr mem) =
        let rest = related x zs ys r.1 mem in
        (rest.0, inr rest.1, rest.2)

    stamp_code : (u t : Stamp) (w j k : ℕ) → w ≡ code u.view → Small u.view → Small t.view → u.place.number ≡ suc j → t.place.number ≡ suc k
        → same_stamp u t ≡ (eqb w (code t.view) && eqb j k)
    stamp_code u t w j k view small_u small_t place_u place_t =
        let places : eqb u.place.number t.place.number ≡ eqb j k = grind (arith, nat_tests) in
        ap (λ b. b && eqb u.place.number t.place.number) (same_view_code u.view t.view small_u small_t)
        ∙ ap (λ b. eqb (code u.view) (code t.view) && b) places
        ∙ ap (λ z. eqb z (code t.view) && eqb j k) (sym view)

    module _ (t : Stamp) (k : ℕ) (small : Small t.view) (place : t.place.number ≡ suc k) where
      handed_by_same : (x : Event E) (y : model.Event E) → EventR says unsettled x y → handed_by t x ≡ theorem.handed_by (code t.view) k y
      handed_by_same (handed u x) (model.handed w j y) r =
          ap (λ b. cond b (x ∷ []) []) (stamp_code u t w j k r.0 r.1 small r.2 place) ∙ ap (λ z. cond (eqb w (code t.view) && eqb j k) (z ∷ []) []) r.3
      handed_by_same (opened v b) (model.opening w l f) r = refl
      handed_by_same (confirmed u v b) (model.confirmed w l f) r = refl
      handed_by_same (lost u) (model.lost w z l) r = refl
      handed_by_same (looked_up v b q a) (model.looked_up w l f) r = refl
      handed_by_same x y r = absurd r

      handed_with_same : (h : List (Event E)) (H : List (model.Event E)) → HistoryR says unsettled h H → handed_with t h ≡ theorem.handed_with (code t.view) k H
      handed_with_same [] [] r = refl
      handed_with_same [] (y ∷ ys) r = absurd r
      handed_with_same (x ∷ xs) [] r = absurd r
      handed_with_same (x ∷ xs) (y ∷ ys) r =
          ap (λ z. z ++ handed_with t xs) (handed_by_same x y r.0) ∙ ap (λ z. theorem.handed_by (code t.view) k y ++ z) (handed_with_same xs ys r.1)

    module _ (h : List (Event E)) (m : Site E) (stands : Stands m) (histories : HistoryR says unsettled h m.history) where
      -- what the protocol has for each kind of event

      record AtConfirmed (t : Stamp) (w : View) (before : List (Entry E)) : Type 0 where
        k : ℕ
        f : ℕ → model.Entry E
        small : Small w
        noted : Member (model.confirmed (code w) k f) m.history
        is : Confirmed t before k f

      at_confirmed : (t : Stamp) (w : View) (before : List (Entry E)) → Member (confirmed t w before) h → AtConfirmed t w before
      at_confirmed t w before mem = let it = related (confirmed t w before) h m.history histories mem in by it.0 it.1 it.2
        where
          by : (y : model.Event E) → Member y m.history → EventR says unsettled (confirmed t w before) y → AtConfirmed t w before
          by (model.confirmed v k f) noted r =
              record {
                k = k;
                f = f;
                small = r.1;
                noted = subst (λ z. Member (model.confirmed z k f) m.history) r.0 noted;
                is = record { small = r.2; place = r.3; least = r.4; front = r.5; last = r.6 };
              }
          by y noted r = absurd r

      record AtBook (v : View) (book : List (Entry E)) (Noted : ℕ → ℕ → (ℕ → model.Entry E) → Type 0) : Type 0 where
        l : ℕ
        g : ℕ → model.Entry E
        small : Small v
        noted : Noted (code v) l g
        is : BookR book l g

      at_opened : (v : View) (book : List (Entry E)) → Member (opened v book) h → AtBook v book (λ w l g. Member (model.opening w l g) m.history)
      at_opened v book mem = let it = related (opened v book) h m.history histories mem in by it.0 it.1 it.2
        where
          by : (y : model.Event E) → Member y m.history → EventR says unsettled (opened v book) y → AtBook v book (λ w l g. Member (model.opening w l g) m.history)
          by (model.opening w l g) noted r = record { l = l; g = g; small = r.1; noted = subst (λ z. Member (model.opening z l g) m.history) r.0 noted; is = r.2 }
          by y noted r = absurd r

      at_looked_up : (v : View) (book : List (Entry E)) (q : Question) (a : Light) → Member (looked_up v book q a) h
          → AtBook v book (λ w l g. Member (model.looked_up w l g) m.history) × (a ≡ looked says unsettled book q)
      at_looked_up v book q a mem = let it = related (looked_up v book q a) h m.history histories mem in by it.0 it.1 it.2
        where
          by : (y : model.Event E) → Member y m.history → EventR says unsettled (looked_up v book q a) y
              → AtBook v book (λ w l g. Member (model.looked_up w l g) m.history) × (a ≡ looked says unsettled book q)
          by (model.looked_up w l g) noted r = (record { l = l; g = g; small = r.1; noted = subst (λ z. Member (model.looked_up z l g) m.history) r.0 noted; is = r.2 }, r.3)
          by y noted r = absurd r

      record AtLost (t : Stamp) : Type 0 where
        w : ℕ
        k : ℕ
        place : t.place.number ≡ suc k
        noted : Member (model.lost w (code t.view) k) m.history

      at_lost : (t : Stamp) → Member (lost t) h → AtLost t
      at_lost t mem = let it = related (lost t) h m.history histories mem in by it.0 it.1 it.2
        where
          by : (y : model.Event E) → Member y m.history → EventR says unsettled (lost t) y → AtLost t
          by (model.lost w z k) noted r = record { w = w; k = k; place = r.2; noted = subst (λ y. Member (model.lost w y k) m.history) r.0 noted }
          by y noted r = absurd r

      -- The laws

      handed_once : (t : Stamp) (w : View) (before : List (Entry E)) (c : AtConfirmed t w before) → HandedOnce h t (c.f (c.k - 1)).what
      handed_once t w before c =
          let j : ℕ = c.k - 1 in
          let next : c.k ≡ suc j = omega (arith, c.is.least) in
          handed_with_same t j c.is.small (c.is.place ∙ next) h m.history histories
          ∙ ap (λ z. theorem.handed_with z j m.history) (sym c.is.last)
          ∙ stands.handed_once (code w) c.k c.f c.noted j (omega arith)

      holds : (t : Stamp) (w : View) (before : List (Entry E)) (c : AtConfirmed t w before) (book : List (Entry E)) (l : ℕ) (g : ℕ → model.Entry E)
          → BookR book l g → Keeps c.k c.f l g → Holds h t before book
      holds t w before c book l g is keeps =
          record {
            change = (c.f (c.k - 1)).what;
            once = handed_once t w before c;
            stands = stands_there t before c.k c.f c.is book l g is keeps;
            after_all = after_all_there t before c.k c.f c.is book l g is keeps;
          }

      -- the one list, entry by entry

      the_list : List (Entry E)
      the_list = map (λ j. decoded (stands.one_list.book j)) (range_with_len 0 stands.one_list.length)

      list_item : (j : ℕ) (e : Entry E) → item the_list j ≡ Some e → decoded (stands.one_list.book j) ≡ e
      unfolding the_list
      list_item j e there =
          let one = stands.one_list in
          let below : j < one.length = omega (arith, item_below the_list j e there, length-map-range_with_len (λ i. decoded (one.book i)) 0 one.length) in
          same_Some (decoded (one.book j)) e (sym (item_counted (λ i. decoded (one.book i)) one.length j below) ∙ there)

      list_is : BookR the_list stands.one_list.length stands.one_list.book
      unfolding the_list decoded
      list_is =
          let one = stands.one_list in
          record {
            long = sym (length-map-range_with_len (λ j. decoded (one.book j)) 0 one.length);
            same = λ j e there.
                sym (ap (λ v. record { view = v; what = (one.book j).what }) (code_of_view (one.book j).view)) ∙ ap the_entry (list_item j e there);
            small = λ j e there.
                let less : Small (coded_view (one.book j).view) = omega arith in
                subst (λ z. Small z.view) (list_item j e there) less;
          }

      list_has : (t : Stamp) (w : View) (before : List (Entry E)) → Member (confirmed t w before) h → Holds h t before the_list
      list_has t w before mem =
          let c = at_confirmed t w before mem in
          holds t w before c the_list stands.one_list.length stands.one_list.book list_is (stands.one_list.has (code w) c.k c.f c.noted)

      list_lacks : (t : Stamp) → Member (lost t) h → (e : Entry E) → at_place the_list t.place.number ≡ Some e → e.view ≡ t.view → ⊥
      unfolding the_list decoded
      list_lacks t mem e read view =
          let it = at_lost t mem in
          let one = stands.one_list in
          let k : ℕ = it.k in
          let back : k ≡ suc k - 1 = omega arith in
          let there : item the_list k ≡ Some e = ap (item the_list) back ∙ sym (at_item the_list (suc k) (omega arith)) ∙ sym (ap (at_place the_list) it.place) ∙ read in
          let below : k < one.length = omega (arith, item_below the_list k e there, length-map-range_with_len (λ j. decoded (one.book j)) 0 one.length) in
          let is : decoded (one.book k) ≡ e = same_Some (decoded (one.book k)) e (sym (item_counted (λ j. decoded (one.book j)) one.length k below) ∙ there) in
          one.lacks it.w (code t.view) k it.noted below
          (sym (code_of_view (one.book k).view) ∙ ap (λ x. code x.view) is ∙ ap code view)

      pub laws : Laws says unsettled h
      laws =
          record {
            survival = λ t w before mem v book mem_book lt.
                let c = at_confirmed t w before mem in
                let b = at_opened v book mem_book in
                holds t w before c book b.l b.g b.is (stands.in_openings (code w) c.k c.f (code v) b.l b.g c.noted b.noted (earlier_code w v c.small b.small lt));
            one_list = record { entries = the_list; has = list_has; lacks = list_lacks };
            lookups = λ t w before mem v book q a mem_book lt.
                let c = at_confirmed t w before mem in
                let both = at_looked_up v book q a mem_book in
                let b = both.0 in
                (both.1, holds t w before c book b.l b.g b.is (stands.in_lookups (code w) c.k c.f (code v) b.l b.g c.noted b.noted (earlier_code w v c.small b.small lt)));
            once = once says unsettled h m stands histories;
          }
