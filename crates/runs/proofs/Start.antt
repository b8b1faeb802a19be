-- A site that was just made belongs to the state that the protocol's runs start from.
use Rattle.std.proofs.Common.{◌≡◌, ℕ, zero, suc, ◌*◌, ◌<◌, ◌≤◌, Bool, true, false, cond, ◌&&◌, eqb, leb, ◌⊎◌, List, [], ◌∷◌, map, length, get_or, replicate, None, Ok, Err, Option, sym, refl, ap, ◌∙◌, subst, inl, inr, not-suc-le-zero, arith}
use native.Mathlib.Decide.{ℕ_discrete, dec_lt}
use Rattle.std.proofs.Math.ListN.{get_or-eq_default}
use Rattle.std.proofs.lemmas.List.FromFn.{get_or-map-range_with_len}
use Rattle.std.proofs.lemmas.Bool.{and_parts, cases_lt, eqb-true, le-ltb, leb-true, lt-ltb, ne_eqb}
use Rattle.std.proofs.lemmas.Option.{none-some}
use Rattle.std.specs.List.{range_with_len}
use Rattle.numbers.specs.declared.refusals.Refusal.{Refusal}
use Rattle.numbers.specs.declared.refusals.Refusal.TheVariants.{CellsUsed, NotMade}
use Rattle.numbers.specs.declared.rows.Row.{Row}
use Rattle.numbers.specs.Rows.{zero_row}
use Rattle.numbers.specs.Views.{controller_of, same_view, view_of}
use Rattle.entries.specs.declared.book.Entry.{Entry}
use Rattle.entries.specs.declared.kinds.Answer.{Answer as Light}
use Rattle.entries.specs.declared.kinds.Question.{Question}
use Rattle.cabinet.specs.Cells.{Cell, cell_at}
use Rattle.numbers.proofs.SameViews.{same_view_equal}
use Rattle.controller.specs.Questions.{ask, asks}
use Rattle.controller.specs.Records.{down_record, first_record, first_status, only}
use Rattle.site.specs.Making.{cells_zero, made_row, made_site, make_step, same_row, sizes_ok}
use Rattle.site.specs.States.{Done, State, book, fault_by, row}
use Rattle.protocol.specs.Updates.{pick, upd}
use Rattle.protocol.proofs.Updates.{upd_other, upd_same}
use Rattle.protocol.specs.Model as model
use Rattle.protocol.specs.Model.{active_replica, made, made_replica}
use Rattle.runs.specs.History.{opened}
use Rattle.runs.proofs.Bond.{Bond, ReplicaR, StatusR, the_length, OwnR}
use Rattle.runs.proofs.Frame.{replica_as}

-- What a taken make was asked

pub record Sizes (n cap books pool : ℕ) : Type 0 where
  pub least : 3 ≤ n
  pub most : n ≤ 7
  pub cap_least : 1 ≤ cap
  pub cap_most : cap ≤ 65535
  pub books_long : books ≡ n * cap

pub sizes_of : (n cap books pool : ℕ) → sizes_ok n cap books pool ≡ true → Sizes n cap books pool
sizes_of n cap books pool ok =
    let a = and_parts (leb 3 n && leb n 7 && leb 1 cap && leb cap 65535 && leb 8 pool && leb pool 4096) (eqb books (n * cap)) ok in
    let b = and_parts (leb 3 n && leb n 7 && leb 1 cap && leb cap 65535 && leb 8 pool) (leb pool 4096) a.0 in
    let c = and_parts (leb 3 n && leb n 7 && leb 1 cap && leb cap 65535) (leb 8 pool) b.0 in
    let d = and_parts (leb 3 n && leb n 7 && leb 1 cap) (leb cap 65535) c.0 in
    let e = and_parts (leb 3 n && leb n 7) (leb 1 cap) d.0 in
    let f = and_parts (leb 3 n) (leb n 7) e.0 in
    record { least = leb-true 3 n f.0; most = leb-true n 7 f.1; cap_least = leb-true 1 cap e.1; cap_most = leb-true cap 65535 d.1; books_long = eqb-true books (n * cap) a.1 }

same_row_is : (v w : Row) → same_row v w ≡ true → v ≡ w
same_row_is v w ok =
    let both = and_parts (same_view v.current w.current) (same_view v.promised w.promised) ok in
    ap (λ x. record { current = x; promised = v.promised }) (same_view_equal v.current w.current both.0)
    ∙ ap (λ x. record { current = w.current; promised = x }) (same_view_equal v.promised w.promised both.1)

zero_at : (cs : List Cell) (n c : ℕ) → cells_zero cs n ≡ true → c < n → (cell_at cs c).row ≡ zero_row
zero_at cs zero c ok below = absurd (not-suc-le-zero below)
zero_at cs (suc n) c ok below =
    let parts = and_parts (cells_zero cs n) (same_row (cell_at cs n).row zero_row) ok in
    by (cases_lt c n) (λ lt. zero_at cs n c parts.0 lt) (same_row_is (cell_at cs n).row zero_row parts.1)
  where
    by : (c < n) ⊎ (n ≤ c) → (c < n → (cell_at cs c).row ≡ zero_row) → (cell_at cs n).row ≡ zero_row → (cell_at cs c).row ≡ zero_row
    by (inl lt) before here = before lt
    by (inr ge) before here = let same : c ≡ n = omega arith in subst (λ k. (cell_at cs k).row ≡ zero_row) (sym same) here

-- The two sides of a controller at the start

made_row_below : (n c : ℕ) → n ≤ 7 → c < n → get_or (map (made_row n) (range_with_len 0 7)) c down_record ≡ first_record (controller_of c)
made_row_below n c most below =
    get_or-map-range_with_len (made_row n) 0 7 c c down_record (omega arith) (omega arith) ∙ ap (λ b. cond b (first_record (controller_of c)) down_record) (lt-ltb c n below)

-- and down from n on, also beyond the table
made_row_rest : (n c : ℕ) → n ≤ c → get_or (map (made_row n) (range_with_len 0 7)) c down_record ≡ down_record
made_row_rest n c above = by (cases_lt c 7)
  where
    by : (c < 7) ⊎ (7 ≤ c) → get_or (map (made_row n) (range_with_len 0 7)) c down_record ≡ down_record
    by (inl low) = get_or-map-range_with_len (made_row n) 0 7 c c down_record low (omega arith) ∙ ap (λ b. cond b (first_record (controller_of c)) down_record) (le-ltb c n above)
    by (inr high) = get_or-eq_default (map (made_row n) (range_with_len 0 7)) down_record high

none_at : {A : Type 0} (k d : ℕ) → get_or {A = Option A} (replicate k None) d None ≡ None
none_at zero d = refl
none_at (suc k) zero = refl
none_at (suc k) (suc d) = none_at k d

module _ {E : Type 0} (blank : ℕ → model.Entry E) where
  made_replica_below : (n c : ℕ) → c < n → made_replica n blank c ≡ active_replica blank c
  made_replica_below n c below = by (dec_lt c n)
    where
      by : (d : Dec (c < n)) → pick d (active_replica blank c) (model.absent_replica blank) ≡ active_replica blank c
      by (yes k) = refl
      by (no k) = absurd (k below)

  -- the first primary has a length of its own, and of no other
  first_length : (d : ℕ) → upd (λ _. 0) 0 1 d ≡ the_length (get_or (only (controller_of 0) 0) d None)
  first_length zero = upd_same (λ _. 0) 0 1
  first_length (suc d) = upd_other (λ _. 0) 0 1 (suc d) (λ e. let no : ⊥ = omega arith in no) ∙ sym (ap the_length (none_at 6 d))

  first_status_at : (n c : ℕ) → StatusR n c (first_status (eqb c 0)) (active_replica blank c)
  unfolding ℕ_discrete
  first_status_at n zero = (refl, refl, refl, λ d below. first_length d)
  first_status_at n (suc c) = subst (λ b. StatusR n (suc c) (first_status b) (active_replica blank (suc c))) (sym (ne_eqb (suc c) 0 (λ e. omega arith))) refl

  first_own : (c : ℕ) → OwnR c 0 (first_status (eqb c 0))
  first_own zero = refl
  first_own (suc c) = subst (λ b. OwnR (suc c) 0 (first_status b)) (sym (ne_eqb (suc c) 0 (λ e. omega arith))) tt

  first_replica : (n c : ℕ) (b : List (Entry E)) → ReplicaR n c (first_record (controller_of c)) zero_row b (active_replica blank c)
  first_replica n c b =
      record {
        status = first_status_at n c;
        views = λ up. refl;
        cell = record { kept = refl; current = refl; promised = refl };
        complete = refl;
        primary = refl;
        log = record { len = refl; within = omega arith; same = λ j e below read. absurd (not-suc-le-zero below); small = λ j e below read. absurd (not-suc-le-zero below) };
        own = first_own c;
      }

module _ {E : Type 0} (s : State E) (n cap : ℕ) where
  -- the state that a taken make leaves
  abbrev made_state : State E
  made_state = record { site = made_site n cap (length s.pool); cells = s.cells; books = s.books; pool = s.pool }

  -- both questions were answered yes where the result is Ok
  pub made_yes : (x : Unit {0}) → (make_step s n cap).result ≡ Ok x
      → (sizes_ok n cap (length s.books) (length s.pool) ≡ true) × (cells_zero s.cells n ≡ true)
  made_yes x = by (sizes_ok n cap (length s.books) (length s.pool)) (cells_zero s.cells n)
    where
      by : (a b : Bool) → (asks {A = Done (Unit {0}) E} (ask a NotMade ∷ ask b CellsUsed ∷ []) (λ k. record { result = Err (fault_by (controller_of 0) k); state = s }) (record { result = Ok tt; state = made_state })).result ≡ Ok x
          → (a ≡ true) × (b ≡ true)
      by true true e = (refl, refl)
      by true false e = let z : ◌≡◌ {A = ℕ} 0 1 = cc in let no : ⊥ = omega arith in absurd no
      by false true e = let z : ◌≡◌ {A = ℕ} 0 1 = cc in let no : ⊥ = omega arith in absurd no
      by false false e = let z : ◌≡◌ {A = ℕ} 0 1 = cc in let no : ⊥ = omega arith in absurd no

module _ {E : Type 0} (says : E → Question → Option Light) (unsettled : Light) (s : State E) (n cap : ℕ) (blank : ℕ → model.Entry E) where
  module _ (cells_long : length s.cells ≡ 7) (sizes : sizes_ok n cap (length s.books) (length s.pool) ≡ true) (zeros : cells_zero s.cells n ≡ true) where
    bond_there : Bond says unsettled n (made_state s n cap) (opened (view_of 0 0) [] ∷ []) (made n blank)
    bond_there =
        let fit : Sizes n cap (length s.books) (length s.pool) = sizes_of n cap (length s.books) (length s.pool) sizes in
        record {
          sizes = record { made = refl; size = refl; least = fit.least; most = fit.most; cap_most = fit.cap_most };
          memory = record { books_long = fit.books_long; pool_long = refl; rows_long = refl; cells_long = cells_long };
          replicas = λ c below.
              subst (ReplicaR n c (row (made_state s n cap) (controller_of c)) (cell_at s.cells c).row (book (made_state s n cap) (controller_of c))) (sym (made_replica_below blank n c below))
              (replica_as n c (first_record (controller_of c)) (row (made_state s n cap) (controller_of c)) zero_row (cell_at s.cells c).row
              (book (made_state s n cap) (controller_of c)) (book (made_state s n cap) (controller_of c)) (active_replica blank c)
              (made_row_below n c fit.most below) (zero_at s.cells n c zeros below) refl (first_replica blank n c (book (made_state s n cap) (controller_of c))));
          rest = made_row_rest n;
          messages = record { holds = omega arith; known = λ j x below read. absurd (not-suc-le-zero below) };
          histories = ((refl, omega arith, record { long = refl; same = λ j e read. absurd (none-some e read); small = λ j e read. absurd (none-some e read) }), tt);
        }

    made_is : make_step s n cap ≡ record { result = Ok tt; state = made_state s n cap }
    made_is =
        ap (λ b. cond b (cond (cells_zero s.cells n) taken (refused CellsUsed)) (refused NotMade)) sizes ∙ ap (λ b. cond b taken (refused CellsUsed)) zeros
      where
        taken : Done (Unit {0}) E
        taken = record { result = Ok tt; state = made_state s n cap }

        refused : Refusal → Done (Unit {0}) E
        refused k = record { result = Err (fault_by (controller_of 0) k); state = s }

    -- a site that was made belongs to the start of the protocol
    pub made_bond : Bond says unsettled n (make_step s n cap).state (opened (view_of 0 0) [] ∷ []) (made n blank)
    made_bond = subst (λ d. Bond says unsettled n d.state (opened (view_of 0 0) [] ∷ []) (made n blank)) (sym made_is) bond_there
