-- A list by its places, of which one has changed.
use Rattle.std.proofs.Common.{◌≡◌, ℕ, ◌<◌, ◌≢◌, map, length, get_or, set, sym, ap, ◌∙◌, ⊎_elim, arith}
use Rattle.std.specs.List.{range_with_len}
use Rattle.std.proofs.lemmas.List.FromFn.{length-map-range_with_len, get_or-map-range_with_len, fill_by_all}
use Rattle.std.proofs.lemmas.List.{get_or-set_same, get_or-set_other, length-set}
use Rattle.std.proofs.lemmas.Bool.{cases_eq}

pub counted_set : {X : Type 0} (f g : ℕ → X) (n c : ℕ) (x : X) → c < n → g c ≡ x → ((i : ℕ) → i < n → i ≢ c → g i ≡ f i) → map g (range_with_len 0 n) ≡ set (map f (range_with_len 0 n)) c x
counted_set f g n c x lt here else =
    let long : length (map f (range_with_len 0 n)) ≡ n = length-map-range_with_len f 0 n in
    sym (fill_by_all g (set (map f (range_with_len 0 n)) c x) n x (length-set (map f (range_with_len 0 n)) c x ∙ long)
    (λ i h. ⊎_elim
    (λ e. ap (λ j. get_or (set (map f (range_with_len 0 n)) c x) j x) e ∙ get_or-set_same (map f (range_with_len 0 n)) c x x (omega arith) ∙ sym (ap g e ∙ here))
    (λ ne. get_or-set_other (map f (range_with_len 0 n)) c i x x ne ∙ get_or-map-range_with_len f 0 n i i x h (omega arith) ∙ sym (else i h ne))
    (cases_eq i c)))
