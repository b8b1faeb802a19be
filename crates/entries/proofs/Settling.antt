-- What the last entry of a book settles, and what is left to the entries before it.
use Rattle.std.proofs.Common.{◌≡◌, ℕ, ◌⊎◌, List, [], ◌∷◌, ◌++◌, Some, None, Option, unwrap_or, sym, refl, ap, ◌∙◌, subst, inl, inr, arith}
use Rattle.entries.specs.declared.book.Entry.{Entry}
use Rattle.entries.specs.declared.kinds.Answer.{Answer}
use Rattle.entries.specs.declared.kinds.Question.{Question}
use Rattle.entries.specs.Lookups.{settled, or_else, looked, NoneSettles, LastSays, Rule}

module _ {E : Type 0} (says : E → Question → Option Answer) where
  or_else_assoc : (o p r : Option Answer) → or_else (or_else o p) r ≡ or_else o (or_else p r)
  or_else_assoc (Some x) p r = refl
  or_else_assoc None p r = refl

  or_else_end : (o : Option Answer) → o ≡ or_else o None
  or_else_end (Some x) = refl
  or_else_end None = refl

  settled_last : (es : List (Entry E)) (e : Entry E) (q : Question) → settled says (es ++ e ∷ []) q ≡ or_else (says e.change q) (settled says es q)
  settled_last [] e q = or_else_end (says e.change q)
  settled_last (x ∷ es) e q = ap (λ o. or_else o (says x.change q)) (settled_last es e q) ∙ or_else_assoc (says e.change q) (settled says es q) (says x.change q)

  -- what the last entry says settles the question or, where it says nothing, what is before it
  pub settled_from : (whole before : List (Entry E)) (last : Entry E) (q : Question) (o : Option Answer) → whole ≡ before ++ last ∷ [] → says last.change q ≡ o → settled says whole q ≡ or_else o (settled says before q)
  settled_from whole before last q o split said = ap (λ es. settled says es q) split ∙ settled_last before last q ∙ ap (λ p. or_else p (settled says before q)) said

  -- an answer that an entry gives is that entry's, or a later one's
  or_else_some : (o p : Option Answer) (a : Answer) → or_else o p ≡ Some a → (o ≡ Some a) ⊎ ((o ≡ None) × (p ≡ Some a))
  or_else_some (Some x) p a h = inl h
  or_else_some None p a h = inr (refl, h)

  or_else_none : (o p : Option Answer) → or_else o p ≡ None → (o ≡ None) × (p ≡ None)
  or_else_none (Some x) p h = ((cc), (cc))
  or_else_none None p h = (refl, h)

  none_settles : (es : List (Entry E)) (q : Question) → settled says es q ≡ None → NoneSettles says es q
  none_settles [] q h = tt
  none_settles (e ∷ es) q h = let both = or_else_none (settled says es q) (says e.change q) h in (both.1, none_settles es q both.0)

  last_says : (es : List (Entry E)) (q : Question) (a : Answer) → settled says es q ≡ Some a → LastSays says es q a
  last_says [] q a h = let z : ◌≡◌ {A = ℕ} 0 1 = cc in let no : ⊥ = omega arith in elim no [ ]
  last_says (e ∷ es) q a h =
      elim (or_else_some (settled says es q) (says e.change q) a h) [
        | inl later ↦
            let rest = last_says es q a later in
            record { before = e ∷ rest.before; last = rest.last; after = rest.after; whole = ap (λ l. e ∷ l) rest.whole; answers = rest.answers; final = rest.final }
        | inr here ↦ record { before = []; last = e; after = es; whole = refl; answers = here.1; final = none_settles es q here.0 }
      ]

  by_rule : (o : Option Answer) (u : Answer) (es : List (Entry E)) (q : Question) → settled says es q ≡ o → Rule says u es q (unwrap_or o u)
  by_rule (Some a) u es q h = inl (last_says es q a h)
  by_rule None u es q h = inr (none_settles es q h, refl)

  -- what `looked` computes is what the rule says
  pub looked_rule : (u : Answer) (es : List (Entry E)) (q : Question) (a : Answer) → a ≡ looked says u es q → Rule says u es q a
  looked_rule u es q a h = subst (λ x. Rule says u es q x) (sym h) (by_rule (settled says es q) u es q refl)
