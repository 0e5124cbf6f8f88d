-- Unknowns in a table.
use Rattle.std.proofs.Common.{◌≡◌, ℕ, suc, ◌+◌, ◌<◌, ◌≤◌, List, [], ◌∷◌, ◌++◌, true, ◌||◌, ◌==◌, refl, sym, ◌∙◌, ap, ap₂, append_assoc, get_or, length, drop, drop-cons, add-one, subst}
use Rattle.std.specs.Prelude.{nat_eq}
use Rattle.std.specs.List.{list_any}
use Rattle.std.proofs.lemmas.Bool.{eqb-true}
use Rattle.std.proofs.lemmas.List.{append-nil}
use Rattle.std.proofs.Math.ListN.{drop_of_length-le}
use Rattle.indexmap.specs.IndexSet.{insert_key}
use Rattle.cf_linear.specs.Steps.{has_column}
use Rattle.cf_linear.proofs.BoolLemmas.{on_bool}
use Rattle.cf_linear.proofs.MapLemmas.{eq_flip}
use Rattle.cf_linear.specs.Unknowns.{HaveSame, with_column}

-- ---- the keys of a table
pub has_key : (us : List ℕ) (c : ℕ) → list_any (nat_eq c) us ≡ has_column us c
has_key [] c = refl
has_key (u ∷ us) c = ap₂ (λ a b. a || b) (eq_flip c u) (has_key us c)

pub key_added : (us : List ℕ) (c : ℕ) → insert_key nat_eq us c ≡ with_column us c
key_added us c = rw (has_key us c) refl

-- ---- what is in the table, and what is left
has-append : (us vs : List ℕ) (c : ℕ) → has_column (us ++ vs) c ≡ (has_column us c || has_column vs c)
has-append [] vs c = refl
has-append (u ∷ us) vs c = on_bool (u == c) (λ e. rw e refl) (λ e. rw e (has-append us vs c))

pub same_start : (us : List ℕ) → HaveSame ([] ++ us) us
same_start us = record { each = λ c. refl }

pub same_next : (us next all : List ℕ) (i u : ℕ) → i < length all → u ≡ get_or all i u → next ≡ with_column us u → HaveSame (us ++ drop i all) all →
    HaveSame (next ++ drop (i + 1) all) all
same_next us next all i u h e n s = record { each = λ c. moved c ∙ s.each c }
  where
    left : drop i all ≡ u ∷ drop (i + 1) all
    left = rw (add-one, drop-cons all i u) (ap (λ y. y ∷ drop (suc i) all) (sym e))

    kept : (c : ℕ) → has_column us u ≡ true → (u == c) ≡ true → has_column us c ≡ true
    kept c f g = subst (λ y. has_column us y ≡ true) (eqb-true u c g) f

    both : (vs : List ℕ) (c : ℕ) → has_column (with_column us u ++ vs) c ≡ has_column (us ++ u ∷ vs) c
    both vs c = on_bool (has_column us u)
        (λ f. rw (f, has-append us vs c, has-append us (u ∷ vs) c) (on_bool (u == c) (λ g. rw (g, kept c f g) refl) (λ g. rw g refl)))
        (λ f. rw f (ap (λ y. has_column y c) (append_assoc us (u ∷ []) vs)))

    moved : (c : ℕ) → has_column (next ++ drop (i + 1) all) c ≡ has_column (us ++ drop i all) c
    moved c = rw (n, left) (both (drop (i + 1) all) c)

pub same_end : (us all : List ℕ) (i : ℕ) → length all ≤ i → HaveSame (us ++ drop i all) all → HaveSame us all
same_end us all i h s = subst (λ y. HaveSame y all) (ap (λ y. us ++ y) (drop_of_length-le all h) ∙ append-nil us) s
