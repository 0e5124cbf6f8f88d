-- One choose of a program is the first that is refused.
use Rattle.std.proofs.Common.{◌≡◌, ℕ, suc, List, [], ◌∷◌, Some, None, Contains, refl, sym, ap, ◌∙◌, arith}
use Rattle.std.specs.Prelude.{Option}
use Rattle.cf_linear.specs.declared.refusal.Refusal.{Refusal}
use Rattle.cf_tree.specs.ChooseTree.{ChooseTree}
use Rattle.cf_build.specs.Chooses.{by_number, limit_of, refused_or, first_refused, IsFirstRefused}
use Rattle.cf_build.proofs.NumberOrder.{ordered_from}

pub some_pair : (n m : ℕ) (r s : Refusal) → ◌≡◌ {A = Option (ℕ × Refusal)} (Some (n, r)) (Some (m, s)) → (n ≡ m) × (r ≡ s)
some_pair n m r s e = let p : ◌≡◌ {A = ℕ × Refusal} (n, r) (m, s) = cc in (ap (λ x. x.0) p, ap (λ x. x.1) p)

pub one_refusal : (qs : List ChooseTree) (n m : ℕ) (r s : Refusal) → IsFirstRefused qs n r → IsFirstRefused qs m s → r ≡ s
one_refusal qs n m r s h k = (some_pair n m r s (sym h ∙ k)).1

-- a choose of this number is refused so
abbrev HasRefused : List ChooseTree → ℕ → Refusal → Type 0
HasRefused qs n r = (q : ChooseTree) × Contains qs q × (q.number ≡ n) × (limit_of q ≡ Some r)

first_has : (qs : List ChooseTree) (n : ℕ) (r : Refusal) → first_refused qs ≡ Some (n, r) → HasRefused qs n r
first_has [] n r e = cc
first_has (q ∷ qs) n r e = by (limit_of q) refl (first_has qs n r) e
  where
    by : (o : Option Refusal) → limit_of q ≡ o → (first_refused qs ≡ Some (n, r) → HasRefused qs n r) → refused_or q.number o (first_refused qs) ≡ Some (n, r) →
        HasRefused (q ∷ qs) n r
    by None f later e = let h = later e in let c = h.1 in (h.0, (suc c.0, omega (arith, c.1), c.2), h.2, h.3)
    by (Some s) f later e = let p = some_pair q.number n s r e in (q, (0, omega arith, refl), p.0, f ∙ ap (λ x. Some x) p.1)

pub refused_has : (qs : List ChooseTree) (n : ℕ) (r : Refusal) → IsFirstRefused qs n r → HasRefused qs n r
refused_has qs n r h = let f = first_has (by_number qs) n r h in (f.0, ordered_from qs f.0 f.1, f.2, f.3)
