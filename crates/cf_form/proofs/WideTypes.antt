-- Typed wide forms: variables with their bases, numbers within the limit, and divisors.
use Rattle.std.proofs.Common.{◌≡◌, ℕ, Bool, true, false, ◌||◌, Some, List, slice_get, refl}
use Rattle.std.proofs.lemmas.Bool.{eq-eqb}
use Rattle.cf_num.specs.Limit.{IsWithin}
use Rattle.cf_tree.specs.declared.base.Base.{Base}
use Rattle.cf_tree.specs.declared.base.Base.TheVariants.{Int, Set}
use Rattle.cf_tree.specs.Relation.{IsDivisor}
use Rattle.cf_form.specs.Wide.{WideTerm, wide_lit, wide_var, wide_card, wide_neg, wide_add, wide_sub, wide_mul, wide_div, wide_mod, wide_abs, wide_if, wide_min, wide_max, WideTerms, no_wides, wide_more, WideSet, wide_empty, wide_set, wide_union, wide_inter, wide_diff, wide_if_set, WideRel, wide_true, wide_false, wide_truth, wide_compare, wide_same_set, wide_other_set, wide_subset, wide_divides, wide_not, wide_and, wide_or, wide_implies, wide_same, wide_other, wide_if_truth, wide_chain, term_has_truth, some_has_truth, set_has_truth, has_truth}

-- of a truth variable of level x is asked `truth x`
abbrev mutual
  pub IsWideTerm : (ℕ → Type 0) → List Base → WideTerm → Type 0
  IsWideTerm truth scope (wide_lit k) = IsWithin k
  IsWideTerm truth scope (wide_var x) = slice_get scope x ≡ Some Int
  IsWideTerm truth scope (wide_card s) = IsWideSet truth scope s
  IsWideTerm truth scope (wide_neg a) = IsWideTerm truth scope a
  IsWideTerm truth scope (wide_add a b) = IsWideTerm truth scope a × IsWideTerm truth scope b
  IsWideTerm truth scope (wide_sub a b) = IsWideTerm truth scope a × IsWideTerm truth scope b
  IsWideTerm truth scope (wide_mul a b) = IsWideTerm truth scope a × IsWideTerm truth scope b
  IsWideTerm truth scope (wide_div a k) = IsWideTerm truth scope a × IsDivisor k
  IsWideTerm truth scope (wide_mod a k) = IsWideTerm truth scope a × IsDivisor k
  IsWideTerm truth scope (wide_abs a) = IsWideTerm truth scope a
  IsWideTerm truth scope (wide_if c a b) = IsWideRel truth scope c × IsWideTerm truth scope a × IsWideTerm truth scope b
  IsWideTerm truth scope (wide_min ts) = AreWideTerms truth scope ts
  IsWideTerm truth scope (wide_max ts) = AreWideTerms truth scope ts

  pub AreWideTerms : (ℕ → Type 0) → List Base → WideTerms → Type 0
  AreWideTerms truth scope no_wides = Unit {0}
  AreWideTerms truth scope (wide_more t ts) = IsWideTerm truth scope t × AreWideTerms truth scope ts

  pub IsWideSet : (ℕ → Type 0) → List Base → WideSet → Type 0
  IsWideSet truth scope wide_empty = Unit {0}
  IsWideSet truth scope (wide_set x) = slice_get scope x ≡ Some Set
  IsWideSet truth scope (wide_union a b) = IsWideSet truth scope a × IsWideSet truth scope b
  IsWideSet truth scope (wide_inter a b) = IsWideSet truth scope a × IsWideSet truth scope b
  IsWideSet truth scope (wide_diff a b) = IsWideSet truth scope a × IsWideSet truth scope b
  IsWideSet truth scope (wide_if_set c a b) = IsWideRel truth scope c × IsWideSet truth scope a × IsWideSet truth scope b

  pub IsWideRel : (ℕ → Type 0) → List Base → WideRel → Type 0
  IsWideRel truth scope wide_true = Unit {0}
  IsWideRel truth scope wide_false = Unit {0}
  IsWideRel truth scope (wide_truth x) = truth x
  IsWideRel truth scope (wide_compare o a b) = IsWideTerm truth scope a × IsWideTerm truth scope b
  IsWideRel truth scope (wide_same_set a b) = IsWideSet truth scope a × IsWideSet truth scope b
  IsWideRel truth scope (wide_other_set a b) = IsWideSet truth scope a × IsWideSet truth scope b
  IsWideRel truth scope (wide_subset a b) = IsWideSet truth scope a × IsWideSet truth scope b
  IsWideRel truth scope (wide_divides k t) = IsDivisor k × IsWideTerm truth scope t
  IsWideRel truth scope (wide_not p) = IsWideRel truth scope p
  IsWideRel truth scope (wide_and p q) = IsWideRel truth scope p × IsWideRel truth scope q
  IsWideRel truth scope (wide_or p q) = IsWideRel truth scope p × IsWideRel truth scope q
  IsWideRel truth scope (wide_implies p q) = IsWideRel truth scope p × IsWideRel truth scope q
  IsWideRel truth scope (wide_same p q) = IsWideRel truth scope p × IsWideRel truth scope q
  IsWideRel truth scope (wide_other p q) = IsWideRel truth scope p × IsWideRel truth scope q
  IsWideRel truth scope (wide_if_truth c p q) = IsWideRel truth scope c × IsWideRel truth scope p × IsWideRel truth scope q
  IsWideRel truth scope (wide_chain orders ts) = AreWideTerms truth scope ts

-- ---- in another scope, for the truth variables that stand there
or_left : (a b : Bool) → a ≡ true → (a || b) ≡ true
or_left a b e = rw e refl

or_right : (a b : Bool) → b ≡ true → (a || b) ≡ true
or_right true b e = refl
or_right false b e = e

module _ (truth new : ℕ → Type 0) (scope other : List Base) (numbers : (x : ℕ) → slice_get scope x ≡ Some Int → slice_get other x ≡ Some Int)
    (sets : (x : ℕ) → slice_get scope x ≡ Some Set → slice_get other x ≡ Some Set) where
  -- what is asked of the truth variables that `has` tells
  abbrev Leads : (ℕ → Bool) → Type 0
  Leads has = (x : ℕ) → has x ≡ true → truth x → new x

  first : (f g : ℕ → Bool) → Leads (λ x. f x || g x) → Leads f
  first f g k x e = k x (or_left (f x) (g x) e)

  second : (f g : ℕ → Bool) → Leads (λ x. f x || g x) → Leads g
  second f g k x e = k x (or_right (f x) (g x) e)

  mutual
    term_in : (t : WideTerm) → IsWideTerm truth scope t → Leads (λ x. term_has_truth x t) → IsWideTerm new other t
    term_in (wide_lit k) h l = h
    term_in (wide_var x) h l = numbers x h
    term_in (wide_card s) h l = set_in s h l
    term_in (wide_neg a) h l = term_in a h l
    term_in (wide_add a b) h l = (term_in a h.0 (first _ _ l), term_in b h.1 (second (λ x. term_has_truth x a) _ l))
    term_in (wide_sub a b) h l = (term_in a h.0 (first _ _ l), term_in b h.1 (second (λ x. term_has_truth x a) _ l))
    term_in (wide_mul a b) h l = (term_in a h.0 (first _ _ l), term_in b h.1 (second (λ x. term_has_truth x a) _ l))
    term_in (wide_div a k) h l = (term_in a h.0 l, h.1)
    term_in (wide_mod a k) h l = (term_in a h.0 l, h.1)
    term_in (wide_abs a) h l = term_in a h l
    term_in (wide_if c a b) h l =
        let two = first (λ x. has_truth x c || term_has_truth x a) (λ x. term_has_truth x b) l in (
          rel_in c h.0 (first (λ x. has_truth x c) (λ x. term_has_truth x a) two),
          term_in a h.1 (second (λ x. has_truth x c) (λ x. term_has_truth x a) two),
          term_in b h.2 (second (λ x. has_truth x c || term_has_truth x a) (λ x. term_has_truth x b) l),
        )
    term_in (wide_min ts) h l = terms_in ts h l
    term_in (wide_max ts) h l = terms_in ts h l

    terms_in : (ts : WideTerms) → AreWideTerms truth scope ts → Leads (λ x. some_has_truth x ts) → AreWideTerms new other ts
    terms_in no_wides h l = tt
    terms_in (wide_more t ts) h l =
        (term_in t h.0 (first (λ x. term_has_truth x t) (λ x. some_has_truth x ts) l), terms_in ts h.1 (second (λ x. term_has_truth x t) (λ x. some_has_truth x ts) l))

    set_in : (s : WideSet) → IsWideSet truth scope s → Leads (λ x. set_has_truth x s) → IsWideSet new other s
    set_in wide_empty h l = tt
    set_in (wide_set x) h l = sets x h
    set_in (wide_union a b) h l =
        (set_in a h.0 (first (λ x. set_has_truth x a) (λ x. set_has_truth x b) l), set_in b h.1 (second (λ x. set_has_truth x a) (λ x. set_has_truth x b) l))
    set_in (wide_inter a b) h l =
        (set_in a h.0 (first (λ x. set_has_truth x a) (λ x. set_has_truth x b) l), set_in b h.1 (second (λ x. set_has_truth x a) (λ x. set_has_truth x b) l))
    set_in (wide_diff a b) h l =
        (set_in a h.0 (first (λ x. set_has_truth x a) (λ x. set_has_truth x b) l), set_in b h.1 (second (λ x. set_has_truth x a) (λ x. set_has_truth x b) l))
    set_in (wide_if_set c a b) h l =
        let two = first (λ x. has_truth x c || set_has_truth x a) (λ x. set_has_truth x b) l in (
          rel_in c h.0 (first (λ x. has_truth x c) (λ x. set_has_truth x a) two),
          set_in a h.1 (second (λ x. has_truth x c) (λ x. set_has_truth x a) two),
          set_in b h.2 (second (λ x. has_truth x c || set_has_truth x a) (λ x. set_has_truth x b) l),
        )

    pub rel_in : (r : WideRel) → IsWideRel truth scope r → Leads (λ x. has_truth x r) → IsWideRel new other r
    rel_in wide_true h l = tt
    rel_in wide_false h l = tt
    rel_in (wide_truth x) h l = l x (eq-eqb x x refl) h
    rel_in (wide_compare o a b) h l =
        (term_in a h.0 (first (λ x. term_has_truth x a) (λ x. term_has_truth x b) l), term_in b h.1 (second (λ x. term_has_truth x a) (λ x. term_has_truth x b) l))
    rel_in (wide_same_set a b) h l =
        (set_in a h.0 (first (λ x. set_has_truth x a) (λ x. set_has_truth x b) l), set_in b h.1 (second (λ x. set_has_truth x a) (λ x. set_has_truth x b) l))
    rel_in (wide_other_set a b) h l =
        (set_in a h.0 (first (λ x. set_has_truth x a) (λ x. set_has_truth x b) l), set_in b h.1 (second (λ x. set_has_truth x a) (λ x. set_has_truth x b) l))
    rel_in (wide_subset a b) h l =
        (set_in a h.0 (first (λ x. set_has_truth x a) (λ x. set_has_truth x b) l), set_in b h.1 (second (λ x. set_has_truth x a) (λ x. set_has_truth x b) l))
    rel_in (wide_divides k t) h l = (h.0, term_in t h.1 l)
    rel_in (wide_not p) h l = rel_in p h l
    rel_in (wide_and p q) h l = (rel_in p h.0 (first (λ x. has_truth x p) (λ x. has_truth x q) l), rel_in q h.1 (second (λ x. has_truth x p) (λ x. has_truth x q) l))
    rel_in (wide_or p q) h l = (rel_in p h.0 (first (λ x. has_truth x p) (λ x. has_truth x q) l), rel_in q h.1 (second (λ x. has_truth x p) (λ x. has_truth x q) l))
    rel_in (wide_implies p q) h l = (rel_in p h.0 (first (λ x. has_truth x p) (λ x. has_truth x q) l), rel_in q h.1 (second (λ x. has_truth x p) (λ x. has_truth x q) l))
    rel_in (wide_same p q) h l = (rel_in p h.0 (first (λ x. has_truth x p) (λ x. has_truth x q) l), rel_in q h.1 (second (λ x. has_truth x p) (λ x. has_truth x q) l))
    rel_in (wide_other p q) h l = (rel_in p h.0 (first (λ x. has_truth x p) (λ x. has_truth x q) l), rel_in q h.1 (second (λ x. has_truth x p) (λ x. has_truth x q) l))
    rel_in (wide_if_truth c p q) h l =
        let two = first (λ x. has_truth x c || has_truth x p) (λ x. has_truth x q) l in (
          rel_in c h.0 (first (λ x. has_truth x c) (λ x. has_truth x p) two),
          rel_in p h.1 (second (λ x. has_truth x c) (λ x. has_truth x p) two),
          rel_in q h.2 (second (λ x. has_truth x c || has_truth x p) (λ x. has_truth x q) l),
        )
    rel_in (wide_chain orders ts) h l = terms_in ts h l
