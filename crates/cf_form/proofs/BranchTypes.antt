-- The relation of a branch is typed and linear.
use Rattle.std.proofs.Common.{◌≡◌, ℕ, zero, suc, ◌+◌, ◌==◌, Bool, true, false, ◌||◌, Some, None, List, [], ◌∷◌, ◌++◌, length, map, filter, slice_get, refl, subst, arith}
use Rattle.std.specs.Prelude.{if◌then◌else◌, nat_lt, cond}
use Rattle.std.specs.List.{AllByRecursion}
use Rattle.std.proofs.lemmas.Bool.Decides.{nat_tests}
use Rattle.std.proofs.lemmas.Int.{ints}
use Rattle.cf_tree.specs.declared.base.Base.{Base}
use Rattle.cf_tree.specs.declared.base.Base.TheVariants.{Int, Bool as Truth, Set}
use Rattle.cf_tree.specs.Params.{bases_of}
use Rattle.cf_tree.specs.Relation.{IsTyped, is_fixed, IsLinearTerm, IsLinear}
use Rattle.cf_tree.specs.RelTree.{TermTree, term_lit, term_var, term_card, term_neg, term_add, term_sub, term_mul, term_div, term_mod, term_abs, RelTree, rel_true, rel_false, rel_compare, rel_same_set, rel_other_set, rel_subset, rel_divides, rel_and, rel_or, rel_not}
use Rattle.cf_program.specs.declared.linearity.Linearity.{Linearity}
use Rattle.cf_program.specs.declared.linearity.Linearity.TheVariants.{Plain, Late}
use Rattle.cf_program.specs.LateLinear.{is_fixed_below, IsLateLinearTerm, IsLateLinear, IsLinearBy, known_in}
use Rattle.cf_form.specs.Branches.{WideChoose, Branch, branched, some_aim_has, is_truth, truth_levels, values_in, not_folded, and_right, and_folded, or_right, or_folded, folded, in_branch, truth_bounds, all_outputs, relation_at}
use Rattle.cf_form.specs.Formed.{as_number}
use Rattle.cf_form.specs.LinearWide.{IsLinearBehind}
use Rattle.cf_form.specs.Polarity.{holding}
use Rattle.cf_form.specs.Wide.{WideRel, has_truth}
use Rattle.cf_form.proofs.ExpansionTypes.{HaveLevels, levels_behind, IsTruthLevel}
use Rattle.cf_form.proofs.Lists.{rec_append}
use Rattle.cf_form.proofs.PolarityTypes.{IsFine, all_fine, IsKnown, fine}
use Rattle.cf_form.proofs.WideTypes.{IsWideRel, rel_in}

-- ---- truth outputs as numbers
get_number : (scope bs : List Base) (x : ℕ) → slice_get (scope ++ bs) x ≡ Some Int → slice_get (scope ++ map as_number bs) x ≡ Some Int
get_number [] [] x e = e
get_number [] (Int ∷ bs) zero e = refl
get_number [] (Truth ∷ bs) zero e = refl
get_number [] (Set ∷ bs) zero e = cc
get_number [] (b ∷ bs) (suc x) e = get_number [] bs x e
get_number (c ∷ scope) bs zero e = e
get_number (c ∷ scope) bs (suc x) e = get_number scope bs x e

get_set : (scope bs : List Base) (x : ℕ) → slice_get (scope ++ bs) x ≡ Some Set → slice_get (scope ++ map as_number bs) x ≡ Some Set
get_set [] [] x e = e
get_set [] (Int ∷ bs) zero e = cc
get_set [] (Truth ∷ bs) zero e = cc
get_set [] (Set ∷ bs) zero e = refl
get_set [] (b ∷ bs) (suc x) e = get_set [] bs x e
get_set (c ∷ scope) bs zero e = e
get_set (c ∷ scope) bs (suc x) e = get_set scope bs x e

-- a truth variable is one of the scope, or a number among the outputs
get_truth : (scope bs : List Base) (x : ℕ) → slice_get (scope ++ bs) x ≡ Some Truth → (slice_get scope x ≡ Some Truth → ⊥) →
    slice_get (scope ++ map as_number bs) x ≡ Some Int
get_truth [] [] x e none = cc
get_truth [] (Int ∷ bs) zero e none = cc
get_truth [] (Truth ∷ bs) zero e none = refl
get_truth [] (Set ∷ bs) zero e none = cc
get_truth [] (b ∷ bs) (suc x) e none = get_truth [] bs x e (λ f. no_level x f)
  where
    no_level : (x : ℕ) → slice_get {X = Base} [] x ≡ Some Truth → ⊥
    no_level x f = cc
get_truth (c ∷ scope) bs zero e none = absurd (none e)
get_truth (c ∷ scope) bs (suc x) e none = get_truth scope bs x e none

-- ---- a branch has a value for each level on which it branches
abbrev pub IsApart : ℕ → List ℕ → Type 0
IsApart x ys = AllByRecursion (λ y. (x == y) ≡ false) ys

none_apart : (branch : Branch) (x : ℕ) → values_in branch x ≡ None → IsApart x (map (λ v. v.0) branch)
none_apart [] x e = tt
none_apart (v ∷ branch) x e = by (x == v.0) refl (none_apart branch x) e
  where
    by : (b : Bool) → (x == v.0) ≡ b → (values_in branch x ≡ None → IsApart x (map (λ v. v.0) branch)) →
        (if b then Some v.1 else values_in branch x) ≡ None → ((x == v.0) ≡ false) × IsApart x (map (λ v. v.0) branch)
    by true q rest f = cc
    by false q rest f = (q, rest f)

tail_apart : (n k : ℕ) (ks : List ℕ) (b : Bool) → IsApart n (cond b (k ∷ ks) ks) → IsApart n ks
tail_apart n k ks true a = a.1
tail_apart n k ks false a = a

rest_apart : (test : ℕ → Bool) (t : Bool) (n k : ℕ) (ks : List ℕ) → IsApart n (filter test (if t then k ∷ ks else ks)) → IsApart n (filter test ks)
rest_apart test true n k ks a = tail_apart n k (filter test ks) (test k) a
rest_apart test false n k ks a = a

-- a truth variable of the scope that is asked for is a level of the branch
level_stands : (test : ℕ → Bool) (k x : ℕ) (scope : List Base) → slice_get scope x ≡ Some Truth → test (k + x) ≡ true →
    IsApart (k + x) (filter test (truth_levels k scope)) → ⊥
level_stands test k x [] e t a = cc
level_stands test k zero (Int ∷ scope) e t a = cc
level_stands test k zero (Set ∷ scope) e t a = cc
level_stands test k zero (Truth ∷ scope) e t a =
    let here : k + 0 ≡ k = omega arith in
    let asked : test k ≡ true = subst (λ n. test n ≡ true) here t in
    let off : IsApart k (cond (test k) (k ∷ filter test (truth_levels (suc k) scope)) (filter test (truth_levels (suc k) scope))) =
    subst (λ n. IsApart n (filter test (truth_levels k (Truth ∷ scope)))) here a in
    let first : IsApart k (k ∷ filter test (truth_levels (suc k) scope)) =
    subst (λ b. IsApart k (cond b (k ∷ filter test (truth_levels (suc k) scope)) (filter test (truth_levels (suc k) scope)))) asked off in
    let same : (k == k) ≡ true = grind arith in cc
level_stands test k (suc x) (b ∷ scope) e t a =
    let here : k + suc x ≡ suc k + x = omega arith in
    level_stands test (suc k) x scope e (subst (λ n. test n ≡ true) here t)
    (rest_apart test (is_truth b) (suc k + x) k (truth_levels (suc k) scope) (subst (λ n. IsApart n (filter test (truth_levels k (b ∷ scope)))) here a))

-- ---- folds
module _ (scope : List Base) (n : ℕ) where
  not_fine : (r : RelTree) → IsFine scope n r → IsFine scope n (not_folded r)
  not_fine rel_true h = h
  not_fine rel_false h = h
  not_fine (rel_compare o a b) h = h
  not_fine (rel_same_set a b) h = h
  not_fine (rel_other_set a b) h = h
  not_fine (rel_subset a b) h = h
  not_fine (rel_divides k t) h = h
  not_fine (rel_and p q) h = h
  not_fine (rel_or p q) h = h
  not_fine (rel_not p) h = h

  abbrev Both : RelTree → RelTree → Type 0
  Both p q = (IsTyped scope p × IsTyped scope q) × (IsLateLinear n p × IsLateLinear n q)

  both : (p q : RelTree) → IsFine scope n p → IsFine scope n q → Both p q
  both p q h k = ((h.0, k.0), (h.1, k.1))

  and_right_fine : (p q : RelTree) → IsFine scope n p → IsFine scope n q → IsFine scope n (and_right p q)
  and_right_fine p rel_true h k = h
  and_right_fine p rel_false h k = k
  and_right_fine p (rel_compare o a b) h k = both p (rel_compare o a b) h k
  and_right_fine p (rel_same_set a b) h k = both p (rel_same_set a b) h k
  and_right_fine p (rel_other_set a b) h k = both p (rel_other_set a b) h k
  and_right_fine p (rel_subset a b) h k = both p (rel_subset a b) h k
  and_right_fine p (rel_divides c t) h k = both p (rel_divides c t) h k
  and_right_fine p (rel_and a b) h k = both p (rel_and a b) h k
  and_right_fine p (rel_or a b) h k = both p (rel_or a b) h k
  and_right_fine p (rel_not a) h k = both p (rel_not a) h k

  or_right_fine : (p q : RelTree) → IsFine scope n p → IsFine scope n q → IsFine scope n (or_right p q)
  or_right_fine p rel_true h k = k
  or_right_fine p rel_false h k = h
  or_right_fine p (rel_compare o a b) h k = both p (rel_compare o a b) h k
  or_right_fine p (rel_same_set a b) h k = both p (rel_same_set a b) h k
  or_right_fine p (rel_other_set a b) h k = both p (rel_other_set a b) h k
  or_right_fine p (rel_subset a b) h k = both p (rel_subset a b) h k
  or_right_fine p (rel_divides c t) h k = both p (rel_divides c t) h k
  or_right_fine p (rel_and a b) h k = both p (rel_and a b) h k
  or_right_fine p (rel_or a b) h k = both p (rel_or a b) h k
  or_right_fine p (rel_not a) h k = both p (rel_not a) h k

  and_fine : (p q : RelTree) → IsFine scope n p → IsFine scope n q → IsFine scope n (and_folded p q)
  and_fine rel_true q h k = k
  and_fine rel_false q h k = h
  and_fine (rel_compare o a b) q h k = and_right_fine (rel_compare o a b) q h k
  and_fine (rel_same_set a b) q h k = and_right_fine (rel_same_set a b) q h k
  and_fine (rel_other_set a b) q h k = and_right_fine (rel_other_set a b) q h k
  and_fine (rel_subset a b) q h k = and_right_fine (rel_subset a b) q h k
  and_fine (rel_divides c t) q h k = and_right_fine (rel_divides c t) q h k
  and_fine (rel_and a b) q h k = and_right_fine (rel_and a b) q h k
  and_fine (rel_or a b) q h k = and_right_fine (rel_or a b) q h k
  and_fine (rel_not a) q h k = and_right_fine (rel_not a) q h k

  or_fine : (p q : RelTree) → IsFine scope n p → IsFine scope n q → IsFine scope n (or_folded p q)
  or_fine rel_true q h k = h
  or_fine rel_false q h k = k
  or_fine (rel_compare o a b) q h k = or_right_fine (rel_compare o a b) q h k
  or_fine (rel_same_set a b) q h k = or_right_fine (rel_same_set a b) q h k
  or_fine (rel_other_set a b) q h k = or_right_fine (rel_other_set a b) q h k
  or_fine (rel_subset a b) q h k = or_right_fine (rel_subset a b) q h k
  or_fine (rel_divides c t) q h k = or_right_fine (rel_divides c t) q h k
  or_fine (rel_and a b) q h k = or_right_fine (rel_and a b) q h k
  or_fine (rel_or a b) q h k = or_right_fine (rel_or a b) q h k
  or_fine (rel_not a) q h k = or_right_fine (rel_not a) q h k

  folded_fine : (r : RelTree) → IsFine scope n r → IsFine scope n (folded r)
  folded_fine rel_true h = h
  folded_fine rel_false h = h
  folded_fine (rel_compare o a b) h = h
  folded_fine (rel_same_set a b) h = h
  folded_fine (rel_other_set a b) h = h
  folded_fine (rel_subset a b) h = h
  folded_fine (rel_divides k t) h = h
  folded_fine (rel_and p q) h =
      and_fine (folded p) (folded q) (folded_fine p (h.0.0, h.1.0)) (folded_fine q (h.0.1, h.1.1))
  folded_fine (rel_or p q) h =
      or_fine (folded p) (folded q) (folded_fine p (h.0.0, h.1.0)) (folded_fine q (h.0.1, h.1.1))
  folded_fine (rel_not p) h = not_fine (folded p) (folded_fine p h)

  bounds_fine : (x : ℕ) (bs : List Base) → HaveLevels scope x (map as_number bs) → AllByRecursion (IsFine scope n) (truth_bounds x bs)
  bounds_fine x [] h = tt
  bounds_fine x (Int ∷ bs) h = bounds_fine (suc x) bs h.1
  bounds_fine x (Truth ∷ bs) h = (
    ((omega (arith, ints), h.0), (tt, tt)),
    (((h.0, omega (arith, ints)), (tt, tt)), bounds_fine (suc x) bs h.1),
  )
  bounds_fine x (Set ∷ bs) h = bounds_fine (suc x) bs h.1

  in_branch_fine : (branch : Branch) (r : WideRel) → IsFine scope n (holding (values_in branch) r) → IsFine scope n (in_branch branch r)
  in_branch_fine [] r h = h
  in_branch_fine (v ∷ branch) r h = folded_fine (holding (values_in (v ∷ branch)) r) h

-- ---- linearity
lt_none : (x : ℕ) → nat_lt x 0 ≡ false
lt_none x = grind (arith, nat_tests)

fixed_zero : (t : TermTree) → is_fixed_below 0 t ≡ is_fixed t
fixed_zero (term_lit k) = refl
fixed_zero (term_var x) = lt_none x
fixed_zero (term_card s) = refl
fixed_zero (term_neg a) = fixed_zero a
fixed_zero (term_add a b) = rw (fixed_zero a, fixed_zero b) refl
fixed_zero (term_sub a b) = rw (fixed_zero a, fixed_zero b) refl
fixed_zero (term_mul a b) = rw (fixed_zero a, fixed_zero b) refl
fixed_zero (term_div a k) = refl
fixed_zero (term_mod a k) = refl
fixed_zero (term_abs a) = fixed_zero a

linear_term : (t : TermTree) → IsLateLinearTerm 0 t → IsLinearTerm t
linear_term (term_lit k) h = tt
linear_term (term_var x) h = tt
linear_term (term_card s) h = tt
linear_term (term_neg a) h = linear_term a h
linear_term (term_add a b) h = (linear_term a h.0, linear_term b h.1)
linear_term (term_sub a b) h = (linear_term a h.0, linear_term b h.1)
linear_term (term_mul a b) h = (linear_term a h.0, linear_term b h.1, rw (← (fixed_zero a), ← (fixed_zero b)) h.2)
linear_term (term_div a k) h = linear_term a h
linear_term (term_mod a k) h = linear_term a h
linear_term (term_abs a) h = linear_term a h

linear_rel : (r : RelTree) → IsLateLinear 0 r → IsLinear r
linear_rel rel_true h = tt
linear_rel rel_false h = tt
linear_rel (rel_compare o a b) h = (linear_term a h.0, linear_term b h.1)
linear_rel (rel_same_set a b) h = tt
linear_rel (rel_other_set a b) h = tt
linear_rel (rel_subset a b) h = tt
linear_rel (rel_divides k t) h = linear_term t h
linear_rel (rel_and a b) h = (linear_rel a h.0, linear_rel b h.1)
linear_rel (rel_or a b) h = (linear_rel a h.0, linear_rel b h.1)
linear_rel (rel_not a) h = linear_rel a h

linear_by : (how : Linearity) (s : ℕ) (r : RelTree) → IsLateLinear (known_in how s) r → IsLinearBy how s r
linear_by Plain s r h = linear_rel r h
linear_by Late s r h = h

-- ---- the relation of a branch
module _ (how : Linearity) (q : WideChoose) (wide : IsWideRel (IsTruthLevel (bases_of q.scope ++ all_outputs q)) (bases_of q.scope ++ all_outputs q) q.relation)
    (linear : IsLinearBehind how (length (bases_of q.scope)) q.relation) (counted : length (bases_of q.scope) ≡ length q.scope) where
  abbrev pub behind : List Base
  behind = bases_of q.scope ++ map as_number (all_outputs q)

  known : (branch : Branch) → map (λ v. v.0) branch ≡ branched q → (x : ℕ) → has_truth x q.relation ≡ true →
      IsTruthLevel (bases_of q.scope ++ all_outputs q) x → IsKnown behind 0 (values_in branch) x
  known branch e x has at none =
      get_truth (bases_of q.scope) (all_outputs q) x at
      (λ own.
      level_stands (λ x. has_truth x q.relation || some_aim_has x q.aims) 0 x (bases_of q.scope) own
      (let same : 0 + x ≡ x = omega arith in rw (same, has) refl)
      (let same : 0 + x ≡ x = omega arith in rw same (subst (IsApart x) e (none_apart branch x none))))

  pub branch_is : (branch : Branch) → map (λ v. v.0) branch ≡ branched q →
      IsTyped behind (relation_at q branch) × IsLinearBy how (length (bases_of q.scope)) (relation_at q branch)
  branch_is branch e =
      let n = known_in how (length (bases_of q.scope)) in
      let r = fine behind n (values_in branch) q.relation
      (rel_in (IsTruthLevel (bases_of q.scope ++ all_outputs q)) (IsKnown behind 0 (values_in branch)) (bases_of q.scope ++ all_outputs q) behind
      (get_number (bases_of q.scope) (all_outputs q)) (get_set (bases_of q.scope) (all_outputs q)) q.relation wide (known branch e)) linear in
      let bounds = bounds_fine behind n (length q.scope) (all_outputs q)
      (subst (λ x. HaveLevels behind x (map as_number (all_outputs q))) counted (levels_behind (bases_of q.scope) (map as_number (all_outputs q)))) in
      let all = all_fine behind n (truth_bounds (length q.scope) (all_outputs q) ++ in_branch branch q.relation ∷ [])
      (rec_append (IsFine behind n) (truth_bounds (length q.scope) (all_outputs q)) (in_branch branch q.relation ∷ []) bounds
      (in_branch_fine behind n branch q.relation r.0, tt)) in
      (all.0, linear_by how (length (bases_of q.scope)) (relation_at q branch) all.1)
