-- A relation holds in an environment exactly where the first system of some case is satisfied at values of the columns that agree with it.
use Rattle.std.proofs.Common.{◌≡◌, ◌≢◌, ℕ, ℤ, pos, neg_ℤ, List, [], ◌∷◌, length, Bool, true, ◌||◌, refl, sym, ◌∙◌, ap, arith}
use Rattle.std.specs.Prelude.{◌↔◌, ◌≤ℤ◌, IsTrue}
use Rattle.std.proofs.lemmas.Int.{ints}
use Rattle.cf_tree.specs.declared.base.Base.{Base}
use Rattle.cf_tree.specs.Numbers.{quotient, remainder, absolute}
use Rattle.cf_tree.specs.RelTree.{SetTree, empty_set, set_var, union_of, inter_of, diff_of, TermTree, term_lit, term_var, term_card, term_neg, term_add}
use Rattle.cf_tree.specs.RelTree.{term_sub, term_mul, term_div, term_mod, term_abs, RelTree}
use Rattle.cf_tree.specs.Relation.{members, val, Holds, IsTyped}
use Rattle.cf_tree.specs.Sets.{has}
use Rattle.cf_tree.specs.Values.{Value, number_of, value_at}
use Rattle.cf_linear.specs.Rows.{Values, value}
use Rattle.cf_linear.specs.Keep.{Same, Formed}
use Rattle.cf_linear.specs.Systems.{System, EachRow, Sat}
use Rattle.cf_linear.specs.Layout.{Layout, covers, has_level, first_free, number_column, region_row}
use Rattle.cf_linear.specs.Written.{val_at, IsPlaced, IsPlacedSet}
use Rattle.cf_linear.specs.Cases.{Atom, atom_true, atom_false, atom_compare, atom_divides, atom_not_divides, atom_same, atom_other, atom_subset}
use Rattle.cf_linear.specs.Cases.{atom_not_subset, Signed, in_first, in_one, none_rows, negation_normal, disjuncts, system_of_case, first_systems}
use Rattle.cf_cases.specs.Holding.{EachOf, SomeOf, signs_of, signs_in, AtomHolds, AtomAt, AreCounts, AtomFits, IsPlacedRel}
use Rattle.cf_cases.proofs.WholeCases.{CaseHolds, CaseAt, CaseFits}
use Rattle.cf_cases.proofs.Quantifiers.{each-map, each-imp, some-map, some-unmap, some-each}
use Rattle.cf_cases.proofs.CaseLaws.{holds-cases}
use Rattle.cf_cases.proofs.FormedLaws.{system-formed}
use Rattle.cf_cases.proofs.SystemLaws.{case_from_system, system_from_case, cases-fit}

-- the number variables and all forms over sets have the values of the columns
pub record FormsAgree (l : Layout) (env : List Value) (v : Values) : Type 0 where
  pub numbers : (x : ℕ) → IsTrue (has_level l.numbers x || has_level l.out_numbers x) → number_of (value_at env x) ≡ v (number_column l x)
  pub sizes : (s : SetTree) → IsPlacedSet l s → pos (length (members s env)) ≡ value v (region_row l (covers l s))
  pub same : (a b : SetTree) → IsPlacedSet l a → IsPlacedSet l b →
      (members a env ≡ members b env) ↔ EachRow (λ r. value v r ≡ pos 0) (none_rows l (in_one l a b))
  pub other : (a b : SetTree) → IsPlacedSet l a → IsPlacedSet l b → (members a env ≢ members b env) ↔ (pos 1 ≤ℤ value v (region_row l (in_one l a b)))
  pub subset : (a b : SetTree) → IsPlacedSet l a → IsPlacedSet l b →
      ((x : ℤ) → has (members a env) x ≡ true → has (members b env) x ≡ true) ↔ EachRow (λ r. value v r ≡ pos 0) (none_rows l (in_first l a b))
  pub not_subset : (a b : SetTree) → IsPlacedSet l a → IsPlacedSet l b →
      (((x : ℤ) → has (members a env) x ≡ true → has (members b env) x ≡ true) → ⊥) ↔ (pos 1 ≤ℤ value v (region_row l (in_first l a b)))

module _ (l : Layout) (env : List Value) (v : Values) (g : FormsAgree l env v) where
  pub val-agrees : (t : TermTree) → IsPlaced l t → val t env ≡ val_at l v t
  val-agrees (term_lit n) p = refl
  val-agrees (term_var x) p = g.numbers x p
  val-agrees (term_card s) p = g.sizes s p
  val-agrees (term_neg a) p = ap neg_ℤ (val-agrees a p)
  val-agrees (term_add a b) p = rw (val-agrees a p.0, val-agrees b p.1) refl
  val-agrees (term_sub a b) p = rw (val-agrees a p.0, val-agrees b p.1) refl
  val-agrees (term_mul a b) p = rw (val-agrees a p.0, val-agrees b p.1) refl
  val-agrees (term_div a k) p = ap (λ z. quotient z k) (val-agrees a p.0)
  val-agrees (term_mod a k) p = ap (λ z. remainder z k) (val-agrees a p.0)
  val-agrees (term_abs a) p = ap absolute (val-agrees a p)

  signs-agree : (t : TermTree) → IsPlaced l t → signs_of (λ s. val s env) t ≡ signs_of (val_at l v) t
  signs-agree (term_lit n) p = refl
  signs-agree (term_var x) p = refl
  signs-agree (term_card s) p = refl
  signs-agree (term_neg a) p = signs-agree a p
  signs-agree (term_add a b) p = rw (signs-agree a p.0, signs-agree b p.1) refl
  signs-agree (term_sub a b) p = rw (signs-agree a p.0, signs-agree b p.1) refl
  signs-agree (term_mul a b) p = rw (signs-agree a p.0, signs-agree b p.1) refl
  signs-agree (term_div a k) p = signs-agree a p.0
  signs-agree (term_mod a k) p = signs-agree a p.0
  signs-agree (term_abs a) p = rw (signs-agree a p, val-agrees a p) refl

  in-agree : (a : Atom) → AtomFits l a → signs_in (λ s. val s env) a ≡ signs_in (val_at l v) a
  in-agree atom_true f = refl
  in-agree atom_false f = refl
  in-agree (atom_compare o a b) f = rw (signs-agree a f.1.0, signs-agree b f.2.0) refl
  in-agree (atom_divides k t) f = signs-agree t f.1
  in-agree (atom_not_divides k t) f = signs-agree t f.1
  in-agree (atom_same a b) f = refl
  in-agree (atom_other a b) f = refl
  in-agree (atom_subset a b) f = refl
  in-agree (atom_not_subset a b) f = refl

  atom_at : (a : Atom) → AtomFits l a → AtomHolds env a → AtomAt l v a
  atom_at atom_true f h = h
  atom_at atom_false f h = h
  atom_at (atom_compare o a b) f h = rw (val-agrees a f.1.0, val-agrees b f.2.0) at h
  atom_at (atom_divides k t) f h = (h.0, sym (val-agrees t f.1) ∙ h.1)
  atom_at (atom_not_divides k t) f h = λ d. h (d.0, val-agrees t f.1 ∙ d.1)
  atom_at (atom_same a b) f h = (g.same a b f.0 f.1).0 h
  atom_at (atom_other a b) f h = (g.other a b f.0 f.1).0 h
  atom_at (atom_subset a b) f h = (g.subset a b f.0 f.1).0 h
  atom_at (atom_not_subset a b) f h = (g.not_subset a b f.0 f.1).0 h

  atom_holds : (a : Atom) → AtomFits l a → AtomAt l v a → AtomHolds env a
  atom_holds atom_true f h = h
  atom_holds atom_false f h = h
  atom_holds (atom_compare o a b) f h = rw (val-agrees a f.1.0, val-agrees b f.2.0) h
  atom_holds (atom_divides k t) f h = (h.0, val-agrees t f.1 ∙ h.1)
  atom_holds (atom_not_divides k t) f h = λ d. h (d.0, sym (val-agrees t f.1) ∙ d.1)
  atom_holds (atom_same a b) f h = (g.same a b f.0 f.1).1 h
  atom_holds (atom_other a b) f h = (g.other a b f.0 f.1).1 h
  atom_holds (atom_subset a b) f h = (g.subset a b f.0 f.1).1 h
  atom_holds (atom_not_subset a b) f h = (g.not_subset a b f.0 f.1).1 h

  pub case_at : (c : List Signed) → CaseFits l c → CaseHolds env c → CaseAt l v c
  case_at [] f h = tt
  case_at ((a, ss) ∷ c) f h = ((atom_at a f.0.0 h.0.0, h.0.1 ∙ in-agree a f.0.0), case_at c f.1 h.1)

  pub case_holds : (c : List Signed) → CaseFits l c → CaseAt l v c → CaseHolds env c
  case_holds [] f h = tt
  case_holds ((a, ss) ∷ c) f h = ((atom_holds a f.0.0 h.0.0, h.0.1 ∙ sym (in-agree a f.0.0)), case_holds c f.1 h.1)

-- the values v with values for the quotients, at which the first system of the case is satisfied
abbrev pub MeetsCase : Layout → Values → List Signed → Type 0
MeetsCase l v c = (w : Values) × Same (first_free l) v w × Sat (system_of_case l c) w

-- where a relation holds, the first system of some case is satisfied
pub case_from_holds : (scope : List Base) (rel : RelTree) (l : Layout) (env : List Value) (v : Values) → IsTyped scope rel → IsPlacedRel l rel →
    FormsAgree l env v → v 0 ≡ pos 1 → AreCounts l v →
    Holds rel env → SomeOf (MeetsCase l v) (disjuncts (negation_normal true rel))
case_from_holds scope rel l env v t p g one n h =
    some-each (CaseHolds env) (CaseFits l) (MeetsCase l v) (λ c x f. system_from_case l c v f one (case_at l env v g c f x) n)
    (disjuncts (negation_normal true rel))
    ((holds-cases scope rel t env).0 h) (cases-fit l true rel p)

-- where the first system of some case is satisfied at values that agree, the relation holds
pub holds_from_case : (scope : List Base) (rel : RelTree) (l : Layout) (env : List Value) (v : Values) → IsTyped scope rel → IsPlacedRel l rel →
    FormsAgree l env v → v 0 ≡ pos 1 →
    SomeOf (λ c. Sat (system_of_case l c) v) (disjuncts (negation_normal true rel)) → Holds rel env
holds_from_case scope rel l env v t p g one h =
    (holds-cases scope rel t env).1
    (some-each (λ (c : List Signed). Sat (system_of_case l c) v) (CaseFits l) (CaseHolds env)
    (λ c s f. case_holds l env v g c f (case_from_system l c v f one s).0) (disjuncts (negation_normal true rel)) h (cases-fit l true rel p))

-- ---- layouts without sets
module _ (l : Layout) (env : List Value) (v : Values) (no_inputs : l.inputs ≡ []) (no_outputs : l.out_sets ≡ []) where
  nothing_in : (s : SetTree) → IsPlacedSet l s → members s env ≡ []
  nothing_in empty_set p = refl
  nothing_in (set_var x) p = absurd (let q = rw (no_inputs, no_outputs) at p in cc)
  nothing_in (union_of a b) p = rw (nothing_in a p.0, nothing_in b p.1) refl
  nothing_in (inter_of a b) p = rw (nothing_in a p.0) refl
  nothing_in (diff_of a b) p = rw (nothing_in a p.0) refl

  no_region : (p : ℕ → Bool) → value v (region_row l p) ≡ pos 0
  no_region p = rw (no_inputs, no_outputs) refl

  no_none : (p : ℕ → Bool) → EachRow (λ r. value v r ≡ pos 0) (none_rows l p)
  no_none p = rw (no_inputs, no_outputs) tt

  -- values agree with an environment where they have its numbers
  pub agrees_without_sets : ((x : ℕ) → IsTrue (has_level l.numbers x || has_level l.out_numbers x) → number_of (value_at env x) ≡ v (number_column l x)) →
      FormsAgree l env v
  agrees_without_sets n = record {
    numbers = n;
    sizes = λ s p. rw (nothing_in s p, no_region (covers l s)) refl;
    same = λ a b p q. (λ h. no_none (in_one l a b), λ h. nothing_in a p ∙ sym (nothing_in b q));
    other = λ a b p q. (
      λ h. absurd (h (nothing_in a p ∙ sym (nothing_in b q))),
      λ h. absurd (let k = rw (no_region (in_one l a b)) at h in omega (arith, ints)),
    );
    subset = λ a b p q. (λ h. no_none (in_first l a b), λ h x e. absurd (let k = rw (nothing_in a p) at e in cc));
    not_subset = λ a b p q. (
      λ h. absurd (h (λ x e. absurd (let k = rw (nothing_in a p) at e in cc))),
      λ h. absurd (let k = rw (no_region (in_first l a b)) at h in omega (arith, ints)),
    );
  }

  pub counts_without_sets : AreCounts l v
  counts_without_sets = record { sums = rw no_inputs tt; nonneg = rw (no_inputs, no_outputs) tt }

-- ---- the first systems of a relation
-- where a relation holds, some first system is satisfied
pub system_from_holds : (scope : List Base) (rel : RelTree) (l : Layout) (env : List Value) (v : Values) → IsTyped scope rel → IsPlacedRel l rel →
    FormsAgree l env v → v 0 ≡ pos 1 → AreCounts l v →
    Holds rel env → SomeOf (λ (m : System). (w : Values) × Same (first_free l) v w × Sat m w) (first_systems l rel)
unfolding first_systems
system_from_holds scope rel l env v t p g one n h =
    some-map (λ (m : System). (w : Values) × Same (first_free l) v w × Sat m w) (system_of_case l) (disjuncts (negation_normal true rel))
    (case_from_holds scope rel l env v t p g one n h)

-- where some first system is satisfied at values that agree, the relation holds
pub holds_from_system : (scope : List Base) (rel : RelTree) (l : Layout) (env : List Value) (v : Values) → IsTyped scope rel → IsPlacedRel l rel →
    FormsAgree l env v → v 0 ≡ pos 1 →
    SomeOf (λ (m : System). Sat m v) (first_systems l rel) → Holds rel env
unfolding first_systems
holds_from_system scope rel l env v t p g one h =
    holds_from_case scope rel l env v t p g one (some-unmap (λ (m : System). Sat m v) (system_of_case l) (disjuncts (negation_normal true rel)) h)

-- each first system is as the steps of the elimination ask
pub first_systems-formed : (rel : RelTree) (l : Layout) → IsPlacedRel l rel → EachOf Formed (first_systems l rel)
unfolding first_systems
first_systems-formed rel l p = each-map Formed (system_of_case l) (disjuncts (negation_normal true rel))
    (each-imp (CaseFits l) (λ (c : List Signed). Formed (system_of_case l c)) (λ c f. system-formed l c f) (disjuncts (negation_normal true rel))
    (cases-fit l true rel p))
