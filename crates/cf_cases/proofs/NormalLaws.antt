-- A relation without negations holds exactly where the relation does.
use Rattle.std.proofs.Common.{inl, inr, ℤ, Bool, true, false, List, arith}
use Rattle.std.specs.Prelude.{◌↔◌, int_lt}
use Rattle.std.proofs.lemmas.Int.{ints}
use Rattle.cf_tree.specs.declared.base.Order.{Order}
use Rattle.cf_tree.specs.declared.base.Order.TheVariants.{Eq, Ne, Lt, Le, Gt, Ge}
use Rattle.cf_tree.specs.declared.base.Base.{Base}
use Rattle.cf_tree.specs.Numbers.{Compares}
use Rattle.cf_tree.specs.RelTree.{RelTree, rel_true, rel_false, rel_compare, rel_same_set, rel_other_set, rel_subset, rel_divides, rel_and, rel_or, rel_not}
use Rattle.cf_tree.specs.Relation.{members, val, Holds, IsTyped}
use Rattle.cf_tree.specs.Values.{Value}
use Rattle.cf_tree.proofs.SetLemmas.{on_bool, lt_is, lt_not}
use Rattle.cf_linear.specs.Cases.{opposite, negation_normal}
use Rattle.cf_cases.specs.Holding.{NormalHolds}
use Rattle.cf_cases.proofs.Deciding.{Decided, yes, no, decided_and, decided_or, decided_not, twice_not, one_not, decide-compares, decide-divides, decide-same}
use Rattle.cf_cases.proofs.Deciding.{decide-subset}

-- the fact, or that it does not hold
abbrev pub Meant : Bool → Type 0 → Type 0
Meant true P = P
Meant false P = P → ⊥

opposite_not : (o : Order) (x y : ℤ) → Compares (opposite o) x y → Compares o x y → ⊥
opposite_not Eq x y h g = h g
opposite_not Ne x y h g = g h
opposite_not Lt x y h g = omega (arith, ints)
opposite_not Le x y h g = omega (arith, ints)
opposite_not Gt x y h g = omega (arith, ints)
opposite_not Ge x y h g = omega (arith, ints)

not_opposite : (o : Order) (x y : ℤ) → (Compares o x y → ⊥) → Compares (opposite o) x y
not_opposite Eq x y h = h
not_opposite Ne x y h = twice_not (decide-compares Eq x y) h
not_opposite Lt x y h = on_bool (int_lt x y) (λ e. absurd (h (lt_is x y e))) (λ e. lt_not x y e)
not_opposite Le x y h = on_bool (int_lt y x) (λ e. lt_is y x e) (λ e. absurd (h (lt_not y x e)))
not_opposite Gt x y h = on_bool (int_lt y x) (λ e. absurd (h (lt_is y x e))) (λ e. lt_not y x e)
not_opposite Ge x y h = on_bool (int_lt x y) (λ e. lt_is x y e) (λ e. absurd (h (lt_not x y e)))

module _ (scope : List Base) (env : List Value) where
  pub decide-holds : (rel : RelTree) → IsTyped scope rel → Decided (Holds rel env)
  decide-holds rel_true t = yes tt
  decide-holds rel_false t = no (λ h. h)
  decide-holds (rel_compare o a b) t = decide-compares o (val a env) (val b env)
  decide-holds (rel_same_set a b) t = decide-same (members a env) (members b env)
  decide-holds (rel_other_set a b) t = decided_not (decide-same (members a env) (members b env))
  decide-holds (rel_subset a b) t = decide-subset (members a env) (members b env)
  decide-holds (rel_divides k a) t = decide-divides k (val a env) t.0.0
  decide-holds (rel_and p q) t = decided_and (decide-holds p t.0) (decide-holds q t.1)
  decide-holds (rel_or p q) t = decided_or (decide-holds p t.0) (decide-holds q t.1)
  decide-holds (rel_not p) t = decided_not (decide-holds p t)

  to_plain : (b : Bool) (rel : RelTree) → IsTyped scope rel → Meant b (Holds rel env) → NormalHolds env (negation_normal b rel)
  to_plain true rel_true t h = h
  to_plain false rel_true t h = h tt
  to_plain true rel_false t h = h
  to_plain false rel_false t h = tt
  to_plain true (rel_compare o a b) t h = h
  to_plain false (rel_compare o a b) t h = not_opposite o (val a env) (val b env) h
  to_plain true (rel_same_set a b) t h = h
  to_plain false (rel_same_set a b) t h = h
  to_plain true (rel_other_set a b) t h = h
  to_plain false (rel_other_set a b) t h = twice_not (decide-same (members a env) (members b env)) h
  to_plain true (rel_subset a b) t h = h
  to_plain false (rel_subset a b) t h = h
  to_plain true (rel_divides k a) t h = h
  to_plain false (rel_divides k a) t h = h
  to_plain true (rel_and p q) t h = (to_plain true p t.0 h.0, to_plain true q t.1 h.1)
  to_plain false (rel_and p q) t h = elim (one_not (decide-holds p t.0) h) [ inl g ↦ inl (to_plain false p t.0 g) | inr g ↦ inr (to_plain false q t.1 g) ]
  to_plain true (rel_or p q) t h = elim h [ inl g ↦ inl (to_plain true p t.0 g) | inr g ↦ inr (to_plain true q t.1 g) ]
  to_plain false (rel_or p q) t h = (to_plain false p t.0 (λ g. h (inl g)), to_plain false q t.1 (λ g. h (inr g)))
  to_plain true (rel_not p) t h = to_plain false p t h
  to_plain false (rel_not p) t h = to_plain true p t (twice_not (decide-holds p t) h)

  from_plain : (b : Bool) (rel : RelTree) → NormalHolds env (negation_normal b rel) → Meant b (Holds rel env)
  from_plain true rel_true h = h
  from_plain false rel_true h = λ g. h
  from_plain true rel_false h = h
  from_plain false rel_false h = λ g. g
  from_plain true (rel_compare o a b) h = h
  from_plain false (rel_compare o a b) h = opposite_not o (val a env) (val b env) h
  from_plain true (rel_same_set a b) h = h
  from_plain false (rel_same_set a b) h = h
  from_plain true (rel_other_set a b) h = h
  from_plain false (rel_other_set a b) h = λ g. g h
  from_plain true (rel_subset a b) h = h
  from_plain false (rel_subset a b) h = h
  from_plain true (rel_divides k a) h = h
  from_plain false (rel_divides k a) h = h
  from_plain true (rel_and p q) h = (from_plain true p h.0, from_plain true q h.1)
  from_plain false (rel_and p q) h = λ g. elim h [ inl x ↦ from_plain false p x g.0 | inr x ↦ from_plain false q x g.1 ]
  from_plain true (rel_or p q) h = elim h [ inl x ↦ inl (from_plain true p x) | inr x ↦ inr (from_plain true q x) ]
  from_plain false (rel_or p q) h = λ g. elim g [ inl x ↦ from_plain false p h.0 x | inr x ↦ from_plain false q h.1 x ]
  from_plain true (rel_not p) h = from_plain false p h
  from_plain false (rel_not p) h = λ g. g (from_plain true p h)

  pub plain-holds : (rel : RelTree) → IsTyped scope rel → NormalHolds env (negation_normal true rel) ↔ Holds rel env
  plain-holds rel t = (from_plain true rel, to_plain true rel t)
