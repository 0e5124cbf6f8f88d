-- Numbers in blocks: each number of a source, in order, with those that are the same as it.
use Rattle.std.proofs.Common.{◌≡◌, ℕ, suc, ◌<◌, ◌==◌, Bool, true, false, Some, List, [], ◌∷◌, ◌++◌, length, map, filter, append-nil, append_assoc, refl, sym, ap, ◌∙◌, subst, arith}
use Rattle.std.specs.Prelude.{if◌then◌else◌, cond, nat_eq}
use Rattle.std.specs.List.{AllByRecursion, IsDistinct}
use Rattle.std.proofs.lemmas.Bool.{eq-eqb}
use Rattle.std.proofs.lemmas.Bool.Decides.{nat_tests}
use Rattle.cf_tree.specs.declared.base.Base.{Base}
use Rattle.cf_tree.specs.declared.base.Base.TheVariants.{Int, Bool as Truth, Set}
use Rattle.cf_tree.specs.declared.raw.Param.{Param}
use Rattle.cf_tree.specs.ExprTree.{expr_let, exprs_of}
use Rattle.cf_tree.specs.Params.{bases_of}
use Rattle.cf_form.specs.Branches.{WideChoose, Branch, branched, truth_levels, values_in, all_outputs}
use Rattle.cf_form.specs.Formed.{as_number, branching, given_out, all_given_out, one_or_tuple, are_as_chosen, choose_form}
use Rattle.cf_form.specs.Numbers.{PlacedNumber, placed, all_placed, AreBranches, SharesByBranch, ShareByBranch}
use Rattle.cf_form.proofs.Lists.{rec_append}

abbrev AreNumbered : ℕ → List PlacedNumber → Type 0
AreNumbered n ps = AllByRecursion (λ p. p.number ≡ n) ps

-- a block for each number, which may be empty
abbrev pub Blocks : List ℕ → List PlacedNumber → Type 0
Blocks [] ps = ps ≡ []
Blocks (n ∷ ns) ps =
    (block : List PlacedNumber) × (rest : List PlacedNumber) × (ps ≡ block ++ rest) × AreNumbered n block × ShareByBranch block × Blocks ns rest

pub blocks_append : (ns ms : List ℕ) (ps qs : List PlacedNumber) → Blocks ns ps → Blocks ms qs → Blocks (ns ++ ms) (ps ++ qs)
blocks_append [] ms ps qs h k = rw h k
blocks_append (n ∷ ns) ms ps qs h k =
    (h.0, h.1 ++ qs, ap (λ xs. xs ++ qs) h.2 ∙ append_assoc h.0 h.1 qs, h.3, h.4, blocks_append ns ms h.1 qs h.5 k)

pub blocks_none : (ns : List ℕ) → Blocks ns []
blocks_none [] = refl
blocks_none (n ∷ ns) = ([], [], refl, tt, tt, blocks_none ns)

pub blocks_more : (n : ℕ) (ns : List ℕ) (p : PlacedNumber) (ps : List PlacedNumber) → p.number ≡ n → Blocks ns ps → Blocks (n ∷ ns) (p ∷ ps)
blocks_more n ns p ps e h = (p ∷ [], ps, refl, (e, tt), (tt, tt), h)

pub blocks_same : (ns : List ℕ) (ps qs : List PlacedNumber) → qs ≡ [] → Blocks ns ps → Blocks ns (ps ++ qs)
blocks_same ns ps qs e h = subst (Blocks ns) (sym (ap (λ xs. ps ++ xs) e ∙ append-nil ps)) h

-- ---- numbers that differ
abbrev AreOther : ℕ → List PlacedNumber → Type 0
AreOther n ps = AllByRecursion (λ p. nat_eq n p.number ≡ false) ps

block_other : (n m : ℕ) (ps : List PlacedNumber) → nat_eq n m ≡ false → AreNumbered m ps → AreOther n ps
block_other n m [] e h = tt
block_other n m (p ∷ ps) e h = (subst (λ k. nat_eq n k ≡ false) (sym h.0) e, block_other n m ps e h.1)

blocks_other : (n : ℕ) (ns : List ℕ) (ps : List PlacedNumber) → AllByRecursion (λ m. nat_eq n m ≡ false) ns → Blocks ns ps → AreOther n ps
blocks_other n [] ps d h = rw h tt
blocks_other n (m ∷ ns) ps d h =
    rw h.2 (rec_append (λ p. nat_eq n p.number ≡ false) h.0 h.1 (block_other n m h.0 d.0 h.3) (blocks_other n ns h.1 d.1 h.5))

same_number : (n : ℕ) → nat_eq n n ≡ true
same_number n = grind (arith, nat_tests)

shares_append : (a : PlacedNumber) (n : ℕ) (ps qs : List PlacedNumber) → a.number ≡ n → SharesByBranch a ps → AreOther n qs → SharesByBranch a (ps ++ qs)
shares_append a n [] [] e h o = tt
shares_append a n [] (q ∷ qs) e h o =
    ((λ f. absurd (differs f)), shares_append a n [] qs e tt o.1)
  where
    differs : a.number ≡ q.number → ⊥
    differs f =
        let here : nat_eq n q.number ≡ true = subst (λ k. nat_eq n k ≡ true) (sym e ∙ f) (same_number n) in
        let other : nat_eq n q.number ≡ false = o.0 in cc
shares_append a n (p ∷ ps) qs e h o = (h.0, shares_append a n ps qs e h.1 o)

share_append : (n : ℕ) (ps qs : List PlacedNumber) → AreNumbered n ps → ShareByBranch ps → AreOther n qs → ShareByBranch qs → ShareByBranch (ps ++ qs)
share_append n [] qs m h o k = k
share_append n (p ∷ ps) qs m h o k = (shares_append p n ps qs m.0 h.0 o, share_append n ps qs m.1 h.1 o k)

-- where the numbers of blocks differ, numbers are the same only of branches
pub blocks_share : (ns : List ℕ) (ps : List PlacedNumber) → IsDistinct nat_eq ns → Blocks ns ps → ShareByBranch ps
unfolding IsDistinct
blocks_share [] ps d h = rw h tt
blocks_share (n ∷ ns) ps d h =
    rw h.2 (share_append n h.0 h.1 h.3 h.4 (blocks_other n ns h.1 d.0 h.5) (blocks_share ns h.1 d.1 h.5))

-- ---- the branches of a choose
abbrev IsOff : ℕ → List ℕ → Type 0
IsOff x ys = AllByRecursion (λ y. (x == y) ≡ false) ys

abbrev AreOff : List ℕ → Type 0
AreOff [] = Unit {0}
AreOff (x ∷ xs) = IsOff x xs × AreOff xs

-- a choose in a branch that has chosen values for these levels behind others
record IsEntry (f n : ℕ) (c : List Param × List Base) (outer : Branch) (xs : List ℕ) (p : PlacedNumber) : Type 0 where
  function : p.function ≡ f
  number : p.number ≡ n
  choose : p.choose ≡ Some c
  values : (x : ℕ) → IsOff x xs → values_in p.branch x ≡ values_in outer x

shares_all : (a : PlacedNumber) (ps qs : List PlacedNumber) → SharesByBranch a ps → AllByRecursion (λ b. AreBranches a b) qs → SharesByBranch a (ps ++ qs)
shares_all a [] [] h k = tt
shares_all a [] (q ∷ qs) h k = ((λ e. k.0), shares_all a [] qs tt k.1)
shares_all a (p ∷ ps) qs h k = (h.0, shares_all a ps qs h.1 k)

share_all : (ps qs : List PlacedNumber) → ShareByBranch ps → ShareByBranch qs → AllByRecursion (λ a. AllByRecursion (λ b. AreBranches a b) qs) ps →
    ShareByBranch (ps ++ qs)
share_all [] qs h k a = k
share_all (p ∷ ps) qs h k a = (shares_all p ps qs h.0 a.0, share_all ps qs h.1 k a.1)

if_same : {A : Type 0} (b : Bool) (x y : A) → b ≡ true → (if b then x else y) ≡ x
if_same b x y e = rw e refl

if_other : {A : Type 0} (b : Bool) (x y : A) → b ≡ false → (if b then x else y) ≡ y
if_other b x y e = rw e refl

module _ (f n : ℕ) (c : List Param × List Base) where
  entry_outer : (outer : Branch) (x : ℕ) (t : Bool) (xs : List ℕ) (p : PlacedNumber) → IsEntry f n c ((x, t) ∷ outer) xs p → IsEntry f n c outer (x ∷ xs) p
  entry_outer outer x t xs p h = record {
    function = h.function;
    number = h.number;
    choose = h.choose;
    values = λ y o. h.values y o.1 ∙ if_other (y == x) (Some t) (values_in outer y) o.0;
  }

  entries_outer : (outer : Branch) (x : ℕ) (t : Bool) (xs : List ℕ) (ps : List PlacedNumber) → AllByRecursion (IsEntry f n c ((x, t) ∷ outer) xs) ps →
      AllByRecursion (IsEntry f n c outer (x ∷ xs)) ps
  entries_outer outer x t xs [] h = tt
  entries_outer outer x t xs (p ∷ ps) h = (entry_outer outer x t xs p h.0, entries_outer outer x t xs ps h.1)

  chosen_value : (outer : Branch) (x : ℕ) (t : Bool) (xs : List ℕ) (p : PlacedNumber) → IsOff x xs → IsEntry f n c ((x, t) ∷ outer) xs p →
      values_in p.branch x ≡ Some t
  chosen_value outer x t xs p o h = h.values x o ∙ if_same (x == x) (Some t) (values_in outer x) (eq-eqb x x refl)

  two_branches : (outer : Branch) (x : ℕ) (xs : List ℕ) (a b : PlacedNumber) → IsOff x xs → IsEntry f n c ((x, true) ∷ outer) xs a →
      IsEntry f n c ((x, false) ∷ outer) xs b → AreBranches a b
  two_branches outer x xs a b o h k = record {
    function = h.function ∙ sym k.function;
    choose = (c, h.choose, k.choose);
    apart = (x, true, chosen_value outer x true xs a o h, chosen_value outer x false xs b o k);
  }

  one_and_all : (outer : Branch) (x : ℕ) (xs : List ℕ) (a : PlacedNumber) (qs : List PlacedNumber) → IsOff x xs → IsEntry f n c ((x, true) ∷ outer) xs a →
      AllByRecursion (IsEntry f n c ((x, false) ∷ outer) xs) qs → AllByRecursion (λ b. AreBranches a b) qs
  one_and_all outer x xs a [] o h k = tt
  one_and_all outer x xs a (q ∷ qs) o h k = (two_branches outer x xs a q o h k.0, one_and_all outer x xs a qs o h k.1)

  all_and_all : (outer : Branch) (x : ℕ) (xs : List ℕ) (ps qs : List PlacedNumber) → IsOff x xs → AllByRecursion (IsEntry f n c ((x, true) ∷ outer) xs) ps →
      AllByRecursion (IsEntry f n c ((x, false) ∷ outer) xs) qs → AllByRecursion (λ a. AllByRecursion (λ b. AreBranches a b) qs) ps
  all_and_all outer x xs [] qs o h k = tt
  all_and_all outer x xs (p ∷ ps) qs o h k = (one_and_all outer x xs p qs o h.0 k, all_and_all outer x xs ps qs o h.1 k)

  are_numbered : (outer : Branch) (xs : List ℕ) (ps : List PlacedNumber) → AllByRecursion (IsEntry f n c outer xs) ps → AreNumbered n ps
  are_numbered outer xs [] h = tt
  are_numbered outer xs (p ∷ ps) h = (h.0.number, are_numbered outer xs ps h.1)

module _ (f : ℕ) (q : WideChoose) where
  abbrev places : List Param × List Base
  places = (q.scope, map as_number (all_outputs q))

  entries : (xs : List ℕ) (outer branch : Branch) → AllByRecursion (IsEntry f q.number places outer xs) (placed f outer (branching q xs branch))
  entries [] outer branch = (record { function = refl; number = refl; choose = refl; values = λ x o. refl }, tt)
  entries (x ∷ xs) outer branch =
      rec_append (IsEntry f q.number places outer (x ∷ xs)) (placed f ((x, true) ∷ outer) (branching q xs (branch ++ (x, true) ∷ [])))
      (placed f ((x, false) ∷ outer) (branching q xs (branch ++ (x, false) ∷ [])))
      (entries_outer f q.number places outer x true xs (placed f ((x, true) ∷ outer) (branching q xs (branch ++ (x, true) ∷ [])))
      (entries xs ((x, true) ∷ outer) (branch ++ (x, true) ∷ [])))
      (entries_outer f q.number places outer x false xs (placed f ((x, false) ∷ outer) (branching q xs (branch ++ (x, false) ∷ [])))
      (entries xs ((x, false) ∷ outer) (branch ++ (x, false) ∷ [])))

  branches_share : (xs : List ℕ) (outer branch : Branch) → AreOff xs → ShareByBranch (placed f outer (branching q xs branch))
  branches_share [] outer branch o = (tt, tt)
  branches_share (x ∷ xs) outer branch o =
      share_all (placed f ((x, true) ∷ outer) (branching q xs (branch ++ (x, true) ∷ [])))
      (placed f ((x, false) ∷ outer) (branching q xs (branch ++ (x, false) ∷ [])))
      (branches_share xs ((x, true) ∷ outer) (branch ++ (x, true) ∷ []) o.1) (branches_share xs ((x, false) ∷ outer) (branch ++ (x, false) ∷ []) o.1)
      (all_and_all f q.number places outer x xs (placed f ((x, true) ∷ outer) (branching q xs (branch ++ (x, true) ∷ [])))
      (placed f ((x, false) ∷ outer) (branching q xs (branch ++ (x, false) ∷ []))) o.0 (entries xs ((x, true) ∷ outer) (branch ++ (x, true) ∷ []))
      (entries xs ((x, false) ∷ outer) (branch ++ (x, false) ∷ [])))

  -- ---- the levels differ
  less_off : (x y : ℕ) → x < y → (x == y) ≡ false
  less_off x y l = grind arith

  keep_off : (x k : ℕ) (b : Bool) (ks : List ℕ) → x < k → IsOff x ks → IsOff x (cond b (k ∷ ks) ks)
  keep_off x k true ks l h = (less_off x k l, h)
  keep_off x k false ks l h = h

  levels_off : (test : ℕ → Bool) (x k : ℕ) (bs : List Base) → x < k → IsOff x (filter test (truth_levels k bs))
  levels_off test x k [] l = tt
  levels_off test x k (Int ∷ bs) l = levels_off test x (suc k) bs (omega (arith, l))
  levels_off test x k (Set ∷ bs) l = levels_off test x (suc k) bs (omega (arith, l))
  levels_off test x k (Truth ∷ bs) l =
      keep_off x k (test k) (filter test (truth_levels (suc k) bs)) l (levels_off test x (suc k) bs (omega (arith, l)))

  keep_all : (k : ℕ) (b : Bool) (ks : List ℕ) → IsOff k ks → AreOff ks → AreOff (cond b (k ∷ ks) ks)
  keep_all k true ks o h = (o, h)
  keep_all k false ks o h = h

  all_off : (test : ℕ → Bool) (k : ℕ) (bs : List Base) → AreOff (filter test (truth_levels k bs))
  all_off test k [] = tt
  all_off test k (Int ∷ bs) = all_off test (suc k) bs
  all_off test k (Set ∷ bs) = all_off test (suc k) bs
  all_off test k (Truth ∷ bs) =
      keep_all k (test k) (filter test (truth_levels (suc k) bs)) (levels_off test k (suc k) bs (omega arith)) (all_off test (suc k) bs)

  -- ---- nothing is chosen where outputs are given out
  given_none : (outer : Branch) (b : Base) (x : ℕ) → placed f outer (given_out b x) ≡ []
  given_none outer Int x = refl
  given_none outer Truth x = refl
  given_none outer Set x = refl

  all_given_none : (outer : Branch) (x : ℕ) (bs : List Base) → all_placed f outer (exprs_of (all_given_out x bs)) ≡ []
  all_given_none outer x [] = refl
  all_given_none outer x (b ∷ bs) = rw (given_none outer b x) (all_given_none outer (suc x) bs)

  several_none : (outer : Branch) (x : ℕ) (bs : List Base) → placed f outer (one_or_tuple (all_given_out x bs)) ≡ []
  several_none outer x [] = refl
  several_none outer x (b ∷ []) = given_none outer b x
  several_none outer x (b ∷ c ∷ bs) = all_given_none outer x (b ∷ c ∷ bs)

  abbrev chosen : Branch → List PlacedNumber
  chosen outer = placed f outer (branching q (branched q) [])

  one_block : (outer : Branch) (ns : List ℕ) → Blocks (q.number ∷ ns) (chosen outer)
  one_block outer ns = (
    chosen outer,
    [],
    sym (append-nil (chosen outer)),
    are_numbered f q.number places outer (branched q) (chosen outer) (entries (branched q) outer []),
    branches_share (branched q) outer [] (all_off _ 0 (bases_of q.scope)),
    blocks_none ns,
  )

  form_by : (outer : Branch) (ns : List ℕ) (b : Bool) (k : ℕ) →
      Blocks (q.number ∷ ns)
      (placed f outer
      (if b then branching q (branched q) [] else expr_let k (branching q (branched q) []) (one_or_tuple (all_given_out (length q.scope)
      q.outputs))))
  form_by outer ns true k = one_block outer ns
  form_by outer ns false k =
      blocks_same (q.number ∷ ns) (chosen outer) (placed f outer (one_or_tuple (all_given_out (length q.scope) q.outputs)))
      (several_none outer (length q.scope) q.outputs) (one_block outer ns)

  -- a choose is one block
  pub choose_block : (outer : Branch) (ns : List ℕ) → Blocks (q.number ∷ ns) (placed f outer (choose_form q))
  choose_block outer ns = form_by outer ns (are_as_chosen q.outputs q.hidden) (length (all_outputs q))
