-- The lets of the regions of the input sets and of their counts.
use Rattle.std.proofs.Common.{◌≡◌, ℕ, zero, suc, ◌+◌, ◌^◌, ◌<◌, ◌≤◌, ℤ, pos, List, [], ◌∷◌, ◌++◌, inl, inr, length, true, not, refl, sym, ap, subst, arith, ◌∙◌}
use Rattle.std.specs.List.{range_with_len, fold}
use Rattle.cf_tree.specs.declared.base.Base.{Base}
use Rattle.cf_tree.specs.CodeTree.{code_var, code_card}
use Rattle.cf_tree.specs.Meaning.{got, path}
use Rattle.cf_tree.specs.Sets.{has}
use Rattle.cf_tree.specs.RelTree.{RelTree}
use Rattle.cf_tree.specs.Values.{Value, number, elements, elements_of, value_at, HaveBases}
use Rattle.cf_linear.specs.Arm.{ArmBuilder, vars, inter_of_all, sets_in, sets_out, region_code, let_region}
use Rattle.cf_linear.specs.Keep.{In}
use Rattle.cf_linear.specs.Layout.{Layout, layout_of, bit, place, has_level, input_column}
use Rattle.cf_linear.specs.Rows.{Values}
use Rattle.cf_choose.proofs.ColumnNames.{has-In}
use Rattle.cf_choose.proofs.ArmBuilderLemmas.{length_have, value_at-end}
use Rattle.cf_venn.specs.Codes.{HoldsInputs}
use Rattle.cf_venn.specs.Masks.{sets_at, region, count}
use Rattle.cf_venn.proofs.LevelLaws.{same_each, is_layout}
use Rattle.cf_venn.proofs.RegionCodes.{region_gives}
use Rattle.cf_growth.specs.Reaching.{parameters_size, IsNearElement}
use Rattle.cf_growth.proofs.MetCodes.{IsMet}
use Rattle.cf_growth.proofs.ParameterLaws.{In-unpassed, inputs_held, input_small}
use Rattle.cf_growth.proofs.ReachLaws.{At, with_let, let_at, set_at}
use Rattle.cf_growth.proofs.SetCodes.{IsSetMet, AllSets, set_var_met, inter_met, diffs_met}

pub same_set : (xs ys : List ℤ) → got (elements xs ∷ []) ≡ got (elements ys ∷ []) → xs ≡ ys
same_set xs ys e = cc

pub vars_sets : (n len : ℕ) (E : ℤ → Type 0) (e : List Value) (xs : List ℕ) →
    ((x : ℕ) → In x xs → (zs : List ℤ) × (value_at e x ≡ elements zs) × (length zs ≤ len) × ((y : ℤ) → has zs y ≡ true → E y)) → AllSets n len E (vars xs) e
vars_sets n len E e [] h = tt
vars_sets n len E e (x ∷ xs) h = let q = h x (inl refl) in (set_var_met n len E x e q.0 q.1 q.2 q.3, vars_sets n len E e xs (λ y i. h y (inr i)))

module _ (scope outputs : List Base) (rel : RelTree) (env : List Value) (have : HaveBases scope env) where
  abbrev l : Layout
  l = layout_of scope outputs rel

  abbrev k : ℕ
  k = 1 + parameters_size l env

  abbrev ins : List (List ℤ)
  ins = sets_at env l.inputs

  abbrev E : ℕ → ℤ → Type 0
  E n = IsNearElement n l env

  -- an environment that begins with that of the scope
  abbrev Begins : List Value → Type 0
  Begins e = (x : ℕ) → x < length env → value_at e x ≡ value_at env x

  input_early : (x : ℕ) → has_level l.inputs x ≡ true → x < length env
  input_early x h = let i = (is_layout scope outputs rel).inputs x h in let n = length_have scope env have in omega arith

  pub still_held : (e : List Value) → Begins e → HoldsInputs l e
  still_held e b x h = let q = inputs_held scope outputs rel env have x h in (q.0, b x (input_early x h) ∙ q.1, q.2)

  still_same : (e : List Value) → Begins e → sets_at e l.inputs ≡ ins
  still_same e b = same_each (λ x. elements_of (value_at e x)) (λ x. elements_of (value_at env x)) l.inputs (λ x h. ap elements_of (b x (input_early x h)))

  pub input_sets : (n : ℕ) (e : List Value) → Begins e → (xs : List ℕ) → ((x : ℕ) → In x xs → In x l.inputs) → AllSets n k (E n) (vars xs) e
  input_sets n e b xs f = vars_sets n k (E n) e xs (λ x i.
      let h = has-In x l.inputs (f x i) in
      let q = inputs_held scope outputs rel env have x h in (
        q.0,
        b x (input_early x h) ∙ q.1,
        input_small scope outputs rel env x q.0 (f x i) q.1,
        λ y j. inr (x, f x i, subst (λ v. has (elements_of v) y ≡ true) (sym q.1) j),
      ))

  region_met : (n m : ℕ) (e : List Value) → Begins e → IsSetMet n k (E n) (region_code l m) e
  region_met n m e b =
      diffs_met n k (E n) k (vars (sets_out l m)) (inter_of_all (vars (sets_in l m))) e
      (input_sets n e b (sets_out l m) (λ x i. In-unpassed x (λ x. not (bit (place x l.inputs) m)) l.inputs i))
      (inter_met n k (E n) (vars (sets_in l m)) e (input_sets n e b (sets_in l m) (λ x i. In-unpassed x (λ x. bit (place x l.inputs) m) l.inputs i)))

  region_is : (m : ℕ) (e : List Value) → Begins e → 1 ≤ m → m < 2 ^ length l.inputs → (path (region_code l m) e).gives ≡ got (elements (region ins m) ∷ [])
  region_is m e b x y = region_gives l e (still_held e b) 0 (is_layout scope outputs rel).inputs_up m x y ∙ ap (λ ss. got (elements (region ss m) ∷ [])) (still_same e b)

  pub count_small : (m : ℕ) → 1 ≤ m → m < 2 ^ length l.inputs → count ins m ≤ k
  count_small m x y =
      let h = region_met 0 m env (λ z i. refl) in
      let s = h.size in
      let e : h.set ≡ region ins m = same_set h.set (region ins m) (sym h.gives ∙ region_is m env (λ z i. refl) x y) in
      let c : length h.set ≡ count ins m = ap length e in
      omega arith

  -- n regions from mask a on
  pub regions_at : (n many a : ℕ) (j : ArmBuilder) (e0 e : List Value) (v : Values) → k ≤ n →
      ((m : ℕ) → 1 ≤ m → m < 2 ^ length l.inputs → v (input_column l m) ≡ pos (count ins m)) → 1 ≤ a → a + many ≤ 2 ^ length l.inputs →
      At n (E n) j env e0 e v → (d : List Value) × At n (E n) (fold (let_region l) j (range_with_len a many)) env e0 d v
  regions_at n zero a j e0 e v kn f x y h = (e, h)
  regions_at n (suc many) a j e0 e v kn f x y h =
      let b = h.early in
      let r = region ins a in
      let met = region_met n a e b in
      let is = region_is a e b x (omega arith) in
      let same : met.set ≡ r = same_set met.set r (sym met.gives ∙ is) in
      let one = set_at n (E n) j (region_code l a) env e0 e v r h is met.peak (λ y i. met.kind y (subst (λ zs. has zs y ≡ true) (sym same) i)) in
      let e1 = e ++ (elements r ∷ []) in
      let there : value_at e1 j.level ≡ elements r = value_at-end e (elements r) j.level h.level in
      let small = count_small a x (omega arith) in
      let card : IsMet n (code_card (code_var j.level)) e1 (pos (length r)) =
      record { gives = rw there refl; peak = rw there (omega arith); size = omega arith } in
      let two = let_at n (E n) (with_let j (region_code l a)) (input_column l a) (code_card (code_var j.level)) env e0 e1 v v (pos (length r)) one card
      (f a x (omega arith)) (λ d i. refl) in
      regions_at n many (a + 1) (let_region l j a) e0 (e1 ++ (number (pos (length r)) ∷ [])) v kn f (omega arith) (omega arith) two
