-- What the lets of the regions and of their counts lead to.
use Rattle.std.proofs.Common.{◌≡◌, ℕ, zero, suc, ◌+◌, ◌-◌, ◌*◌, ◌^◌, ◌<◌, ◌≤◌, ◌==◌, ℤ, pos, true, Some, List, [], ◌∷◌, ◌++◌, length, refl, sym, ◌∙◌, ap}
use Rattle.std.proofs.Common.{arith, append_assoc, append-nil}
use Rattle.std.specs.List.{range_with_len, fold}
use Rattle.std.proofs.lemmas.Bool.{eqb-true, eqb-false, eq-eqb, ne_eqb}
use Rattle.std.proofs.lemmas.List.{length-append, get_or-append-add}
use Rattle.std.proofs.lemmas.Nat.{pow_pos}
use Rattle.std.proofs.Math.ListN.{get_or-append}
use Rattle.std.proofs.Math.Seq.{get_or-append_seam}
use Rattle.cf_tree.specs.CodeTree.{CodeTree, code_var, code_card, ItemTree, let_item, items_of}
use Rattle.cf_tree.specs.Meaning.{got, items_path}
use Rattle.cf_tree.specs.Values.{Value, number, elements, elements_of, value_at}
use Rattle.cf_tree.proofs.SetLemmas.{on_bool}
use Rattle.cf_linear.specs.Arm.{ArmBuilder, level_of, region_code, let_region}
use Rattle.cf_linear.specs.Layout.{Layout, layout_of, has_level, input_column}
use Rattle.cf_venn.specs.Codes.{HoldsInputs}
use Rattle.cf_venn.specs.Lets.{region_values, RegionLetsLead}
use Rattle.cf_venn.specs.Masks.{sets_at, region, count}
use Rattle.cf_venn.proofs.CodeLaws.{CodeGives, var_gives}
use Rattle.cf_venn.proofs.LevelLaws.{Up, same_each, is_layout}
use Rattle.cf_venn.proofs.RegionCodes.{region_gives}

card_gives : (c : CodeTree) (e : List Value) (zs : List ℤ) → CodeGives c e (elements zs) → CodeGives (code_card c) e (number (pos (length zs)))
card_gives c e zs h = rw h refl

two_lets : (c d : CodeTree) (is : List ItemTree) (e f : List Value) (v w : Value) → CodeGives c e v → CodeGives d (e ++ (v ∷ [])) w →
    (items_path (items_of is) ((e ++ (v ∷ [])) ++ (w ∷ []))).gives ≡ got (Some f) →
    (items_path (items_of (let_item c ∷ let_item d ∷ is)) e).gives ≡ got (Some f)
two_lets c d is e f v w g h k = rw (g, h) k

-- ---- items, levels and names
module _ (l : Layout) where
  lets : ArmBuilder → ℕ → ℕ → ArmBuilder
  lets k a n = fold (let_region l) k (range_with_len a n)

  -- the items of n regions from mask a on, the first at this level
  region_items : ℕ → ℕ → ℕ → List ItemTree
  region_items level a zero = []
  region_items level a (suc n) = let_item (region_code l a) ∷ let_item (code_card (code_var level)) ∷ region_items (level + 2) (a + 1) n

  items_are : (k : ArmBuilder) (a n : ℕ) → (lets k a n).items ≡ k.items ++ region_items k.level a n
  unfolding lets region_items
  items_are k a zero = sym (append-nil k.items)
  items_are k a (suc n) =
      let j = let_region l k a in
      let s : k.level + 1 + 1 ≡ k.level + 2 = omega arith in
      let r = let_item (region_code l a) in
      let c = let_item (code_card (code_var k.level)) in
      let rest = region_items (k.level + 2) (a + 1) n in
      items_are j (a + 1) n
      ∙ ap (λ i. j.items ++ region_items i (a + 1) n) s
      ∙ append_assoc (k.items ++ (r ∷ [])) (c ∷ []) rest
      ∙ append_assoc k.items (r ∷ []) (c ∷ rest)

  level_is : (k : ArmBuilder) (a n : ℕ) → (lets k a n).level ≡ k.level + 2 * n
  unfolding lets
  level_is k a zero = omega arith
  level_is k a (suc n) = let i = level_is (let_region l k a) (a + 1) n in i ∙ omega arith

  names_kept : (k : ArmBuilder) (a n c : ℕ) → ((m : ℕ) → a ≤ m → m < a + n → input_column l m ≡ c → ⊥) → level_of (lets k a n).names c ≡ level_of k.names c
  unfolding lets
  names_kept k a zero c h = refl
  names_kept k a (suc n) c h =
      names_kept (let_region l k a) (a + 1) n c (λ m i j. h m (omega arith) (omega arith))
      ∙ rw (ne_eqb (input_column l a) c (h a (omega arith) (omega arith))) refl

  name_at : (k : ArmBuilder) (a n m : ℕ) → a ≤ m → m < a + n → level_of (lets k a n).names (input_column l m) ≡ k.level + 2 * (m - a) + 1
  unfolding lets
  name_at k a zero m i j = absurd (omega arith)
  name_at k a (suc n) m i j = on_bool (a == m)
      (λ t.
      let s = eqb-true a m t in
      names_kept (let_region l k a) (a + 1) n (input_column l m) (λ o p q e. omega arith)
      ∙ rw (eq-eqb (input_column l a) (input_column l m) (ap (input_column l) s)) (omega arith))
      (λ t.
      let d = eqb-false a m t in
      let h = name_at (let_region l k a) (a + 1) n m (omega arith) (omega arith) in
      h ∙ omega arith)

-- ---- values
length_pairs : (ins : List (List ℤ)) (a n : ℕ) → length (region_values ins (range_with_len a n)) ≡ 2 * n
length_pairs ins a zero = omega arith
length_pairs ins a (suc n) = let h = length_pairs ins (a + 1) n in omega arith

region_at : (ins : List (List ℤ)) (a n m : ℕ) → a ≤ m → m < a + n → value_at (region_values ins (range_with_len a n)) (2 * (m - a)) ≡ elements (region ins m)
region_at ins a zero m i j = absurd (omega arith)
region_at ins a (suc n) m i j = on_bool (a == m)
    (λ t. let s = eqb-true a m t in let z : 2 * (m - a) ≡ 0 = omega arith in rw z (ap (λ o. elements (region ins o)) s))
    (λ t. let d = eqb-false a m t in let z : 2 * (m - a) ≡ suc (suc (2 * (m - (a + 1)))) = omega arith in
    rw z (region_at ins (a + 1) n m (omega arith) (omega arith)))

count_at : (ins : List (List ℤ)) (a n m : ℕ) → a ≤ m → m < a + n → value_at (region_values ins (range_with_len a n)) (suc (2 * (m - a))) ≡ number
    (pos (count ins m))
count_at ins a zero m i j = absurd (omega arith)
count_at ins a (suc n) m i j = on_bool (a == m)
    (λ t. let s = eqb-true a m t in let z : 2 * (m - a) ≡ 0 = omega arith in rw z (ap (λ o. number (pos (count ins o))) s))
    (λ t. let d = eqb-false a m t in let z : 2 * (m - a) ≡ suc (suc (2 * (m - (a + 1)))) = omega arith in
    rw z (count_at ins (a + 1) n m (omega arith) (omega arith)))

later_value : (e f : List Value) (c i : ℕ) → c ≡ length e + i → value_at (e ++ f) c ≡ value_at f i
later_value e f c i h = rw h (get_or-append-add e f i (number (pos 0)))

-- ---- what the lets lead to
module _ (l : Layout) (lo : ℕ) (u : Up lo l.inputs) where
  module _ (e : List Value) (early : (x : ℕ) → has_level l.inputs x ≡ true → x < length e) (d : List Value) where
    same_value : (x : ℕ) → has_level l.inputs x ≡ true → value_at (e ++ d) x ≡ value_at e x
    same_value x h = get_or-append e d (number (pos 0)) x (early x h)

    same_sets : sets_at (e ++ d) l.inputs ≡ sets_at e l.inputs
    same_sets = same_each (λ x. elements_of (value_at (e ++ d) x)) (λ x. elements_of (value_at e x)) l.inputs (λ x h. ap elements_of (same_value x h))

    still_holds : HoldsInputs l e → HoldsInputs l (e ++ d)
    still_holds inputs x h = let k = inputs x h in (k.0, same_value x h ∙ k.1, k.2)

  lead : (n a : ℕ) (e : List Value) (ins : List (List ℤ)) (level : ℕ) → level ≡ length e → ((x : ℕ) → has_level l.inputs x ≡ true → x < length e) →
      HoldsInputs l e → sets_at e l.inputs ≡ ins →
      1 ≤ a → a + n ≤ 2 ^ length l.inputs → (items_path (items_of (region_items l level a n)) e).gives ≡ got
      (Some (e ++ region_values ins (range_with_len a n)))
  unfolding region_items
  lead zero a e ins level s early inputs same x y = ap (λ f. got (Some f)) (sym (append-nil e))
  lead (suc n) a e ins level s early inputs same x y =
      let R = region ins a in
      let e1 = e ++ (elements R ∷ []) in
      let e2 = e1 ++ (number (pos (count ins a)) ∷ []) in
      let rest = region_values ins (range_with_len (a + 1) n) in
      let pair = elements R ∷ number (pos (count ins a)) ∷ [] in
      let e2_is : e2 ≡ e ++ pair = append_assoc e (elements R ∷ []) (number (pos (count ins a)) ∷ []) in
      let first : CodeGives (region_code l a) e (elements R) = region_gives l e inputs lo u a x (omega arith) ∙
      ap (λ ss. got (elements (region ss a) ∷ [])) same in
      let there : value_at e1 level ≡ elements R = rw s (get_or-append_seam e (elements R) [] (number (pos 0))) in
      let long : length (e ++ pair) ≡ length e + 2 = length-append e pair in
      let next = lead n (a + 1) (e ++ pair) ins (level + 2) (omega arith) (λ z h. let i = early z h in omega arith) (still_holds e early pair inputs)
      (same_sets e early pair ∙ same) (omega arith) (omega arith) in
      two_lets (region_code l a) (code_card (code_var level)) (region_items l (level + 2) (a + 1) n) e (e ++ (pair ++ rest)) (elements R)
      (number (pos (count ins a)))
      first
      (card_gives (code_var level) e1 R (var_gives level e1 (elements R) there))
      (ap (λ f. (items_path (items_of (region_items l (level + 2) (a + 1) n)) f).gives) e2_is ∙ next ∙ ap (λ f. got (Some f)) (append_assoc e pair rest))

pub region_lets_lead : RegionLetsLead
unfolding lets
region_lets_lead scope outs rel k e inputs long s =
    let l = layout_of scope outs rel in
    let ins = sets_at e l.inputs in
    let n = 2 ^ length l.inputs - 1 in
    let layout = is_layout scope outs rel in
    let pairs = region_values ins (range_with_len 1 n) in
    let some = pow_pos (length l.inputs) in
    record {
      items = region_items l k.level 1 n;
      items_are = items_are l k 1 n;
      leads = lead l 0 layout.inputs_up n 1 e ins k.level s (λ x h. let i = layout.inputs x h in omega arith) inputs refl (omega arith) (omega arith);
      level_is = let a = level_is l k 1 n in let b = length-append e pairs in let c = length_pairs ins 1 n in omega arith;
      regions = λ m i j. later_value e pairs (k.level + 2 * (m - 1)) (2 * (m - 1)) (omega arith) ∙ region_at ins 1 n m i (omega arith);
      counts = λ m i j.
          ap (value_at (e ++ pairs)) (name_at l k 1 n m i (omega arith))
          ∙ later_value e pairs (k.level + 2 * (m - 1) + 1) (suc (2 * (m - 1))) (omega arith)
          ∙ count_at ins 1 n m i (omega arith);
      others = λ c h. names_kept l k 1 n c (λ m i j. h m i (omega arith));
    }
