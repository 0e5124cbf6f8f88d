-- The lets of the regions of the input sets and of their sizes: what they are over bases, and which columns they name.
use Rattle.std.proofs.Common.{◌≡◌, ℕ, zero, suc, ◌+◌, ◌-◌, ◌*◌, ◌<◌, ◌≤◌, ◌^◌, ◌==◌, ℤ, pos, List, [], ◌∷◌, ◌++◌, ◌⊎◌, inl, inr, length, Some, true, refl}
use Rattle.std.proofs.Common.{sym, ap, subst, arith, ◌∙◌, append-nil, append_assoc}
use Rattle.std.specs.Prelude.{slice_get}
use Rattle.std.specs.List.{range_with_len, fold}
use Rattle.std.proofs.lemmas.Bool.{eqb-true, eqb-false}
use Rattle.std.proofs.lemmas.Option.{slice_get_within}
use Rattle.cf_tree.specs.declared.base.Base.{Base}
use Rattle.cf_tree.specs.declared.base.Base.TheVariants.{Int, Bool as IsTruth, Set}
use Rattle.cf_tree.specs.CodeTree.{code_var, code_card}
use Rattle.cf_tree.specs.Meaning.{Got, got, none_at, outcome_of, path}
use Rattle.cf_tree.specs.RelTree.{RelTree}
use Rattle.cf_tree.specs.Sets.{IsRising}
use Rattle.cf_tree.specs.Values.{Value, elements, elements_of, value_at, values, HaveBases}
use Rattle.cf_tree.proofs.RisingLemmas.{rising_filter}
use Rattle.cf_linear.specs.declared.refusal.TheConstants.{MOST_SETS}
use Rattle.cf_linear.specs.Arm.{ArmBuilder, let_region, region_code}
use Rattle.cf_linear.specs.Keep.{In}
use Rattle.cf_linear.specs.Layout.{Layout, layout_of, is_set, input_column}
use Rattle.cf_linear.proofs.BoolLemmas.{on_bool}
use Rattle.cf_venn.specs.Codes.{HoldsInputs}
use Rattle.cf_venn.specs.Forms.{InputsTyped}
use Rattle.cf_venn.specs.Masks.{sets_at, mask, union_all, region}
use Rattle.cf_venn.proofs.FormLaws.{region_codes_fit}
use Rattle.cf_venn.proofs.LevelLaws.{base_at, is_layout}
use Rattle.cf_venn.proofs.MaskLemmas.{rising_union_all}
use Rattle.cf_venn.proofs.RegionCodes.{region_codes_mean}
use Rattle.cf_choose.specs.ArmBuilders.{let_alone}
use Rattle.cf_choose.proofs.ArmBuilderLemmas.{IsMade, Makes, alone_made, let_made, slice_get-more, slice_get-last}
use Rattle.cf_choose.proofs.RowCodes.{named, Computes}

-- ---- sets of an environment
pub set_value_at : (bases : List Base) (e : List Value) (x : ℕ) → HaveBases bases e → slice_get bases x ≡ Some Set → (zs : List ℤ) ×
    (value_at e x ≡ elements zs) × IsRising zs
set_value_at [] [] x h s = absurd (cc)
set_value_at [] (v ∷ e) x h s = absurd h
set_value_at (b ∷ bases) [] x h s = absurd h
set_value_at (Int ∷ bases) (v ∷ e) zero h s = absurd (cc)
set_value_at (IsTruth ∷ bases) (v ∷ e) zero h s = absurd (cc)
set_value_at (Set ∷ bases) (v ∷ e) zero h s = h.0
set_value_at (b ∷ bases) (v ∷ e) (suc x) h s = set_value_at bases e x h.1 s

pub holds_inputs : (bases : List Base) (l : Layout) (e : List Value) → InputsTyped bases l → HaveBases bases e → HoldsInputs l e
holds_inputs bases l e t h x i = set_value_at bases e x h (t x i)

is_set_at : (bs : List Base) (i : ℕ) → base_at is_set bs i ≡ true → slice_get bs i ≡ Some Set
is_set_at [] i h = absurd (cc)
is_set_at (Int ∷ bs) zero h = absurd (cc)
is_set_at (IsTruth ∷ bs) zero h = absurd (cc)
is_set_at (Set ∷ bs) zero h = refl
is_set_at (b ∷ bs) (suc i) h = is_set_at bs i h

pub inputs_typed : (scope outputs : List Base) (rel : RelTree) (more : List Base) → InputsTyped (scope ++ more) (layout_of scope outputs rel)
inputs_typed scope outputs rel more x h =
    slice_get-more scope more x Set (is_set_at scope x ((is_layout scope outputs rel).input_is x h))

-- ---- codes
values_got : (g : Got (List Value)) (vs : List Value) → outcome_of g ≡ values vs → g ≡ got vs
values_got (got us) vs h = cc
values_got (none_at n) vs h = cc

size_computes : (bases : List Base) (x : ℕ) → slice_get bases x ≡ Some Set →
    Computes 6 bases (code_card (code_var x)) (λ e. pos (length (elements_of (value_at e x))))
size_computes bases x s = record {
  code = record {
    typed = λ asked m. ((Set, s, (refl, refl)), (refl, m));
    plain = tt;
    spelled = λ few. let h = slice_get_within bases x Set s in omega arith;
    shallow = omega arith;
  };
  means = λ e have. let v = set_value_at bases e x have s in rw v.1 refl;
}

-- ---- lists of bases
-- those of n regions with their sizes
abbrev pub pairs : ℕ → List Base
pairs zero = []
pairs (suc n) = Set ∷ Int ∷ pairs n

pub length-pairs : (n : ℕ) → length (pairs n) ≡ 2 * n
length-pairs zero = omega arith
length-pairs (suc n) = let h = length-pairs n in omega arith

pub slice_get-after : (bs cs : List Base) (i : ℕ) → slice_get (bs ++ cs) (length bs + i) ≡ slice_get cs i
slice_get-after [] cs i = let z : length {A = Base} [] + i ≡ i = omega arith in ap (slice_get cs) z
slice_get-after (b ∷ bs) cs i = let s : length (b ∷ bs) + i ≡ suc (length bs + i) = omega arith in rw s (slice_get-after bs cs i)

pairs_set : (n i : ℕ) → i < n → slice_get (pairs n) (2 * i) ≡ Some Set
pairs_set zero i h = absurd (omega arith)
pairs_set (suc n) zero h = let z : 2 * 0 ≡ 0 = omega arith in ap (slice_get (pairs (suc n))) z
pairs_set (suc n) (suc i) h = let z : 2 * suc i ≡ suc (suc (2 * i)) = omega arith in ap (slice_get (pairs (suc n))) z ∙ pairs_set n i (omega arith)

pub region_set : (bases : List Base) (n m x : ℕ) → 1 ≤ m → m < 1 + n → x ≡ length bases + 2 * (m - 1) → slice_get (bases ++ pairs n) x ≡ Some Set
region_set bases n m x a b e = ap (slice_get (bases ++ pairs n)) e ∙ slice_get-after bases (pairs n) (2 * (m - 1)) ∙ pairs_set n (m - 1) (omega arith)

typed_more : (bases more : List Base) (l : Layout) → InputsTyped bases l → InputsTyped (bases ++ more) l
typed_more bases more l t x i = slice_get-more bases more x Set (t x i)

-- ---- the lets
module _ (scope outputs : List Base) (rel : RelTree) (few_sets : length (layout_of scope outputs rel).inputs ≤ MOST_SETS) where
  abbrev l : Layout
  l = layout_of scope outputs rel

  module _ (start bases : List Base) (k : ArmBuilder) (made : IsMade start k bases) (typed : InputsTyped bases l) where
    region_makes : (m : ℕ) → 1 ≤ m → m < 2 ^ length l.inputs → Makes bases Set (region_code l m) (λ e. elements (region (sets_at e l.inputs) m))
    region_makes m a b =
        let f = region_codes_fit bases l typed m in
        record {
          code = record { typed = f.typed; plain = f.plain; spelled = f.spelled; shallow = let s = f.shallow in omega arith };
          means = λ e have. values_got (path (region_code l m) e).gives (elements (region (sets_at e l.inputs) m) ∷ [])
              (region_codes_mean scope outputs rel e (holds_inputs bases l e typed have) m a b);
          base = λ e have. (
            region (sets_at e l.inputs) m,
            refl,
            rising_filter (λ x. mask (sets_at e l.inputs) x == m) (union_all (sets_at e l.inputs))
                (rising_union_all (sets_at e l.inputs)),
          );
        }

    pub region_made : (m : ℕ) → 1 ≤ m → m < 2 ^ length l.inputs → IsMade start (let_region l k m) (bases ++ (Set ∷ Int ∷ []))
    region_made m a b =
        let one_more = bases ++ (Set ∷ []) in
        let first = alone_made start bases k Set (region_code l m) (λ e. elements (region (sets_at e l.inputs) m)) (region_makes m a b) made in
        let s : slice_get one_more k.level ≡ Some Set = slice_get-last bases Set k.level made.level in
        let both = let_made start one_more (let_alone k (region_code l m)) (input_column l m) (code_card (code_var k.level))
        (λ e. pos (length (elements_of (value_at e k.level)))) (size_computes one_more k.level s) first in
        subst (IsMade start (let_region l k m)) (append_assoc bases (Set ∷ []) (Int ∷ [])) both

  pub regions_made : (start : List Base) (n a : ℕ) (bases : List Base) (k : ArmBuilder) → IsMade start k bases → InputsTyped bases l → 1 ≤ a →
      a + n ≤ 2 ^ length l.inputs →
      IsMade start (fold (let_region l) k (range_with_len a n)) (bases ++ pairs n)
  regions_made start zero a bases k made typed x y = subst (IsMade start k) (sym (append-nil bases)) made
  regions_made start (suc n) a bases k made typed x y =
      let next = region_made start bases k made typed a x (omega arith) in
      subst (IsMade start (fold (let_region l) (let_region l k a) (range_with_len (a + 1) n))) (append_assoc bases (Set ∷ Int ∷ []) (pairs n))
      (regions_made start n (a + 1) (bases ++ (Set ∷ Int ∷ [])) (let_region l k a) next (typed_more bases (Set ∷ Int ∷ []) l typed) (omega arith)
      (omega arith))

  -- ---- which columns have names
  pub named_before : (n a : ℕ) (k : ArmBuilder) (c : ℕ) → In c (named k.names) → In c (named (fold (let_region l) k (range_with_len a n)).names)
  named_before zero a k c i = i
  named_before (suc n) a k c i = named_before n (a + 1) (let_region l k a) c (inr i)

  pub named_region : (n a : ℕ) (k : ArmBuilder) (m : ℕ) → a ≤ m → m < a + n → In (input_column l m) (named (fold (let_region l) k (range_with_len a n)).names)
  named_region zero a k m x y = absurd (omega arith)
  named_region (suc n) a k m x y = on_bool (a == m)
      (λ t. named_before n (a + 1) (let_region l k a) (input_column l m) (inl (ap (input_column l) (sym (eqb-true a m t)))))
      (λ t. let d = eqb-false a m t in named_region n (a + 1) (let_region l k a) m (omega arith) (omega arith))

  -- the column of a region, or one that was named before
  pub named_after : (n a : ℕ) (k : ArmBuilder) (c : ℕ) → In c (named (fold (let_region l) k (range_with_len a n)).names) →
      ((m : ℕ) × (a ≤ m) × (m < a + n) × (c ≡ input_column l m)) ⊎ In c (named k.names)
  named_after zero a k c i = inr i
  named_after (suc n) a k c i = elim (named_after n (a + 1) (let_region l k a) c i) as
      (λ _. ((m : ℕ) × (a ≤ m) × (m < a + suc n) × (c ≡ input_column l m)) ⊎ In c (named k.names)) [
        | inl h ↦ let x = h.1 in let y = h.2 in inl (h.0, omega arith, omega arith, h.3)
        | inr j ↦ elim j as (λ _. ((m : ℕ) × (a ≤ m) × (m < a + suc n) × (c ≡ input_column l m)) ⊎ In c (named k.names))
            [ inl s ↦ inl (a, omega arith, omega arith, s) | inr h ↦ inr h ]
      ]
