-- The levels of a choose and the columns of the first systems of its cases.
use Rattle.std.proofs.Common.{◌≡◌, ℕ, zero, suc, ◌+◌, ◌-◌, ◌<◌, ◌≤◌, ◌==◌, pos, List, [], ◌∷◌, Bool, true, false, filter, map, length, get_or, Some, refl}
use Rattle.std.proofs.Common.{sym, ap, subst, arith, ◌∙◌, All}
use Rattle.std.specs.Prelude.{slice_get}
use Rattle.std.specs.List.{range_with_len}
use Rattle.std.proofs.lemmas.Bool.{cond_both, eq-eqb, ne_eqb}
use Rattle.std.proofs.lemmas.List.Elements.{All-head, All-tail}
use Rattle.cf_tree.specs.declared.base.Base.{Base}
use Rattle.cf_tree.specs.declared.base.Base.TheVariants.{Int, Bool as IsTruth, Set}
use Rattle.cf_tree.specs.Occurs.{rel_holds}
use Rattle.cf_tree.specs.RelTree.{RelTree}
use Rattle.cf_linear.specs.Keep.{In}
use Rattle.cf_linear.specs.Layout.{Layout, place, has_level, is_number, is_set, levels_with, layout_of, number_column, known_count, first_free}
use Rattle.cf_linear.specs.Systems.{System, Sat}
use Rattle.cf_linear.specs.Rows.{Values}
use Rattle.cf_linear.specs.Cases.{Signed, no_rows, case_rows, system_of_case, negation_normal, disjuncts, first_systems}
use Rattle.cf_linear.proofs.BoolLemmas.{on_bool}
use Rattle.cf_cases.specs.Holding.{EachOf, AreCounts, IsPlacedRel}
use Rattle.cf_cases.proofs.WholeCases.{CaseFits}
use Rattle.cf_cases.proofs.FormedLaws.{In-range, range-In, case-next}
use Rattle.cf_cases.proofs.SystemLaws.{case_from_system, cases-fit}
use Rattle.cf_venn.specs.Laws.{AreOutputs}
use Rattle.cf_venn.proofs.ColumnLaws.{place_within}
use Rattle.cf_venn.proofs.LevelLaws.{Up, base_at, level_has, is_layout, outputs_count}
use Rattle.cf_choose.specs.CaseArms.{AreInts}
use Rattle.cf_choose.proofs.OnceLevels.{AreOnce}
use Rattle.cf_choose.specs.ArmBuilders.{HasOutputs}
use Rattle.cf_choose.specs.Solved.{IsOutput}

pub are_outputs : (bs : List Base) → All IsOutput bs → AreOutputs bs
are_outputs [] h = tt
are_outputs (Int ∷ bs) h = are_outputs bs (All-tail IsOutput Int bs h)
are_outputs (IsTruth ∷ bs) h = absurd (All-head IsOutput IsTruth bs h)
are_outputs (Set ∷ bs) h = are_outputs bs (All-tail IsOutput Set bs h)

-- ---- levels that rise
up_at : (lo : ℕ) (xs : List ℕ) (i : ℕ) → Up lo xs → i < length xs → lo ≤ get_or xs i 0
up_at lo [] i u h = absurd (omega arith)
up_at lo (x ∷ xs) zero u h = u.0
up_at lo (x ∷ xs) (suc i) u h = let l = u.0 in let m = up_at (suc x) xs i u.1 (omega arith) in omega arith

once_up : (lo : ℕ) (xs : List ℕ) → Up lo xs → AreOnce xs
once_up lo [] u i h = absurd (omega arith)
once_up lo (x ∷ xs) u zero h = rw (eq-eqb x x refl) refl
once_up lo (x ∷ xs) u (suc i) h =
    let m = up_at (suc x) xs i u.1 (omega arith) in
    let n : x == get_or xs i 0 ≡ false = ne_eqb x (get_or xs i 0) (λ e. omega arith) in
    rw (n, once_up (suc x) xs u.1 i (omega arith)) (omega arith)

-- ---- numbers of the scope
int_levels : (scope bs : List Base) (n : ℕ) → ((i : ℕ) (b : Base) → slice_get bs i ≡ Some b → slice_get scope (n + i) ≡ Some b) →
    AreInts scope (levels_with is_number n bs)
int_levels scope [] n h = tt
int_levels scope (b ∷ bs) n h = with_base b (h 0 b refl) (int_levels scope bs (n + 1) (λ i d e. let s : n + 1 + i ≡ n + suc i = omega arith in
    rw s (h (suc i) d e)))
  where
    with_base : (b : Base) → slice_get scope (n + 0) ≡ Some b → AreInts scope (levels_with is_number (n + 1) bs) →
        AreInts scope (levels_with is_number n (b ∷ bs))
    with_base Int e k = let z : n + 0 ≡ n = omega arith in (subst (λ m. slice_get scope m ≡ Some Int) z e, k)
    with_base IsTruth e k = k
    with_base Set e k = k

ints_filter : (scope : List Base) (q : ℕ → Bool) (xs : List ℕ) → AreInts scope xs → AreInts scope (filter q xs)
ints_filter scope q [] h = tt
ints_filter scope q (x ∷ xs) h = cond_both (q x) (x ∷ filter q xs) (filter q xs) (λ ys. AreInts scope ys) (λ _. (h.0, ints_filter scope q xs h.1))
    (λ _. ints_filter scope q xs h.1)

module _ (scope outputs : List Base) (rel : RelTree) where
  pub numbers_once : AreOnce (layout_of scope outputs rel).numbers
  numbers_once = once_up 0 (layout_of scope outputs rel).numbers (is_layout scope outputs rel).numbers_up

  pub number_levels : AreInts scope (layout_of scope outputs rel).numbers
  number_levels = ints_filter scope (λ x. rel_holds x rel) (levels_with is_number 0 scope)
      (int_levels scope scope 0 (λ i b k. let z : 0 + i ≡ i = omega arith in rw z k))

  -- an output that is a number has its column after the known ones
  pub output_column : (x : ℕ) → has_level (layout_of scope outputs rel).out_numbers x ≡ true →
      (number_column (layout_of scope outputs rel) x ≡ known_count (layout_of scope outputs rel) + place x (layout_of scope outputs rel).out_numbers)
      × (place x (layout_of scope outputs rel).out_numbers < length (layout_of scope outputs rel).out_numbers)
  output_column x h =
      let l = layout_of scope outputs rel in
      let layout = is_layout scope outputs rel in
      let late = (layout.out_numbers x h).0 in
      let n : has_level l.numbers x ≡ false = on_bool (has_level l.numbers x) (λ t. let e = layout.numbers x t in absurd (omega arith)) (λ t. t) in
      (rw n refl, place_within x l.out_numbers h)

-- ---- outputs
place_has : (x : ℕ) (xs : List ℕ) → place x xs < length xs → has_level xs x ≡ true
place_has x [] h = absurd (omega arith)
place_has x (y ∷ ys) h = on_bool (y == x) (λ t. rw t refl) (λ t. let k = rw t at h in rw t (place_has x ys (omega arith)))

number_base : (bs : List Base) (i : ℕ) → AreOutputs bs → i < length bs → base_at is_set bs i ≡ false → base_at is_number bs i ≡ true
number_base [] i o h e = absurd (omega arith)
number_base (Int ∷ bs) zero o h e = refl
number_base (IsTruth ∷ bs) i o h e = absurd o
number_base (Set ∷ bs) zero o h e = absurd (cc)
number_base (Int ∷ bs) (suc i) o h e = number_base bs i o (omega arith) e
number_base (Set ∷ bs) (suc i) o h e = number_base bs i o (omega arith) e

pub has_outputs : (scope outputs : List Base) (rel : RelTree) → AreOutputs outputs → HasOutputs (layout_of scope outputs rel)
has_outputs scope outputs rel o =
    let l = layout_of scope outputs rel in
    let layout = is_layout scope outputs rel in
    let n = length scope in
    record {
      sets = λ x h. (layout.out_sets x (place_has x l.out_sets h)).2;
      numbers = λ x a b h.
          let k = outputs_count scope outputs rel o in
          let s : n + (x - n) ≡ x = omega arith in
          let none : has_level l.out_sets x ≡ false = on_bool (has_level l.out_sets x) (λ t. let w = place_within x l.out_sets t in absurd (omega arith))
          (λ t. t) in
          let e : base_at is_set outputs (x - n) ≡ false = sym (level_has is_set n outputs (x - n)) ∙ ap (has_level l.out_sets) s ∙ none in
          ap (has_level l.out_numbers) (sym s) ∙ level_has is_number n outputs (x - n) ∙ number_base outputs (x - n) o (omega arith) e;
    }

-- ---- the first system of a case
-- the known columns stand first, all others of the layout are unknown, and where the system is satisfied the counts are those of regions
pub record IsFirst (l : Layout) (m : System) : Type 0 where
  pub known : m.known ≡ range_with_len 0 (known_count l)
  pub unknown : (c : ℕ) → known_count l ≤ c → c < first_free l → In c m.unknown
  pub later : (c : ℕ) → In c m.unknown → known_count l ≤ c
  pub counts : (w : Values) → w 0 ≡ pos 1 → Sat m w → AreCounts l w

first_system : (l : Layout) (c : List Signed) → CaseFits l c → IsFirst l (system_of_case l c)
unfolding system_of_case
first_system l c f =
    let n = (case_rows l c).next in
    let rise : first_free l ≤ n = case-next l c (no_rows l) in
    record {
      known = refl;
      unknown = λ d a b. In-range (known_count l) (n - known_count l) d a (omega arith);
      later = λ d i. (range-In (known_count l) (n - known_count l) d i).0;
      counts = λ w one s. (case_from_system l c w f one s).1;
    }

firsts : (l : Layout) (cs : List (List Signed)) → EachOf (CaseFits l) cs → EachOf (IsFirst l) (map (system_of_case l) cs)
firsts l [] f = tt
firsts l (c ∷ cs) f = (first_system l c f.0, firsts l cs f.1)

pub each_first : (l : Layout) (rel : RelTree) → IsPlacedRel l rel → EachOf (IsFirst l) (first_systems l rel)
unfolding first_systems
each_first l rel p = firsts l (disjuncts (negation_normal true rel)) (cases-fit l true rel p)
