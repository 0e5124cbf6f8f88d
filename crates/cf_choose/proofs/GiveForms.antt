-- The codes of the outputs are well typed, spelled and not deep.
use Rattle.std.proofs.Common.{◌≡◌, ℕ, suc, ◌+◌, ◌≤◌, ◌^◌, List, [], ◌∷◌, length, map, Some, true, false, refl, sym, subst, arith, ◌∙◌}
use Rattle.std.specs.Prelude.{slice_get, None}
use Rattle.std.specs.List.{range_with_len}
use Rattle.std.proofs.lemmas.Option.{slice_get_within}
use Rattle.std.proofs.lemmas.List.FromFn.{length-range_with_len}
use Rattle.cf_tree.specs.declared.base.Base.{Base}
use Rattle.cf_tree.specs.declared.base.Base.TheVariants.{Int, Bool as IsTruth, Set}
use Rattle.cf_tree.specs.CodeTree.{CodeTree, codes_of, codes_depth}
use Rattle.cf_tree.specs.RelTree.{RelTree}
use Rattle.cf_tree.specs.Spelled.{AreSpelled, AreGives, IsNoTuple}
use Rattle.cf_tree.specs.Typing.{PartsHave, HaveNoSolve}
use Rattle.cf_linear.specs.Arm.{ColumnLevels, level_of, union_of_all, piece_code, ArmBuilder, region_level, give_code, gives}
use Rattle.cf_linear.specs.Layout.{Layout, layout_of, is_number, is_set, place, has_level, number_column}
use Rattle.cf_linear.specs.Systems.{Answer}
use Rattle.cf_linear.proofs.BoolLemmas.{on_bool}
use Rattle.cf_venn.specs.Forms.{IsCodeOf, CountsTyped, RegionsTyped}
use Rattle.cf_venn.specs.Laws.{AreOutputs}
use Rattle.cf_venn.proofs.FormLaws.{set_codes_fit}
use Rattle.cf_venn.proofs.LevelLaws.{base_at, level_has, is_layout, outputs_count}

-- codes of one value of each of these bases, spelled where levels are numbers of 32 bits
pub record AreGiven (bases outputs : List Base) (cs : List CodeTree) : Type 0 where
  pub typed : PartsHave (codes_of cs) bases None outputs
  pub plain : HaveNoSolve (codes_of cs)
  pub spelled : length bases ≤ 2 ^ 32 → AreSpelled (codes_of cs)
  pub shallow : codes_depth (codes_of cs) ≤ 4

given_more : (bases outputs : List Base) (b : Base) (c : CodeTree) (cs : List CodeTree) → IsCodeOf b 4 bases c → AreGiven bases outputs cs →
    AreGiven bases (b ∷ outputs) (c ∷ cs)
given_more bases outputs b c cs h k = record {
  typed = (b, outputs, refl, h.typed None tt, k.typed);
  plain = (h.plain, k.plain);
  spelled = λ few. (h.spelled few, k.spelled few);
  shallow = let s = h.shallow in let t = k.shallow in omega arith;
}

given_listed : (bases : List Base) (f : ℕ → CodeTree) (n : ℕ) (bs : List Base) → AreOutputs bs →
    ((i : ℕ) → base_at is_number bs i ≡ true → IsCodeOf Int 4 bases (f (n + i))) →
    ((i : ℕ) → base_at is_set bs i ≡ true → IsCodeOf Set 4 bases (f (n + i))) → AreGiven bases bs (map f (range_with_len n (length bs)))
given_listed bases f n [] o h k = record { typed = refl; plain = tt; spelled = λ _. tt; shallow = omega arith }
given_listed bases f n (Int ∷ bs) o h k =
    let z : n + 0 ≡ n = omega arith in
    given_more bases bs Int (f n) (map f (range_with_len (n + 1) (length bs))) (subst (λ i. IsCodeOf Int 4 bases (f i)) z (h 0 refl))
    (given_listed bases f (n + 1) bs o (λ i e. let s : n + suc i ≡ n + 1 + i = omega arith in subst (λ j. IsCodeOf Int 4 bases (f j)) s (h (suc i) e))
    (λ i e. let s : n + suc i ≡ n + 1 + i = omega arith in subst (λ j. IsCodeOf Set 4 bases (f j)) s (k (suc i) e)))
given_listed bases f n (IsTruth ∷ bs) o h k = absurd o
given_listed bases f n (Set ∷ bs) o h k =
    let z : n + 0 ≡ n = omega arith in
    given_more bases bs Set (f n) (map f (range_with_len (n + 1) (length bs))) (subst (λ i. IsCodeOf Set 4 bases (f i)) z (k 0 refl))
    (given_listed bases f (n + 1) bs o (λ i e. let s : n + suc i ≡ n + 1 + i = omega arith in subst (λ j. IsCodeOf Int 4 bases (f j)) s (h (suc i) e))
    (λ i e. let s : n + suc i ≡ n + 1 + i = omega arith in subst (λ j. IsCodeOf Set 4 bases (f j)) s (k (suc i) e)))

-- ---- no output is a tuple
no_tuple_union : (l : Layout) (names : ColumnLevels) (region : ℕ → ℕ) (fresh : ℕ) (rs : List ℕ) →
    IsNoTuple (union_of_all (map (piece_code l names region fresh) rs))
no_tuple_union l names region fresh [] = tt
no_tuple_union l names region fresh (r ∷ []) = tt
no_tuple_union l names region fresh (r ∷ s ∷ rs) = tt

gives_listed : (f : ℕ → CodeTree) → ((x : ℕ) → IsNoTuple (f x)) → (xs : List ℕ) → 1 ≤ length xs → AreGives (codes_of (map f xs))
gives_listed f n [] h = absurd (omega arith)
gives_listed f n (x ∷ []) h = n x
gives_listed f n (x ∷ y ∷ xs) h = tt

pub gives_some : (l : Layout) (a : Answer) (k : ArmBuilder) → 1 ≤ length l.out_numbers + length l.out_sets → AreGives (codes_of (gives l a k))
gives_some l a k h =
    gives_listed (give_code l a k)
    (λ x. on_bool (has_level l.out_numbers x) (λ t. rw t tt) (λ t. rw t (no_tuple_union l k.names (region_level l a) k.level _)))
    (range_with_len l.scope (length l.out_numbers + length l.out_sets)) (rw (length-range_with_len l.scope (length l.out_numbers + length l.out_sets)) h)

-- ---- the outputs of a choose
module _ (scope outputs : List Base) (rel : RelTree) (o : AreOutputs outputs) (a : Answer) (k : ArmBuilder) (bases : List Base) where
  abbrev l : Layout
  l = layout_of scope outputs rel

  module _ (numbers : (x : ℕ) → has_level l.out_numbers x ≡ true → slice_get bases (level_of k.names (number_column l x)) ≡ Some Int)
      (counts : CountsTyped bases l k.names)
      (regions : RegionsTyped bases l (region_level l a)) (fresh : 1 ≤ length l.out_sets → slice_get bases k.level ≡ Some Set) where
    give_number : (i : ℕ) → base_at is_number outputs i ≡ true → IsCodeOf Int 4 bases (give_code l a k (length scope + i))
    give_number i e =
        let x = length scope + i in
        let t : has_level l.out_numbers x ≡ true = level_has is_number (length scope) outputs i ∙ e in
        let s = numbers x t in
        rw t (record {
          typed = λ asked m. (Int, s, (refl, m));
          plain = tt;
          spelled = λ few. let h =
              slice_get_within bases (level_of k.names (number_column l x)) Int s in omega arith;
          shallow = omega arith;
        })

    give_set : (i : ℕ) → base_at is_set outputs i ≡ true → IsCodeOf Set 4 bases (give_code l a k (length scope + i))
    give_set i e =
        let x = length scope + i in
        let t : has_level l.out_numbers x ≡ false = ((is_layout scope outputs rel).out_sets x (level_has is_set (length scope) outputs i ∙ e)).2 in
        rw t (set_codes_fit bases l k.names (region_level l a) k.level counts regions fresh (place x l.out_sets))

    pub outputs_given : AreGiven bases outputs (gives l a k)
    outputs_given =
        subst (λ n. AreGiven bases outputs (map (give_code l a k) (range_with_len (length scope) n))) (sym (outputs_count scope outputs rel o))
        (given_listed bases (give_code l a k) (length scope) outputs o give_number give_set)
