-- What a choose weighs at least, by the floor of its relation.
use Rattle.std.proofs.Common.{◌≡◌, ℕ, suc, ◌+◌, ◌≤◌, ◌<◌, ◌-◌, ◌^◌, nat_le, Bool, true, false, cond, Option, None, Some, List, [], ◌∷◌, ◌++◌, length, map, reverse, slice_index, append-nil, append_assoc, refl, sym, ap, ◌∙◌, subst, arith}
use Rattle.std.specs.Prelude.{if◌then◌else◌}
use Rattle.std.proofs.lemmas.Bool.Decides.{nat_tests}
use Rattle.cf_tree.specs.declared.base.Base.{Base}
use Rattle.cf_tree.specs.declared.base.Base.TheVariants.{Int, Bool as OfTruth, Set}
use Rattle.cf_form.specs.declared.floor.Floor.TheVariants.{Truth}
use Rattle.cf_tree.specs.declared.raw.Param.{Param}
use Rattle.cf_form.specs.Branches.{WideChoose, branched, truth_levels, truth_bounds, all_outputs, values_in}
use Rattle.cf_tree.specs.DefView.{DefTree}
use Rattle.cf_tree.specs.ExprTree.{ExprTree, expr_let, expr_choose_where, GivenExpr, holds_always, holds_where, at_any}
use Rattle.cf_form.specs.Expansion.{Part, of_number, of_set, of_truth, truth_in, first_part, variables_from, Calls, expanded, call_expanded}
use Rattle.cf_form.specs.Floor.{HasTruth, Stands, IsOne, HasFloor, base_floor, HasGiven, IsHeavy}
use Rattle.cf_form.specs.Formed.{formed_def, formed_behind, formed_defs, given_of, with_given, wide_choose, branching, choose_form, are_as_chosen, has_truths}
use Rattle.cf_program.specs.Lowered.{lowered}
use Rattle.cf_form.specs.Alternatives.{all_of}
use Rattle.cf_tree.specs.Params.{bases_of}
use Rattle.cf_form.specs.Passed.{passed}
use Rattle.cf_form.specs.Polarity.{holding}
use Rattle.cf_tree.specs.RelSize.{rel_size, capped}
use Rattle.cf_tree.specs.RelTree.{RelTree, rel_true, rel_and}
use Rattle.cf_program.specs.Size.{weight_in, measured, weights, first_above}
use Rattle.cf_form.specs.SourceChooses.{SourceChoose}
use Rattle.cf_form.specs.Told.{first_passed, passed_or}
use Rattle.cf_form.specs.Wide.{WideRel}
use Rattle.cf_form.proofs.FloorForms.{one_by, variables_stand}
use Rattle.cf_form.proofs.FloorLaws.{and_floor}
use Rattle.cf_form.proofs.Halves.{halves_hold}

-- ---- a tree of halves weighs at least its last part
abbrev sizes : List RelTree → ℕ
sizes [] = 0
sizes (r ∷ rs) = rel_size r + sizes rs

sizes_append : (rs ss : List RelTree) → sizes (rs ++ ss) ≡ sizes rs + sizes ss
sizes_append [] ss = omega arith
sizes_append (r ∷ rs) ss = let h = sizes_append rs ss in omega (arith, h)

all_sizes : (rs : List RelTree) → sizes rs ≤ rel_size (all_of rs)
all_sizes = halves_hold rel_and rel_true (λ ps t. sizes ps ≤ rel_size t) (omega arith) (λ p. omega arith)
    (λ ps qs a b h g. let e = sizes_append ps qs in omega (arith, h, g, e))

last_size : (rs : List RelTree) (r : RelTree) → rel_size r ≤ rel_size (all_of (rs ++ r ∷ []))
last_size rs r = let h = all_sizes (rs ++ r ∷ []) in let e = sizes_append rs (r ∷ []) in omega (arith, h, e)

-- ---- the relation of a choose
first_truth : (w : ℕ) (ps : List Part) → IsOne (Truth w) ps → HasTruth w (truth_in (first_part ps))
first_truth w ps h = one_by (λ qs. HasTruth w (truth_in (first_part qs))) (Truth w) ps h of_part
  where
    of_part : (p : Part) → Stands (Truth w) p → HasTruth w (truth_in p)
    of_part (of_number t) g = absurd g
    of_part (of_set s) g = absurd g
    of_part (of_truth r) g = g

no_levels : (x : ℕ) (bs : List Base) → has_truths bs ≡ false → truth_levels x bs ≡ []
no_levels x [] e = refl
no_levels x (Int ∷ bs) e = no_levels (suc x) bs e
no_levels x (OfTruth ∷ bs) e = cc
no_levels x (Set ∷ bs) e = no_levels (suc x) bs e

-- ---- the form of a choose that does not branch
module _ (known : ℕ → ℕ) (w : ℕ) where
  out_weight : (b : Bool) (n : ℕ) (chosen out : ExprTree) → w ≤ weight_in known (lowered chosen) →
      w ≤ weight_in known (lowered (if b then chosen else expr_let n chosen out))
  out_weight true n chosen out h = h
  out_weight false n chosen out h = omega (arith, h)

  chosen_weight : (q : WideChoose) → branched q ≡ [] → HasTruth w q.relation → w ≤ weight_in known (lowered (branching q (branched q) []))
  chosen_weight q e h =
      let a = h.holds (values_in []) in
      let b = last_size (truth_bounds (length q.scope) (all_outputs q)) (holding (values_in []) q.relation) in
      let c : w ≤ weight_in known (lowered (branching q [] [])) = omega (arith, a, b) in
      subst (λ xs. w ≤ weight_in known (lowered (branching q xs []))) (sym e) c

  form_weight : (q : WideChoose) → branched q ≡ [] → HasTruth w q.relation → w ≤ weight_in known (lowered (choose_form q))
  form_weight q e h = out_weight (are_as_chosen q.outputs q.hidden) _ (branching q (branched q) []) _ (chosen_weight q e h)

module _ (calls : Calls) (n : ℕ) (scope : List Param) (outputs hidden : List Base) (given : GivenExpr) (rel : ExprTree) (w : ℕ)
    (plain : has_truths (bases_of scope) ≡ false) (holds : HasGiven calls (map base_floor (bases_of scope)) given)
    (has : HasFloor calls (map base_floor (bases_of scope ++ outputs ++ hidden)) rel (Truth w)) where
  abbrev source : SourceChoose
  source = record { number = n; scope = scope; outputs = outputs; hidden = hidden; given = given; relation = rel; aim = at_any }

  abbrev wide : WideChoose
  wide = wide_choose calls source

  with_floor : (g : GivenExpr) (r : WideRel) → HasGiven calls (map base_floor (bases_of scope)) g → HasTruth w r →
      HasTruth w (with_given (given_of calls (variables_from 0 (bases_of scope)) g) r)
  with_floor holds_always r h k = k
  with_floor (holds_where p) r h k =
      let f = first_truth h.0 (expanded calls (variables_from 0 (bases_of scope)) p)
      (h.1.stands (variables_from 0 (bases_of scope)) (variables_stand 0 (bases_of scope))) in
      and_floor w h.0 w (truth_in (first_part (expanded calls (variables_from 0 (bases_of scope)) p))) r (omega arith) f k

  relation_floor : HasTruth w wide.relation
  relation_floor =
      let all = bases_of scope ++ outputs ++ hidden in
      with_floor given (truth_in (first_part (expanded calls (variables_from 0 all) rel))) holds
      (first_truth w (expanded calls (variables_from 0 all) rel) (has.stands (variables_from 0 all) (variables_stand 0 all)))

  no_branches : branched wide ≡ []
  no_branches = rw (no_levels 0 (bases_of scope) plain) refl

  none_passed : (q : WideChoose) → passed q.relation ≡ None → first_passed (q ∷ []) ≡ None
  none_passed q e = rw e refl

  pub choose_heavy : IsHeavy calls w (expr_choose_where n scope outputs hidden given rel at_any)
  choose_heavy = record {
    narrow = none_passed wide relation_floor.narrow;
    weight = λ known s. form_weight known w wide no_branches relation_floor;
  }

-- ---- the first function that is too heavy
most : (limit i n : ℕ) (ns : List ℕ) → limit < 2 ^ 64 - 1 → 2 ^ 64 - 1 ≤ n → first_above limit i (n ∷ ns) ≡ Some (i, 2 ^ 64 - 1)
most limit i n ns l h = by (nat_le n limit) refl
  where
    top : capped n ≡ 2 ^ 64 - 1
    top = omega (arith, h)

    by : (b : Bool) → nat_le n limit ≡ b → cond b (first_above limit (suc i) ns) (Some (i, capped n)) ≡ Some (i, 2 ^ 64 - 1)
    by true e = absurd (grind (arith, nat_tests))
    by false e = ap (λ m. Some (i, m)) top

module _ (measure : (ℕ → ℕ) → ExprTree → ℕ) (limit : ℕ) (small : limit < 2 ^ 64 - 1) (d : DefTree)
    (heavy : (k : List ℕ) → 2 ^ 64 - 1 ≤ measure (λ f. slice_index k f) (lowered d.body)) where
  abbrev Above : ℕ → List ℕ → ℕ → Type 0
  Above i ns at = first_above limit i ns ≡ Some (at, 2 ^ 64 - 1)

  above_at : (i : ℕ) (known : List ℕ) (xs ys : List DefTree) → first_above limit i (measured measure known xs) ≡ None →
      Above i (measured measure known (xs ++ d ∷ ys)) (i + length xs)
  above_at i known [] ys e =
      let n : ℕ = measure (λ f. slice_index known f) (lowered d.body) in
      subst (λ at. Above i (measured measure known (d ∷ ys)) at) (omega arith) (most limit i n (measured measure (known ++ n ∷ []) ys) small (heavy known))
  above_at i known (x ∷ xs) ys e =
      let n : ℕ = measure (λ f. slice_index known f) (lowered x.body) in
      by n (nat_le n limit) (above_at (suc i) (known ++ n ∷ []) xs ys) e
    where
      by : (n : ℕ) (b : Bool) →
          (first_above limit (suc i) (measured measure (known ++ n ∷ []) xs) ≡ None →
          Above (suc i) (measured measure (known ++ n ∷ []) (xs ++ d ∷ ys)) (suc i + length xs)) →
          cond b (first_above limit (suc i) (measured measure (known ++ n ∷ []) xs)) (Some (i, capped n)) ≡ None →
          cond b (first_above limit (suc i) (measured measure (known ++ n ∷ []) (xs ++ d ∷ ys))) (Some (i, capped n)) ≡ Some (i + suc (length xs), 2 ^ 64 - 1)
      by n true rest h = subst (λ at. Above (suc i) (measured measure (known ++ n ∷ []) (xs ++ d ∷ ys)) at) (omega arith) (rest h)
      by n false rest h = cc

-- ---- formed functions
formed_split : (before xs : List DefTree) (d : DefTree) (ys : List DefTree) → formed_behind before (xs ++ d ∷ ys)
    ≡ formed_behind before xs ++ formed_def (before ++ xs) d ∷ formed_behind (before ++ xs ++ d ∷ []) ys
formed_split before [] d ys = rw (append-nil before) refl
formed_split before (x ∷ xs) d ys =
    subst (λ ds. formed_behind before (x ∷ xs ++ d ∷ ys)
    ≡ formed_def before x ∷ formed_behind (before ++ x ∷ []) xs ++ formed_def ds d ∷ formed_behind (ds ++ d ∷ []) ys)
    (append_assoc before (x ∷ []) xs) (ap (λ ds. formed_def before x ∷ ds) (formed_split (before ++ x ∷ []) xs d ys))

formed_length : (before xs : List DefTree) → length (formed_behind before xs) ≡ length xs
formed_length before [] = refl
formed_length before (x ∷ xs) = ap suc (formed_length (before ++ x ∷ []) xs)

pub heavy_first : (xs : List DefTree) (d : DefTree) (ys : List DefTree) →
    IsHeavy (call_expanded (reverse (map (λ f. f.body) xs))) (2 ^ 64 - 1) d.body →
    first_above 1000000 0 (weights (formed_defs xs)) ≡ None →
    first_above 1000000 0 (weights (formed_defs (xs ++ d ∷ ys))) ≡ Some (length xs, 2 ^ 64 - 1)
heavy_first xs d ys h light =
    let small : 1000000 < 2 ^ 64 - 1 = omega arith in
    let count = formed_length [] xs in
    let number : 0 + length (formed_behind [] xs) ≡ length xs = omega (arith, count) in
    let found = above_at weight_in 1000000 small (formed_def xs d) (λ k. h.weight (λ f. slice_index k f) (length d.params)) 0 [] (formed_behind [] xs)
    (formed_behind (xs ++ d ∷ []) ys) light in
    ap (λ ds. first_above 1000000 0 (weights ds)) (formed_split [] xs d ys) ∙ found ∙ ap (λ n. Some (n, 2 ^ 64 - 1)) number

-- ---- lists of chooses
pub passed_append : (qs rs : List WideChoose) → first_passed qs ≡ None → first_passed rs ≡ None → first_passed (qs ++ rs) ≡ None
passed_append [] rs e f = f
passed_append (q ∷ qs) rs e f = by (passed q.relation) (passed_append qs rs) e
  where
    by : (o : Option ℕ) → (first_passed qs ≡ None → first_passed rs ≡ None → first_passed (qs ++ rs) ≡ None) →
        passed_or q.number o (first_passed qs) ≡ None → passed_or q.number o (first_passed (qs ++ rs)) ≡ None
    by (Some n) rest h = cc
    by None rest h = rest h f
