-- What a typed expression is formed to is typed.
use Rattle.std.proofs.Common.{◌≡◌, ℕ, zero, suc, ◌+◌, ◌-◌, ◌≤◌, Bool, true, false, Option, Some, None, List, [], ◌∷◌, ◌++◌, length, map, filter, slice_get, append-nil, append_assoc, refl, sym, ap, ◌∙◌, subst, arith, length-append}
use Rattle.std.specs.Prelude.{if◌then◌else◌, cond, All}
use Rattle.std.specs.List.{AllByRecursion}
use Rattle.std.proofs.lemmas.Int.{ints}
use Rattle.std.proofs.lemmas.List.{length-map, map-append}
use Rattle.std.proofs.lemmas.List.Elements.{All-nil, All-cons}
use Rattle.cf_tree.specs.declared.base.Base.{Base}
use Rattle.cf_tree.specs.declared.base.Base.TheVariants.{Int, Bool as Truth, Set}
use Rattle.cf_tree.specs.declared.base.Order.{Order}
use Rattle.cf_tree.specs.declared.base.Order.TheVariants.{Eq, Ne, Lt, Le, Gt, Ge}
use Rattle.cf_tree.specs.declared.raw.BinOp.{BinOp}
use Rattle.cf_tree.specs.declared.raw.BinOp.TheVariants.{Add, Sub, Mul, And, Or, Implies, Union, Inter, Diff, Subset, Compare}
use Rattle.cf_tree.specs.ExprTree.{ExprTree, expr_lit, expr_truth, expr_var, expr_set_of, expr_tuple, expr_neg, expr_not, expr_abs, expr_binary, expr_divides, expr_div, expr_mod, expr_card, expr_if, expr_call, expr_let, expr_choose, expr_match, expr_chain, expr_min, expr_max, expr_choose_where, ExprTrees, no_exprs, expr_more, exprs_of, match_arm, MatchArmTrees, no_match_arms, match_arm_more}
use Rattle.cf_tree.specs.Params.{bases_of}
use Rattle.cf_program.specs.TypedProgram.{LinearBehind, AreSides, IsOutput, HasArms, AreSeveral, ExprHasBasesBy, AllHaveBy, PartsHaveBy, ArmsHaveBy}
use Rattle.cf_program.specs.Walk.{side_of, result_of}
use Rattle.cf_form.specs.Branches.{WideChoose, Branch, branched, truth_levels, all_outputs, relation_at}
use Rattle.cf_form.specs.Expansion.{Calls}
use Rattle.cf_form.specs.Formed.{comparisons, chain_body, pick, picked_from, best_body, how_many, as_number, branching, given_out, all_given_out, one_or_tuple, has_truths, are_as_chosen, choose_form, binary_formed, formed, all_formed, arms_formed}
use Rattle.cf_form.specs.SourceChooses.{SourceChoose, chooses_in, chooses_in_all, chooses_in_arms}
use Rattle.cf_form.proofs.ExpansionTypes.{HaveLevels, levels_all, levels_behind}
use Rattle.cf_form.proofs.ChooseForms.{truths_by}
use Rattle.cf_form.proofs.Halves.{halves_hold}
use Rattle.cf_form.proofs.Lists.{rec_left, rec_right}
use Rattle.cf_form.proofs.OrdinaryLaws.{choose_expr, parts_have, several_have}

level_early : (scope more : List Base) (x : ℕ) (b : Base) → slice_get scope x ≡ Some b → slice_get (scope ++ more) x ≡ Some b
level_early [] more x b e = cc
level_early (c ∷ scope) more zero b e = e
level_early (c ∷ scope) more (suc x) b e = level_early scope more x b e

levels_early : (scope more : List Base) (x : ℕ) (bs : List Base) → HaveLevels scope x bs → HaveLevels (scope ++ more) x bs
levels_early scope more x [] h = tt
levels_early scope more x (b ∷ bs) h = (level_early scope more x b h.0, levels_early scope more (suc x) bs h.1)

level_end : (scope : List Base) (b : Base) → slice_get (scope ++ b ∷ []) (length scope) ≡ Some b
level_end [] b = refl
level_end (c ∷ scope) b = level_end scope b

levels_part : (scope : List Base) (x : ℕ) (bs more : List Base) → HaveLevels scope x (bs ++ more) → HaveLevels scope x bs
levels_part scope x [] more h = tt
levels_part scope x (b ∷ bs) more h = (h.0, levels_part scope (suc x) bs more h.1)

turned_sides : (b : Option Base) (A B C D : Base → Type 0) → ((c : Base) → A c → C c) → ((c : Base) → B c → D c) → AreSides b A B → AreSides b C D
turned_sides (Some b) A B C D f g h = (f b h.0, g b h.1)
turned_sides None A B C D f g h = (h.0, f h.0 h.1, g h.0 h.2)

-- what the levels of truth variables are
levels_truths : (test : ℕ → Bool) (scope : List Base) (k : ℕ) (bs : List Base) → HaveLevels scope k bs →
    AllByRecursion (λ x. slice_get scope x ≡ Some Truth) (filter test (truth_levels k bs))
levels_truths test scope k [] h = tt
levels_truths test scope k (Int ∷ bs) h = levels_truths test scope (suc k) bs h.1
levels_truths test scope k (Set ∷ bs) h = levels_truths test scope (suc k) bs h.1
levels_truths test scope k (Truth ∷ bs) h = by (test k) (levels_truths test scope (suc k) bs h.1)
  where
    by : (b : Bool) → AllByRecursion (λ x. slice_get scope x ≡ Some Truth) (filter test (truth_levels (suc k) bs)) →
        AllByRecursion (λ x. slice_get scope x ≡ Some Truth) (cond b (k ∷ filter test (truth_levels (suc k) bs)) (filter test (truth_levels (suc k) bs)))
    by true rest = (h.0, rest)
    by false rest = rest

pub outputs_typed : (bs : List Base) → All IsOutput (map as_number bs)
outputs_typed [] = All-nil IsOutput
outputs_typed (Int ∷ bs) = All-cons IsOutput Int (map as_number bs) tt (outputs_typed bs)
outputs_typed (Truth ∷ bs) = All-cons IsOutput Int (map as_number bs) tt (outputs_typed bs)
outputs_typed (Set ∷ bs) = All-cons IsOutput Set (map as_number bs) tt (outputs_typed bs)

no_truths_same : (bs : List Base) → has_truths bs ≡ false → map as_number bs ≡ bs
no_truths_same [] e = refl
no_truths_same (Int ∷ bs) e = ap (λ cs. Int ∷ cs) (no_truths_same bs e)
no_truths_same (Truth ∷ bs) e = cc
no_truths_same (Set ∷ bs) e = ap (λ cs. Set ∷ cs) (no_truths_same bs e)

as_chosen_same : (outputs hidden : List Base) → are_as_chosen outputs hidden ≡ true → map as_number (outputs ++ hidden) ≡ outputs
as_chosen_same outputs [] e = ap (map as_number) (append-nil outputs) ∙ no_truths_same outputs (truths_by (has_truths outputs) e)
as_chosen_same outputs (b ∷ hidden) e = cc

module _ (linear : LinearBehind) (after : ℕ → List Base → List Base → Type 0) where
  abbrev Has : ExprTree → List Base → List Base → Type 0
  Has = ExprHasBasesBy linear after

  var_has : (scope : List Base) (x : ℕ) (b : Base) → slice_get scope x ≡ Some b → Has (expr_var x) scope (b ∷ [])
  var_has scope x b e = (b, e, refl)

  compare_has : (o : Order) (scope : List Base) (x y : ℕ) → slice_get scope x ≡ Some Int → slice_get scope y ≡ Some Int →
      Has (expr_binary (Compare o) (expr_var x) (expr_var y)) scope (Truth ∷ [])
  compare_has Eq scope x y e f = ((Int, var_has scope x Int e, var_has scope y Int f), refl)
  compare_has Ne scope x y e f = ((Int, var_has scope x Int e, var_has scope y Int f), refl)
  compare_has Lt scope x y e f = ((var_has scope x Int e, var_has scope y Int f), refl)
  compare_has Le scope x y e f = ((var_has scope x Int e, var_has scope y Int f), refl)
  compare_has Gt scope x y e f = ((var_has scope x Int e, var_has scope y Int f), refl)
  compare_has Ge scope x y e f = ((var_has scope x Int e, var_has scope y Int f), refl)

  -- ---- chains
  all_have : (scope : List Base) (x : ℕ) (orders : List Order) → HaveLevels scope x (Int ∷ map (λ _. Int) orders) →
      AllByRecursion (λ e. Has e scope (Truth ∷ [])) (comparisons x orders)
  all_have scope x [] h = tt
  all_have scope x (o ∷ orders) h = (compare_has o scope x (suc x) h.0 h.1.0, all_have scope (suc x) orders h.1)

  chain_has : (scope : List Base) (x : ℕ) (orders : List Order) → HaveLevels scope x (Int ∷ map (λ _. Int) orders) →
      Has (chain_body x orders) scope (Truth ∷ [])
  chain_has scope x orders h =
      halves_hold (expr_binary And) (expr_truth true) (λ es e. AllByRecursion (λ e. Has e scope (Truth ∷ [])) es → Has e scope (Truth ∷ [])) (λ k. refl)
      (λ e k. k.0)
      (λ ps qs a b f g k.
      ((f (rec_left (λ e. Has e scope (Truth ∷ [])) ps qs k), g (rec_right (λ e. Has e scope (Truth ∷ [])) ps qs k)), refl))
      (comparisons x orders) (all_have scope x orders h)

  -- ---- least and greatest
  pick_has : (o : Order) (scope : List Base) (x y : ℕ) → slice_get scope x ≡ Some Int → slice_get scope y ≡ Some Int → Has (pick o x y) scope (Int ∷ [])
  pick_has o scope x y e f = (compare_has o scope x y e f, var_has scope x Int e, var_has scope y Int f)

  picked_has : (o : Order) (more : ℕ) (scope : List Base) (x y z : ℕ) (rest : List (Unit {0})) → slice_get scope x ≡ Some Int →
      HaveLevels scope y (Int ∷ map (λ _. Int) rest) → length rest ≡ more → z ≡ length scope → Has (picked_from o x y z more) scope (Int ∷ [])
  picked_has o zero scope x y z rest e h l k = pick_has o scope x y e h.0
  picked_has o (suc more) scope x y z [] e h l k = absurd (omega (arith, l))
  picked_has o (suc more) scope x y z (r ∷ rest) e h l k = (
    Int ∷ [],
    pick_has o scope x y e h.0,
    refl,
    omega arith,
    picked_has o more (scope ++ Int ∷ []) z (suc y) (suc z) rest (rw k (level_end scope Int))
        (levels_early scope (Int ∷ []) (suc y) (Int ∷ map (λ _. Int) rest) h.1) (omega (arith, l)) (omega (arith, k, length-append scope (Int ∷ []))),
  )

  best_has : (o : Order) (scope : List Base) (parts : List (Unit {0})) (s k : ℕ) → 2 ≤ length parts → k ≡ length parts → s ≡ length scope →
      Has (best_body o s k) (scope ++ map (λ _. Int) parts) (Int ∷ [])
  best_has o scope [] s k m l e = absurd (omega (arith, m))
  best_has o scope (a ∷ []) s k m l e = absurd (omega (arith, m))
  best_has o scope (a ∷ b ∷ parts) s k m l e =
      let all = Int ∷ Int ∷ map (λ _. Int) parts in
      let h = levels_behind scope all in
      rw (l, e) (picked_has o (length (a ∷ b ∷ parts) - 2) (scope ++ all) (length scope) (suc (length scope)) (length scope + length (a ∷ b ∷ parts)) parts
      h.0 h.1 (omega arith) (omega (arith, length-append scope all, length-map parts (λ _. Int))))

  -- ---- what is given out
  given_out_has : (scope : List Base) (b : Base) (x : ℕ) → slice_get scope x ≡ Some (as_number b) → Has (given_out b x) scope (b ∷ [])
  given_out_has scope Int x e = var_has scope x Int e
  given_out_has scope Truth x e = ((var_has scope x Int e, (omega (arith, ints), refl)), refl)
  given_out_has scope Set x e = var_has scope x Set e

  all_given_have : (scope : List Base) (x : ℕ) (bs : List Base) → HaveLevels scope x (map as_number bs) →
      PartsHaveBy linear after (exprs_of (all_given_out x bs)) scope bs
  all_given_have scope x [] h = refl
  all_given_have scope x (b ∷ bs) h = (b, bs, refl, given_out_has scope b x h.0, all_given_have scope (suc x) bs h.1)

  tuple_has : (scope : List Base) (x : ℕ) (bs : List Base) → 1 ≤ length bs → HaveLevels scope x (map as_number bs) →
      Has (one_or_tuple (all_given_out x bs)) scope bs
  tuple_has scope x [] l h = absurd (omega (arith, l))
  tuple_has scope x (b ∷ []) l h = given_out_has scope b x h.0
  tuple_has scope x (b ∷ c ∷ bs) l h = (omega arith, all_given_have scope x (b ∷ c ∷ bs) h)

  -- ---- a choose
  module _ (q : WideChoose) (some : 1 ≤ length q.outputs)
      (branch_fits : (branch : Branch) → map (λ v. v.0) branch ≡ branched q →
      ExprHasBasesBy linear after (expr_choose q.number q.scope (map as_number (all_outputs q)) (relation_at q branch)) (bases_of q.scope)
      (map as_number (all_outputs q))) where
    keys_more : (branch : Branch) (x : ℕ) (t : Bool) (xs : List ℕ) → map (λ v. v.0) branch ++ x ∷ xs ≡ branched q →
        map (λ v. v.0) (branch ++ (x, t) ∷ []) ++ xs ≡ branched q
    keys_more branch x t xs e =
        ap (λ ys. ys ++ xs) (map-append (λ v. v.0) branch ((x, t) ∷ [])) ∙ append_assoc (map (λ v. v.0) branch) (x ∷ []) xs ∙ e

    branching_has : (xs : List ℕ) (branch : Branch) → map (λ v. v.0) branch ++ xs ≡ branched q →
        AllByRecursion (λ x. slice_get (bases_of q.scope) x ≡ Some Truth) xs →
        Has (branching q xs branch) (bases_of q.scope) (map as_number (all_outputs q))
    branching_has [] branch e h = branch_fits branch (sym (append-nil (map (λ v. v.0) branch)) ∙ e)
    branching_has (x ∷ xs) branch e h = (
      var_has (bases_of q.scope) x Truth h.0,
      branching_has xs (branch ++ (x, true) ∷ []) (keys_more branch x true xs e) h.1,
      branching_has xs (branch ++ (x, false) ∷ []) (keys_more branch x false xs e) h.1,
    )

    branches_have : Has (branching q (branched q) []) (bases_of q.scope) (map as_number (all_outputs q))
    branches_have =
        branching_has (branched q) [] refl (levels_truths _ (bases_of q.scope) 0 (bases_of q.scope) (levels_all (bases_of q.scope)))

    form_by : (b : Bool) → are_as_chosen q.outputs q.hidden ≡ b →
        Has (if b then branching q (branched q) []
        else expr_let (length (all_outputs q)) (branching q (branched q) []) (one_or_tuple (all_given_out (length q.scope) q.outputs))) (bases_of q.scope) q.outputs
    form_by true e = subst (λ bs. Has (branching q (branched q) []) (bases_of q.scope) bs) (as_chosen_same q.outputs q.hidden e) branches_have
    form_by false e = (
      map as_number (all_outputs q),
      branches_have,
      sym (length-map (all_outputs q) as_number),
      omega (arith, some, length-append q.outputs q.hidden),
      tuple_has (bases_of q.scope ++ map as_number (all_outputs q)) (length q.scope) q.outputs some
          (levels_part (bases_of q.scope ++ map as_number (all_outputs q)) (length q.scope) (map as_number q.outputs) (map as_number q.hidden)
          (subst (λ x. HaveLevels (bases_of q.scope ++ map as_number (all_outputs q)) x (map as_number q.outputs ++ map as_number q.hidden))
          (length-map q.scope (λ p. p.base))
          (subst (λ bs. HaveLevels (bases_of q.scope ++ map as_number (all_outputs q)) (length (bases_of q.scope)) bs)
          (map-append as_number q.outputs q.hidden)
          (levels_behind (bases_of q.scope) (map as_number (all_outputs q)))))),
    )

    pub form_has : Has (choose_form q) (bases_of q.scope) q.outputs
    form_has = form_by (are_as_chosen q.outputs q.hidden) refl

  -- ---- expressions
  binary_has : (op : BinOp) (p q : ExprTree) (scope : List Base) → AreSides (side_of op) (λ c. Has p scope (c ∷ [])) (λ c. Has q scope (c ∷ [])) →
      Has (binary_formed op p q) scope (result_of op ∷ [])
  binary_has Add p q scope h = (h, refl)
  binary_has Sub p q scope h = (h, refl)
  binary_has Mul p q scope h = (h, refl)
  binary_has And p q scope h = (h, refl)
  binary_has Or p q scope h = (h, refl)
  binary_has Implies p q scope h = (((h.0, refl), h.1), refl)
  binary_has Union p q scope h = (h, refl)
  binary_has Inter p q scope h = (h, refl)
  binary_has Diff p q scope h = (h, refl)
  binary_has Subset p q scope h = (h, refl)
  binary_has (Compare o) p q scope h = (h, refl)

  has_arms : (expand : Calls) (s : ℕ) (arms : MatchArmTrees) → HasArms arms → HasArms (arms_formed expand s arms)
  has_arms expand s no_match_arms h = h
  has_arms expand s (match_arm_more (match_arm m factors k body) arms) h = tt

  module _ (takes : ℕ → List Base → List Base → Type 0) (known : (f : ℕ) (ps rs : List Base) → takes f ps rs → after f ps rs) (expand : Calls)
      (good : SourceChoose → Type 0)
      (choose_has : (q : SourceChoose) → good q → (s : ℕ) (scope bs : List Base) → ExprHasBasesBy linear takes (choose_expr q) scope bs →
      ExprHasBasesBy linear after (formed expand s (choose_expr q)) scope bs) where
    bound : (es : ExprTrees) (k s : ℕ) (scope parts bs : List Base) (body : ExprTree) → 2 ≤ length parts → k ≡ length parts →
        PartsHaveBy linear after (all_formed expand s es) scope parts → Has body (scope ++ parts) bs →
        Has (expr_let k (expr_tuple (all_formed expand s es)) body) scope bs
    bound es k s scope parts bs body two e h b = (parts, (two, h), e, omega (arith, e, two), b)

    counted : (es : ExprTrees) (scope bs : List Base) → PartsHaveBy linear takes es scope bs → how_many es ≡ length bs
    counted no_exprs scope bs h = rw h refl
    counted (expr_more e es) scope bs h = rw h.2 (ap suc (counted es scope h.1 h.4))

    further : (s n : ℕ) (scope vs : List Base) → s ≡ length scope → n ≡ length vs → s + n ≡ length (scope ++ vs)
    further s n scope vs e k = omega (arith, e, k, length-append scope vs)

    best_formed : (o : Order) (es : ExprTrees) (s : ℕ) (scope bs : List Base) → AreSeveral es → AllHaveBy linear takes es scope Int → bs ≡ Int ∷ [] →
        s ≡ length scope →
        ((parts : List Base) → PartsHaveBy linear takes es scope parts → PartsHaveBy linear after (all_formed expand s es) scope parts) →
        Has (expr_let (how_many es) (expr_tuple (all_formed expand s es)) (best_body o s (how_many es))) scope bs
    best_formed o es s scope bs m h one l k =
        let parts = parts_have linear takes es scope h in
        let two = several_have es m in
        bound es (how_many es) s scope (map (λ _. Int) parts.0) bs (best_body o s (how_many es)) (omega (arith, two, parts.1, length-map parts.0 (λ _. Int)))
        (omega (arith, parts.1, length-map parts.0 (λ _. Int))) (k (map (λ _. Int) parts.0) parts.2)
        (rw one (best_has o scope parts.0 s (how_many es) (omega (arith, two, parts.1)) (omega (arith, parts.1)) l))

    mutual
      pub formed_has : (e : ExprTree) (s : ℕ) (scope bs : List Base) → ExprHasBasesBy linear takes e scope bs → AllByRecursion good (chooses_in e) →
          s ≡ length scope → ExprHasBasesBy linear after (formed expand s e) scope bs
      formed_has (expr_lit k) s scope bs h g l = h
      formed_has (expr_truth t) s scope bs h g l = h
      formed_has (expr_var x) s scope bs h g l = h
      formed_has (expr_set_of es) s scope bs h g l = (all_formed_have es s scope Int h.0 g l, h.1)
      formed_has (expr_tuple es) s scope bs h g l = (h.0, parts_formed es s scope bs h.1 g l)
      formed_has (expr_neg a) s scope bs h g l = (formed_has a s scope (Int ∷ []) h.0 g l, h.1)
      formed_has (expr_not a) s scope bs h g l = (formed_has a s scope (Truth ∷ []) h.0 g l, h.1)
      formed_has (expr_abs a) s scope bs h g l = (formed_has a s scope (Int ∷ []) h.0 g l, h.1)
      formed_has (expr_binary op a b) s scope bs h g l =
          rw h.1 (binary_has op (formed expand s a) (formed expand s b) scope
          (turned_sides (side_of op) (λ c. ExprHasBasesBy linear takes a scope (c ∷ [])) (λ c. ExprHasBasesBy linear takes b scope (c ∷ []))
          (λ c. Has (formed expand s a) scope (c ∷ [])) (λ c. Has (formed expand s b) scope (c ∷ []))
          (λ c t. formed_has a s scope (c ∷ []) t (rec_left good (chooses_in a) (chooses_in b) g) l)
          (λ c t. formed_has b s scope (c ∷ []) t (rec_right good (chooses_in a) (chooses_in b) g) l) h.0))
      formed_has (expr_chain orders es) s scope bs h g l =
          let all = counted es scope (Int ∷ map (λ _. Int) orders) h.1 in
          bound es (how_many es) s scope (Int ∷ map (λ _. Int) orders) bs (chain_body s orders) (omega (arith, h.0, length-map orders (λ _. Int))) all
          (parts_formed es s scope (Int ∷ map (λ _. Int) orders) h.1 g l)
          (rw (h.2, l) (chain_has (scope ++ (Int ∷ map (λ _. Int) orders)) (length scope) orders (levels_behind scope (Int ∷ map (λ _. Int) orders))))
      formed_has (expr_min es) s scope bs h g l =
          best_formed Le es s scope bs h.0 h.1 h.2 l (λ parts t. parts_formed es s scope parts t g l)
      formed_has (expr_max es) s scope bs h g l =
          best_formed Ge es s scope bs h.0 h.1 h.2 l (λ parts t. parts_formed es s scope parts t g l)
      formed_has (expr_divides k a) s scope bs h g l = (h.0, formed_has a s scope (Int ∷ []) h.1 g l, h.2)
      formed_has (expr_div a k) s scope bs h g l = (h.0, formed_has a s scope (Int ∷ []) h.1 g l, h.2)
      formed_has (expr_mod a k) s scope bs h g l = (h.0, formed_has a s scope (Int ∷ []) h.1 g l, h.2)
      formed_has (expr_card a) s scope bs h g l = (formed_has a s scope (Set ∷ []) h.0 g l, h.1)
      formed_has (expr_if t a b) s scope bs h g l =
          let first = rec_left good (chooses_in t ++ chooses_in a) (chooses_in b) g in (
            formed_has t s scope (Truth ∷ []) h.0 (rec_left good (chooses_in t) (chooses_in a) first) l,
            formed_has a s scope bs h.1 (rec_right good (chooses_in t) (chooses_in a) first) l,
            formed_has b s scope bs h.2 (rec_right good (chooses_in t ++ chooses_in a) (chooses_in b) g) l,
          )
      formed_has (expr_call f es) s scope bs h g l = (h.0, known f h.0 bs h.1, parts_formed es s scope h.0 h.2 g l)
      formed_has (expr_let n a b) s scope bs h g l = (
        h.0,
        formed_has a s scope h.0 h.1 (rec_left good (chooses_in a) (chooses_in b) g) l,
        h.2,
        h.3,
        formed_has b (s + n) (scope ++ h.0) bs h.4 (rec_right good (chooses_in a) (chooses_in b) g) (further s n scope h.0 l h.2),
      )
      formed_has (expr_choose n params outputs rel) s scope bs h g l = h
      formed_has (expr_choose_where n params outputs hidden given rel aim) s scope bs h g l =
          choose_has (record { number = n; scope = params; outputs = outputs; hidden = hidden; given = given; relation = rel; aim = aim }) g.0 s scope bs h
      formed_has (expr_match n params a arms) s scope bs h g l = (
        h.0,
        formed_has a s scope (Int ∷ []) h.1 (rec_left good (chooses_in a) (chooses_in_arms arms) g) l,
        has_arms expand (suc s) arms h.2,
        arms_formed_have arms (suc s) (scope ++ Int ∷ []) bs h.3 (rec_right good (chooses_in a) (chooses_in_arms arms) g)
            (omega (arith, l, length-append scope (Int ∷ []))),
      )

      all_formed_have : (es : ExprTrees) (s : ℕ) (scope : List Base) (b : Base) → AllHaveBy linear takes es scope b → AllByRecursion good (chooses_in_all es) →
          s ≡ length scope → AllHaveBy linear after (all_formed expand s es) scope b
      all_formed_have no_exprs s scope b h g l = tt
      all_formed_have (expr_more e es) s scope b h g l = (
        formed_has e s scope (b ∷ []) h.0 (rec_left good (chooses_in e) (chooses_in_all es) g) l,
        all_formed_have es s scope b h.1 (rec_right good (chooses_in e) (chooses_in_all es) g) l,
      )

      parts_formed : (es : ExprTrees) (s : ℕ) (scope bs : List Base) → PartsHaveBy linear takes es scope bs → AllByRecursion good (chooses_in_all es) →
          s ≡ length scope → PartsHaveBy linear after (all_formed expand s es) scope bs
      parts_formed no_exprs s scope bs h g l = h
      parts_formed (expr_more e es) s scope bs h g l = (
        h.0,
        h.1,
        h.2,
        formed_has e s scope (h.0 ∷ []) h.3 (rec_left good (chooses_in e) (chooses_in_all es) g) l,
        parts_formed es s scope h.1 h.4 (rec_right good (chooses_in e) (chooses_in_all es) g) l,
      )

      arms_formed_have : (arms : MatchArmTrees) (s : ℕ) (scope bs : List Base) → ArmsHaveBy linear takes arms scope bs →
          AllByRecursion good (chooses_in_arms arms) → s ≡ length scope → ArmsHaveBy linear after (arms_formed expand s arms) scope bs
      arms_formed_have no_match_arms s scope bs h g l = tt
      arms_formed_have (match_arm_more (match_arm m factors k body) arms) s scope bs h g l = (
        h.0,
        h.1,
        h.2,
        formed_has body (s + length factors) (scope ++ map (λ _. Int) factors) bs h.3 (rec_left good (chooses_in body) (chooses_in_arms arms) g)
            (further s (length factors) scope (map (λ _. Int) factors) l (sym (length-map factors (λ _. Int)))),
        arms_formed_have arms s scope bs h.4 (rec_right good (chooses_in body) (chooses_in_arms arms) g) l,
      )
