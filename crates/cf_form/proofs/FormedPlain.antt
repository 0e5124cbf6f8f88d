-- No new form stands in what an expression is formed to.
use Rattle.std.proofs.Common.{ℕ, zero, suc, ◌+◌, ◌-◌, Bool, true, false, List, [], ◌∷◌, ◌++◌, length, map, sym, subst}
use Rattle.std.specs.Prelude.{if◌then◌else◌}
use Rattle.std.specs.List.{AllByRecursion}
use Rattle.cf_tree.specs.declared.base.Base.{Base}
use Rattle.cf_tree.specs.declared.base.Base.TheVariants.{Int, Bool as Truth, Set}
use Rattle.cf_tree.specs.declared.base.Order.{Order}
use Rattle.cf_tree.specs.declared.base.Order.TheVariants.{Le, Ge}
use Rattle.cf_tree.specs.declared.raw.BinOp.{BinOp}
use Rattle.cf_tree.specs.declared.raw.BinOp.TheVariants.{Add, Sub, Mul, And, Or, Implies, Union, Inter, Diff, Subset, Compare}
use Rattle.cf_tree.specs.ExprTree.{ExprTree, expr_lit, expr_truth, expr_var, expr_set_of, expr_tuple, expr_neg, expr_not, expr_abs, expr_binary, expr_divides, expr_div, expr_mod, expr_card, expr_if, expr_call, expr_let, expr_choose, expr_match, expr_chain, expr_min, expr_max, expr_choose_where, ExprTrees, no_exprs, expr_more, exprs_of, match_arm, MatchArmTrees, no_match_arms, match_arm_more}
use Rattle.cf_tree.specs.Relation.{IsTyped}
use Rattle.cf_program.specs.NoForm.{IsNotImplies, HasNoForm, HaveNoForm, ArmsHaveNoForm}
use Rattle.cf_program.specs.TypedProgram.{LinearBehind, ExprHasBasesBy, AllHaveBy, PartsHaveBy, ArmsHaveBy}
use Rattle.cf_program.specs.Walk.{side_of}
use Rattle.cf_form.specs.Branches.{WideChoose, Branch, branched, all_outputs}
use Rattle.cf_form.specs.Expansion.{Calls}
use Rattle.cf_form.specs.Formed.{comparisons, chain_body, picked_from, how_many, branching, given_out, all_given_out, one_or_tuple, are_as_chosen, choose_form, choose_or_itself, wide_choose, binary_formed, formed, all_formed, arms_formed}
use Rattle.cf_form.specs.SourceChooses.{SourceChoose, chooses_in, chooses_in_all, chooses_in_arms}
use Rattle.cf_form.specs.Widened.{IsOldOperation, IsOfLanguageTwo, AreOfLanguageTwo, ArmsAreOfLanguageTwo}
use Rattle.cf_form.proofs.FormedNumbers.{IsUnaimed}
use Rattle.cf_form.proofs.Halves.{halves_hold}
use Rattle.cf_form.proofs.Lists.{rec_left, rec_right}
use Rattle.cf_form.proofs.OrdinaryLaws.{sides_have}

-- ---- what is made
plain_compared : (x : ℕ) (orders : List Order) → AllByRecursion HasNoForm (comparisons x orders)
plain_compared x [] = tt
plain_compared x (o ∷ orders) = ((tt, tt, tt), plain_compared (suc x) orders)

plain_chain : (x : ℕ) (orders : List Order) → HasNoForm (chain_body x orders)
plain_chain x orders =
    halves_hold (expr_binary And) (expr_truth true) (λ es e. AllByRecursion HasNoForm es → HasNoForm e) (λ h. tt) (λ e h. h.0)
    (λ ps qs a b g k h. (tt, g (rec_left HasNoForm ps qs h), k (rec_right HasNoForm ps qs h))) (comparisons x orders) (plain_compared x orders)

plain_picked : (o : Order) (x y z more : ℕ) → HasNoForm (picked_from o x y z more)
plain_picked o x y z zero = ((tt, tt, tt), tt, tt)
plain_picked o x y z (suc more) = (((tt, tt, tt), tt, tt), plain_picked o z (suc y) (suc z) more)

plain_binary : (op : BinOp) (p q : ExprTree) → HasNoForm p → HasNoForm q → HasNoForm (binary_formed op p q)
plain_binary Add p q h k = (tt, h, k)
plain_binary Sub p q h k = (tt, h, k)
plain_binary Mul p q h k = (tt, h, k)
plain_binary And p q h k = (tt, h, k)
plain_binary Or p q h k = (tt, h, k)
plain_binary Implies p q h k = (tt, h, k)
plain_binary Union p q h k = (tt, h, k)
plain_binary Inter p q h k = (tt, h, k)
plain_binary Diff p q h k = (tt, h, k)
plain_binary Subset p q h k = (tt, h, k)
plain_binary (Compare o) p q h k = (tt, h, k)

plain_given : (b : Base) (x : ℕ) → HasNoForm (given_out b x)
plain_given Int x = tt
plain_given Truth x = (tt, tt, tt)
plain_given Set x = tt

plain_all_given : (x : ℕ) (bs : List Base) → HaveNoForm (exprs_of (all_given_out x bs))
plain_all_given x [] = tt
plain_all_given x (b ∷ bs) = (plain_given b x, plain_all_given (suc x) bs)

plain_several : (x : ℕ) (bs : List Base) → HasNoForm (one_or_tuple (all_given_out x bs))
plain_several x [] = tt
plain_several x (b ∷ []) = plain_given b x
plain_several x (b ∷ c ∷ bs) = plain_all_given x (b ∷ c ∷ bs)

plain_branching : (q : WideChoose) (xs : List ℕ) (branch : Branch) → HasNoForm (branching q xs branch)
plain_branching q [] branch = tt
plain_branching q (x ∷ xs) branch = (tt, plain_branching q xs (branch ++ (x, true) ∷ []), plain_branching q xs (branch ++ (x, false) ∷ []))

plain_form : (q : WideChoose) (b : Bool) (k : ℕ) →
    HasNoForm (if b then branching q (branched q) [] else expr_let k (branching q (branched q) []) (one_or_tuple (all_given_out (length q.scope) q.outputs)))
plain_form q true k = plain_branching q (branched q) []
plain_form q false k = (plain_branching q (branched q) [], plain_several (length q.scope) q.outputs)

plain_choose : (expand : Calls) (q : SourceChoose) → IsUnaimed q →
    HasNoForm (choose_or_itself q.aim (choose_form (wide_choose expand q))
    (expr_choose_where q.number q.scope q.outputs q.hidden q.given q.relation q.aim))
plain_choose expand q e =
    subst (λ a.
    HasNoForm (choose_or_itself a (choose_form (wide_choose expand q)) (expr_choose_where q.number q.scope q.outputs q.hidden q.given q.relation q.aim)))
    (sym e) (plain_form (wide_choose expand q) (are_as_chosen q.outputs q.hidden) (length (all_outputs (wide_choose expand q))))

module _ (expand : Calls) where
  mutual
    pub plain : (e : ExprTree) (s : ℕ) → AllByRecursion IsUnaimed (chooses_in e) → HasNoForm (formed expand s e)
    plain (expr_lit k) s g = tt
    plain (expr_truth t) s g = tt
    plain (expr_var x) s g = tt
    plain (expr_set_of es) s g = all_plain es s g
    plain (expr_tuple es) s g = all_plain es s g
    plain (expr_neg a) s g = plain a s g
    plain (expr_not a) s g = plain a s g
    plain (expr_abs a) s g = plain a s g
    plain (expr_binary op a b) s g =
        plain_binary op (formed expand s a) (formed expand s b) (plain a s (rec_left IsUnaimed (chooses_in a) (chooses_in b) g))
        (plain b s (rec_right IsUnaimed (chooses_in a) (chooses_in b) g))
    plain (expr_chain orders es) s g = (all_plain es s g, plain_chain s orders)
    plain (expr_min es) s g = (all_plain es s g, plain_picked Le s (suc s) (s + how_many es) (how_many es - 2))
    plain (expr_max es) s g = (all_plain es s g, plain_picked Ge s (suc s) (s + how_many es) (how_many es - 2))
    plain (expr_divides k a) s g = plain a s g
    plain (expr_div a k) s g = plain a s g
    plain (expr_mod a k) s g = plain a s g
    plain (expr_card a) s g = plain a s g
    plain (expr_if t a b) s g =
        let first = rec_left IsUnaimed (chooses_in t ++ chooses_in a) (chooses_in b) g in (
          plain t s (rec_left IsUnaimed (chooses_in t) (chooses_in a) first),
          plain a s (rec_right IsUnaimed (chooses_in t) (chooses_in a) first),
          plain b s (rec_right IsUnaimed (chooses_in t ++ chooses_in a) (chooses_in b) g),
        )
    plain (expr_call f es) s g = all_plain es s g
    plain (expr_let n a b) s g =
        (plain a s (rec_left IsUnaimed (chooses_in a) (chooses_in b) g), plain b (s + n) (rec_right IsUnaimed (chooses_in a) (chooses_in b) g))
    plain (expr_choose n scope outputs rel) s g = tt
    plain (expr_choose_where n scope outputs hidden given rel aim) s g =
        plain_choose expand (record { number = n; scope = scope; outputs = outputs; hidden = hidden; given = given; relation = rel; aim = aim }) g.0
    plain (expr_match n scope a arms) s g =
        (plain a s (rec_left IsUnaimed (chooses_in a) (chooses_in_arms arms) g), arms_plain arms (suc s) (rec_right IsUnaimed (chooses_in a) (chooses_in_arms arms) g))

    all_plain : (es : ExprTrees) (s : ℕ) → AllByRecursion IsUnaimed (chooses_in_all es) → HaveNoForm (all_formed expand s es)
    all_plain no_exprs s g = tt
    all_plain (expr_more e es) s g =
        (plain e s (rec_left IsUnaimed (chooses_in e) (chooses_in_all es) g), all_plain es s (rec_right IsUnaimed (chooses_in e) (chooses_in_all es) g))

    arms_plain : (arms : MatchArmTrees) (s : ℕ) → AllByRecursion IsUnaimed (chooses_in_arms arms) → ArmsHaveNoForm (arms_formed expand s arms)
    arms_plain no_match_arms s g = tt
    arms_plain (match_arm_more (match_arm m factors k body) arms) s g = (
      plain body (s + length factors) (rec_left IsUnaimed (chooses_in body) (chooses_in_arms arms) g),
      arms_plain arms s (rec_right IsUnaimed (chooses_in body) (chooses_in_arms arms) g),
    )

-- ---- typed and without new forms
old_operation : (op : BinOp) → IsNotImplies op → IsOldOperation op
old_operation Add h = tt
old_operation Sub h = tt
old_operation Mul h = tt
old_operation And h = tt
old_operation Or h = tt
old_operation Implies h = absurd h
old_operation Union h = tt
old_operation Inter h = tt
old_operation Diff h = tt
old_operation Subset h = tt
old_operation (Compare o) h = tt

module _ (linear : LinearBehind) (takes : ℕ → List Base → List Base → Type 0) where
  mutual
    pub of_two : (e : ExprTree) (scope bs : List Base) → ExprHasBasesBy linear takes e scope bs → HasNoForm e → IsOfLanguageTwo e
    of_two (expr_lit k) scope bs h n = tt
    of_two (expr_truth t) scope bs h n = tt
    of_two (expr_var x) scope bs h n = tt
    of_two (expr_set_of es) scope bs h n = these_of_two es scope Int h.0 n
    of_two (expr_tuple es) scope bs h n = all_of_two es scope bs h.1 n
    of_two (expr_neg a) scope bs h n = of_two a scope (Int ∷ []) h.0 n
    of_two (expr_not a) scope bs h n = of_two a scope (Truth ∷ []) h.0 n
    of_two (expr_abs a) scope bs h n = of_two a scope (Int ∷ []) h.0 n
    of_two (expr_binary op a b) scope bs h n =
        let s = sides_have (side_of op) (λ c. ExprHasBasesBy linear takes a scope (c ∷ [])) (λ c. ExprHasBasesBy linear takes b scope (c ∷ [])) h.0 in
        (old_operation op n.0, of_two a scope (s.0 ∷ []) s.1 n.1, of_two b scope (s.0 ∷ []) s.2 n.2)
    of_two (expr_chain orders es) scope bs h n = absurd n
    of_two (expr_min es) scope bs h n = absurd n
    of_two (expr_max es) scope bs h n = absurd n
    of_two (expr_divides k a) scope bs h n = of_two a scope (Int ∷ []) h.1 n
    of_two (expr_div a k) scope bs h n = of_two a scope (Int ∷ []) h.1 n
    of_two (expr_mod a k) scope bs h n = of_two a scope (Int ∷ []) h.1 n
    of_two (expr_card a) scope bs h n = of_two a scope (Set ∷ []) h.0 n
    of_two (expr_if t a b) scope bs h n = (of_two t scope (Truth ∷ []) h.0 n.0, of_two a scope bs h.1 n.1, of_two b scope bs h.2 n.2)
    of_two (expr_call f es) scope bs h n = all_of_two es scope h.0 h.2 n
    of_two (expr_let m a b) scope bs h n = (of_two a scope h.0 h.1 n.0, of_two b (scope ++ h.0) bs h.4 n.1)
    of_two (expr_choose m params outputs rel) scope bs h n = (h.2, subst (λ own. IsTyped (own ++ outputs) rel) (sym h.0) h.3)
    of_two (expr_choose_where m params outputs hidden given rel aim) scope bs h n = absurd n
    of_two (expr_match m params a arms) scope bs h n = (of_two a scope (Int ∷ []) h.1 n.0, arms_of_two arms (scope ++ Int ∷ []) bs h.3 n.1)

    these_of_two : (es : ExprTrees) (scope : List Base) (b : Base) → AllHaveBy linear takes es scope b → HaveNoForm es → AreOfLanguageTwo es
    these_of_two no_exprs scope b h n = tt
    these_of_two (expr_more e es) scope b h n = (of_two e scope (b ∷ []) h.0 n.0, these_of_two es scope b h.1 n.1)

    all_of_two : (es : ExprTrees) (scope bs : List Base) → PartsHaveBy linear takes es scope bs → HaveNoForm es → AreOfLanguageTwo es
    all_of_two no_exprs scope bs h n = tt
    all_of_two (expr_more e es) scope bs h n = (of_two e scope (h.0 ∷ []) h.3 n.0, all_of_two es scope h.1 h.4 n.1)

    arms_of_two : (arms : MatchArmTrees) (scope bs : List Base) → ArmsHaveBy linear takes arms scope bs → ArmsHaveNoForm arms → ArmsAreOfLanguageTwo arms
    arms_of_two no_match_arms scope bs h n = tt
    arms_of_two (match_arm_more (match_arm m factors k body) arms) scope bs h n =
        (of_two body (scope ++ map (λ _. Int) factors) bs h.3 n.0, arms_of_two arms scope bs h.4 n.1)
