-- The solutions of a choose of a source are those of its relation of language 2 in the branch of the environment.
use Rattle.std.specs.Prelude.{ℕ, zero, suc, ◌+◌, ◌<◌, ◌≤◌, ℤ, pos, ◌≤ℤ◌, ◌≡◌, ◌⊎◌, ◌↔◌, Bool, true, false, ◌&&◌, ◌||◌, Some, if◌then◌else◌, List, [], ◌∷◌, ◌++◌, length, map, filter, slice_get}
use Rattle.std.specs.Ordering.{int_eq}
use Rattle.std.proofs.Common.{refl, sym, ap, ◌∙◌, subst, arith, append_assoc, ap₂, inl, inr}
use Rattle.std.proofs.lemmas.Int.{ints}
use Rattle.std.proofs.lemmas.Bool.{and_parts}
use Rattle.std.proofs.lemmas.List.{length-map}
use Rattle.cf_tree.specs.declared.base.Base.{Base}
use Rattle.cf_tree.specs.declared.base.Base.TheVariants.{Int, Bool as Truth, Set}
use Rattle.cf_tree.specs.Allowed.{Choosing, Calling, AllowedBy, CallAllowedBy, IsTrueBy, GivenBy}
use Rattle.cf_tree.specs.DefView.{DefTree}
use Rattle.cf_tree.specs.ExprTree.{ExprTree, GivenExpr, holds_always, holds_where}
use Rattle.cf_tree.specs.OneOutcome.{AllowsOnly}
use Rattle.cf_tree.specs.Params.{bases_of}
use Rattle.cf_tree.specs.Relation.{Holds}
use Rattle.cf_tree.specs.RelTree.{RelTree}
use Rattle.cf_tree.specs.Typing.{one}
use Rattle.cf_tree.specs.Values.{Value, number, truth, elements, Outcome, values, number_of, truth_of, elements_of, value_at, HasBase, HaveBases}
use Rattle.cf_tree.proofs.SetLemmas.{on_bool, eq_is, eq_differs}
use Rattle.cf_program.specs.TypedProgram.{LinearBehind, Takes, ExprHasBasesBy, GivenIsTypedBy}
use Rattle.cf_form.specs.Branches.{Branch, branched, truth_levels, some_aim_has, values_in, in_branch, truth_bounds, is_among}
use Rattle.cf_form.specs.Expansion.{Part, truth_in, first_part, variables_from, Calls, expanded, call_expanded}
use Rattle.cf_form.specs.Formed.{as_number, given_of, with_given}
use Rattle.cf_form.specs.Laws.{bodies}
use Rattle.cf_form.specs.Polarity.{holding}
use Rattle.cf_form.specs.Relations.{MayStand, CallMayStand, GivenMayStand}
use Rattle.cf_form.specs.SourceChooses.{SourceChoose}
use Rattle.cf_form.specs.Wide.{WideRel, has_truth}
use Rattle.cf_form.proofs.ChooseLaw.{as_output, branch_of, IsChooseBehind, widely, SolvesSource, SolvesBranch, ChooseLaw}
use Rattle.cf_form.proofs.ExpansionLaws.{CallsExpand, one_of_parts, part_of_truth, expands, calls_expand}
use Rattle.cf_form.proofs.FoldLaws.{folded_keeps}
use Rattle.cf_form.proofs.HalfLaws.{HoldAll, all_joined, all_apart, all_holds}
use Rattle.cf_form.proofs.OverLaws.{rel_over}
use Rattle.cf_form.proofs.PolarityLaws.{TruthAgrees, agreeing, holding_says}
use Rattle.cf_form.proofs.SaidBy.{Says}
use Rattle.cf_form.proofs.ScopeLaws.{FoundAt, found_first, found_whole, found_last, value_found, variable_values, variables_over, has_base_at, have_joined, have_apart, same_number, level_there, level_not_there, among_kept, none_kept, value_there, no_value_there}
use Rattle.cf_form.proofs.WideMeaning.{wide_holds, part_value, VariableFacts, RelOver, PartsOver, in_scope}

-- ---- outputs as numbers
truth_output : (b : Bool) → HasBase Int (as_output (truth b))
truth_output true = (pos 1, refl)
truth_output false = (pos 0, refl)

has_output : (b : Base) (v : Value) → HasBase b v → HasBase (as_number b) (as_output v)
has_output Int v h = (h.0, ap as_output h.1)
has_output Truth v h = subst (λ w. HasBase Int (as_output w)) (sym h.1) (truth_output h.0)
has_output Set v h = (h.0, ap as_output h.1, h.2)

have_outputs : (bs : List Base) (vs : List Value) → HaveBases bs vs → HaveBases (map as_number bs) (map as_output vs)
have_outputs [] [] h = tt
have_outputs [] (v ∷ vs) h = absurd h
have_outputs (b ∷ bs) [] h = absurd h
have_outputs (b ∷ bs) (v ∷ vs) h = (has_output b v h.0, have_outputs bs vs h.1)

truth_number : (w : Value) (b : Bool) → w ≡ truth b → number_of (as_output w) ≡ (if truth_of w then pos 1 else pos 0)
truth_number w true e = rw e refl
truth_number w false e = rw e refl

zero_or_one : (b : Bool) → (pos 0 ≤ℤ (if b then pos 1 else pos 0)) × ((if b then pos 1 else pos 0) ≤ℤ pos 1)
zero_or_one true = (omega (arith, ints), omega (arith, ints))
zero_or_one false = (omega (arith, ints), omega (arith, ints))

within_bounds : (v w : Value) → HasBase Truth v → w ≡ as_output v → (pos 0 ≤ℤ number_of w) × (number_of w ≤ℤ pos 1)
within_bounds v w h e = rw (e, truth_number v h.0 h.1) (zero_or_one (truth_of v))

bounds_hold : (env : List Value) (x : ℕ) (bs : List Base) (vs : List Value) → HaveBases bs vs → FoundAt env x (map as_output vs)
    → HoldAll (truth_bounds x bs) env
bounds_hold env x [] [] h f = tt
bounds_hold env x [] (v ∷ vs) h f = absurd h
bounds_hold env x (b ∷ bs) [] h f = absurd h
bounds_hold env x (Int ∷ bs) (v ∷ vs) h f = bounds_hold env (suc x) bs vs h.1 f.1
bounds_hold env x (Truth ∷ bs) (v ∷ vs) h f =
    let p = within_bounds v (value_at env x) h.0 (value_found env x (as_output v) f.0) in (p.0, (p.1, bounds_hold env (suc x) bs vs h.1 f.1))
bounds_hold env x (Set ∷ bs) (v ∷ vs) h f = bounds_hold env (suc x) bs vs h.1 f.1

-- a number that is 0 or 1 comes from a truth value
truth_back : (y : Value) (z : ℤ) → y ≡ number z → pos 0 ≤ℤ z → z ≤ℤ pos 1 → (b : Bool) × (y ≡ as_output (truth b))
truth_back y z e l m =
    on_bool (int_eq z (pos 1)) (λ f. (true, e ∙ ap number (eq_is z (pos 1) f)))
    (λ f. let n = eq_differs z (pos 1) f in let zero_is : z ≡ pos 0 = omega (arith, ints) in (false, e ∙ ap number zero_is))

value_back : (env : List Value) (x : ℕ) (y : Value) → HasBase Int y → value_at env x ≡ y → pos 0 ≤ℤ number_of (value_at env x)
    → number_of (value_at env x) ≤ℤ pos 1 → (b : Bool) × (y ≡ as_output (truth b))
value_back env x y h e l m =
    let same : number_of (value_at env x) ≡ h.0 = ap number_of (e ∙ h.1) in
    truth_back y h.0 h.1 (subst (λ z. pos 0 ≤ℤ z) same l) (subst (λ z. z ≤ℤ pos 1) same m)

outputs_back : (env : List Value) (x : ℕ) (bs : List Base) (ys : List Value) → HaveBases (map as_number bs) ys → FoundAt env x ys
    → HoldAll (truth_bounds x bs) env → (vs : List Value) × HaveBases bs vs × (ys ≡ map as_output vs)
outputs_back env x [] [] h f g = ([], tt, refl)
outputs_back env x [] (y ∷ ys) h f g = absurd h
outputs_back env x (b ∷ bs) [] h f g = absurd h
outputs_back env x (Int ∷ bs) (y ∷ ys) h f g =
    let rest = outputs_back env (suc x) bs ys h.1 f.1 g in (number h.0.0 ∷ rest.0, ((h.0.0, refl), rest.1), ap₂ (λ w ws. w ∷ ws) h.0.1 rest.2)
outputs_back env x (Truth ∷ bs) (y ∷ ys) h f g =
    let rest = outputs_back env (suc x) bs ys h.1 f.1 g.1.1 in
    let first = value_back env x y h.0 (value_found env x y f.0) g.0 g.1.0 in
    (truth first.0 ∷ rest.0, ((first.0, refl), rest.1), ap₂ (λ w ws. w ∷ ws) first.1 rest.2)
outputs_back env x (Set ∷ bs) (y ∷ ys) h f g =
    let rest = outputs_back env (suc x) bs ys h.1 f.1 g in (elements h.0.0 ∷ rest.0, ((h.0.0, refl, h.0.2), rest.1), ap₂ (λ w ws. w ∷ ws) h.0.1 rest.2)

-- ---- variables of the source and of language 2
output_at : (vs : List Value) (x : ℕ) → value_at (map as_output vs) x ≡ as_output (value_at vs x)
output_at [] x = refl
output_at (v ∷ vs) zero = refl
output_at (v ∷ vs) (suc x) = output_at vs x

value_below : (env vs : List Value) (x : ℕ) → x < length env → value_at (env ++ vs) x ≡ value_at env x
value_below [] vs x l = absurd (omega arith)
value_below (v ∷ env) vs zero l = refl
value_below (v ∷ env) vs (suc x) l = value_below env vs x (omega arith)

value_behind : (env vs : List Value) (x : ℕ) → length env ≤ x → value_at (env ++ map as_output vs) x ≡ as_output (value_at (env ++ vs) x)
value_behind [] vs x l = output_at vs x
value_behind (v ∷ env) vs zero l = absurd (omega arith)
value_behind (v ∷ env) vs (suc x) l = value_behind env vs x (omega arith)

base_below : (scope bs : List Base) (x : ℕ) → x < length scope → slice_get (scope ++ bs) x ≡ slice_get scope x
base_below [] bs x l = absurd (omega arith)
base_below (b ∷ scope) bs zero l = refl
base_below (b ∷ scope) bs (suc x) l = base_below scope bs x (omega arith)

below_or_behind : (x n : ℕ) → (x < n) ⊎ (n ≤ x)
below_or_behind x n = grind arith

number_kept : (w : Value) (z : ℤ) → w ≡ number z → number_of (as_output w) ≡ number_of w
number_kept w z e = rw e refl

elements_kept : (w : Value) (zs : List ℤ) → w ≡ elements zs → elements_of (as_output w) ≡ elements_of w
elements_kept w zs e = rw e refl

module _ (scope outs : List Base) (env vs : List Value) (have : HaveBases scope env) (chosen : HaveBases outs vs) where
  whole_have : HaveBases (scope ++ outs) (env ++ vs)
  whole_have = have_joined scope outs env vs have chosen

  pub number_agrees : (x : ℕ) → slice_get (scope ++ outs) x ≡ Some Int → number_of (value_at (env ++ map as_output vs) x) ≡ number_of (value_at (env ++ vs) x)
  number_agrees x e =
      let is = has_base_at (scope ++ outs) (env ++ vs) x Int whole_have e in
      elim (below_or_behind x (length env)) as (λ _. number_of (value_at (env ++ map as_output vs) x) ≡ number_of (value_at (env ++ vs) x)) [
        | inl l ↦ ap number_of (value_below env (map as_output vs) x l ∙ sym (value_below env vs x l))
        | inr l ↦ ap number_of (value_behind env vs x l) ∙ number_kept (value_at (env ++ vs) x) is.0 is.1
      ]

  pub set_agrees : (x : ℕ) → slice_get (scope ++ outs) x ≡ Some Set → elements_of (value_at (env ++ map as_output vs) x) ≡ elements_of (value_at (env ++ vs) x)
  set_agrees x e =
      let is = has_base_at (scope ++ outs) (env ++ vs) x Set whole_have e in
      elim (below_or_behind x (length env)) as (λ _. elements_of (value_at (env ++ map as_output vs) x) ≡ elements_of (value_at (env ++ vs) x)) [
        | inl l ↦ ap elements_of (value_below env (map as_output vs) x l ∙ sym (value_below env vs x l))
        | inr l ↦ ap elements_of (value_behind env vs x l) ∙ elements_kept (value_at (env ++ vs) x) is.0 is.1
      ]

  -- of a truth variable of the scope the branch has the value, where it branches on it; that of an output is a number
  pub truth_agrees : (branches_on : ℕ → Bool) (x : ℕ) → branches_on x ≡ true → slice_get (scope ++ outs) x ≡ Some Truth
      → TruthAgrees (values_in (branch_of env (filter branches_on (truth_levels 0 scope))) x) (truth_of (value_at (env ++ vs) x))
      (value_at (env ++ map as_output vs) x)
  truth_agrees branches_on x on e =
      let same = same_number scope env have in
      let from_zero : 0 + x ≡ x = omega arith in
      elim (below_or_behind x (length env)) as (λ _. TruthAgrees (values_in (branch_of env (filter branches_on (truth_levels 0 scope))) x)
      (truth_of (value_at (env ++ vs) x)) (value_at (env ++ map as_output vs) x)) [
        | inl l ↦ (
            let is : slice_get scope x ≡ Some Truth = sym (base_below scope outs x (omega (arith, same))) ∙ e in
            let level = subst (λ y. is_among y (truth_levels 0 scope) ≡ true) from_zero (level_there 0 scope x is) in
            let there = among_kept branches_on x (truth_levels 0 scope) on level in
            rw (value_there env (filter branches_on (truth_levels 0 scope)) x there) (ap truth_of (sym (value_below env vs x l))))
        | inr l ↦ (
            let is = has_base_at (scope ++ outs) (env ++ vs) x Truth whole_have e in
            let none = none_kept branches_on x (truth_levels 0 scope) (level_not_there 0 scope x (omega (arith, same))) in
            rw (no_value_there env (filter branches_on (truth_levels 0 scope)) x none) (
            ap number_of (value_behind env vs x l) ∙ truth_number (value_at (env ++ vs) x) is.0 is.1))
      ]

-- ---- relations
-- a relation of the source holds where the wide one does
pub record IsWidely (P : Type 0) (v : VariableFacts) (env : List Value) (r : WideRel) : Type 0 where
  pub says : P ↔ (wide_holds r env ≡ true)
  pub over : RelOver v r

true_only : (A : Outcome → Type 0) (b : Bool) → AllowsOnly A (truth b ∷ []) → IsTrueBy A ↔ (b ≡ true)
true_only A true h = (λ _. refl, λ _. h.0)
true_only A false h = ((λ k. let e : values (truth true ∷ []) ≡ values (truth false ∷ []) = h.1 (values (truth true ∷ [])) k in cc), (λ e. cc))

both_are : (P Q : Type 0) (a b : Bool) → P ↔ (a ≡ true) → Q ↔ (b ≡ true) → (P × Q) ↔ ((a && b) ≡ true)
both_are P Q a b h k = ((λ x. rw (h.0 x.0, k.0 x.1) refl), (λ e. let p = and_parts a b e in (h.1 p.0, k.1 p.1)))

module _ (linear : LinearBehind) (chooses : Choosing) (calls : Calling) (parts : Calls) (takes : ℕ → List Base → List Base → Type 0) (good : ℕ → Type 0)
    (v : VariableFacts) (env : List Value) (known : CallsExpand calls parts takes good v env) where
  relation_widely : (e : ExprTree) (scope : List Base) (ps : List Part) (vs : List Value) → PartsOver v scope ps → map (part_value env) ps ≡ vs
      → ExprHasBasesBy linear takes e scope (one Truth) → MayStand good e
      → IsWidely (IsTrueBy (AllowedBy chooses calls e vs)) v env (truth_in (first_part (expanded parts ps e)))
  relation_widely e scope ps vs over is typed stands =
      let p = part_of_truth _ (one_of_parts Truth _ (expands linear chooses calls parts takes good v env known e scope ps over (one Truth) typed stands)) in
      record {
        says = true_only (AllowedBy chooses calls e vs) (wide_holds (truth_in (first_part (expanded parts ps e))) env)
            (subst (λ ws. AllowsOnly (AllowedBy chooses calls e ws) (truth (wide_holds (truth_in (first_part (expanded parts ps e))) env) ∷ [])) is p.0);
        over = p.1;
      }

  given_widely : (g : GivenExpr) (scope : List Base) (ps : List Part) (vs : List Value) → PartsOver v scope ps → map (part_value env) ps ≡ vs
      → GivenIsTypedBy linear takes g scope → GivenMayStand good g → (P : Type 0) (r : WideRel) → IsWidely P v env r
      → IsWidely (GivenBy chooses calls g vs × P) v env (with_given (given_of parts ps g) r)
  given_widely holds_always scope ps vs over is typed stands P r h =
      record { says = ((λ x. h.says.0 x.1), (λ e. (tt, h.says.1 e))); over = h.over }
  given_widely (holds_where p) scope ps vs over is typed stands P r h =
      let k = relation_widely p scope ps vs over is typed stands in
      record {
        says = both_are (IsTrueBy (AllowedBy chooses calls p vs)) P (wide_holds (truth_in (first_part (expanded parts ps p))) env) (wide_holds r env) k.says
            h.says;
        over = (k.over, h.over);
      }

-- a wide relation in a branch, folded or not
pub in_branch_keeps : (branch : Branch) (r : WideRel) (env : List Value) → Holds (in_branch branch r) env ↔ Holds (holding (values_in branch) r) env
in_branch_keeps [] r env = (λ h. h, λ h. h)
in_branch_keeps (x ∷ branch) r env = folded_keeps (holding (values_in (x ∷ branch)) r) env

said_true : (P : Type 0) (b : Bool) → Says P b → (b ≡ true) ↔ P
said_true P true h = (λ _. h, λ _. refl)
said_true P false h = ((λ e. cc), (λ p. absurd (h p)))

module _ (linear : LinearBehind) (chooses : Choosing) (earlier : List DefTree) (q : SourceChoose) (typed : IsChooseBehind linear earlier q) (env : List Value)
    (have : HaveBases (bases_of q.scope) env) where
  -- the branch of the environment
  abbrev here : Branch
  here = branch_of env (branched (widely earlier q))

  abbrev outs : List Base
  outs = q.outputs ++ q.hidden

  -- what is given and the relation hold where the relation of the branch does
  same_relation : (vs : List Value) → HaveBases outs vs
      → (GivenBy chooses (CallAllowedBy chooses (bodies earlier)) q.given env
      × IsTrueBy (AllowedBy chooses (CallAllowedBy chooses (bodies earlier)) q.relation (env ++ vs)))
      ↔ Holds (in_branch here (widely earlier q).relation) (env ++ map as_output vs)
  same_relation vs chosen =
      let scope = bases_of q.scope in
      let all = scope ++ q.outputs ++ q.hidden in
      let joined : all ≡ scope ++ outs = append_assoc scope q.outputs q.hidden in
      let calls = CallAllowedBy chooses (bodies earlier) in
      let parts = call_expanded (bodies earlier) in
      let source = env ++ vs in
      let new = env ++ map as_output vs in
      let have_all : HaveBases all source = subst (λ bs. HaveBases bs source) (sym joined) (have_joined scope outs env vs have chosen) in
      let known = calls_expand linear chooses earlier typed.functions (in_scope all) source in
      let relation = relation_widely linear chooses calls parts (Takes earlier) (CallMayStand (bodies earlier)) (in_scope all) source known q.relation all
      (variables_from 0 all) source (variables_over all 0 all (found_whole all)) (variable_values source 0 all source have_all (found_whole source))
      typed.relation typed.relation_stands in
      let inner : FoundAt all 0 scope = subst (λ bs. FoundAt bs 0 scope) (sym joined) (found_first scope outs) in
      let whole = given_widely linear chooses calls parts (Takes earlier) (CallMayStand (bodies earlier)) (in_scope all) source known q.given scope
      (variables_from 0 scope) env (variables_over all 0 scope inner) (variable_values source 0 scope env have (found_first env vs)) typed.given
      typed.given_stands (IsTrueBy (AllowedBy chooses calls q.relation source)) (truth_in (first_part (expanded parts (variables_from 0 all) q.relation)))
      relation in
      let wide = (widely earlier q).relation in
      let on : ℕ → Bool = λ x. has_truth x wide || some_aim_has x (widely earlier q).aims in
      let over = rel_over (in_scope all) (agreeing (values_in here) source new)
      (λ x e. number_agrees scope outs env vs have chosen x (subst (λ bs. slice_get bs x ≡ Some Int) joined e))
      (λ x e. set_agrees scope outs env vs have chosen x (subst (λ bs. slice_get bs x ≡ Some Set) joined e)) wide
      (λ x stands e. truth_agrees scope outs env vs have chosen on x (rw stands refl) (subst (λ bs. slice_get bs x ≡ Some Truth) joined e)) whole.over in
      let says = said_true (Holds (holding (values_in here) wide) new) (wide_holds wide source) (holding_says (values_in here) source new wide over) in
      let kept = in_branch_keeps here wide new in
      ((λ h. kept.1 (says.0 (whole.says.0 h))), (λ h. whole.says.1 (says.1 (kept.0 h))))

  abbrev bounds : List RelTree
  bounds = truth_bounds (length q.scope) outs

  found_outputs : (ys : List Value) → FoundAt (env ++ ys) (length q.scope) ys
  found_outputs ys =
      let same : length env ≡ length q.scope = same_number (bases_of q.scope) env have ∙ length-map q.scope (λ p. p.base) in
      subst (λ x. FoundAt (env ++ ys) x ys) same (found_last env ys)

  pub forth : (xs ks : List Value) → SolvesSource chooses earlier q env xs ks → SolvesBranch (widely earlier q) here env (map as_output (xs ++ ks))
  forth xs ks s =
      let chosen = have_joined q.outputs q.hidden xs ks s.0 s.1 in
      let new = env ++ map as_output (xs ++ ks) in (
        have_outputs outs (xs ++ ks) chosen,
        (all_holds (bounds ++ in_branch here (widely earlier q).relation ∷ []) new).1 (
            all_joined bounds (in_branch here (widely earlier q).relation ∷ []) new
            (bounds_hold new (length q.scope) outs (xs ++ ks) chosen (found_outputs (map as_output (xs ++ ks))))
            ((same_relation (xs ++ ks) chosen).0 (s.2, s.3), tt)),
      )

  pub back : (ys : List Value) → SolvesBranch (widely earlier q) here env ys
      → (xs : List Value) × (ks : List Value) × (ys ≡ map as_output (xs ++ ks)) × SolvesSource chooses earlier q env xs ks
  back ys s =
      let p = all_apart bounds (in_branch here (widely earlier q).relation ∷ []) (env ++ ys) (
      (all_holds (bounds ++ in_branch here (widely earlier q).relation ∷ []) (env ++ ys)).0 s.1) in
      let b = outputs_back (env ++ ys) (length q.scope) outs ys s.0 (found_outputs ys) p.0 in
      let a = have_apart q.outputs q.hidden b.0 b.1 in
      let solved = (same_relation b.0 b.1).1 (subst (λ zs. Holds (in_branch here (widely earlier q).relation) (env ++ zs)) b.2 p.1.0) in (
        a.0,
        a.1,
        b.2 ∙ ap (map as_output) a.2,
        (a.3, a.4, solved.0, subst (λ zs. IsTrueBy (AllowedBy chooses (CallAllowedBy chooses (bodies earlier)) q.relation (env ++ zs))) a.2 solved.1),
      )

pub choose_law : ChooseLaw
choose_law linear chooses earlier q typed env have =
    record { forth = forth linear chooses earlier q typed env have; back = back linear chooses earlier q typed env have }
