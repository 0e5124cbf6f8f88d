-- The code of an expression passes the limit exactly where what is picked overflows, and else means what is picked.
use Rattle.std.proofs.Common.{◌≡◌, ℕ, zero, suc, ◌+◌, ◌<◌, ◌≤◌, ℤ, pos, neg_ℤ, ◌+ℤ◌, List, [], ◌∷◌, ◌++◌, length, map, Bool, true, false, cond, Option, Some, None, Contains, refl, sym, ap, ◌∙◌, subst, arith, max, append-nil, append_assoc, length-append}
use Rattle.std.specs.Prelude.{unsigned_abs, nat_le, if◌then◌else◌}
use Rattle.std.specs.Int.{int_max}
use Rattle.std.proofs.lemmas.Int.{ints}
use Rattle.std.proofs.lemmas.Bool.{leb-true, leb-false}
use Rattle.std.proofs.lemmas.List.Elements.{Contains-append_left, Contains-append_right}
use Rattle.cf_num.specs.Limit.{limit}
use Rattle.cf_tree.specs.declared.base.Base.{Base}
use Rattle.cf_tree.specs.declared.base.Base.TheVariants.{Int}
use Rattle.cf_tree.specs.declared.raw.BinOp.{BinOp}
use Rattle.cf_tree.specs.declared.raw.BinOp.TheVariants.{Add, Sub, Mul, And, Or, Union, Inter, Diff, Subset, Implies, Compare}
use Rattle.cf_tree.specs.Allowed.{operation}
use Rattle.cf_tree.specs.CodeTree.{CodeTree, code_var, code_neg, code_max, code_tuple}
use Rattle.cf_tree.specs.ExprTree.{ExprTree, expr_lit, expr_truth, expr_var, expr_set_of, expr_tuple, expr_neg, expr_not, expr_abs, expr_binary, expr_chain, expr_min, expr_max, expr_divides, expr_div, expr_mod, expr_card, expr_if, expr_call, expr_let, expr_choose, expr_choose_where, expr_match, ExprTrees, no_exprs, expr_more}
use Rattle.cf_tree.specs.Meaning.{Got, got, none_at, Path, then_peak, then_path, gives_only, meets, meets_value, path, all_path, set_path, outcome_of, means, peak, number_in, truth_in}
use Rattle.cf_tree.specs.Numbers.{absolute}
use Rattle.cf_tree.specs.Sets.{set_of, set_put}
use Rattle.cf_tree.specs.Values.{Value, number, truth, elements, Outcome, values, no_solution, number_of, value_at, first_of, HaveBases}
use Rattle.cf_linear.proofs.BoolLemmas.{on_bool}
use Rattle.cf_choose.proofs.ArmBuilderLemmas.{length_have}
use Rattle.cf_tree.specs.Params.{bases_of, names_of}
use Rattle.cf_program.proofs.PlainTypes.{ExprHasBases, AllHave, PartsHave}
use Rattle.cf_program.specs.Walk.{side_of}
use Rattle.cf_shift.specs.Meeting.{AreSmall}
use Rattle.cf_growth.specs.Overflowing.{then_picked, ordinary, picked_right, picked_in, picked_all}
use Rattle.cf_shift.proofs.MeetingLaws.{given_are_met, small_append}
use Rattle.cf_growth.proofs.PickLaws.{none_some, some_none, same_outcome, above}
use Rattle.cf_build.specs.Codes.{two, binary_code, joined_code, call_code, code_of, codes_of_all}
use Rattle.cf_tree.specs.ChooseTree.{ChooseTree}
use Rattle.cf_build.specs.Chooses.{chooses_in, chooses_in_all, solve_of}
use Rattle.cf_shift.specs.Shifted.{shifted}
use Rattle.cf_build.specs.Solves.{IsSolveOf}
use Rattle.cf_build.proofs.Plain.{IsPlain, ArePlain}
use Rattle.cf_build.proofs.Meanings.{Fine, put_all, put_all_is, joined_gives, sides_have, fine, all_fine}
use Rattle.cf_shift.proofs.ShiftedPaths.{shifted_path}
use Rattle.cf_build.proofs.Values.{Keeps, have_append, number_alone, from_zero, greater_is_absolute}

-- the pick overflows exactly where the path passes the limit, and else is its outcome
pub record IsPickedBy (p : Option Outcome) (q : Path (List Value)) : Type 0 where
  pub over : p ≡ None → limit < q.peak
  pub within : (o : Outcome) → p ≡ Some o → q.peak ≤ limit
  pub same : (o : Outcome) → p ≡ Some o → outcome_of q.gives ≡ o

most : (a b n : ℕ) → a ≤ n → b ≤ n → max a b ≤ n
most a b n h k = omega arith

first_most : (a b : ℕ) → a ≤ max a b
first_most a b = omega arith

second_most : (a b : ℕ) → b ≤ max a b
second_most a b = omega arith

less : (a b c : ℕ) → a ≤ b → b ≤ c → a ≤ c
less a b c h k = omega arith

zero_within : (n : ℕ) → 0 ≤ n
zero_within n = omega arith

got_of : (g : Got (List Value)) (vs : List Value) → outcome_of g ≡ values vs → g ≡ got vs
got_of (got xs) vs e = cc
got_of (none_at n) vs e = absurd (cc)

none_of : (g : Got (List Value)) (n : ℕ) → outcome_of g ≡ no_solution n → g ≡ none_at n
none_of (got xs) n e = absurd (cc)
none_of (none_at m) n e = cc

-- ---- one after another
then_by : (p : Option Outcome) (q : Path (List Value)) (go : List Value → Option Outcome) (then_go : List Value → Path (List Value)) → IsPickedBy p q →
    ((xs : List Value) → p ≡ Some (values xs) → q.gives ≡ got xs → q.peak ≤ limit → IsPickedBy (go xs) (then_go xs)) →
    IsPickedBy (then_picked p go) (then_path q then_go)
then_by None q go then_go h k =
    record { over = λ e. above limit q.peak _ (h.over refl) (by q.gives); within = λ o e. absurd (none_some o e); same = λ o e. absurd (none_some o e) }
  where
    by : (g : Got (List Value)) → q.peak ≤ then_peak q.peak g (λ x. (then_go x).peak)
    by (got x) = first_most q.peak (then_go x).peak
    by (none_at n) = omega arith
then_by (Some (values vs)) q go then_go h k =
    let w = h.within (values vs) refl in
    let g = got_of q.gives vs (h.same (values vs) refl) in
    let r = k vs refl g w in
    rw g (record {
      over = λ e. above limit (then_go vs).peak (max q.peak (then_go vs).peak) (r.over e) (second_most q.peak (then_go vs).peak);
      within = λ o e. most q.peak (then_go vs).peak limit w (r.within o e);
      same = λ o e. r.same o e;
    })
then_by (Some (no_solution n)) q go then_go h k =
    let w = h.within (no_solution n) refl in
    let g = none_of q.gives n (h.same (no_solution n) refl) in
    rw g (record { over = λ e. absurd (some_none (no_solution n) e); within = λ o e. w; same = λ o e. sym (same_outcome (no_solution n) o e) })

-- what is given at once
given_by : (v : Value) (p : ℕ) → p ≤ limit → IsPickedBy (Some (values (v ∷ []))) (record { gives = got (v ∷ []); peak = p })
given_by v p l = record {
  over = λ e. absurd (some_none (values (v ∷ [])) e);
  within = λ o e. l;
  same = λ o e. sym (same_outcome (values (v ∷ [])) o e);
}

meets_by : (z : ℤ) → IsPickedBy (ordinary (number z)) (meets z)
meets_by z = on_bool (nat_le (unsigned_abs z) limit)
    (λ t. rw t (given_by (number z) (unsigned_abs z) (leb-true (unsigned_abs z) limit t)))
    (λ t. rw t (record { over = λ e. leb-false (unsigned_abs z) limit t; within = λ o e. absurd (none_some o e); same = λ o e. absurd (none_some o e) }))

either_by : (b : Bool) (p r : Option Outcome) (q s : Path (List Value)) → IsPickedBy p q → IsPickedBy r s → IsPickedBy (if b then p else r) (cond b q s)
either_by true p r q s h k = record { over = h.over; within = h.within; same = h.same }
either_by false p r q s h k = record { over = k.over; within = k.within; same = k.same }

same_by : (p : Option Outcome) (q r : Path (List Value)) → q.gives ≡ r.gives → q.peak ≡ r.peak → IsPickedBy p q → IsPickedBy p r
same_by p q r g e h = record {
  over = λ n. subst (λ k. limit < k) e (h.over n);
  within = λ o n. subst (λ k. k ≤ limit) e (h.within o n);
  same = λ o n. ap outcome_of (sym g) ∙ h.same o n;
}

-- a number within the limit is met before
front_by : (p : Option Outcome) (q : Path (List Value)) (k : ℕ) → k ≤ limit → IsPickedBy p q → IsPickedBy p (record { gives = q.gives; peak = max k q.peak })
front_by p q k l h = record {
  over = λ n. above limit q.peak (max k q.peak) (h.over n) (second_most k q.peak);
  within = λ o n. most k q.peak limit l (h.within o n);
  same = h.same;
}

number_by : (z y : ℤ) (p : ℕ) → y ≡ z → p ≡ unsigned_abs z → IsPickedBy (ordinary (number z)) (record { gives = got (number y ∷ []); peak = p })
number_by z y p e k =
    same_by (ordinary (number z)) (meets z) (record { gives = got (number y ∷ []); peak = p }) (ap (λ x. got (number x ∷ [])) (sym e)) (sym k) (meets_by z)

truth_by : (b : Bool) → IsPickedBy (ordinary (truth b)) (gives_only (truth b ∷ []))
truth_by b = given_by (truth b) 0 (zero_within limit)

set_by : (zs : List ℤ) → IsPickedBy (ordinary (elements zs)) (gives_only (elements zs ∷ []))
set_by zs = given_by (elements zs) 0 (zero_within limit)

value_by : (v : Value) → unsigned_abs (number_of v) ≤ limit → IsPickedBy (Some (values (v ∷ []))) (meets_value v)
value_by (number z) l = given_by (number z) (unsigned_abs z) l
value_by (truth b) l = given_by (truth b) 0 (zero_within limit)
value_by (elements zs) l = given_by (elements zs) 0 (zero_within limit)

done_by : (done : List Value) → IsPickedBy (Some (values done)) (gives_only done)
done_by done = record {
  over = λ e. absurd (some_none (values done) e);
  within = λ o e. zero_within limit;
  same = λ o e. sym (same_outcome (values done) o e);
}

solve_by : (code : CodeTree) (env : List Value) → IsPickedBy (if nat_le (peak code env) limit then Some (means code env) else None) (path code env)
solve_by code env = on_bool (nat_le (peak code env) limit)
    (λ t. rw t (record {
      over = λ e. absurd (some_none (means code env) e);
      within = λ o e. leb-true (peak code env) limit t;
      same = λ o e. sym (same_outcome (means code env) o e);
    }))
    (λ t. rw t (record { over = λ e. leb-false (peak code env) limit t; within = λ o e. absurd (none_some o e); same = λ o e. absurd (none_some o e) }))

-- ---- numbers within the limit
small_at : (n : ℕ) (env : List Value) (x : ℕ) → AreSmall n env → unsigned_abs (number_of (value_at env x)) ≤ n
small_at n [] x s = zero_within n
small_at n (v ∷ env) zero s = s.0
small_at n (v ∷ env) (suc x) s = small_at n env x s.1

small_less : (m n : ℕ) → m ≤ n → (xs : List Value) → AreSmall m xs → AreSmall n xs
small_less m n l [] s = tt
small_less m n l (x ∷ xs) s = (less _ m n s.0 l, small_less m n l xs s.1)

all_small : (c : CodeTree) (env xs : List Value) → (path c env).gives ≡ got xs → (path c env).peak ≤ limit → AreSmall limit xs
all_small c env xs g l = small_less (path c env).peak limit l xs (given_are_met c env xs g)

first_small : (n : ℕ) (xs : List Value) → AreSmall n xs → unsigned_abs (number_in xs) ≤ n
first_small n [] s = omega arith
first_small n (x ∷ xs) s = s.0

given_within : (c : CodeTree) (env xs : List Value) → (path c env).gives ≡ got xs → (path c env).peak ≤ limit → unsigned_abs (number_in xs) ≤ limit
given_within c env xs g l = less _ _ limit (first_small (path c env).peak xs (given_are_met c env xs g)) l

-- what a code gives has the bases that its outcome keeps
kept : (bs : List Base) (g : Got (List Value)) (xs : List Value) → g ≡ got xs → Keeps bs (outcome_of g) → HaveBases bs xs
kept bs g xs e k = subst (λ h. Keeps bs (outcome_of h)) e k

-- values that are picked have these bases, and are within the limit
pub record AreFit (bs : List Base) (xs : List Value) : Type 0 where
  pub bases : HaveBases bs xs
  pub small : AreSmall limit xs

pub picked_fit : (p : Option Outcome) (c : CodeTree) (env : List Value) (bs : List Base) → IsPickedBy p (path c env) → Keeps bs (means c env) →
    (xs : List Value) → p ≡ Some (values xs) → AreFit bs xs
picked_fit p c env bs h k xs e =
    let g = got_of (path c env).gives xs (h.same (values xs) e) in
    record { bases = kept bs (path c env).gives xs g k; small = all_small c env xs g (h.within (values xs) e) }

-- ---- operations
module _ (p r : Option Outcome) (a b : CodeTree) (env : List Value) (h : IsPickedBy p (path a env)) (k : IsPickedBy r (path b env)) where
  sum_by : IsPickedBy (then_picked p (λ xs. then_picked r (λ ys. ordinary (operation Add (first_of xs) (first_of ys))))) (path (binary_code Add a b) env)
  sum_by = then_by p (path a env) _ _ h (λ xs e g l.
      let x = number_in xs in
      let z : pos 0 +ℤ x ≡ x = omega (arith, ints) in
      let s : unsigned_abs (pos 0 +ℤ x) ≤ limit = subst (λ y. unsigned_abs y ≤ limit) (sym z) (given_within a env xs g l) in
      front_by _ _ (unsigned_abs (pos 0 +ℤ x)) s
      (then_by r (path b env) _ _ k (λ ys e' g' l'.
      let y = number_in ys in
      let w : (pos 0 +ℤ x) +ℤ y ≡ x +ℤ y = from_zero x y in
      number_by (x +ℤ y) ((pos 0 +ℤ x) +ℤ y) (max (unsigned_abs ((pos 0 +ℤ x) +ℤ y)) 0) w (none_more _ _ (ap unsigned_abs w)))))
    where
      none_more : (m n : ℕ) → m ≡ n → max m 0 ≡ n
      none_more m n e = omega arith

  right_by : (op : BinOp) → IsPickedBy (then_picked p (λ xs. picked_right op (first_of xs) r)) (path (binary_code op a b) env)
  right_by Add = sum_by
  right_by Sub = then_by p (path a env) _ _ h (λ xs e g l. then_by r (path b env) _ _ k (λ ys e' g' l'. meets_by _))
  right_by Mul = then_by p (path a env) _ _ h (λ xs e g l. then_by r (path b env) _ _ k (λ ys e' g' l'. meets_by _))
  right_by And =
      then_by p (path a env) _ _ h (λ xs e g l.
      either_by (truth_in xs) r (Some (values (truth false ∷ []))) (path b env) (gives_only (truth false ∷ [])) k (truth_by false))
  right_by Or =
      then_by p (path a env) _ _ h (λ xs e g l.
      either_by (truth_in xs) (Some (values (truth true ∷ []))) r (gives_only (truth true ∷ [])) (path b env) (truth_by true) k)
  right_by Union = then_by p (path a env) _ _ h (λ xs e g l. then_by r (path b env) _ _ k (λ ys e' g' l'. set_by _))
  right_by Inter = then_by p (path a env) _ _ h (λ xs e g l. then_by r (path b env) _ _ k (λ ys e' g' l'. set_by _))
  right_by Diff = then_by p (path a env) _ _ h (λ xs e g l. then_by r (path b env) _ _ k (λ ys e' g' l'. set_by _))
  right_by Subset = then_by p (path a env) _ _ h (λ xs e g l. then_by r (path b env) _ _ k (λ ys e' g' l'. truth_by _))
  right_by Implies =
      then_by p (path a env) _ _ h (λ xs e g l.
      either_by (truth_in xs) r (Some (values (truth true ∷ []))) (path b env) (gives_only (truth true ∷ [])) k (truth_by true))
  right_by (Compare order) = then_by p (path a env) _ _ h (λ xs e g l. then_by r (path b env) _ _ k (λ ys e' g' l'. truth_by _))

-- ---- the absolute value
first_at : (env xs : List Value) (n : ℕ) → n ≡ length env → value_at (env ++ xs) n ≡ first_of xs
first_at [] [] n e = refl
first_at [] (x ∷ xs) n e = rw e refl
first_at (v ∷ env) xs n e = rw e (first_at env xs (length env) refl)

absolute_by : (n : ℕ) (env : List Value) (v : Value) → value_at env n ≡ v →
    IsPickedBy (ordinary (number (absolute (number_of v)))) (path (code_max (two (code_var n) (code_neg (code_var n)))) env)
absolute_by n env (number z) e =
    rw e (number_by (absolute z) (int_max z (neg_ℤ z)) _ (greater_is_absolute z)
    (sizes (unsigned_abs z) (unsigned_abs (neg_ℤ z)) _ (omega (arith, ints)) (ap unsigned_abs (greater_is_absolute z))))
  where
    sizes : (a b c : ℕ) → b ≡ a → c ≡ a → max a (max (max a b) c) ≡ a
    sizes a b c h k = omega arith
absolute_by n env (truth b) e = rw e (number_by (pos 0) (pos 0) _ refl refl)
absolute_by n env (elements zs) e = rw e (number_by (pos 0) (pos 0) _ refl refl)

-- ---- lists of parts
-- the values of all parts, behind those before
from_parts : (done : List Value) (p q : Option Outcome) →
    then_picked (then_picked p (λ xs. then_picked q (λ ys. Some (values (xs ++ ys))))) (λ zs. Some (values (done ++ zs)))
    ≡ then_picked p (λ xs. then_picked q (λ ys. Some (values ((done ++ xs) ++ ys))))
from_parts done None q = refl
from_parts done (Some (values xs)) None = refl
from_parts done (Some (values xs)) (Some (values ys)) = ap (λ zs. Some (values zs)) (sym (append_assoc done xs ys))
from_parts done (Some (values xs)) (Some (no_solution n)) = refl
from_parts done (Some (no_solution n)) q = refl

behind_none : (p : Option Outcome) → then_picked p (λ zs. Some (values ([] ++ zs))) ≡ p
behind_none None = refl
behind_none (Some (values zs)) = refl
behind_none (Some (no_solution n)) = refl

alone : (p : Option Outcome) → p ≡ then_picked p (λ xs. Some (values (xs ++ [])))
alone None = refl
alone (Some (values xs)) = ap (λ ys. Some (values ys)) (sym (append-nil xs))
alone (Some (no_solution n)) = refl

-- the set of the numbers of these values and of what is done
abbrev put_in : List ℤ → List Value → Option Outcome
put_in done zs = Some (values (elements (put_all (map number_of zs) done) ∷ []))

from_sets : (done : List ℤ) (p q : Option Outcome) →
    then_picked (then_picked p (λ xs. then_picked q (λ ys. Some (values (xs ++ ys))))) (put_in done) ≡ then_picked p
    (λ xs. then_picked q (λ ys. put_in done (xs ++ ys)))
from_sets done None q = refl
from_sets done (Some (values xs)) None = refl
from_sets done (Some (values xs)) (Some (values ys)) = refl
from_sets done (Some (values xs)) (Some (no_solution n)) = refl
from_sets done (Some (no_solution n)) q = refl

as_set : (p : Option Outcome) → then_picked p (put_in []) ≡ then_picked p (λ xs. Some (values (elements (set_of (map number_of xs)) ∷ [])))
as_set None = refl
as_set (Some (values xs)) = ap (λ zs. Some (values (elements zs ∷ []))) (put_all_is (map number_of xs))
as_set (Some (no_solution n)) = refl

-- one value of a part, and then the others
one_value : (v : Value) (xs : List Value) (q : Option Outcome) (r : List ℤ → Path (List Value)) (done : List ℤ) → xs ≡ v ∷ [] →
    IsPickedBy (then_picked q (put_in (set_put (number_in xs) done))) (r (set_put (number_in xs) done)) →
    IsPickedBy (then_picked q (λ ys. put_in done (xs ++ ys))) (r (set_put (number_in xs) done))
one_value v xs q r done e h =
    subst (λ (zs : List Value). IsPickedBy (then_picked q (put_in (set_put (number_in zs) done))) (r (set_put (number_in zs) done)) →
    IsPickedBy (then_picked q (λ ys. put_in done (zs ++ ys))) (r (set_put (number_in zs) done)))
    (sym e) (λ k. k) h

-- ---- expressions
-- an environment of a scope, with numbers within the limit, at the level behind it
pub record Around (scope : List Base) (env : List Value) (n : ℕ) : Type 0 where
  pub bases : HaveBases scope env
  pub small : AreSmall limit env
  pub level : n ≡ length scope

pub behind : (scope bs : List Base) (env xs : List Value) (n m : ℕ) → Around scope env n → AreFit bs xs → m ≡ length bs →
    Around (scope ++ bs) (env ++ xs) (n + m)
behind scope bs env xs n m a f e = record {
  bases = have_append scope bs env xs a.bases f.bases;
  small = small_append limit env xs a.small f.small;
  level = let l = a.level in omega (arith, l, e, length-append scope bs);
}

at_end : (scope : List Base) (env : List Value) (n : ℕ) → Around scope env n → n ≡ length env
at_end scope env n a = a.level ∙ sym (length_have scope env a.bases)

module _ (calls : ℕ → CodeTree) (solves : ChooseTree → CodeTree) (takes : ℕ → List Base → List Base → Type 0) (allows : ℕ → List Value → Outcome → Type 0)
    (picks : ℕ → List Value → Option Outcome)
    (calls_fine : (f : ℕ) (ps rs : List Base) → takes f ps rs → (xs : List Value) → HaveBases ps xs → Fine (allows f xs) rs (calls f) xs)
    (calls_picked : (f : ℕ) (ps rs : List Base) → takes f ps rs → (xs : List Value) → AreFit ps xs → IsPickedBy (picks f xs) (path (calls f) xs)) where
  abbrev EachSolved : List ChooseTree → Type 0
  EachSolved qs = (q : ChooseTree) → Contains qs q → IsSolveOf q (solves q)

  -- what a part gives fits its bases
  part_fit : (e : ExprTree) → IsPlain e → EachSolved (chooses_in e) → (scope bs : List Base) → ExprHasBases takes e scope bs → (env : List Value) (n : ℕ) →
      Around scope env n →
      (xs : List Value) → (path (code_of calls solves n e) env).gives ≡ got xs → (path (code_of calls solves n e) env).peak ≤ limit → AreFit bs xs
  part_fit e p s scope bs h env n a xs g l = record {
    bases = kept bs (path (code_of calls solves n e) env).gives xs g (fine calls solves takes allows calls_fine e p s scope bs h env a.bases n a.level).1;
    small = all_small (code_of calls solves n e) env xs g l;
  }

  -- what all parts give keeps their bases
  pub parts_keep : (es : ExprTrees) → ArePlain es → EachSolved (chooses_in_all es) → (scope bs : List Base) → PartsHave takes es scope bs →
      (env : List Value) (n : ℕ) → Around scope env n →
      Keeps bs (means (code_tuple (codes_of_all calls solves n es)) env)
  parts_keep es p s scope bs h env n a = (all_fine calls solves takes allows calls_fine es p s scope bs h env a.bases n a.level [] [] tt).1

  -- a called body behind the environment
  body_by : (f n : ℕ) (ps rs : List Base) (env xs : List Value) → n ≡ length env → takes f ps rs → AreFit ps xs →
      IsPickedBy (picks f xs) (path (shifted n (calls f)) (env ++ xs))
  body_by f n ps rs env xs e t a =
      rw e (subst (λ q. IsPickedBy (picks f xs) q) (sym (shifted_path env xs (calls f))) (calls_picked f ps rs t xs a))

  -- the values of one part, and then of the others
  more_by : (e : ExprTree) (es : ExprTrees) (n : ℕ) (env done : List Value) → IsPickedBy (picked_in picks e env) (path (code_of calls solves n e) env) →
      ((ds : List Value) →
      IsPickedBy (then_picked (picked_all picks es env) (λ zs. Some (values (ds ++ zs)))) (all_path (codes_of_all calls solves n es) env ds)) →
      IsPickedBy (then_picked (picked_all picks (expr_more e es) env) (λ zs. Some (values (done ++ zs))))
      (all_path (codes_of_all calls solves n (expr_more e es)) env done)
  more_by e es n env done first rest =
      subst (λ o. IsPickedBy o (all_path (codes_of_all calls solves n (expr_more e es)) env done))
      (sym (from_parts done (picked_in picks e env) (picked_all picks es env)))
      (then_by (picked_in picks e env) (path (code_of calls solves n e) env) _ _ first (λ xs q g l. rest (done ++ xs)))

  as_tuple : (es : ExprTrees) (n : ℕ) (env : List Value) →
      IsPickedBy (then_picked (picked_all picks es env) (λ zs. Some (values ([] ++ zs)))) (all_path (codes_of_all calls solves n es) env []) →
      IsPickedBy (picked_all picks es env) (path (code_tuple (codes_of_all calls solves n es)) env)
  as_tuple es n env h = subst (λ o. IsPickedBy o (all_path (codes_of_all calls solves n es) env [])) (behind_none (picked_all picks es env)) h

  -- they stand alone or as a tuple
  joined_by : (e : ExprTree) (es : ExprTrees) (n : ℕ) (env : List Value) → IsPickedBy (picked_in picks e env) (path (code_of calls solves n e) env) →
      ((ds : List Value) →
      IsPickedBy (then_picked (picked_all picks es env) (λ zs. Some (values (ds ++ zs)))) (all_path (codes_of_all calls solves n es) env ds)) →
      IsPickedBy (picked_all picks (expr_more e es) env) (path (joined_code (codes_of_all calls solves n (expr_more e es))) env)
  joined_by e no_exprs n env first rest = subst (λ p. IsPickedBy p (path (code_of calls solves n e) env)) (alone (picked_in picks e env)) first
  joined_by e (expr_more d es) n env first rest = as_tuple (expr_more e (expr_more d es)) n env (more_by e (expr_more d es) n env [] first rest)

  -- a call without arguments is its body, and any other binds them
  call_by : (f : ℕ) (es : ExprTrees) (ps rs : List Base) (n : ℕ) (env : List Value) → n ≡ length env → takes f ps rs →
      Keeps ps (means (code_tuple (codes_of_all calls solves n es)) env) →
      IsPickedBy (picked_all picks es env) (path (joined_code (codes_of_all calls solves n es)) env) →
      IsPickedBy (then_picked (picked_all picks es env) (picks f)) (path (call_code n (codes_of_all calls solves n es) (shifted n (calls f))) env)
  call_by f no_exprs ps rs n env e t k all =
      subst (λ v. IsPickedBy (picks f []) (path (shifted n (calls f)) v)) (append-nil env) (body_by f n ps rs env [] e t (record { bases = k; small = tt }))
  call_by f (expr_more a es) ps rs n env e t k all =
      let cs = codes_of_all calls solves n (expr_more a es) in
      then_by (picked_all picks (expr_more a es) env) (path (joined_code cs) env) (picks f) _ all (λ xs q g l.
      body_by f n ps rs env xs e t (record {
        bases = kept ps (all_path cs env []).gives xs (sym (joined_gives (code_of calls solves n a) (codes_of_all calls solves n es) env) ∙ g) k;
        small = all_small (joined_code cs) env xs g l;
      }))

  mutual
    pub picked_by : (e : ExprTree) → IsPlain e → EachSolved (chooses_in e) → (scope bs : List Base) → ExprHasBases takes e scope bs →
        (env : List Value) (n : ℕ) → Around scope env n →
        IsPickedBy (picked_in picks e env) (path (code_of calls solves n e) env)
    picked_by (expr_lit k) p s scope bs h env n a = given_by (number k) (unsigned_abs k) h.0
    picked_by (expr_truth t) p s scope bs h env n a = truth_by t
    picked_by (expr_var x) p s scope bs h env n a = value_by (value_at env x) (small_at limit env x a.small)
    picked_by (expr_set_of es) p s scope bs h env n a =
        subst (λ o. IsPickedBy o (set_path (codes_of_all calls solves n es) env [])) (as_set (picked_all picks es env)) (sets_by es p s scope h.0 env n a [])
    picked_by (expr_tuple es) p s scope bs h env n a = as_tuple es n env (all_by es p s scope bs h.1 env n a [])
    picked_by (expr_neg b) p s scope bs h env n a =
        then_by (picked_in picks b env) (path (code_of calls solves n b) env) _ _ (picked_by b p s scope _ h.0 env n a) (λ xs e g l. meets_by _)
    picked_by (expr_not b) p s scope bs h env n a =
        then_by (picked_in picks b env) (path (code_of calls solves n b) env) _ _ (picked_by b p s scope _ h.0 env n a) (λ xs e g l. truth_by _)
    picked_by (expr_abs b) p s scope bs h env n a =
        then_by (picked_in picks b env) (path (code_of calls solves n b) env) _ _ (picked_by b p s scope _ h.0 env n a)
        (λ xs e g l. absolute_by n (env ++ xs) (first_of xs) (first_at env xs n (at_end scope env n a)))
    picked_by (expr_binary op b c) p s scope bs h env n a =
        let t = sides_have (side_of op) (λ d. ExprHasBases takes b scope (d ∷ [])) (λ d. ExprHasBases takes c scope (d ∷ [])) h.0 in
        right_by (picked_in picks b env) (picked_in picks c env) (code_of calls solves n b) (code_of calls solves n c) env
        (picked_by b (p.0.0, p.1.1) (λ q m. s q (Contains-append_left (chooses_in b) (chooses_in c) q m)) scope (t.0 ∷ []) t.1 env n a)
        (picked_by c (p.0.1, p.1.2) (λ q m. s q (Contains-append_right (chooses_in b) (chooses_in c) q m)) scope (t.0 ∷ []) t.2 env n a) op
    picked_by (expr_chain orders es) p s scope bs h env n a = absurd p.1
    picked_by (expr_min es) p s scope bs h env n a = absurd p.1
    picked_by (expr_max es) p s scope bs h env n a = absurd p.1
    picked_by (expr_divides k b) p s scope bs h env n a =
        then_by (picked_in picks b env) (path (code_of calls solves n b) env) _ _ (picked_by b p s scope _ h.1 env n a) (λ xs e g l. truth_by _)
    picked_by (expr_div b k) p s scope bs h env n a =
        then_by (picked_in picks b env) (path (code_of calls solves n b) env) _ _ (picked_by b p s scope _ h.1 env n a) (λ xs e g l. meets_by _)
    picked_by (expr_mod b k) p s scope bs h env n a =
        then_by (picked_in picks b env) (path (code_of calls solves n b) env) _ _ (picked_by b p s scope _ h.1 env n a) (λ xs e g l. meets_by _)
    picked_by (expr_card b) p s scope bs h env n a =
        then_by (picked_in picks b env) (path (code_of calls solves n b) env) _ _ (picked_by b p s scope _ h.0 env n a) (λ xs e g l. meets_by _)
    picked_by (expr_if t b c) p s scope bs h env n a =
        then_by (picked_in picks t env) (path (code_of calls solves n t) env) _ _
        (picked_by t (p.0.0, p.1.0) (λ q m. s q
        (Contains-append_left (chooses_in t ++ chooses_in b) (chooses_in c) q (Contains-append_left (chooses_in t) (chooses_in b) q m))) scope _ h.0 env n a)
        (λ xs e g l.
        either_by (truth_in xs) (picked_in picks b env) (picked_in picks c env) (path (code_of calls solves n b) env) (path (code_of calls solves n c) env)
        (picked_by b (p.0.1, p.1.1) (λ q m. s q
        (Contains-append_left (chooses_in t ++ chooses_in b) (chooses_in c) q (Contains-append_right (chooses_in t) (chooses_in b) q m))) scope bs h.1 env n a)
        (picked_by c (p.0.2, p.1.2) (λ q m. s q (Contains-append_right (chooses_in t ++ chooses_in b) (chooses_in c) q m)) scope bs h.2 env n a))
    picked_by (expr_call f es) p s scope bs h env n a =
        call_by f es h.0 bs n env (at_end scope env n a) h.1 (parts_keep es p s scope h.0 h.2 env n a) (values_by es p s scope h.0 h.2 env n a)
    picked_by (expr_let m b c) p s scope bs h env n a =
        then_by (picked_in picks b env) (path (code_of calls solves n b) env) _ _
        (picked_by b (p.0.0, p.1.0) (λ q k. s q (Contains-append_left (chooses_in b) (chooses_in c) q k)) scope h.0 h.1 env n a)
        (λ xs e g l.
        let f = part_fit b (p.0.0, p.1.0) (λ q k. s q (Contains-append_left (chooses_in b) (chooses_in c) q k)) scope h.0 h.1 env n a xs g l in
        picked_by c (p.0.1, p.1.1) (λ q k. s q (Contains-append_right (chooses_in b) (chooses_in c) q k)) (scope ++ h.0) bs h.4 (env ++ xs) (n + m)
        (behind scope h.0 env xs n m a f h.2))
    picked_by (expr_choose m params outputs rel) p s scope bs h env n a =
        let q : ChooseTree = record { number = m; names = names_of params; scope = bases_of params; outputs = outputs; relation = rel } in
        subst (λ c. IsPickedBy (picked_in picks (expr_choose m params outputs rel) env) (path c env)) (sym (s q (0, omega arith, refl)).code)
        (solve_by (solve_of q) env)
    picked_by (expr_choose_where m params outputs hidden given rel aim) p s scope bs h env n a = absurd p.1
    picked_by (expr_match m params b arms) p s scope bs h env n a = absurd p.0

    all_by : (es : ExprTrees) → ArePlain es → EachSolved (chooses_in_all es) → (scope bs : List Base) → PartsHave takes es scope bs →
        (env : List Value) (n : ℕ) → Around scope env n → (done : List Value) →
        IsPickedBy (then_picked (picked_all picks es env) (λ zs. Some (values (done ++ zs)))) (all_path (codes_of_all calls solves n es) env done)
    all_by no_exprs p s scope bs h env n a done = rw append-nil (done_by done)
    all_by (expr_more e es) p s scope bs h env n a done =
        more_by e es n env done (picked_by e (p.0.0, p.1.0) (λ q m. s q (Contains-append_left (chooses_in e) (chooses_in_all es) q m)) scope
        (h.0 ∷ []) h.3 env n a)
        (λ ds. all_by es (p.0.1, p.1.1) (λ q m. s q (Contains-append_right (chooses_in e) (chooses_in_all es) q m)) scope h.1 h.4 env n a ds)

    values_by : (es : ExprTrees) → ArePlain es → EachSolved (chooses_in_all es) → (scope bs : List Base) → PartsHave takes es scope bs →
        (env : List Value) (n : ℕ) → Around scope env n →
        IsPickedBy (picked_all picks es env) (path (joined_code (codes_of_all calls solves n es)) env)
    values_by no_exprs p s scope bs h env n a = done_by []
    values_by (expr_more e es) p s scope bs h env n a =
        joined_by e es n env (picked_by e (p.0.0, p.1.0) (λ q m. s q (Contains-append_left (chooses_in e) (chooses_in_all es) q m)) scope
        (h.0 ∷ []) h.3 env n a)
        (λ ds. all_by es (p.0.1, p.1.1) (λ q m. s q (Contains-append_right (chooses_in e) (chooses_in_all es) q m)) scope h.1 h.4 env n a ds)

    sets_by : (es : ExprTrees) → ArePlain es → EachSolved (chooses_in_all es) → (scope : List Base) → AllHave takes es scope Int →
        (env : List Value) (n : ℕ) → Around scope env n → (done : List ℤ) →
        IsPickedBy (then_picked (picked_all picks es env) (put_in done)) (set_path (codes_of_all calls solves n es) env done)
    sets_by no_exprs p s scope h env n a done = set_by done
    sets_by (expr_more e es) p s scope h env n a done =
        subst (λ o. IsPickedBy o (set_path (codes_of_all calls solves n (expr_more e es)) env done))
        (sym (from_sets done (picked_in picks e env) (picked_all picks es env)))
        (then_by (picked_in picks e env) (path (code_of calls solves n e) env) _ _
        (picked_by e (p.0.0, p.1.0) (λ q m. s q (Contains-append_left (chooses_in e) (chooses_in_all es) q m)) scope (Int ∷ []) h.0 env n a)
        (λ xs q g l.
        let f = part_fit e (p.0.0, p.1.0) (λ q m. s q (Contains-append_left (chooses_in e) (chooses_in_all es) q m)) scope (Int ∷ []) h.0 env n a xs g l in
        let z = number_alone xs f.bases in
        one_value (number z.0) xs (picked_all picks es env) (λ zs. set_path (codes_of_all calls solves n es) env zs) done z.1
        (sets_by es (p.0.1, p.1.1) (λ q m. s q (Contains-append_right (chooses_in e) (chooses_in_all es) q m)) scope h.1 env n a
        (set_put (number_in xs) done))))

  -- the values that are picked for all parts fit their bases
  pub parts_fit : (es : ExprTrees) → ArePlain es → EachSolved (chooses_in_all es) → (scope bs : List Base) → PartsHave takes es scope bs →
      (env : List Value) (n : ℕ) → Around scope env n →
      (xs : List Value) → picked_all picks es env ≡ Some (values xs) → AreFit bs xs
  parts_fit es p s scope bs h env n a =
      picked_fit (picked_all picks es env) (code_tuple (codes_of_all calls solves n es)) env bs (as_tuple es n env (all_by es p s scope bs h env n a []))
      (parts_keep es p s scope bs h env n a)

  -- and those for one expression
  pub value_fit : (e : ExprTree) → IsPlain e → EachSolved (chooses_in e) → (scope bs : List Base) → ExprHasBases takes e scope bs →
      (env : List Value) (n : ℕ) →
      Around scope env n →
      (xs : List Value) → picked_in picks e env ≡ Some (values xs) → AreFit bs xs
  value_fit e p s scope bs h env n a =
      picked_fit (picked_in picks e env) (code_of calls solves n e) env bs (picked_by e p s scope bs h env n a)
      (fine calls solves takes allows calls_fine e p s scope bs h env a.bases n a.level).1
