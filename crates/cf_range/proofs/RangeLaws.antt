-- The laws of ranges.
use Rattle.std.proofs.Common.{◌≡◌, ℕ, zero, suc, ℤ, pos, neg_ℤ, ◌+ℤ◌, ◌-ℤ◌, ◌*ℤ◌, Bool, true, false, not, ◌&&◌, List, [], ◌∷◌, ◌++◌, Option, Some, None, cond, length, map, refl, sym, subst, arith}
use Rattle.std.specs.Int.{int_min, int_max}
use Rattle.std.proofs.lemmas.Int.{ints}
use Rattle.cf_num.specs.Limit.{limit, IsWithin}
use Rattle.cf_tree.specs.CodeTree.{CodeTree, code_lit, code_truth, code_var, code_set_of, code_tuple, code_sum, code_sub, code_mul, code_neg, code_div, code_mod, code_min, code_max, code_compare, code_divides, code_and, code_or, code_not, code_union, code_inter, code_diff, code_subset, code_card, code_slice, code_fresh, code_if, code_let, code_solve, CodeTrees, no_codes, code_more}
use Rattle.cf_tree.specs.Meaning.{Got, got, none_at, Path, then_gives, path, all_path, set_path, sum_path, best_path, join_path, meets, meets_value, gives_truth, number_in, set_in, truth_in}
use Rattle.cf_tree.specs.Numbers.{quotient, remainder}
use Rattle.cf_tree.specs.Values.{Value, number, truth, elements, number_of, first_of, value_at, HasBase, HaveBases}
use Rattle.cf_tree.specs.declared.base.Base.{Base}
use Rattle.cf_tree.specs.declared.base.Base.TheVariants.{Int, Bool as Truth, Set}
use Rattle.cf_shift.specs.Meeting.{AreSmall}
use Rattle.cf_range.specs.declared.range.Range.{Range}
use Rattle.cf_range.specs.Ranges.{between, whole, LiesIn, IsSized, LieIn, IsHeld, AreHeld, param_range, range_at, either, plus, plus_all, plus_all_passes, better_of, best_of, best_after}
use Rattle.cf_range.specs.CodeRanges.{range_of, ranges_of, may_pass}
use Rattle.cf_range.specs.Settled.{gives_number}
use Rattle.cf_range.specs.Total.{is_total, are_total}
use Rattle.cf_range.specs.RangeLaws.{Fits, AllFit, ValuesLieInRanges, NeedNoChecks, TotalCodesEvaluate}
use Rattle.cf_shift.proofs.MeetingLaws.{path_own}
use Rattle.cf_range.proofs.GivenLaws.{number_given}
use Rattle.cf_range.proofs.NumberLemmas.{or_false, within_is, lies_exactly, zero_lies, sized_whole, sized_held, sized_rises, size_lies, sized_either, lies_whole, sum_lies, difference_lies, product_lies, sum_fits, difference_fits, product_fits, negation_fits, negation_lies, quotient_fits, quotient_lies, remainder_fits, remainder_lies, Chooses, least_chooses, greatest_chooses, better_lies}
use Rattle.cf_range.proofs.PathLemmas.{IsIn, then_in, only_in, meets_in, value_in, either_in, whole_in, then_fits, Does, only_does, then_does, either_does}
use Rattle.cf_range.proofs.RisenLaws.{Rises, AllRise, first_rises, path_rises}

pub lies_at : (rs : List Range) (env : List Value) (x : ℕ) → LieIn rs env → LiesIn (range_at rs x) (number_of (value_at env x))
lies_at [] [] x h = lies_whole (pos 0) (omega arith)
lies_at [] (v ∷ vs) x h = absurd h
lies_at (r ∷ rs) [] x h = absurd h
lies_at (r ∷ rs) (v ∷ vs) zero h = h.0
lies_at (r ∷ rs) (v ∷ vs) (suc x) h = lies_at rs vs x h.2

sized_at : (rs : List Range) (env : List Value) (x : ℕ) → LieIn rs env → IsSized (range_at rs x) (value_at env x)
sized_at [] [] x h = tt
sized_at [] (v ∷ vs) x h = absurd h
sized_at (r ∷ rs) [] x h = absurd h
sized_at (r ∷ rs) (v ∷ vs) zero h = h.1
sized_at (r ∷ rs) (v ∷ vs) (suc x) h = sized_at rs vs x h.2

pub lie_rises : (rs : List Range) (env : List Value) → LieIn rs env → AllRise env
lie_rises [] [] h = tt
lie_rises [] (v ∷ vs) h = absurd h
lie_rises (r ∷ rs) [] h = absurd h
lie_rises (r ∷ rs) (v ∷ vs) h = (sized_rises r v h.1, lie_rises rs vs h.2)

-- one value more, in one range more
pub lie_behind : (rs : List Range) (env : List Value) (r : Range) (v : Value) → LieIn rs env → LiesIn r (number_of v) →
    IsSized r v → LieIn (rs ++ r ∷ []) (env ++ v ∷ [])
lie_behind [] [] r v h k s = (k, s, tt)
lie_behind [] (w ∷ ws) r v h k s = absurd h
lie_behind (q ∷ qs) [] r v h k s = absurd h
lie_behind (q ∷ qs) (w ∷ ws) r v h k s = (h.0, h.1, lie_behind qs ws r v h.2 k s)

-- a set of a program is a rising list
base_rises : (b : Base) (v : Value) → HasBase b v → Rises v
base_rises Int v h = subst Rises (sym h.1) tt
base_rises Truth v h = subst Rises (sym h.1) tt
base_rises Set v h = subst Rises (sym h.1) h.2

none_lies : LiesIn (param_range Set) (pos 0)
none_lies = (omega arith, omega (arith, ints), omega (arith, ints))

param_lies : (b : Base) (v : Value) → HasBase b v → IsWithin (number_of v) → LiesIn (param_range b) (number_of v)
param_lies Int v h w = lies_whole (number_of v) w
param_lies Truth v h w = lies_whole (number_of v) w
param_lies Set v h w = subst (λ x. LiesIn (param_range Set) (number_of x)) (sym h.1) none_lies

param_sized : (b : Base) (v : Value) → Rises v → IsHeld v → IsSized (param_range b) v
param_sized Int v r h = sized_whole v r
param_sized Truth v r h = sized_whole v r
param_sized Set v r h = sized_held v r h

-- values of these bases, with sets that a machine holds, lie in what is known of parameters
pub params_lie : (bs : List Base) (vs : List Value) → HaveBases bs vs → AreSmall limit vs → AreHeld vs → LieIn (map param_range bs) vs
params_lie [] [] h s held = tt
params_lie [] (v ∷ vs) h s held = absurd h
params_lie (b ∷ bs) [] h s held = absurd h
params_lie (b ∷ bs) (v ∷ vs) h s held =
    (param_lies b v h.0 s.0, param_sized b v (base_rises b v h.0) held.0, params_lie bs vs h.1 s.1 held.1)

-- ---- sizes of the sets that codes give
stop_not : {A : Type 0} (k : ℕ) (x : A) → none_at k ≡ got x → ⊥
stop_not k x e = cc

same_got : {A : Type 0} (x y : A) → got x ≡ got y → x ≡ y
same_got x y e = cc

abbrev pub GivesSized : Range → Got (List Value) → Type 0
GivesSized r g = (vs : List Value) → g ≡ got vs → IsSized r (first_of vs)

value_sized : (r : Range) (v : Value) → IsSized r v → GivesSized r (meets_value v).gives
value_sized r (number z) h vs e = subst (λ ws. IsSized r (first_of ws)) (same_got (number z ∷ []) vs e) h
value_sized r (truth b) h vs e = subst (λ ws. IsSized r (first_of ws)) (same_got (truth b ∷ []) vs e) h
value_sized r (elements zs) h vs e = subst (λ ws. IsSized r (first_of ws)) (same_got (elements zs ∷ []) vs e) h

then_sized : (r : Range) (g : Got (List Value)) (go : List Value → Got (List Value)) → ((x : List Value) → GivesSized r (go x)) → GivesSized r (then_gives g go)
then_sized r (got x) go h vs e = h x vs e
then_sized r (none_at k) go h vs e = absurd (stop_not k vs e)

either_sized : (r s : Range) (t : Bool) (p q : Path (List Value)) → GivesSized r p.gives → GivesSized s q.gives → GivesSized (either r s) (cond t p q).gives
either_sized r s true p q h k vs e = sized_either r s true (first_of vs) (h vs e)
either_sized r s false p q h k vs e = sized_either r s false (first_of vs) (k vs e)

module _ (rs : List Range) (env : List Value) (lie : LieIn rs env) where
  number_sized : (c : CodeTree) → gives_number c ≡ true → GivesSized (range_of rs c) (path c env).gives
  number_sized c t vs e = subst (IsSized (range_of rs c)) (sym (number_given c env t vs e)) tt

  whole_sized : (c : CodeTree) → GivesSized whole (path c env).gives
  whole_sized c vs e = sized_whole (first_of vs) (first_rises vs (path_rises c env (lie_rises rs env lie) vs e))

  pub code_sized : (c : CodeTree) → GivesSized (range_of rs c) (path c env).gives
  code_sized (code_lit k) = number_sized (code_lit k) refl
  code_sized (code_truth t) = whole_sized (code_truth t)
  code_sized (code_var x) = value_sized (range_at rs x) (value_at env x) (sized_at rs env x lie)
  code_sized (code_set_of cs) = whole_sized (code_set_of cs)
  code_sized (code_tuple cs) = whole_sized (code_tuple cs)
  code_sized (code_sum cs) = number_sized (code_sum cs) refl
  code_sized (code_sub a b) = number_sized (code_sub a b) refl
  code_sized (code_mul a b) = number_sized (code_mul a b) refl
  code_sized (code_neg a) = number_sized (code_neg a) refl
  code_sized (code_div a k) = number_sized (code_div a k) refl
  code_sized (code_mod a k) = number_sized (code_mod a k) refl
  code_sized (code_min cs) = number_sized (code_min cs) refl
  code_sized (code_max cs) = number_sized (code_max cs) refl
  code_sized (code_compare o a b) = whole_sized (code_compare o a b)
  code_sized (code_divides k a) = whole_sized (code_divides k a)
  code_sized (code_and a b) = whole_sized (code_and a b)
  code_sized (code_or a b) = whole_sized (code_or a b)
  code_sized (code_not a) = whole_sized (code_not a)
  code_sized (code_union cs) = whole_sized (code_union cs)
  code_sized (code_inter cs) = whole_sized (code_inter cs)
  code_sized (code_diff a b) = whole_sized (code_diff a b)
  code_sized (code_subset a b) = whole_sized (code_subset a b)
  code_sized (code_card a) = number_sized (code_card a) refl
  code_sized (code_slice a b c) = whole_sized (code_slice a b c)
  code_sized (code_fresh a b) = whole_sized (code_fresh a b)
  code_sized (code_if t a b) = then_sized (either (range_of rs a) (range_of rs b)) (path t env).gives _
      (λ x. either_sized (range_of rs a) (range_of rs b) (truth_in x) (path a env) (path b env) (code_sized a) (code_sized b))
  code_sized (code_let first count a b) = whole_sized (code_let first count a b)
  code_sized (code_solve n arms) = whole_sized (code_solve n arms)

-- ---- what codes give lies in their ranges
module _ (rs : List Range) (env : List Value) (lie : LieIn rs env) where
  mutual
    pub code_in : (c : CodeTree) → IsIn (range_of rs c) (path c env)
    code_in (code_lit k) = meets_in _ k (lies_exactly k)
    code_in (code_truth t) = whole_in _ (path_own (code_truth t) env)
    code_in (code_var x) = value_in _ (value_at env x) (lies_at rs env x lie)
    code_in (code_set_of cs) = whole_in _ (path_own (code_set_of cs) env)
    code_in (code_tuple cs) = whole_in _ (path_own (code_tuple cs) env)
    code_in (code_sum cs) = sum_in cs (between (pos 0) (pos 0)) (pos 0) zero_lies
    code_in (code_sub a b) = then_in _ (path a env) _ (λ x l e. then_in _ (path b env) _ (λ y m f. meets_in _ (number_in x -ℤ number_in y)
        (difference_lies (range_of rs a) (range_of rs b) (number_in x) (number_in y) (code_in a l x e) (code_in b m y f))))
    code_in (code_mul a b) = then_in _ (path a env) _ (λ x l e. then_in _ (path b env) _ (λ y m f. meets_in _ (number_in x *ℤ number_in y)
        (product_lies (range_of rs a) (range_of rs b) (number_in x) (number_in y) (code_in a l x e) (code_in b m y f))))
    code_in (code_neg a) = then_in _ (path a env) _ (λ x l e. meets_in _ (neg_ℤ (number_in x))
        (λ w. negation_lies (range_of rs a) (number_in x) (code_in a l x e)))
    code_in (code_div a k) = then_in _ (path a env) _ (λ x l e. meets_in _ (quotient (number_in x) k)
        (λ w. quotient_lies (range_of rs a) (number_in x) k (code_in a l x e)))
    code_in (code_mod a k) = then_in _ (path a env) _ (λ x l e. meets_in _ (remainder (number_in x) k)
        (remainder_lies (range_of rs a) (number_in x) k (code_in a l x e)))
    code_in (code_min cs) = best_in int_min least_chooses cs
    code_in (code_max cs) = best_in int_max greatest_chooses cs
    code_in (code_compare o a b) = whole_in _ (path_own (code_compare o a b) env)
    code_in (code_divides k a) = whole_in _ (path_own (code_divides k a) env)
    code_in (code_and a b) = whole_in _ (path_own (code_and a b) env)
    code_in (code_or a b) = whole_in _ (path_own (code_or a b) env)
    code_in (code_not a) = whole_in _ (path_own (code_not a) env)
    code_in (code_union cs) = whole_in _ (path_own (code_union cs) env)
    code_in (code_inter cs) = whole_in _ (path_own (code_inter cs) env)
    code_in (code_diff a b) = whole_in _ (path_own (code_diff a b) env)
    code_in (code_subset a b) = whole_in _ (path_own (code_subset a b) env)
    code_in (code_card a) = then_in _ (path a env) _ (λ x l e. meets_in _ (pos (length (set_in x)))
        (size_lies (range_of rs a) (first_of x) (code_sized rs env lie a x e)))
    code_in (code_slice a b c) = whole_in _ (path_own (code_slice a b c) env)
    code_in (code_fresh a b) = whole_in _ (path_own (code_fresh a b) env)
    code_in (code_if t a b) = then_in _ (path t env) _
        (λ x l e. either_in (range_of rs a) (range_of rs b) (truth_in x) (path a env) (path b env) (code_in a) (code_in b))
    code_in (code_let first count a b) = whole_in _ (path_own (code_let first count a b) env)
    code_in (code_solve n arms) = whole_in _ (path_own (code_solve n arms) env)

    sum_in : (cs : CodeTrees) (r : Range) (z : ℤ) → LiesIn r z → IsIn (plus_all r (ranges_of rs cs)) (sum_path cs env z)
    sum_in no_codes r z h = only_in r (number z ∷ []) 0 h
    sum_in (code_more c cs) r z h = then_in _ (path c env) _ (λ x l e.
        then_in _ (meets (z +ℤ number_in x)) (λ s. sum_path cs env (number_in s)) (λ s m f.
        sum_in cs (plus r (range_of rs c)) (number_in s)
        (meets_in (plus r (range_of rs c)) (z +ℤ number_in x) (sum_lies r (range_of rs c) z (number_in x) h (code_in c l x e)) m s f)))

    best_in : (better : ℤ → ℤ → ℤ) → Chooses better → (cs : CodeTrees) → IsIn (best_of better (ranges_of rs cs)) (best_path better cs env None)
    best_in better h no_codes = meets_in _ (pos 0) (λ w. zero_lies)
    best_in better h (code_more c cs) = then_in _ (path c env) _ (λ x l e. after_in better h cs (range_of rs c) (number_in x) (code_in c l x e))

    after_in : (better : ℤ → ℤ → ℤ) → Chooses better → (cs : CodeTrees) (r : Range) (z : ℤ) → LiesIn r z →
        IsIn (best_after better r (ranges_of rs cs)) (best_path better cs env (Some z))
    after_in better h no_codes r z i = meets_in _ z (λ w. i)
    after_in better h (code_more c cs) r z i = then_in _ (path c env) _ (λ x l e.
        after_in better h cs (better_of better r (range_of rs c)) (better z (number_in x))
        (better_lies better h r (range_of rs c) z (number_in x) i (code_in c l x e)))

pub values_lie : ValuesLieInRanges
values_lie rs c env vs lie fits e = code_in rs env lie c fits vs e

-- ---- operations that need no check
module _ (rs : List Range) (env : List Value) (lie : LieIn rs env) where
  sums_fit : (cs : CodeTrees) (r : Range) (z : ℤ) → LiesIn r z → plus_all_passes r (ranges_of rs cs) ≡ false → AllFit cs env →
      Fits (sum_path cs env z)
  sums_fit no_codes r z h p fs = omega arith
  sums_fit (code_more c cs) r z h p fs =
      let o = or_false _ _ p in
      then_fits (path c env) _ fs.0 (λ x e.
      let lies = code_in rs env lie c fs.0 x e in
      let fits = sum_fits r (range_of rs c) z (number_in x) h lies o.0 in
      then_fits (meets (z +ℤ number_in x)) _ fits (λ s f.
      sums_fit cs (plus r (range_of rs c)) (number_in s)
      (meets_in (plus r (range_of rs c)) (z +ℤ number_in x) (sum_lies r (range_of rs c) z (number_in x) h lies) fits s f) o.1 fs.1))

  differences_fit : (a b : CodeTree) → may_pass rs (code_sub a b) ≡ false → Fits (path a env) → Fits (path b env) → Fits (path (code_sub a b) env)
  differences_fit a b p k l = then_fits (path a env) _ k (λ x e. then_fits (path b env) _ l (λ y f.
      difference_fits (range_of rs a) (range_of rs b) (number_in x) (number_in y) (code_in rs env lie a k x e) (code_in rs env lie b l y f) p))

  products_fit : (a b : CodeTree) → may_pass rs (code_mul a b) ≡ false → Fits (path a env) → Fits (path b env) → Fits (path (code_mul a b) env)
  products_fit a b p k l = then_fits (path a env) _ k (λ x e. then_fits (path b env) _ l (λ y f.
      product_fits (range_of rs a) (range_of rs b) (number_in x) (number_in y) (code_in rs env lie a k x e) (code_in rs env lie b l y f) p))

-- what a code gives is within the limit where the code fits
pub given_within : (c : CodeTree) (env vs : List Value) → Fits (path c env) → (path c env).gives ≡ got vs → IsWithin (number_in vs)
given_within c env vs l e = (whole_in (path c env) (path_own c env) l vs e).0

abbrev IsWithinIfSome : Option ℤ → Type 0
IsWithinIfSome None = Unit {0}
IsWithinIfSome (Some z) = IsWithin z

bests_fit : (better : ℤ → ℤ → ℤ) → Chooses better → (cs : CodeTrees) (env : List Value) (z : Option ℤ) → IsWithinIfSome z → AllFit cs env →
    Fits (best_path better cs env z)
bests_fit better h no_codes env None w fs = omega arith
bests_fit better h no_codes env (Some z) w fs = w
bests_fit better h (code_more c cs) env None w fs = then_fits (path c env) _ fs.0 (λ x e.
    bests_fit better h cs env (Some (number_in x)) (given_within c env x fs.0 e) fs.1)
bests_fit better h (code_more c cs) env (Some z) w fs = then_fits (path c env) _ fs.0 (λ x e.
    bests_fit better h cs env (Some (better z (number_in x))) (h.fits z (number_in x) w (given_within c env x fs.0 e)) fs.1)

pub need_no_checks : NeedNoChecks
need_no_checks = record {
  sums = λ rs cs env lie p fs. sums_fit rs env lie cs (between (pos 0) (pos 0)) (pos 0) zero_lies p fs;
  differences = λ rs a b env lie p k l. differences_fit rs env lie a b p k l;
  products = λ rs a b env lie p k l. products_fit rs env lie a b p k l;
  negations = λ a env l. then_fits (path a env) _ l (λ x e. negation_fits (number_in x) (given_within a env x l e));
  quotients = λ a k env l. then_fits (path a env) _ l (λ x e. quotient_fits (number_in x) k (given_within a env x l e));
  remainders = λ rs a k env p l. then_fits (path a env) _ l (λ x e.
      remainder_fits (number_in x) k (given_within a env x l e) (within_is k p));
  minima = λ cs env fs. bests_fit int_min least_chooses cs env None tt fs;
  maxima = λ cs env fs. bests_fit int_max greatest_chooses cs env None tt fs;
}

-- ---- total codes
and_true : (a b : Bool) → (a && b) ≡ true → (a ≡ true) × (b ≡ true)
and_true true b e = (refl, e)
and_true false b e = cc

not_true : (b : Bool) → not b ≡ true → b ≡ false
not_true true e = cc
not_true false e = refl

no_truth : false ≡ true → ⊥
no_truth e = cc

value_does : (v : Value) → IsWithin (number_of v) → Does (meets_value v)
value_does (number z) w = only_does _ _ w
value_does (truth b) w = only_does _ _ (omega arith)
value_does (elements zs) w = only_does _ _ (omega arith)

module _ (rs : List Range) (env : List Value) (lie : LieIn rs env) where
  mutual
    code_does : (c : CodeTree) → is_total rs c ≡ true → Does (path c env)
    code_does (code_lit k) t = only_does _ _ (within_is k (not_true _ t))
    code_does (code_truth b) t = only_does _ _ (omega arith)
    code_does (code_var x) t = value_does (value_at env x) (lies_at rs env x lie).0
    code_does (code_set_of cs) t = set_does cs [] t
    code_does (code_tuple cs) t = all_does cs [] t
    code_does (code_sum cs) t =
        let o = and_true _ _ t in
        sum_does cs (between (pos 0) (pos 0)) (pos 0) zero_lies (not_true _ o.0) o.1
    code_does (code_sub a b) t =
        let o = and_true _ _ t in
        let q = and_true _ _ o.0 in
        then_does (path a env) _ (code_does a q.1) (λ x l e. then_does (path b env) _ (code_does b o.1) (λ y m f. only_does _ _
        (difference_fits (range_of rs a) (range_of rs b) (number_in x) (number_in y)
        (code_in rs env lie a l x e) (code_in rs env lie b m y f) (not_true _ q.0))))
    code_does (code_mul a b) t =
        let o = and_true _ _ t in
        let q = and_true _ _ o.0 in
        then_does (path a env) _ (code_does a q.1) (λ x l e. then_does (path b env) _ (code_does b o.1) (λ y m f. only_does _ _
        (product_fits (range_of rs a) (range_of rs b) (number_in x) (number_in y)
        (code_in rs env lie a l x e) (code_in rs env lie b m y f) (not_true _ q.0))))
    code_does (code_neg a) t = then_does (path a env) _ (code_does a t) (λ x l e. only_does _ _ (negation_fits (number_in x) (given_within a env x l e)))
    code_does (code_div a k) t = then_does (path a env) _ (code_does a t) (λ x l e. only_does _ _ (quotient_fits (number_in x) k (given_within a env x l e)))
    code_does (code_mod a k) t =
        let o = and_true _ _ t in
        then_does (path a env) _ (code_does a o.1) (λ x l e. only_does _ _
        (remainder_fits (number_in x) k (given_within a env x l e) (within_is k (not_true _ o.0))))
    code_does (code_min cs) t = best_does int_min least_chooses cs None tt t
    code_does (code_max cs) t = best_does int_max greatest_chooses cs None tt t
    code_does (code_compare o a b) t =
        let q = and_true _ _ t in
        then_does (path a env) _ (code_does a q.0) (λ x l e. then_does (path b env) _ (code_does b q.1) (λ y m f. only_does _ _ (omega arith)))
    code_does (code_divides k a) t = then_does (path a env) _ (code_does a t) (λ x l e. only_does _ _ (omega arith))
    code_does (code_and a b) t =
        let q = and_true _ _ t in
        then_does (path a env) _ (code_does a q.0)
        (λ x l e. either_does (truth_in x) (path b env) (gives_truth false) (code_does b q.1) (only_does _ _ (omega arith)))
    code_does (code_or a b) t =
        let q = and_true _ _ t in
        then_does (path a env) _ (code_does a q.0)
        (λ x l e. either_does (truth_in x) (gives_truth true) (path b env) (only_does _ _ (omega arith)) (code_does b q.1))
    code_does (code_not a) t = then_does (path a env) _ (code_does a t) (λ x l e. only_does _ _ (omega arith))
    code_does (code_union cs) t = join_does _ cs None t
    code_does (code_inter cs) t = join_does _ cs None t
    code_does (code_diff a b) t =
        let q = and_true _ _ t in
        then_does (path a env) _ (code_does a q.0) (λ x l e. then_does (path b env) _ (code_does b q.1) (λ y m f. only_does _ _ (omega arith)))
    code_does (code_subset a b) t =
        let q = and_true _ _ t in
        then_does (path a env) _ (code_does a q.0) (λ x l e. then_does (path b env) _ (code_does b q.1) (λ y m f. only_does _ _ (omega arith)))
    code_does (code_card a) t = absurd (no_truth t)
    code_does (code_slice a b c) t =
        let q = and_true _ _ t in
        let o = and_true _ _ q.0 in
        then_does (path a env) _ (code_does a o.0) (λ x l e. then_does (path b env) _ (code_does b o.1) (λ y m f.
        then_does (path c env) _ (code_does c q.1) (λ z n g. only_does _ _ (omega arith))))
    code_does (code_fresh a b) t = absurd (no_truth t)
    code_does (code_if s a b) t =
        let q = and_true _ _ t in
        let o = and_true _ _ q.0 in
        then_does (path s env) _ (code_does s o.0) (λ x l e. either_does (truth_in x) (path a env) (path b env) (code_does a o.1) (code_does b q.1))
    code_does (code_let first count a b) t = absurd (no_truth t)
    code_does (code_solve n arms) t = absurd (no_truth t)

    set_does : (cs : CodeTrees) (done : List ℤ) → are_total rs cs ≡ true → Does (set_path cs env done)
    set_does no_codes done t = only_does _ _ (omega arith)
    set_does (code_more c cs) done t = let q = and_true _ _ t in then_does (path c env) _ (code_does c q.0) (λ x l e. set_does cs _ q.1)

    all_does : (cs : CodeTrees) (done : List Value) → are_total rs cs ≡ true → Does (all_path cs env done)
    all_does no_codes done t = only_does _ _ (omega arith)
    all_does (code_more c cs) done t = let q = and_true _ _ t in then_does (path c env) _ (code_does c q.0) (λ x l e. all_does cs _ q.1)

    join_does : (join : List ℤ → List ℤ → List ℤ) (cs : CodeTrees) (zs : Option (List ℤ)) → are_total rs cs ≡ true → Does (join_path join cs env zs)
    join_does join no_codes zs t = only_does _ _ (omega arith)
    join_does join (code_more c cs) zs t = let q = and_true _ _ t in then_does (path c env) _ (code_does c q.0) (λ x l e. join_does join cs _ q.1)

    sum_does : (cs : CodeTrees) (r : Range) (z : ℤ) → LiesIn r z → plus_all_passes r (ranges_of rs cs) ≡ false → are_total rs cs ≡ true →
        Does (sum_path cs env z)
    sum_does no_codes r z h p t = only_does _ _ (omega arith)
    sum_does (code_more c cs) r z h p t =
        let q = and_true _ _ t in
        let o = or_false _ _ p in
        then_does (path c env) _ (code_does c q.0) (λ x l e.
        let lies = code_in rs env lie c l x e in
        let fits = sum_fits r (range_of rs c) z (number_in x) h lies o.0 in
        then_does (meets (z +ℤ number_in x)) (λ s. sum_path cs env (number_in s)) (only_does _ _ fits) (λ s m f.
        sum_does cs (plus r (range_of rs c)) (number_in s)
        (meets_in (plus r (range_of rs c)) (z +ℤ number_in x) (sum_lies r (range_of rs c) z (number_in x) h lies) m s f) o.1 q.1))

    best_does : (better : ℤ → ℤ → ℤ) → Chooses better → (cs : CodeTrees) (z : Option ℤ) → IsWithinIfSome z → are_total rs cs ≡ true →
        Does (best_path better cs env z)
    best_does better h no_codes None w t = only_does _ _ (omega arith)
    best_does better h no_codes (Some z) w t = only_does _ _ w
    best_does better h (code_more c cs) None w t =
        let q = and_true _ _ t in
        then_does (path c env) _ (code_does c q.0) (λ x l e. best_does better h cs (Some (number_in x)) (given_within c env x l e) q.1)
    best_does better h (code_more c cs) (Some z) w t =
        let q = and_true _ _ t in
        then_does (path c env) _ (code_does c q.0)
        (λ x l e. best_does better h cs (Some (better z (number_in x))) (h.fits z (number_in x) w (given_within c env x l e)) q.1)

pub total_codes : TotalCodesEvaluate
total_codes rs c env lie t =
    let d = code_does rs env lie c t in
    record { values = d.values; gives = d.gives; fits = d.fits }
