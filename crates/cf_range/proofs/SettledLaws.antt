-- What settling makes of a code answers alike.
use Rattle.std.proofs.Common.{◌≡◌, ◌≤◌, ℕ, zero, suc, nat_eq, ℤ, pos, ◌+ℤ◌, Bool, true, false, cond, ◌&&◌, Option, None, List, [], ◌∷◌, ◌++◌, length, refl, sym, ap, subst, ◌∙◌, arith}
use Rattle.std.specs.Prelude.{unsigned_abs}
use Rattle.std.proofs.lemmas.List.{append_assoc}
use Rattle.cf_num.specs.Limit.{limit}
use Rattle.cf_tree.specs.CodeTree.{CodeTree, code_lit, code_truth, code_var, code_set_of, code_tuple, code_sum, code_sub, code_mul, code_neg, code_div, code_mod, code_min, code_max, code_compare, code_divides, code_and, code_or, code_not, code_union, code_inter, code_diff, code_subset, code_card, code_slice, code_fresh, code_if, code_let, code_solve, CodeTrees, no_codes, code_more, let_item, need_item, ItemTrees, no_items, item_more, ArmTree, arm_of, ArmTrees, no_arms, arm_more}
use Rattle.cf_tree.specs.Meaning.{Got, got, none_at, Path, then_path, path, all_path, set_path, sum_path, best_path, join_path, arms_path, arm_path, meets, meets_all, meets_value, tuple_at, count_below, gives_only, gives_truth, number_in, truth_in}
use Rattle.cf_tree.specs.Values.{Value, number, truth, elements, number_of, first_of}
use Rattle.cf_shift.specs.Meeting.{AreSmall}
use Rattle.cf_shift.proofs.MeetingLaws.{path_own}
use Rattle.cf_range.specs.declared.range.Range.{Range}
use Rattle.cf_range.specs.Alike.{Alike, AnswersAlike}
use Rattle.cf_range.specs.CodeRanges.{range_of}
use Rattle.cf_range.specs.Put.{put, items_put, all_put}
use Rattle.cf_range.specs.Ranges.{LiesIn, IsSized, LieIn, whole}
use Rattle.cf_range.specs.Settled.{comparison, slice_settled, fresh_settled, union_settled, gives_so_many, items_bind_one, with_wholes, ranges_with, ranges_behind_all, uses, stands_anywhere, may_go, reads_well, goes, Rest, arm_with, rest_uses, rest_put, behind, let_behind, let_settled, lets_dropped, arm_dropped, settled, all_settled, items_settled, arm_each, arm_settled, arms_settled}
use Rattle.cf_range.specs.Total.{is_total}
use Rattle.cf_range.proofs.NumberLemmas.{lies_whole, sized_whole}
use Rattle.cf_range.proofs.RangeLaws.{lie_rises, lie_behind, code_sized, values_lie, total_codes}
use Rattle.cf_range.proofs.AlikeLemmas.{both_fit, alike_refl, alike_same, alike_trans, alike_then, alike_one, alike_two, alike_cond, alike_later, alike_first, met_before, either_code}
use Rattle.cf_range.proofs.ComparisonLaws.{comparison_alike}
use Rattle.cf_range.proofs.PutLaws.{eq_means, put_alike, rest_alike}
use Rattle.cf_range.proofs.RestLaws.{give_path, rest_path, let_first, give_alike, none_alike, lets_alike, needs_alike}
use Rattle.cf_range.proofs.RisenLaws.{AllRise, path_rises, tuple_rises}
use Rattle.cf_range.proofs.SetLaws.{slice_alike, fresh_alike, union_alike}
use Rattle.cf_range.proofs.StandsLaws.{stands_same, stands_one, code_counted}

and_true : (a b : Bool) → (a && b) ≡ true → (a ≡ true) × (b ≡ true)
and_true true b e = (refl, e)
and_true false b e = cc

same_got : {A : Type 0} (x y : A) → got x ≡ got y → x ≡ y
same_got x y e = cc

stop_not : {A : Type 0} (k : ℕ) (x : A) → none_at k ≡ got x → ⊥
stop_not k x e = cc

append_none : {A : Type 0} (xs : List A) → xs ++ [] ≡ xs
append_none [] = refl
append_none (x ∷ xs) = ap (λ ys. x ∷ ys) (append_none xs)

-- ---- ranges of more variables
lie_wholes : (vs : List Value) (rs : List Range) (env : List Value) (n : ℕ) → length vs ≡ n → AreSmall limit vs → AllRise vs →
    LieIn rs env → LieIn (with_wholes rs n) (env ++ vs)
lie_wholes [] rs env zero e s r lie = subst (LieIn rs) (sym (append_none env)) lie
lie_wholes [] rs env (suc n) e s r lie = absurd (omega (arith, e))
lie_wholes (v ∷ vs) rs env zero e s r lie = absurd (omega (arith, e))
lie_wholes (v ∷ vs) rs env (suc n) e s r lie =
    subst (LieIn (with_wholes rs (suc n))) (append_assoc env (v ∷ []) vs)
    (lie_wholes vs (rs ++ whole ∷ []) (env ++ v ∷ []) n (omega (arith, e)) s.1 r.1
    (lie_behind rs env whole v lie (lies_whole (number_of v) s.0) (sized_whole v r.0)))

lie_one : (xs : List Value) (rs : List Range) (r : Range) (env : List Value) → length xs ≡ 1 → LiesIn r (number_in xs) →
    IsSized r (first_of xs) → LieIn rs env → LieIn (rs ++ r ∷ []) (env ++ xs)
lie_one [] rs r env e l s lie = absurd (omega (arith, e))
lie_one (v ∷ []) rs r env e l s lie = lie_behind rs env r v lie l s
lie_one (v ∷ u ∷ xs) rs r env e l s lie = absurd (omega (arith, e))

lie_length : (rs : List Range) (env : List Value) → LieIn rs env → length env ≡ length rs
lie_length [] [] lie = refl
lie_length [] (v ∷ env) lie = absurd lie
lie_length (r ∷ rs) [] lie = absurd lie
lie_length (r ∷ rs) (v ∷ env) lie = ap suc (lie_length rs env lie.2)

either_ranges : (t : Bool) (rs ss : List Range) (env : List Value) → (t ≡ true → LieIn rs env) → (t ≡ false → LieIn ss env) → LieIn (cond t rs ss) env
either_ranges true rs ss env h k = h refl
either_ranges false rs ss env h k = k refl

-- behind what a code gives
module _ (rs : List Range) (c : CodeTree) (env : List Value) (lie : LieIn rs env) (xs : List Value) (e : (path c env).gives ≡ got xs)
    (l : (path c env).peak ≤ limit) where
  lie_item : gives_so_many 1 c ≡ true → LieIn (rs ++ range_of rs c ∷ []) (env ++ xs)
  lie_item t = lie_one xs rs (range_of rs c) env (code_counted 1 c env t xs e) (values_lie rs c env xs lie l e) (code_sized rs env lie c xs e) lie

  lie_with : (n : ℕ) → gives_so_many n c ≡ true → LieIn (ranges_with rs n c) (env ++ xs)
  lie_with n t =
      let k = code_counted n c env t xs e in
      either_ranges (nat_eq n 1) (rs ++ range_of rs c ∷ []) (with_wholes rs n) (env ++ xs)
      (λ o. lie_one xs rs (range_of rs c) env (k ∙ eq_means n 1 o) (values_lie rs c env xs lie l e) (code_sized rs env lie c xs e) lie)
      (λ o. lie_wholes xs rs env n k (path_own c env limit l xs e) (path_rises c env (lie_rises rs env lie) xs e) lie)

-- behind searches
tuple_length : (bounds : List ℕ) (i : ℕ) → length (tuple_at bounds i) ≡ length bounds
tuple_length [] i = refl
tuple_length (b ∷ bounds) i = ap suc (tuple_length bounds _)

searches_bound : (ks : List ℕ) (vs : List Value) → (meets_all ks).peak ≤ limit → (meets_all ks).gives ≡ got vs →
    (length vs ≡ length ks) × AreSmall limit vs
searches_bound [] vs l e = subst (λ ws. (length ws ≡ 0) × AreSmall limit ws) (same_got [] vs e) (refl, tt)
searches_bound (k ∷ ks) vs l e = by (meets_all ks).gives (meets_all ks).peak (λ m ws f. searches_bound ks ws m f) l e
  where
    by : (g : Got (List Value)) (m : ℕ) → (m ≤ limit → (ws : List Value) → g ≡ got ws → (length ws ≡ length ks) × AreSmall limit ws) →
        (then_path (meets (pos k)) (λ v. then_path (record { gives = g; peak = m }) (λ ws. gives_only (v ++ ws)))).peak ≤ limit →
        (then_path (meets (pos k)) (λ v. then_path (record { gives = g; peak = m }) (λ ws. gives_only (v ++ ws)))).gives ≡ got vs →
        (length vs ≡ length (k ∷ ks)) × AreSmall limit vs
    by (got ws) m h l e =
        let r = h (omega (arith, l)) ws refl in
        subst (λ us. (length us ≡ length (k ∷ ks)) × AreSmall limit us) (same_got (number (pos k) ∷ ws) vs e) (ap suc r.0, (omega (arith, l), r.1))
    by (none_at x) m h l e = absurd (stop_not x vs e)

lie_searches : (rs : List Range) (env : List Value) (bounds : List ℕ) (i : ℕ) (vs : List Value) → LieIn rs env →
    (meets_all (tuple_at bounds i)).gives ≡ got vs → (meets_all (tuple_at bounds i)).peak ≤ limit → LieIn (with_wholes rs (length bounds)) (env ++ vs)
lie_searches rs env bounds i vs lie e l =
    let b = searches_bound (tuple_at bounds i) vs l e in
    lie_wholes vs rs env (length bounds) (b.0 ∙ tuple_length bounds i) b.1 (tuple_rises (tuple_at bounds i) vs e) lie

-- ---- a value in the place of its variable
value_meets : (v : Value) → unsigned_abs (number_of v) ≤ limit → ((meets_value v).peak ≤ limit) × ((meets_value v).gives ≡ got (v ∷ []))
value_meets (number z) l = (l, refl)
value_meets (truth b) l = (omega arith, refl)
value_meets (elements zs) l = (omega arith, refl)

-- what a value that goes gives
record Gone (v : CodeTree) (env : List Value) : Type 0 where
  value : Value
  gives : (path v env).gives ≡ got (value ∷ [])
  fits : (path v env).peak ≤ limit
  stands : (back : List Value) → Alike (meets_value value) (path v (env ++ back))

gone : (rs : List Range) (v : CodeTree) (env : List Value) → LieIn rs env → may_go rs v ≡ true → Gone v env
gone rs v env lie t =
    let q = and_true (is_total rs v) (stands_anywhere (length rs) v) t in
    let d = total_codes rs v env lie q.0 in
    let s = subst (λ n. stands_anywhere n v ≡ true) (sym (lie_length rs env lie)) q.1 in
    by d.values d.gives d.fits (code_counted 1 v env (stands_one (length rs) v q.1) d.values d.gives)
    (path_own v env limit d.fits d.values d.gives) (λ back. stands_same env back v s)
  where
    by : (ws : List Value) → (path v env).gives ≡ got ws → (path v env).peak ≤ limit → length ws ≡ 1 → AreSmall limit ws →
        ((back : List Value) → path v (env ++ back) ≡ path v env) → Gone v env
    by [] e l n s h = absurd (omega (arith, n))
    by (w ∷ u ∷ ws) e l n s h = absurd (omega (arith, n))
    by (w ∷ []) e l n s h =
        let m = value_meets w s.0 in record {
          value = w;
          gives = e;
          fits = l;
          stands = λ back. rw (h back) (both_fit (meets_value w) (path v env) m.0 l (e ∙ sym m.1));
        }

-- what comes behind a path that gives and fits
then_alike : {A B : Type 0} (p : Path A) (go : A → Path B) (x : A) → p.gives ≡ got x → p.peak ≤ limit → Alike (then_path p go) (go x)
then_alike p go x e l = rw e (met_before p.peak (go x) (go x) l (alike_refl (go x)))

let_alike : (rs : List Range) (first n : ℕ) (v b : CodeTree) (env : List Value) → LieIn rs env →
    Alike (path (code_let first n v b) env) (path (let_settled rs first n v b) env)
let_alike rs first n v b env lie =
    either_code (nat_eq n 1 && goes rs v (uses (length rs) b)) (path (code_let first n v b) env) (put (length rs) v b) (code_let first n v b) env
    (λ e.
    let q = and_true (nat_eq n 1) (goes rs v (uses (length rs) b)) e in
    let o = and_true (may_go rs v) (reads_well (uses (length rs) b) v) q.1 in
    let g = gone rs v env lie o.0 in
    alike_trans (path (code_let first n v b) env) (path b (env ++ g.value ∷ [])) (path (put (length rs) v b) env)
    (then_alike (path v env) (λ x. path b (env ++ x)) (g.value ∷ []) g.gives g.fits)
    (subst (λ k. Alike (path b (env ++ g.value ∷ [])) (path (put k v b) env)) (lie_length rs env lie)
    (subst (λ inner. Alike (path b (env ++ g.value ∷ [])) (path (put (length env) v b) inner)) (append_none env)
    (put_alike env g.value v g.stands b []))))
    (λ e. alike_refl (path (code_let first n v b) env))

either_rest : (t : Bool) (p : Path (Option (List Value))) (r s : Rest) (env : List Value) → (t ≡ true → Alike p (rest_path r.items r.gives env)) →
    (t ≡ false → Alike p (rest_path s.items s.gives env)) → Alike p (rest_path (cond t r s).items (cond t r s).gives env)
either_rest true p r s env h k = h refl
either_rest false p r s env h k = k refl

let_first_alike : (rs : List Range) (v : CodeTree) (r : Rest) (env : List Value) → LieIn rs env →
    Alike (rest_path (item_more (let_item v) r.items) r.gives env) (rest_path (let_behind rs v r).items (let_behind rs v r).gives env)
let_first_alike rs v r env lie =
    let first = rest_path (item_more (let_item v) r.items) r.gives env in
    either_rest (goes rs v (rest_uses (length rs) r)) first (rest_put (length rs) v r) (behind (let_item v) r) env
    (λ e.
    let o = and_true (may_go rs v) (reads_well (rest_uses (length rs) r) v) e in
    let g = gone rs v env lie o.0 in
    let inner = rest_path r.items r.gives (env ++ g.value ∷ []) in
    alike_trans first inner (rest_path (items_put (length rs) v r.items) (all_put (length rs) v r.gives) env)
    (alike_trans first (then_path (path v env) (λ x. rest_path r.items r.gives (env ++ x))) inner
    (alike_same first (then_path (path v env) (λ x. rest_path r.items r.gives (env ++ x))) (let_first v r.items r.gives env))
    (then_alike (path v env) (λ x. rest_path r.items r.gives (env ++ x)) (g.value ∷ []) g.gives g.fits))
    (subst (λ k. Alike inner (rest_path (items_put k v r.items) (all_put k v r.gives) env)) (lie_length rs env lie)
    (subst (λ outer. Alike inner (rest_path (items_put (length env) v r.items) (all_put (length env) v r.gives) outer)) (append_none env)
    (rest_alike env g.value v g.stands r.items r.gives []))))
    (λ e. alike_refl first)

lets_dropped_alike : (rs : List Range) (is : ItemTrees) (gs : CodeTrees) (env : List Value) → LieIn rs env → items_bind_one is ≡ true →
    Alike (rest_path is gs env) (rest_path (lets_dropped rs is gs).items (lets_dropped rs is gs).gives env)
lets_dropped_alike rs no_items gs env lie t = alike_refl (rest_path no_items gs env)
lets_dropped_alike rs (item_more (let_item v) is) gs env lie t =
    let q = and_true (gives_so_many 1 v) (items_bind_one is) t in
    let ss = rs ++ range_of rs v ∷ [] in
    let r = lets_dropped ss is gs in
    alike_trans (rest_path (item_more (let_item v) is) gs env) (rest_path (item_more (let_item v) r.items) r.gives env)
    (rest_path (let_behind rs v r).items (let_behind rs v r).gives env)
    (lets_alike v v is r.items gs r.gives env env (alike_refl (path v env))
    (λ x e l. lets_dropped_alike ss is gs (env ++ x) (lie_item rs v env lie x e l q.0) q.1))
    (let_first_alike rs v r env lie)
lets_dropped_alike rs (item_more (need_item c) is) gs env lie t =
    let r = lets_dropped rs is gs in
    needs_alike c c is r.items gs r.gives env env (alike_refl (path c env)) (lets_dropped_alike rs is gs env lie t)

either_arm : (t : Bool) (c a b : ArmTree) (env : List Value) → (t ≡ true → Alike (arm_path c env) (arm_path a env)) →
    (t ≡ false → Alike (arm_path c env) (arm_path b env)) → Alike (arm_path c env) (arm_path (cond t a b) env)
either_arm true c a b env h k = h refl
either_arm false c a b env h k = k refl

dropped_alike : (rs : List Range) (a : ArmTree) (env : List Value) → LieIn rs env → Alike (arm_path a env) (arm_path (arm_dropped rs a) env)
dropped_alike rs (arm_of bounds is gs) env lie =
    let ss = with_wholes rs (length bounds) in
    either_arm (items_bind_one is) (arm_of bounds is gs) (arm_with bounds (lets_dropped ss is gs)) (arm_of bounds is gs) env
    (λ t. alike_first (count_below bounds) 0 _ _ (λ i.
    alike_then (meets_all (tuple_at bounds i)) (meets_all (tuple_at bounds i)) _ _ (alike_refl (meets_all (tuple_at bounds i))) (λ ks e l.
    lets_dropped_alike ss is gs (env ++ ks) (lie_searches rs env bounds i ks lie e l) t)))
    (λ t. alike_refl (arm_path (arm_of bounds is gs) env))

-- ---- all forms
abbrev from : CodeTree → List Value → Path (List Value)
from c env = path c env

abbrev to : List Range → CodeTree → List Value → Path (List Value)
to rs c env = path (settled rs c) env

-- the body of a let is settled where it is known how many values stand before it
abbrev body_settled : List Range → ℕ → CodeTree → CodeTree → CodeTree
body_settled rs n a b = cond (gives_so_many n a) (settled (ranges_with rs n a) b) b

mutual
  pub settled_alike : (rs : List Range) (c : CodeTree) (env : List Value) → LieIn rs env → Alike (path c env) (path (settled rs c) env)
  settled_alike rs (code_lit k) env lie = alike_refl (path (code_lit k) env)
  settled_alike rs (code_truth u) env lie = alike_refl (path (code_truth u) env)
  settled_alike rs (code_var y) env lie = alike_refl (path (code_var y) env)
  settled_alike rs (code_set_of cs) env lie = set_alike rs cs env [] lie
  settled_alike rs (code_tuple cs) env lie = all_alike rs cs env [] lie
  settled_alike rs (code_sum cs) env lie = parts_alike rs cs env (pos 0) lie
  settled_alike rs (code_sub a b) env lie = alike_two (from a env) (to rs a env) (from b env) (to rs b env) _ (settled_alike rs a env lie) (settled_alike rs b env lie)
  settled_alike rs (code_mul a b) env lie = alike_two (from a env) (to rs a env) (from b env) (to rs b env) _ (settled_alike rs a env lie) (settled_alike rs b env lie)
  settled_alike rs (code_neg a) env lie = alike_one (from a env) (to rs a env) _ (settled_alike rs a env lie)
  settled_alike rs (code_div a k) env lie = alike_one (from a env) (to rs a env) _ (settled_alike rs a env lie)
  settled_alike rs (code_mod a k) env lie = alike_one (from a env) (to rs a env) _ (settled_alike rs a env lie)
  settled_alike rs (code_min cs) env lie = best_alike rs _ cs env None lie
  settled_alike rs (code_max cs) env lie = best_alike rs _ cs env None lie
  settled_alike rs (code_compare o a b) env lie =
      alike_trans (path (code_compare o a b) env) (path (code_compare o (settled rs a) (settled rs b)) env) (path (comparison rs o (settled rs a) (settled rs b)) env)
      (alike_two (from a env) (to rs a env) (from b env) (to rs b env) _ (settled_alike rs a env lie) (settled_alike rs b env lie))
      (comparison_alike rs o (settled rs a) (settled rs b) env lie)
  settled_alike rs (code_divides k a) env lie = alike_one (from a env) (to rs a env) _ (settled_alike rs a env lie)
  settled_alike rs (code_and a b) env lie = alike_then (from a env) (to rs a env) _ _ (settled_alike rs a env lie)
      (λ x e l. alike_cond (truth_in x) (from b env) (to rs b env) (gives_truth false) (gives_truth false) (settled_alike rs b env lie) (alike_refl (gives_truth false)))
  settled_alike rs (code_or a b) env lie = alike_then (from a env) (to rs a env) _ _ (settled_alike rs a env lie)
      (λ x e l. alike_cond (truth_in x) (gives_truth true) (gives_truth true) (from b env) (to rs b env) (alike_refl (gives_truth true)) (settled_alike rs b env lie))
  settled_alike rs (code_not a) env lie = alike_one (from a env) (to rs a env) _ (settled_alike rs a env lie)
  settled_alike rs (code_union cs) env lie =
      alike_trans (path (code_union cs) env) (path (code_union (all_settled rs cs)) env) (path (union_settled (all_settled rs cs)) env)
      (join_alike rs _ cs env None lie) (union_alike rs (all_settled rs cs) env lie)
  settled_alike rs (code_inter cs) env lie = join_alike rs _ cs env None lie
  settled_alike rs (code_diff a b) env lie = alike_two (from a env) (to rs a env) (from b env) (to rs b env) _ (settled_alike rs a env lie) (settled_alike rs b env lie)
  settled_alike rs (code_subset a b) env lie = alike_two (from a env) (to rs a env) (from b env) (to rs b env) _ (settled_alike rs a env lie) (settled_alike rs b env lie)
  settled_alike rs (code_card a) env lie = alike_one (from a env) (to rs a env) _ (settled_alike rs a env lie)
  settled_alike rs (code_slice a b c) env lie =
      alike_trans (path (code_slice a b c) env) (path (code_slice (settled rs a) (settled rs b) (settled rs c)) env)
      (path (slice_settled rs (settled rs a) (settled rs b) (settled rs c)) env)
      (alike_then (from a env) (to rs a env) _ _ (settled_alike rs a env lie)
      (λ x e l. alike_two (from b env) (to rs b env) (from c env) (to rs c env) _ (settled_alike rs b env lie) (settled_alike rs c env lie)))
      (slice_alike rs (settled rs a) (settled rs b) (settled rs c) env lie)
  settled_alike rs (code_fresh a b) env lie =
      alike_trans (path (code_fresh a b) env) (path (code_fresh (settled rs a) (settled rs b)) env) (path (fresh_settled rs (settled rs a) (settled rs b)) env)
      (alike_two (from a env) (to rs a env) (from b env) (to rs b env) _ (settled_alike rs a env lie) (settled_alike rs b env lie))
      (fresh_alike rs (settled rs a) (settled rs b) env lie)
  settled_alike rs (code_if s a b) env lie = alike_then (from s env) (to rs s env) _ _ (settled_alike rs s env lie)
      (λ x e l. alike_cond (truth_in x) (from a env) (to rs a env) (from b env) (to rs b env) (settled_alike rs a env lie) (settled_alike rs b env lie))
  settled_alike rs (code_let first n a b) env lie = alike_trans (path (code_let first n a b) env) (path (code_let first n (settled rs a) (body_settled rs n a b)) env)
      (path (settled rs (code_let first n a b)) env)
      (alike_then (from a env) (to rs a env) _ _ (settled_alike rs a env lie) (λ x e l.
      either_code (gives_so_many n a) (path b (env ++ x)) (settled (ranges_with rs n a) b) b (env ++ x)
      (λ t. settled_alike (ranges_with rs n a) b (env ++ x) (lie_with rs a env lie x e l n t))
      (λ t. alike_refl (path b (env ++ x)))))
      (let_alike rs first n (settled rs a) (body_settled rs n a b) env lie)
  settled_alike rs (code_solve n arms) env lie = alike_one (arms_path arms env) (arms_path (arms_settled rs arms) env) _ (arms_alike rs arms env lie)

  all_alike : (rs : List Range) (cs : CodeTrees) (env done : List Value) → LieIn rs env → Alike (all_path cs env done) (all_path (all_settled rs cs) env done)
  all_alike rs no_codes env done lie = alike_refl (gives_only done)
  all_alike rs (code_more c cs) env done lie = alike_then (from c env) (to rs c env) _ _ (settled_alike rs c env lie)
      (λ x e l. all_alike rs cs env (done ++ x) lie)

  set_alike : (rs : List Range) (cs : CodeTrees) (env : List Value) (done : List ℤ) → LieIn rs env →
      Alike (set_path cs env done) (set_path (all_settled rs cs) env done)
  set_alike rs no_codes env done lie = alike_refl (set_path no_codes env done)
  set_alike rs (code_more c cs) env done lie = alike_then (from c env) (to rs c env) _ _ (settled_alike rs c env lie) (λ x e l. set_alike rs cs env _ lie)

  parts_alike : (rs : List Range) (cs : CodeTrees) (env : List Value) (z : ℤ) → LieIn rs env → Alike (sum_path cs env z) (sum_path (all_settled rs cs) env z)
  parts_alike rs no_codes env z lie = alike_refl (sum_path no_codes env z)
  parts_alike rs (code_more c cs) env z lie = alike_then (from c env) (to rs c env) _ _ (settled_alike rs c env lie)
      (λ x e l. alike_then (meets (z +ℤ number_in x)) (meets (z +ℤ number_in x)) _ _ (alike_refl (meets (z +ℤ number_in x)))
      (λ s f m. parts_alike rs cs env (number_in s) lie))

  best_alike : (rs : List Range) (better : ℤ → ℤ → ℤ) (cs : CodeTrees) (env : List Value) (z : Option ℤ) → LieIn rs env →
      Alike (best_path better cs env z) (best_path better (all_settled rs cs) env z)
  best_alike rs better no_codes env z lie = alike_refl (best_path better no_codes env z)
  best_alike rs better (code_more c cs) env z lie = alike_then (from c env) (to rs c env) _ _ (settled_alike rs c env lie)
      (λ x e l. best_alike rs better cs env _ lie)

  join_alike : (rs : List Range) (join : List ℤ → List ℤ → List ℤ) (cs : CodeTrees) (env : List Value) (zs : Option (List ℤ)) → LieIn rs env →
      Alike (join_path join cs env zs) (join_path join (all_settled rs cs) env zs)
  join_alike rs join no_codes env zs lie = alike_refl (join_path join no_codes env zs)
  join_alike rs join (code_more c cs) env zs lie = alike_then (from c env) (to rs c env) _ _ (settled_alike rs c env lie)
      (λ x e l. join_alike rs join cs env _ lie)

  each_alike : (rs : List Range) (is : ItemTrees) (gs hs : CodeTrees) (env : List Value) → LieIn rs env → items_bind_one is ≡ true →
      ((inner : List Value) → LieIn (ranges_behind_all rs is) inner → Alike (give_path gs inner) (give_path hs inner)) →
      Alike (rest_path is gs env) (rest_path (items_settled rs is) hs env)
  each_alike rs no_items gs hs env lie t k = none_alike gs hs env env (k env lie)
  each_alike rs (item_more (let_item c) is) gs hs env lie t k =
      let q = and_true (gives_so_many 1 c) (items_bind_one is) t in
      let ss = rs ++ range_of rs c ∷ [] in
      lets_alike c (settled rs c) is (items_settled ss is) gs hs env env (settled_alike rs c env lie)
      (λ x e l. each_alike ss is gs hs (env ++ x) (lie_item rs c env lie x e l q.0) q.1 k)
  each_alike rs (item_more (need_item c) is) gs hs env lie t k =
      needs_alike c (settled rs c) is (items_settled rs is) gs hs env env (settled_alike rs c env lie) (each_alike rs is gs hs env lie t k)

  arm_alike : (rs : List Range) (a : ArmTree) (env : List Value) → LieIn rs env → Alike (arm_path a env) (arm_path (arm_settled rs a) env)
  arm_alike rs (arm_of bounds is gs) env lie =
      let ss = with_wholes rs (length bounds) in
      let hs = all_settled (ranges_behind_all ss is) gs in
      let each = arm_each rs (arm_of bounds is gs) in
      alike_trans (arm_path (arm_of bounds is gs) env) (arm_path each env) (arm_path (arm_dropped rs each) env)
      (either_arm (items_bind_one is) (arm_of bounds is gs) (arm_of bounds (items_settled ss is) hs) (arm_of bounds is gs) env
      (λ t. alike_first (count_below bounds) 0 _ _ (λ i.
      alike_then (meets_all (tuple_at bounds i)) (meets_all (tuple_at bounds i)) _ _ (alike_refl (meets_all (tuple_at bounds i))) (λ ks e l.
      each_alike ss is gs hs (env ++ ks) (lie_searches rs env bounds i ks lie e l) t
      (λ inner lies. give_alike gs hs inner inner (all_alike (ranges_behind_all ss is) gs inner [] lies)))))
      (λ t. alike_refl (arm_path (arm_of bounds is gs) env)))
      (dropped_alike rs each env lie)

  arms_alike : (rs : List Range) (arms : ArmTrees) (env : List Value) → LieIn rs env → Alike (arms_path arms env) (arms_path (arms_settled rs arms) env)
  arms_alike rs no_arms env lie = alike_refl (arms_path no_arms env)
  arms_alike rs (arm_more a arms) env lie = alike_then (arm_path a env) (arm_path (arm_settled rs a) env) _ _ (arm_alike rs a env lie)
      (λ found e l. alike_later found (arms_path arms env) (arms_path (arms_settled rs arms) env) (arms_alike rs arms env lie))

pub settled_answers : (rs : List Range) (c : CodeTree) → AnswersAlike rs c (settled rs c)
settled_answers rs c env lie = settled_alike rs c env lie
