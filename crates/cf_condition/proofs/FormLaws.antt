-- A code gives what its form says.
use Rattle.std.proofs.Common.{◌≡◌, ◌⊎◌, Some, ℕ, zero, suc, ℤ, pos, ◌+ℤ◌, ◌-ℤ◌, Bool, true, false, List, [], ◌∷◌, refl, subst, inl, inr, arith}
use Rattle.std.specs.Prelude.{◌↔◌, int_le, neg_ℤ, ◌*ℤ◌, ◌≤ℤ◌, not, ◌&&◌, ◌||◌, if◌then◌else◌, length}
use Rattle.std.proofs.lemmas.Int.{ints}
use Rattle.cf_tree.specs.declared.base.Order.{Order}
use Rattle.cf_tree.specs.declared.base.Order.TheVariants.{Eq, Ne, Lt, Le, Gt, Ge}
use Rattle.cf_tree.specs.CodeTree.{CodeTree, code_lit, code_truth, code_var, code_set_of, code_tuple, code_sum, code_sub, code_mul, code_neg, code_div, code_mod, code_min, code_max, code_compare, code_divides, code_and, code_or, code_not, code_union, code_inter, code_diff, code_subset, code_card, code_slice, code_fresh, code_if, code_let, code_solve, CodeTrees, no_codes, code_more}
use Rattle.cf_tree.specs.Meaning.{Got, got, none_at, Path, then_gives, then_path, gives_truth, meets_value, number_in, truth_in, set_in, path, sum_path, join_path}
use Rattle.cf_tree.specs.Numbers.{quotient, remainder, is_multiple}
use Rattle.cf_tree.specs.Relation.{val, members, Holds}
use Rattle.cf_tree.specs.RelTree.{SetTree, empty_set, union_of, inter_of, diff_of, TermTree, term_lit, term_neg, term_add, term_sub, term_mul, term_div, term_mod, RelTree, rel_true, rel_false, rel_compare, rel_same_set, rel_other_set, rel_subset, rel_divides, rel_and, rel_or, rel_not}
use Rattle.cf_tree.specs.Sets.{set_union, set_inter, set_diff, is_subset}
use Rattle.cf_tree.specs.Values.{Value, number, truth, elements, value_at, first_of, compared, same_list}
use Rattle.cf_condition.specs.declared.pairing.Pairing.{Pairing}
use Rattle.cf_condition.specs.declared.pairing.Pairing.TheVariants.{Add, Sub, Mul, Union, Inter, Diff, Subset, And, Or, Compare}
use Rattle.cf_condition.specs.Forms.{FormTree, number_form, set_form, truth_form, unwritten, negated, counted, opposite, divided, left_by, multiple, is_literal, product, paired_numbers, compared_sets, paired_sets, is_true, is_false, both, either, paired_truths, paired, form_at, if_set, set_of, truth_rel, form_in, joined_in, first_in}
use Rattle.cf_condition.specs.Standing.{Decides, Stands, AllStand, GivesForm}
use Rattle.cf_condition.specs.ConditionLaws.{FormsAreRight}
use Rattle.cf_condition.proofs.Deciding.{decides_and, decides_or, decides_not, decides_as, compares_decided, same_set_decided, other_set_decided, subset_decided, divides_decided}

-- ---- operations with one side
negated_gives : (f : FormTree) (env : List Value) (g : Got (List Value)) → GivesForm f env g →
    GivesForm (negated f) env (then_gives g (λ x. got (number (neg_ℤ (number_in x)) ∷ [])))
negated_gives (number_form t) env g h = rw h refl
negated_gives (set_form s) env g h = tt
negated_gives (truth_form r) env g h = tt
negated_gives unwritten env g h = tt

counted_gives : (f : FormTree) (env : List Value) (g : Got (List Value)) → GivesForm f env g →
    GivesForm (counted f) env (then_gives g (λ x. got (number (pos (length (set_in x))) ∷ [])))
counted_gives (number_form t) env g h = tt
counted_gives (set_form s) env g h = rw h refl
counted_gives (truth_form r) env g h = tt
counted_gives unwritten env g h = tt

opposite_gives : (f : FormTree) (env : List Value) (g : Got (List Value)) → GivesForm f env g →
    GivesForm (opposite f) env (then_gives g (λ x. got (truth (not (truth_in x)) ∷ [])))
opposite_gives (number_form t) env g h = tt
opposite_gives (set_form s) env g h = tt
opposite_gives (truth_form r) env g h = (not h.0, rw h.1 refl, decides_not (Holds r env) h.0 h.2)
opposite_gives unwritten env g h = tt

divided_gives : (f : FormTree) (k : ℤ) (env : List Value) (g : Got (List Value)) → GivesForm f env g →
    GivesForm (divided f k) env (then_gives g (λ x. got (number (quotient (number_in x) k) ∷ [])))
divided_gives (number_form t) k env g h = by (int_le (pos 1) k)
  where
    by : (b : Bool) → GivesForm (if b then number_form (term_div t k) else unwritten) env (then_gives g (λ x. got (number (quotient (number_in x) k) ∷ [])))
    by true = rw h refl
    by false = tt
divided_gives (set_form s) k env g h = tt
divided_gives (truth_form r) k env g h = tt
divided_gives unwritten k env g h = tt

left_gives : (f : FormTree) (k : ℤ) (env : List Value) (g : Got (List Value)) → GivesForm f env g →
    GivesForm (left_by f k) env (then_gives g (λ x. got (number (remainder (number_in x) k) ∷ [])))
left_gives (number_form t) k env g h = by (int_le (pos 1) k)
  where
    by : (b : Bool) → GivesForm (if b then number_form (term_mod t k) else unwritten) env (then_gives g (λ x. got (number (remainder (number_in x) k) ∷ [])))
    by true = rw h refl
    by false = tt
left_gives (set_form s) k env g h = tt
left_gives (truth_form r) k env g h = tt
left_gives unwritten k env g h = tt

one_at_most : (k : ℤ) → int_le (pos 1) k ≡ true → pos 1 ≤ℤ k
one_at_most k e = grind (arith, ints)

multiple_gives : (f : FormTree) (k : ℤ) (env : List Value) (g : Got (List Value)) → GivesForm f env g →
    GivesForm (multiple f k) env (then_gives g (λ x. got (truth (is_multiple k (number_in x)) ∷ [])))
multiple_gives (number_form t) k env g h = by (int_le (pos 1) k) refl
  where
    by : (b : Bool) → int_le (pos 1) k ≡ b →
        GivesForm (if b then truth_form (rel_divides k t) else unwritten) env (then_gives g (λ x. got (truth (is_multiple k (number_in x)) ∷ [])))
    by true e = (is_multiple k (val t env), rw h refl, divides_decided k (val t env) (one_at_most k e))
    by false e = tt
multiple_gives (set_form s) k env g h = tt
multiple_gives (truth_form r) k env g h = tt
multiple_gives unwritten k env g h = tt

-- ---- operations with two sides: what has to be shown of each kind of sides
paired_gives : (p : Pairing) (f g : FormTree) (env : List Value) (x y k : Got (List Value)) → GivesForm f env x → GivesForm g env y →
    ((t u : TermTree) → x ≡ got (number (val t env) ∷ []) → y ≡ got (number (val u env) ∷ []) → GivesForm (paired_numbers p t u) env k) →
    ((s t : SetTree) → x ≡ got (elements (members s env) ∷ []) → y ≡ got (elements (members t env) ∷ []) → GivesForm (paired_sets p s t) env k) →
    ((r s : RelTree) (a b : Bool) → x ≡ got (truth a ∷ []) → Decides (Holds r env) a → y ≡ got (truth b ∷ []) → Decides (Holds s env) b →
    GivesForm (paired_truths p r s) env k) →
    GivesForm (paired p f g) env k
paired_gives p (number_form t) (number_form u) env x y k h j n s r = n t u h j
paired_gives p (number_form t) (set_form u) env x y k h j n s r = tt
paired_gives p (number_form t) (truth_form u) env x y k h j n s r = tt
paired_gives p (number_form t) unwritten env x y k h j n s r = tt
paired_gives p (set_form t) (number_form u) env x y k h j n s r = tt
paired_gives p (set_form t) (set_form u) env x y k h j n s r = s t u h j
paired_gives p (set_form t) (truth_form u) env x y k h j n s r = tt
paired_gives p (set_form t) unwritten env x y k h j n s r = tt
paired_gives p (truth_form t) (number_form u) env x y k h j n s r = tt
paired_gives p (truth_form t) (set_form u) env x y k h j n s r = tt
paired_gives p (truth_form t) (truth_form u) env x y k h j n s r = r t u h.0 j.0 h.1 h.2 j.1 j.2
paired_gives p (truth_form t) unwritten env x y k h j n s r = tt
paired_gives p unwritten g env x y k h j n s r = tt

abbrev With : (List Value → List Value → Value) → Got (List Value) → Got (List Value) → Got (List Value)
With op x y = then_gives x (λ v. then_gives y (λ w. got (op v w ∷ [])))

sub_gives : (f g : FormTree) (env : List Value) (x y : Got (List Value)) → GivesForm f env x → GivesForm g env y →
    GivesForm (paired Sub f g) env (With (λ v w. number (number_in v -ℤ number_in w)) x y)
sub_gives f g env x y h j =
    paired_gives Sub f g env x y _ h j (λ t u e d. rw (e, d) refl) (λ s t e d. tt) (λ r s a b e d c i. tt)

mul_gives : (f g : FormTree) (env : List Value) (x y : Got (List Value)) → GivesForm f env x → GivesForm g env y →
    GivesForm (paired Mul f g) env (With (λ v w. number (number_in v *ℤ number_in w)) x y)
mul_gives f g env x y h j =
    paired_gives Mul f g env x y _ h j (λ t u e d. by t u e d (is_literal t || is_literal u)) (λ s t e d. tt) (λ r s a b e d c i. tt)
  where
    by : (t u : TermTree) → x ≡ got (number (val t env) ∷ []) → y ≡ got (number (val u env) ∷ []) → (b : Bool) →
        GivesForm (if b then number_form (term_mul t u) else unwritten) env (With (λ v w. number (number_in v *ℤ number_in w)) x y)
    by t u e d true = rw (e, d) refl
    by t u e d false = tt

diff_gives : (f g : FormTree) (env : List Value) (x y : Got (List Value)) → GivesForm f env x → GivesForm g env y →
    GivesForm (paired Diff f g) env (With (λ v w. elements (set_diff (set_in v) (set_in w))) x y)
diff_gives f g env x y h j =
    paired_gives Diff f g env x y _ h j (λ t u e d. tt) (λ s t e d. rw (e, d) refl) (λ r s a b e d c i. tt)

subset_gives : (f g : FormTree) (env : List Value) (x y : Got (List Value)) → GivesForm f env x → GivesForm g env y →
    GivesForm (paired Subset f g) env (With (λ v w. truth (is_subset (set_in v) (set_in w))) x y)
subset_gives f g env x y h j =
    paired_gives Subset f g env x y _ h j (λ t u e d. tt)
    (λ s t e d. (is_subset (members s env) (members t env), rw (e, d) refl, subset_decided (members s env) (members t env)))
    (λ r s a b e d c i. tt)

compare_gives : (o : Order) (f g : FormTree) (env : List Value) (x y : Got (List Value)) → GivesForm f env x → GivesForm g env y →
    GivesForm (paired (Compare o) f g) env (With (λ v w. truth (compared o (first_of v) (first_of w))) x y)
compare_gives o f g env x y h j =
    paired_gives (Compare o) f g env x y _ h j
    (λ t u e d. (compared o (number (val t env)) (number (val u env)), rw (e, d) refl, compares_decided o (val t env) (val u env)))
    (λ s t e d. by o s t e d) (λ r s a b e d c i. tt)
  where
    by : (o : Order) (s t : SetTree) → x ≡ got (elements (members s env) ∷ []) → y ≡ got (elements (members t env) ∷ []) →
        GivesForm (compared_sets o s t) env (With (λ v w. truth (compared o (first_of v) (first_of w))) x y)
    by Eq s t e d = (same_list (members s env) (members t env), rw (e, d) refl, same_set_decided (members s env) (members t env))
    by Ne s t e d = (not (same_list (members s env) (members t env)), rw (e, d) refl, other_set_decided (members s env) (members t env))
    by Lt s t e d = tt
    by Le s t e d = tt
    by Gt s t e d = tt
    by Ge s t e d = tt

-- ---- both, and either
true_holds : (r : RelTree) (env : List Value) → is_true r ≡ true → Holds r env
true_holds rel_true env e = tt
true_holds rel_false env e = absurd (cc)
true_holds (rel_compare o a b) env e = absurd (cc)
true_holds (rel_same_set a b) env e = absurd (cc)
true_holds (rel_other_set a b) env e = absurd (cc)
true_holds (rel_subset a b) env e = absurd (cc)
true_holds (rel_divides k t) env e = absurd (cc)
true_holds (rel_and a b) env e = absurd (cc)
true_holds (rel_or a b) env e = absurd (cc)
true_holds (rel_not a) env e = absurd (cc)

false_fails : (r : RelTree) (env : List Value) → is_false r ≡ true → Holds r env → ⊥
false_fails rel_true env e h = absurd (cc)
false_fails rel_false env e h = h
false_fails (rel_compare o a b) env e h = absurd (cc)
false_fails (rel_same_set a b) env e h = absurd (cc)
false_fails (rel_other_set a b) env e h = absurd (cc)
false_fails (rel_subset a b) env e h = absurd (cc)
false_fails (rel_divides k t) env e h = absurd (cc)
false_fails (rel_and a b) env e h = absurd (cc)
false_fails (rel_or a b) env e h = absurd (cc)
false_fails (rel_not a) env e h = absurd (cc)

pub both_hold : (r s : RelTree) (env : List Value) → Holds (both r s) env ↔ (Holds r env × Holds s env)
both_hold r s env = by (is_true r) (is_true s) refl refl
  where
    by : (a b : Bool) → is_true r ≡ a → is_true s ≡ b →
        Holds (if a then s else (if b then r else rel_and r s)) env ↔ (Holds r env × Holds s env)
    by true b e d = (λ h. (true_holds r env e, h), λ h. h.1)
    by false true e d = (λ h. (h, true_holds s env d), λ h. h.0)
    by false false e d = (λ h. h, λ h. h)

pub either_holds : (r s : RelTree) (env : List Value) → Holds (either r s) env ↔ (Holds r env ⊎ Holds s env)
either_holds r s env = by (is_false r) (is_false s) refl refl
  where
    by : (a b : Bool) → is_false r ≡ a → is_false s ≡ b →
        Holds (if a then s else (if b then r else rel_or r s)) env ↔ (Holds r env ⊎ Holds s env)
    by true b e d = (λ h. inr h, λ h. elim h [ inl x ↦ absurd (false_fails r env e x) | inr x ↦ x ])
    by false true e d = (λ h. inl h, λ h. elim h [ inl x ↦ x | inr x ↦ absurd (false_fails s env d x) ])
    by false false e d = (λ h. h, λ h. h)

both_decided : (r s : RelTree) (env : List Value) (a b : Bool) → Decides (Holds r env) a → Decides (Holds s env) b → Decides (Holds (both r s) env) (a && b)
both_decided r s env a b h j =
    decides_as _ _ (a && b) (both_hold r s env).1 (both_hold r s env).0 (decides_and (Holds r env) (Holds s env) a b h j)

either_decided : (r s : RelTree) (env : List Value) (a b : Bool) → Decides (Holds r env) a → Decides (Holds s env) b →
    Decides (Holds (either r s) env) (a || b)
either_decided r s env a b h j =
    decides_as _ _ (a || b) (either_holds r s env).1 (either_holds r s env).0 (decides_or (Holds r env) (Holds s env) a b h j)

and_gives : (f g : FormTree) (env : List Value) (p q : Path (List Value)) → GivesForm f env p.gives → GivesForm g env q.gives →
    GivesForm (paired And f g) env (then_path p (λ x. if truth_in x then q else gives_truth false)).gives
and_gives f g env p q h j =
    paired_gives And f g env p.gives q.gives _ h j (λ t u e d. tt) (λ s t e d. tt)
    (λ r s a b e d c i. (a && b, by a b e c, both_decided r s env a b d i))
  where
    by : (a b : Bool) → p.gives ≡ got (truth a ∷ []) → q.gives ≡ got (truth b ∷ []) →
        (then_path p (λ x. if truth_in x then q else gives_truth false)).gives ≡ got (truth (a && b) ∷ [])
    by true b e c = rw e c
    by false b e c = rw e refl

or_gives : (f g : FormTree) (env : List Value) (p q : Path (List Value)) → GivesForm f env p.gives → GivesForm g env q.gives →
    GivesForm (paired Or f g) env (then_path p (λ x. if truth_in x then gives_truth true else q)).gives
or_gives f g env p q h j =
    paired_gives Or f g env p.gives q.gives _ h j (λ t u e d. tt) (λ s t e d. tt)
    (λ r s a b e d c i. (a || b, by a b e c, either_decided r s env a b d i))
  where
    by : (a b : Bool) → p.gives ≡ got (truth a ∷ []) → q.gives ≡ got (truth b ∷ []) →
        (then_path p (λ x. if truth_in x then gives_truth true else q)).gives ≡ got (truth (a || b) ∷ [])
    by true b e c = rw e refl
    by false b e c = rw e c

-- ---- variables
value_gives : (f : FormTree) (env : List Value) (v : Value) → Stands f env v → GivesForm f env (meets_value v).gives
value_gives (number_form t) env v h = rw h refl
value_gives (set_form s) env v h = rw h refl
value_gives (truth_form r) env v h = (h.0, rw h.1 refl, h.2)
value_gives unwritten env v h = tt

var_gives : (fs : List FormTree) (env e : List Value) (x : ℕ) → AllStand fs env e → GivesForm (form_at fs x) env (meets_value (value_at e x)).gives
var_gives [] env e x h = tt
var_gives (f ∷ fs) env [] x h = absurd h
var_gives (f ∷ fs) env (v ∷ vs) zero h = value_gives f env v h.0
var_gives (f ∷ fs) env (v ∷ vs) (suc x) h = var_gives fs env vs x h.1

truth_gives : (t : Bool) (env : List Value) → GivesForm (truth_form (truth_rel t)) env (got (truth t ∷ []))
truth_gives true env = (true, refl, tt)
truth_gives false env = (false, refl, λ h. h)

-- ---- lists
nothing_joined : (p : Pairing) (fs : List FormTree) (cs : CodeTrees) (env : List Value) (k : Got (List Value)) → GivesForm (joined_in p fs unwritten cs) env k
nothing_joined p fs no_codes env k = tt
nothing_joined p fs (code_more c cs) env k = nothing_joined p fs cs env k

one_number : (z w : ℤ) → got (number z ∷ []) ≡ got (number w ∷ []) → z ≡ w
one_number z w e = cc

one_set : (xs ys : List ℤ) → got (elements xs ∷ []) ≡ got (elements ys ∷ []) → xs ≡ ys
one_set xs ys e = cc

-- one more summand behind z
sum_step : (fs : List FormTree) (cs : CodeTrees) (env e : List Value) (f g : FormTree) (z : ℤ) (y : Got (List Value)) → GivesForm f env (got (number z ∷ [])) →
    GivesForm g env y →
    ((h : FormTree) (w : ℤ) → GivesForm h env (got (number w ∷ [])) → GivesForm (joined_in Add fs h cs) env (sum_path cs e w).gives) →
    GivesForm (joined_in Add fs (paired Add f g) cs) env (then_gives y (λ x. (sum_path cs e (z +ℤ number_in x)).gives))
sum_step fs cs env e (number_form t) (number_form u) z y h j go =
    rw j (go (number_form (term_add t u)) (z +ℤ val u env) (rw (one_number z (val t env) h) refl))
sum_step fs cs env e (number_form t) (set_form u) z y h j go = nothing_joined Add fs cs env _
sum_step fs cs env e (number_form t) (truth_form u) z y h j go = nothing_joined Add fs cs env _
sum_step fs cs env e (number_form t) unwritten z y h j go = nothing_joined Add fs cs env _
sum_step fs cs env e (set_form t) (number_form u) z y h j go = nothing_joined Add fs cs env _
sum_step fs cs env e (set_form t) (set_form u) z y h j go = nothing_joined Add fs cs env _
sum_step fs cs env e (set_form t) (truth_form u) z y h j go = nothing_joined Add fs cs env _
sum_step fs cs env e (set_form t) unwritten z y h j go = nothing_joined Add fs cs env _
sum_step fs cs env e (truth_form t) (number_form u) z y h j go = nothing_joined Add fs cs env _
sum_step fs cs env e (truth_form t) (set_form u) z y h j go = nothing_joined Add fs cs env _
sum_step fs cs env e (truth_form t) (truth_form u) z y h j go = nothing_joined Add fs cs env _
sum_step fs cs env e (truth_form t) unwritten z y h j go = nothing_joined Add fs cs env _
sum_step fs cs env e unwritten g z y h j go = nothing_joined Add fs cs env _

-- an operation that joins sets alone
record Joins (p : Pairing) (join : List ℤ → List ℤ → List ℤ) (form : SetTree → SetTree → SetTree) : Type 0 where
  numbers : (t u : TermTree) → paired_numbers p t u ≡ unwritten
  sets : (s t : SetTree) → paired_sets p s t ≡ set_form (form s t)
  truths : (r s : RelTree) → paired_truths p r s ≡ unwritten
  members_are : (s t : SetTree) (env : List Value) → members (form s t) env ≡ join (members s env) (members t env)

unions : Joins Union set_union union_of
unions = record { numbers = λ t u. refl; sets = λ s t. refl; truths = λ r s. refl; members_are = λ s t env. refl }

inters : Joins Inter set_inter inter_of
inters = record { numbers = λ t u. refl; sets = λ s t. refl; truths = λ r s. refl; members_are = λ s t env. refl }

join_step : (p : Pairing) (join : List ℤ → List ℤ → List ℤ) (form : SetTree → SetTree → SetTree) → Joins p join form → (fs : List FormTree) (cs : CodeTrees)
    (env e : List Value) (f g : FormTree) (zs : List ℤ) (y : Got (List Value)) → GivesForm f env (got (elements zs ∷ [])) → GivesForm g env y →
    ((h : FormTree) (ws : List ℤ) → GivesForm h env (got (elements ws ∷ [])) → GivesForm (joined_in p fs h cs) env (join_path join cs e (Some ws)).gives) →
    GivesForm (joined_in p fs (paired p f g) cs) env (then_gives y (λ x. (join_path join cs e (Some (join zs (set_in x)))).gives))
join_step p join form is fs cs env e (number_form t) (number_form u) zs y h j go = rw (is.numbers t u) (nothing_joined p fs cs env _)
join_step p join form is fs cs env e (number_form t) (set_form u) zs y h j go = nothing_joined p fs cs env _
join_step p join form is fs cs env e (number_form t) (truth_form u) zs y h j go = nothing_joined p fs cs env _
join_step p join form is fs cs env e (number_form t) unwritten zs y h j go = nothing_joined p fs cs env _
join_step p join form is fs cs env e (set_form s) (number_form u) zs y h j go = nothing_joined p fs cs env _
join_step p join form is fs cs env e (set_form s) (set_form t) zs y h j go =
    rw (is.sets s t, j)
    (go (set_form (form s t)) (join zs (members t env)) (rw (one_set zs (members s env) h, is.members_are s t env) refl))
join_step p join form is fs cs env e (set_form s) (truth_form u) zs y h j go = nothing_joined p fs cs env _
join_step p join form is fs cs env e (set_form s) unwritten zs y h j go = nothing_joined p fs cs env _
join_step p join form is fs cs env e (truth_form r) (number_form u) zs y h j go = nothing_joined p fs cs env _
join_step p join form is fs cs env e (truth_form r) (set_form u) zs y h j go = nothing_joined p fs cs env _
join_step p join form is fs cs env e (truth_form r) (truth_form s) zs y h j go = rw (is.truths r s) (nothing_joined p fs cs env _)
join_step p join form is fs cs env e (truth_form r) unwritten zs y h j go = nothing_joined p fs cs env _
join_step p join form is fs cs env e unwritten g zs y h j go = nothing_joined p fs cs env _

-- the first set
join_first : (p : Pairing) (join : List ℤ → List ℤ → List ℤ) (fs : List FormTree) (cs : CodeTrees) (env e : List Value) (g : FormTree) (y : Got (List Value)) →
    GivesForm g env y →
    ((h : FormTree) (ws : List ℤ) → GivesForm h env (got (elements ws ∷ [])) → GivesForm (joined_in p fs h cs) env (join_path join cs e (Some ws)).gives) →
    GivesForm (joined_in p fs (if_set g) cs) env (then_gives y (λ x. (join_path join cs e (Some (set_in x))).gives))
join_first p join fs cs env e (number_form t) y j go = nothing_joined p fs cs env _
join_first p join fs cs env e (set_form s) y j go = rw j (go (set_form s) (members s env) refl)
join_first p join fs cs env e (truth_form q) y j go = nothing_joined p fs cs env _
join_first p join fs cs env e unwritten y j go = nothing_joined p fs cs env _

mutual
  form_gives : (fs : List FormTree) (c : CodeTree) (env e : List Value) → AllStand fs env e → GivesForm (form_in fs c) env (path c e).gives
  form_gives fs (code_lit k) env e h = refl
  form_gives fs (code_truth t) env e h = truth_gives t env
  form_gives fs (code_var x) env e h = var_gives fs env e x h
  form_gives fs (code_set_of no_codes) env e h = refl
  form_gives fs (code_set_of (code_more c cs)) env e h = tt
  form_gives fs (code_tuple cs) env e h = tt
  form_gives fs (code_sum cs) env e h = sum_gives fs cs env e h (number_form (term_lit (pos 0))) (pos 0) refl
  form_gives fs (code_sub a b) env e h = sub_gives (form_in fs a) (form_in fs b) env _ _ (form_gives fs a env e h) (form_gives fs b env e h)
  form_gives fs (code_mul a b) env e h = mul_gives (form_in fs a) (form_in fs b) env _ _ (form_gives fs a env e h) (form_gives fs b env e h)
  form_gives fs (code_neg a) env e h = negated_gives (form_in fs a) env _ (form_gives fs a env e h)
  form_gives fs (code_div a k) env e h = divided_gives (form_in fs a) k env _ (form_gives fs a env e h)
  form_gives fs (code_mod a k) env e h = left_gives (form_in fs a) k env _ (form_gives fs a env e h)
  form_gives fs (code_min cs) env e h = tt
  form_gives fs (code_max cs) env e h = tt
  form_gives fs (code_compare o a b) env e h = compare_gives o (form_in fs a) (form_in fs b) env _ _ (form_gives fs a env e h) (form_gives fs b env e h)
  form_gives fs (code_divides k a) env e h = multiple_gives (form_in fs a) k env _ (form_gives fs a env e h)
  form_gives fs (code_and a b) env e h = and_gives (form_in fs a) (form_in fs b) env (path a e) (path b e) (form_gives fs a env e h) (form_gives fs b env e h)
  form_gives fs (code_or a b) env e h = or_gives (form_in fs a) (form_in fs b) env (path a e) (path b e) (form_gives fs a env e h) (form_gives fs b env e h)
  form_gives fs (code_not a) env e h = opposite_gives (form_in fs a) env _ (form_gives fs a env e h)
  form_gives fs (code_union no_codes) env e h = refl
  form_gives fs (code_union (code_more c cs)) env e h =
      join_first Union set_union fs cs env e (form_in fs c) _ (form_gives fs c env e h)
      (λ g ws j. join_gives Union set_union union_of unions fs cs env e h g ws j)
  form_gives fs (code_inter no_codes) env e h = refl
  form_gives fs (code_inter (code_more c cs)) env e h =
      join_first Inter set_inter fs cs env e (form_in fs c) _ (form_gives fs c env e h)
      (λ g ws j. join_gives Inter set_inter inter_of inters fs cs env e h g ws j)
  form_gives fs (code_diff a b) env e h = diff_gives (form_in fs a) (form_in fs b) env _ _ (form_gives fs a env e h) (form_gives fs b env e h)
  form_gives fs (code_subset a b) env e h = subset_gives (form_in fs a) (form_in fs b) env _ _ (form_gives fs a env e h) (form_gives fs b env e h)
  form_gives fs (code_card a) env e h = counted_gives (form_in fs a) env _ (form_gives fs a env e h)
  form_gives fs (code_slice a b c) env e h = tt
  form_gives fs (code_fresh a b) env e h = tt
  form_gives fs (code_if t a b) env e h = tt
  form_gives fs (code_let first n a b) env e h = tt
  form_gives fs (code_solve n arms) env e h = tt

  sum_gives : (fs : List FormTree) (cs : CodeTrees) (env e : List Value) → AllStand fs env e → (f : FormTree) (z : ℤ) → GivesForm f env (got (number z ∷ [])) →
      GivesForm (joined_in Add fs f cs) env (sum_path cs e z).gives
  sum_gives fs no_codes env e h f z j = j
  sum_gives fs (code_more c cs) env e h f z j =
      sum_step fs cs env e f (form_in fs c) z _ j (form_gives fs c env e h) (λ g w i. sum_gives fs cs env e h g w i)

  join_gives : (p : Pairing) (join : List ℤ → List ℤ → List ℤ) (form : SetTree → SetTree → SetTree) → Joins p join form → (fs : List FormTree) (cs : CodeTrees)
      (env e : List Value) → AllStand fs env e → (f : FormTree) (zs : List ℤ) → GivesForm f env (got (elements zs ∷ [])) →
      GivesForm (joined_in p fs f cs) env (join_path join cs e (Some zs)).gives
  join_gives p join form is fs no_codes env e h f zs j = j
  join_gives p join form is fs (code_more c cs) env e h f zs j =
      join_step p join form is fs cs env e f (form_in fs c) zs _ j (form_gives fs c env e h) (λ g ws i. join_gives p join form is fs cs env e h g ws i)

pub forms_are_right : FormsAreRight
forms_are_right = form_gives
