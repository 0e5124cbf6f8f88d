-- Blocks that may stand for others.
use Rattle.std.proofs.Common.{◌≡◌, ℕ, Bool, true, false, ◌&&◌, cond, Option, Some, None, List, [], ◌∷◌, ◌++◌, length, nat_eq, refl, sym, ap, subst, ◌∙◌}
use Rattle.std.proofs.Math.Nat.{max-zero}
use Rattle.std.proofs.lemmas.Bool.{eqb-true}
use Rattle.cf_tree.specs.Meaning.{Got, got, none_at, Path, gives_only, then_gives, then_path, if_some, or_later, first_from, count_below, tuple_at, meets_all, truth_in, gives_truth, path}
use Rattle.cf_tree.specs.CodeTree.{CodeTree, code_and}
use Rattle.cf_tree.specs.Values.{Value, truth, first_of}
use Rattle.cf_stmt.specs.Blocks.{Block, give, none, leave, bind, part, join, test, arm, given, exec}
use Rattle.cf_stmt.specs.Expressions.{EvaluatesPlain}
use Rattle.cf_stmt.specs.Fitting.{fits, fit_together}
use Rattle.cf_stmt.specs.Guards.{StandsFor, are_one, both_given, else_none, ends_alike, guarded, guarded_arm, is_leave, is_none, is_test, never_leaves, single_arm, stop_of, tested}
use Rattle.cf_stmt.proofs.GuardLaws.{last_arm, nil_after, or_nothing}
use Rattle.cf_stmt.proofs.Parts.{Found}
use Rattle.cf_stmt.proofs.PlainBlocks.{over_two_parts}
use Rattle.cf_stmt.proofs.Paths.{the_path, only_then, then_then, then_alike, given_then, if_then, if_alike, later_alike, first_alike}

pub stands_self : (a : Block) → StandsFor a a
stands_self a = record { same = λ env. refl; plain = λ p. p }

pub stands_then : (a b c : Block) → StandsFor a b → StandsFor b c → StandsFor a c
stands_then a b c s t = record { same = λ env. t.same env ∙ s.same env; plain = λ p. t.plain (s.plain p) }

-- the same way on
some_alike : (f g : List Value → Found) → ((vs : List Value) → f vs ≡ g vs) → (o : Option (List Value)) → if_some o f ≡ if_some o g
some_alike f g h None = refl
some_alike f g h (Some vs) = h vs

on_alike : (p q : Found) (f g : List Value → Found) → p ≡ q → ((vs : List Value) → f vs ≡ g vs) →
    then_path p (λ o. if_some o f) ≡ then_path q (λ o. if_some o g)
on_alike p q f g e h = rw e (then_alike q _ _ (some_alike f g h))

pub stands_bind : (a b c d : Block) → StandsFor a c → StandsFor b d → StandsFor (bind a b) (bind c d)
stands_bind a b c d s t = record {
  same = λ env. on_alike (exec c env) (exec a env) _ _ (s.same env) (λ vs. t.same (env ++ vs));
  plain = λ p. (s.plain p.0, t.plain p.1);
}

pub stands_part : (a b c d : Block) → StandsFor a c → StandsFor b d → StandsFor (part a b) (part c d)
stands_part a b c d s t = record {
  same = λ env. on_alike (exec c env) (exec a env) _ _ (s.same env) (λ vs. t.same (first_of vs ∷ env));
  plain = λ p. (s.plain p.0, t.plain p.1);
}

pub stands_join : (a b c d : Block) → StandsFor a c → StandsFor b d → StandsFor (join a b) (join c d)
stands_join a b c d s t = record {
  same = λ env. on_alike (exec c env) (exec a env) _ _ (s.same env)
      (λ vs. ap (λ q. then_path q (λ g. if_some g (λ ws. gives_only (Some (vs ++ ws))))) (t.same env));
  plain = λ p. (s.plain p.0, t.plain p.1);
}

pub stands_test : (t a b u c d : Block) → StandsFor t u → StandsFor a c → StandsFor b d → StandsFor (test t a b) (test u c d)
stands_test t a b u c d r s q = record {
  same = λ env. on_alike (exec u env) (exec t env) _ _ (r.same env)
      (λ vs. if_alike (truth_in vs) (exec c env) (exec d env) (exec a env) (exec b env) (s.same env) (q.same env));
  plain = λ p. (r.plain p.0, s.plain p.1, q.plain p.2);
}

pub stands_arm : (ks : List ℕ) (a b c d : Block) → StandsFor a c → StandsFor b d → StandsFor (arm ks a b) (arm ks c d)
stands_arm ks a b c d s t = record {
  same = λ env. rw (first_alike (count_below ks) 0 (λ i. then_path (meets_all (tuple_at ks i)) (λ vs. exec c (env ++ vs)))
      (λ i. then_path (meets_all (tuple_at ks i)) (λ vs. exec a (env ++ vs)))
      (λ i. then_alike (meets_all (tuple_at ks i)) _ _ (λ vs. s.same (env ++ vs))))
      (then_alike (first_from (count_below ks) 0 (λ i. then_path (meets_all (tuple_at ks i)) (λ vs. exec a (env ++ vs)))) _ _
      (λ o. later_alike o (exec d env) (exec b env) (t.same env)));
  plain = λ p. (s.plain p.0, t.plain p.1);
}

-- ---- guards
else_plain : (n : ℕ) (b : Block) → EvaluatesPlain b → EvaluatesPlain (else_none n b)
else_plain n (give c) p = p
else_plain n (none m) p = tt
else_plain n leave p = tt
else_plain n (bind a b) p = (else_plain n a p.0, else_plain n b p.1)
else_plain n (part a b) p = (else_plain n a p.0, else_plain n b p.1)
else_plain n (join a b) p = (else_plain n a p.0, else_plain n b p.1)
else_plain n (test t a b) p = (else_plain n t p.0, else_plain n a p.1, else_plain n b p.2)
else_plain n (arm ks a b) p = (p.0, else_plain n b p.1)

pub stands_guards : (n : ℕ) (ks : List ℕ) (a b l : Block) → ks ≡ [] → l ≡ none n → b ≡ else_none n a → StandsFor (arm ks a l) b
stands_guards n ks a b l e f g = rw (e, f, g) (record { same = λ env. sym (last_arm n a env); plain = λ p. else_plain n a p.0 })

-- ---- an arm that is never left
both_left : (s t : Bool) → s && t ≡ true → s ≡ true
both_left true t e = refl
both_left false t e = e

both_right : (s t : Bool) → s && t ≡ true → t ≡ true
both_right true t e = e
both_right false t e = absurd (no e)
  where
    no : false ≡ true → ⊥
    no e = cc

not_true : false ≡ true → ⊥
not_true e = cc

-- the arm is not left
abbrev Stays : Found → Type 0
Stays p = p.gives ≡ got None → ⊥

stays_on : (p : Found) (f : List Value → Found) → Stays p → ((vs : List Value) → Stays (f vs)) → Stays (then_path p (λ o. if_some o f))
stays_on p f s t = by p.gives s
  where
    by : (g : Got (Option (List Value))) → (g ≡ got None → ⊥) → then_gives g (λ o. (if_some o f).gives) ≡ got None → ⊥
    by (got None) s e = s refl
    by (got (Some vs)) s e = t vs e
    by (none_at n) s e = cc

stays_or : (p q : Found) → Stays q → Stays (then_path p (λ o. or_later o q))
stays_or p q t = by p.gives
  where
    by : (g : Got (Option (List Value))) → then_gives g (λ o. (or_later o q).gives) ≡ got None → ⊥
    by (got None) e = t e
    by (got (Some vs)) e = cc
    by (none_at n) e = cc

stays_given : (p : Path (List Value)) → Stays (then_path p given)
stays_given p = by p.gives
  where
    by : (g : Got (List Value)) → then_gives g (λ vs. (given vs).gives) ≡ got None → ⊥
    by (got vs) e = cc
    by (none_at n) e = cc

stays_if : (t : Bool) (p q : Found) → Stays p → Stays q → Stays (cond t p q)
stays_if true p q s r = s
stays_if false p q s r = r

stays_some : (vs : List Value) → Stays (gives_only (Some vs))
stays_some vs e = cc

never : (b : Block) → never_leaves b ≡ true → (env : List Value) → Stays (exec b env)
never (give c) h env = stays_given (path c env)
never (none n) h env = λ e. cc
never leave h env = λ e. not_true h
never (bind a b) h env =
    stays_on (exec a env) _ (never a (both_left _ _ h) env) (λ vs. never b (both_right (never_leaves a) _ h) (env ++ vs))
never (part a b) h env =
    stays_on (exec a env) _ (never a (both_left _ _ h) env) (λ vs. never b (both_right (never_leaves a) _ h) (first_of vs ∷ env))
never (join a b) h env =
    stays_on (exec a env) _ (never a (both_left _ _ h) env)
    (λ vs. stays_on (exec b env) _ (never b (both_right (never_leaves a) _ h) env) (λ ws. stays_some (vs ++ ws)))
never (test t a b) h env =
    let rest : never_leaves a && never_leaves b ≡ true = both_right (never_leaves t) _ h in
    stays_on (exec t env) _ (never t (both_left _ _ h) env)
    (λ vs. stays_if (truth_in vs) (exec a env) (exec b env) (never a (both_left _ _ rest) env) (never b (both_right (never_leaves a) _ rest) env))
never (arm ks a b) h env =
    stays_or (first_from (count_below ks) 0 (λ i. then_path (meets_all (tuple_at ks i)) (λ vs. exec a (env ++ vs)))) (exec b env) (never b h env)

stays_behind : (p q : Found) → Stays p → then_path p (λ o. or_later o q) ≡ p
stays_behind p q s = by p.gives s
  where
    by : (g : Got (Option (List Value))) → (g ≡ got None → ⊥) → then_path (the_path g p.peak) (λ o. or_later o q) ≡ the_path g p.peak
    by (got None) s = absurd (s refl)
    by (got (Some vs)) s = ap (the_path (got (Some vs))) (max-zero p.peak)
    by (none_at n) s = refl

pub stands_never : (ks : List ℕ) (a b : Block) → ks ≡ [] → never_leaves a ≡ true → StandsFor (arm ks a b) a
stands_never ks a b e h = rw e (record { same = λ env. sym (by env); plain = λ p. p.0 })
  where
    by : (env : List Value) → exec (arm [] a b) env ≡ exec a env
    by env =
        ap (λ p. then_path p (λ f. or_later f (exec b env))) (or_nothing (then_path (gives_only []) (λ vs. exec a (env ++ vs)))
        ∙ (only_then [] (λ vs. exec a (env ++ vs)) ∙ ap (exec a) (nil_after env)))
        ∙ stays_behind (exec a env) (exec b env) (never a h env)

-- ---- an arm by what it is
stop_is : (b : Block) (n : ℕ) → stop_of b ≡ Some n → b ≡ none n
stop_is (none m) n e = cc
stop_is (give c) n e = cc
stop_is leave n e = cc
stop_is (bind x y) n e = cc
stop_is (part x y) n e = cc
stop_is (join x y) n e = cc
stop_is (test t x y) n e = cc
stop_is (arm ks x y) n e = cc

no_items : (ks : List ℕ) → length ks ≡ 0 → ks ≡ []
no_items [] e = refl
no_items (k ∷ ks) e = cc

single_stands : (o : Option ℕ) (ks : List ℕ) (a b : Block) → stop_of b ≡ o → ks ≡ [] → StandsFor (arm ks a b) (single_arm o ks a b)
single_stands (Some n) ks a b e l = stands_guards n ks a (else_none n a) b l (stop_is b n e) refl
single_stands None ks a b e l = by (never_leaves a) refl
  where
    by : (t : Bool) → never_leaves a ≡ t → StandsFor (arm ks a b) (cond t a (arm ks a b))
    by true h = stands_never ks a b l h
    by false h = stands_self (arm ks a b)

arm_stands : (ks : List ℕ) (a b : Block) → StandsFor (arm ks a b) (guarded_arm ks a b)
arm_stands ks a b = by (nat_eq (length ks) 0) refl
  where
    by : (t : Bool) → nat_eq (length ks) 0 ≡ t → StandsFor (arm ks a b) (cond t (single_arm (stop_of b) ks a b) (arm ks a b))
    by true h = single_stands (stop_of b) ks a b refl (no_items ks (eqb-true (length ks) 0 h))
    by false h = stands_self (arm ks a b)

-- ---- tests side by side
none_is : (m : ℕ) (b : Block) → is_none m b ≡ true → none m ≡ b
none_is m (none n) e = ap none (eqb-true m n e)
none_is m (give c) e = absurd (not_true e)
none_is m leave e = absurd (not_true e)
none_is m (bind x y) e = absurd (not_true e)
none_is m (part x y) e = absurd (not_true e)
none_is m (join x y) e = absurd (not_true e)
none_is m (test t x y) e = absurd (not_true e)
none_is m (arm ks x y) e = absurd (not_true e)

leave_is : (b : Block) → is_leave b ≡ true → leave ≡ b
leave_is leave e = refl
leave_is (give c) e = absurd (not_true e)
leave_is (none n) e = absurd (not_true e)
leave_is (bind x y) e = absurd (not_true e)
leave_is (part x y) e = absurd (not_true e)
leave_is (join x y) e = absurd (not_true e)
leave_is (test t x y) e = absurd (not_true e)
leave_is (arm ks x y) e = absurd (not_true e)

ends_are : (a b : Block) → ends_alike a b ≡ true → a ≡ b
ends_are leave b e = leave_is b e
ends_are (none m) b e = none_is m b e
ends_are (give c) b e = absurd (not_true e)
ends_are (bind x y) b e = absurd (not_true e)
ends_are (part x y) b e = absurd (not_true e)
ends_are (join x y) b e = absurd (not_true e)
ends_are (test t x y) b e = absurd (not_true e)
ends_are (arm ks x y) b e = absurd (not_true e)

both_same : (c d : CodeTree) (a b : Block) (env : List Value) →
    exec (test (give (code_and c d)) a b) env ≡ exec (test (give c) (test (give d) a b) b) env
both_same c d a b env =
    let on : List Value → Found = λ vs. cond (truth_in vs) (exec a env) (exec b env) in
    given_then (path (code_and c d) env) on
    ∙ (then_then (path c env) (λ x. cond (truth_in x) (path d env) (gives_truth false)) on
    ∙ (then_alike (path c env) _ (λ x. cond (truth_in x) (exec (test (give d) a b) env) (exec b env))
    (λ x. if_then (truth_in x) (path d env) (gives_truth false) on
    ∙ if_alike (truth_in x) (then_path (path d env) on) (then_path (gives_truth false) on) (exec (test (give d) a b) env) (exec b env)
    (sym (given_then (path d env) on)) (only_then (truth false ∷ []) on))
    ∙ sym (given_then (path c env) (λ x. cond (truth_in x) (exec (test (give d) a b) env) (exec b env)))))

stands_both : (c d : CodeTree) (a l b : Block) → fits 1 c ≡ true → fits 1 d ≡ true → l ≡ b →
    StandsFor (test (give c) (test (give d) a l) b) (test (give (code_and c d)) a b)
stands_both c d a l b h k e = rw e (record { same = both_same c d a b; plain = λ p. (over_two_parts c d h k, p.1.1, p.2) })

one_stands : (t u a l b : Block) → are_one t u l b ≡ true → StandsFor (test t (test u a l) b) (test (both_given t u) a b)
one_stands (give c) (give d) a l b h =
    let fit : fit_together c d ≡ true = both_left (fit_together c d) _ h in
    let each : fits 1 c && fits 1 d ≡ true = both_left (fits 1 c && fits 1 d) _ fit in
    stands_both c d a l b (both_left (fits 1 c) _ each) (both_right (fits 1 c) _ each) (ends_are l b (both_right (fit_together c d) _ h))
one_stands t u a l b h = absurd (not_true h)

yes_stands : (t a b c : Block) → StandsFor a c → StandsFor (test t a b) (test t c b)
yes_stands t a b c s = stands_test t a b t c b (stands_self t) s (stands_self b)

-- one test of both, or the one within the other
one_or_two : (t u a l b one two : Block) → StandsFor (test (both_given t u) a b) one → StandsFor (test u a l) two →
    StandsFor (test t (test u a l) b) (cond (are_one t u l b) one (test t two b))
one_or_two t u a l b one two s r = by (are_one t u l b) refl
  where
    by : (o : Bool) → are_one t u l b ≡ o → StandsFor (test t (test u a l) b) (cond o one (test t two b))
    by true h = stands_then (test t (test u a l) b) (test (both_given t u) a b) one (one_stands t u a l b h) s
    by false h = yes_stands t (test u a l) b two r

pub not_tested : (t a b : Block) → is_test a ≡ false → test t (guarded a) b ≡ tested t a b
not_tested t (test u x y) b h = absurd (not_true (sym h))
not_tested t a b h = refl

pub twice_tested : (t u v x y z b : Block) → v ≡ guarded u → z ≡ guarded y →
    cond (are_one t v z b) (tested (both_given t v) x b) (test t (tested v x z) b) ≡ tested t (test u x y) b
twice_tested t u v x y z b e f = rw (e, f) refl

-- ---- a block with guards, alone and between two as a test
abbrev Stands : Block → Type 0
Stands a = StandsFor a (guarded a) × ((t b : Block) → StandsFor (test t a b) (tested t a b))

alone : (a : Block) → is_test a ≡ false → StandsFor a (guarded a) → Stands a
alone a h s = (s, λ t b. subst (StandsFor (test t a b)) (not_tested t a b h) (yes_stands t a b (guarded a) s))

both_stand : (a : Block) → Stands a
both_stand (give c) = alone (give c) refl (stands_self (give c))
both_stand (none n) = alone (none n) refl (stands_self (none n))
both_stand leave = alone leave refl (stands_self leave)
both_stand (bind a b) = alone (bind a b) refl (stands_bind a b (guarded a) (guarded b) (both_stand a).0 (both_stand b).0)
both_stand (part a b) = alone (part a b) refl (stands_part a b (guarded a) (guarded b) (both_stand a).0 (both_stand b).0)
both_stand (join a b) = alone (join a b) refl (stands_join a b (guarded a) (guarded b) (both_stand a).0 (both_stand b).0)
both_stand (arm ks a b) =
    alone (arm ks a b) refl
    (stands_then (arm ks a b) (arm ks (guarded a) (guarded b)) (guarded_arm ks (guarded a) (guarded b))
    (stands_arm ks a b (guarded a) (guarded b) (both_stand a).0 (both_stand b).0) (arm_stands ks (guarded a) (guarded b)))
both_stand (test u a l) =
    let around : StandsFor (test u a l) (test (guarded u) a (guarded l)) =
    stands_test u a l (guarded u) a (guarded l) (both_stand u).0 (stands_self a) (both_stand l).0 in (
      stands_then (test u a l) (test (guarded u) a (guarded l)) (tested (guarded u) a (guarded l)) around ((both_stand a).1 (guarded u) (guarded l)),
      λ t b. stands_then (test t (test u a l) b) (test t (test (guarded u) a (guarded l)) b) (tested t (test u a l) b)
          (yes_stands t (test u a l) b (test (guarded u) a (guarded l)) around)
          (one_or_two t (guarded u) a (guarded l) b (tested (both_given t (guarded u)) a b) (tested (guarded u) a (guarded l))
          ((both_stand a).1 (both_given t (guarded u)) b) ((both_stand a).1 (guarded u) (guarded l))),
    )

pub guarded_stands : (b : Block) → StandsFor b (guarded b)
guarded_stands b = (both_stand b).0
