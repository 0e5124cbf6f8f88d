-- The relation that stands for a wide relation holds where that does, and the one for its negation where it does not. The alternatives of a form cover it.
use Rattle.std.specs.Prelude.{ℕ, ℤ, pos, ◌≡◌, Bool, true, false, not, ◌&&◌, ◌||◌, Option, Some, None, if◌then◌else◌, List, map}
use Rattle.std.specs.Int.{int_max, int_min}
use Rattle.std.proofs.Common.{refl, sym, ◌∙◌, arith}
use Rattle.std.proofs.lemmas.Int.{ints}
use Rattle.cf_tree.specs.declared.base.Order.TheVariants.{Lt, Le, Gt, Ge}
use Rattle.cf_tree.specs.Allowed.{chained}
use Rattle.cf_tree.specs.Relation.{Holds, val, members}
use Rattle.cf_tree.specs.RelTree.{SetTree, empty_set, set_var, union_of, inter_of, diff_of, term_lit, term_var, term_card, term_neg, term_add, term_sub, term_mul, term_div, term_mod, term_abs, RelTree, rel_compare, rel_same_set, rel_other_set, rel_subset, rel_divides, rel_and, rel_or, rel_not}
use Rattle.cf_tree.specs.Values.{Value, number, number_of, truth_of, elements_of, value_at, same_truth}
use Rattle.cf_form.specs.Alternatives.{over_one, over_two, links}
use Rattle.cf_form.specs.Polarity.{Truths, truth_holds, truth_fails, not_or, two_ways, itself, set_alternatives, alternatives, all_alternatives, holding, failing}
use Rattle.cf_form.specs.Wide.{WideTerm, wide_lit, wide_var, wide_card, wide_neg, wide_add, wide_sub, wide_mul, wide_div, wide_mod, wide_abs, wide_if, wide_min, wide_max, WideTerms, no_wides, wide_more, WideSet, wide_empty, wide_set, wide_union, wide_inter, wide_diff, wide_if_set, WideRel, wide_true, wide_false, wide_truth, wide_compare, wide_same_set, wide_other_set, wide_subset, wide_divides, wide_not, wide_and, wide_or, wide_implies, wide_same, wide_other, wide_if_truth, wide_chain, is_plain}
use Rattle.cf_form.proofs.GuardLaws.{Covers, covers_alone, covers_one, covers_two, covers_ways, least_is, greatest_is, Is, AllCover, covers_best, AtomSays, atom_says, not_atom_says, covers_compared, all_links_say, some_links_say}
use Rattle.cf_form.proofs.HalfLaws.{all_holds, some_holds}
use Rattle.cf_form.proofs.SaidBy.{Says, says_and, says_or, says_not, says_same, says_as, not_twice, not_and, not_either, not_implies, other_ways, if_ways, not_if_ways, same_set_says, other_set_says, subset_says, divides_says}
use Rattle.cf_form.proofs.WideMeaning.{wide_value, wide_values, wide_members, wide_holds, VariableFacts, TermOver, TermsOver, SetOver, RelOver}

-- a truth variable of the source is t: so is its value in the branch, or its number is 1 or 0
abbrev pub TruthAgrees : Option Bool → Bool → Value → Type 0
TruthAgrees (Some b) t v = b ≡ t
TruthAgrees None t v = number_of v ≡ (if t then pos 1 else pos 0)

-- each variable is the same in an environment of the source and in one of language 2
abbrev pub agreeing : Truths → List Value → List Value → VariableFacts
agreeing truths source env =
    record {
      number = λ x. number_of (value_at env x) ≡ number_of (value_at source x);
      set = λ x. elements_of (value_at env x) ≡ elements_of (value_at source x);
      truth = λ x. TruthAgrees (truths x) (truth_of (value_at source x)) (value_at env x);
    }

truth_holds_says : (env : List Value) (o : Option Bool) (x : ℕ) (t : Bool) → TruthAgrees o t (value_at env x) → Says (Holds (truth_holds o x) env) t
truth_holds_says env (Some true) x true e = tt
truth_holds_says env (Some true) x false e = λ _. let f : true ≡ false = e in cc
truth_holds_says env (Some false) x true e = let f : false ≡ true = e in cc
truth_holds_says env (Some false) x false e = λ h. h
truth_holds_says env None x true e = let f : number_of (value_at env x) ≡ pos 1 = e in omega (arith, ints)
truth_holds_says env None x false e = λ h. let f : number_of (value_at env x) ≡ pos 0 = e in omega (arith, ints)

truth_fails_says : (env : List Value) (o : Option Bool) (x : ℕ) (t : Bool) → TruthAgrees o t (value_at env x) → Says (Holds (truth_fails o x) env) (not t)
truth_fails_says env (Some true) x true e = λ h. h
truth_fails_says env (Some true) x false e = let f : true ≡ false = e in cc
truth_fails_says env (Some false) x true e = λ _. let f : false ≡ true = e in cc
truth_fails_says env (Some false) x false e = tt
truth_fails_says env None x t e = says_not (Holds (truth_holds None x) env) t (truth_holds_says env None x t e)

not_or_says : (env : List Value) (plain : Bool) (r s : RelTree) (t : Bool) → AtomSays env t r → AtomSays env (not t) s → AtomSays env (not t) (not_or plain r s)
not_or_says env true r s t h k = says_not (Holds r env) t h
not_or_says env false r s t h k = k

two_ways_say : (env : List Value) (a b c d : RelTree) (s t u v : Bool) → AtomSays env s a → AtomSays env t b → AtomSays env u c → AtomSays env v d
    → AtomSays env (s && t || u && v) (two_ways a b c d)
two_ways_say env a b c d s t u v h i j k =
    says_or (Holds a env × Holds b env) (Holds c env × Holds d env) (s && t) (u && v) (says_and (Holds a env) (Holds b env) s t h i)
    (says_and (Holds c env) (Holds d env) u v j k)

-- the value of an `if`
at_true : {A : Type 0} (t : Bool) (a b : A) → t ≡ true → a ≡ (if t then a else b)
at_true t a b e = rw e refl

at_false : {A : Type 0} (t : Bool) (a b : A) → t ≡ false → b ≡ (if t then a else b)
at_false t a b e = rw e refl

abbrev AreMembers : List Value → List ℤ → SetTree → Type 0
AreMembers env zs a = members a env ≡ zs

module _ (truths : Truths) (source env : List Value) where
  mutual
    pub set_covers : (s : WideSet) → SetOver (agreeing truths source env) s → Covers (AreMembers env (wide_members s source)) env (set_alternatives truths s)
    set_covers wide_empty h = covers_alone _ env empty_set refl
    set_covers (wide_set x) h = covers_alone _ env (set_var x) h
    set_covers (wide_union a b) h =
        covers_two (AreMembers env (wide_members a source)) (AreMembers env (wide_members b source)) (AreMembers env (wide_members (wide_union a b) source))
        union_of env _ _ (λ x y e f. rw (e, f) refl) (set_covers a h.0) (set_covers b h.1)
    set_covers (wide_inter a b) h =
        covers_two (AreMembers env (wide_members a source)) (AreMembers env (wide_members b source)) (AreMembers env (wide_members (wide_inter a b) source))
        inter_of env _ _ (λ x y e f. rw (e, f) refl) (set_covers a h.0) (set_covers b h.1)
    set_covers (wide_diff a b) h =
        covers_two (AreMembers env (wide_members a source)) (AreMembers env (wide_members b source)) (AreMembers env (wide_members (wide_diff a b) source))
        diff_of env _ _ (λ x y e f. rw (e, f) refl) (set_covers a h.0) (set_covers b h.1)
    set_covers (wide_if_set c a b) h =
        covers_ways (AreMembers env (wide_members a source)) (AreMembers env (wide_members b source)) (AreMembers env (wide_members (wide_if_set c a b) source))
        env (holding truths c) (failing truths c) (wide_holds c source) _ _ (holding_says c h.0) (failing_says c h.0)
        (λ e x f. f ∙ at_true (wide_holds c source) (wide_members a source) (wide_members b source) e)
        (λ e x f. f ∙ at_false (wide_holds c source) (wide_members a source) (wide_members b source) e)
        (set_covers a h.1) (set_covers b h.2)

    pub term_covers : (t : WideTerm) → TermOver (agreeing truths source env) t → Covers (Is env (wide_value t source)) env (alternatives truths t)
    term_covers (wide_lit k) h = covers_alone _ env (term_lit k) refl
    term_covers (wide_var x) h = covers_alone _ env (term_var x) h
    term_covers (wide_card s) h =
        covers_one (AreMembers env (wide_members s source)) (Is env (wide_value (wide_card s) source)) term_card env _ (λ x e. rw e refl) (set_covers s h)
    term_covers (wide_neg a) h =
        covers_one (Is env (wide_value a source)) (Is env (wide_value (wide_neg a) source)) term_neg env _ (λ x e. rw e refl) (term_covers a h)
    term_covers (wide_add a b) h =
        covers_two (Is env (wide_value a source)) (Is env (wide_value b source)) (Is env (wide_value (wide_add a b) source)) term_add env _ _
        (λ x y e f. rw (e, f) refl) (term_covers a h.0) (term_covers b h.1)
    term_covers (wide_sub a b) h =
        covers_two (Is env (wide_value a source)) (Is env (wide_value b source)) (Is env (wide_value (wide_sub a b) source)) term_sub env _ _
        (λ x y e f. rw (e, f) refl) (term_covers a h.0) (term_covers b h.1)
    term_covers (wide_mul a b) h =
        covers_two (Is env (wide_value a source)) (Is env (wide_value b source)) (Is env (wide_value (wide_mul a b) source)) term_mul env _ _
        (λ x y e f. rw (e, f) refl) (term_covers a h.0) (term_covers b h.1)
    term_covers (wide_div a k) h =
        covers_one (Is env (wide_value a source)) (Is env (wide_value (wide_div a k) source)) (λ t. term_div t k) env _ (λ x e. rw e refl) (term_covers a h.0)
    term_covers (wide_mod a k) h =
        covers_one (Is env (wide_value a source)) (Is env (wide_value (wide_mod a k) source)) (λ t. term_mod t k) env _ (λ x e. rw e refl) (term_covers a h.0)
    term_covers (wide_abs a) h =
        covers_one (Is env (wide_value a source)) (Is env (wide_value (wide_abs a) source)) term_abs env _ (λ x e. rw e refl) (term_covers a h)
    term_covers (wide_if c a b) h =
        covers_ways (Is env (wide_value a source)) (Is env (wide_value b source)) (Is env (wide_value (wide_if c a b) source)) env (holding truths c)
        (failing truths c) (wide_holds c source) _ _ (holding_says c h.0) (failing_says c h.0)
        (λ e x f. f ∙ at_true (wide_holds c source) (wide_value a source) (wide_value b source) e)
        (λ e x f. f ∙ at_false (wide_holds c source) (wide_value a source) (wide_value b source) e)
        (term_covers a h.1) (term_covers b h.2)
    term_covers (wide_min no_wides) h = absurd h.0
    term_covers (wide_min (wide_more t ts)) h =
        covers_best Le Gt int_min least_is env (wide_value t source) (wide_values ts source) (all_alternatives truths (wide_more t ts))
        (term_covers t h.1.0, terms_cover ts h.1.1)
    term_covers (wide_max no_wides) h = absurd h.0
    term_covers (wide_max (wide_more t ts)) h =
        covers_best Ge Lt int_max greatest_is env (wide_value t source) (wide_values ts source) (all_alternatives truths (wide_more t ts))
        (term_covers t h.1.0, terms_cover ts h.1.1)

    pub terms_cover : (ts : WideTerms) → TermsOver (agreeing truths source env) ts → AllCover env (wide_values ts source) (all_alternatives truths ts)
    terms_cover no_wides h = tt
    terms_cover (wide_more t ts) h = (term_covers t h.0, terms_cover ts h.1)

    pub holding_says : (r : WideRel) → RelOver (agreeing truths source env) r → Says (Holds (holding truths r) env) (wide_holds r source)
    holding_says wide_true h = tt
    holding_says wide_false h = λ x. x
    holding_says (wide_truth x) h = truth_holds_says env (truths x) x (truth_of (value_at source x)) h
    holding_says (wide_compare o a b) h =
        atom_says env (wide_holds (wide_compare o a b) source) (over_two (rel_compare o) (alternatives truths a) (alternatives truths b))
        (covers_compared env o (wide_value a source) (wide_value b source) (alternatives truths a) (alternatives truths b) (term_covers a h.0)
        (term_covers b h.1))
    holding_says (wide_same_set a b) h =
        atom_says env (wide_holds (wide_same_set a b) source) (over_two rel_same_set (set_alternatives truths a) (set_alternatives truths b))
        (covers_two (AreMembers env (wide_members a source)) (AreMembers env (wide_members b source)) (AtomSays env (wide_holds (wide_same_set a b) source))
        rel_same_set env _ _ (λ x y e f. rw (← e, ← f) (same_set_says (members x env) (members y env))) (set_covers a h.0) (set_covers b h.1))
    holding_says (wide_other_set a b) h =
        atom_says env (wide_holds (wide_other_set a b) source) (over_two rel_other_set (set_alternatives truths a) (set_alternatives truths b))
        (covers_two (AreMembers env (wide_members a source)) (AreMembers env (wide_members b source)) (AtomSays env (wide_holds (wide_other_set a b) source))
        rel_other_set env _ _ (λ x y e f. rw (← e, ← f) (other_set_says (members x env) (members y env))) (set_covers a h.0) (set_covers b h.1))
    holding_says (wide_subset a b) h =
        atom_says env (wide_holds (wide_subset a b) source) (over_two rel_subset (set_alternatives truths a) (set_alternatives truths b))
        (covers_two (AreMembers env (wide_members a source)) (AreMembers env (wide_members b source)) (AtomSays env (wide_holds (wide_subset a b) source))
        rel_subset env _ _ (λ x y e f. rw (← e, ← f) (subset_says (members x env) (members y env))) (set_covers a h.0) (set_covers b h.1))
    holding_says (wide_divides k t) h =
        atom_says env (wide_holds (wide_divides k t) source) (over_one (rel_divides k) (alternatives truths t))
        (covers_one (Is env (wide_value t source)) (AtomSays env (wide_holds (wide_divides k t) source)) (rel_divides k) env _
        (λ x e. rw (← e) (divides_says k (val x env) h.0.0)) (term_covers t h.1))
    holding_says (wide_not p) h = failing_says p h
    holding_says (wide_and p q) h = says_and _ _ (wide_holds p source) (wide_holds q source) (holding_says p h.0) (holding_says q h.1)
    holding_says (wide_or p q) h = says_or _ _ (wide_holds p source) (wide_holds q source) (holding_says p h.0) (holding_says q h.1)
    holding_says (wide_implies p q) h = says_or _ _ (not (wide_holds p source)) (wide_holds q source) (failing_says p h.0) (holding_says q h.1)
    holding_says (wide_same p q) h =
        two_ways_say env (holding truths p) (holding truths q) (failing truths p) (failing truths q) (wide_holds p source) (wide_holds q source)
        (not (wide_holds p source)) (not (wide_holds q source)) (holding_says p h.0) (holding_says q h.1) (failing_says p h.0) (failing_says q h.1)
    holding_says (wide_other p q) h =
        says_same _ _ _ (other_ways (wide_holds p source) (wide_holds q source))
        (two_ways_say env (holding truths p) (failing truths q) (failing truths p) (holding truths q) (wide_holds p source) (not (wide_holds q source))
        (not (wide_holds p source)) (wide_holds q source) (holding_says p h.0) (failing_says q h.1) (failing_says p h.0) (holding_says q h.1))
    holding_says (wide_if_truth c p q) h =
        says_same _ _ _ (if_ways (wide_holds c source) (wide_holds p source) (wide_holds q source))
        (two_ways_say env (holding truths c) (holding truths p) (failing truths c) (holding truths q) (wide_holds c source) (wide_holds p source)
        (not (wide_holds c source)) (wide_holds q source) (holding_says c h.0) (holding_says p h.1) (failing_says c h.0) (holding_says q h.2))
    holding_says (wide_chain orders ts) h =
        let links_of = links itself orders (all_alternatives truths ts) in
        let whole = all_holds links_of env in
        says_as (chained orders (map number (wide_values ts source))) whole.1 whole.0
        (all_links_say env orders (wide_values ts source) (all_alternatives truths ts) (terms_cover ts h))

    pub failing_says : (r : WideRel) → RelOver (agreeing truths source env) r → Says (Holds (failing truths r) env) (not (wide_holds r source))
    failing_says wide_true h = λ k. k tt
    failing_says wide_false h = λ x. x
    failing_says (wide_truth x) h = truth_fails_says env (truths x) x (truth_of (value_at source x)) h
    failing_says (wide_compare o a b) h =
        not_atom_says env (wide_holds (wide_compare o a b) source) (over_two (rel_compare o) (alternatives truths a) (alternatives truths b))
        (covers_compared env o (wide_value a source) (wide_value b source) (alternatives truths a) (alternatives truths b) (term_covers a h.0)
        (term_covers b h.1))
    failing_says (wide_same_set a b) h =
        not_atom_says env (wide_holds (wide_same_set a b) source) (over_two rel_same_set (set_alternatives truths a) (set_alternatives truths b))
        (covers_two (AreMembers env (wide_members a source)) (AreMembers env (wide_members b source)) (AtomSays env (wide_holds (wide_same_set a b) source))
        rel_same_set env _ _ (λ x y e f. rw (← e, ← f) (same_set_says (members x env) (members y env))) (set_covers a h.0) (set_covers b h.1))
    failing_says (wide_other_set a b) h =
        not_atom_says env (wide_holds (wide_other_set a b) source) (over_two rel_other_set (set_alternatives truths a) (set_alternatives truths b))
        (covers_two (AreMembers env (wide_members a source)) (AreMembers env (wide_members b source)) (AtomSays env (wide_holds (wide_other_set a b) source))
        rel_other_set env _ _ (λ x y e f. rw (← e, ← f) (other_set_says (members x env) (members y env))) (set_covers a h.0) (set_covers b h.1))
    failing_says (wide_subset a b) h =
        not_atom_says env (wide_holds (wide_subset a b) source) (over_two rel_subset (set_alternatives truths a) (set_alternatives truths b))
        (covers_two (AreMembers env (wide_members a source)) (AreMembers env (wide_members b source)) (AtomSays env (wide_holds (wide_subset a b) source))
        rel_subset env _ _ (λ x y e f. rw (← e, ← f) (subset_says (members x env) (members y env))) (set_covers a h.0) (set_covers b h.1))
    failing_says (wide_divides k t) h =
        not_atom_says env (wide_holds (wide_divides k t) source) (over_one (rel_divides k) (alternatives truths t))
        (covers_one (Is env (wide_value t source)) (AtomSays env (wide_holds (wide_divides k t) source)) (rel_divides k) env _
        (λ x e. rw (← e) (divides_says k (val x env) h.0.0)) (term_covers t h.1))
    failing_says (wide_not p) h =
        not_or_says env (is_plain p) (failing truths p) (holding truths p) (not (wide_holds p source)) (failing_says p h)
        (says_same _ _ _ (sym (not_twice (wide_holds p source))) (holding_says p h))
    failing_says (wide_and p q) h =
        not_or_says env (is_plain p && is_plain q) (rel_and (holding truths p) (holding truths q)) (rel_or (failing truths p) (failing truths q))
        (wide_holds p source && wide_holds q source)
        (says_and _ _ (wide_holds p source) (wide_holds q source) (holding_says p h.0) (holding_says q h.1))
        (says_same _ _ _ (not_and (wide_holds p source) (wide_holds q source))
        (says_or _ _ (not (wide_holds p source)) (not (wide_holds q source)) (failing_says p h.0) (failing_says q h.1)))
    failing_says (wide_or p q) h =
        not_or_says env (is_plain p && is_plain q) (rel_or (holding truths p) (holding truths q)) (rel_and (failing truths p) (failing truths q))
        (wide_holds p source || wide_holds q source)
        (says_or _ _ (wide_holds p source) (wide_holds q source) (holding_says p h.0) (holding_says q h.1))
        (says_same _ _ _ (not_either (wide_holds p source) (wide_holds q source))
        (says_and _ _ (not (wide_holds p source)) (not (wide_holds q source)) (failing_says p h.0) (failing_says q h.1)))
    failing_says (wide_implies p q) h =
        says_same _ _ _ (not_implies (wide_holds p source) (wide_holds q source))
        (says_and _ _ (wide_holds p source) (not (wide_holds q source)) (holding_says p h.0) (failing_says q h.1))
    failing_says (wide_same p q) h =
        says_same _ _ _ (other_ways (wide_holds p source) (wide_holds q source))
        (two_ways_say env (holding truths p) (failing truths q) (failing truths p) (holding truths q) (wide_holds p source) (not (wide_holds q source))
        (not (wide_holds p source)) (wide_holds q source) (holding_says p h.0) (failing_says q h.1) (failing_says p h.0) (holding_says q h.1))
    failing_says (wide_other p q) h =
        says_same _ _ _ (sym (not_twice (same_truth (wide_holds p source) (wide_holds q source))))
        (two_ways_say env (holding truths p) (holding truths q) (failing truths p) (failing truths q) (wide_holds p source) (wide_holds q source)
        (not (wide_holds p source)) (not (wide_holds q source)) (holding_says p h.0) (holding_says q h.1) (failing_says p h.0) (failing_says q h.1))
    failing_says (wide_if_truth c p q) h =
        says_same _ _ _ (not_if_ways (wide_holds c source) (wide_holds p source) (wide_holds q source))
        (two_ways_say env (holding truths c) (failing truths p) (failing truths c) (failing truths q) (wide_holds c source) (not (wide_holds p source))
        (not (wide_holds c source)) (not (wide_holds q source)) (holding_says c h.0) (failing_says p h.1) (failing_says c h.0) (failing_says q h.2))
    failing_says (wide_chain orders ts) h =
        let links_of = links rel_not orders (all_alternatives truths ts) in
        let whole = some_holds links_of env in
        says_as (not (chained orders (map number (wide_values ts source)))) whole.1 whole.0
        (some_links_say env orders (wide_values ts source) (all_alternatives truths ts) (terms_cover ts h))
