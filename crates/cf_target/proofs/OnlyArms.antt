-- What is spelled is read: arms, and the step of the budget.
use Rattle.std.proofs.Common.{◌≡◌, ◌⊎◌, inl, inr, ℕ, zero, suc, ◌-◌, ◌≤◌, Bool, true, false, List, [], ◌∷◌, length, None, Ok, refl, sym, ap, subst, ◌∙◌, arith}
use Rattle.std.specs.Prelude.{ℤ, pos, codes}
use Rattle.cf_lex.specs.declared.token.Token.{Token}
use Rattle.cf_lex.specs.declared.token.TokenKind.{TokenKind}
use Rattle.cf_lex.specs.declared.token.TokenKind.TheVariants.{Literal, Word, Sign}
use Rattle.cf_tree.specs.declared.base.Place.{Place}
use Rattle.cf_tree.specs.CodeTree.{CodeTree, code_lit, code_truth, code_var, code_set_of, code_tuple, code_sum, code_sub, code_mul, code_neg, code_div, code_mod, code_min, code_max, code_compare, code_divides, code_and, code_or, code_not, code_union, code_inter, code_diff, code_subset, code_card, code_slice, code_fresh, code_if, code_let, code_solve, CodeTrees, no_codes, code_more, ItemTree, let_item, need_item, ItemTrees, no_items, item_more, ArmTree, arm_of, ArmTrees, no_arms, arm_more, codes_of, items_of, arms_of, count, code_depth, codes_depth, item_depth, items_depth, arm_depth, arms_depth}
use Rattle.cf_tree.specs.Spelled.{IsNoTuple}
use Rattle.cf_reader.specs.Tokens.{◌⨟◌, First, Next, Others}
use Rattle.cf_reader.specs.Readers.{Got, Reader, is, at, refuse, snoc}
use Rattle.cf_reader.specs.Kinds.{truth_kind, a_truth}
use Rattle.cf_reader.proofs.Exact.{bind_is, pure_is, must_is, first_is, first_not, deep_is, at_is, at_not, next_is, literal_is, first_longer, Items, others_are, left_over}
use Rattle.cf_reader.proofs.Near.{Within, refuse_local}
use Rattle.cf_reader.proofs.KindLaws.{no_literal, sign_literal, truth_is, truth_sign, truth_literal, no_truth}
use Rattle.cf_reader.proofs.Yields.{added, all_added}
use Rattle.cf_target.specs.declared.form.Unary.TheVariants.{Neg, Not, Card}
use Rattle.cf_target.specs.declared.form.Division.TheVariants.{Div, Mod}
use Rattle.cf_target.specs.declared.form.Extreme.TheVariants.{Min, Max}
use Rattle.cf_target.specs.Spelling.{level_name, SpellsVariable, SpellsNumber, SpellsNumeral, SpellsBounds, SpellsCode, SpellsCodes, SpellsArms, SpellsItems, SpellsItem, SpellsGives}
use Rattle.cf_target.specs.Reading.{a_step, a_variable, elements_of, InsideTree, several, single, inside_of, whole, item_of, steps_of, all_steps, gives_of, arm_from, all_arms, solve_of, word_of, negative_of, step, read}
use Rattle.cf_target.proofs.LocalReading.{arm_local, read_local}
use Rattle.cf_target.proofs.OnlyCodes.{variable_is, numeral_is, bounds_are, depth_one, ReadsTo, listed, listed_again, elements_are, word_step, form_step, unary_is, division_is, extreme_is, slice_is, fresh_is, Heads, tuple_is, IsBracketed, bracketed}

-- what an arm gives

-- a code that is no tuple stands in parentheses, or does not begin with one
opened_or_not : (c : CodeTree) (ts us : List Token) → IsNoTuple c → SpellsCode c ts us → IsBracketed c ⊎ (at (is (Sign (codes "("))) ts ≡ None)
opened_or_not (code_lit k) ts us i (inl (p, w)) = inr (at_not _ (Literal k) ts us p refl w.0)
opened_or_not (code_lit k) ts us i (inr (n, (a, m, w), e)) = inr (at_not _ (Sign (codes "-")) ts a m.0 refl m.1)
opened_or_not (code_truth true) ts us i w = inr (at_not _ (truth_kind true) ts us w.0 refl w.1)
opened_or_not (code_truth false) ts us i w = inr (at_not _ (truth_kind false) ts us w.0 refl w.1)
opened_or_not (code_var x) ts us i w = inr (at_not _ (Word (level_name x)) ts us w.1.0 refl w.1.1)
opened_or_not (code_set_of no_codes) ts us i w = inr (at_not _ (Sign (codes "{")) ts w.0 w.1.0 refl w.1.1)
opened_or_not (code_set_of (code_more c cs)) ts us i w = inr (at_not _ (Sign (codes "{")) ts w.0 w.1.0 refl w.1.1)
opened_or_not (code_tuple cs) ts us i w = absurd i
opened_or_not (code_sum cs) ts us i w = inl tt
opened_or_not (code_sub c d) ts us i w = inl tt
opened_or_not (code_mul c d) ts us i w = inl tt
opened_or_not (code_neg c) ts us i w = inr (at_not _ (Word (codes "neg")) ts w.0 w.1.0 refl w.1.1)
opened_or_not (code_div c k) ts us i w = inr (at_not _ (Word (codes "div")) ts w.0 w.1.0 refl w.1.1)
opened_or_not (code_mod c k) ts us i w = inr (at_not _ (Word (codes "mod")) ts w.0 w.1.0 refl w.1.1)
opened_or_not (code_min cs) ts us i w = inr (at_not _ (Word (codes "min")) ts w.0 w.1.0 refl w.1.1)
opened_or_not (code_max cs) ts us i w = inr (at_not _ (Word (codes "max")) ts w.0 w.1.0 refl w.1.1)
opened_or_not (code_compare o c d) ts us i w = inl tt
opened_or_not (code_divides k c) ts us i w = inl tt
opened_or_not (code_and c d) ts us i w = inl tt
opened_or_not (code_or c d) ts us i w = inl tt
opened_or_not (code_not c) ts us i w = inr (at_not _ (Word (codes "not")) ts w.0 w.1.0 refl w.1.1)
opened_or_not (code_union cs) ts us i w = inl tt
opened_or_not (code_inter cs) ts us i w = inl tt
opened_or_not (code_diff c d) ts us i w = inl tt
opened_or_not (code_subset c d) ts us i w = inl tt
opened_or_not (code_card c) ts us i w = inr (at_not _ (Word (codes "card")) ts w.0 w.1.0 refl w.1.1)
opened_or_not (code_slice c d e) ts us i w = inr (at_not _ (Word (codes "slice")) ts w.0 w.1.0 refl w.1.1)
opened_or_not (code_fresh c d) ts us i w = inr (at_not _ (Word (codes "fresh")) ts w.0 w.1.0 refl w.1.1)
opened_or_not (code_if t c d) ts us i w = inl tt
opened_or_not (code_let x n c d) ts us i w = inl tt
opened_or_not (code_solve n arms) ts us i w = inr (at_not _ (Word (codes "solve")) ts w.0 w.1.0 refl w.1.1)

-- the readers of the parts of a form whose parts may have depth n
pub record Budget (n : ℕ) (part less : Reader CodeTree) : Type 0 where
  pub parts : ReadsTo n part
  pub fewer : ReadsTo (n - 1) less

budget_heads : (n : ℕ) (part less : Reader CodeTree) → Budget n part less → Heads n (n - 1) part less
budget_heads n part less h = record { heads = h.parts; parts = h.fewer; deeper = omega arith }

one_given : (n : ℕ) (part less : Reader CodeTree) → Budget n part less → (c : CodeTree) (ts us : List Token) → code_depth c ≤ n → SpellsCode c ts us →
    IsBracketed c ⊎ (at (is (Sign (codes "("))) ts ≡ None) →
    gives_of part less n ts ≡ Ok (c ∷ [], us)
unfolding gives_of
one_given n part less h c ts us d w (inl i) =
    let x = bracketed part less n (n - 1) (budget_heads n part less h) c ts us i (omega (arith, d)) w in
    first_is _ _ _ ts (at_is _ ts x.behind x.opened.0 refl x.opened.1) (bind_is _ _ x.behind x.reads (pure_is _ _ us refl))
one_given n part less h c ts us d w (inr e) = first_not _ _ _ ts e (bind_is _ _ ts (h.parts.reads c ts us d w) (pure_is _ _ us refl))

gives_are : (n : ℕ) (part less : Reader CodeTree) → Budget n part less → (gs : CodeTrees) (ts us : List Token) → codes_depth gs ≤ n → SpellsGives gs ts us →
    gives_of part less n ts ≡ Ok (listed gs, us)
unfolding gives_of
gives_are n part less h no_codes ts us d w = absurd w
gives_are n part less h (code_more c no_codes) ts us d (i, w) = one_given n part less h c ts us (omega (arith, d)) w (opened_or_not c ts us i w)
gives_are n part less h (code_more c (code_more e cs)) ts us d (a, o, (b, w, r)) =
    first_is _ _ _ ts (at_is _ ts a o.0 refl o.1)
    (bind_is _ _ a (tuple_is part less n (n - 1) (budget_heads n part less h) (code_more c (code_more e cs)) a us (omega arith) d (b, w, r))
    (pure_is _ _ us refl))

-- items

abbrev steps : ItemTrees → List ItemTree
steps no_items = []
steps (item_more i is) = i ∷ steps is

steps_again : (is : ItemTrees) → items_of (steps is) ≡ is
steps_again no_items = refl
steps_again (item_more i is) = ap (item_more i) (steps_again is)

-- an item is longer than what is left behind it
record Shorter (ts us : List Token) : Type 0 where
  shorter : suc (length us) ≤ length ts

code_then : (n : ℕ) (part : Reader CodeTree) → ReadsTo n part → (k : TokenKind) (c : CodeTree) (ts a b us : List Token) → code_depth c ≤ n → Next k ts a →
    SpellsCode c a b → Next (Sign (codes ";")) b us → Shorter ts us
code_then n part h k c ts a b us d w s e =
    record {
      shorter = omega (
        arith,
        first_longer k ts a w.0 w.1,
        first_longer _ b us e.0 e.1,
        left_over (length a) (part a) c b (h.reads c a b d s)
            (h.within a),
      );
    }

item_shorter : (n : ℕ) (part : Reader CodeTree) → ReadsTo n part → (i : ItemTree) (ts us : List Token) → item_depth i ≤ n → SpellsItem i ts us → Shorter ts us
item_shorter n part h (let_item c) ts us d (a, w, (b, s, e)) = code_then n part h _ c ts a b us d w s e
item_shorter n part h (need_item c) ts us d (a, w, (b, s, e)) = code_then n part h _ c ts a b us d w s e

step_goes : (n : ℕ) (part : Reader CodeTree) → ReadsTo n part → (k : ℕ) (done : List ItemTree) (i : ItemTree) (ts us : List Token) {y : Got (List ItemTree)} →
    item_depth i ≤ n → SpellsItem i ts us →
    steps_of part k (snoc done i) us ≡ y → steps_of part (suc k) done ts ≡ y
unfolding steps_of item_of at
step_goes n part h k done (let_item c) ts us d (a, w, (b, s, e)) x =
    first_is _ _ _ ts (ap (at a_step) w.1) (bind_is _ _ a (bind_is _ _ a (h.reads c a b d s) (bind_is _ _ b (next_is _ b us refl e) (pure_is _ _ us refl))) x)
step_goes n part h k done (need_item c) ts us d (a, w, (b, s, e)) x =
    first_is _ _ _ ts (ap (at a_step) w.1) (bind_is _ _ a (bind_is _ _ a (h.reads c a b d s) (bind_is _ _ b (next_is _ b us refl e) (pure_is _ _ us refl))) x)

steps_end : (part : Reader CodeTree) (k : ℕ) (done : List ItemTree) (ts us : List Token) → Next (Word (codes "give")) ts us →
    steps_of part (suc k) done ts ≡ Ok (done, us)
unfolding steps_of at
steps_end part k done ts us w = first_not _ _ _ ts (ap (at a_step) w.1) (bind_is _ _ ts (next_is _ ts us refl w) (pure_is _ _ us refl))

steps_are : (n : ℕ) (part : Reader CodeTree) → ReadsTo n part → (k : ℕ) (is : ItemTrees) (done : List ItemTree) (ts us : List Token) → length ts ≤ k →
    items_depth is ≤ n → SpellsItems is ts us →
    steps_of part k done ts ≡ Ok (added snoc done (steps is), us)
steps_are n part h zero no_items done ts us l d w = absurd (omega (arith, l, first_longer _ ts us w.0 w.1))
steps_are n part h zero (item_more i is) done ts us l d (a, w, r) = let s = item_shorter n part h i ts a (omega (arith, d)) w in
    absurd (omega (arith, l, s.shorter))
steps_are n part h (suc k) no_items done ts us l d w = steps_end part k done ts us w
steps_are n part h (suc k) (item_more i is) done ts us l d (a, w, r) =
    let s = item_shorter n part h i ts a (omega (arith, d)) w in
    step_goes n part h k done i ts a (omega (arith, d)) w (steps_are n part h k is (snoc done i) a us (omega (arith, l, s.shorter)) (omega (arith, d)) r)

all_steps_are : (n : ℕ) (part : Reader CodeTree) → ReadsTo n part → (is : ItemTrees) (ts us : List Token) → items_depth is ≤ n → SpellsItems is ts us →
    all_steps part ts ≡ Ok (steps is, us)
unfolding all_steps
all_steps_are n part h is ts us d w = steps_are n part h (length ts) is [] ts us (omega arith) d w ∙
    ap (λ (z : List ItemTree). Ok (z, us)) (all_added (steps is))

-- arms

-- behind the word arm
abbrev IsArm : ℕ → ArmTree → List Token → List Token → Type 0
IsArm n (arm_of bounds is gs) ts us =
    (arm_depth (arm_of bounds is gs) ≤ n)
    × (Next (Sign (codes "[")) ⨟ SpellsBounds bounds ⨟ Next (Sign (codes "{")) ⨟ SpellsItems is ⨟ SpellsGives gs ⨟ Next (Sign (codes "}"))) ts us

arm_is : (n : ℕ) (part less : Reader CodeTree) → Budget n part less → (arm : ArmTree) (ts us : List Token) → IsArm n arm ts us →
    arm_from part less n ts ≡ Ok (arm, us)
unfolding arm_from
arm_is n part less h (arm_of bounds is gs) ts us (l, (a, o, (b, w, (c, x, (d, y, (e, z, r)))))) =
    bind_is _ _ ts (next_is _ ts a refl o) (bind_is _ _ a (bounds_are bounds a b w)
    (bind_is _ _ b (next_is _ b c refl x) (bind_is _ _ c (all_steps_are n part h.parts is c d (omega (arith, l)) y)
    (bind_is _ _ d (gives_are n part less h gs d e (omega (arith, l)) z) (bind_is _ _ e (next_is _ e us refl r)
    (pure_is _ _ us (ap (λ v. arm_of bounds v (codes_of (listed gs))) (steps_again is) ∙ ap (λ v. arm_of bounds is v) (listed_again gs))))))))

abbrev arms_in : ArmTrees → List ArmTree
arms_in no_arms = []
arms_in (arm_more arm arms) = arm ∷ arms_in arms

arms_again : (arms : ArmTrees) → arms_of (arms_in arms) ≡ arms
arms_again no_arms = refl
arms_again (arm_more arm arms) = ap (arm_more arm) (arms_again arms)

arm_items : (n : ℕ) (part less : Reader CodeTree) → Budget n part less → ((ts : List Token) → Within (length ts) (arm_from part less n ts)) →
    Items (arm_from part less n) (IsArm n) (Word (codes "arm")) (Sign (codes "}"))
arm_items n part less h v = record { reads = λ arm ts us w e. arm_is n part less h arm ts us w; within = v; separates = refl; closes = refl; differs = refl }

as_arms : (n : ℕ) (arms : ArmTrees) (ts us : List Token) → arms_depth arms ≤ n → SpellsArms arms ts us →
    Others (IsArm n) (Word (codes "arm")) (Sign (codes "}")) (arms_in arms) ts us
as_arms n no_arms ts us d w = w
as_arms n (arm_more (arm_of bounds is gs) arms) ts us d (a, (b, o, (c, w, (e, x, (f, y, (g, z, (i, v, r)))))), q) =
    (b, o, (a, (omega (arith, d), (c, w, (e, x, (f, y, (g, z, (i, v, r)))))), as_arms n arms a us (omega (arith, d)) q))

-- an arm gives at least one code, so it is deep
arm_deep : (bounds : List ℕ) (is : ItemTrees) (gs : CodeTrees) (ts us : List Token) → SpellsGives gs ts us → 1 ≤ arm_depth (arm_of bounds is gs)
arm_deep bounds is no_codes ts us w = absurd w
arm_deep bounds is (code_more c cs) ts us w = omega (arith, depth_one c)

no_budget : (arms : ArmTrees) (ts us : List Token) → arms_depth arms ≤ 0 → SpellsArms arms ts us → (arms ≡ no_arms) × Next (Sign (codes "}")) ts us
no_budget no_arms ts us d w = (refl, w)
no_budget (arm_more (arm_of bounds is gs) arms) ts us d (a, (b, o, (c, w, (e, x, (f, y, (g, z, (i, v, r)))))), q) =
    absurd (omega (arith, d, arm_deep bounds is gs g i v))

arms_are : (n : ℕ) (part less : Reader CodeTree) → Budget n part less → ((ts : List Token) → Within (length ts) (arm_from part less n ts)) →
    (arms : ArmTrees) (ts us : List Token) → arms_depth arms ≤ n → SpellsArms arms ts us →
    all_arms part less n ts ≡ Ok (arms_in arms, us)
unfolding all_arms
arms_are zero part less h v arms ts us d w =
    let x = no_budget arms ts us d w in bind_is _ _ ts (next_is _ ts us refl x.1) (pure_is _ _ us (ap arms_in (sym x.0)))
arms_are (suc n) part less h v arms ts us d w =
    others_are snoc (arm_from part less (suc n)) (IsArm (suc n)) (Word (codes "arm")) (Sign (codes "}")) (arm_items (suc n) part less h v) (arms_in arms) [] ts
    us (as_arms (suc n) arms ts us d w)
    ∙ ap (λ (z : List ArmTree). Ok (z, us)) (all_added (arms_in arms))

solve_is : (n : ℕ) (part less : Reader CodeTree) → Budget n part less → ((ts : List Token) → Within (length ts) (arm_from part less n ts)) →
    (number : ℕ) (arms : ArmTrees) (ts a b us : List Token) → arms_depth arms ≤ n →
    SpellsNumeral number ts a → Next (Sign (codes "{")) a b → SpellsArms arms b us → solve_of part less n ts ≡ Ok (code_solve number arms, us)
unfolding solve_of
solve_is n part less h v number arms ts a b us d m o w =
    bind_is _ _ ts (must_is _ ts a number (numeral_is number ts a m)) (bind_is _ _ a (next_is _ a b refl o)
    (bind_is _ _ b (arms_are n part less h v arms b us d w) (pure_is _ _ us (ap (λ z. code_solve number z) (arms_again arms)))))

-- a code of depth at most n + 1, where the parts are read up to depth n

sign_step : (part less : Reader CodeTree) (n : ℕ) (p : Place) (ts a us : List Token) (x : InsideTree) (c : CodeTree) → 1 ≤ n → First p (Sign (codes "(")) ts a →
    inside_of part part n n a ≡ Ok (x, us) → whole x ≡ c → step part less n ts ≡ Ok (c, us)
unfolding step at
sign_step part less n p ts a us x c l w e f =
    first_not _ _ _ ts (sign_literal _ p ts a w)
    (first_not _ _ _ ts (at_not _ (Sign (codes "(")) ts a p refl w) (first_not _ _ _ ts (ap (at a_truth) w) (first_not _ _ _ ts (ap (at a_variable) w)
    (first_not _ _ _ ts (at_not _ (Sign (codes "(")) ts a p refl w) (deep_is _ _ _ _ ts l (at_is _ ts a p refl w) (bind_is _ _ a e (pure_is _ _ us f)))))))

set_step : (part less : Reader CodeTree) (n : ℕ) (p : Place) (ts a us : List Token) (cs : List CodeTree) (c : CodeTree) → First p (Sign (codes "{")) ts a →
    elements_of part a ≡ Ok (cs, us) → code_set_of (codes_of cs) ≡ c → step part less n ts ≡ Ok (c, us)
unfolding step at
set_step part less n p ts a us cs c w e f =
    first_not _ _ _ ts (sign_literal _ p ts a w)
    (first_not _ _ _ ts (at_not _ (Sign (codes "{")) ts a p refl w) (first_not _ _ _ ts (ap (at a_truth) w) (first_not _ _ _ ts (ap (at a_variable) w)
    (first_is _ _ _ ts (at_is _ ts a p refl w) (bind_is _ _ a e (pure_is _ _ us f))))))

no_elements : (part : Reader CodeTree) (ts us : List Token) → Next (Sign (codes "}")) ts us → elements_of part ts ≡ Ok ([], us)
unfolding elements_of
no_elements part ts us w = first_is _ _ _ ts (at_is _ ts us w.0 refl w.1) (pure_is _ _ us refl)

number_is : (part less : Reader CodeTree) (n : ℕ) (k : ℤ) (ts us : List Token) → SpellsNumber k ts us → step part less n ts ≡ Ok (code_lit k, us)
unfolding step negative_of
number_is part less n k ts us (inl (p, w)) = first_is _ _ _ ts (literal_is (pos 0) ts us p k w) (pure_is _ _ us refl)
number_is part less n k ts us (inr (m, (a, o, (p, w)), e)) =
    first_not _ _ _ ts (sign_literal _ o.0 ts a o.1) (first_is _ _ _ ts (at_is _ ts a o.0 refl o.1)
    (bind_is _ _ a (must_is _ a us _ (literal_is (pos 1) a us p m w)) (pure_is _ _ us (ap code_lit (sym e)))))

truth_step : (part less : Reader CodeTree) (n : ℕ) (b : Bool) (ts us : List Token) → Next (truth_kind b) ts us → step part less n ts ≡ Ok (code_truth b, us)
unfolding step
truth_step part less n b ts us (p, w) =
    first_not _ _ _ ts (truth_literal b p ts us w)
    (first_not _ _ _ ts (at_not _ (truth_kind b) ts us p (truth_sign b (codes "-")) w) (first_is _ _ _ ts (truth_is b p ts us w) (pure_is _ _ us refl)))

variable_step : (part less : Reader CodeTree) (n x : ℕ) (ts us : List Token) → SpellsVariable x ts us → step part less n ts ≡ Ok (code_var x, us)
unfolding step
variable_step part less n x ts us w =
    first_not _ _ _ ts (no_literal w.1.0 (level_name x) ts us w.1.1) (first_not _ _ _ ts (at_not _ (Word (level_name x)) ts us w.1.0 refl w.1.1)
    (first_not _ _ _ ts (no_truth (level_name x) w.1.0 ts us refl w.1.1) (first_is _ _ _ ts (variable_is x ts us w) (pure_is _ _ us refl))))

bracket_step : (n : ℕ) (part less : Reader CodeTree) → ReadsTo n part → (c : CodeTree) (ts us : List Token) → 1 ≤ n → IsBracketed c → code_depth c ≤ suc n →
    SpellsCode c ts us → step part less n ts ≡ Ok (c, us)
bracket_step n part less h c ts us l i d w =
    let x = bracketed part part n n (record { heads = h; parts = h; deeper = omega arith }) c ts us i d w in
    sign_step part less n x.opened.0 ts x.behind us (single c) c l x.opened.1 x.reads refl

some_deep : (cs : CodeTrees) → 1 ≤ count cs → 1 ≤ codes_depth cs
some_deep no_codes l = absurd (omega (arith, l))
some_deep (code_more c cs) l = omega (arith, depth_one c)

some_codes : (cs : CodeTrees) (separator close : TokenKind) (ts us : List Token) → SpellsCodes cs separator close ts us → 1 ≤ codes_depth cs
some_codes no_codes separator close ts us w = absurd w
some_codes (code_more c cs) separator close ts us w = omega (arith, depth_one c)

step_reads : (n : ℕ) (part less : Reader CodeTree) → Budget n part less → ((ts : List Token) → Within (length ts) (arm_from part less n ts)) →
    (c : CodeTree) (ts us : List Token) → code_depth c ≤ suc n → SpellsCode c ts us →
    step part less n ts ≡ Ok (c, us)
unfolding at word_of
step_reads n part less h v (code_lit k) ts us d w = number_is part less n k ts us w
step_reads n part less h v (code_truth b) ts us d w = truth_step part less n b ts us w
step_reads n part less h v (code_var x) ts us d w = variable_step part less n x ts us w
step_reads n part less h v (code_set_of no_codes) ts us d (a, o, w) =
    set_step part less n o.0 ts a us [] (code_set_of no_codes) o.1 (no_elements part a us w) refl
step_reads n part less h v (code_set_of (code_more c cs)) ts us d (a, o, (b, w, r)) =
    set_step part less n o.0 ts a us (c ∷ listed cs) (code_set_of (code_more c cs)) o.1
    (elements_are n part h.parts c cs a b us (omega (arith, d)) (omega (arith, d)) w r) (ap (λ z. code_set_of (code_more c z)) (listed_again cs))
step_reads n part less h v (code_tuple cs) ts us d (l, (a, o, w)) =
    sign_step part less n o.0 ts a us (several (listed cs)) (code_tuple cs) (omega (arith, d, some_deep cs (omega (arith, l)))) o.1
    (tuple_is part part n n (record { heads = h.parts; parts = h.parts; deeper = omega arith }) cs a us l (omega (arith, d)) w)
    (ap code_tuple (listed_again cs))
step_reads n part less h v (code_sum cs) ts us d w =
    bracket_step n part less h.parts (code_sum cs) ts us (omega (arith, d, some_deep cs (omega (arith, w.0)))) tt d w
step_reads n part less h v (code_union cs) ts us d w =
    bracket_step n part less h.parts (code_union cs) ts us (omega (arith, d, some_deep cs (omega (arith, w.0)))) tt d w
step_reads n part less h v (code_inter cs) ts us d w =
    bracket_step n part less h.parts (code_inter cs) ts us (omega (arith, d, some_deep cs (omega (arith, w.0)))) tt d w
step_reads n part less h v (code_sub c e) ts us d w = bracket_step n part less h.parts (code_sub c e) ts us (omega (arith, d, depth_one c)) tt d w
step_reads n part less h v (code_mul c e) ts us d w = bracket_step n part less h.parts (code_mul c e) ts us (omega (arith, d, depth_one c)) tt d w
step_reads n part less h v (code_diff c e) ts us d w = bracket_step n part less h.parts (code_diff c e) ts us (omega (arith, d, depth_one c)) tt d w
step_reads n part less h v (code_subset c e) ts us d w = bracket_step n part less h.parts (code_subset c e) ts us (omega (arith, d, depth_one c)) tt d w
step_reads n part less h v (code_and c e) ts us d w = bracket_step n part less h.parts (code_and c e) ts us (omega (arith, d, depth_one c)) tt d w
step_reads n part less h v (code_or c e) ts us d w = bracket_step n part less h.parts (code_or c e) ts us (omega (arith, d, depth_one c)) tt d w
step_reads n part less h v (code_compare o c e) ts us d w = bracket_step n part less h.parts (code_compare o c e) ts us (omega (arith, d, depth_one c)) tt d w
step_reads n part less h v (code_divides k c) ts us d w = bracket_step n part less h.parts (code_divides k c) ts us (omega (arith, d, depth_one c)) tt d w
step_reads n part less h v (code_if t c e) ts us d w = bracket_step n part less h.parts (code_if t c e) ts us (omega (arith, d, depth_one c)) tt d w
step_reads n part less h v (code_let x m c e) ts us d w = bracket_step n part less h.parts (code_let x m c e) ts us (omega (arith, d, depth_one c)) tt d w
step_reads n part less h v (code_neg c) ts us d (a, (p, f), (b, o, (e, w, r))) =
    form_step part less n (codes "neg") p ts a (omega (arith, d, depth_one c)) f refl refl refl
    (unary_is n part h.parts Neg c ts a b e us (omega (arith, d)) (ap (at _) f) o w r)
step_reads n part less h v (code_not c) ts us d (a, (p, f), (b, o, (e, w, r))) =
    form_step part less n (codes "not") p ts a (omega (arith, d, depth_one c)) f refl refl refl
    (unary_is n part h.parts Not c ts a b e us (omega (arith, d)) (ap (at _) f) o w r)
step_reads n part less h v (code_card c) ts us d (a, (p, f), (b, o, (e, w, r))) =
    form_step part less n (codes "card") p ts a (omega (arith, d, depth_one c)) f refl refl refl
    (unary_is n part h.parts Card c ts a b e us (omega (arith, d)) (ap (at _) f) o w r)
step_reads n part less h v (code_div c k) ts us d (a, (p, f), (b, o, (e, w, (g, m, (i, j, r))))) =
    form_step part less n (codes "div") p ts a (omega (arith, d, depth_one c)) f refl refl refl
    (division_is n part h.parts Div c k ts a b e g i us (omega (arith, d)) (ap (at _) f) (ap (at _) f) o w m j r)
step_reads n part less h v (code_mod c k) ts us d (a, (p, f), (b, o, (e, w, (g, m, (i, j, r))))) =
    form_step part less n (codes "mod") p ts a (omega (arith, d, depth_one c)) f refl refl refl
    (division_is n part h.parts Mod c k ts a b e g i us (omega (arith, d)) (ap (at _) f) (ap (at _) f) o w m j r)
step_reads n part less h v (code_min cs) ts us d (a, (p, f), (b, o, w)) =
    form_step part less n (codes "min") p ts a (omega (arith, d, some_codes cs _ _ b us w)) f refl refl refl
    (extreme_is n part h.parts Min cs ts a b us (omega (arith, d)) (ap (at _) f) (ap (at _) f) (ap (at _) f) o w ∙
    ap (λ z. Ok (code_min z, us)) (listed_again cs))
step_reads n part less h v (code_max cs) ts us d (a, (p, f), (b, o, w)) =
    form_step part less n (codes "max") p ts a (omega (arith, d, some_codes cs _ _ b us w)) f refl refl refl
    (extreme_is n part h.parts Max cs ts a b us (omega (arith, d)) (ap (at _) f) (ap (at _) f) (ap (at _) f) o w ∙
    ap (λ z. Ok (code_max z, us)) (listed_again cs))
step_reads n part less h v (code_slice c e q) ts us d (a, (p, f), (b, o, (g, w, (i, m, (j, x, (k, y, (l, z, r))))))) =
    form_step part less n (codes "slice") p ts a (omega (arith, d, depth_one c)) f refl refl refl
    (slice_is n part h.parts c e q ts a b g i j k l us p (omega (arith, d)) (omega (arith, d)) (omega (arith, d)) f o w m x y z r)
step_reads n part less h v (code_fresh c e) ts us d (a, (p, f), (b, o, (g, w, (i, m, (j, x, r))))) =
    form_step part less n (codes "fresh") p ts a (omega (arith, d, depth_one c)) f refl refl refl
    (fresh_is n part h.parts c e ts a b g i j us p (omega (arith, d)) (omega (arith, d)) f o w m x r)
step_reads n part less h v (code_solve number arms) ts us d (a, (p, f), (b, m, (e, o, w))) =
    word_step part less n (codes "solve") p ts a f refl refl
    (first_is _ _ _ ts (at_is _ ts a p refl f) (solve_is n part less h v number arms a b e us (omega (arith, d)) m o w))

-- the budget

reads_none : (c : CodeTree) → code_depth c ≤ 0 → ⊥
reads_none c d = omega (arith, d, depth_one c)

read_within : (n : ℕ) (ts : List Token) → Within (length ts) (read n ts)
read_within n ts = (read_local [] [] n).within ts (length ts) (omega arith)

refuse_reads : ReadsTo 0 refuse
refuse_reads = record {
  reads = λ c ts us d w. absurd (reads_none c d);
  within =
      λ ts. (refuse_local {more = []} {other = []}).within ts (length ts) (omega arith);
}

pub read_reads : (n : ℕ) (c : CodeTree) (ts us : List Token) → code_depth c ≤ n → SpellsCode c ts us → read n ts ≡ Ok (c, us)
unfolding read
read_reads zero c ts us d w = absurd (reads_none c d)
read_reads (suc zero) c ts us d w =
    step_reads 0 refuse refuse (record { parts = refuse_reads; fewer = refuse_reads })
    (λ ts. (arm_local {more = []} {other = []} 0 refuse_local refuse_local).within ts (length ts) (omega arith)) c ts us d w
read_reads (suc (suc n)) c ts us d w =
    step_reads (suc n) (read (suc n)) (read n)
    (record {
      parts = record { reads = read_reads (suc n); within = read_within (suc n) };
      fewer =
          subst (λ m. ReadsTo m (read n)) (omega arith) (record { reads = read_reads n; within = read_within n });
    })
    (λ ts. (arm_local {more = []} {other = []} (suc n) (read_local [] [] (suc n)) (read_local [] [] n)).within ts (length ts) (omega arith)) c ts us d w
