-- What an expression that may stand in a relation allows: one outcome, the meanings of its parts.
use Rattle.std.specs.Prelude.{ℕ, suc, zero, ℤ, pos, ◌≡◌, Bool, true, false, not, ◌&&◌, ◌||◌, ◌==◌, Some, if◌then◌else◌, List, [], ◌∷◌, ◌++◌, length, map, slice_get, slice_index_or, MatchBool}
use Rattle.std.proofs.Common.{refl, sym, ap, subst}
use Rattle.cf_tree.specs.declared.base.Base.{Base}
use Rattle.cf_tree.specs.declared.base.Base.TheVariants.{Int, Bool as Truth, Set}
use Rattle.cf_tree.specs.declared.base.Order.{Order}
use Rattle.cf_tree.specs.declared.base.Order.TheVariants.{Eq, Ne, Lt, Le, Gt, Ge}
use Rattle.cf_tree.specs.declared.raw.BinOp.{BinOp}
use Rattle.cf_tree.specs.declared.raw.BinOp.TheVariants.{Add, Sub, Mul, And, Or, Implies, Union, Inter, Diff, Subset, Compare}
use Rattle.cf_tree.specs.Allowed.{AllowedThen, AllowedRight, Gives, Choosing, Calling, AllowedBy, AllAllowedBy, CallAllowedBy}
use Rattle.cf_tree.specs.DefView.{DefTree}
use Rattle.cf_tree.specs.ExprTree.{ExprTree, expr_lit, expr_truth, expr_var, expr_set_of, expr_tuple, expr_neg, expr_not, expr_abs, expr_binary, expr_divides, expr_div, expr_mod, expr_card, expr_if, expr_call, expr_let, expr_choose, expr_match, expr_chain, expr_min, expr_max, expr_choose_where, ExprTrees, no_exprs, expr_more}
use Rattle.cf_tree.specs.OneOutcome.{AllowsOnly}
use Rattle.cf_tree.specs.Params.{bases_of}
use Rattle.cf_tree.specs.Typing.{one}
use Rattle.cf_tree.specs.Values.{Value, number, truth, elements, Outcome, number_of, truth_of, value_at, first_of}
use Rattle.cf_tree.proofs.OneOutcomeLemmas.{then_only}
use Rattle.cf_program.specs.TypedProgram.{LinearBehind, AreSides, AreSeveral, ExprHasBasesBy, AllHaveBy, PartsHaveBy, Takes, AreTypedDefsBy}
use Rattle.cf_program.specs.Walk.{side_of, result_of}
use Rattle.cf_form.specs.Expansion.{Part, of_number, of_set, of_truth, number_in, set_in, truth_in, first_part, numbers_in, binary_part, compared_part, if_part, if_parts, Calls, expanded, all_expanded, call_expanded}
use Rattle.cf_form.specs.Laws.{bodies}
use Rattle.cf_form.specs.Relations.{MayStand, AllMayStand, CallMayStand}
use Rattle.cf_form.specs.Wide.{wide_lit, WideTerms, WideRel}
use Rattle.cf_form.proofs.WideMeaning.{wide_value, wide_values, wide_members, wide_holds, part_value, VariableFacts, HasTerms, TermOver, TermsOver, SetOver, RelOver, PartOver, PartsOver}

-- what is allowed is one outcome, the meanings of these parts, which have these bases
pub record Expands (allowed : Outcome → Type 0) (v : VariableFacts) (env : List Value) (bs : List Base) (ps : List Part) : Type 0 where
  pub only : AllowsOnly allowed (map (part_value env) ps)
  pub over : PartsOver v bs ps

-- and of one part
pub record ExpandsOne (allowed : Outcome → Type 0) (v : VariableFacts) (env : List Value) (b : Base) (p : Part) : Type 0 where
  pub only : AllowsOnly allowed (part_value env p ∷ [])
  pub over : PartOver v b p

-- functions of which some, by `good`, allow the meanings of their parts
abbrev pub CallsExpand : Calling → Calls → (ℕ → List Base → List Base → Type 0) → (ℕ → Type 0) → VariableFacts → List Value → Type 0
CallsExpand calls parts takes good v env =
    (f : ℕ) (params bs : List Base) → takes f params bs → good f → (ps : List Part) → PartsOver v params ps
    → Expands (calls f (map (part_value env) ps)) v env bs (parts f ps)

map_joined : (env : List Value) (ps qs : List Part) → map (part_value env) (ps ++ qs) ≡ map (part_value env) ps ++ map (part_value env) qs
map_joined env [] qs = refl
map_joined env (p ∷ ps) qs = ap (λ vs. part_value env p ∷ vs) (map_joined env ps qs)

over_joined : (v : VariableFacts) (bs cs : List Base) (ps qs : List Part) → PartsOver v bs ps → PartsOver v cs qs → PartsOver v (bs ++ cs) (ps ++ qs)
over_joined v [] cs [] qs h k = k
over_joined v [] cs (p ∷ ps) qs h k = absurd h
over_joined v (b ∷ bs) cs [] qs h k = absurd h
over_joined v (b ∷ bs) cs (p ∷ ps) qs h k = (h.0, over_joined v bs cs ps qs h.1 k)

value_of_part : (env : List Value) (ps : List Part) (x : ℕ)
    → value_at (map (part_value env) ps) x ≡ part_value env (slice_index_or ps x (of_number (wide_lit (pos 0))))
value_of_part env [] x = refl
value_of_part env (p ∷ ps) zero = refl
value_of_part env (p ∷ ps) (suc x) = value_of_part env ps x

over_at : (v : VariableFacts) (scope : List Base) (ps : List Part) (x : ℕ) (b : Base) → PartsOver v scope ps → slice_get scope x ≡ Some b
    → PartOver v b (slice_index_or ps x (of_number (wide_lit (pos 0))))
over_at v [] ps x b h e = cc
over_at v (c ∷ scope) [] x b h e = absurd h
over_at v (c ∷ scope) (p ∷ ps) zero b h e = let same : c ≡ b = cc in rw (← same) h.0
over_at v (c ∷ scope) (p ∷ ps) (suc x) b h e = over_at v scope ps x b h.1 e

module _ {v : VariableFacts} {env : List Value} where
  pub one_of_parts : {A : Outcome → Type 0} (b : Base) (ps : List Part) → Expands A v env (one b) ps → ExpandsOne A v env b (first_part ps)
  one_of_parts b [] h = absurd h.over
  one_of_parts b (p ∷ []) h = record { only = h.only; over = h.over.0 }
  one_of_parts b (p ∷ q ∷ ps) h = absurd h.over.1

  parts_of_one : {A : Outcome → Type 0} (b : Base) (bs : List Base) (p : Part) → bs ≡ one b → ExpandsOne A v env b p → Expands A v env bs (p ∷ [])
  parts_of_one b bs p e h = rw e (record { only = h.only; over = (h.over, tt) })

  pub number_part : {A : Outcome → Type 0} (p : Part) → ExpandsOne A v env Int p →
      AllowsOnly A (number (wide_value (number_in p) env) ∷ []) × TermOver v (number_in p)
  number_part (of_number t) h = (h.only, h.over)
  number_part (of_set s) h = absurd h.over
  number_part (of_truth r) h = absurd h.over

  pub set_part : {A : Outcome → Type 0} (p : Part) → ExpandsOne A v env Set p →
      AllowsOnly A (elements (wide_members (set_in p) env) ∷ []) × SetOver v (set_in p)
  set_part (of_number t) h = absurd h.over
  set_part (of_set s) h = (h.only, h.over)
  set_part (of_truth r) h = absurd h.over

  pub part_of_truth : {A : Outcome → Type 0} (p : Part) → ExpandsOne A v env Truth p
      → AllowsOnly A (truth (wide_holds (truth_in p) env) ∷ []) × RelOver v (truth_in p)
  part_of_truth (of_number t) h = absurd h.over
  part_of_truth (of_set s) h = absurd h.over
  part_of_truth (of_truth r) h = (h.only, h.over)

-- ---- operations with two sides
and_only : {B : Outcome → Type 0} (b c : Bool) → AllowsOnly B (truth c ∷ []) → AllowsOnly (λ o. MatchBool b (B o) (Gives (truth false) o)) (truth (b && c) ∷ [])
and_only true c h = h
and_only false c h = (refl, λ o s. s)

or_only : {B : Outcome → Type 0} (b c : Bool) → AllowsOnly B (truth c ∷ []) → AllowsOnly (λ o. MatchBool b (Gives (truth true) o) (B o)) (truth (b || c) ∷ [])
or_only true c h = (refl, λ o s. s)
or_only false c h = h

implies_only : {B : Outcome → Type 0} (b c : Bool) → AllowsOnly B (truth c ∷ [])
    → AllowsOnly (λ o. MatchBool b (B o) (Gives (truth true) o)) (truth (not b || c) ∷ [])
implies_only true c h = h
implies_only false c h = (refl, λ o s. s)

-- goes on with what the right side of an operation allows
abbrev RightThen : BinOp → (Outcome → Type 0) → (Outcome → Type 0) → Outcome → Type 0
RightThen op A B o = AllowedThen A (λ xs. AllowedRight op (first_of xs) B) o

module _ {v : VariableFacts} {env : List Value} {A B : Outcome → Type 0} where
  compared_numbers : (o : Order) (p q : Part) → ExpandsOne A v env Int p → ExpandsOne B v env Int q
      → ExpandsOne (RightThen (Compare o) A B) v env Truth (compared_part o p q)
  compared_numbers o (of_number a) (of_number b) h k =
      record { only = then_only _ _ h.only (then_only _ _ k.only (refl, λ o s. s)); over = (h.over, k.over) }
  compared_numbers o (of_number a) (of_set b) h k = absurd k.over
  compared_numbers o (of_number a) (of_truth b) h k = absurd k.over
  compared_numbers o (of_set a) q h k = absurd h.over
  compared_numbers o (of_truth a) q h k = absurd h.over

  same_parts : (b : Base) (p q : Part) → ExpandsOne A v env b p → ExpandsOne B v env b q →
      ExpandsOne (RightThen (Compare Eq) A B) v env Truth (compared_part Eq p q)
  same_parts Int p q h k = compared_numbers Eq p q h k
  same_parts Truth (of_truth a) (of_truth b) h k =
      record { only = then_only _ _ h.only (then_only _ _ k.only (refl, λ o s. s)); over = (h.over, k.over) }
  same_parts Truth (of_truth a) (of_number b) h k = absurd k.over
  same_parts Truth (of_truth a) (of_set b) h k = absurd k.over
  same_parts Truth (of_number a) q h k = absurd h.over
  same_parts Truth (of_set a) q h k = absurd h.over
  same_parts Set (of_set a) (of_set b) h k =
      record { only = then_only _ _ h.only (then_only _ _ k.only (refl, λ o s. s)); over = (h.over, k.over) }
  same_parts Set (of_set a) (of_number b) h k = absurd k.over
  same_parts Set (of_set a) (of_truth b) h k = absurd k.over
  same_parts Set (of_number a) q h k = absurd h.over
  same_parts Set (of_truth a) q h k = absurd h.over

  other_parts : (b : Base) (p q : Part) → ExpandsOne A v env b p → ExpandsOne B v env b q →
      ExpandsOne (RightThen (Compare Ne) A B) v env Truth (compared_part Ne p q)
  other_parts Int p q h k = compared_numbers Ne p q h k
  other_parts Truth (of_truth a) (of_truth b) h k =
      record { only = then_only _ _ h.only (then_only _ _ k.only (refl, λ o s. s)); over = (h.over, k.over) }
  other_parts Truth (of_truth a) (of_number b) h k = absurd k.over
  other_parts Truth (of_truth a) (of_set b) h k = absurd k.over
  other_parts Truth (of_number a) q h k = absurd h.over
  other_parts Truth (of_set a) q h k = absurd h.over
  other_parts Set (of_set a) (of_set b) h k =
      record { only = then_only _ _ h.only (then_only _ _ k.only (refl, λ o s. s)); over = (h.over, k.over) }
  other_parts Set (of_set a) (of_number b) h k = absurd k.over
  other_parts Set (of_set a) (of_truth b) h k = absurd k.over
  other_parts Set (of_number a) q h k = absurd h.over
  other_parts Set (of_truth a) q h k = absurd h.over

  binary_expands : (op : BinOp) (p q : Part) (HA HB : Base → Type 0) → ((b : Base) → HA b → ExpandsOne A v env b p)
      → ((b : Base) → HB b → ExpandsOne B v env b q) → AreSides (side_of op) HA HB → ExpandsOne (RightThen op A B) v env (result_of op) (binary_part op p q)
  binary_expands Add p q HA HB left right h =
      let m = number_part p (left Int h.0) in let n = number_part q (right Int h.1) in
      record { only = then_only _ _ m.0 (then_only _ _ n.0 (refl, λ o s. s)); over = (m.1, n.1) }
  binary_expands Sub p q HA HB left right h =
      let m = number_part p (left Int h.0) in let n = number_part q (right Int h.1) in
      record { only = then_only _ _ m.0 (then_only _ _ n.0 (refl, λ o s. s)); over = (m.1, n.1) }
  binary_expands Mul p q HA HB left right h =
      let m = number_part p (left Int h.0) in let n = number_part q (right Int h.1) in
      record { only = then_only _ _ m.0 (then_only _ _ n.0 (refl, λ o s. s)); over = (m.1, n.1) }
  binary_expands And p q HA HB left right h =
      let m = part_of_truth p (left Truth h.0) in let n = part_of_truth q (right Truth h.1) in
      record { only = then_only _ _ m.0 (and_only (wide_holds (truth_in p) env) (wide_holds (truth_in q) env) n.0); over = (m.1, n.1) }
  binary_expands Or p q HA HB left right h =
      let m = part_of_truth p (left Truth h.0) in let n = part_of_truth q (right Truth h.1) in
      record { only = then_only _ _ m.0 (or_only (wide_holds (truth_in p) env) (wide_holds (truth_in q) env) n.0); over = (m.1, n.1) }
  binary_expands Implies p q HA HB left right h =
      let m = part_of_truth p (left Truth h.0) in let n = part_of_truth q (right Truth h.1) in
      record { only = then_only _ _ m.0 (implies_only (wide_holds (truth_in p) env) (wide_holds (truth_in q) env) n.0); over = (m.1, n.1) }
  binary_expands Union p q HA HB left right h =
      let m = set_part p (left Set h.0) in let n = set_part q (right Set h.1) in
      record { only = then_only _ _ m.0 (then_only _ _ n.0 (refl, λ o s. s)); over = (m.1, n.1) }
  binary_expands Inter p q HA HB left right h =
      let m = set_part p (left Set h.0) in let n = set_part q (right Set h.1) in
      record { only = then_only _ _ m.0 (then_only _ _ n.0 (refl, λ o s. s)); over = (m.1, n.1) }
  binary_expands Diff p q HA HB left right h =
      let m = set_part p (left Set h.0) in let n = set_part q (right Set h.1) in
      record { only = then_only _ _ m.0 (then_only _ _ n.0 (refl, λ o s. s)); over = (m.1, n.1) }
  binary_expands Subset p q HA HB left right h =
      let m = set_part p (left Set h.0) in let n = set_part q (right Set h.1) in
      record { only = then_only _ _ m.0 (then_only _ _ n.0 (refl, λ o s. s)); over = (m.1, n.1) }
  binary_expands (Compare Eq) p q HA HB left right h = same_parts h.0 p q (left h.0 h.1) (right h.0 h.2)
  binary_expands (Compare Ne) p q HA HB left right h = other_parts h.0 p q (left h.0 h.1) (right h.0 h.2)
  binary_expands (Compare Lt) p q HA HB left right h = compared_numbers Lt p q (left Int h.0) (right Int h.1)
  binary_expands (Compare Le) p q HA HB left right h = compared_numbers Le p q (left Int h.0) (right Int h.1)
  binary_expands (Compare Gt) p q HA HB left right h = compared_numbers Gt p q (left Int h.0) (right Int h.1)
  binary_expands (Compare Ge) p q HA HB left right h = compared_numbers Ge p q (left Int h.0) (right Int h.1)

-- ---- an `if`
if_value : (v : VariableFacts) (env : List Value) (c : WideRel) (t : Bool) (b : Base) (p q : Part) → wide_holds c env ≡ t → PartOver v b p → PartOver v b q
    → part_value env (if_part c p q) ≡ (if t then part_value env p else part_value env q)
if_value v env c true Int (of_number x) (of_number y) e h k = rw e refl
if_value v env c false Int (of_number x) (of_number y) e h k = rw e refl
if_value v env c t Int (of_number x) (of_set y) e h k = absurd k
if_value v env c t Int (of_number x) (of_truth y) e h k = absurd k
if_value v env c t Int (of_set x) q e h k = absurd h
if_value v env c t Int (of_truth x) q e h k = absurd h
if_value v env c true Truth (of_truth x) (of_truth y) e h k = rw e refl
if_value v env c false Truth (of_truth x) (of_truth y) e h k = rw e refl
if_value v env c t Truth (of_truth x) (of_set y) e h k = absurd k
if_value v env c t Truth (of_truth x) (of_number y) e h k = absurd k
if_value v env c t Truth (of_set x) q e h k = absurd h
if_value v env c t Truth (of_number x) q e h k = absurd h
if_value v env c true Set (of_set x) (of_set y) e h k = rw e refl
if_value v env c false Set (of_set x) (of_set y) e h k = rw e refl
if_value v env c t Set (of_set x) (of_number y) e h k = absurd k
if_value v env c t Set (of_set x) (of_truth y) e h k = absurd k
if_value v env c t Set (of_number x) q e h k = absurd h
if_value v env c t Set (of_truth x) q e h k = absurd h

if_over : (v : VariableFacts) (c : WideRel) (b : Base) (p q : Part) → RelOver v c → PartOver v b p → PartOver v b q → PartOver v b (if_part c p q)
if_over v c Int (of_number x) (of_number y) r h k = (r, h, k)
if_over v c Int (of_number x) (of_set y) r h k = absurd k
if_over v c Int (of_number x) (of_truth y) r h k = absurd k
if_over v c Int (of_set x) q r h k = absurd h
if_over v c Int (of_truth x) q r h k = absurd h
if_over v c Truth (of_truth x) (of_truth y) r h k = (r, h, k)
if_over v c Truth (of_truth x) (of_set y) r h k = absurd k
if_over v c Truth (of_truth x) (of_number y) r h k = absurd k
if_over v c Truth (of_set x) q r h k = absurd h
if_over v c Truth (of_number x) q r h k = absurd h
if_over v c Set (of_set x) (of_set y) r h k = (r, h, k)
if_over v c Set (of_set x) (of_number y) r h k = absurd k
if_over v c Set (of_set x) (of_truth y) r h k = absurd k
if_over v c Set (of_number x) q r h k = absurd h
if_over v c Set (of_truth x) q r h k = absurd h

if_all_over : (v : VariableFacts) (c : WideRel) (bs : List Base) (ps qs : List Part) → RelOver v c → PartsOver v bs ps → PartsOver v bs qs
    → PartsOver v bs (if_parts c ps qs)
if_all_over v c [] [] qs r h k = tt
if_all_over v c [] (p ∷ ps) qs r h k = absurd h
if_all_over v c (b ∷ bs) [] qs r h k = absurd h
if_all_over v c (b ∷ bs) (p ∷ ps) [] r h k = absurd k
if_all_over v c (b ∷ bs) (p ∷ ps) (q ∷ qs) r h k = (if_over v c b p q r h.0 k.0, if_all_over v c bs ps qs r h.1 k.1)

if_true_values : (v : VariableFacts) (env : List Value) (c : WideRel) (bs : List Base) (ps qs : List Part) → wide_holds c env ≡ true → PartsOver v bs ps
    → PartsOver v bs qs → map (part_value env) (if_parts c ps qs) ≡ map (part_value env) ps
if_true_values v env c [] [] qs e h k = refl
if_true_values v env c [] (p ∷ ps) qs e h k = absurd h
if_true_values v env c (b ∷ bs) [] qs e h k = absurd h
if_true_values v env c (b ∷ bs) (p ∷ ps) [] e h k = absurd k
if_true_values v env c (b ∷ bs) (p ∷ ps) (q ∷ qs) e h k =
    rw (if_value v env c true b p q e h.0 k.0, if_true_values v env c bs ps qs e h.1 k.1) refl

if_false_values : (v : VariableFacts) (env : List Value) (c : WideRel) (bs : List Base) (ps qs : List Part) → wide_holds c env ≡ false → PartsOver v bs ps
    → PartsOver v bs qs → map (part_value env) (if_parts c ps qs) ≡ map (part_value env) qs
if_false_values v env c [] [] [] e h k = refl
if_false_values v env c [] [] (q ∷ qs) e h k = absurd k
if_false_values v env c [] (p ∷ ps) qs e h k = absurd h
if_false_values v env c (b ∷ bs) [] qs e h k = absurd h
if_false_values v env c (b ∷ bs) (p ∷ ps) [] e h k = absurd k
if_false_values v env c (b ∷ bs) (p ∷ ps) (q ∷ qs) e h k =
    rw (if_value v env c false b p q e h.0 k.0, if_false_values v env c bs ps qs e h.1 k.1) refl

if_only : {A B : Outcome → Type 0} (v : VariableFacts) (env : List Value) (c : WideRel) (t : Bool) (bs : List Base) (ps qs : List Part) → wide_holds c env ≡ t
    → Expands A v env bs ps → Expands B v env bs qs → AllowsOnly (λ o. MatchBool t (A o) (B o)) (map (part_value env) (if_parts c ps qs))
if_only v env c true bs ps qs e h k = rw (if_true_values v env c bs ps qs e h.over k.over) h.only
if_only v env c false bs ps qs e h k = rw (if_false_values v env c bs ps qs e h.over k.over) k.only

if_expands : {T A B : Outcome → Type 0} (v : VariableFacts) (env : List Value) (bs : List Base) (p : Part) (ps qs : List Part) → ExpandsOne T v env Truth p
    → Expands A v env bs ps → Expands B v env bs qs
    → Expands (λ o. AllowedThen T (λ xs r. MatchBool (truth_of (first_of xs)) (A r) (B r)) o) v env bs (if_parts (truth_in p) ps qs)
if_expands v env bs p ps qs g h k =
    let m = part_of_truth p g in
    record {
      only = then_only _ _ m.0 (if_only v env (truth_in p) (wide_holds (truth_in p) env) bs ps qs refl h k);
      over = if_all_over v (truth_in p) bs ps qs m.1 h.over k.over;
    }

-- ---- several numbers
abbrev pub AreInts : List Base → Type 0
AreInts [] = Unit {0}
AreInts (Int ∷ bs) = AreInts bs
AreInts (Truth ∷ bs) = ⊥
AreInts (Set ∷ bs) = ⊥

numbers_only : (v : VariableFacts) (env : List Value) (bs : List Base) (ps : List Part) → AreInts bs → PartsOver v bs ps
    → map (part_value env) ps ≡ map number (wide_values (numbers_in ps) env)
numbers_only v env [] [] i h = refl
numbers_only v env [] (p ∷ ps) i h = absurd h
numbers_only v env (b ∷ bs) [] i h = absurd h
numbers_only v env (Int ∷ bs) (of_number t ∷ ps) i h = ap (λ vs. number (wide_value t env) ∷ vs) (numbers_only v env bs ps i h.1)
numbers_only v env (Int ∷ bs) (of_set s ∷ ps) i h = absurd h.0
numbers_only v env (Int ∷ bs) (of_truth r ∷ ps) i h = absurd h.0
numbers_only v env (Truth ∷ bs) (p ∷ ps) i h = absurd i
numbers_only v env (Set ∷ bs) (p ∷ ps) i h = absurd i

terms_over : (v : VariableFacts) (bs : List Base) (ps : List Part) → AreInts bs → PartsOver v bs ps → TermsOver v (numbers_in ps)
terms_over v [] [] i h = tt
terms_over v [] (p ∷ ps) i h = absurd h
terms_over v (b ∷ bs) [] i h = absurd h
terms_over v (Int ∷ bs) (of_number t ∷ ps) i h = (h.0, terms_over v bs ps i h.1)
terms_over v (Int ∷ bs) (of_set s ∷ ps) i h = absurd h.0
terms_over v (Int ∷ bs) (of_truth r ∷ ps) i h = absurd h.0
terms_over v (Truth ∷ bs) (p ∷ ps) i h = absurd i
terms_over v (Set ∷ bs) (p ∷ ps) i h = absurd i

numbers_of : (zs : List ℤ) → map number_of (map number zs) ≡ zs
numbers_of [] = refl
numbers_of (z ∷ zs) = ap (λ ws. z ∷ ws) (numbers_of zs)

-- what is allowed is these numbers
pub record AllowsNumbers (allowed : Outcome → Type 0) (v : VariableFacts) (env : List Value) (ts : WideTerms) : Type 0 where
  pub only : AllowsOnly allowed (map number (wide_values ts env))
  pub over : TermsOver v ts

allows_numbers : {A : Outcome → Type 0} (v : VariableFacts) (env : List Value) (bs : List Base) (ps : List Part) → AreInts bs → Expands A v env bs ps
    → AllowsNumbers A v env (numbers_in ps)
allows_numbers {A} v env bs ps i h =
    record { only = subst (λ vs. AllowsOnly A vs) (numbers_only v env bs ps i h.over) h.only; over = terms_over v bs ps i h.over }

-- one base for each expression
abbrev copies : Base → ExprTrees → List Base
copies b no_exprs = []
copies b (expr_more e es) = b ∷ copies b es

parts_of_all : (linear : LinearBehind) (takes : ℕ → List Base → List Base → Type 0) (es : ExprTrees) (scope : List Base) (b : Base)
    → AllHaveBy linear takes es scope b → PartsHaveBy linear takes es scope (copies b es)
parts_of_all linear takes no_exprs scope b h = refl
parts_of_all linear takes (expr_more e es) scope b h = (b, copies b es, refl, h.0, parts_of_all linear takes es scope b h.1)

ints_copied : (es : ExprTrees) → AreInts (copies Int es)
ints_copied no_exprs = tt
ints_copied (expr_more e es) = ints_copied es

ints_of_orders : (orders : List Order) → AreInts (map (λ _. Int) orders)
ints_of_orders [] = tt
ints_of_orders (o ∷ orders) = ints_of_orders orders

some_terms : (es : ExprTrees) (calls : Calls) (ps : List Part) → AreSeveral es → HasTerms (numbers_in (all_expanded calls ps es))
some_terms no_exprs calls ps h = absurd h
some_terms (expr_more e es) calls ps h = tt

module _ (linear : LinearBehind) (chooses : Choosing) (calls : Calling) (parts : Calls) (takes : ℕ → List Base → List Base → Type 0) (good : ℕ → Type 0)
    (v : VariableFacts) (env : List Value) (known : CallsExpand calls parts takes good v env) where
  -- behind the values that are bound
  bound_only : (ps qs : List Part) (b : ExprTree) (ws : List Value) → AllowsOnly (AllowedBy chooses calls b (map (part_value env) (ps ++ qs))) ws →
      AllowsOnly (AllowedBy chooses calls b (map (part_value env) ps ++ map (part_value env) qs)) ws
  bound_only ps qs b ws h = subst (λ vs. AllowsOnly (AllowedBy chooses calls b vs) ws) (map_joined env ps qs) h

  mutual
    pub expands : (e : ExprTree) (scope : List Base) (ps : List Part) → PartsOver v scope ps → (bs : List Base) → ExprHasBasesBy linear takes e scope bs
        → MayStand good e → Expands (AllowedBy chooses calls e (map (part_value env) ps)) v env bs (expanded parts ps e)
    expands (expr_lit k) scope ps over bs h m = parts_of_one Int bs _ h.1 (record { only = (refl, λ o s. s); over = h.0 })
    expands (expr_truth true) scope ps over bs h m = parts_of_one Truth bs _ h (record { only = (refl, λ o s. s); over = tt })
    expands (expr_truth false) scope ps over bs h m = parts_of_one Truth bs _ h (record { only = (refl, λ o s. s); over = tt })
    expands (expr_var x) scope ps over bs h m =
        parts_of_one h.0 bs _ h.2 (record { only = rw (value_of_part env ps x) (refl, λ o s. s); over = over_at v scope ps x h.0 over h.1 })
    expands (expr_set_of no_exprs) scope ps over bs h m =
        parts_of_one Set bs _ h.1 (record { only = then_only [] _ (refl, λ o s. s) (refl, λ o s. s); over = tt })
    expands (expr_set_of (expr_more e es)) scope ps over bs h m = absurd m
    expands (expr_tuple es) scope ps over bs h m = all_expand es scope ps over bs h.1 m
    expands (expr_neg a) scope ps over bs h m =
        let n = number_part _ (one_of_parts Int _ (expands a scope ps over (one Int) h.0 m)) in
        parts_of_one Int bs _ h.1 (record { only = then_only _ _ n.0 (refl, λ o s. s); over = n.1 })
    expands (expr_not a) scope ps over bs h m =
        let n = part_of_truth _ (one_of_parts Truth _ (expands a scope ps over (one Truth) h.0 m)) in
        parts_of_one Truth bs _ h.1 (record { only = then_only _ _ n.0 (refl, λ o s. s); over = n.1 })
    expands (expr_abs a) scope ps over bs h m =
        let n = number_part _ (one_of_parts Int _ (expands a scope ps over (one Int) h.0 m)) in
        parts_of_one Int bs _ h.1 (record { only = then_only _ _ n.0 (refl, λ o s. s); over = n.1 })
    expands (expr_binary op a b) scope ps over bs h m =
        parts_of_one (result_of op) bs _ h.1 (
        binary_expands op (first_part (expanded parts ps a)) (first_part (expanded parts ps b)) (λ c. ExprHasBasesBy linear takes a scope (one c))
        (λ c. ExprHasBasesBy linear takes b scope (one c)) (λ c t. one_of_parts c _ (expands a scope ps over (one c) t m.0))
        (λ c t. one_of_parts c _ (expands b scope ps over (one c) t m.1)) h.0)
    expands (expr_divides k a) scope ps over bs h m =
        let n = number_part _ (one_of_parts Int _ (expands a scope ps over (one Int) h.1 m)) in
        parts_of_one Truth bs _ h.2 (record { only = then_only _ _ n.0 (refl, λ o s. s); over = (h.0, n.1) })
    expands (expr_div a k) scope ps over bs h m =
        let n = number_part _ (one_of_parts Int _ (expands a scope ps over (one Int) h.1 m)) in
        parts_of_one Int bs _ h.2 (record { only = then_only _ _ n.0 (refl, λ o s. s); over = (n.1, h.0) })
    expands (expr_mod a k) scope ps over bs h m =
        let n = number_part _ (one_of_parts Int _ (expands a scope ps over (one Int) h.1 m)) in
        parts_of_one Int bs _ h.2 (record { only = then_only _ _ n.0 (refl, λ o s. s); over = (n.1, h.0) })
    expands (expr_card a) scope ps over bs h m =
        let n = set_part _ (one_of_parts Set _ (expands a scope ps over (one Set) h.0 m)) in
        parts_of_one Int bs _ h.1 (record { only = then_only _ _ n.0 (refl, λ o s. s); over = n.1 })
    expands (expr_if t a b) scope ps over bs h m =
        if_expands v env bs (first_part (expanded parts ps t)) (expanded parts ps a) (expanded parts ps b)
        (one_of_parts Truth _ (expands t scope ps over (one Truth) h.0 m.0)) (expands a scope ps over bs h.1 m.1) (expands b scope ps over bs h.2 m.2)
    expands (expr_call f es) scope ps over bs h m =
        let given = all_expand es scope ps over h.0 h.2 m.0 in
        let called = known f h.0 bs h.1 m.1 (all_expanded parts ps es) given.over in
        record { only = then_only _ _ given.only called.only; over = called.over }
    expands (expr_let n a b) scope ps over bs h m =
        let bound = expands a scope ps over h.0 h.1 m.0 in
        let inner = expands b (scope ++ h.0) (ps ++ expanded parts ps a) (over_joined v scope h.0 ps (expanded parts ps a) over bound.over) bs h.4 m.1 in
        record {
          only = then_only _ _ bound.only (bound_only ps (expanded parts ps a) b _ inner.only);
          over = inner.over;
        }
    expands (expr_chain orders es) scope ps over bs h m =
        let n = allows_numbers v env _ _ (ints_of_orders orders) (all_expand es scope ps over (Int ∷ map (λ _. Int) orders) h.1 m) in
        parts_of_one Truth bs _ h.2 (record { only = then_only _ _ n.only (refl, λ o s. s); over = n.over })
    expands (expr_min es) scope ps over bs h m =
        let n = allows_numbers v env _ _ (ints_copied es) (all_expand es scope ps over (copies Int es) (parts_of_all linear takes es scope Int h.1) m) in
        parts_of_one Int bs _ h.2 (record {
          only = then_only _ _ n.only (rw (numbers_of (wide_values (numbers_in (all_expanded parts ps es)) env)) (refl, λ o s. s));
          over = (some_terms es parts ps h.0, n.over);
        })
    expands (expr_max es) scope ps over bs h m =
        let n = allows_numbers v env _ _ (ints_copied es) (all_expand es scope ps over (copies Int es) (parts_of_all linear takes es scope Int h.1) m) in
        parts_of_one Int bs _ h.2 (record {
          only = then_only _ _ n.only (rw (numbers_of (wide_values (numbers_in (all_expanded parts ps es)) env)) (refl, λ o s. s));
          over = (some_terms es parts ps h.0, n.over);
        })
    expands (expr_choose n params outputs rel) scope ps over bs h m = absurd m
    expands (expr_match n params a arms) scope ps over bs h m = absurd m
    expands (expr_choose_where n params outputs hidden given rel aim) scope ps over bs h m = absurd m

    pub all_expand : (es : ExprTrees) (scope : List Base) (ps : List Part) → PartsOver v scope ps → (bs : List Base) → PartsHaveBy linear takes es scope bs
        → AllMayStand good es → Expands (AllAllowedBy chooses calls es (map (part_value env) ps)) v env bs (all_expanded parts ps es)
    all_expand no_exprs scope ps over bs h m = rw h (record { only = (refl, λ o s. s); over = tt })
    all_expand (expr_more e es) scope ps over bs h m =
        let first = one_of_parts h.0 _ (expands e scope ps over (one h.0) h.3 m.0) in
        let rest = all_expand es scope ps over h.1 h.4 m.1 in
        rw h.2 (record { only = then_only _ _ first.only (then_only _ _ rest.only (refl, λ o s. s)); over = (first.over, rest.over) })

-- ---- calls
same_length : (ds : List DefTree) → length (bodies ds) ≡ length ds
same_length [] = refl
same_length (d ∷ ds) = ap suc (same_length ds)

-- the function that is called is the last one, or one before it
either_expands : (t : Bool) {T U M N : Type 0} {A B : Outcome → Type 0} (v : VariableFacts) (env : List Value) (bs : List Base) (ps qs : List Part)
    → (T → M → Expands A v env bs ps) → (U → N → Expands B v env bs qs) → MatchBool t T U → MatchBool t M N
    → Expands (λ o. MatchBool t (A o) (B o)) v env bs (if t then ps else qs)
either_expands true v env bs ps qs f g h m = f h m
either_expands false v env bs ps qs f g h m = g h m

pub calls_expand : (linear : LinearBehind) (chooses : Choosing) (earlier : List DefTree) → AreTypedDefsBy linear earlier →
    (v : VariableFacts) (env : List Value)
    → CallsExpand (CallAllowedBy chooses (bodies earlier)) (call_expanded (bodies earlier)) (Takes earlier) (CallMayStand (bodies earlier)) v env
calls_expand linear chooses [] typed v env f params bs takes good ps over = absurd takes
calls_expand linear chooses (d ∷ earlier) typed v env f params bs takes good ps over =
    let known = calls_expand linear chooses earlier typed.1 v env in
    let takes_it : MatchBool (f == length (bodies earlier)) ((params ≡ bases_of d.params) × (bs ≡ d.results)) (Takes earlier f params bs) =
    rw (same_length earlier) takes in
    either_expands (f == length (bodies earlier)) v env bs _ _
    (λ t m. subst (λ cs. Expands (AllowedBy chooses (CallAllowedBy chooses (bodies earlier)) d.body (map (part_value env) ps)) v env cs
    (expanded (call_expanded (bodies earlier)) ps d.body)) (sym t.1)
    (expands linear chooses (CallAllowedBy chooses (bodies earlier)) (call_expanded (bodies earlier)) (Takes earlier)
    (CallMayStand (bodies earlier)) v env known
    d.body (bases_of d.params) ps (subst (λ cs. PartsOver v cs ps) t.0 over) d.results typed.0.1 m))
    (λ t m. known f params bs t m ps over) takes_it good
