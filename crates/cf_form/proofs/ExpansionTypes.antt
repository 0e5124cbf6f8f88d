-- The parts of a typed expression are typed.
use Rattle.std.proofs.Common.{◌≡◌, ℕ, zero, suc, ◌==◌, pos, Bool, true, false, Some, List, [], ◌∷◌, ◌++◌, length, map, slice_get, MatchBool, refl, ap, subst}
use Rattle.std.specs.Prelude.{if◌then◌else◌}
use Rattle.std.specs.List.{slice_index_or}
use Rattle.std.proofs.lemmas.List.{length-map}
use Rattle.cf_tree.specs.declared.base.Base.{Base}
use Rattle.cf_tree.specs.declared.base.Base.TheVariants.{Int, Bool as Truth, Set}
use Rattle.cf_tree.specs.declared.base.Order.{Order}
use Rattle.cf_tree.specs.declared.base.Order.TheVariants.{Eq, Ne, Lt, Le, Gt, Ge}
use Rattle.cf_tree.specs.declared.raw.BinOp.{BinOp}
use Rattle.cf_tree.specs.declared.raw.BinOp.TheVariants.{Add, Sub, Mul, And, Or, Implies, Union, Inter, Diff, Subset, Compare}
use Rattle.cf_tree.specs.DefView.{DefTree}
use Rattle.cf_tree.specs.ExprTree.{ExprTree, expr_lit, expr_truth, expr_var, expr_set_of, expr_tuple, expr_neg, expr_not, expr_abs, expr_binary, expr_divides, expr_div, expr_mod, expr_card, expr_if, expr_call, expr_let, expr_choose, expr_match, expr_chain, expr_min, expr_max, expr_choose_where, ExprTrees, no_exprs, expr_more}
use Rattle.cf_tree.specs.Params.{bases_of}
use Rattle.cf_program.specs.TypedProgram.{LinearBehind, AreSides, ExprHasBasesBy, PartsHaveBy, Takes, AreTypedDefsBy}
use Rattle.cf_program.specs.Walk.{side_of, result_of}
use Rattle.cf_form.specs.Expansion.{Part, of_number, of_set, of_truth, number_in, set_in, truth_in, first_part, numbers_in, truth_part, variable_part, variables_from, sets_compared, truths_compared, compared_part, binary_part, if_part, if_parts, Calls, expanded, all_expanded, call_expanded}
use Rattle.cf_form.specs.Laws.{bodies}
use Rattle.cf_form.specs.Relations.{MayStand, AllMayStand, CallMayStand}
use Rattle.cf_form.specs.Wide.{WideSet, WideRel, wide_lit, wide_neg, wide_abs, wide_not, wide_divides, wide_div, wide_mod, wide_card, wide_empty, wide_chain, wide_min, wide_max}
use Rattle.cf_form.proofs.OrdinaryLaws.{parts_have, sides_have}
use Rattle.cf_form.proofs.WideTypes.{IsWideTerm, AreWideTerms, IsWideSet, IsWideRel}

-- the variables from level x on have these bases
abbrev pub HaveLevels : List Base → ℕ → List Base → Type 0
HaveLevels scope x [] = Unit {0}
HaveLevels scope x (b ∷ bs) = (slice_get scope x ≡ Some b) × HaveLevels scope (suc x) bs

levels_later : (c : Base) (scope : List Base) (x : ℕ) (bs : List Base) → HaveLevels scope x bs → HaveLevels (c ∷ scope) (suc x) bs
levels_later c scope x [] h = tt
levels_later c scope x (b ∷ bs) h = (h.0, levels_later c scope (suc x) bs h.1)

pub levels_front : (bs more : List Base) → HaveLevels (bs ++ more) 0 bs
levels_front [] more = tt
levels_front (b ∷ bs) more = (refl, levels_later b (bs ++ more) 0 bs (levels_front bs more))

pub levels_all : (bs : List Base) → HaveLevels bs 0 bs
levels_all [] = tt
levels_all (b ∷ bs) = (refl, levels_later b bs 0 bs (levels_all bs))

pub levels_behind : (scope bs : List Base) → HaveLevels (scope ++ bs) (length scope) bs
levels_behind [] bs = levels_all bs
levels_behind (c ∷ scope) bs = levels_later c (scope ++ bs) (length scope) bs (levels_behind scope bs)

module _ (scope : List Base) where
  abbrev pub IsTruthLevel : ℕ → Type 0
  IsTruthLevel x = slice_get scope x ≡ Some Truth

  -- a part of this base, typed
  abbrev pub PartIs : Base → Part → Type 0
  PartIs Int (of_number t) = IsWideTerm IsTruthLevel scope t
  PartIs Int (of_set s) = ⊥
  PartIs Int (of_truth r) = ⊥
  PartIs Truth (of_number t) = ⊥
  PartIs Truth (of_set s) = ⊥
  PartIs Truth (of_truth r) = IsWideRel IsTruthLevel scope r
  PartIs Set (of_number t) = ⊥
  PartIs Set (of_set s) = IsWideSet IsTruthLevel scope s
  PartIs Set (of_truth r) = ⊥

  abbrev pub AreParts : List Base → List Part → Type 0
  AreParts [] [] = Unit {0}
  AreParts [] (p ∷ ps) = ⊥
  AreParts (b ∷ bs) [] = ⊥
  AreParts (b ∷ bs) (p ∷ ps) = PartIs b p × AreParts bs ps

  number_typed : (p : Part) → PartIs Int p → IsWideTerm IsTruthLevel scope (number_in p)
  number_typed (of_number t) h = h
  number_typed (of_set s) h = absurd h
  number_typed (of_truth r) h = absurd h

  set_typed : (p : Part) → PartIs Set p → IsWideSet IsTruthLevel scope (set_in p)
  set_typed (of_number t) h = absurd h
  set_typed (of_set s) h = h
  set_typed (of_truth r) h = absurd h

  pub truth_typed : (p : Part) → PartIs Truth p → IsWideRel IsTruthLevel scope (truth_in p)
  truth_typed (of_number t) h = absurd h
  truth_typed (of_set s) h = absurd h
  truth_typed (of_truth r) h = h

  pub one_part : (b : Base) (ps : List Part) → AreParts (b ∷ []) ps → PartIs b (first_part ps)
  one_part b [] h = absurd h
  one_part b (p ∷ ps) h = h.0

  number_from : (ps : List Part) → AreParts (Int ∷ []) ps → IsWideTerm IsTruthLevel scope (number_in (first_part ps))
  number_from ps h = number_typed (first_part ps) (one_part Int ps h)

  pub truth_from : (ps : List Part) → AreParts (Truth ∷ []) ps → IsWideRel IsTruthLevel scope (truth_in (first_part ps))
  truth_from ps h = truth_typed (first_part ps) (one_part Truth ps h)

  parts_append : (bs cs : List Base) (ps qs : List Part) → AreParts bs ps → AreParts cs qs → AreParts (bs ++ cs) (ps ++ qs)
  parts_append [] cs [] qs h k = k
  parts_append [] cs (p ∷ ps) qs h k = absurd h
  parts_append (b ∷ bs) cs [] qs h k = absurd h
  parts_append (b ∷ bs) cs (p ∷ ps) qs h k = (h.0, parts_append bs cs ps qs h.1 k)

  part_at : (bs : List Base) (ps : List Part) (x : ℕ) (b : Base) (d : Part) → AreParts bs ps → slice_get bs x ≡ Some b → PartIs b (slice_index_or ps x d)
  part_at [] ps x b d h e = cc
  part_at (c ∷ bs) [] x b d h e = absurd h
  part_at (c ∷ bs) (p ∷ ps) zero b d h e = let same : c ≡ b = cc in subst (λ a. PartIs a p) same h.0
  part_at (c ∷ bs) (p ∷ ps) (suc x) b d h e = part_at bs ps x b d h.1 e

  variable_typed : (b : Base) (x : ℕ) → slice_get scope x ≡ Some b → PartIs b (variable_part b x)
  variable_typed Int x e = e
  variable_typed Truth x e = e
  variable_typed Set x e = e

  pub variables_typed : (x : ℕ) (bs : List Base) → HaveLevels scope x bs → AreParts bs (variables_from x bs)
  variables_typed x [] h = tt
  variables_typed x (b ∷ bs) h = (variable_typed b x h.0, variables_typed (suc x) bs h.1)

  ints_typed : {A : Type 0} (xs : List A) (ps : List Part) → AreParts (map (λ _. Int) xs) ps → AreWideTerms IsTruthLevel scope (numbers_in ps)
  ints_typed [] [] h = tt
  ints_typed [] (p ∷ ps) h = absurd h
  ints_typed (x ∷ xs) [] h = absurd h
  ints_typed (x ∷ xs) (p ∷ ps) h = (number_typed p h.0, ints_typed xs ps h.1)

  truth_part_typed : (t : Bool) → PartIs Truth (truth_part t)
  truth_part_typed true = tt
  truth_part_typed false = tt

  -- ---- operations with two sides
  sets_typed : (o : Order) (s t : WideSet) → IsWideSet IsTruthLevel scope s → IsWideSet IsTruthLevel scope t →
      IsWideRel IsTruthLevel scope (sets_compared o s t)
  sets_typed Eq s t h k = (h, k)
  sets_typed Ne s t h k = (h, k)
  sets_typed Lt s t h k = (h, k)
  sets_typed Le s t h k = (h, k)
  sets_typed Gt s t h k = (h, k)
  sets_typed Ge s t h k = (h, k)

  truths_typed : (o : Order) (p q : WideRel) → IsWideRel IsTruthLevel scope p → IsWideRel IsTruthLevel scope q →
      IsWideRel IsTruthLevel scope (truths_compared o p q)
  truths_typed Eq s t h k = (h, k)
  truths_typed Ne s t h k = (h, k)
  truths_typed Lt s t h k = (h, k)
  truths_typed Le s t h k = (h, k)
  truths_typed Gt s t h k = (h, k)
  truths_typed Ge s t h k = (h, k)

  compared_typed : (o : Order) (c : Base) (p q : Part) → PartIs c p → PartIs c q → PartIs Truth (compared_part o p q)
  compared_typed o Int (of_number t) q h k = (h, number_typed q k)
  compared_typed o Int (of_set s) q h k = absurd h
  compared_typed o Int (of_truth r) q h k = absurd h
  compared_typed o Truth (of_number t) q h k = absurd h
  compared_typed o Truth (of_set s) q h k = absurd h
  compared_typed o Truth (of_truth r) q h k = truths_typed o r (truth_in q) h (truth_typed q k)
  compared_typed o Set (of_number t) q h k = absurd h
  compared_typed o Set (of_set s) q h k = sets_typed o s (set_in q) h (set_typed q k)
  compared_typed o Set (of_truth r) q h k = absurd h

  binary_typed : (op : BinOp) (p q : Part) (A B : Base → Type 0) → ((c : Base) → A c → PartIs c p) → ((c : Base) → B c → PartIs c q) →
      AreSides (side_of op) A B → PartIs (result_of op) (binary_part op p q)
  binary_typed Add p q A B f g h = (number_typed p (f Int h.0), number_typed q (g Int h.1))
  binary_typed Sub p q A B f g h = (number_typed p (f Int h.0), number_typed q (g Int h.1))
  binary_typed Mul p q A B f g h = (number_typed p (f Int h.0), number_typed q (g Int h.1))
  binary_typed And p q A B f g h = (truth_typed p (f Truth h.0), truth_typed q (g Truth h.1))
  binary_typed Or p q A B f g h = (truth_typed p (f Truth h.0), truth_typed q (g Truth h.1))
  binary_typed Implies p q A B f g h = (truth_typed p (f Truth h.0), truth_typed q (g Truth h.1))
  binary_typed Union p q A B f g h = (set_typed p (f Set h.0), set_typed q (g Set h.1))
  binary_typed Inter p q A B f g h = (set_typed p (f Set h.0), set_typed q (g Set h.1))
  binary_typed Diff p q A B f g h = (set_typed p (f Set h.0), set_typed q (g Set h.1))
  binary_typed Subset p q A B f g h = (set_typed p (f Set h.0), set_typed q (g Set h.1))
  binary_typed (Compare o) p q A B f g h =
      let s = sides_have (side_of (Compare o)) A B h in compared_typed o s.0 p q (f s.0 s.1) (g s.0 s.2)

  if_typed : (c : WideRel) (b : Base) (p q : Part) → IsWideRel IsTruthLevel scope c → PartIs b p → PartIs b q → PartIs b (if_part c p q)
  if_typed c Int (of_number t) q k g h = (k, g, number_typed q h)
  if_typed c Int (of_set s) q k g h = absurd g
  if_typed c Int (of_truth r) q k g h = absurd g
  if_typed c Truth (of_number t) q k g h = absurd g
  if_typed c Truth (of_set s) q k g h = absurd g
  if_typed c Truth (of_truth r) q k g h = (k, g, truth_typed q h)
  if_typed c Set (of_number t) q k g h = absurd g
  if_typed c Set (of_set s) q k g h = (k, g, set_typed q h)
  if_typed c Set (of_truth r) q k g h = absurd g

  ifs_typed : (c : WideRel) (bs : List Base) (ps qs : List Part) → IsWideRel IsTruthLevel scope c → AreParts bs ps → AreParts bs qs →
      AreParts bs (if_parts c ps qs)
  ifs_typed c [] [] qs k g h = tt
  ifs_typed c [] (p ∷ ps) qs k g h = absurd g
  ifs_typed c (b ∷ bs) [] qs k g h = absurd g
  ifs_typed c (b ∷ bs) (p ∷ ps) [] k g h = absurd h
  ifs_typed c (b ∷ bs) (p ∷ ps) (q ∷ qs) k g h = (if_typed c b p q k g.0 h.0, ifs_typed c bs ps qs k g.1 h.1)

  alone : (bs : List Base) (b : Base) (p : Part) → bs ≡ b ∷ [] → PartIs b p → AreParts bs (p ∷ [])
  alone bs b p e h = rw e (h, tt)

  -- ---- expressions
  module _ (linear : LinearBehind) (takes : ℕ → List Base → List Base → Type 0) (may : ℕ → Type 0) (calls : Calls)
      (calls_typed : (f : ℕ) (ps rs : List Base) → takes f ps rs → may f → (args : List Part) → AreParts ps args → AreParts rs (calls f args)) where
    mutual
      pub parts_typed : (e : ExprTree) (own bs : List Base) → ExprHasBasesBy linear takes e own bs → MayStand may e → (env : List Part) → AreParts own env →
          AreParts bs (expanded calls env e)
      parts_typed (expr_lit k) own bs h m env v = alone bs Int (of_number (wide_lit k)) h.1 h.0
      parts_typed (expr_truth t) own bs h m env v = alone bs Truth (truth_part t) h (truth_part_typed t)
      parts_typed (expr_var x) own bs h m env v =
          alone bs h.0 (slice_index_or env x (of_number (wide_lit (pos 0)))) h.2 (part_at own env x h.0 (of_number (wide_lit (pos 0))) v h.1)
      parts_typed (expr_set_of es) own bs h m env v = alone bs Set (of_set wide_empty) h.1 tt
      parts_typed (expr_tuple es) own bs h m env v = all_typed es own bs h.1 m env v
      parts_typed (expr_neg a) own bs h m env v = alone bs Int (of_number (wide_neg (number_in (first_part (expanded calls env a))))) h.1 (number_from (expanded calls env a) (parts_typed a own (Int ∷ []) h.0 m env v))
      parts_typed (expr_not a) own bs h m env v = alone bs Truth (of_truth (wide_not (truth_in (first_part (expanded calls env a))))) h.1 (truth_from (expanded calls env a) (parts_typed a own (Truth ∷ []) h.0 m env v))
      parts_typed (expr_abs a) own bs h m env v = alone bs Int (of_number (wide_abs (number_in (first_part (expanded calls env a))))) h.1 (number_from (expanded calls env a) (parts_typed a own (Int ∷ []) h.0 m env v))
      parts_typed (expr_binary op a b) own bs h m env v =
          alone bs (result_of op) (binary_part op (first_part (expanded calls env a)) (first_part (expanded calls env b))) h.1
          (binary_typed op (first_part (expanded calls env a)) (first_part (expanded calls env b)) (λ c. ExprHasBasesBy linear takes a own (c ∷ []))
          (λ c. ExprHasBasesBy linear takes b own (c ∷ []))
          (λ c t. one_part c (expanded calls env a) (parts_typed a own (c ∷ []) t m.0 env v))
          (λ c t. one_part c (expanded calls env b) (parts_typed b own (c ∷ []) t m.1 env v)) h.0)
      parts_typed (expr_divides k a) own bs h m env v =
          alone bs Truth (of_truth (wide_divides k (number_in (first_part (expanded calls env a))))) h.2 (h.0, number_from (expanded calls env a) (parts_typed a own (Int ∷ []) h.1 m env v))
      parts_typed (expr_div a k) own bs h m env v =
          alone bs Int (of_number (wide_div (number_in (first_part (expanded calls env a))) k)) h.2 (number_from (expanded calls env a) (parts_typed a own (Int ∷ []) h.1 m env v), h.0)
      parts_typed (expr_mod a k) own bs h m env v =
          alone bs Int (of_number (wide_mod (number_in (first_part (expanded calls env a))) k)) h.2 (number_from (expanded calls env a) (parts_typed a own (Int ∷ []) h.1 m env v), h.0)
      parts_typed (expr_card a) own bs h m env v =
          alone bs Int (of_number (wide_card (set_in (first_part (expanded calls env a))))) h.1
          (set_typed (first_part (expanded calls env a)) (one_part Set (expanded calls env a) (parts_typed a own (Set ∷ []) h.0 m env v)))
      parts_typed (expr_if t a b) own bs h m env v =
          ifs_typed (truth_in (first_part (expanded calls env t))) bs (expanded calls env a) (expanded calls env b) (truth_from (expanded calls env t) (parts_typed t own (Truth ∷ []) h.0 m.0 env v))
          (parts_typed a own bs h.1 m.1 env v) (parts_typed b own bs h.2 m.2 env v)
      parts_typed (expr_call f es) own bs h m env v = calls_typed f h.0 bs h.1 m.1 (all_expanded calls env es) (all_typed es own h.0 h.2 m.0 env v)
      parts_typed (expr_let n a b) own bs h m env v =
          parts_typed b (own ++ h.0) bs h.4 m.1 (env ++ expanded calls env a)
          (parts_append own h.0 env (expanded calls env a) v (parts_typed a own h.0 h.1 m.0 env v))
      parts_typed (expr_chain orders es) own bs h m env v =
          alone bs Truth (of_truth (wide_chain orders (numbers_in (all_expanded calls env es)))) h.2
          (ints_typed (Eq ∷ orders) (all_expanded calls env es) (all_typed es own (Int ∷ map (λ _. Int) orders) h.1 m env v))
      parts_typed (expr_min es) own bs h m env v =
          let parts = parts_have linear takes es own h.1 in
          alone bs Int (of_number (wide_min (numbers_in (all_expanded calls env es)))) h.2
          (ints_typed parts.0 (all_expanded calls env es) (all_typed es own (map (λ _. Int) parts.0) parts.2 m env v))
      parts_typed (expr_max es) own bs h m env v =
          let parts = parts_have linear takes es own h.1 in
          alone bs Int (of_number (wide_max (numbers_in (all_expanded calls env es)))) h.2
          (ints_typed parts.0 (all_expanded calls env es) (all_typed es own (map (λ _. Int) parts.0) parts.2 m env v))
      parts_typed (expr_choose n params outputs rel) own bs h m env v = absurd m
      parts_typed (expr_choose_where n params outputs hidden given rel aim) own bs h m env v = absurd m
      parts_typed (expr_match n params a arms) own bs h m env v = absurd m

      all_typed : (es : ExprTrees) (own bs : List Base) → PartsHaveBy linear takes es own bs → AllMayStand may es → (env : List Part) → AreParts own env →
          AreParts bs (all_expanded calls env es)
      all_typed no_exprs own bs h m env v = rw h tt
      all_typed (expr_more e es) own bs h m env v =
          rw h.2 (one_part h.0 (expanded calls env e) (parts_typed e own (h.0 ∷ []) h.3 m.0 env v), all_typed es own h.1 h.4 m.1 env v)

  -- ---- calls
  module _ (linear : LinearBehind) where
    on_test : (b c d : Bool) (rs : List Base) (X Y Z W : Type 0) (ps qs : List Part) → c ≡ b → d ≡ b →
        (X → Z → AreParts rs ps) → (Y → W → AreParts rs qs) → MatchBool b X Y → MatchBool c Z W → AreParts rs (if d then ps else qs)
    on_test true c d rs X Y Z W ps qs e f g h x z = rw f (g x (subst (λ t. MatchBool t Z W) e z))
    on_test false c d rs X Y Z W ps qs e f g h x z = rw f (h x (subst (λ t. MatchBool t Z W) e z))

    same_test : (f : ℕ) (earlier : List DefTree) → (f == length (bodies earlier)) ≡ (f == length earlier)
    same_test f earlier = ap (λ n. f == n) (length-map earlier (λ d. d.body))

    pub calls_typed : (earlier : List DefTree) → AreTypedDefsBy linear earlier → (f : ℕ) (ps rs : List Base) → Takes earlier f ps rs →
        CallMayStand (bodies earlier) f → (args : List Part) → AreParts ps args → AreParts rs (call_expanded (bodies earlier) f args)
    calls_typed [] t f ps rs h m args v = absurd h
    calls_typed (d ∷ earlier) t f ps rs h m args v =
        on_test (f == length earlier) (f == length (bodies earlier)) (f == length (bodies earlier)) rs ((ps ≡ bases_of d.params) × (rs ≡ d.results))
        (Takes earlier f ps rs) (MayStand (CallMayStand (bodies earlier)) d.body) (CallMayStand (bodies earlier) f)
        (expanded (call_expanded (bodies earlier)) args d.body) (call_expanded (bodies earlier) f args) (same_test f earlier) (same_test f earlier)
        (λ e k.
        rw e.1 (parts_typed linear (Takes earlier) (CallMayStand (bodies earlier)) (call_expanded (bodies earlier)) (calls_typed earlier t.1) d.body
        (bases_of d.params) d.results t.0.1 k args (subst (λ bs. AreParts bs args) e.0 v)))
        (λ e k. calls_typed earlier t.1 f ps rs e k args v) h m
