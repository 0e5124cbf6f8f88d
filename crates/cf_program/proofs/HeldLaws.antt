-- What an expression is found to hold, its tree with levels holds.
use Rattle.std.proofs.Common.{◌≡◌, ℕ, suc, ◌+◌, Bool, true, false, ◌&&◌, ◌==◌, List, [], ◌∷◌, ◌++◌, length, get_or, Option, Some, None, refl, sym, ◌∙◌, ap, subst, cond, arith}
use Rattle.std.proofs.lemmas.Bool.{eqb-true}
use Rattle.std.proofs.lemmas.List.{map-append, append_assoc, append-nil, length-append}
use Rattle.std.specs.Str.{bytes_eq}
use Rattle.cf_tree.specs.declared.base.Base.{Base}
use Rattle.cf_tree.specs.declared.base.Base.TheVariants.{Int, Bool as Truth, Set}
use Rattle.cf_tree.specs.declared.base.Place.{Place}
use Rattle.cf_tree.specs.declared.raw.BinOp.{BinOp}
use Rattle.cf_tree.specs.declared.raw.BinOp.TheVariants.{Add, Sub, Mul, And, Or, Union, Inter, Diff, Subset, Implies, Compare}
use Rattle.cf_tree.specs.declared.raw.Param.{Param}
use Rattle.cf_tree.specs.Bases.{same_bases}
use Rattle.cf_tree.specs.DefView.{DefTree}
use Rattle.cf_tree.specs.ExprTree.{ExprTree, exprs_of, expr_neg, expr_not, expr_abs, expr_min, expr_max, expr_divides, expr_div, expr_mod, expr_card}
use Rattle.cf_tree.specs.Params.{names_of}
use Rattle.cf_tree.specs.RawTree.{RawTree, raw_lit, raw_truth, raw_name, raw_set_of, raw_group, raw_tuple, raw_neg, raw_not, raw_abs, raw_binary, raw_chain, raw_min, raw_max, raw_divides, raw_div, raw_mod, raw_card, raw_call, raw_if, raw_let, raw_choose, raw_match, RawTrees, no_raws, raw_more}
use Rattle.cf_tree.specs.RelTree.{term_neg, term_abs, term_div, term_mod, term_card, rel_not, rel_divides}
use Rattle.cf_tree.specs.Typing.{one}
use Rattle.cf_tree.proofs.BaseLemmas.{same_bases_is, both}
use Rattle.cf_program.specs.declared.variable.Variable.{Variable}
use Rattle.cf_program.specs.Constants.{constant_of}
use Rattle.cf_program.specs.Linear.{Cause, Held, is_constant, is_known, is_unknown, most_of, both_hold, Found, linear, bends, ◌then◌, Holder, held_from, held_of, holders, one_part, product, operation_found, call_found, found, found_all, called}
use Rattle.cf_program.specs.LinearTrees.{◌then◌ as ◌also◌, one_holds, product_holds, operation_holds, holds, parts_hold, call_holds}
use Rattle.cf_program.specs.Names.{Callee, or_outer, variable_from, variable_of}
use Rattle.cf_program.specs.Reading.{Reading, relation, term, on_relation, on_term, on_set}
use Rattle.cf_program.specs.Source.{IsSpelledRaw, AreSpelledRaws}
use Rattle.cf_program.specs.Walk.{Context, Form, Forms, no_forms, with_form, is_one, all_are, all_are_single, are_asked, joined, name_form, unary_form, binary_form, extreme_form, chain_form, tuple_form, call_form, if_form, bound, let_form, divisor_in, sides_fit, side_of, odd_link, walk, walk_all}
use Rattle.cf_tree.specs.declared.base.Order.{Order}
use Rattle.cf_program.proofs.Kept.{WhenOk, when_ok, when_err, when_bind, when_kept, when_no_fault, when_none_repeated, when_all, when_so, when_then}

-- ---- results that are taken apart
pub then_found : (r : Found) (f : List Held → Found) (hs : List Held) → (r then f) ≡ linear hs → (gs : List Held) × (r ≡ linear gs) × (f gs ≡ linear hs)
then_found (linear gs) f hs e = (gs, refl, e)
then_found (bends p c) f hs e = cc

also_some : {A B : Type 0} (o : Option A) (f : A → Option B) (b : B) → (o also f) ≡ Some b → (a : A) × (o ≡ Some a) × (f a ≡ Some b)
also_some (Some a) f b e = (a, refl, e)
also_some None f b e = cc

no_bend : (p : Place) (c : Cause) (hs : List Held) → bends p c ≡ linear hs → ⊥
no_bend p c hs e = cc

pub linear_is : (gs hs : List Held) → linear gs ≡ linear hs → gs ≡ hs
linear_is gs hs e = cc

called_linear : (p : Place) (x : List ℕ) (r : Found) (hs : List Held) → call_found p x r ≡ linear hs → r ≡ linear hs
called_linear p x (linear gs) hs e = e
called_linear p x (bends q c) hs e = cc

-- ---- what a value of one part holds
abbrev pub IsOnePart : Option (List Held) → List Held → Type 0
IsOnePart o hs = (o ≡ Some hs) × (length hs ≡ 1)

one_is : (h : Held) (hs : List Held) → one_part h ≡ linear hs → IsOnePart (one_holds h) hs
one_is h hs e =
    let same : h ∷ [] ≡ hs = linear_is (h ∷ []) hs e in
    (ap Some same, sym (ap length same))

product_is : (inputs : Bool) (p : Place) (a b : Held) (hs : List Held) → product inputs p a b ≡ linear hs → IsOnePart (product_holds inputs a b) hs
product_is inputs p is_constant b hs e = one_is b hs e
product_is inputs p is_known is_constant hs e = one_is is_known hs e
product_is true p is_known is_known hs e = one_is is_known hs e
product_is false p is_known is_known hs e = cc
product_is true p is_known is_unknown hs e = one_is is_unknown hs e
product_is false p is_known is_unknown hs e = cc
product_is inputs p is_unknown is_constant hs e = one_is is_unknown hs e
product_is true p is_unknown is_known hs e = one_is is_unknown hs e
product_is false p is_unknown is_known hs e = cc
product_is inputs p is_unknown is_unknown hs e = cc

operation_is : (inputs : Bool) (op : BinOp) (p : Place) (a b : Held) (hs : List Held) → operation_found inputs op p a b ≡ linear hs →
    IsOnePart (operation_holds inputs op a b) hs
operation_is inputs Add p a b hs e = one_is _ hs e
operation_is inputs Sub p a b hs e = one_is _ hs e
operation_is inputs Mul p a b hs e = product_is inputs p a b hs e
operation_is inputs And p a b hs e = one_is _ hs e
operation_is inputs Or p a b hs e = one_is _ hs e
operation_is inputs Union p a b hs e = one_is _ hs e
operation_is inputs Inter p a b hs e = one_is _ hs e
operation_is inputs Diff p a b hs e = one_is _ hs e
operation_is inputs Subset p a b hs e = one_is _ hs e
operation_is inputs Implies p a b hs e = one_is _ hs e
operation_is inputs (Compare order) p a b hs e = one_is _ hs e

both_length : (gs hs : List Held) → length gs ≡ length hs → length (both_hold gs hs) ≡ length gs
both_length [] hs e = refl
both_length (g ∷ gs) [] e = absurd (omega (arith, e))
both_length (g ∷ gs) (h ∷ hs) e = ap suc (both_length gs hs (omega (arith, e)))

-- ---- variables
-- variables by level, of which each holds what is told
abbrev pub over : List Param → List Held → List Holder
over scope vs = holders (names_of scope) vs

pub no_variable_held : (n : ℕ) (h : Held) (ps : List Param) (vs : List Held) (x : List ℕ) → length vs ≡ length ps → variable_from n ps x ≡ None →
    held_from h (over ps vs) x ≡ h
no_variable_held n h [] vs x l e = refl
no_variable_held n h (p ∷ ps) [] x l e = absurd (omega (arith, l))
no_variable_held n h (p ∷ ps) (w ∷ vs) x l e =
    by (bytes_eq p.name x) (variable_from (suc n) ps x) refl (λ g. no_variable_held (suc n) g ps vs x (omega (arith, l))) e
  where
    by : (b : Bool) (o : Option Variable) → variable_from (suc n) ps x ≡ o → ((g : Held) → variable_from (suc n) ps x ≡ None → held_from g (over ps vs) x ≡ g) →
        or_outer o (cond b (Some (record { level = n; base = p.base })) None) ≡ None → held_from (cond b w h) (over ps vs) x ≡ h
    by b (Some u) q rest f = cc
    by true None q rest f = cc
    by false None q rest f = rest h q

variable_held : (n : ℕ) (h : Held) (ps : List Param) (vs : List Held) (x : List ℕ) (v : Variable) → length vs ≡ length ps → variable_from n ps x ≡ Some v →
    (k : ℕ) × (v.level ≡ n + k) × (held_from h (over ps vs) x ≡ get_or vs k is_unknown)
variable_held n h [] vs x v l e = cc
variable_held n h (p ∷ ps) [] x v l e = absurd (omega (arith, l))
variable_held n h (p ∷ ps) (w ∷ vs) x v l e =
    by (bytes_eq p.name x) (variable_from (suc n) ps x) refl (λ g. variable_held (suc n) g ps vs x v (omega (arith, l)))
    (λ g. no_variable_held (suc n) g ps vs x (omega (arith, l))) e
  where
    by : (b : Bool) (o : Option Variable) → variable_from (suc n) ps x ≡ o → ((g : Held) → variable_from (suc n) ps x ≡ Some v → (k : ℕ)
        × (v.level ≡ suc n + k) × (held_from g (over ps vs) x ≡ get_or vs k is_unknown)) → ((g : Held) → variable_from (suc n) ps x ≡ None →
        held_from g (over ps vs) x ≡ g) → or_outer o (cond b (Some (record { level = n; base = p.base })) None) ≡ Some v → (k : ℕ) × (v.level ≡ n + k)
        × (held_from (cond b w h) (over ps vs) x ≡ get_or (w ∷ vs) k is_unknown)
    by b (Some u) q inner none f =
        let r : (k : ℕ) × (v.level ≡ suc n + k) × (held_from (cond b w h) (over ps vs) x ≡ get_or vs k is_unknown) = inner (cond b w h) (q ∙ f) in
        (suc r.0, omega (arith, r.1), r.2)
    by true None q inner none f =
        let same : record { level = n; base = p.base } ≡ v = cc in
        let level : n ≡ v.level = ap (λ u. u.level) same in
        (0, omega (arith, level), none w q)
    by false None q inner none f = cc

holders_append : (xs ys : List (List ℕ)) (vs hs : List Held) → length vs ≡ length xs → holders (xs ++ ys) (vs ++ hs) ≡ holders xs vs ++ holders ys hs
holders_append [] ys [] hs l = refl
holders_append [] ys (v ∷ vs) hs l = absurd (omega (arith, l))
holders_append (x ∷ xs) ys [] hs l = absurd (omega (arith, l))
holders_append (x ∷ xs) ys (v ∷ vs) hs l = ap (λ rest. record { name = x; held = v } ∷ rest) (holders_append xs ys vs hs (omega (arith, l)))

bound_names : (xs : List (List ℕ)) (places : List Place) (bs : List Base) → length places ≡ length xs → length xs ≡ length bs →
    names_of (bound xs places bs) ≡ xs
bound_names [] places [] h k = refl
bound_names [] places (b ∷ bs) h k = absurd (omega (arith, k))
bound_names (x ∷ xs) [] bs h k = absurd (omega (arith, h))
bound_names (x ∷ xs) (p ∷ places) [] h k = absurd (omega (arith, k))
bound_names (x ∷ xs) (p ∷ places) (b ∷ bs) h k = ap (λ ys. x ∷ ys) (bound_names xs places bs (omega (arith, h)) (omega (arith, k)))

bound_length : (xs : List (List ℕ)) (places : List Place) (bs : List Base) → length places ≡ length xs → length xs ≡ length bs →
    length (bound xs places bs) ≡ length bs
bound_length [] places [] h k = refl
bound_length [] places (b ∷ bs) h k = absurd (omega (arith, k))
bound_length (x ∷ xs) [] bs h k = absurd (omega (arith, h))
bound_length (x ∷ xs) (p ∷ places) [] h k = absurd (omega (arith, k))
bound_length (x ∷ xs) (p ∷ places) (b ∷ bs) h k = ap suc (bound_length xs places bs (omega (arith, h)) (omega (arith, k)))

pub names_length : (ps : List Param) → length (names_of ps) ≡ length ps
names_length [] = refl
names_length (p ∷ ps) = ap suc (names_length ps)

pub over_more : (scope more : List Param) (vs hs : List Held) → length vs ≡ length scope → over (scope ++ more) (vs ++ hs) ≡ over scope vs ++ over more hs
over_more scope more vs hs l =
    ap (λ xs. holders xs (vs ++ hs)) (map-append (λ p. p.name) scope more)
    ∙ holders_append (names_of scope) (names_of more) vs hs (l ∙ sym (names_length scope))

-- ---- what is found, and what is held
module _ (context : Context) (done : List DefTree) where
  -- a call of an earlier function holds what it is found to hold
  abbrev pub CallsHold : Type 0
  CallsHold =
      (x : List ℕ) (c : Callee) → context.calls x ≡ Some c → c.is_earlier ≡ true → (inputs : Bool) (vs hs : List Held) → length vs ≡ length c.params →
      called inputs context.earlier x vs ≡ linear hs → (call_holds inputs done c.number vs ≡ Some hs) × (length hs ≡ length c.results)

  abbrev pub find : Bool → List Holder → RawTree → Found
  find inputs ws raw = found inputs (called inputs context.earlier) ws raw

  abbrev pub held : Bool → List Held → ExprTree → Option (List Held)
  held inputs vs e = holds inputs (call_holds inputs done) vs e

  -- an expression with its tree and its bases
  abbrev pub Holds : List Param → RawTree → Form → Type 0
  Holds scope raw f =
      (inputs : Bool) (vs hs : List Held) → length vs ≡ length scope → find inputs (over scope vs) raw ≡ linear hs →
      (held inputs vs f.tree ≡ Some hs) × (length hs ≡ length f.bases)

  -- expressions behind those before
  abbrev pub AllHold : List Param → Forms → RawTrees → Forms → Type 0
  AllHold scope before es fs =
      (inputs : Bool) (vs gs hs : List Held) → length vs ≡ length scope → parts_hold inputs (call_holds inputs done) vs (exprs_of before.trees) ≡ Some gs →
      length gs ≡ length before.bases → found_all inputs (called inputs context.earlier) (over scope vs) es ≡ linear hs →
      (parts_hold inputs (call_holds inputs done) vs (exprs_of fs.trees) ≡ Some (gs ++ hs)) × (length (gs ++ hs) ≡ length fs.bases)

  parts_push : (inputs : Bool) (vs : List Held) (es : List ExprTree) (e : ExprTree) (gs hs : List Held) →
      parts_hold inputs (call_holds inputs done) vs (exprs_of es) ≡ Some gs → held inputs vs e ≡ Some hs →
      parts_hold inputs (call_holds inputs done) vs (exprs_of (es ++ e ∷ [])) ≡ Some (gs ++ most_of hs ∷ [])
  parts_push inputs vs [] e gs hs h k =
      let same : [] ≡ gs = cc in
      rw k (ap (λ is. Some (is ++ most_of hs ∷ [])) same)
  parts_push inputs vs (d ∷ es) e gs hs h k =
      let first : (a : List Held) × (held inputs vs d ≡ Some a) × ((parts_hold inputs (call_holds inputs done) vs (exprs_of es) also λ is. Some (most_of a ∷ is)) ≡
      Some gs) = also_some (held inputs vs d) _ gs h in
      let rest : (is : List Held) × (parts_hold inputs (call_holds inputs done) vs (exprs_of es) ≡ Some is) × (Some (most_of first.0 ∷ is) ≡ Some gs) =
      also_some (parts_hold inputs (call_holds inputs done) vs (exprs_of es)) (λ is. Some (most_of first.0 ∷ is)) gs first.2 in
      let same : most_of first.0 ∷ rest.0 ≡ gs = cc in
      rw (first.1, parts_push inputs vs es e rest.0 hs rest.1 k) (ap (λ is. Some (is ++ most_of hs ∷ [])) same)

  same_holds : (scope : List Param) (raw whole : RawTree) (p : Place) (asked given : Base) (tree : ExprTree → ExprTree) (reading : Place → Reading → Reading)
      (f : Form) → ((inputs : Bool) (ws : List Holder) → find inputs ws whole ≡ find inputs ws raw) →
      ((inputs : Bool) (vs : List Held) → held inputs vs (tree f.tree) ≡ held inputs vs f.tree) → Holds scope raw f →
      WhenOk (Holds scope whole) (unary_form p asked given tree reading f)
  same_holds scope raw whole p asked given tree reading f finds helds h =
      when_kept (is_one asked f.bases) _ _ (λ e.
      when_ok _ (λ inputs vs hs l q.
      let r : (held inputs vs f.tree ≡ Some hs) × (length hs ≡ length f.bases) = h inputs vs hs l (sym (finds inputs (over scope vs)) ∙ q) in
      (helds inputs vs ∙ r.0, r.1 ∙ ap length (same_bases_is f.bases (one asked) e))))

  unknown_holds : (scope : List Param) (raw whole : RawTree) (p : Place) (asked given : Base) (tree : ExprTree → ExprTree)
      (reading : Place → Reading → Reading) (f : Form) →
      ((inputs : Bool) (ws : List Holder) → find inputs ws whole ≡ (find inputs ws raw then λ hs. one_part is_unknown)) →
      ((inputs : Bool) (vs : List Held) → held inputs vs (tree f.tree) ≡ (held inputs vs f.tree also λ hs. one_holds is_unknown)) → Holds scope raw f →
      WhenOk (Holds scope whole) (unary_form p asked given tree reading f)
  unknown_holds scope raw whole p asked given tree reading f finds helds h =
      when_kept (is_one asked f.bases) _ _ (λ e.
      when_ok _ (λ inputs vs hs l q.
      let t : (gs : List Held) × (find inputs (over scope vs) raw ≡ linear gs) × (one_part is_unknown ≡ linear hs) = then_found (find inputs (over scope vs) raw) _
      hs (sym (finds inputs (over scope vs)) ∙ q) in
      let r : (held inputs vs f.tree ≡ Some t.0) × (length t.0 ≡ length f.bases) = h inputs vs t.0 l t.1 in
      let o : IsOnePart (one_holds is_unknown) hs = one_is is_unknown hs t.2 in
      (helds inputs vs ∙ ap (λ a. a also λ gs. one_holds is_unknown) r.0 ∙ o.0, o.1)))

  name_holds : (scope : List Param) (n : ℕ) (p : Place) (x : List ℕ) (o : Option Variable) → variable_of scope x ≡ o → (c : Option _) →
      WhenOk (Holds scope (raw_name p x)) (name_form p n o c)
  name_holds scope n p x (Some v) e c =
      when_ok _ (λ inputs vs hs l q.
      let r : (k : ℕ) × (v.level ≡ 0 + k) × (held_from is_constant (over scope vs) x ≡ get_or vs k is_unknown) = variable_held 0 is_constant scope vs x v l e in
      let level : r.0 ≡ v.level = omega (arith, r.1) in
      let P : ℕ → Type 0 = λ k. held_from is_constant (over scope vs) x ≡ get_or vs k is_unknown in
      let at : held_of (over scope vs) x ≡ get_or vs v.level is_unknown = subst P level r.2 in
      one_is (get_or vs v.level is_unknown) hs (sym (ap one_part at) ∙ q))
  name_holds scope n p x None e (Some k) =
      when_ok _ (λ inputs vs hs l q. one_is is_constant hs (sym (ap one_part (no_variable_held 0 is_constant scope vs x l e)) ∙ q))
  name_holds scope n p x None e None = when_err _

  binary_holds : (scope : List Param) (p : Place) (op : BinOp) (a b : RawTree) (f g : Form) → Holds scope a f → Holds scope b g →
      WhenOk (Holds scope (raw_binary p op a b)) (binary_form context.known p op f g)
  binary_holds scope p op a b f g h k =
      when_kept (sides_fit (side_of op) f.bases g.bases) _ _ (λ _.
      when_ok _ (λ inputs vs hs l q.
      let s : (is : List Held) × (find inputs (over scope vs) a ≡ linear is) × ((find inputs (over scope vs) b then λ js. operation_found inputs op p (most_of is)
      (most_of js)) ≡ linear hs) = then_found (find inputs (over scope vs) a) _ hs q in
      let t : (js : List Held) × (find inputs (over scope vs) b ≡ linear js) × (operation_found inputs op p (most_of s.0) (most_of js) ≡ linear hs) =
      then_found (find inputs (over scope vs) b) (λ js. operation_found inputs op p (most_of s.0) (most_of js)) hs s.2 in
      let left : (held inputs vs f.tree ≡ Some s.0) × (length s.0 ≡ length f.bases) = h inputs vs s.0 l s.1 in
      let right : (held inputs vs g.tree ≡ Some t.0) × (length t.0 ≡ length g.bases) = k inputs vs t.0 l t.1 in
      let o : IsOnePart (operation_holds inputs op (most_of s.0) (most_of t.0)) hs = operation_is inputs op p (most_of s.0) (most_of t.0) hs t.2 in
      (rw (left.0, right.0) o.0, o.1)))

  if_holds : (scope : List Param) (p : Place) (t a b : RawTree) (f g i : Form) → Holds scope t f → Holds scope a g → Holds scope b i →
      WhenOk (Holds scope (raw_if p t a b)) (if_form p f g i)
  if_holds scope p t a b f g i hf hg hi =
      when_kept (is_one Truth f.bases && same_bases g.bases i.bases) _ _ (λ fit.
      when_ok _ (λ inputs vs hs l q.
      let u : (us : List Held) × (find inputs (over scope vs) t ≡ linear us) × ((find inputs (over scope vs) a then λ js. find inputs (over scope vs) b then
      λ ks. linear (both_hold js ks)) ≡ linear hs) = then_found (find inputs (over scope vs) t) _ hs q in
      let v : (js : List Held) × (find inputs (over scope vs) a ≡ linear js) × ((find inputs (over scope vs) b then λ ks. linear (both_hold js ks)) ≡ linear hs) =
      then_found (find inputs (over scope vs) a) (λ js. find inputs (over scope vs) b then λ ks. linear (both_hold js ks)) hs u.2 in
      let w : (ks : List Held) × (find inputs (over scope vs) b ≡ linear ks) × (linear (both_hold v.0 ks) ≡ linear hs) = then_found
      (find inputs (over scope vs) b) (λ ks. linear (both_hold v.0 ks)) hs v.2 in
      let rt : (held inputs vs f.tree ≡ Some u.0) × (length u.0 ≡ length f.bases) = hf inputs vs u.0 l u.1 in
      let ra : (held inputs vs g.tree ≡ Some v.0) × (length v.0 ≡ length g.bases) = hg inputs vs v.0 l v.1 in
      let rb : (held inputs vs i.tree ≡ Some w.0) × (length w.0 ≡ length i.bases) = hi inputs vs w.0 l w.1 in
      let same : both_hold v.0 w.0 ≡ hs = linear_is (both_hold v.0 w.0) hs w.2 in
      let bases : g.bases ≡ i.bases = same_bases_is g.bases i.bases (both (is_one Truth f.bases) (same_bases g.bases i.bases) fit).1 in (
        rw (rt.0, ra.0, rb.0) (ap Some same),
        sym (ap length same) ∙ both_length v.0 w.0 (ra.1 ∙ ap length bases ∙ sym rb.1) ∙ ra.1,
      )))

  let_holds : (scope : List Param) (p : Place) (xs : List (List ℕ)) (places : List Place) (a b : RawTree) (f g : Form) → length places ≡ length xs →
      length xs ≡ length f.bases → Holds scope a f → Holds (scope ++ bound xs places f.bases) b g →
      WhenOk (Holds scope (raw_let p xs places a b)) (let_form p (length xs) f g)
  let_holds scope p xs places a b f g paired fits h k =
      when_ok _ (λ inputs vs hs l q.
      let s : (is : List Held) × (find inputs (over scope vs) a ≡ linear is) × (find inputs (over scope vs ++ holders xs is) b ≡ linear hs) = then_found
      (find inputs (over scope vs) a) (λ is. find inputs (over scope vs ++ holders xs is) b) hs q in
      let value : (held inputs vs f.tree ≡ Some s.0) × (length s.0 ≡ length f.bases) = h inputs vs s.0 l s.1 in
      let names : over (bound xs places f.bases) s.0 ≡ holders xs s.0 = ap (λ ys. holders ys s.0) (bound_names xs places f.bases paired fits) in
      let inner : over (scope ++ bound xs places f.bases) (vs ++ s.0) ≡ over scope vs ++ holders xs s.0 = over_more scope (bound xs places f.bases) vs s.0 l
      ∙ ap (λ ws. over scope vs ++ ws) names in
      let many : length (vs ++ s.0) ≡ length (scope ++ bound xs places f.bases) = omega (
        arith,
        length-append vs s.0,
        length-append scope (bound xs places f.bases),
        bound_length xs places f.bases paired fits,
        value.1,
        l,
      ) in
      let body : (held inputs (vs ++ s.0) g.tree ≡ Some hs) × (length hs ≡ length g.bases) = k inputs (vs ++ s.0) hs many
      (ap (λ ws. find inputs ws b) inner ∙ s.2) in
      (rw value.0 body.0, body.1))

  -- the parts of a form over several
  parts_are : (scope : List Param) (n : ℕ) (es : RawTrees) (fs : Forms) → AllHold scope (no_forms n) es fs → (inputs : Bool) (vs hs : List Held) →
      length vs ≡ length scope → found_all inputs (called inputs context.earlier) (over scope vs) es ≡ linear hs →
      (parts_hold inputs (call_holds inputs done) vs (exprs_of fs.trees) ≡ Some hs) × (length hs ≡ length fs.bases)
  parts_are scope n es fs h inputs vs hs l q = h inputs vs [] hs l refl refl q

  joined_length : (bss : List (List Base)) → all_are_single bss ≡ true → length (joined bss) ≡ length bss
  joined_length [] h = refl
  joined_length (bs ∷ bss) h =
      let p : ((length bs == 1) ≡ true) × (all_are_single bss ≡ true) = both (length bs == 1) (all_are_single bss) h in
      omega (arith, length-append bs (joined bss), eqb-true (length bs) 1 p.0, joined_length bss p.1)

  tuple_holds : (scope : List Param) (n : ℕ) (p : Place) (es : RawTrees) (fs : Forms) → AllHold scope (no_forms n) es fs →
      WhenOk (Holds scope (raw_tuple p es)) (tuple_form p fs)
  tuple_holds scope n p es fs h =
      when_kept (all_are_single fs.bases) _ _ (λ single.
      when_ok _ (λ inputs vs hs l q.
      let r : (parts_hold inputs (call_holds inputs done) vs (exprs_of fs.trees) ≡ Some hs) × (length hs ≡ length fs.bases) = parts_are scope n es fs h inputs vs
      hs l q in
      (r.0, r.1 ∙ sym (joined_length fs.bases single))))

  -- the most that several parts hold
  most_are : (scope : List Param) (n : ℕ) (es : RawTrees) (fs : Forms) → AllHold scope (no_forms n) es fs → (inputs : Bool) (vs hs : List Held) →
      length vs ≡ length scope → (found_all inputs (called inputs context.earlier) (over scope vs) es then λ gs. one_part (most_of gs)) ≡ linear hs →
      IsOnePart (parts_hold inputs (call_holds inputs done) vs (exprs_of fs.trees) also λ gs. one_holds (most_of gs)) hs
  most_are scope n es fs h inputs vs hs l q =
      let t : (gs : List Held) × (found_all inputs (called inputs context.earlier) (over scope vs) es ≡ linear gs) × (one_part (most_of gs) ≡ linear hs) =
      then_found (found_all inputs (called inputs context.earlier) (over scope vs) es) _ hs q in
      let r : (parts_hold inputs (call_holds inputs done) vs (exprs_of fs.trees) ≡ Some t.0) × (length t.0 ≡ length fs.bases) = parts_are scope n es fs h inputs
      vs t.0 l t.1 in
      let o : IsOnePart (one_holds (most_of t.0)) hs = one_is (most_of t.0) hs t.2 in
      (rw r.0 o.0, o.1)

  chain_holds : (scope : List Param) (n : ℕ) (p : Place) (orders : List Order) (places : List Place) (es : RawTrees) (fs : Forms) →
      AllHold scope (no_forms n) es fs → WhenOk (Holds scope (raw_chain p orders places es)) (chain_form p orders places fs)
  chain_holds scope n p orders places es fs h =
      when_no_fault (odd_link fs.bases places) _ (λ _. when_ok _ (λ inputs vs hs l q. most_are scope n es fs h inputs vs hs l q))

  min_holds : (scope : List Param) (n : ℕ) (p : Place) (es : RawTrees) (fs : Forms) → AllHold scope (no_forms n) es fs →
      WhenOk (Holds scope (raw_min p es)) (extreme_form p expr_min fs)
  min_holds scope n p es fs h =
      when_kept (all_are Int fs.bases) _ _ (λ _. when_ok _ (λ inputs vs hs l q. most_are scope n es fs h inputs vs hs l q))

  max_holds : (scope : List Param) (n : ℕ) (p : Place) (es : RawTrees) (fs : Forms) → AllHold scope (no_forms n) es fs →
      WhenOk (Holds scope (raw_max p es)) (extreme_form p expr_max fs)
  max_holds scope n p es fs h =
      when_kept (all_are Int fs.bases) _ _ (λ _. when_ok _ (λ inputs vs hs l q. most_are scope n es fs h inputs vs hs l q))

  call_form_holds : CallsHold → (scope : List Param) (n : ℕ) (p : Place) (x : List ℕ) (es : RawTrees) (fs : Forms) (o : Option Callee) → context.calls x ≡ o →
      AllHold scope (no_forms n) es fs → WhenOk (Holds scope (raw_call p x es)) (call_form p o fs)
  call_form_holds known scope n p x es fs None e h = when_err _
  call_form_holds known scope n p x es fs (Some c) e h =
      when_kept (length fs.bases == length c.params) _ _ (λ many.
      when_kept (are_asked fs.bases c.params) _ _ (λ _.
      when_kept c.is_earlier _ _ (λ earlier.
      when_ok _ (λ inputs vs hs l q.
      let t : (gs : List Held) × (found_all inputs (called inputs context.earlier) (over scope vs) es ≡ linear gs)
      × (call_found p x (called inputs context.earlier x gs) ≡ linear hs) = then_found (found_all inputs (called inputs context.earlier) (over scope vs) es) _ hs q in
      let r : (parts_hold inputs (call_holds inputs done) vs (exprs_of fs.trees) ≡ Some t.0) × (length t.0 ≡ length fs.bases) = parts_are scope n es fs h inputs
      vs t.0 l t.1 in
      let body : (call_holds inputs done c.number t.0 ≡ Some hs) × (length hs ≡ length c.results) = known x c e earlier inputs t.0 hs
      (r.1 ∙ eqb-true (length fs.bases) (length c.params) many) (called_linear p x (called inputs context.earlier x t.0) hs t.2) in
      (rw r.0 body.0, body.1)))))

  all_more : (scope : List Param) (before : Forms) (e : RawTree) (es : RawTrees) (f : Form) (fs : Forms) → Holds scope e f →
      AllHold scope (with_form before f) es fs → AllHold scope before (raw_more e es) fs
  all_more scope before e es f fs h k inputs vs gs hs l g many q =
      let a : (is : List Held) × (find inputs (over scope vs) e ≡ linear is) × ((found_all inputs (called inputs context.earlier) (over scope vs) es then λ js.
      linear (most_of is ∷ js)) ≡ linear hs) = then_found (find inputs (over scope vs) e) _ hs q in
      let b : (js : List Held) × (found_all inputs (called inputs context.earlier) (over scope vs) es ≡ linear js) × (linear (most_of a.0 ∷ js) ≡ linear hs) =
      then_found (found_all inputs (called inputs context.earlier) (over scope vs) es) (λ js. linear (most_of a.0 ∷ js)) hs a.2 in
      let first : (held inputs vs f.tree ≡ Some a.0) × (length a.0 ≡ length f.bases) = h inputs vs a.0 l a.1 in
      let r : (parts_hold inputs (call_holds inputs done) vs (exprs_of fs.trees) ≡ Some (gs ++ most_of a.0 ∷ [] ++ b.0))
      × (length (gs ++ most_of a.0 ∷ [] ++ b.0) ≡ length fs.bases) = k inputs vs (gs ++ most_of a.0 ∷ []) b.0 l
      (parts_push inputs vs before.trees f.tree gs a.0 g first.0) (omega (
        arith,
        length-append gs (most_of a.0 ∷ []),
        length-append before.bases (f.bases ∷ []),
        many,
      )) b.1 in
      let same : most_of a.0 ∷ b.0 ≡ hs = linear_is (most_of a.0 ∷ b.0) hs b.2 in
      let whole : gs ++ most_of a.0 ∷ [] ++ b.0 ≡ gs ++ hs = append_assoc gs (most_of a.0 ∷ []) b.0 ∙ ap (λ is. gs ++ is) same in
      (r.0 ∙ ap Some whole, sym (ap length whole) ∙ r.1)

  mutual
    pub walk_holds : CallsHold → (scope : List Param) (n : ℕ) (raw : RawTree) → IsSpelledRaw context.edition raw →
        WhenOk (Holds scope raw) (walk context scope n raw)
    walk_holds known scope n (raw_lit p k) s = when_ok _ (λ inputs vs hs l q. one_is is_constant hs q)
    walk_holds known scope n (raw_truth p t) s = when_ok _ (λ inputs vs hs l q. one_is is_constant hs q)
    walk_holds known scope n (raw_name p x) s = name_holds scope n p x (variable_of scope x) refl (constant_of context.constants x)
    walk_holds known scope n (raw_set_of p no_raws) s = when_ok _ (λ inputs vs hs l q. one_is is_constant hs q)
    walk_holds known scope n (raw_set_of p (raw_more e es)) s =
        when_all (walk context scope n (raw_set_of p (raw_more e es))) (λ f inputs vs hs l q.
        absurd (no_bend _ _ hs (then_found (found_all inputs (called inputs context.earlier) (over scope vs) (raw_more e es)) _ hs q).2))
    walk_holds known scope n (raw_group p a) s = walk_holds known scope n a s
    walk_holds known scope n (raw_tuple p es) s =
        when_bind (walk_all context scope (no_forms n) es) _ (walk_all_holds known scope (no_forms n) es s.1) (λ fs h. tuple_holds scope n p es fs h)
    walk_holds known scope n (raw_neg p a) s =
        when_bind (walk context scope n a) _ (walk_holds known scope n a s) (λ f h.
        same_holds scope a (raw_neg p a) p Int Int expr_neg (on_term (λ t. term (term_neg t))) f (λ inputs ws. refl) (λ inputs vs. refl) h)
    walk_holds known scope n (raw_not p a) s =
        when_bind (walk context scope n a) _ (walk_holds known scope n a s) (λ f h.
        same_holds scope a (raw_not p a) p Truth Truth expr_not (on_relation (λ r. relation (rel_not r))) f (λ inputs ws. refl) (λ inputs vs. refl) h)
    walk_holds known scope n (raw_abs p a) s =
        when_bind (walk context scope n a) _ (walk_holds known scope n a s) (λ f h.
        same_holds scope a (raw_abs p a) p Int Int expr_abs (on_term (λ t. term (term_abs t))) f (λ inputs ws. refl) (λ inputs vs. refl) h)
    walk_holds known scope n (raw_binary p op a b) s =
        when_bind (walk context scope n a) _ (walk_holds known scope n a s.1) (λ f h.
        when_bind (walk context scope f.next b) _ (walk_holds known scope f.next b s.2) (λ g k. binary_holds scope p op a b f g h k))
    walk_holds known scope n (raw_chain p orders places es) s =
        when_bind (walk_all context scope (no_forms n) es) _ (walk_all_holds known scope (no_forms n) es s.2)
        (λ fs h. chain_holds scope n p orders places es fs h)
    walk_holds known scope n (raw_min p es) s =
        when_bind (walk_all context scope (no_forms n) es) _ (walk_all_holds known scope (no_forms n) es s.2) (λ fs h. min_holds scope n p es fs h)
    walk_holds known scope n (raw_max p es) s =
        when_bind (walk_all context scope (no_forms n) es) _ (walk_all_holds known scope (no_forms n) es s.2) (λ fs h. max_holds scope n p es fs h)
    walk_holds known scope n (raw_divides p j a) s =
        when_then (divisor_in context scope j) _ (λ k.
        when_bind (walk context scope n a) _ (walk_holds known scope n a s.1) (λ f h.
        same_holds scope a (raw_divides p j a) p Int Truth (expr_divides k) (on_term (λ t. relation (rel_divides k t))) f (λ inputs ws. refl) (λ inputs vs. refl) h))
    walk_holds known scope n (raw_div p a j) s =
        when_bind (walk context scope n a) _ (walk_holds known scope n a s.1) (λ f h.
        when_then (divisor_in context scope j) _ (λ k.
        unknown_holds scope a (raw_div p a j) p Int Int (λ e. expr_div e k) (on_term (λ t. term (term_div t k))) f (λ inputs ws. refl) (λ inputs vs. refl) h))
    walk_holds known scope n (raw_mod p a j) s =
        when_bind (walk context scope n a) _ (walk_holds known scope n a s.1) (λ f h.
        when_then (divisor_in context scope j) _ (λ k.
        unknown_holds scope a (raw_mod p a j) p Int Int (λ e. expr_mod e k) (on_term (λ t. term (term_mod t k))) f (λ inputs ws. refl) (λ inputs vs. refl) h))
    walk_holds known scope n (raw_card p a) s =
        when_bind (walk context scope n a) _ (walk_holds known scope n a s) (λ f h.
        unknown_holds scope a (raw_card p a) p Set Int expr_card (on_set (λ s. term (term_card s))) f (λ inputs ws. refl) (λ inputs vs. refl) h)
    walk_holds known scope n (raw_call p x es) s =
        when_bind (walk_all context scope (no_forms n) es) _ (walk_all_holds known scope (no_forms n) es s)
        (λ fs h. call_form_holds known scope n p x es fs (context.calls x) refl h)
    walk_holds known scope n (raw_if p t a b) s =
        when_bind (walk context scope n t) _ (walk_holds known scope n t s.0) (λ f h.
        when_bind (walk context scope f.next a) _ (walk_holds known scope f.next a s.1) (λ g k.
        when_bind (walk context scope g.next b) _ (walk_holds known scope g.next b s.2) (λ i j. if_holds scope p t a b f g i h k j)))
    walk_holds known scope n (raw_let p xs places a b) s =
        when_bind (walk context scope n a) _ (walk_holds known scope n a s.2) (λ f h.
        when_none_repeated _ _ (
        when_kept (length xs == length f.bases) _ _ (λ e.
        when_bind (walk context (scope ++ bound xs places f.bases) f.next b) _ (walk_holds known (scope ++ bound xs places f.bases) f.next b s.3) (λ g k.
        let_holds scope p xs places a b f g s.1 (eqb-true (length xs) (length f.bases) e) h k))))
    walk_holds known scope n (raw_choose p outputs hidden given r aim) s =
        when_all (walk context scope n (raw_choose p outputs hidden given r aim)) (λ f inputs vs hs l q. absurd (no_bend _ _ hs q))
    walk_holds known scope n (raw_match p a arms) s =
        when_all (walk context scope n (raw_match p a arms)) (λ f inputs vs hs l q. absurd (no_bend _ _ hs q))

    walk_all_holds : CallsHold → (scope : List Param) (before : Forms) (es : RawTrees) → AreSpelledRaws context.edition es →
        WhenOk (AllHold scope before es) (walk_all context scope before es)
    walk_all_holds known scope before no_raws s =
        when_ok before (λ inputs vs gs hs l h many q.
        let same : [] ≡ hs = linear_is [] hs q in
        let whole : gs ≡ gs ++ hs = sym (append-nil gs) ∙ ap (λ is. gs ++ is) same in
        (h ∙ ap Some whole, sym (ap length whole) ∙ many))
    walk_all_holds known scope before (raw_more e es) s =
        when_bind (walk context scope before.next e) _ (walk_holds known scope before.next e s.0) (λ f k.
        when_so (walk_all context scope (with_form before f) es) (walk_all_holds known scope (with_form before f) es s.1)
        (λ fs h. all_more scope before e es f fs k h))
