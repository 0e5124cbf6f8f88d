-- Lets and needs over names of columns: what they lead to, and the values of the columns there.
use Rattle.std.proofs.Common.{◌≡◌, ◌↔◌, ℕ, suc, ◌<◌, ◌≤◌, ◌^◌, ◌==◌, ℤ, pos, neg_ℤ, List, [], ◌∷◌, ◌++◌, ◌⊎◌, inl, inr, length, map, Some, refl, sym, ap}
use Rattle.std.proofs.Common.{arith, ◌∙◌, length-append, append-nil, append_assoc}
use Rattle.std.specs.Prelude.{slice_get, None, Bool, true, false}
use Rattle.std.specs.Int.{int_div_euclid}
use Rattle.std.specs.List.{fold}
use Rattle.std.proofs.Math.ListN.{get_or-append}
use Rattle.std.proofs.Math.Seq.{get_or-append_seam}
use Rattle.std.proofs.lemmas.Option.{slice_get_within, get_or_from_slice_get, slice_get-get_or}
use Rattle.std.proofs.lemmas.Bool.{eqb-true, eqb-false, eq-eqb, ne_eqb}
use Rattle.cf_tree.specs.declared.base.Base.{Base}
use Rattle.cf_tree.specs.declared.base.Base.TheVariants.{Int, Bool as IsTruth}
use Rattle.cf_tree.specs.CodeTree.{CodeTree, code_div, let_item, need_item, items_of, items_depth}
use Rattle.cf_tree.specs.Meaning.{got, path}
use Rattle.cf_tree.specs.Spelled.{AreItemsSpelled}
use Rattle.cf_tree.specs.Typing.{ItemsHave, ItemsHaveNoSolve}
use Rattle.cf_tree.specs.Values.{Value, number, value_at, number_of, HasBase, HaveBases}
use Rattle.cf_linear.specs.Arm.{ColumnLevels, level_of, row_code, how_code, ArmBuilder, let_named, need, step_item, back_item}
use Rattle.cf_linear.specs.Keep.{In, Over, update, how_value, after_back}
use Rattle.cf_linear.specs.Systems.{Step, floor_of, need_nonneg, need_zero, need_divides, How, row_how, greatest, least}
use Rattle.cf_linear.specs.Rows.{Row, Values, value}
use Rattle.cf_linear.specs.Solved.{let_columns, StepsOver, after_step, after_steps, Need, NeedsHold}
use Rattle.cf_linear.proofs.BoolLemmas.{on_bool}
use Rattle.cf_linear.proofs.KindLemmas.{Over-weaker}
use Rattle.cf_elim.specs.Returning.{PairsOver, HowOver, BackOver, back_columns}
use Rattle.cf_elim.proofs.ReturnLaws.{how_wider}
use Rattle.cf_venn.specs.Forms.{IsCodeOf}
use Rattle.cf_choose.specs.ArmBuilders.{let_alone}
use Rattle.cf_choose.specs.CaseArms.{seen, HowWritten, BackWritten, StepWritten, StepsWritten}
use Rattle.cf_choose.proofs.RowCodes.{named, HasName, AreNumbers, number_named, Computes, deeper, row_computes, div_computes, how_computes}
use Rattle.cf_choose.proofs.ItemLemmas.{Leads, leads_forth, leads_back, have_then, plain_then, spelled_then, shallow_then, let_leads, let_found, Tests}
use Rattle.cf_choose.proofs.ItemLemmas.{need_leads, need_found, nonneg_tests, zero_tests, divides_tests, nonneg_need, zero_need, divides_need}

-- ---- environments with one more number
pub length_have : (bs : List Base) (vs : List Value) → HaveBases bs vs → length vs ≡ length bs
length_have [] [] h = refl
length_have [] (v ∷ vs) h = absurd h
length_have (b ∷ bs) [] h = absurd h
length_have (b ∷ bs) (v ∷ vs) h = ap suc (length_have bs vs h.1)

pub value_at-end : (vs : List Value) (v : Value) (x : ℕ) → x ≡ length vs → value_at (vs ++ (v ∷ [])) x ≡ v
value_at-end vs v x e = rw e (get_or-append_seam vs v [] (number (pos 0)))

pub value_at-early : (vs ws : List Value) (x : ℕ) → x < length vs → value_at (vs ++ ws) x ≡ value_at vs x
value_at-early vs ws x h = get_or-append vs ws (number (pos 0)) x h

pub slice_get-more : (bs cs : List Base) (x : ℕ) (b : Base) → slice_get bs x ≡ Some b → slice_get (bs ++ cs) x ≡ Some b
slice_get-more bs cs x b e =
    let h = slice_get_within bs x b e in
    let k : x < length (bs ++ cs) = omega (arith, length-append bs cs) in
    slice_get-get_or (bs ++ cs) x IsTruth k ∙ rw (get_or-append bs cs IsTruth x h, get_or_from_slice_get bs x b IsTruth e) refl

pub slice_get-last : (bs : List Base) (b : Base) (x : ℕ) → x ≡ length bs → slice_get (bs ++ (b ∷ [])) x ≡ Some b
slice_get-last bs b x e =
    let h : x < length (bs ++ (b ∷ [])) = omega (arith, length-append bs (b ∷ [])) in
    slice_get-get_or (bs ++ (b ∷ [])) x b h ∙ rw e (ap (λ b. Some b) (get_or-append_seam bs b [] b))

pub slice_get-end : (bs : List Base) (x : ℕ) → x ≡ length bs → slice_get (bs ++ (Int ∷ [])) x ≡ Some Int
slice_get-end bs x e = slice_get-last bs Int x e

pub have_last : (bs : List Base) (vs : List Value) (b : Base) (v : Value) → HasBase b v → HaveBases bs vs → HaveBases (bs ++ (b ∷ [])) (vs ++ (v ∷ []))
have_last [] [] b v k h = (k, tt)
have_last [] (w ∷ vs) b v k h = absurd h
have_last (c ∷ bs) [] b v k h = absurd h
have_last (c ∷ bs) (w ∷ vs) b v k h = (h.0, have_last bs vs b v k h.1)

pub have_more : (bs : List Base) (vs : List Value) (z : ℤ) → HaveBases bs vs → HaveBases (bs ++ (Int ∷ [])) (vs ++ (number z ∷ []))
have_more bs vs z h = have_last bs vs Int (number z) (z, refl) h

pub numbers_more : (bs cs : List Base) (names : ColumnLevels) → AreNumbers bs names → AreNumbers (bs ++ cs) names
numbers_more bs cs [] h = tt
numbers_more bs cs ((c, x) ∷ names) h = (slice_get-more bs cs x Int h.0, numbers_more bs cs names h.1)

-- ---- names and values
-- each named column has the value of its level
abbrev pub Agrees : ColumnLevels → List Value → Values → Type 0
Agrees names e v = (c : ℕ) → HasName names c → seen names e c ≡ v c

other_name : (c : ℕ) (names : ColumnLevels) (d level : ℕ) → HasName ((c, level) ∷ names) d → d == 0 ≡ false → c == d ≡ false → In d (named names)
other_name c names d level (inl z) e f = absurd (eqb-false d 0 e z)
other_name c names d level (inr (inl s)) e f = absurd (eqb-false c d f (sym s))
other_name c names d level (inr (inr i)) e f = i

-- a let names its column
pub let_agrees : (bases : List Base) (names : ColumnLevels) (e : List Value) (v : Values) (c level : ℕ) (z : ℤ) → 1 ≤ c → AreNumbers bases names →
    HaveBases bases e → level ≡ length e →
    Agrees names e v → Agrees ((c, level) ∷ names) (e ++ (number z ∷ [])) (update v c z)
let_agrees bases names e v c level z some numbers have same agrees d h = on_bool (d == 0)
    (λ t.
    let s : d ≡ 0 = eqb-true d 0 t in
    let n : d == c ≡ false = ne_eqb d c (λ i. omega arith) in
    let a : pos 1 ≡ v d = rw t at (agrees d (inl s)) in
    rw (t, n) a)
    (λ t. on_bool (c == d)
    (λ u.
    let s : d == c ≡ true = eq-eqb d c (sym (eqb-true c d u)) in
    rw (t, u, s) (ap number_of (value_at-end e (number z) level same)))
    (λ u.
    let s : d == c ≡ false = ne_eqb d c (λ i. eqb-false c d u (sym i)) in
    let i = other_name c names d level h t u in
    let l = slice_get_within bases (level_of names d) Int (number_named bases names d numbers i) in
    let m : level_of names d < length e = rw (length_have bases e have) l in
    let a : number_of (value_at e (level_of names d)) ≡ v d = rw t at (agrees d (inr i)) in
    rw (t, u, s, value_at-early e (number z ∷ []) (level_of names d) m) a))

value_agrees : (names : ColumnLevels) (e : List Value) (v : Values) (r : Row) → Over (HasName names) r → Agrees names e v → value (seen names e) r ≡ value v r
value_agrees names e v [] o a = refl
value_agrees names e v ((c, k) ∷ r) o a = rw (a c o.0, value_agrees names e v r o.1 a) refl

module _ (names : ColumnLevels) (e : List Value) (v : Values) (agrees : Agrees names e v) where
  lows_agree : (bs : List (Row × ℤ)) → PairsOver (HasName names) bs →
      map (λ (r, p). neg_ℤ (int_div_euclid (value (seen names e) r) p)) bs ≡ map (λ (r, p). neg_ℤ (int_div_euclid (value v r) p)) bs
  lows_agree [] o = refl
  lows_agree ((r, p) ∷ bs) o = rw (value_agrees names e v r o.0 agrees, lows_agree bs o.1) refl

  highs_agree : (bs : List (Row × ℤ)) → PairsOver (HasName names) bs →
      map (λ (r, p). int_div_euclid (value (seen names e) r) p) bs ≡ map (λ (r, p). int_div_euclid (value v r) p) bs
  highs_agree [] o = refl
  highs_agree ((r, p) ∷ bs) o = rw (value_agrees names e v r o.0 agrees, highs_agree bs o.1) refl

  how_agrees : (w : How) → HowOver (HasName names) w → how_value (seen names e) w ≡ how_value v w
  how_agrees (row_how r) o = value_agrees names e v r o agrees
  how_agrees (greatest []) o = refl
  how_agrees (greatest ((r, p) ∷ bs)) o = rw (value_agrees names e v r o.0 agrees, lows_agree bs o.1) refl
  how_agrees (least []) o = refl
  how_agrees (least ((r, p) ∷ bs)) o = rw (value_agrees names e v r o.0 agrees, highs_agree bs o.1) refl

-- ---- what is made so far
-- the items are well typed from the scope to the bases, not deep, and spelled where levels are numbers of 32 bits, and the names are levels of
-- numbers there
pub record IsMade (scope : List Base) (k : ArmBuilder) (bases : List Base) : Type 0 where
  pub typed : ItemsHave (items_of k.items) scope (λ s. s ≡ bases)
  pub plain : ItemsHaveNoSolve (items_of k.items)
  pub spelled : length bases ≤ 2 ^ 32 → AreItemsSpelled (items_of k.items)
  pub shallow : items_depth (items_of k.items) ≤ 8
  pub level : k.level ≡ length bases
  pub numbers : AreNumbers bases k.names
  pub have : (env e : List Value) → HaveBases scope env → Leads k.items env e → HaveBases bases e

-- a code of one value of this base, and the value that it is
pub record Makes (bases : List Base) (b : Base) (c : CodeTree) (w : List Value → Value) : Type 0 where
  pub code : IsCodeOf b 8 bases c
  pub means : (e : List Value) → HaveBases bases e → (path c e).gives ≡ got (w e ∷ [])
  pub base : (e : List Value) → HaveBases bases e → HasBase b (w e)

pub fewer : (bases more : List Base) → length (bases ++ more) ≤ 2 ^ 32 → length bases ≤ 2 ^ 32
fewer bases more h = omega (arith, length-append bases more)

pub alone_made : (scope bases : List Base) (k : ArmBuilder) (b : Base) (code : CodeTree) (w : List Value → Value) → Makes bases b code w →
    IsMade scope k bases → IsMade scope (let_alone k code) (bases ++ (b ∷ []))
alone_made scope bases k b code w h m = record {
  typed = have_then k.items (let_item code ∷ []) scope bases (λ s. s ≡ bases ++ (b ∷ [])) m.typed (b, h.code.typed None tt, refl);
  plain = plain_then k.items (let_item code ∷ []) m.plain (h.code.plain, tt);
  spelled = λ few. let s = fewer bases (b ∷ []) few in spelled_then k.items (let_item code ∷ []) (m.spelled s) (h.code.spelled s, tt);
  shallow = shallow_then k.items (let_item code ∷ []) m.shallow (let s = h.code.shallow in omega arith);
  level = let l = m.level in omega (arith, length-append bases (b ∷ []));
  numbers = numbers_more bases (b ∷ []) k.names m.numbers;
  have = λ env e have l.
      let a = leads_back k.items (let_item code ∷ []) env e l in
      let i = m.have env a.0 have a.1 in
      rw (← let_found code a.0 e (w a.0) (h.means a.0 i) a.2) (have_last bases a.0 b (w a.0) (h.base a.0 i) i);
}

pub let_made : (scope bases : List Base) (k : ArmBuilder) (c : ℕ) (code : CodeTree) (w : List Value → ℤ) → Computes 6 bases code w → IsMade scope k bases →
    IsMade scope (let_named k c code) (bases ++ (Int ∷ []))
let_made scope bases k c code w h m = record {
  typed = have_then k.items (let_item code ∷ []) scope bases (λ s. s ≡ bases ++ (Int ∷ [])) m.typed (Int, h.code.typed None tt, refl);
  plain = plain_then k.items (let_item code ∷ []) m.plain (h.code.plain, tt);
  spelled = λ few. let s = fewer bases (Int ∷ []) few in spelled_then k.items (let_item code ∷ []) (m.spelled s) (h.code.spelled s, tt);
  shallow = shallow_then k.items (let_item code ∷ []) m.shallow (let s = h.code.shallow in omega arith);
  level = let l = m.level in omega (arith, length-append bases (Int ∷ []));
  numbers = (slice_get-end bases k.level m.level, numbers_more bases (Int ∷ []) k.names m.numbers);
  have = λ env e have l.
      let a = leads_back k.items (let_item code ∷ []) env e l in
      let b = m.have env a.0 have a.1 in
      rw (← let_found code a.0 e (number (w a.0)) (h.means a.0 b) a.2) (have_more bases a.0 (w a.0) b);
}

need_made : (scope bases : List Base) (k : ArmBuilder) (code : CodeTree) (w : List Value → Bool) → Tests bases code w → IsMade scope k bases →
    IsMade scope (need k code) bases
need_made scope bases k code w h m = record {
  typed = have_then k.items (need_item code ∷ []) scope bases (λ s. s ≡ bases) m.typed (h.typed, refl);
  plain = plain_then k.items (need_item code ∷ []) m.plain (h.plain, tt);
  spelled = λ few. spelled_then k.items (need_item code ∷ []) (m.spelled few) (h.spelled few, tt);
  shallow = shallow_then k.items (need_item code ∷ []) m.shallow (let s = h.shallow in omega arith);
  level = m.level;
  numbers = m.numbers;
  have = λ env e have l.
      let a = leads_back k.items (need_item code ∷ []) env e l in
      let b = m.have env a.0 have a.1 in
      rw (← (need_found code a.0 e (w a.0) (h.means a.0 b) a.2).1) b;
}

-- More items are made over the bases `from`: from values at which `Holds` holds they lead to the values `next`, and where they lead somewhere it holds.
pub record Continues (scope from : List Base) (k k' : ArmBuilder) (Holds : Values → Type 0) (next : Values → Values) : Type 0 where
  pub bases : List Base
  pub kept : (x : ℕ) (b : Base) → slice_get from x ≡ Some b → slice_get bases x ≡ Some b
  pub made : IsMade scope k' bases
  pub names : (c : ℕ) → HasName k.names c → HasName k'.names c
  pub forth : (env e : List Value) (v : Values) → HaveBases scope env → Leads k.items env e → Agrees k.names e v → Holds v →
      (d : List Value) × Leads k'.items env d × Agrees k'.names d (next v)
  pub back : (env d : List Value) → HaveBases scope env → Leads k'.items env d →
      (e : List Value) × Leads k.items env e × ((more : List Value) × (d ≡ e ++ more)) ×
      ((v : Values) → Agrees k.names e v → Holds v × Agrees k'.names d (next v))

pub continues_none : (scope bases : List Base) (k : ArmBuilder) → IsMade scope k bases → Continues scope bases k k (λ _. Unit {0}) (λ v. v)
continues_none scope bases k m = record {
  bases = bases;
  kept = λ x b e. e;
  made = m;
  names = λ c h. h;
  forth = λ env e v have l a h. (e, l, a);
  back = λ env d have l. (d, l, ([], sym (append-nil d)), λ v a. (tt, a));
}

pub continues_then : (scope from : List Base) (k j i : ArmBuilder) (P Q : Values → Type 0) (f g : Values → Values) (p : Continues scope from k j P f) →
    Continues scope p.bases j i Q g →
    Continues scope from k i (λ v. P v × Q (f v)) (λ v. g (f v))
continues_then scope from k j i P Q f g p q = record {
  bases = q.bases;
  kept = λ x b e. q.kept x b (p.kept x b e);
  made = q.made;
  names = λ c h. q.names c (p.names c h);
  forth = λ env e v have l a h.
      let s = p.forth env e v have l a h.0 in
      q.forth env s.0 (f v) have s.1 s.2 h.1;
  back = λ env d have l.
      let s = q.back env d have l in
      let t = p.back env s.0 have s.1 in (
        t.0,
        t.1,
        (t.2.0 ++ s.2.0, s.2.1 ∙ ap (λ e. e ++ s.2.0) t.2.1 ∙ append_assoc t.0 t.2.0 s.2.0),
        λ v a. let x = t.3 v a in let y = s.3 (f v) x.1 in
            ((x.0, y.0), y.1),
      );
}

continues_let : (scope bases : List Base) (k : ArmBuilder) (c : ℕ) (code : CodeTree) (w : List Value → ℤ) (f : Values → ℤ) → 1 ≤ c →
    Computes 6 bases code w → IsMade scope k bases →
    ((e : List Value) (v : Values) → Agrees k.names e v → w e ≡ f v) → Continues scope bases k (let_named k c code) (λ _. Unit {0}) (λ v. update v c (f v))
continues_let scope bases k c code w f some h m same = record {
  bases = bases ++ (Int ∷ []);
  kept = λ x b e. slice_get-more bases (Int ∷ []) x b e;
  made = let_made scope bases k c code w h m;
  names = λ d n. elim n as (λ _. HasName ((c, k.level) ∷ k.names) d) [ inl z ↦ inl z | inr i ↦ inr (inr i) ];
  forth = λ env e v have l a _.
      let b = m.have env e have l in (
        e ++ (number (w e) ∷ []),
        leads_forth k.items (let_item code ∷ []) env e (e ++ (number (w e) ∷ [])) l (let_leads code e (number (w e)) (h.means e b)),
        agrees e v b a,
      );
  back = λ env d have l.
      let s = leads_back k.items (let_item code ∷ []) env d l in
      let b = m.have env s.0 have s.1 in
      let f = let_found code s.0 d (number (w s.0)) (h.means s.0 b) s.2 in
      (s.0, s.1, (number (w s.0) ∷ [], sym f), λ v a. (tt, rw (← f) (agrees s.0 v b a)));
}
  where
    agrees : (e : List Value) (v : Values) → HaveBases bases e → Agrees k.names e v →
        Agrees ((c, k.level) ∷ k.names) (e ++ (number (w e) ∷ [])) (update v c (f v))
    agrees e v b a =
        rw (← same e v a) (let_agrees bases k.names e v c k.level (w e) some m.numbers b (m.level ∙ sym (length_have bases e b)) a)

continues_need : (scope bases : List Base) (k : ArmBuilder) (code : CodeTree) (w : List Value → Bool) (P : Values → Type 0) → Tests bases code w →
    IsMade scope k bases →
    ((e : List Value) (v : Values) → Agrees k.names e v → (w e ≡ true) ↔ P v) → Continues scope bases k (need k code) P (λ v. v)
continues_need scope bases k code w P h m same = record {
  bases = bases;
  kept = λ x b e. e;
  made = need_made scope bases k code w h m;
  names = λ d n. n;
  forth = λ env e v have l a p.
      let b = m.have env e have l in
      (e, leads_forth k.items (need_item code ∷ []) env e e l (need_leads code e (w e) (h.means e b) ((same e v a).1 p)), a);
  back = λ env d have l.
      let s = leads_back k.items (need_item code ∷ []) env d l in
      let b = m.have env s.0 have s.1 in
      let n = need_found code s.0 d (w s.0) (h.means s.0 b) s.2 in
      (s.0, s.1, ([], sym n.1 ∙ sym (append-nil s.0)), λ v a. ((same s.0 v a).0 n.0, rw (← n.1) a));
}

-- ---- steps
abbrev pub LetsSome : List Step → Type 0
LetsSome ms = (c : ℕ) → In c (let_columns ms) → 1 ≤ c

module _ (scope bases : List Base) (k : ArmBuilder) (m : IsMade scope k bases) where
  row_of : (r : Row) → Over (HasName k.names) r → StepWritten (need_nonneg r) → Computes 3 bases (row_code k.names r) (λ e. value (seen k.names e) r)
  row_of r o w = row_computes bases k.names m.numbers r o w.1

  floor_continues : (c : ℕ) (r : Row) (g : ℤ) → 1 ≤ c → Over (HasName k.names) r → StepWritten (floor_of c r g) →
      Continues scope bases k (step_item k (floor_of c r g)) (λ v. Need v (floor_of c r g)) (λ v. after_step v (floor_of c r g))
  floor_continues c r g some o w =
      continues_let scope bases k c (code_div (row_code k.names r) g) (λ e. int_div_euclid (value (seen k.names e) r) g) (λ v. int_div_euclid (value v r) g)
      some
      (deeper bases 4 6 (code_div (row_code k.names r) g) (λ e. int_div_euclid (value (seen k.names e) r) g)
      (λ e. int_div_euclid (value (seen k.names e) r) g) (omega arith) (λ e. refl)
      (div_computes bases k.names m.numbers r g o w.0.1 w.1)) m
      (λ e v a. ap (λ z. int_div_euclid z g) (value_agrees k.names e v r o a))

  nonneg_continues : (r : Row) → Over (HasName k.names) r → StepWritten (need_nonneg r) →
      Continues scope bases k (step_item k (need_nonneg r)) (λ v. Need v (need_nonneg r)) (λ v. v)
  nonneg_continues r o w =
      let c = row_of r o w in
      continues_need scope bases k _ _ (λ v. Need v (need_nonneg r)) (nonneg_tests bases (row_code k.names r) (λ e. value (seen k.names e) r) c) m
      (λ e v a. rw (value_agrees k.names e v r o a) (nonneg_need (value v r)))

  zero_continues : (r : Row) → Over (HasName k.names) r → StepWritten (need_nonneg r) →
      Continues scope bases k (step_item k (need_zero r)) (λ v. Need v (need_zero r)) (λ v. v)
  zero_continues r o w =
      let c = row_of r o w in
      continues_need scope bases k _ _ (λ v. Need v (need_zero r)) (zero_tests bases (row_code k.names r) (λ e. value (seen k.names e) r) c) m
      (λ e v a. rw (value_agrees k.names e v r o a) (zero_need (value v r)))

  divides_continues : (g : ℤ) (r : Row) → Over (HasName k.names) r → StepWritten (need_divides g r) →
      Continues scope bases k (step_item k (need_divides g r)) (λ v. Need v (need_divides g r)) (λ v. v)
  divides_continues g r o w =
      let c = row_of r o w.0 in
      continues_need scope bases k _ _ (λ v. Need v (need_divides g r)) (divides_tests bases g (row_code k.names r) (λ e. value (seen k.names e) r) w.1 c) m
      (λ e v a. rw (value_agrees k.names e v r o a) (divides_need g (value v r) w.1.0))

  way_continues : (x : ℕ) (w : How) → 1 ≤ x → HowOver (HasName k.names) w → HowWritten w →
      Continues scope bases k (back_item k (x, w)) (λ _. Unit {0}) (λ v. update v x (how_value v w))
  way_continues x w some o s =
      continues_let scope bases k x (how_code k.names w) (λ e. how_value (seen k.names e) w) (λ v. how_value v w) some
      (how_computes bases k.names m.numbers w o s) m
      (λ e v a. how_agrees k.names e v a w o)

pub wider_let : (Q : ℕ → Type 0) (names : ColumnLevels) (c level : ℕ) → ((d : ℕ) → Q d → HasName names d) → (d : ℕ) → (d ≡ c) ⊎ Q d →
    HasName ((c, level) ∷ names) d
wider_let Q names c level f d (inl s) = inr (inl s)
wider_let Q names c level f d (inr q) = elim (f d q) as (λ _. HasName ((c, level) ∷ names) d) [ inl z ↦ inl z | inr i ↦ inr (inr i) ]

pub steps_continue : (scope bases : List Base) (ms : List Step) (k : ArmBuilder) (Q : ℕ → Type 0) → IsMade scope k bases → StepsWritten ms →
    StepsOver Q ms → ((c : ℕ) → Q c → HasName k.names c) →
    LetsSome ms → Continues scope bases k (fold step_item k ms) (λ v. NeedsHold v ms) (λ v. after_steps v ms)
steps_continue scope bases [] k Q m s o f l = continues_none scope bases k m
steps_continue scope bases (floor_of c r g ∷ ms) k Q m s o f l =
    let p = floor_continues scope bases k m c r g (l c (inl refl)) (Over-weaker Q (HasName k.names) f r o.0) s.0 in
    let j = step_item k (floor_of c r g) in
    continues_then scope bases k j (fold step_item j ms) (λ v. Need v (floor_of c r g)) (λ v. NeedsHold v ms) (λ v. after_step v (floor_of c r g))
    (λ v. after_steps v ms) p
    (steps_continue scope p.bases ms j (λ d. (d ≡ c) ⊎ Q d) p.made s.1 o.1 (wider_let Q k.names c k.level f) (λ d i. l d (inr i)))
steps_continue scope bases (need_nonneg r ∷ ms) k Q m s o f l =
    let p = nonneg_continues scope bases k m r (Over-weaker Q (HasName k.names) f r o.0) s.0 in
    let j = step_item k (need_nonneg r) in
    continues_then scope bases k j (fold step_item j ms) (λ v. Need v (need_nonneg r)) (λ v. NeedsHold v ms) (λ v. v) (λ v. after_steps v ms) p
    (steps_continue scope p.bases ms j Q p.made s.1 o.1 f l)
steps_continue scope bases (need_zero r ∷ ms) k Q m s o f l =
    let p = zero_continues scope bases k m r (Over-weaker Q (HasName k.names) f r o.0) s.0 in
    let j = step_item k (need_zero r) in
    continues_then scope bases k j (fold step_item j ms) (λ v. Need v (need_zero r)) (λ v. NeedsHold v ms) (λ v. v) (λ v. after_steps v ms) p
    (steps_continue scope p.bases ms j Q p.made s.1 o.1 f l)
steps_continue scope bases (need_divides g r ∷ ms) k Q m s o f l =
    let p = divides_continues scope bases k m g r (Over-weaker Q (HasName k.names) f r o.0) s.0 in
    let j = step_item k (need_divides g r) in
    continues_then scope bases k j (fold step_item j ms) (λ v. Need v (need_divides g r)) (λ v. NeedsHold v ms) (λ v. v) (λ v. after_steps v ms) p
    (steps_continue scope p.bases ms j Q p.made s.1 o.1 f l)

-- the ways back need nothing
abbrev pub Nothing : List (ℕ × How) → Type 0
Nothing [] = Unit {0}
Nothing (w ∷ ws) = Unit {0} × Nothing ws

pub nothing : (ws : List (ℕ × How)) → Nothing ws
nothing [] = tt
nothing (w ∷ ws) = (tt, nothing ws)

pub back_continue : (scope bases : List Base) (ws : List (ℕ × How)) (k : ArmBuilder) (Q : ℕ → Type 0) → IsMade scope k bases → BackWritten ws →
    BackOver Q ws → ((c : ℕ) → Q c → HasName k.names c) →
    Continues scope bases k (fold back_item k ws) (λ _. Nothing ws) (λ v. after_back v ws)
back_continue scope bases [] k Q m s o f = continues_none scope bases k m
back_continue scope bases ((x, w) ∷ ws) k Q m s o f =
    let p = way_continues scope bases k m x w o.0 (how_wider Q (HasName k.names) f w o.1) s.0 in
    let j = back_item k (x, w) in
    continues_then scope bases k j (fold back_item j ws) (λ _. Unit {0}) (λ _. Nothing ws) (λ v. update v x (how_value v w)) (λ v. after_back v ws) p
    (back_continue scope p.bases ws j (λ d. (d ≡ x) ⊎ Q d) p.made s.1 o.2 (wider_let Q k.names x k.level f))

-- ---- which columns have names
pub steps_named : (ms : List Step) (k : ArmBuilder) (c : ℕ) → In c (let_columns ms) ⊎ HasName k.names c → HasName (fold step_item k ms).names c
steps_named [] k c (inl i) = absurd i
steps_named [] k c (inr h) = h
steps_named (floor_of d r g ∷ ms) k c (inl (inl s)) = steps_named ms (step_item k (floor_of d r g)) c (inr (inr (inl s)))
steps_named (floor_of d r g ∷ ms) k c (inl (inr i)) = steps_named ms (step_item k (floor_of d r g)) c (inl i)
steps_named (floor_of d r g ∷ ms) k c (inr (inl z)) = steps_named ms (step_item k (floor_of d r g)) c (inr (inl z))
steps_named (floor_of d r g ∷ ms) k c (inr (inr i)) = steps_named ms (step_item k (floor_of d r g)) c (inr (inr (inr i)))
steps_named (need_nonneg r ∷ ms) k c h = steps_named ms (step_item k (need_nonneg r)) c h
steps_named (need_zero r ∷ ms) k c h = steps_named ms (step_item k (need_zero r)) c h
steps_named (need_divides g r ∷ ms) k c h = steps_named ms (step_item k (need_divides g r)) c h

pub back_named : (ws : List (ℕ × How)) (k : ArmBuilder) (c : ℕ) → In c (back_columns ws) ⊎ HasName k.names c → HasName (fold back_item k ws).names c
back_named [] k c (inl i) = absurd i
back_named [] k c (inr h) = h
back_named ((x, w) ∷ ws) k c (inl (inl s)) = back_named ws (back_item k (x, w)) c (inr (inr (inl s)))
back_named ((x, w) ∷ ws) k c (inl (inr i)) = back_named ws (back_item k (x, w)) c (inl i)
back_named ((x, w) ∷ ws) k c (inr (inl z)) = back_named ws (back_item k (x, w)) c (inr (inl z))
back_named ((x, w) ∷ ws) k c (inr (inr i)) = back_named ws (back_item k (x, w)) c (inr (inr (inr i)))
