-- Lists of lets and needs, one after another.
use Rattle.std.proofs.Common.{◌≡◌, ◌≢◌, ◌↔◌, ℕ, ◌≤◌, ◌^◌, ℤ, pos, ◌*ℤ◌, List, [], ◌∷◌, ◌++◌, length, Some, refl, sym, ap, arith, ◌∙◌, cond}
use Rattle.std.specs.Prelude.{◌≤ℤ◌, Option, None, int_lt, Bool, true, false, not}
use Rattle.std.specs.Int.{int_div_euclid}
use Rattle.std.specs.Ordering.{int_eq}
use Rattle.std.proofs.lemmas.Int.{ints}
use Rattle.cf_num.proofs.DivisorLemmas.{int_div_euclid-multiple}
use Rattle.cf_tree.specs.declared.base.Base.{Base}
use Rattle.cf_tree.specs.declared.base.Base.TheVariants.{Int, Bool as IsTruth}
use Rattle.cf_tree.specs.declared.base.Order.TheVariants.{Eq, Ge}
use Rattle.cf_tree.specs.CodeTree.{CodeTree, code_lit, code_compare, code_divides, ItemTree, let_item, need_item, items_of, items_depth, code_depth}
use Rattle.cf_tree.specs.Meaning.{Got, got, none_at, Path, then_gives, if_some, items_path, item_path, path}
use Rattle.cf_tree.specs.Numbers.{quotient, remainder, is_multiple}
use Rattle.cf_tree.specs.Relation.{IsDivisor}
use Rattle.cf_tree.specs.Spelled.{AreItemsSpelled, IsSpelled}
use Rattle.cf_tree.specs.Typing.{one, ask, HasBases, HasNoSolve, ItemsHave, ItemsHaveNoSolve}
use Rattle.cf_tree.specs.Values.{Value, truth, HaveBases}
use Rattle.cf_tree.proofs.SetLemmas.{lt_is, lt_not, eq_is, eq_same}
use Rattle.cf_linear.specs.Relations.{Divides}
use Rattle.cf_choose.proofs.RowCodes.{Computes}
use Rattle.cf_cases.proofs.GuardLaws.{quotient-is}
use Rattle.cf_cases.proofs.AtomLaws.{zero_gap}

-- the items lead from one environment to another
abbrev pub Leads : List ItemTree → List Value → List Value → Type 0
Leads is env e = (items_path (items_of is) env).gives ≡ got (Some e)

pub some_once : (e e' : List Value) → got (Some e) ≡ got (Some e') → e ≡ e'
some_once e e' h = cc

pub none_is_some : (e : List Value) → got None ≡ got (Some e) → ⊥
none_is_some e h = cc

pub stop_is_some : (n : ℕ) (e : List Value) → none_at n ≡ got (Some e) → ⊥
stop_is_some n e h = cc

pub split_some : (g : Got (Option (List Value))) (go : List Value → Path (Option (List Value))) (e : List Value) →
    then_gives g (λ next. (if_some next go).gives) ≡ got (Some e) → (d : List Value) × (g ≡ got (Some d)) × ((go d).gives ≡ got (Some e))
split_some (got None) go e h = absurd (none_is_some e h)
split_some (got (Some d)) go e h = (d, refl, h)
split_some (none_at n) go e h = absurd (stop_is_some n e h)

pub lead_first : (i : ItemTree) (is : List ItemTree) (env d e : List Value) → (item_path i env).gives ≡ got (Some d) → Leads is d e → Leads (i ∷ is) env e
lead_first i is env d e h k = rw h k

pub leads_none : (env e : List Value) → Leads [] env e → env ≡ e
leads_none env e h = some_once env e h

pub leads_forth : (is js : List ItemTree) (env d e : List Value) → Leads is env d → Leads js d e → Leads (is ++ js) env e
leads_forth [] js env d e h k = rw (some_once env d h) k
leads_forth (i ∷ is) js env d e h k =
    let s = split_some (item_path i env).gives (items_path (items_of is)) d h in
    lead_first i (is ++ js) env s.0 e s.1 (leads_forth is js s.0 d e s.2 k)

pub leads_back : (is js : List ItemTree) (env e : List Value) → Leads (is ++ js) env e → (d : List Value) × Leads is env d × Leads js d e
leads_back [] js env e h = (env, refl, h)
leads_back (i ∷ is) js env e h =
    let s = split_some (item_path i env).gives (items_path (items_of (is ++ js))) e h in
    let r = leads_back is js s.0 e s.2 in
    (r.0, lead_first i is env s.0 r.0 s.1 r.1, r.2)

pub have_then : (is js : List ItemTree) (scope mid : List Base) (Q : List Base → Type 0) → ItemsHave (items_of is) scope (λ s. s ≡ mid) →
    ItemsHave (items_of js) mid Q →
    ItemsHave (items_of (is ++ js)) scope Q
have_then [] js scope mid Q h k = rw h k
have_then (let_item c ∷ is) js scope mid Q h k = (h.0, h.1, have_then is js (scope ++ one h.0) mid Q h.2 k)
have_then (need_item c ∷ is) js scope mid Q h k = (h.0, have_then is js scope mid Q h.1 k)

pub have_weaker : (is : List ItemTree) (scope : List Base) (P Q : List Base → Type 0) → ((s : List Base) → P s → Q s) → ItemsHave (items_of is) scope P →
    ItemsHave (items_of is) scope Q
have_weaker [] scope P Q f h = f scope h
have_weaker (let_item c ∷ is) scope P Q f h = (h.0, h.1, have_weaker is (scope ++ one h.0) P Q f h.2)
have_weaker (need_item c ∷ is) scope P Q f h = (h.0, have_weaker is scope P Q f h.1)

pub plain_then : (is js : List ItemTree) → ItemsHaveNoSolve (items_of is) → ItemsHaveNoSolve (items_of js) → ItemsHaveNoSolve (items_of (is ++ js))
plain_then [] js h k = k
plain_then (let_item c ∷ is) js h k = (h.0, plain_then is js h.1 k)
plain_then (need_item c ∷ is) js h k = (h.0, plain_then is js h.1 k)

pub spelled_then : (is js : List ItemTree) → AreItemsSpelled (items_of is) → AreItemsSpelled (items_of js) → AreItemsSpelled (items_of (is ++ js))
spelled_then [] js h k = k
spelled_then (let_item c ∷ is) js h k = (h.0, spelled_then is js h.1 k)
spelled_then (need_item c ∷ is) js h k = (h.0, spelled_then is js h.1 k)

pub shallow_then : (is js : List ItemTree) → items_depth (items_of is) ≤ 8 → items_depth (items_of js) ≤ 8 → items_depth (items_of (is ++ js)) ≤ 8
shallow_then [] js h k = k
shallow_then (i ∷ is) js h k = let m = shallow_then is js (omega arith) k in omega arith

-- the items lead to one environment
pub leads_once : (is : List ItemTree) (env d e : List Value) → Leads is env d → Leads is env e → d ≡ e
leads_once is env d e h k = some_once d e (sym h ∙ k)

-- ---- a let
pub let_leads : (c : CodeTree) (e : List Value) (v : Value) → (path c e).gives ≡ got (v ∷ []) → Leads (let_item c ∷ []) e (e ++ (v ∷ []))
let_leads c e v h = rw h refl

pub let_found : (c : CodeTree) (e d : List Value) (v : Value) → (path c e).gives ≡ got (v ∷ []) → Leads (let_item c ∷ []) e d → e ++ (v ∷ []) ≡ d
let_found c e d v h l = some_once (e ++ (v ∷ [])) d (sym (let_leads c e v h) ∙ l)

-- ---- a need
-- a code of one truth value, without a solve, and spelled where levels are numbers of 32 bits, and the value that it is
pub record Tests (scope : List Base) (c : CodeTree) (w : List Value → Bool) : Type 0 where
  pub typed : HasBases c scope (ask IsTruth) (one IsTruth)
  pub plain : HasNoSolve c
  pub spelled : length scope ≤ 2 ^ 32 → IsSpelled c
  pub shallow : code_depth c ≤ 5
  pub means : (e : List Value) → HaveBases scope e → (path c e).gives ≡ got (truth (w e) ∷ [])

need_step : (c : CodeTree) (e : List Value) (b : Bool) → (path c e).gives ≡ got (truth b ∷ []) →
    (items_path (items_of (need_item c ∷ [])) e).gives ≡ got (cond b (Some e) None)
need_step c e b h = rw h (ends b)
  where
    ends : (b : Bool) → then_gives (got (cond b (Some e) None)) (λ next. (if_some next (items_path (items_of []))).gives) ≡ got (cond b (Some e) None)
    ends true = refl
    ends false = refl

pub need_leads : (c : CodeTree) (e : List Value) (b : Bool) → (path c e).gives ≡ got (truth b ∷ []) → b ≡ true → Leads (need_item c ∷ []) e e
need_leads c e b h t = need_step c e b h ∙ rw t refl

where_some : (b : Bool) (e d : List Value) → got (cond b (Some e) None) ≡ got (Some d) → (b ≡ true) × (e ≡ d)
where_some false e d h = absurd (none_is_some d h)
where_some true e d h = (refl, some_once e d h)

pub need_found : (c : CodeTree) (e d : List Value) (b : Bool) → (path c e).gives ≡ got (truth b ∷ []) → Leads (need_item c ∷ []) e d → (b ≡ true) × (e ≡ d)
need_found c e d b h l = where_some b e d (sym (need_step c e b h) ∙ l)

pub nonneg_tests : (scope : List Base) (c : CodeTree) (w : List Value → ℤ) → Computes 3 scope c w →
    Tests scope (code_compare Ge c (code_lit (pos 0))) (λ e. not (int_lt (w e) (pos 0)))
nonneg_tests scope c w h = record {
  typed = (Int, refl, h.code.typed (Some (one Int)) refl, (refl, refl), (refl, refl));
  plain = (h.code.plain, tt);
  spelled = λ few. (h.code.spelled few, omega arith);
  shallow = let s = h.code.shallow in omega arith;
  means = λ e have. rw (h.means e have) refl;
}

pub zero_tests : (scope : List Base) (c : CodeTree) (w : List Value → ℤ) → Computes 3 scope c w →
    Tests scope (code_compare Eq c (code_lit (pos 0))) (λ e. int_eq (w e) (pos 0))
zero_tests scope c w h = record {
  typed = (Int, tt, h.code.typed None tt, (refl, tt), (refl, refl));
  plain = (h.code.plain, tt);
  spelled = λ few. (h.code.spelled few, omega arith);
  shallow = let s = h.code.shallow in omega arith;
  means = λ e have. rw (h.means e have) refl;
}

pub divides_tests : (scope : List Base) (g : ℤ) (c : CodeTree) (w : List Value → ℤ) → IsDivisor g → Computes 3 scope c w →
    Tests scope (code_divides g c) (λ e. is_multiple g (w e))
divides_tests scope g c w d h = record {
  typed = (d.0, h.code.typed (Some (one Int)) refl, (refl, refl));
  plain = h.code.plain;
  spelled = λ few. (d, h.code.spelled few);
  shallow = let s = h.code.shallow in omega arith;
  means = λ e have. rw (h.means e have) refl;
}

true_or_false : (b : Bool) → not b ≡ true → b ≡ false
true_or_false true h = cc
true_or_false false h = refl

not_true : (b : Bool) → (b ≡ true → ⊥) → not b ≡ true
not_true true h = absurd (h refl)
not_true false h = refl

pub nonneg_need : (z : ℤ) → (not (int_lt z (pos 0)) ≡ true) ↔ (pos 0 ≤ℤ z)
nonneg_need z = (
  (λ h. lt_not z (pos 0) (true_or_false (int_lt z (pos 0)) h)),
  (λ h. not_true (int_lt z (pos 0)) (λ t. let l = lt_is z (pos 0) t in omega (arith, ints))),
)

pub zero_need : (z : ℤ) → (int_eq z (pos 0) ≡ true) ↔ (z ≡ pos 0)
zero_need z = ((λ h. eq_is z (pos 0) h), (λ h. eq_same z (pos 0) h))

multiple_left : (g z q : ℤ) → z ≡ g *ℤ q → quotient z g ≡ q → remainder z g ≡ pos 0
multiple_left g z q e h = rw (h, e) (omega (arith, ints))

pub divides_need : (g z : ℤ) → pos 1 ≤ℤ g → (is_multiple g z ≡ true) ↔ Divides g z
divides_need g z p = (
  (λ h. let e : remainder z g ≡ pos 0 = eq_is (remainder z g) (pos 0) h in (quotient z g, zero_gap z (g *ℤ quotient z g) e)),
  (λ h.
      let n : g ≢ pos 0 = λ e. absurd (omega (arith, ints)) in
      let q : quotient z g ≡ h.0 = quotient-is z g p ∙ ap (λ y. int_div_euclid y g) h.1 ∙ int_div_euclid-multiple g h.0 n in
      eq_same (remainder z g) (pos 0) (multiple_left g z h.0 h.1 q)),
)
