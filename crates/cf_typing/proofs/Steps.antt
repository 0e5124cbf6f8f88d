-- The steps of the walk, taken apart and put together.
use Rattle.std.specs.Prelude.{ℤ, pos, ◌≤ℤ◌, int_le, nat_le, nat_eq}
use Rattle.std.proofs.Common.{◌≡◌, ℕ, ◌≤◌, Bool, true, false, ◌&&◌, Option, Some, None, List, [], ◌∷◌, length, T, refl, sym, ap, subst}
use Rattle.std.specs.Int.Signed.{le_z_yes}
use Rattle.std.proofs.lemmas.Bool.{leb-true, le-leb, eqb-true, eq-eqb}
use Rattle.cf_tree.specs.declared.base.Base.{Base}
use Rattle.cf_tree.specs.declared.base.Base.TheVariants.{Int, Bool as Truth, Set}
use Rattle.cf_tree.specs.CodeTree.{CodeTrees, count}
use Rattle.cf_tree.specs.Typing.{Meets, IsOne, one}
use Rattle.cf_tree.specs.Bases.{same_base, same_bases}
use Rattle.cf_tree.proofs.BaseLemmas.{both, both_true, same_base_is, same_base_self, same_bases_is, same_bases_self}
use Rattle.cf_typing.specs.Bases.{then_found, after_found, where_true, done, single, alone, placed, again, compared, bound, at_least, as_many, divides}

abbrev pub IsFound : {A : Type 0} → Option A → Type 0
IsFound {A} r = (x : A) × (r ≡ Some x)

pub after_both : {A B : Type 0} (r : Option A) (s : Option B) (y : B) → after_found r s ≡ Some y → IsFound r × (s ≡ Some y)
after_both None s y e = cc
after_both (Some x) s y e = ((x, refl), e)

pub after_is : {A B : Type 0} (r : Option A) (s : Option B) (y : B) → IsFound r → s ≡ Some y → after_found r s ≡ Some y
after_is r s y h e = rw (h.1, e) refl

pub then_both : {A B : Type 0} (r : Option A) (f : A → Option B) (y : B) → then_found r f ≡ Some y → (x : A) × (r ≡ Some x) × (f x ≡ Some y)
then_both None f y e = cc
then_both (Some x) f y e = (x, refl, e)

pub then_is : {A B : Type 0} (r : Option A) (f : A → Option B) (x : A) (y : B) → r ≡ Some x → f x ≡ Some y → then_found r f ≡ Some y
then_is r f x y e g = rw (e, g) refl

pub true_both : {A : Type 0} (t : Bool) (r : Option A) (y : A) → where_true t r ≡ Some y → (t ≡ true) × (r ≡ Some y)
true_both true r y e = (refl, e)
true_both false r y e = cc

pub true_done : (t : Bool) → t ≡ true → IsFound (where_true t done)
true_done t e = (tt, rw e refl)

pub placed_both : (asked found : Option (List Base)) (bs : List Base) → placed asked found ≡ Some bs → (found ≡ Some bs) × Meets asked bs
placed_both None found bs e = (e, tt)
placed_both (Some asked) None bs e = cc
placed_both (Some asked) (Some cs) bs e =
    let p = true_both (same_bases cs asked) (Some asked) bs e in
    let same : cs ≡ asked = same_bases_is cs asked p.0 in
    let given : Some asked ≡ Some bs = p.1 in
    let meets : asked ≡ bs = cc in
    (cc, meets)

pub placed_is : (asked found : Option (List Base)) (bs : List Base) → found ≡ Some bs → Meets asked bs → placed asked found ≡ Some bs
placed_is None found bs e m = e
placed_is (Some asked) found bs e m = rw (e, m, same_bases_self bs) refl

some_is : {A : Type 0} (x y : A) → Some x ≡ Some y → x ≡ y
some_is x y e = cc

pub one_both : (b : Base) (asked : Option (List Base)) (bs : List Base) → placed asked (Some (one b)) ≡ Some bs → IsOne b asked bs
one_both b asked bs e = let p = placed_both asked (Some (one b)) bs e in (sym (some_is (one b) bs p.0), p.1)

pub one_is : (b : Base) (asked : Option (List Base)) (bs : List Base) → IsOne b asked bs → placed asked (Some (one b)) ≡ Some bs
one_is b asked bs h = placed_is asked (Some (one b)) bs (ap Some (sym h.0)) h.1

pub variable_both : (asked : Option (List Base)) (o : Option Base) (bs : List Base) → placed asked (alone o) ≡ Some bs →
    (b : Base) × (o ≡ Some b) × IsOne b asked bs
variable_both asked None bs e = let p = placed_both asked None bs e in let q : None ≡ Some bs = p.0 in cc
variable_both asked (Some b) bs e = (b, refl, one_both b asked bs e)

pub variable_is : (asked : Option (List Base)) (o : Option Base) (bs : List Base) (b : Base) → o ≡ Some b → IsOne b asked bs → placed asked (alone o) ≡ Some bs
variable_is asked o bs b e h = rw e (one_is b asked bs h)

module _ (asked : Option (List Base)) (b : Base) (bs : List Base) where
  pub after_one_both : {A : Type 0} (r : Option A) → placed asked (after_found r (Some (one b))) ≡ Some bs → IsFound r × IsOne b asked bs
  after_one_both r e =
      let p = placed_both asked (after_found r (Some (one b))) bs e in
      let q = after_both r (Some (one b)) bs p.0 in
      (q.0, (sym (some_is (one b) bs q.1), p.1))

  pub after_two_both : {A B : Type 0} (r : Option A) (s : Option B) → placed asked (after_found r (after_found s (Some (one b)))) ≡ Some bs →
      IsFound r × IsFound s × IsOne b asked bs
  after_two_both r s e =
      let p = placed_both asked (after_found r (after_found s (Some (one b)))) bs e in
      let q = after_both r (after_found s (Some (one b))) bs p.0 in
      let t = after_both s (Some (one b)) bs q.1 in
      (q.0, t.0, (sym (some_is (one b) bs t.1), p.1))

  pub after_three_both : {A B C : Type 0} (r : Option A) (s : Option B) (u : Option C) →
      placed asked (after_found r (after_found s (after_found u (Some (one b))))) ≡ Some bs → IsFound r × IsFound s × IsFound u × IsOne b asked bs
  after_three_both r s u e =
      let p = placed_both asked (after_found r (after_found s (after_found u (Some (one b))))) bs e in
      let q = after_both r (after_found s (after_found u (Some (one b)))) bs p.0 in
      let t = after_both s (after_found u (Some (one b))) bs q.1 in
      let v = after_both u (Some (one b)) bs t.1 in
      (q.0, t.0, v.0, (sym (some_is (one b) bs v.1), p.1))

  pub after_one_is : {A : Type 0} (r : Option A) → IsFound r → IsOne b asked bs → placed asked (after_found r (Some (one b))) ≡ Some bs
  after_one_is r f h = rw f.1 (one_is b asked bs h)

  pub after_two_is : {A B : Type 0} (r : Option A) (s : Option B) → IsFound r → IsFound s → IsOne b asked bs →
      placed asked (after_found r (after_found s (Some (one b)))) ≡ Some bs
  after_two_is r s f g h = rw (f.1, g.1) (one_is b asked bs h)

  pub after_three_is : {A B C : Type 0} (r : Option A) (s : Option B) (u : Option C) → IsFound r → IsFound s → IsFound u → IsOne b asked bs →
      placed asked (after_found r (after_found s (after_found u (Some (one b))))) ≡ Some bs
  after_three_is r s u f g k h = rw (f.1, g.1, k.1) (one_is b asked bs h)

pub single_both : (found : Option (List Base)) (b : Base) → then_found found single ≡ Some b → found ≡ Some (one b)
single_both None b e = cc
single_both (Some []) b e = cc
single_both (Some (c ∷ [])) b e = ap (λ x. Some (one x)) (some_is c b e)
single_both (Some (c ∷ d ∷ cs)) b e = cc

pub single_is : (found : Option (List Base)) (b : Base) → found ≡ Some (one b) → then_found found single ≡ Some b
single_is found b e = rw e refl

sides_both : (r s : Option Base) (bs : List Base) → compared r s ≡ Some bs → (c : Base) × (r ≡ Some c) × (s ≡ Some c) × (bs ≡ one Truth)
sides_both None s bs e = cc
sides_both (Some x) None bs e = cc
sides_both (Some x) (Some y) bs e =
    let p = true_both (same_base x y) (Some (one Truth)) bs e in
    (x, refl, ap Some (sym (same_base_is x y p.0)), sym (some_is (one Truth) bs p.1))

pub compared_both : (asked left right : Option (List Base)) (bs : List Base) →
    placed asked (compared (then_found left single) (then_found right single)) ≡ Some bs →
    (c : Base) × (left ≡ Some (one c)) × (right ≡ Some (one c)) × IsOne Truth asked bs
compared_both asked left right bs e =
    let p = placed_both asked (compared (then_found left single) (then_found right single)) bs e in
    let q = sides_both (then_found left single) (then_found right single) bs p.0 in
    (q.0, single_both left q.0 q.1, single_both right q.0 q.2, (q.3, p.1))

pub compared_is : (asked left right : Option (List Base)) (bs : List Base) (c : Base) → left ≡ Some (one c) → right ≡ Some (one c) → IsOne Truth asked bs →
    placed asked (compared (then_found left single) (then_found right single)) ≡ Some bs
compared_is asked left right bs c e f h = rw (e, f, same_base_self c) (one_is Truth asked bs h)

pub again_both : (bs : List Base) (found : Option (List Base)) → IsFound (again bs found) → found ≡ Some bs
again_both bs None h = let e : None ≡ Some h.0 = h.1 in cc
again_both bs (Some cs) h = ap Some (sym (same_bases_is bs cs (true_both (same_bases bs cs) done h.0 h.1).0))

pub again_is : (bs : List Base) (found : Option (List Base)) → found ≡ Some bs → IsFound (again bs found)
again_is bs found e = (tt, rw (e, same_bases_self bs) refl)

pub bound_both : (first n size : ℕ) (found : Option (List Base)) (vs : List Base) → bound first n size found ≡ Some vs →
    (found ≡ Some vs) × (first ≡ size) × (n ≡ length vs)
bound_both first n size None vs e = cc
bound_both first n size (Some bs) vs e =
    let p = true_both (nat_eq first size && nat_eq n (length bs)) (Some bs) vs e in
    let q = both (nat_eq first size) (nat_eq n (length bs)) p.0 in
    let same : bs ≡ vs = some_is bs vs p.1 in
    (p.1, eqb-true first size q.0, subst (λ us. n ≡ length us) same (eqb-true n (length bs) q.1))

pub bound_is : (first n size : ℕ) (found : Option (List Base)) (vs : List Base) → found ≡ Some vs → first ≡ size → n ≡ length vs →
    bound first n size found ≡ Some vs
bound_is first n size found vs e f g = rw (e, eq-eqb first size f, eq-eqb n (length vs) g) refl

pub at_least_both : (n : ℕ) (cs : CodeTrees) → IsFound (at_least n cs) → n ≤ count cs
at_least_both n cs h = leb-true n (count cs) (true_both (nat_le n (count cs)) done h.0 h.1).0

pub at_least_is : (n : ℕ) (cs : CodeTrees) → n ≤ count cs → IsFound (at_least n cs)
at_least_is n cs h = true_done (nat_le n (count cs)) (le-leb n (count cs) h)

pub as_many_both : (cs : CodeTrees) (bs : List Base) → IsFound (as_many cs bs) → count cs ≡ length bs
as_many_both cs bs h = eqb-true (count cs) (length bs) (true_both (nat_eq (count cs) (length bs)) done h.0 h.1).0

pub as_many_is : (cs : CodeTrees) (bs : List Base) → count cs ≡ length bs → IsFound (as_many cs bs)
as_many_is cs bs e = true_done (nat_eq (count cs) (length bs)) (eq-eqb (count cs) (length bs) e)

pub divides_both : (k : ℤ) → IsFound (divides k) → pos 1 ≤ℤ k
divides_both k h = le_z_yes (subst T (sym (true_both (int_le (pos 1) k) done h.0 h.1).0) tt)

from_T : (b : Bool) → T b → b ≡ true
from_T true t = refl
from_T false t = absurd t

pub divides_is : (k : ℤ) → pos 1 ≤ℤ k → IsFound (divides k)
divides_is k h = true_done (int_le (pos 1) k) (from_T (int_le (pos 1) k) h.le)
