-- One step after the other: the factors multiply.
use Rattle.std.proofs.Common.{◌≡◌, ℕ, ◌≤◌, ◌*◌, ℤ, pos, ◌+ℤ◌, ◌*ℤ◌, List, [], ◌∷◌, ◌++◌, refl, sym, ◌∙◌, ap, arith, subst, inl, inr, ⊎_elim}
use Rattle.std.specs.Int.{int_div_euclid}
use Rattle.std.proofs.Math.Nat.{mul_assoc, mul_comm}
use Rattle.cf_linear.specs.Rows.{Row, Values, value}
use Rattle.cf_linear.specs.Systems.{System, Step, floor_of, need_nonneg, need_zero, need_divides, How, row_how, greatest, least, Answer, no_answer, then_answer}
use Rattle.cf_linear.specs.Arm.{negated}
use Rattle.cf_linear.specs.Keep.{In, Over, Within, update, how_value, after_back, IsColumn}
use Rattle.cf_linear.specs.Solved.{search_columns}
use Rattle.cf_linear.proofs.KindLemmas.{In-append, Over-weaker, search_columns-append}
use Rattle.cf_linear.proofs.SolvedLemmas.{after_back-append}
use Rattle.cf_linear.proofs.ValueLemmas.{Within-split}
use Rattle.cf_growth.specs.Norms.{IsBounded, SumsWithin}
use Rattle.cf_growth.specs.Growing.{IsKnown, LetsFit, StepsIn, LetsWithin, PairsWithin, HowWithin, WaysWithin, Grows}
use Rattle.cf_growth.proofs.NormLaws.{times_more}

-- ---- greater limits
sums_more : (n p : ℕ) → n ≤ p → (v : Values) (t : ℤ) (r : Row) → SumsWithin n v t r → SumsWithin p v t r
sums_more n p l v t [] h = tt
sums_more n p l v t ((c, k) ∷ r) h =
    let a = h.0 in
    let b = h.1 in
    let d = h.2 in
    let e = h.3 in
    (omega arith, omega arith, omega arith, omega arith, sums_more n p l v (t +ℤ k *ℤ v c) r h.4)

pub lets_more : (n p : ℕ) → n ≤ p → (v : Values) (ms : List Step) → LetsWithin n v ms → LetsWithin p v ms
lets_more n p l v [] h = tt
lets_more n p l v (floor_of c r g ∷ ms) h = (sums_more n p l v (pos 0) r h.0, lets_more n p l v ms h.1)
lets_more n p l v (need_nonneg r ∷ ms) h = lets_more n p l v ms h
lets_more n p l v (need_zero r ∷ ms) h = lets_more n p l v ms h
lets_more n p l v (need_divides g r ∷ ms) h = lets_more n p l v ms h

pairs_more : (n p : ℕ) → n ≤ p → (v : Values) (bs : List (Row × ℤ)) → PairsWithin n v bs → PairsWithin p v bs
pairs_more n p l v [] h = tt
pairs_more n p l v ((r, k) ∷ bs) h = (sums_more n p l v (pos 0) r h.0, sums_more n p l v (pos 0) (negated r) h.1, pairs_more n p l v bs h.2)

way_more : (n p : ℕ) → n ≤ p → (v : Values) (w : How) → HowWithin n v w → HowWithin p v w
way_more n p l v (row_how r) h = sums_more n p l v (pos 0) r h
way_more n p l v (greatest bs) h = pairs_more n p l v bs h
way_more n p l v (least bs) h = pairs_more n p l v bs h

pub back_more : (n p : ℕ) → n ≤ p → (v : Values) (ws : List (ℕ × How)) → WaysWithin n v ws → WaysWithin p v ws
back_more n p l v [] h = tt
back_more n p l v ((x, w) ∷ ws) h = (way_more n p l v w h.0, back_more n p l (update v x (how_value v w)) ws h.1)

-- ---- lists
lets_split : (v : Values) (ms ns : List Step) → LetsFit v (ms ++ ns) → LetsFit v ms × LetsFit v ns
lets_split v [] ns h = (tt, h)
lets_split v (floor_of c r g ∷ ms) ns h = let p = lets_split v ms ns h.1 in ((h.0, p.0), p.1)
lets_split v (need_nonneg r ∷ ms) ns h = lets_split v ms ns h
lets_split v (need_zero r ∷ ms) ns h = lets_split v ms ns h
lets_split v (need_divides g r ∷ ms) ns h = lets_split v ms ns h

lets_append : (n : ℕ) (v : Values) (ms ns : List Step) → LetsWithin n v ms → LetsWithin n v ns → LetsWithin n v (ms ++ ns)
lets_append n v [] ns h k = k
lets_append n v (floor_of c r g ∷ ms) ns h k = (h.0, lets_append n v ms ns h.1 k)
lets_append n v (need_nonneg r ∷ ms) ns h k = lets_append n v ms ns h k
lets_append n v (need_zero r ∷ ms) ns h k = lets_append n v ms ns h k
lets_append n v (need_divides g r ∷ ms) ns h k = lets_append n v ms ns h k

pub over_append : (Q : ℕ → Type 0) (ms ns : List Step) → StepsIn Q ms → StepsIn Q ns → StepsIn Q (ms ++ ns)
over_append Q [] ns h k = k
over_append Q (floor_of c r g ∷ ms) ns h k = (h.0, h.1, over_append Q ms ns h.2 k)
over_append Q (need_nonneg r ∷ ms) ns h k = (h.0, over_append Q ms ns h.1 k)
over_append Q (need_zero r ∷ ms) ns h k = (h.0, over_append Q ms ns h.1 k)
over_append Q (need_divides g r ∷ ms) ns h k = (h.0, over_append Q ms ns h.1 k)

over_weaker : (Q R : ℕ → Type 0) → ((c : ℕ) → Q c → R c) → (ms : List Step) → StepsIn Q ms → StepsIn R ms
over_weaker Q R f [] h = tt
over_weaker Q R f (floor_of c r g ∷ ms) h = (f c h.0, Over-weaker Q R f r h.1, over_weaker Q R f ms h.2)
over_weaker Q R f (need_nonneg r ∷ ms) h = (Over-weaker Q R f r h.0, over_weaker Q R f ms h.1)
over_weaker Q R f (need_zero r ∷ ms) h = (Over-weaker Q R f r h.0, over_weaker Q R f ms h.1)
over_weaker Q R f (need_divides g r ∷ ms) h = (Over-weaker Q R f r h.0, over_weaker Q R f ms h.1)

back_append : (n : ℕ) (v : Values) (ws us : List (ℕ × How)) → WaysWithin n v ws → WaysWithin n (after_back v ws) us → WaysWithin n v (ws ++ us)
back_append n v [] us h k = k
back_append n v ((x, w) ∷ ws) us h k = (h.0, back_append n (update v x (how_value v w)) ws us h.1 k)

-- ---- values that agree on columns
pub value_over : (Q : ℕ → Type 0) (v w : Values) → ((c : ℕ) → Q c → w c ≡ v c) → (r : Row) → Over Q r → value w r ≡ value v r
value_over Q v w e [] o = refl
value_over Q v w e ((c, k) ∷ r) o = rw (e c o.0, value_over Q v w e r o.1) refl

lets_same : (Q : ℕ → Type 0) (v w : Values) → ((c : ℕ) → Q c → w c ≡ v c) → (ms : List Step) → StepsIn Q ms → LetsFit v ms → LetsFit w ms
lets_same Q v w e [] o h = tt
lets_same Q v w e (floor_of c r g ∷ ms) o h = (e c o.0 ∙ h.0 ∙ ap (λ z. int_div_euclid z g) (sym (value_over Q v w e r o.1)), lets_same Q v w e ms o.2 h.1)
lets_same Q v w e (need_nonneg r ∷ ms) o h = lets_same Q v w e ms o.1 h
lets_same Q v w e (need_zero r ∷ ms) o h = lets_same Q v w e ms o.1 h
lets_same Q v w e (need_divides g r ∷ ms) o h = lets_same Q v w e ms o.1 h

within_same : (v w : Values) (bs : List (ℕ × ℕ)) → ((c : ℕ) → In c (search_columns bs) → w c ≡ v c) → Within v bs → Within w bs
within_same v w [] e h = tt
within_same v w ((c, n) ∷ bs) e h =
    let p = e c (inl refl) in
    (rw p h.0, rw p h.1, within_same v w bs (λ d i. e d (inr i)) h.2)

-- ---- no step, and one after the other
pub grows_none : (m : System) → Grows m (no_answer m) 1 1
grows_none m = record {
  forth_some = omega arith;
  back_some = omega arith;
  known = λ v k s w l h c q. let i = h c q in omega arith;
  lets = λ v k s w l h. tt;
  stood = λ v k b s w l h le hb c q. let i = hb c q in omega arith;
  back = λ v k b s w l h le hb. tt;
  stay = λ c i. i;
  searches = λ c i. absurd i;
  over = tt;
  kept = λ v c i. refl;
}

pub some_times : (f g : ℕ) → 1 ≤ f → 1 ≤ g → 1 ≤ f * g
some_times f g h k = let t = times_more f g h in omega arith

turn : (f g k : ℕ) → g * (f * k) ≡ (f * g) * k
turn f g k = sym (mul_assoc g f k) ∙ ap (λ n. n * k) (mul_comm g f)

module _ (m : System) (a b : Answer) (f g p q : ℕ) (ha : Grows m a f g) (hb : Grows a.system b p q) where
  abbrev First : Values → ℕ → Type 0
  First v k = IsBounded (IsKnown m) k v

  abbrev both : Answer
  both = then_answer a b

  -- the known columns after the first step
  middle : (v : Values) (k : ℕ) → 1 ≤ k → Within v both.bounds → LetsFit v both.steps → First v k → IsBounded (IsKnown a.system) (f * k) v
  middle v k s w l h = ha.known v k s (Within-split v a.bounds b.bounds w).0 (lets_split v a.steps b.steps l).0 h

  some_middle : (k : ℕ) → 1 ≤ k → 1 ≤ f * k
  some_middle k s = some_times f k ha.forth_some s

  after : (k n : ℕ) → (f * p) * k ≤ n → (p * (f * k) ≤ n) × (f * k ≤ n)
  after k n l =
      let e = turn f p k in
      let t = times_more p (f * k) hb.forth_some in
      (omega arith, omega arith)

  stays : (v : Values) (c : ℕ) → IsKnown a.system c → after_back v b.back c ≡ v c
  stays v c i = hb.kept v c i

  within_back : (v : Values) → Within v both.bounds → Within (after_back v b.back) a.bounds
  within_back v w = within_same v (after_back v b.back) a.bounds (λ c i. stays v c (ha.searches c i)) (Within-split v a.bounds b.bounds w).0

  lets_back : (v : Values) → LetsFit v both.steps → LetsFit (after_back v b.back) a.steps
  lets_back v l = lets_same (IsKnown a.system) v (after_back v b.back) (stays v) a.steps ha.over (lets_split v a.steps b.steps l).0

  first_back : (v : Values) (k : ℕ) → First v k → First (after_back v b.back) k
  first_back v k h c i = rw (stays v c (ha.stay c i)) (h c i)

  middle_stood : (v : Values) (k n : ℕ) → 1 ≤ k → Within v both.bounds → LetsFit v both.steps → First v k → (f * p) * k ≤ n →
      IsBounded (IsColumn b.system) n v →
      IsBounded (IsColumn a.system) (q * n) (after_back v b.back)
  middle_stood v k n s w l h le hn =
      hb.stood v (f * k) n (some_middle k s) (Within-split v a.bounds b.bounds w).1 (lets_split v a.steps b.steps l).1 (middle v k s w l h) (after k n le).0 hn

  enough : (k n : ℕ) → (f * p) * k ≤ n → f * k ≤ q * n
  enough k n le = let i = (after k n le).1 in let t = times_more q n hb.back_some in omega arith

  pub grows_then : Grows m (then_answer a b) (f * p) (g * q)
  grows_then = record {
    forth_some = some_times f p ha.forth_some hb.forth_some;
    back_some = some_times g q ha.back_some hb.back_some;
    known = λ v k s w l h. subst (λ n. IsBounded (IsKnown b.system) n v) (turn f p k)
        (hb.known v (f * k) (some_middle k s) (Within-split v a.bounds b.bounds w).1 (lets_split v a.steps b.steps l).1 (middle v k s w l h));
    lets = λ v k s w l h.
        let e = turn f p k in
        let t = times_more p (f * k) hb.forth_some in
        lets_append ((f * p) * k) v a.steps b.steps
        (lets_more (f * k) ((f * p) * k) (omega arith) v a.steps (ha.lets v k s (Within-split v a.bounds b.bounds w).0 (lets_split v a.steps b.steps l).0 h))
        (subst (λ n. LetsWithin n v b.steps) e (hb.lets v (f * k) (some_middle k s) (Within-split v a.bounds b.bounds w).1 (lets_split v a.steps b.steps l).1
        (middle v k s w l h)));
    stood = λ v k n s w l h le hn.
        rw after_back-append (subst (λ t. IsBounded (IsColumn m) t (after_back (after_back v b.back) a.back)) (sym (mul_assoc g q n))
        (ha.stood (after_back v b.back) k (q * n) s (within_back v w) (lets_back v l) (first_back v k h) (enough k n le) (middle_stood v k n s w l h le hn)));
    back = λ v k n s w l h le hn.
        let e = mul_assoc g q n in
        let t = times_more g (q * n) ha.back_some in
        back_append ((g * q) * n) v b.back a.back
        (back_more (q * n) ((g * q) * n) (omega arith) v b.back
        (hb.back v (f * k) n (some_middle k s) (Within-split v a.bounds b.bounds w).1 (lets_split v a.steps b.steps l).1 (middle v k s w l h) (after k n le).0
        hn))
        (subst (λ t. WaysWithin t (after_back v b.back) a.back) (sym e)
        (ha.back (after_back v b.back) k (q * n) s (within_back v w) (lets_back v l) (first_back v k h) (enough k n le) (middle_stood v k n s w l h le hn)));
    stay = λ c i. hb.stay c (ha.stay c i);
    searches = λ c i. ⊎_elim (λ j. hb.stay c (ha.searches c j)) (λ j. hb.searches c j)
        (In-append c (search_columns a.bounds) (search_columns b.bounds) (subst (λ cs. In c cs) (search_columns-append a.bounds b.bounds) i));
    over = over_append (IsKnown b.system) a.steps b.steps (over_weaker (IsKnown a.system) (IsKnown b.system) (λ c i. hb.stay c i) a.steps ha.over) hb.over;
    kept = λ v c i. rw after_back-append (ha.kept (after_back v b.back) c i ∙ stays v c (ha.stay c i));
  }
