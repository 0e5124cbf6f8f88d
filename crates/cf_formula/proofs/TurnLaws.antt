-- Unknowns that give way to sums of as many new ones.
use Rattle.std.proofs.Common.{◌≡◌, ◌≢◌, ℕ, zero, suc, ◌+◌, ◌<◌, ◌≤◌, ℤ, pos, ◌+ℤ◌, ◌*ℤ◌, List, [], ◌∷◌, length, ◌==◌, refl, sym, ◌∙◌, ap, arith, inl, inr}
use Rattle.std.specs.Prelude.{map}
use Rattle.std.proofs.lemmas.Int.{ints}
use Rattle.std.proofs.lemmas.Bool.{cond_both, eqb-true}
use Rattle.std.proofs.lemmas.List.{length-map}
use Rattle.cf_num.proofs.Ring.{ring}
use Rattle.cf_linear.specs.Keep.{In, Over, Same, update, after_back}
use Rattle.cf_linear.specs.Rows.{Row, Values, value}
use Rattle.cf_linear.proofs.KindLemmas.{Over-put, Over-weaker}
use Rattle.cf_linear.proofs.RowLemmas.{value-put}
use Rattle.cf_linear.proofs.ValueLemmas.{update-at, update-same, update-other, value-subst_row}
use Rattle.cf_formula.specs.Branches.{Branch, Leads}
use Rattle.cf_formula.specs.Formulas.{Formula, Holds, Throughout}
use Rattle.cf_formula.specs.Turns.{dot, plus, comb_rows, times, zero_row, identity, subst_rows, backs, row_from, turn_pairs}
use Rattle.cf_formula.proofs.FormulaLemmas.{value-on, Holds-same}

-- ---- matrices
abbrev pub apply : List (List ℤ) → List ℤ → List ℤ
apply ms zs = map (λ r. dot r zs) ms

dot-plus : (a b zs : List ℤ) → dot (plus a b) zs ≡ dot a zs +ℤ dot b zs
dot-plus [] b zs = omega (arith, ints)
dot-plus (x ∷ a) [] zs = omega (arith, ints)
dot-plus (x ∷ a) (y ∷ b) [] = refl
dot-plus (x ∷ a) (y ∷ b) (z ∷ zs) = rw (dot-plus a b zs) (simp ring (omega (arith, ints)))

dot-scaled : (k : ℤ) (r zs : List ℤ) → dot (map (λ m. k *ℤ m) r) zs ≡ k *ℤ dot r zs
dot-scaled k [] zs = omega (arith, ints)
dot-scaled k (m ∷ r) [] = omega (arith, ints)
dot-scaled k (m ∷ r) (z ∷ zs) = rw (dot-scaled k r zs) (simp ring (omega (arith, ints)))

dot-comb : (ks : List ℤ) (ns : List (List ℤ)) (zs : List ℤ) → dot (comb_rows ks ns) zs ≡ dot ks (apply ns zs)
dot-comb [] ns zs = refl
dot-comb (k ∷ ks) [] zs = refl
dot-comb (k ∷ ks) (r ∷ ns) zs = dot-plus (map (λ m. k *ℤ m) r) (comb_rows ks ns) zs ∙ rw (dot-scaled k r zs, dot-comb ks ns zs) refl

apply-times : (ms ns : List (List ℤ)) (zs : List ℤ) → apply (times ms ns) zs ≡ apply ms (apply ns zs)
apply-times [] ns zs = refl
apply-times (ks ∷ ms) ns zs = rw (dot-comb ks ns zs, apply-times ms ns zs) refl

dot-zero : (m : ℕ) (zs : List ℤ) → dot (zero_row m) zs ≡ pos 0
dot-zero zero zs = refl
dot-zero (suc m) [] = refl
dot-zero (suc m) (z ∷ zs) = rw (dot-zero m zs) (omega (arith, ints))

apply-identity : (zs : List ℤ) → apply (identity (length zs)) zs ≡ zs
apply-identity [] = refl
apply-identity (z ∷ zs) =
    let e : pos 1 *ℤ z +ℤ dot (zero_row (length zs)) zs ≡ z = rw (dot-zero (length zs) zs) (omega (arith, ints)) in
    rw (e, shifted (identity (length zs)), apply-identity zs) refl
  where
    shifted : (rows : List (List ℤ)) → map (λ r. dot r (z ∷ zs)) (map (λ r. pos 0 ∷ r) rows) ≡ map (λ r. dot r zs) rows
    shifted [] = refl
    shifted (r ∷ rows) = let e : pos 0 *ℤ z +ℤ dot r zs ≡ dot r zs = omega (arith, ints) in rw (e, shifted rows) refl

-- ---- new columns
abbrev set_from : Values → ℕ → List ℤ → Values
set_from v n [] = v
set_from v n (z ∷ zs) = set_from (update v n z) (n + 1) zs

set_from-same : (v : Values) (n : ℕ) (zs : List ℤ) → Same n v (set_from v n zs)
set_from-same v n [] c l = refl
set_from-same v n (z ∷ zs) c l = update-same n v n z (omega arith) c l ∙ set_from-same (update v n z) (n + 1) zs c (omega arith)

value-row_from : (v : Values) (n : ℕ) (ns : List (List ℤ)) (ys ks : List ℤ) → value (set_from v n (apply ns ys)) (row_from n ns ks) ≡ dot ks (apply ns ys)
value-row_from v n [] ys [] = refl
value-row_from v n [] ys (k ∷ ks) = refl
value-row_from v n (r ∷ ns) ys [] = refl
value-row_from v n (r ∷ ns) ys (k ∷ ks) =
    let z = dot r ys in
    let u = update v n z in
    let w = set_from u (n + 1) (apply ns ys) in
    let e : w n ≡ z = sym (set_from-same u (n + 1) (apply ns ys) n (omega arith)) ∙ update-at v n z in
    value-put w n k (row_from (n + 1) ns ks) ∙ rw (e, value-row_from u (n + 1) ns ys ks) refl

row_from-high : (n : ℕ) (ns : List (List ℤ)) (ks : List ℤ) → Over (λ c. n ≤ c) (row_from n ns ks)
row_from-high n [] ks = tt
row_from-high n (r ∷ ns) [] = tt
row_from-high n (r ∷ ns) (k ∷ ks) =
    Over-put (λ c. n ≤ c) n k (row_from (n + 1) ns ks) (omega arith)
    (Over-weaker (λ c. (n + 1) ≤ c) (λ c. n ≤ c) (λ c h. omega arith) (row_from (n + 1) ns ks) (row_from-high (n + 1) ns ks))

-- ---- several rows
pub value-subst_rows : (v : Values) (ps : List (ℕ × Row)) (r : Row) → value v (subst_rows ps r) ≡ value (after_back v (backs ps)) r
value-subst_rows v [] r = refl
value-subst_rows v ((x, s) ∷ ps) r = value-subst_row v x s (subst_rows ps r) ∙ value-subst_rows (update v x (value v s)) ps r

abbrev pub EachPair : (ℕ → Row → Type 0) → List (ℕ × Row) → Type 0
EachPair P [] = Unit {0}
EachPair P ((x, s) ∷ ps) = P x s × EachPair P ps

-- the row has the value of x, is over new columns, and x is an old one
abbrev Fine : ℕ → Values → Values → ℕ → Row → Type 0
Fine n v w x s = (value w s ≡ v x) × Over (λ c. n ≤ c) s × (x < n)

backs-same : (n : ℕ) (v w : Values) (ps : List (ℕ × Row)) → Same n v w → EachPair (Fine n v w) ps → Same n v (after_back w (backs ps))
backs-same n v w [] s h = s
backs-same n v w ((x, r) ∷ ps) s h =
    let z = value w r in
    let small = h.0.2 in
    let w1 = update w x z in
    let s1 : Same n v w1 = λ c l. cond_both (c == x) z (w c) (λ y. v c ≡ y) (λ e. ap v (eqb-true c x e) ∙ sym h.0.0) (λ e. s c l) in
    let high = λ (c : ℕ). λ (i : n ≤ c). sym (update-other w x c z (λ e. omega arith)) in
    backs-same n v w1 ps s1 (kept w1 high ps h.1)
  where
    kept : (w1 : Values) → ((c : ℕ) → n ≤ c → w c ≡ w1 c) → (ps : List (ℕ × Row)) → EachPair (Fine n v w) ps → EachPair (Fine n v w1) ps
    kept w1 a [] h = tt
    kept w1 a ((y, q) ∷ ps) h = ((sym (value-on (λ c. n ≤ c) w w1 a q h.0.1) ∙ h.0.0, h.0.1, h.0.2), kept w1 a ps h.1)

pub backs-other : (v : Values) (c : ℕ) (ps : List (ℕ × Row)) → EachPair (λ x s. c ≢ x) ps → v c ≡ after_back v (backs ps) c
backs-other v c [] h = refl
backs-other v c ((x, s) ∷ ps) h = sym (update-other v x c (value v s) h.0) ∙ backs-other (update v x (value v s)) c ps h.1

pub pairs_apart : (c n : ℕ) (xs : List ℕ) (ms ns : List (List ℤ)) → ((x : ℕ) → In x xs → c ≢ x) → EachPair (λ x s. c ≢ x) (turn_pairs n xs ms ns)
pairs_apart c n [] ms ns h = tt
pairs_apart c n (x ∷ xs) [] ns h = tt
pairs_apart c n (x ∷ xs) (ks ∷ ms) ns h = (h x (inl refl), pairs_apart c n xs ms ns (λ y i. h y (inr i)))

module _ (known : List ℕ) (Given : Values → Type 0) (xs : List ℕ) (n : ℕ) (f : Formula) (t : Throughout (λ c. c < n) f) (constant : In 0 known)
    (apart_xs : (c x : ℕ) → In c known → In x xs → c ≢ x) (below_n : (c : ℕ) → In c known → c < n) (xs_below : (x : ℕ) → In x xs → x < n) where
  abbrev pub turned : List (List ℤ) → List (List ℤ) → Formula → Branch
  turned ms ns g = record { known = known; bounds = []; items = []; formula = g; back = backs (turn_pairs n xs ms ns) }

  -- g is f with the sums in the places of the unknowns
  pub turn_leads : (ms ns : List (List ℤ)) (g : Formula) → times ms ns ≡ identity (length xs) →
      ((v : Values) → v 0 ≡ pos 1 → Holds (after_back v (backs (turn_pairs n xs ms ns))) f → Holds v g) →
      ((v : Values) → v 0 ≡ pos 1 → Holds v g → Holds (after_back v (backs (turn_pairs n xs ms ns))) f) → Leads known Given f (turned ms ns g ∷ [])
  turn_leads ms ns g inverse into out =
      let ps = turn_pairs n xs ms ns in
      record {
        forth = λ v one given h.
            let ys = map v xs in
            let zs = apply ns ys in
            let l : length ys ≡ length xs = simp length-map in
            let w = set_from v n zs in
            let e : apply ms zs ≡ ys =
            sym (apply-times ms ns ys) ∙ (ap (λ rows. apply rows ys) (inverse ∙ ap identity (sym l)) ∙ apply-identity ys) in
            let same = set_from-same v n zs in
            let found = backs-same n v w ps same (pairs_fine v ys xs ms (λ x i. xs_below x i) e) in
            let there : w 0 ≡ pos 1 = sym (same 0 (below_n 0 constant)) ∙ one in
            inl (w, (λ c i. same c (below_n c i)), tt, tt, into w there (Holds-same n v (after_back w (backs ps)) found f t h));
        back = ((λ v one given w m h. (out v one h, λ c i. backs-other v c ps (pairs_apart c n xs ms ns (λ x j. apart_xs c x i j)))), tt);
        formed = (record { grows = λ c i. i; bounds_known = λ c i. absurd i; items_known = tt }, tt);
      }
    where
      pairs_fine : (v : Values) (ys : List ℤ) (as_ : List ℕ) (rows : List (List ℤ)) → ((x : ℕ) → In x as_ → x < n) → apply rows (apply ns ys) ≡ map v as_ →
          EachPair (Fine n v (set_from v n (apply ns ys))) (turn_pairs n as_ rows ns)
      pairs_fine v ys [] rows b e = tt
      pairs_fine v ys (x ∷ as_) [] b e = tt
      pairs_fine v ys (x ∷ as_) (ks ∷ rows) b e =
          let first : dot ks (apply ns ys) ≡ v x = cc in
          let others : apply rows (apply ns ys) ≡ map v as_ = cc in
          ((value-row_from v n ns ys ks ∙ first, row_from-high n ns ks, b x (inl refl)), pairs_fine v ys as_ rows (λ y i. b y (inr i)) others)
