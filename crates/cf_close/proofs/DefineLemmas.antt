-- A new column, which nothing names, gets the value of a row.
use Rattle.std.proofs.Common.{◌≡◌, ◌≢◌, ℕ, ◌<◌, ℤ, pos, negsuc, ◌+ℤ◌, ◌*ℤ◌, List, [], ◌∷◌, ◌++◌, Bool, true, false, length, get_or, All, refl, sym, ◌∙◌, ap, arith, subst, ◌⊎◌, inl, inr, ⊎_elim}
use Rattle.std.specs.Prelude.{Result, Ok, Err, is_ok, if◌then◌else◌}
use Rattle.std.proofs.lemmas.Int.{ints}
use Rattle.cf_linear.specs.Rows.{Row, Values, value, entry, comb}
use Rattle.cf_linear.specs.Keep.{update}
use Rattle.cf_linear.proofs.RowLemmas.{value-comb}
use Rattle.cf_linear.proofs.ValueLemmas.{value-split, value-update, update-at, update-other}
use Rattle.cf_close.specs.declared.fact.Fact.{Fact}
use Rattle.cf_close.specs.Facts.{Holds, FactHolds}
use Rattle.cf_close.specs.Problems.{Conjunction, Problem, Marks, ConjunctionHolds, Solves}
use Rattle.cf_close.specs.Nodes.{with_fact, IsFound, IsComplete, Lacks, NodeLacks, IsDefined}
use Rattle.cf_close.proofs.NodeLemmas.{fact_added}

-- a row that lacks the column keeps its value
same_value : (v : Values) (c : ℕ) (z : ℤ) (r : Row) → entry r c ≡ pos 0 → value (update v c z) r ≡ value v r
same_value v c z r e =
    let a = value-update v c z r in
    let b = value-split v c r in
    let x : entry r c *ℤ z ≡ pos 0 = rw e (omega (arith, ints)) in
    let y : entry r c *ℤ v c ≡ pos 0 = rw e (omega (arith, ints)) in
    omega (arith, ints)

node_same : (v : Values) (m : Marks) (c : ℕ) (z : ℤ) (n : Conjunction) → NodeLacks c n → ConjunctionHolds v m n → ConjunctionHolds (update v c z) m n
node_same v m c z n l h = record {
  facts_hold = λ k d i. subst (λ y. Holds (get_or n.facts k d).kind y) (sym (same_value v c z (get_or n.facts k d).row (l k d i))) (h.facts_hold k d i);
  ors_hold = h.ors_hold;
}

solves_same : (v : Values) (m : Marks) (c : ℕ) (z : ℤ) (p : Problem) → c ≢ 0 → All (NodeLacks c) p.conjunctions → Solves v m p → Solves (update v c z) m p
solves_same v m c z p n l s = record {
  one = update-other v c 0 z (λ e. n (sym e)) ∙ s.one;
  root = s.root;
  marked = λ i d k marked. node_same v m c z (get_or p.conjunctions i d) (l i d k) (s.marked i d k marked);
}

-- the node with the definition of the column
pub defined : {A E : Type 0} (r : Result A E) (p : Problem) (closed : Bool) (top : Conjunction) (rest : List Conjunction) (c : ℕ) (x : Row) (f : Fact) → IsComplete p closed top rest →
    All (NodeLacks c) p.conjunctions → All (Lacks c) top.facts → IsDefined c x f → IsComplete p closed (if is_ok r then with_fact f top else top) rest
defined (Ok a) p closed top rest c x f h l t d = record { kept = λ v m s. by closed (h.kept v m s) }
  where
    by : {m : Marks} (b : Bool) → IsFound p m b top rest → IsFound p m b (with_fact f top) rest
    by true k = record { values = k.values; solves = k.solves; is_open = k.is_open }
    by {m} false k = ⊎_elim
        (λ n. record {
          values = update k.values c (value k.values x);
          solves = solves_same k.values m c (value k.values x) p d.other l k.solves;
          is_open = inl (fact_added (update k.values c (value k.values x)) m f top (node_same k.values m c (value k.values x) top t n) (d.gives k.values));
        })
        (λ n. record { values = k.values; solves = k.solves; is_open = inr n }) k.is_open
defined (Err a) p closed top rest c x f h l t d = h

-- the row less the column
pub gives : (c : ℕ) (x : Row) (r : Row) → c ≢ 0 → entry x c ≡ pos 0 → r ≡ comb (pos 1) x (negsuc 0) ((c, pos 1) ∷ []) → (v : Values) →
    value (update v c (value v x)) r ≡ pos 0
gives c x r n e i v =
    let a : value (update v c (value v x)) r ≡ pos 1 *ℤ value (update v c (value v x)) x +ℤ negsuc 0 *ℤ (pos 1 *ℤ update v c (value v x) c +ℤ pos 0) =
    ap (value (update v c (value v x))) i ∙ value-comb (update v c (value v x)) (pos 1) x (negsuc 0) ((c, pos 1) ∷ []) in
    let b = same_value v c (value v x) x e in
    let d = update-at v c (value v x) in
    a ∙ rw (b, d) (omega (arith, ints))
