-- The answer of Clean, of its parts.
use Rattle.std.proofs.Common.{◌≡◌, ℕ, ◌+◌, ℤ, pos, ◌≤ℤ◌, ◌++◌, List, Option, Some, None, true, false, Result, Ok, Err, refl, sym, ◌∙◌, ap, arith, subst, length}
use Rattle.std.specs.Prelude.{IfOk, map, filter, not, nat_le}
use Rattle.std.proofs.lemmas.Int.{ints}
use Rattle.std.proofs.lemmas.Bool.{le-leb, leb-true}
use Rattle.std.proofs.lemmas.List.{length-map, length-append, map-append}
use Rattle.cf_tree.specs.declared.memory.NoMemory.{NoMemory}
use Rattle.cf_linear.specs.declared.system.Step.{Step as DeclaredStep}
use Rattle.cf_linear.specs.Rows.{Row, AreBelow, comb}
use Rattle.cf_linear.specs.Systems.{System, EachRow, Step, floor_of, need_zero, need_nonneg, Answer}
use Rattle.cf_linear.specs.Steps.{has_unknown, unknown_part, known_part, common, divided, one_at, tighten_row, Tightened, tighten_all, clean}
use Rattle.cf_linear.specs.Keep.{Formed}
use Rattle.cf_linear.specs.Solved.{Owes}
use Rattle.cf_linear.specs.Views.{system_of, step_of}
use Rattle.cf_linear.proofs.BoolLemmas.{on_bool}
use Rattle.cf_linear.proofs.FormedLemmas.{low_from}
use Rattle.cf_linear.proofs.KindLemmas.{EachRow-filter}
use Rattle.cf_linear.specs.RowParts.{divides_known, divided_by}
use Rattle.cf_linear.specs.Unknowns.{HaveSame}
use Rattle.cf_bounds.specs.declared.cleaning.Cleaned.{Cleaned}
use Rattle.cf_bounds.specs.declared.cleaning.Tight.{Tight}
use Rattle.cf_bounds.specs.CleanAnswers.{cleaned, tight_of}
use Rattle.cf_bounds.specs.Cleaning.{needs_of, tightened, held_of, joined}
use Rattle.cf_bounds.proofs.ListLemmas.{all_below}
use Rattle.cf_bounds.proofs.OwesLemmas.{clean_step}
use Rattle.cf_bounds.proofs.FormedAgain.{clean_formed}
use Rattle.cf_bounds.proofs.UnknownLemmas.{held_same, tightened_same, needs_same}

joined_is : (m : System) → joined m (filter (has_unknown m.unknown) m.equations) (tightened m.unknown m) (needs_of m.unknown m) ≡ clean m
unfolding clean
joined_is m =
    let zeros = filter (λ r. not (has_unknown m.unknown r)) m.equations in
    let nonnegs = filter (λ r. not (has_unknown m.unknown r)) m.inequalities in
    let count : m.needs + length (needs_of m.unknown m) ≡ m.needs + length zeros + length nonnegs =
    omega (arith, length-append (map need_zero zeros) (map need_nonneg nonnegs), length-map zeros need_zero, length-map nonnegs need_nonneg) in
    rw count refl

pub clean_is : (m : System) (us vs : List ℕ) (h : System) (a : Answer) (needs : List Step) → HaveSame us vs → vs ≡ m.unknown → h ≡ held_of us m →
    needs ≡ needs_of us m → a ≡ joined h h.equations (tighten_all us h.next h.inequalities) needs → a ≡ clean m
clean_is m us vs h a needs s u e n f =
    f ∙ ap (λ k. joined k k.equations (tighten_all us k.next k.inequalities) needs) e ∙
    parts (filter (has_unknown us) m.equations) (tightened us m) (held_same us m.unknown same m.equations) (tightened_same us m.unknown same m)
    (n ∙ needs_same us m.unknown same m)
  where
    same : HaveSame us m.unknown
    same = subst (λ ws. HaveSame us ws) u s

    parts : (equations : List Row) (t : Tightened) → equations ≡ filter (has_unknown m.unknown) m.equations → t ≡ tightened m.unknown m →
        needs ≡ needs_of m.unknown m → joined m equations t needs ≡ clean m
    parts equations t d g k = rw (d, g, k) (joined_is m)

-- each row that is held is below the next column
pub held_below : (us : List ℕ) (m h : System) → h ≡ held_of us m → EachRow (AreBelow m.next) m.inequalities → EachRow (AreBelow h.next) h.inequalities
held_below us m h e b = subst (λ k. EachRow (AreBelow k.next) k.inequalities) (sym e) (EachRow-filter (AreBelow m.next) (has_unknown us) m.inequalities b)

pub steps_append : (xs ys : List DeclaredStep) → map step_of (xs ++ ys) ≡ map step_of xs ++ map step_of ys
steps_append xs ys = map-append step_of xs ys

-- ---- one row
module _ (us : List ℕ) (n : ℕ) (r : Row) where
  is_unchanged : nat_le (common (unknown_part us r)) 1 ≡ true → tighten_row us n r ≡ (None, r)
  is_unchanged e = rw e refl

  is_rounded : nat_le (common (unknown_part us r)) 1 ≡ false → divides_known (pos (common (unknown_part us r))) (known_part us r) ≡ true →
      tighten_row us n r ≡ (None, divided (common (unknown_part us r)) r)
  is_rounded e d = rw (e, d) refl

  is_floored : nat_le (common (unknown_part us r)) 1 ≡ false → divides_known (pos (common (unknown_part us r))) (known_part us r) ≡ false →
      tighten_row us n r ≡ (
        Some (floor_of n (known_part us r) (pos (common (unknown_part us r)))),
        comb (pos 1) (divided (common (unknown_part us r)) (unknown_part us r)) (pos 1) (one_at n),
      )
  is_floored e d = rw (e, d) refl

  module _ (g : ℤ) (res : Result Tight NoMemory) where
    abbrev Tightens : Option Step × Row → Type 0
    Tightens t = IfOk res (λ x. tight_of x ≡ t)

    is_great : g ≡ pos (common (unknown_part us r)) → (g ≤ℤ pos 1 → ⊥) → nat_le (common (unknown_part us r)) 1 ≡ false
    is_great e l = on_bool (nat_le (common (unknown_part us r)) 1) (λ f. absurd (l (let i = leb-true (common (unknown_part us r)) 1 f in omega (arith, ints))))
        (λ f. f)

    pub unchanged_row : Tightens (None, r) → g ≡ pos (common (unknown_part us r)) → g ≤ℤ pos 1 → Tightens (tighten_row us n r)
    unchanged_row h e l = subst Tightens (sym (is_unchanged (le-leb (common (unknown_part us r)) 1 (omega (arith, ints))))) h

    pub rounded_row : Tightens (None, divided_by g r) → g ≡ pos (common (unknown_part us r)) → (g ≤ℤ pos 1 → ⊥) → divides_known g (known_part us r) ≡ true →
        Tightens (tighten_row us n r)
    rounded_row h e l d =
        subst Tightens (sym (is_rounded (is_great e l) (subst (λ z. divides_known z (known_part us r) ≡ true) e d)))
        (subst (λ z. Tightens (None, divided_by z r)) e h)

    pub floored_row : (u k : Row) → Tightens (Some (floor_of n k g), comb (pos 1) (divided_by g u) (pos 1) (one_at n)) → u ≡ unknown_part us r →
        k ≡ known_part us r →
        g ≡ pos (common (unknown_part us r)) → (g ≤ℤ pos 1 → ⊥) → divides_known g k ≡ false → Tightens (tighten_row us n r)
    floored_row u k h eu ek e l d =
        subst Tightens (sym (is_floored (is_great e l)
        (subst (λ z. divides_known z (known_part us r) ≡ false) e (subst (λ y. divides_known g y ≡ false) ek d))))
        (subst (λ z. Tightens (Some (floor_of n (known_part us r) z), comb (pos 1) (divided_by z (unknown_part us r)) (pos 1) (one_at n))) e
        (subst (λ y. Tightens (Some (floor_of n (known_part us r) g), comb (pos 1) (divided_by g y) (pos 1) (one_at n))) eu
        (subst (λ y. Tightens (Some (floor_of n y g), comb (pos 1) (divided_by g u) (pos 1) (one_at n))) ek h)))

pub clean_below : (m : System) → Formed m → EachRow (AreBelow m.next) m.inequalities
clean_below m f = all_below m.next m.inequalities (low_from m f).nonneg

pub clean_owes : (m : System) (r : Result Cleaned NoMemory) → Formed m → IfOk r (λ c. cleaned c ≡ clean m) → IfOk r (λ c. Owes m (cleaned c))
clean_owes m (Ok c) f e = subst (Owes m) (sym e) (clean_step m f)
clean_owes m (Err x) f e = tt

pub clean_forms : (m : System) (r : Result Cleaned NoMemory) → Formed m → IfOk r (λ c. cleaned c ≡ clean m) → IfOk r (λ c. Formed (system_of c.system))
clean_forms m (Ok c) f e = subst Formed (sym (ap (λ a. a.system) e)) (clean_formed m f)
clean_forms m (Err x) f e = tt
