-- The way back of a whole elimination, from those of its steps.
use Rattle.std.proofs.Common.{◌≡◌, ℕ, ℤ, List, [], ◌∷◌, ◌++◌, ◌⊎◌, inl, inr, refl, ap}
use Rattle.cf_linear.specs.Keep.{In}
use Rattle.cf_linear.specs.Rows.{Row}
use Rattle.cf_linear.specs.Systems.{System, Step, How, row_how, greatest, least, Answer, then_answer, no_answer}
use Rattle.cf_linear.proofs.KindLemmas.{Over-weaker, In-left, In-right}
use Rattle.cf_elim.specs.Returning.{PairsOver, HowOver, BackOver, back_columns, BackDivides, StepsDivide, Returns}

pairs_wider : (Q R : ℕ → Type 0) → ((c : ℕ) → Q c → R c) → (bs : List (Row × ℤ)) → PairsOver Q bs → PairsOver R bs
pairs_wider Q R f [] o = tt
pairs_wider Q R f ((r, k) ∷ bs) o = (Over-weaker Q R f r o.0, pairs_wider Q R f bs o.1)

pub how_wider : (Q R : ℕ → Type 0) → ((c : ℕ) → Q c → R c) → (w : How) → HowOver Q w → HowOver R w
how_wider Q R f (row_how r) o = Over-weaker Q R f r o
how_wider Q R f (greatest bs) o = pairs_wider Q R f bs o
how_wider Q R f (least bs) o = pairs_wider Q R f bs o

back_wider : (Q R : ℕ → Type 0) → ((c : ℕ) → Q c → R c) → (ws : List (ℕ × How)) → BackOver Q ws → BackOver R ws
back_wider Q R f [] o = tt
back_wider Q R f ((x, w) ∷ ws) o = (
  o.0,
  how_wider Q R f w o.1,
  back_wider (λ d. (d ≡ x) ⊎ Q d) (λ d. (d ≡ x) ⊎ R d)
      (λ d h. elim h as (λ _. (d ≡ x) ⊎ R d) [ inl s ↦ inl s | inr q ↦ inr (f d q) ]) ws o.2,
)

back_then : (Q : ℕ → Type 0) (vs ws : List (ℕ × How)) → BackOver Q vs → BackOver (λ d. In d (back_columns vs) ⊎ Q d) ws → BackOver Q (vs ++ ws)
back_then Q [] ws o p = back_wider (λ d. In d [] ⊎ Q d) Q (λ d h. elim h as (λ _. Q d) [ inl e ↦ absurd e | inr q ↦ q ]) ws p
back_then Q ((x, v) ∷ vs) ws o p = (
  o.0,
  o.1,
  back_then (λ d. (d ≡ x) ⊎ Q d) vs ws o.2
      (back_wider (λ d. In d (x ∷ back_columns vs) ⊎ Q d) (λ d. In d (back_columns vs) ⊎ ((d ≡ x) ⊎ Q d)) (λ d h. moved d h) ws p),
)
  where
    moved : (d : ℕ) → In d (x ∷ back_columns vs) ⊎ Q d → In d (back_columns vs) ⊎ ((d ≡ x) ⊎ Q d)
    moved d (inl (inl s)) = inr (inl s)
    moved d (inl (inr i)) = inl i
    moved d (inr q) = inr (inr q)

back-append : (vs ws : List (ℕ × How)) → back_columns (vs ++ ws) ≡ back_columns vs ++ back_columns ws
back-append [] ws = refl
back-append ((x, v) ∷ vs) ws = ap (λ cs. x ∷ cs) (back-append vs ws)

back_divide : (vs ws : List (ℕ × How)) → BackDivides vs → BackDivides ws → BackDivides (vs ++ ws)
back_divide [] ws h k = k
back_divide ((x, v) ∷ vs) ws h k = (h.0, back_divide vs ws h.1 k)

pub steps_divide : (ms ns : List Step) → StepsDivide ms → StepsDivide ns → StepsDivide (ms ++ ns)
steps_divide [] ns h k = k
steps_divide (m ∷ ms) ns h k = (h.0, steps_divide ms ns h.1 k)

pub returns_none : (m : System) → Returns m (no_answer m)
returns_none m = record { comes = record { over = tt; covers = λ c i. inl i }; grows = λ c i. i; steps = tt; back = tt }

pub returns_then : (m : System) (a b : Answer) → Returns m a → Returns a.system b → Returns m (then_answer a b)
returns_then m a b r s = record {
  comes = record {
    over = back_then (λ c. In c b.system.known ⊎ In c b.system.unknown) b.back a.back s.comes.over
        (back_wider (λ c. In c a.system.known ⊎ In c a.system.unknown) (λ c. In c (back_columns b.back) ⊎ (In c b.system.known ⊎ In c b.system.unknown))
        (λ c h. left c h) a.back r.comes.over);
    covers = λ c i. covered c (r.comes.covers c i);
  };
  grows = λ c i. s.grows c (r.grows c i);
  steps = steps_divide a.steps b.steps r.steps s.steps;
  back = back_divide b.back a.back s.back r.back;
}
  where
    left : (c : ℕ) → In c a.system.known ⊎ In c a.system.unknown → In c (back_columns b.back) ⊎ (In c b.system.known ⊎ In c b.system.unknown)
    left c (inl k) = inr (inl (s.grows c k))
    left c (inr u) = elim (s.comes.covers c u) as (λ _. In c (back_columns b.back) ⊎ (In c b.system.known ⊎ In c b.system.unknown))
        [ inl v ↦ inr (inr v) | inr i ↦ inl i ]

    covered : (c : ℕ) → In c a.system.unknown ⊎ In c (back_columns a.back) → In c b.system.unknown ⊎ In c (back_columns (b.back ++ a.back))
    covered c (inl u) =
        elim (s.comes.covers c u) as (λ _. In c b.system.unknown ⊎ In c (back_columns (b.back ++ a.back))) [
          | inl v ↦ inl v
          | inr i ↦ inr (rw (back-append b.back a.back) (In-left c (back_columns b.back) (back_columns a.back) i))
        ]
    covered c (inr i) = inr (rw (back-append b.back a.back) (In-right c (back_columns b.back) (back_columns a.back) i))
