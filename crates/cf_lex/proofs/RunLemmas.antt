-- Runs of bytes.
use Rattle.std.proofs.Common.{◌≡◌, ℕ, ◌+◌, Bool, true, false, cond, List, [], ◌∷◌, ◌++◌, length, take, drop, refl, ap, ◌∙◌, one-add, ◌&&◌, ◌||◌, eqb, eqb-true}
use Rattle.std.specs.List.{prefix_len, list_any, list_all}
use Rattle.cf_lex.specs.Runs.{IsRun}

pub run_of : (p : ℕ → Bool) (s : List ℕ) → IsRun p (take (prefix_len p s) s) (drop (prefix_len p s) s)
run_of p [] = (tt, tt)
run_of p (b ∷ s) = by (p b) refl (run_of p s)
  where
    by : (v : Bool) → p b ≡ v → IsRun p (take (prefix_len p s) s) (drop (prefix_len p s) s) →
        IsRun p (take (cond v (1 + prefix_len p s) 0) (b ∷ s)) (drop (cond v (1 + prefix_len p s) 0) (b ∷ s))
    by true e r = rw one-add ((e, r.0), r.1)
    by false e r = (tt, e)

pub prefix_len-run : (p : ℕ → Bool) (w rest : List ℕ) → IsRun p w rest → prefix_len p (w ++ rest) ≡ length w
prefix_len-run p [] [] r = refl
prefix_len-run p [] (b ∷ rest) r = rw r.1 refl
prefix_len-run p (b ∷ w) rest r = rw r.0.0 (ap (λ n. 1 + n) (prefix_len-run p w rest (r.0.1, r.1)) ∙ one-add (length w))

pub and_left : (x y : Bool) → (x && y) ≡ true → x ≡ true
and_left true y e = refl
and_left false y e = cc

pub and_right : (x y : Bool) → (x && y) ≡ true → y ≡ true
and_right true y e = e
and_right false y e = cc

-- what passes for each of a list passes for what is in it
pub in_list : (p : ℕ → Bool) (cs : List ℕ) (b : ℕ) → list_any (λ c. eqb b c) cs ≡ true → list_all p cs ≡ true → p b ≡ true
in_list p [] b any all = cc
in_list p (c ∷ cs) b any all = by (eqb b c) refl (in_list p cs b) any
  where
    by : (v : Bool) → eqb b c ≡ v → (list_any (λ c. eqb b c) cs ≡ true → list_all p cs ≡ true → p b ≡ true) → (v || list_any (λ c. eqb b c) cs) ≡ true →
        p b ≡ true
    by true e next h = ap p (eqb-true b c e) ∙ and_left (p c) (list_all p cs) all
    by false e next h = next h (and_right (p c) (list_all p cs) all)
