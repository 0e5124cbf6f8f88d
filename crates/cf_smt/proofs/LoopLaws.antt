-- Searches by number, and tuples that are not few.
use Rattle.std.proofs.Common.{◌≡◌, ◌∙◌, ℕ, zero, suc, ◌+◌, ◌<◌, List, [], ◌∷◌, ◌++◌, drop, length, false, refl, sym, ap, arith, None}
use Rattle.std.specs.Prelude.{nat_le}
use Rattle.std.proofs.Math.Numerals.{add-one}
use Rattle.std.proofs.lemmas.Bool.Decides.{nat_tests}
use Rattle.std.proofs.lemmas.List.{append_assoc}
use Rattle.cf_smt.specs.Commands.{few_below}
use Rattle.cf_smt.specs.Names.{search_name, search_names}

pub not_few : (n : ℕ) (bounds : List ℕ) → 64 < n → None ≡ few_below n bounds
not_few n [] h = let past : nat_le n 64 ≡ false = grind (arith, nat_tests) in rw past refl
not_few n (b ∷ bounds) h = let past : nat_le n 64 ≡ false = grind (arith, nat_tests) in rw past refl

searches_from : (bounds : List ℕ) (i j : ℕ) → i < length bounds →
    search_names j (drop i bounds) ≡ search_name j ∷ search_names (j + 1) (drop (suc i) bounds)
searches_from [] i j h = absurd (omega (arith, h))
searches_from (b ∷ bounds) zero j h = refl
searches_from (b ∷ bounds) (suc i) j h = searches_from bounds i j (omega (arith, h))

-- the name of the next search
pub next_search : (bounds : List ℕ) (j : ℕ) (all new whole : List (List ℕ)) → j < length bounds → new ≡ all ++ search_name j ∷ [] →
    all ++ search_names j (drop j bounds) ≡ whole → new ++ search_names (j + 1) (drop (j + 1) bounds) ≡ whole
next_search bounds j all new whole below is e =
    ap (λ u. u ++ search_names (j + 1) (drop (j + 1) bounds)) is
    ∙ append_assoc all (search_name j ∷ []) (search_names (j + 1) (drop (j + 1) bounds))
    ∙ ap (λ i. all ++ search_name j ∷ search_names (j + 1) (drop i bounds)) (add-one j)
    ∙ ap (λ u. all ++ u) (sym (searches_from bounds j j below))
    ∙ e
