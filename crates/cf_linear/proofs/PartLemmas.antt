-- The loops over one row.
use Rattle.std.proofs.Common.{◌≡◌, ℕ, zero, suc, ◌+◌, ◌<◌, ◌≤◌, ℤ, pos, List, [], ◌∷◌, ◌++◌, Bool, true, false, not, cond, ◌||◌, ◌&&◌, ◌==◌, refl, ◌∙◌, ap, arith, get_or, length, take, drop, drop-cons, add-one}
use Rattle.std.specs.Prelude.{filter, unsigned_abs, ◌<ℤ◌}
use Rattle.std.proofs.lemmas.Int.{ints}
use Rattle.std.specs.Int.{int_div_euclid, int_rem_euclid}
use Rattle.std.proofs.Math.ListN.{drop_of_length-le}
use Rattle.std.proofs.lemmas.Bool.{cond_both}
use Rattle.std.proofs.lemmas.List.Elements.{filter-append}
use Rattle.cf_num.specs.Divisors.{gcd_of}
use Rattle.cf_linear.specs.Rows.{Row, Rises, AreBelow, IsRow, is_zero, put}
use Rattle.cf_linear.specs.Steps.{has_column, has_unknown, unknown_part, known_part, common, divided}
use Rattle.cf_linear.proofs.Canonical.{Rises-put}
use Rattle.cf_linear.proofs.MapLemmas.{put_nonzero}
use Rattle.cf_linear.proofs.Joining.{AreBelow-take}
use Rattle.cf_linear.specs.RowParts.{divides_known, divided_by}

-- ---- what is left from a place on
pub unknown_next : (us : List ℕ) (r : Row) (i : ℕ) → i < length r →
    has_unknown us (drop i r) ≡ (has_column us (get_or r i (0, pos 0)).0 || has_unknown us (drop (i + 1) r))
unknown_next us r i h = rw (add-one, drop-cons r i (0, pos 0)) refl

pub unknown_end : (us : List ℕ) (r : Row) (i : ℕ) → length r ≤ i → has_unknown us (drop i r) ≡ false
unknown_end us r i h = rw (drop_of_length-le r h) refl

pub divides_next : (g : ℤ) (r : Row) (i : ℕ) → i < length r →
    divides_known g (drop i r) ≡ ((((get_or r i (0, pos 0)).0 == 0) || is_zero (int_rem_euclid (get_or r i (0, pos 0)).1 g)) && divides_known g
    (drop (i + 1) r))
divides_next g r i h = rw (add-one, drop-cons r i (0, pos 0)) refl

pub divides_end : (g : ℤ) (r : Row) (i : ℕ) → length r ≤ i → divides_known g (drop i r) ≡ true
divides_end g r i h = rw (drop_of_length-le r h) refl

pub common_more : (us : List ℕ) (r : Row) (i : ℕ) → i < length r → has_column us (get_or r i (0, pos 0)).0 ≡ true →
    common (unknown_part us (drop i r)) ≡ gcd_of (unsigned_abs (get_or r i (0, pos 0)).1) (common (unknown_part us (drop (i + 1) r)))
common_more us r i h e = rw (add-one, drop-cons r i (0, pos 0), e) refl

pub common_same : (us : List ℕ) (r : Row) (i : ℕ) → i < length r → has_column us (get_or r i (0, pos 0)).0 ≡ false →
    common (unknown_part us (drop i r)) ≡ common (unknown_part us (drop (i + 1) r))
common_same us r i h e = rw (add-one, drop-cons r i (0, pos 0), e) refl

pub common_end : (us : List ℕ) (r : Row) (i : ℕ) → length r ≤ i → common (unknown_part us (drop i r)) ≡ 0
common_end us r i h = rw (drop_of_length-le r h) refl

-- ---- the entries up to a place
take_next : (r : Row) (i : ℕ) → i < length r → take (i + 1) r ≡ take i r ++ (get_or r i (0, pos 0) ∷ [])
take_next [] i h = absurd (omega arith)
take_next (x ∷ r) zero h = refl
take_next (x ∷ r) (suc i) h = let e = rw add-one at (take_next r i (omega arith)) in rw add-one (ap (λ y. x ∷ y) e)

filter_more : (p : ℕ × ℤ → Bool) (r : Row) (i : ℕ) → i < length r →
    filter p (take (i + 1) r) ≡ filter p (take i r) ++ cond (p (get_or r i (0, pos 0))) (get_or r i (0, pos 0) ∷ []) []
filter_more p r i h = ap (filter p) (take_next r i h) ∙ filter-append p (take i r) (get_or r i (0, pos 0) ∷ [])

AreBelow-filter : (n : ℕ) (p : ℕ × ℤ → Bool) (r : Row) → AreBelow n r → AreBelow n (filter p r)
AreBelow-filter n p [] h = tt
AreBelow-filter n p ((c, k) ∷ r) h =
    cond_both (p (c, k)) ((c, k) ∷ filter p r) (filter p r) (λ y. AreBelow n y) (λ e. (h.0, AreBelow-filter n p r h.1)) (λ e. AreBelow-filter n p r h.1)

pub unknown_more : (us : List ℕ) (r : Row) (i : ℕ) → i < length r →
    unknown_part us (take (i + 1) r) ≡ unknown_part us (take i r) ++ cond (has_column us (get_or r i (0, pos 0)).0) (get_or r i (0, pos 0) ∷ []) []
unknown_more us r i h = filter_more (λ (c, k). has_column us c) r i h

pub unknown_below : (us : List ℕ) (r : Row) (i : ℕ) → IsRow r → i < length r → AreBelow (get_or r i (0, pos 0)).0 (unknown_part us (take i r))
unknown_below us r i p h = AreBelow-filter _ (λ (c, k). has_column us c) (take i r) (AreBelow-take r 0 i p.0 h)

pub known_more : (us : List ℕ) (r : Row) (i : ℕ) → i < length r →
    known_part us (take (i + 1) r) ≡ known_part us (take i r) ++ cond (not (has_column us (get_or r i (0, pos 0)).0)) (get_or r i (0, pos 0) ∷ []) []
known_more us r i h = filter_more (λ (c, k). not (has_column us c)) r i h

pub known_below : (us : List ℕ) (r : Row) (i : ℕ) → IsRow r → i < length r → AreBelow (get_or r i (0, pos 0)).0 (known_part us (take i r))
known_below us r i p h = AreBelow-filter _ (λ (c, k). not (has_column us c)) (take i r) (AreBelow-take r 0 i p.0 h)

divided-append : (g : ℕ) (r s : Row) → divided g (r ++ s) ≡ divided g r ++ divided g s
divided-append g [] s = refl
divided-append g ((c, k) ∷ r) s =
    let q = int_div_euclid k (pos g) in
    rw (divided-append g r s) (cond_both (is_zero q) _ _ (λ y. put c q (divided g r ++ divided g s) ≡ y ++ divided g s) (λ e. rw e refl) (λ e. rw e refl))

pub AreBelow-divided : (n g : ℕ) (r : Row) → AreBelow n r → AreBelow n (divided g r)
AreBelow-divided n g [] h = tt
AreBelow-divided n g ((c, k) ∷ r) h =
    cond_both (is_zero (int_div_euclid k (pos g))) (divided g r) ((c, int_div_euclid k (pos g)) ∷ divided g r) (λ y. AreBelow n y)
    (λ e. AreBelow-divided n g r h.1) (λ e. (h.0, AreBelow-divided n g r h.1))

size_is : (g : ℤ) → pos 0 <ℤ g → pos (unsigned_abs g) ≡ g
size_is g h = omega (arith, ints)

pub divided_more : (g : ℤ) (r : Row) (i : ℕ) → pos 0 <ℤ g → i < length r →
    divided_by g (take (i + 1) r) ≡ divided_by g (take i r) ++ put (get_or r i (0, pos 0)).0 (int_div_euclid (get_or r i (0, pos 0)).1 g) []
divided_more g r i p h =
    ap (divided_by g) (take_next r i h) ∙ divided-append (unsigned_abs g) (take i r) (get_or r i (0, pos 0) ∷ []) ∙
    ap (λ d. divided_by g (take i r) ++ put (get_or r i (0, pos 0)).0 (int_div_euclid (get_or r i (0, pos 0)).1 d) []) (size_is g p)

pub divided_below : (g : ℤ) (r : Row) (i : ℕ) → IsRow r → i < length r → AreBelow (get_or r i (0, pos 0)).0 (divided_by g (take i r))
divided_below g r i p h = AreBelow-divided _ (unsigned_abs g) (take i r) (AreBelow-take r 0 i p.0 h)

pub Rises-divided : (c g : ℕ) (r : Row) → Rises c r → Rises c (divided g r)
Rises-divided c g [] h = tt
Rises-divided c g ((d, k) ∷ r) h = Rises-put c d (int_div_euclid k (pos g)) (divided g r) h.0 (Rises-divided (suc d) g r h.2)

pub part_below : (n : ℕ) (us : List ℕ) (r : Row) → AreBelow n r → AreBelow n (unknown_part us r)
part_below n us r h = AreBelow-filter n (λ (c, k). has_column us c) r h

-- an entry is not 0, so it is put
pub entry_put : (r : Row) (n i : ℕ) → Rises n r → i < length r → put (get_or r i (0, pos 0)).0 (get_or r i (0, pos 0)).1 [] ≡ get_or r i (0, pos 0) ∷ []
entry_put [] n i p h = absurd (omega arith)
entry_put ((d, k) ∷ r) n zero p h = put_nonzero d k p.1
entry_put ((d, k) ∷ r) n (suc i) p h = entry_put r (suc d) i p.2 (omega arith)
