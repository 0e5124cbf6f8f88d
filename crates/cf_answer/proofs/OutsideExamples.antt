-- What is told of files, in which order, and how counts of faults rise.
use Rattle.std.proofs.Common.{◌≡◌, ℕ, List, [], ◌∷◌, Option, Some, None, refl, sym, ap, arith, codes}
use Rattle.std.specs.Prelude.{if◌then◌else◌, length}
use Rattle.std.specs.Str.{bytes_eq}
use Rattle.cf_io.specs.Limits.{input_limit}
use Rattle.cf_answer.specs.Ends.{answered_lines, behind_lines}
use Rattle.cf_answer.specs.Limits.{input_limit_of, edition_for}
use Rattle.cf_answer.specs.Outside.{AreTold, AreTexts, Counts, one_past}
use Rattle.cf_tree.specs.declared.base.Edition.TheVariants.{Two, Three}

-- under `a` and `b` stand `1` and `2`; what stands under any other name is not told
abbrev texts : List ℕ → Option (List ℕ)
texts name = if bytes_eq name (codes "a") then Some (codes "1") else (if bytes_eq name (codes "b") then Some (codes "2") else None)

abbrev names : List (List ℕ)
names = codes "a" ∷ codes "b" ∷ []

abbrev first_byte : List ℕ → ℕ
first_byte [] = 0
first_byte (b ∷ bytes) = b

-- ---- files
in-order : AreTexts texts names (codes "1" ∷ codes "2" ∷ [])
in-order = (refl, (refl, tt))

other-order : AreTexts texts names (codes "2" ∷ codes "1" ∷ []) → ⊥
other-order h = let e : 50 ≡ 49 = sym (ap first_byte h.0) in omega (arith, e)

one-too_few : AreTexts texts names (codes "1" ∷ []) → ⊥
one-too_few h = h.1

one-too_many : AreTexts texts names (codes "1" ∷ codes "2" ∷ codes "3" ∷ []) → ⊥
one-too_many h = h.1.1

not-told : AreTexts texts (codes "c" ∷ []) (codes "3" ∷ [])
not-told = (tt, tt)

other-bytes : AreTold (Some (codes "1")) (codes "12") → ⊥
other-bytes h = let e : 1 ≡ 2 = ap length h in omega (arith, e)

-- ---- counts
stays : Counts ⊥ 3 3
stays = record { same = λ none. refl; rose = λ failed. absurd failed }

stays-but_failed : Counts (Unit {0}) 3 3 → ⊥
stays-but_failed c = omega (arith, c.rose tt)

rises-unfailed : Counts ⊥ 3 4 → ⊥
rises-unfailed c = omega (arith, c.same (λ h. h))

rises-by_one : Counts (Unit {0}) 3 4
rises-by_one = record { same = λ none. absurd (none tt); rose = λ failed. refl }

rises-by_two : Counts (Unit {0}) 3 5 → ⊥
rises-by_two c = omega (arith, c.rose tt)

-- ---- lines of an input past its limit of two bytes, and of one without a limit
long-answered : (answered_lines (Some 2) (codes "a\nb") ≡ codes "a" ∷ []) × (answered_lines (Some 3) (codes "a\nb") ≡ codes "a" ∷ codes "b" ∷ [])
    × (answered_lines None (codes "a\nb") ≡ codes "a" ∷ codes "b" ∷ [])
long-answered = (refl, refl, refl)

long-unclosed : (behind_lines (Some 2) (codes "a\nb") (codes "# f 1\n") ≡ []) × (behind_lines (Some 3) (codes "a\nb") (codes "# f 1\n") ≡ codes "# f 1\n")
    × (behind_lines None (codes "a\nb") (codes "# f 1\n") ≡ codes "# f 1\n")
long-unclosed = (refl, refl, refl)

-- ---- limits by edition
limits : (input_limit_of Two ≡ Some input_limit) × (input_limit_of Three ≡ None)
limits = (refl, refl)

edition-of_the_first : (edition_for [] ≡ Two) × (edition_for (codes "comfusy 3\n" ∷ codes "1" ∷ []) ≡ Three) ×
    (edition_for (codes "1" ∷ codes "comfusy 3\n" ∷ []) ≡ Two)
edition-of_the_first = (refl, refl, refl)

one-past : (one_past (Some 3) ≡ Some 4) × (one_past None ≡ None)
one-past = (refl, refl)
