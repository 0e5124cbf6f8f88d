-- How long the name of a pass may be, on both sides of each bound; and what a call of a pass counts.
use Rattle.std.proofs.Common.{ℕ, true, [], ◌∷◌, refl, arith}
use Rattle.std.specs.Prelude.{codes}
use Rattle.cf_pass.specs.Passes.{IsPassName, Told, HasTurned, HaveTurned}

one_byte : IsPassName (codes "a")
one_byte = (omega arith, omega arith, refl)

longest_name : IsPassName (codes "abcdefghijklmnopqrstuvwxyz-01234")
longest_name = (omega arith, omega arith, refl)

one_byte_more : IsPassName (codes "abcdefghijklmnopqrstuvwxyz-012345") → ⊥
one_byte_more h = omega (arith, h.1)

-- the bytes beside the allowed ones
beside_bytes : (IsPassName (96 ∷ []) → ⊥) × (IsPassName (123 ∷ []) → ⊥) × (IsPassName (47 ∷ []) → ⊥) × (IsPassName (58 ∷ []) → ⊥) × (IsPassName (44 ∷ []) → ⊥) ×
    (IsPassName (46 ∷ []) → ⊥)
beside_bytes = ((λ h. cc (h.2)), (λ h. cc (h.2)), (λ h. cc (h.2)), (λ h. cc (h.2)), (λ h. cc (h.2)), λ h. cc (h.2))

-- ---- turns
abbrev pass : ℕ → ℕ → Told
pass tally turns = record { name = codes "fold"; tally = tally; turns = turns; makes = λ n c. c; whole = true }

one_turn_each : HaveTurned (pass 3 0 ∷ pass 0 5 ∷ []) (pass 3 1 ∷ pass 2 6 ∷ [])
one_turn_each = (record { name = refl; tally = omega arith; turns = refl }, (record { name = refl; tally = omega arith; turns = refl }, tt))

last_turn_stays : HasTurned (pass 0 18446744073709551615) (pass 0 18446744073709551615)
last_turn_stays = record { name = refl; tally = omega arith; turns = refl }

not_called : HaveTurned (pass 3 0 ∷ []) (pass 3 0 ∷ []) → ⊥
not_called h = cc (h.0.turns)

called_twice : HaveTurned (pass 3 0 ∷ []) (pass 3 2 ∷ []) → ⊥
called_twice h = cc (h.0.turns)

second_fell : HaveTurned (pass 3 0 ∷ pass 1 0 ∷ []) (pass 3 1 ∷ pass 0 1 ∷ []) → ⊥
second_fell h = omega (arith, h.1.0.tally)

one_fewer : HaveTurned (pass 3 0 ∷ pass 1 0 ∷ []) (pass 3 1 ∷ []) → ⊥
one_fewer h = h.1

one_more : HaveTurned (pass 3 0 ∷ []) (pass 3 1 ∷ pass 1 1 ∷ []) → ⊥
one_more h = h.1
