-- Lines with a text before each, byte by byte.
use Rattle.std.proofs.Common.{◌≡◌, ◌==◌, ℕ, Bool, true, false, List, [], ◌∷◌, ◌++◌, if◌then◌else◌, append_assoc, refl, sym}
use Rattle.cf_answer.specs.Fronts.{fronted, line_from}

-- the rest of the lines, where a line begins or not
abbrev pub rest_of : Bool → List ℕ → List ℕ → List ℕ
rest_of true front bs = fronted front bs
rest_of false front bs = line_from front bs

by_end : (b : Bool) (front bs : List ℕ) → (if b then fronted front bs else line_from front bs) ≡ rest_of b front bs
by_end true front bs = refl
by_end false front bs = refl

pub one_byte : (begins : Bool) (front : List ℕ) (b : ℕ) (bs : List ℕ) →
    rest_of begins front (b ∷ bs) ≡ ((if begins then front else []) ++ b ∷ []) ++ rest_of (b == 10) front bs
one_byte true front b bs = rw (by_end (b == 10) front bs) (sym (append_assoc front (b ∷ []) (rest_of (b == 10) front bs)))
one_byte false front b bs = rw (by_end (b == 10) front bs) refl

-- without a text they are as they were
ends : (e : Bool) (b : ℕ) (bs : List ℕ) → fronted [] bs ≡ bs → line_from [] bs ≡ bs →
    b ∷ (if e then fronted [] bs else line_from [] bs) ≡ b ∷ bs
ends true b bs f l = rw f refl
ends false b bs f l = rw l refl

mutual
  pub fronted_nothing : (bs : List ℕ) → fronted [] bs ≡ bs
  fronted_nothing [] = refl
  fronted_nothing (b ∷ bs) = ends (b == 10) b bs (fronted_nothing bs) (line_nothing bs)

  line_nothing : (bs : List ℕ) → line_from [] bs ≡ bs
  line_nothing [] = refl
  line_nothing (b ∷ bs) = ends (b == 10) b bs (fronted_nothing bs) (line_nothing bs)
