-- The tests on bases decide whether they are equal.
use Rattle.std.proofs.Common.{◌≡◌, Bool, true, false, ◌&&◌, List, [], ◌∷◌, refl}
use Rattle.cf_tree.specs.declared.base.Base.{Base}
use Rattle.cf_tree.specs.declared.base.Base.TheVariants.{Int, Bool as Truth, Set}
use Rattle.cf_tree.specs.Bases.{same_base, same_bases}

pub both : (x y : Bool) → (x && y) ≡ true → (x ≡ true) × (y ≡ true)
both true y e = (refl, e)
both false y e = cc

pub both_true : (x y : Bool) → x ≡ true → y ≡ true → (x && y) ≡ true
both_true x y e f = rw (e, f) refl

pub same_base_is : (b c : Base) → same_base b c ≡ true → b ≡ c
same_base_is Int Int h = refl
same_base_is Int Truth h = cc
same_base_is Int Set h = cc
same_base_is Truth Int h = cc
same_base_is Truth Truth h = refl
same_base_is Truth Set h = cc
same_base_is Set Int h = cc
same_base_is Set Truth h = cc
same_base_is Set Set h = refl

pub same_base_self : (b : Base) → same_base b b ≡ true
same_base_self Int = refl
same_base_self Truth = refl
same_base_self Set = refl

pub same_bases_is : (bs cs : List Base) → same_bases bs cs ≡ true → bs ≡ cs
same_bases_is [] [] h = refl
same_bases_is [] (c ∷ cs) h = cc
same_bases_is (b ∷ bs) [] h = cc
same_bases_is (b ∷ bs) (c ∷ cs) h =
    let p : (same_base b c ≡ true) × (same_bases bs cs ≡ true) = both (same_base b c) (same_bases bs cs) h in
    let e : b ≡ c = same_base_is b c p.0 in
    let f : bs ≡ cs = same_bases_is bs cs p.1 in
    cc

pub same_bases_self : (bs : List Base) → same_bases bs bs ≡ true
same_bases_self [] = refl
same_bases_self (b ∷ bs) = both_true (same_base b b) (same_bases bs bs) (same_base_self b) (same_bases_self bs)
