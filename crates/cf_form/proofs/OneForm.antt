-- A source has one program of the forms of language 2, or is refused one, and not both.
use Rattle.std.proofs.Common.{◌≡◌, ◌∙◌, ap, sym, subst, refl, ℕ, suc, ◌≤◌, true, List, [], ◌∷◌, All, Some, None, arith}
use Rattle.std.specs.Prelude.{nat_le}
use Rattle.std.proofs.lemmas.Bool.Decides.{nat_tests}
use Rattle.std.proofs.lemmas.List.Elements.{All-head, All-tail}
use Rattle.cf_program.specs.Checked.{TypedTree}
use Rattle.cf_program.specs.Size.{weights, depths, first_above}
use Rattle.cf_program.specs.declared.linearity.Linearity.{Linearity}
use Rattle.cf_form.specs.FormAnswers.{IsFormOf, IsUnformed}
use Rattle.cf_form.specs.declared.fault.FormFault.{FormFault}
use Rattle.cf_form.specs.declared.fault.FormFault.TheVariants as faults

pub one_form : (how : Linearity) (source a b : TypedTree) → IsFormOf how source a → IsFormOf how source b → a ≡ b
one_form how source a b f g =
    let defs : a.defs ≡ b.defs = f.defs ∙ sym g.defs in
    let main : a.main ≡ b.main = f.main ∙ sym g.main in
    ap (λ ds. record { defs = ds; main = a.main }) defs ∙ ap (λ m. record { defs = b.defs; main = m }) main

at_most : (limit n : ℕ) → n ≤ limit → nat_le n limit ≡ true
at_most limit n h = grind (arith, nat_tests)

-- where none is above the limit, there is no first
none_above : (limit i : ℕ) (ns : List ℕ) → All (λ n. n ≤ limit) ns → first_above limit i ns ≡ None
none_above limit i [] h = refl
none_above limit i (n ∷ ns) h = rw (at_most limit n (All-head (λ n. n ≤ limit) n ns h)) (none_above limit (suc i) ns (All-tail (λ n. n ≤ limit) n ns h))

pub never_unformed : (how : Linearity) (source typed : TypedTree) (e : FormFault) → IsFormOf how source typed → IsUnformed source.defs e → ⊥
never_unformed how source typed (faults.Cases n k) f h = let none = f.narrow in cc
never_unformed how source typed (faults.Weight n k) f (narrow, h) =
    let none : first_above 1000000 0 (weights typed.defs) ≡ None = none_above 1000000 0 (weights typed.defs) f.typed.light in
    let there : first_above 1000000 0 (weights typed.defs) ≡ Some (n, k) = subst (λ ds. first_above 1000000 0 (weights ds) ≡ Some (n, k)) (sym f.defs) h in cc
never_unformed how source typed (faults.Depth n k) f (narrow, light, h) =
    let none : first_above 200 0 (depths typed.defs) ≡ None = none_above 200 0 (depths typed.defs) f.typed.shallow in
    let there : first_above 200 0 (depths typed.defs) ≡ Some (n, k) = subst (λ ds. first_above 200 0 (depths ds) ≡ Some (n, k)) (sym f.defs) h in cc
never_unformed how source typed faults.NoMemory f h = h
