-- Forms that are not linear, as the program has them.
use Rattle.std.specs.Prelude.{◌≡◌, ℕ, List, [], ◌∷◌, map, Result, Ok, Err, Vec}
use Rattle.std.specs.Global.{Global}
use Rattle.cf_program.specs.Linear.{Cause, a_choose, a_match, a_set_literal, a_product_with_inputs, a_product_of_unknowns, a_call, Found, linear, bends}
use Rattle.cf_help.specs.HeldView.{held_seen}
use Rattle.cf_help.specs.declared.bend.Bend.{Bend}
use Rattle.cf_help.specs.declared.bend.BendFault.{BendFault}
use Rattle.cf_help.specs.declared.bend.BendFault.TheVariants as fault
use Rattle.cf_help.specs.declared.bend.Root.{Root}
use Rattle.cf_help.specs.declared.bend.Root.TheVariants.{Choose, Match, SetLiteral, Inputs, Unknowns}
use Rattle.cf_help.specs.declared.held.Held.{Held as DeclaredHeld}

abbrev pub root_seen : Root → Cause
root_seen Choose = a_choose
root_seen Match = a_match
root_seen SetLiteral = a_set_literal
root_seen Inputs = a_product_with_inputs
root_seen Unknowns = a_product_of_unknowns

-- a cause within calls of these functions, the innermost first
abbrev pub within_calls : Cause → List (List ℕ) → Cause
within_calls c [] = c
within_calls c (f ∷ fs) = within_calls (a_call f c) fs

abbrev pub bend_seen : Bend → Found
bend_seen b = bends b.place (within_calls (root_seen b.root) b.names.items)

abbrev pub Tells : BendFault → Found → Type 0
Tells (fault.Bends b) f = f ≡ bend_seen b
Tells fault.NoMemory f = Unit {0}

-- what is answered is what is found, unless memory ran out
abbrev pub FoundAnswer : Result (Vec DeclaredHeld Global) BendFault → Found → Type 0
FoundAnswer (Ok hs) f = f ≡ linear (map held_seen hs.items)
FoundAnswer (Err e) f = Tells e f
