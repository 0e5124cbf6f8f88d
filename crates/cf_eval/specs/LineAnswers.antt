-- What a reader of lines tells.
use Rattle.std.specs.Prelude.{◌≡◌, ℕ, List, Result, Ok, Err, Vec}
use Rattle.std.specs.Global.{Global}
use Rattle.cf_tree.specs.Values.{Value}
use Rattle.cf_tree.specs.declared.base.Base.{Base}
use Rattle.cf_eval.specs.Seen.{plains}
use Rattle.cf_eval.specs.Spelling.{SpellsValues}
use Rattle.cf_eval.specs.declared.fault.LineFault.{LineFault}
use Rattle.cf_eval.specs.declared.fault.LineFault.TheVariants as fault
use Rattle.cf_eval.specs.declared.value.Value.{Value as RunValue}

-- the only values that the line spells, or that it spells none
abbrev pub LineAnswer : ℕ → List Base → List ℕ → Result (Vec RunValue Global) LineFault → Type 0
LineAnswer limit bases line (Ok v) = SpellsValues limit bases line (plains v.items) ×
    ((vs : List Value) → SpellsValues limit bases line vs → vs ≡ plains v.items)
LineAnswer limit bases line (Err fault.BadInput) = (vs : List Value) → ¬ SpellsValues limit bases line vs
LineAnswer limit bases line (Err fault.NoMemory) = Unit {0}
