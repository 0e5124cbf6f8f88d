-- The first systems of a relation whose counts are within the limits.
use Rattle.std.specs.Prelude.{◌≡◌, true, false, map, Result, Ok, Err, Vec}
use Rattle.std.specs.Global.{Global}
use Rattle.cf_tree.specs.RelTree.{RelTree}
use Rattle.cf_linear.specs.declared.refusal.RowFault.{RowFault}
use Rattle.cf_linear.specs.declared.refusal.RowFault.TheVariants.{Past as PastLimit, NoMemory as NoRoom}
use Rattle.cf_linear.specs.declared.system.System.{System as DeclaredSystem}
use Rattle.cf_linear.specs.Layout.{Layout}
use Rattle.cf_linear.specs.Cases.{negation_normal, first_systems, written_passes}
use Rattle.cf_linear.specs.Views.{system_of}

-- the first systems of all cases, or Past exactly where a written or guard row passes the limit
abbrev pub SystemsAre : Layout → RelTree → Result (Vec DeclaredSystem Global) RowFault → Type 0
SystemsAre l rel (Ok systems) = (written_passes l (negation_normal true rel) ≡ false) × (map system_of systems.items ≡ first_systems l rel)
SystemsAre l rel (Err PastLimit) = written_passes l (negation_normal true rel) ≡ true
SystemsAre l rel (Err NoRoom) = Unit {0}
