-- The texts of a shelf in memory, and what each call leaves of the objects there.
use Rattle.std.proofs.Common.{◌≡◌, ℕ, List, [], ◌∷◌, Some, None, refl, arith, codes}
use Rattle.cf_io.specs.Memory.{SourceState, source_failed, source_gave, SinkState, sink_failed, sink_took, ShelfState, shelf_failed, shelf_refused, shelf_fetched, shelf_gave}
use Rattle.cf_io.specs.Texts.{text_at, text_under}

abbrev names : List (List ℕ)
names = codes "x" ∷ codes "y" ∷ codes "x" ∷ []

abbrev texts : List (List ℕ)
texts = codes "1" ∷ codes "2" ∷ codes "3" ∷ []

text-at_a_place : (text_at texts 1 ≡ codes "2") × (text_at texts 3 ≡ [])
text-at_a_place = (refl, refl)

-- the first of two texts under one name
first-under_a_name : (text_under names texts (codes "x") ≡ Some (codes "1")) × (text_under names texts (codes "y") ≡ Some (codes "2"))
    × (text_under names texts (codes "z") ≡ None)
first-under_a_name = (refl, refl, refl)

-- ---- a source that has "abc" left, behind 5 calls and 2 faults
abbrev source : SourceState
source = record { left = codes "abc"; fails = 9 ∷ []; calls = 5; faults = 2 }

read-failed : ((source_failed source).left ≡ codes "abc") × ((source_failed source).fails ≡ 9 ∷ []) × ((source_failed source).calls ≡ 6)
    × ((source_failed source).faults ≡ 3)
read-failed = (refl, refl, omega arith, omega arith)

two-read : ((source_gave source 2).left ≡ codes "c") × ((source_gave source 2).fails ≡ 9 ∷ []) × ((source_gave source 2).calls ≡ 6)
    × ((source_gave source 2).faults ≡ 2)
two-read = (refl, refl, omega arith, refl)

-- ---- a sink that holds "x" and has room for 7 bytes
abbrev sink : SinkState
sink = record { held = codes "x"; room = 7; fails = 9 ∷ []; calls = 5; faults = 2 }

write-failed : ((sink_failed sink).held ≡ codes "x") × ((sink_failed sink).room ≡ 7) × ((sink_failed sink).calls ≡ 6) × ((sink_failed sink).faults ≡ 3)
write-failed = (refl, refl, omega arith, omega arith)

two-written : ((sink_took sink (codes "abc") 2).held ≡ codes "xab") × ((sink_took sink (codes "abc") 2).room ≡ 5)
    × ((sink_took sink (codes "abc") 2).calls ≡ 6) × ((sink_took sink (codes "abc") 2).faults ≡ 2)
two-written = (refl, refl, omega arith, refl)

-- ---- a shelf of these texts
abbrev shelf : ShelfState
shelf = record { names = names; texts = texts; left = codes "abc"; fails = 9 ∷ []; calls = 5; faults = 2; fetches = 4 }

shelf-read_failed : ((shelf_failed shelf).left ≡ codes "abc") × ((shelf_failed shelf).calls ≡ 6) × ((shelf_failed shelf).faults ≡ 3)
    × ((shelf_failed shelf).fetches ≡ 4)
shelf-read_failed = (refl, omega arith, omega arith, refl)

-- a fetch that failed counts as one
fetch-failed : ((shelf_refused shelf).left ≡ codes "abc") × ((shelf_refused shelf).calls ≡ 6) × ((shelf_refused shelf).faults ≡ 3)
    × ((shelf_refused shelf).fetches ≡ 5)
fetch-failed = (refl, omega arith, omega arith, omega arith)

text-fetched : ((shelf_fetched shelf (codes "12")).left ≡ codes "12") × ((shelf_fetched shelf (codes "12")).calls ≡ 6)
    × ((shelf_fetched shelf (codes "12")).faults ≡ 2) × ((shelf_fetched shelf (codes "12")).fetches ≡ 5)
text-fetched = (refl, omega arith, refl, omega arith)

two-read_of_it : ((shelf_gave shelf 2).left ≡ codes "c") × ((shelf_gave shelf 2).calls ≡ 6) × ((shelf_gave shelf 2).faults ≡ 2)
    × ((shelf_gave shelf 2).fetches ≡ 4)
two-read_of_it = (refl, omega arith, refl, refl)
