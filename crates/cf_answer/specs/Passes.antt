-- What becomes of the passes, and the lines of their tallies.
use Rattle.std.specs.Prelude.{◌≡◌, ◌⊎◌, ℕ, Bool, true, false, List, [], ◌∷◌, flat_map, codes, decimal, if◌then◌else◌}
use Rattle.std.specs.List.{concat}
use Rattle.cf_pass.specs.Passes.{Told, HaveTurned}
use Rattle.cf_words.specs.Commands.{Command}
use Rattle.cf_answer.specs.Commands.{tells_tallies}

-- they were called once each, by a command that calls them; else they tell what they told
abbrev pub AreCalled : Bool → List Told → List Told → Type 0
AreCalled true given last = HaveTurned given last
AreCalled false given last = last ≡ given

-- a command that calls them has called them once each, or none of them; one that does not has called none
abbrev pub ArePassed : Bool → List Told → List Told → Type 0
ArePassed true given last = HaveTurned given last ⊎ (last ≡ given)
ArePassed false given last = last ≡ given

-- those that rewrite what is compiled
abbrev pub applied : Bool → List Told → List Told
applied calls passes = if calls then passes else []

-- # name tally
abbrev pub tally_text : List ℕ → ℕ → List ℕ
tally_text name tally = concat (codes "# " ∷ name ∷ codes " " ∷ decimal tally ∷ codes "\n" ∷ [])

-- the line of the tally of a pass
abbrev pub tally_line : Told → List ℕ
tally_line p = tally_text p.name p.tally

-- the lines of the tallies, if they are asked for
abbrev pub closing_lines : Bool → List Told → List ℕ
closing_lines stats passes = if stats then flat_map tally_line passes else []

-- what a command that is done writes behind all else
abbrev pub closing : Command → List Told → List ℕ
closing command passes = closing_lines (tells_tallies command) passes
