-- The words that texts of all kinds share.
use Rattle.std.specs.Prelude.{ℕ, Bool, true, false, List, codes}

abbrev pub truth_text : Bool → List ℕ
truth_text true = codes "true"
truth_text false = codes "false"
