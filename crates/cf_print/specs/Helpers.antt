-- Texts that stand somewhere or not: helpers stand before what calls them.
use Rattle.std.specs.Prelude.{ℕ, Bool, true, false, not, ◌&&◌, ◌||◌, List, [], ◌∷◌, ◌++◌, if◌then◌else◌}
use Rattle.cf_print.specs.Names.{begins, stands_in_names}

abbrev pub when : Bool → List ℕ → List ℕ
when true t = t
when false t = []

-- ---- helpers: those that what stands behind them calls
-- whether a text calls something by this key, which is no end of a longer name, behind a part of a name or behind none
abbrev pub calls_behind : Bool → List ℕ → List ℕ → Bool
calls_behind in_name key [] = false
calls_behind in_name key (x ∷ text) = (not in_name && begins key (x ∷ text)) || calls_behind (stands_in_names x) key text

abbrev pub calls : List ℕ → List ℕ → Bool
calls key text = calls_behind false key text

unfoldable pub with_helper : List ℕ → List ℕ → List ℕ → List ℕ
with_helper key helper text = if calls key text then helper ++ text else text
