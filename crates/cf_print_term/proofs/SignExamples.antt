-- In each language signs that look alike bind alike, so a sign in a text is one token.
use Rattle.std.specs.Prelude.{◌≡◌, Bool, true, not, ◌&&◌, ◌||◌, nat_eq, List, [], ◌∷◌, ◌++◌, refl, if◌then◌else◌}
use Rattle.std.specs.List.{list_all}
use Rattle.std.specs.Str.{bytes_eq}
use Rattle.cf_print_term.specs.Marks.{mark_text}
use Rattle.cf_print_term.specs.declared.table.Checked.{Checked}
use Rattle.cf_print_term.specs.declared.table.Divided.{Divided}
use Rattle.cf_print_term.specs.declared.table.Form.{Form}
use Rattle.cf_print_term.specs.declared.table.Form.TheVariants.{Signed, Fitted, Called, Nested}
use Rattle.cf_print_term.specs.declared.table.Orders.{Orders}
use Rattle.cf_print_term.specs.declared.table.SetForms.{SetForms}
use Rattle.cf_print_term.specs.declared.table.Sign.{Sign}
use Rattle.cf_print_term.specs.declared.table.Table.{Table}
use Rattle.cf_print_term.specs.declared.table.TheConstants.{PYTHON, C as C_TABLE, JAVASCRIPT, RUST}

abbrev of_form : Form → List Sign
of_form (Signed s) = s ∷ []
of_form (Fitted c s) = s ∷ []
of_form (Called c) = []
of_form (Nested c) = []

abbrev of_checked : Checked → List Sign
of_checked o = of_form o.free ++ of_form o.checked

abbrev of_divided : Divided → List Sign
of_divided o = of_form o.down ++ of_form o.natural

abbrev of_orders : Orders → List Sign
of_orders o = o.eq ∷ o.ne ∷ o.lt ∷ o.le ∷ o.gt ∷ o.ge ∷ []

abbrev of_sets : SetForms → List Sign
of_sets o = of_form o.union ++ of_form o.inter ++ of_form o.diff ++ of_form o.subset ++ of_form o.same ++ of_form o.other

-- the signs between two parts
abbrev between_signs : Table → List Sign
between_signs t =
    (t.and ∷ t.or ∷ t.rest ∷ []) ++ of_orders t.orders ++ of_checked t.sum ++ of_checked t.difference ++ of_checked t.product ++
    of_divided t.quotient ++ of_divided t.remainder ++ of_form t.least ++ of_form t.greatest ++ of_sets t.sets

-- the signs before a part
abbrev before_signs : Table → List Sign
before_signs t = t.minus ∷ t.not ∷ []

abbrev look_alike : Sign → Sign → Bool
look_alike s u = bytes_eq (mark_text s.text) (mark_text u.text)

abbrev bind_alike : Sign → Sign → Bool
bind_alike s u = nat_eq s.level u.level && nat_eq s.more u.more && (if s.chains then u.chains else not u.chains)

abbrev agree : List Sign → Bool
agree ss = list_all (λ s. list_all (λ u. not (look_alike s u) || bind_alike s u) ss) ss

python : agree (between_signs PYTHON) && agree (before_signs PYTHON) ≡ true
python = refl

in_c : agree (between_signs C_TABLE) && agree (before_signs C_TABLE) ≡ true
in_c = refl

javascript : agree (between_signs JAVASCRIPT) && agree (before_signs JAVASCRIPT) ≡ true
javascript = refl

rust : agree (between_signs RUST) && agree (before_signs RUST) ≡ true
rust = refl
