-- Names of columns as the entries of a map.
use Rattle.std.proofs.Common.{◌≡◌, ℕ, ◌==◌, [], ◌∷◌, Some, None, refl, sym, ap, ◌∙◌}
use Rattle.std.specs.Prelude.{nat_eq}
use Rattle.std.specs.Map.{lookup}
use Rattle.std.proofs.lemmas.Bool.{eqb-true, eqb-false}
use Rattle.indexmap.specs.IndexMap.{insert_entry}
use Rattle.cf_linear.specs.Arm.{ColumnLevels, level_of}
use Rattle.cf_linear.proofs.BoolLemmas.{on_bool}
use Rattle.cf_linear.proofs.MapLemmas.{eq_flip}
use Rattle.cf_setwit.specs.Naming.{IsNamed}

pub level_from_lookup : (names : ColumnLevels) (c x : ℕ) → lookup (nat_eq c) names ≡ Some x → level_of names c ≡ x
level_from_lookup [] c x e = cc
level_from_lookup ((d, y) ∷ names) c x e = on_bool (d == c)
    (λ t. let q : Some y ≡ Some x = rw (eq_flip c d, t) at e in rw t (cc))
    (λ t. let q : lookup (nat_eq c) names ≡ Some x = rw (eq_flip c d, t) at e in rw t (level_from_lookup names c x q))

pub no_level_from_lookup : (names : ColumnLevels) (c : ℕ) → lookup (nat_eq c) names ≡ None → level_of names c ≡ 0
no_level_from_lookup [] c e = refl
no_level_from_lookup ((d, y) ∷ names) c e = on_bool (d == c)
    (λ t. let q : Some y ≡ None = rw (eq_flip c d, t) at e in cc)
    (λ t. let q : lookup (nat_eq c) names ≡ None = rw (eq_flip c d, t) at e in rw t (no_level_from_lookup names c q))

pub level_inserted : (names : ColumnLevels) (c x : ℕ) → IsNamed names c x (insert_entry nat_eq names c x)
level_inserted [] c x d = refl
level_inserted ((e, y) ∷ names) c x d = on_bool (e == c)
    (λ t.
    let s : e ≡ c = eqb-true e c t in
    let u : e == d ≡ c == d = ap (λ z. z == d) s in
    rw (eq_flip c e, t, u) (on_bool (c == d) (λ v. rw v refl) (λ v. rw v refl)))
    (λ t. rw (eq_flip c e, t) (on_bool (e == d)
    (λ u. on_bool (c == d)
    (λ v. absurd (eqb-false e c t (eqb-true e d u ∙ sym (eqb-true c d v))))
    (λ v. rw (u, v) refl))
    (λ u. rw u (level_inserted names c x d))))
