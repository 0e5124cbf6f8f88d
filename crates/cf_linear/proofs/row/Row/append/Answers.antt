use Rattle.std.proofs.Common.{sym, ◌∙◌, ap, ◌++◌, ◌∷◌, [], subst, ◌≡◌, ◌≢◌, pos, of_z}
use Rattle.std.specs.Int.{w128}
use Rattle.cf_linear.specs.Rows.{IsRow}
use Rattle.cf_linear.proofs.MapLemmas.{back, insert_last, put_nonzero, IsRow-append}
use Rattle.cf_linear.proofs.row.Row.append.Goals as goal

appended : (c : goal.In_ok-insert) → c.insert.new.self.entries ≡ c.args.self.now ++ (c.args.column, c.args.k) ∷ []
appended c = rw (c.self.view_is, back c.args.k c.requires.k_in) at c.in_ok-insert.ensures.entries ∙
    insert_last c.args.self.now c.args.column c.args.k c.requires.after

nonzero : (c : goal.In_ok-insert) → c.args.k ≢ pos 0
nonzero c e = c.if-k-ne0.true (ap (λ x. of_z w128 x) e)

pub invariant_of-self : goal.invariant_of-self
invariant_of-self c =
    subst IsRow (sym (appended c)) (IsRow-append c.args.self.now c.args.column c.args.k (subst IsRow c.self.view_is c.self.invariant) c.requires.after
    c.requires.k_in (nonzero c))

pub returns-in_ok-insert-clause-value : goal.returns-in_ok-insert-clause-value
returns-in_ok-insert-clause-value c = appended c ∙ ap (λ x. c.args.self.now ++ x) (sym (put_nonzero c.args.column c.args.k (nonzero c)))
