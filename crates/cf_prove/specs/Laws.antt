-- What the steps of traces certify.
use Rattle.cf_choose.specs.Laws.{IsUnrefused}
use Rattle.cf_tree.specs.ChooseTree.{ChooseTree}
use Rattle.cf_cert.specs.Certifying.{Certifies}
use Rattle.cf_prove.specs.Tracing.{traced_block}

-- the steps of the traces certify each choose that no limit refuses
abbrev pub TracedCertifies : Type 0
TracedCertifies = (q : ChooseTree) → IsUnrefused q.scope q.outputs q.relation → Certifies q (traced_block q)
