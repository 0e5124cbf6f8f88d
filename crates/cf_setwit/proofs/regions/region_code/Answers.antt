use Rattle.cf_setwit.proofs.regions.region_code.Goals as goal

pub returns : goal.returns
returns c =
    rw (
      c.inter_of_all-common.ensures,
      c.in_ok-variables.ensures,
      c.deref-3.ensures.value,
      c.in_ok-inside.ensures,
      c.deref.ensures.value,
      c.deref-4.ensures.value,
      c.in_ok-others.ensures,
      c.deref-2.ensures.value,
    ) at c.without_all.ensures
