use Rattle.conf_map.proofs.show.fattr_at.Goals as goal

pub fattr_from-requires : goal.fattr_from-requires
fattr_from-requires g c =
    record { live = c.requires.live; small = (c.in_ok-attr.ensures.told c.requires.stands.0 c.requires.stands.1).small }

pub returns-clause-fattr : goal.returns-clause-fattr
returns-clause-fattr g c A k = c.fattr_from.ensures A (c.in_ok-attr.ensures.told A k)
