use Rattle.std.proofs.Common.{refl, sym, ap, ◌∙◌, arith}
use Rattle.nfs2_types.specs.Call.{call_of, get_attr, lookup, read_link, read, read_dir}
use Rattle.abs_model.specs.Machine.{result_of}
use Rattle.conf_map.proofs.Shows.{stand_valid}
use Rattle.wrap_read.proofs.ReadCalls.{limited, nothing_answer}
use Rattle.wrap_read.proofs.calls.read_proc.Goals as goal

pub returns-in_default : goal.returns-in_default
returns-in_default g c = record {
  result = λ A cred t _. nothing_answer A c.args.limits.now cred t c.args.args.now c.requires.reads
      c.in_default.not-GetAttr c.in_default.not-Lookup c.in_default.not-ReadLink c.in_default.not-Read c.in_default.not-ReadDir c.in_default.not-StatFs;
  same = refl;
  watched = record { limits = refl; faults = refl };
}

pub get_attr-requires : goal.get_attr-requires
get_attr-requires g c = (
  c.requires.stands.0,
  stand_valid c.args.limits.now _ c.args.table.now c.requires.stands.0 c.requires.within c.requires.stands.1,
)

pub lookup-requires-clause-stands : goal.lookup-requires-clause-stands
lookup-requires-clause-stands g c = (
  c.requires.stands.0,
  stand_valid c.args.limits.now _ c.args.table.now c.requires.stands.0 c.requires.within c.requires.stands.1,
)

pub returns-in-GetAttr-clause-result : goal.returns-in-GetAttr-clause-result
returns-in-GetAttr-clause-result g c = limited c.args.limits.now _ c.args.table.now c.args.args.now
    (get_attr c.in-GetAttr.node) c.get_attr.result c.requires.within
    (ap call_of c.in-GetAttr.is) c.get_attr.ensures.result

pub returns-in-Lookup-clause-result : goal.returns-in-Lookup-clause-result
returns-in-Lookup-clause-result g c = limited c.args.limits.now _ c.args.table.now c.args.args.now
    (lookup c.in-Lookup.dir c.in-Lookup.name.now) c.lookup.result c.requires.within
    (ap call_of c.in-Lookup.is) c.lookup.ensures.result

pub read_link-requires : goal.read_link-requires
read_link-requires g c = (
  c.requires.stands.0,
  stand_valid c.args.limits.now _ c.args.table.now c.requires.stands.0 c.requires.within c.requires.stands.1,
)

pub returns-in-ReadLink-clause-result : goal.returns-in-ReadLink-clause-result
returns-in-ReadLink-clause-result g c = limited c.args.limits.now _ c.args.table.now c.args.args.now
    (read_link c.in-ReadLink.node) c.read_link.result c.requires.within
    (ap call_of c.in-ReadLink.is) c.read_link.ensures.result

pub read-requires : goal.read-requires
read-requires g c = (
  c.requires.stands.0,
  stand_valid c.args.limits.now _ c.args.table.now c.requires.stands.0 c.requires.within c.requires.stands.1,
)

pub returns-in-Read-clause-result : goal.returns-in-Read-clause-result
returns-in-Read-clause-result g c =
    limited c.args.limits.now _ c.args.table.now c.args.args.now
    (read c.in-Read.file c.in-Read.offset c.in-Read.count) c.read.result c.requires.within
    (ap call_of c.in-Read.is) c.read.ensures.result

pub read_dir-requires : goal.read_dir-requires
read_dir-requires g c = (
  c.requires.stands.0,
  stand_valid c.args.limits.now _ c.args.table.now c.requires.stands.0 c.requires.within c.requires.stands.1,
)

pub returns-in-ReadDir-clause-result : goal.returns-in-ReadDir-clause-result
returns-in-ReadDir-clause-result g c =
    limited c.args.limits.now _ c.args.table.now c.args.args.now
    (read_dir c.in-ReadDir.dir c.in-ReadDir.cookie c.in-ReadDir.count) c.read_dir.result c.requires.within
    (ap call_of c.in-ReadDir.is) c.read_dir.ensures.result

pub stat_fs-requires : goal.stat_fs-requires
stat_fs-requires g c =
    let k = c.requires.stands.1 in
    omega (arith, k.tallied.used, k.valid.room)

pub returns-in-StatFs-clause-result : goal.returns-in-StatFs-clause-result
returns-in-StatFs-clause-result g c A cred t k =
    c.stat_fs.ensures A _ cred t k ∙ ap (result_of A c.args.limits.now cred t) (sym (ap call_of c.in-StatFs.is))
