use Rattle.cluster_model.specs.Tested.{tested}
use Rattle.recovery.proofs.Put.{is_put, root_after}
use Rattle.recovery.proofs.laws.fetched_arrays_have_the_root.Goals as goal

pub returns-clause-put : goal.returns-clause-put
returns-clause-put c T real A got b h = is_put A got b h (tested T) real

pub returns-clause-root : goal.returns-clause-root
returns-clause-root c T real A got b size h none = root_after A got b h (tested T) real size none
