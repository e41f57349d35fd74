use Rattle.path_store.proofs.SeekLaws.{past_slash}
use Rattle.path_store.proofs.paths.past_name.Goals as goal

pub returns : goal.returns
returns c =
    let found = rw c.split_at.ensures.back at c.in-Some.ensures in
    past_slash c.args.size c.args.path.now c.in-Some.end c.in_ok-next.next found.0 found.1 c.in_ok-next.ensures
