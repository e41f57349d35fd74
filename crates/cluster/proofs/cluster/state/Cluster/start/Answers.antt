use Rattle.std.proofs.Common.{◌≡◌, ◌<◌, ◌^◌, true, length, refl, sym, subst, arith}
use Rattle.std.specs.List.{All}
use Rattle.std.specs.Ordering.{nat_cmp}
use Rattle.std.specs.BTreeMap as ordered
use Rattle.std.proofs.lemmas.List.Elements.{All-nil}
use Rattle.nfs2_types.specs.Times.{is_time}
use Rattle.cluster_model.specs.declared.Request.{Request}
use Rattle.partition_tree.specs.Digests.{IsRoot}
use Rattle.reply_vote.specs.Ballots.{ballots}
use Rattle.cluster.specs.OverBench.{Kept}
use Rattle.cluster.proofs.Checkpoints.{tree_size, size_is}
use Rattle.cluster.proofs.Beginning.{new_cluster, begun_starts, begun_arrays}
use Rattle.cluster.proofs.cluster.state.Cluster.start.Goals as goal

pub empty_tree-requires : goal.empty_tree-requires
empty_tree-requires g c = tree_size c.args.limits.now c.requires.sizes

pub begin_all-requires-clause-size : goal.begin_all-requires-clause-size
begin_all-requires-clause-size g c = tree_size c.args.limits.now c.requires.sizes

pub invariant_of-cluster : goal.invariant_of-cluster
invariant_of-cluster g c = record {
  within = c.requires.within;
  sizes = size_is c.args.limits.now c.requires.sizes;
  replicas = c.requires.replicas;
  interval = c.requires.interval;
  few = subst (λ qs. length qs < 2 ^ 32) (sym c.new-3.ensures.items) (omega arith);
  times = subst (λ qs. All (λ (q : Request). is_time q.time ≡ true) qs) (sym c.new-3.ensures.items)
      (All-nil (λ (q : Request). is_time q.time ≡ true));
  sized = c.in_ok-seats.ensures.begun.many;
  over = c.in_ok-seats.ensures.begun.over;
  voters = c.in_ok-votes.ensures.voters;
  root_voters = c.in_ok-roots.ensures.voters;
}

pub returns-clause-starts : goal.returns-clause-starts
returns-clause-starts g c = begun_starts _ c.args.limits.now c.requires.sizes _
    (new_cluster c.args.limits.now _ refl c.new-3.ensures.items c.in_ok-votes.ensures.voters
    c.in_ok-votes.ensures.none (λ p. rw c.new-4.ensures.empty refl) c.in_ok-roots.ensures.voters
    c.in_ok-roots.ensures.none refl (subst (λ ds. IsRoot ds c.root-root.result) c.in_ok-tree.ensures c.root-root.ensures)
    refl) _ _ _ _ _ c.in_ok-seats.ensures.begun

pub returns-clause-arrays : goal.returns-clause-arrays
returns-clause-arrays g c =
    let v : Kept = record {
      limits = c.args.limits.now;
      requests = c.new-3.result.items;
      seats = c.in_ok-seats.field-0.seats.items;
      ballots = ballots c.in_ok-votes.votes;
      decisions = λ p. ordered.get nat_cmp c.new-4.result p;
      roots = ballots c.in_ok-roots.roots;
      stable = 0;
      root = c.root-root.result;
      events = 0;
    } in
    begun_arrays _ c.args.limits.now c.requires.sizes v
    (new_cluster c.args.limits.now v refl c.new-3.ensures.items c.in_ok-votes.ensures.voters
    c.in_ok-votes.ensures.none (λ p. rw c.new-4.ensures.empty refl) c.in_ok-roots.ensures.voters
    c.in_ok-roots.ensures.none refl (subst (λ ds. IsRoot ds c.root-root.result) c.in_ok-tree.ensures c.root-root.ensures)
    refl) _ _ _ _ _ c.in_ok-seats.ensures.begun
