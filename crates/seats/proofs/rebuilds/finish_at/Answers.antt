use Rattle.std.proofs.Common.{◌≡◌, ℕ, List, Some}
use Rattle.abs_model.specs.declared.Entry.{Entry}
use Rattle.abs_model.specs.Array.{changed}
use Rattle.abs_model.specs.Valid.{Valid}
use Rattle.cluster_model.specs.Tree as tree
use Rattle.partition_tree.specs.Digests.{IsRoot}
use Rattle.replica.specs.Replicas.{digests_of, begun_at}
use Rattle.replica.specs.declared.Replica.{Replica}
use Rattle.recovery.specs.Rebuilt.{HasFetched}
use Rattle.seats.proofs.Positions.{changes_set, here_x, stands_here}
use Rattle.seats.proofs.Rebuilding.{if_ok_at, if_invalid_at, stands_for, unchanged_at, finish_watched}
use Rattle.seats.proofs.rebuilds.finish_at.Goals as goal

pub finish-requires-clause-can : goal.finish-requires-clause-can
finish-requires-clause-can g c =
    let b = c.args.bench.now in record {
      array = c.requires.stands.0;
      stands = stands_here _ b.servers.items b.tables.items c.args.r c.args.limits.now c.requires.stands.1 _
          c.index_mut.result.now _ c.index_mut-2.result.now c.index_mut.ensures.value c.index_mut-2.ensures.value;
      within = c.requires.within;
      room = c.requires.room.room _ (here_x _ b.servers.items b.tables.items c.args.r c.args.limits.now
          c.requires.stands.1 _ c.index_mut.result.now _ c.index_mut-2.result.now c.index_mut.ensures.value
          c.index_mut-2.ensures.value);
    }

pub returns-clause-stands : goal.returns-clause-stands
returns-clause-stands g c =
    let b = c.args.bench.now in
    stands_for _ b.servers.items b.tables.items c.args.r c.args.limits.now c.requires.stands.1 _ _ _ _
    c.index_mut.ensures.value c.index_mut-2.ensures.value c.finish.result (changed c.args.rebuild.fetch.changes)
    c.finish.ensures.stands

pub returns-clause-live : goal.returns-clause-live
returns-clause-live g c =
    let b = c.args.bench.now in
    let k₀ = c.args.rebuild in
    if_ok_at _ b.servers.items b.tables.items c.args.r c.args.limits.now c.requires.stands.1 _ c.finish.new.server _
    c.finish.new.table c.index_mut.ensures.value c.index_mut-2.ensures.value c.finish.result
    (λ (A : List Entry) (place : ℕ) (k : Replica). k₀.target ≡ Some place →
    k ≡ begun_at place (digests_of (changed k₀.fetch.changes A))) c.finish.ensures.live

pub returns-clause-root : goal.returns-clause-root
returns-clause-root g c =
    let b = c.args.bench.now in
    let k₀ = c.args.rebuild in
    if_ok_at _ b.servers.items b.tables.items c.args.r c.args.limits.now c.requires.stands.1 _ c.finish.new.server _
    c.finish.new.table c.index_mut.ensures.value c.index_mut-2.ensures.value c.finish.result
    (λ (A : List Entry) (got : List (tree.Item × List ℕ)) (k : Replica). HasFetched A got k₀ → IsRoot k.tree k₀.root)
    c.finish.ensures.root

pub returns-clause-invalid : goal.returns-clause-invalid
returns-clause-invalid g c =
    let b = c.args.bench.now in
    if_invalid_at _ b.servers.items b.tables.items c.args.r c.args.limits.now c.requires.stands.1 _ c.finish.new.server
    _ c.finish.new.table c.index_mut.ensures.value c.index_mut-2.ensures.value c.finish.result
    (λ (A : List Entry). Valid c.args.limits.now (changed c.args.rebuild.fetch.changes A) → ⊥) c.finish.ensures.invalid

pub returns-clause-unchanged : goal.returns-clause-unchanged
returns-clause-unchanged g c =
    let b = c.args.bench.now in
    unchanged_at _ b.servers.items b.tables.items c.args.r c.args.limits.now c.requires.stands.1 _ _ _ _
    c.index_mut.ensures.value c.index_mut-2.ensures.value c.finish.result c.finish.ensures.unchanged

pub returns-clause-watched : goal.returns-clause-watched
returns-clause-watched g c =
    let b = c.args.bench.now in
    finish_watched _ b.servers.items b.tables.items c.args.r c.args.limits.now c.requires.stands.1 _ _ _
    c.finish.new.table c.index_mut.ensures.value c.index_mut-2.ensures.value c.finish.ensures.watched

pub returns-clause-servers : goal.returns-clause-servers
returns-clause-servers g c = changes_set _ _ _

pub returns-clause-tables : goal.returns-clause-tables
returns-clause-tables g c = changes_set _ _ _
