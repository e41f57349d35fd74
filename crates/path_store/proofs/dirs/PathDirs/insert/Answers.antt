use Rattle.std.proofs.Common.{arith}
use Rattle.path_store.proofs.DirRows.{put_dir}
use Rattle.path_store.proofs.dirs.PathDirs.insert.Goals as goal

pub returns : goal.returns
returns c = put_dir c.self.inside.rows.items c.args.self.now c.self.view_is c.self.invariant c.reach.new.rows.items
    c.in_ok-reach.ensures.same c.place_of-place.result (omega (
      arith,
      c.in_ok-reach.ensures.long,
      c.reach.new.rows.ok.0,
    )) (record { handle = c.args.dir.now; path = c.args.path })
    c.set_row.new.rows.items c.set_row.ensures c.place_of-place.ensures c.requires
