use Rattle.path_server.proofs.NamedLaws.{adds_dir, adds_leaf}
use Rattle.path_store.proofs.Rows.{on_ok}
use Rattle.path_server.proofs.tree.add_new.Goals as goal

pub returns-in-Dir : goal.returns-in-Dir
returns-in-Dir c = record {
  added = on_ok c.add_dir.result _ _ (adds_dir c.args.kind c.args.names.now c.args.dir.now c.args.name.now c.args.to.now
      c.add_dir.new.self c.in-Dir.is c.requires.dir) c.add_dir.ensures.added;
}

pub returns-in-File : goal.returns-in-File
returns-in-File c = record {
  added = on_ok c.add.result _ _ (adds_leaf c.args.kind c.args.names.now c.args.dir.now c.args.name.now
      c.args.to.now c.add.new.self c.in-File.is c.requires.whole c.requires.no_dir) c.add.ensures.added;
}
