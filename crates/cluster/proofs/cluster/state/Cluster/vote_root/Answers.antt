use Rattle.std.proofs.Common.{refl, sym, subst}
use Rattle.cluster.specs.Kept.{kept}
use Rattle.cluster.specs.Casting.{RootedIf}
use Rattle.cluster.proofs.cluster.state.Cluster.vote_root.Goals as goal

pub returns-in_default : goal.returns-in_default
returns-in_default c = record {
  rooted = subst (λ o. RootedIf c.args.r c.args.place o (kept c.args.self.now) (kept c.args.self.now)
      c.args.lines.now.items c.args.lines.now.items) (sym c.in_default.is) (refl, refl);
}

pub returns : goal.returns
returns c = record {
  rooted = subst (λ o. RootedIf c.args.r c.args.place o (kept c.args.self.now) (kept c.cast_root.new.self)
      c.args.lines.now.items c.cast_root.new.lines.items) (sym c.in-Some.is) c.in_ok-cast_root.ensures.rooted;
}
