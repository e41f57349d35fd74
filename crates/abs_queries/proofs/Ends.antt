-- past the end nothing follows
use Rattle.std.proofs.lemmas.List.{drop_all}

pub ruleset ends = drop_all
