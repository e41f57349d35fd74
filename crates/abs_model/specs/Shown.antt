-- The attributes in a result (RFC 1094, 2.3.5).
use Rattle.std.specs.Prelude.{Bool, true, not, ◌==◌}
use Rattle.nfs2_types.specs.declared.NfsResult.{NfsResult}
use Rattle.nfs2_types.specs.declared.NfsResult.TheVariants as Result
use Rattle.abs_model.specs.Numbers.{no_type}

-- the attributes that a result has, if it has any, are those of an object
abbrev pub shows_objects : NfsResult → Bool
shows_objects (Result.Attr words) = not (words.ftype == no_type)
shows_objects (Result.Node handle words) = not (words.ftype == no_type)
shows_objects (Result.Content words bytes) = not (words.ftype == no_type)
shows_objects _ = true
