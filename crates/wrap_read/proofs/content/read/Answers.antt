use Rattle.std.proofs.Common.{take, drop, ap, Option, sym, ◌∙◌, subst}
use Rattle.server_trait.specs.Tree.{Tree}
use Rattle.abs_model.specs.Objects.{bytes_of}
use Rattle.abs_model.specs.Array.{entry_at}
use Rattle.conf_map.specs.Stands.{StandValid}
use Rattle.wrap_read.proofs.ContentAnswers.{file_refused, file_answer}
use Rattle.wrap_read.proofs.content.read.Goals as goal

pub returns-in-Err-clause-result : goal.returns-in-Err-clause-result
returns-in-Err-clause-result g c A limits cred t k =
    file_refused A limits cred t c.args.file.now c.args.offset c.args.count c.in-Err.status
    ((c.in_ok-open.ensures.found A k).refused c.in-Err.status c.in-Err.is)

pub fattr_from-fattr-requires-clause-live : goal.fattr_from-fattr-requires-clause-live
fattr_from-fattr-requires-clause-live g c =
    ((c.in_ok-open.ensures.found c.requires.0 c.requires.1).found c.in-Ok.open c.in-Ok.is).1.live

pub fattr_from-fattr-requires-clause-small : goal.fattr_from-fattr-requires-clause-small
fattr_from-fattr-requires-clause-small g c =
    ((c.in_ok-open.ensures.found c.requires.0 c.requires.1).found c.in-Ok.open c.in-Ok.is).1.told.small

pub bytes_of-requires : goal.bytes_of-requires
bytes_of-requires g c =
    let A = c.requires.0 in
    let file = ((c.in_ok-open.ensures.found A c.requires.1).found c.in-Ok.open c.in-Ok.is).1 in
    record {
      file = (
        A,
        subst (λ (s : Option Tree). StandValid s c.args.table.now A) (sym c.in_ok-open.ensures.same) c.requires.1,
        file.is_file,
      );
      live = file.live;
    }

pub returns-clause-result : goal.returns-clause-result
returns-clause-result g c A limits cred t k =
    let found = (c.in_ok-open.ensures.found A k).found c.in-Ok.open c.in-Ok.is in
    let k' = subst (λ (s : Option Tree). StandValid s c.args.table.now A) (sym c.in_ok-open.ensures.same) k in
    file_answer A limits cred t c.args.file.now c.args.offset c.args.count c.args.table.now.rows.items c.in-Ok.open
    c.fattr_from-fattr.result c.new.result found (c.fattr_from-fattr.ensures A found.1.told)
    (c.new.ensures ∙ c.in_ok-bytes.ensures.bytes A k' found.1.is_file
    ∙ ap (λ n. take n (drop c.args.offset (bytes_of (entry_at A c.in-Ok.open.at.index)))) c.min.ensures)
