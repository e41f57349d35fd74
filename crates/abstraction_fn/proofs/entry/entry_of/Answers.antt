use Rattle.std.proofs.Common.{◌≡◌, true, Option, sym, ap, ◌∙◌, subst}
use Rattle.server_trait.specs.Tree.{Tree}
use Rattle.abs_model.specs.Objects.{is_file}
use Rattle.abs_model.specs.Array.{entry_at}
use Rattle.conf_map.specs.Stands.{StandValid}
use Rattle.abstraction_fn.specs.Bytes.{with_bytes}
use Rattle.abstraction_fn.proofs.Entries.{null_whole, handle_is, still_file, file_whole}
use Rattle.abstraction_fn.proofs.entry.entry_of.Goals as goal

pub returns-in_default-clause-entry : goal.returns-in_default-clause-entry
returns-in_default-clause-entry g c A k =
    c.in_ok-entry.ensures.entry A k
    ∙ null_whole _ c.args.table.now A k c.args.index c.requires.within c.index.result.now c.index.ensures c.in_default.is

pub bytes_of-requires-clause-live : goal.bytes_of-requires-clause-live
bytes_of-requires-clause-live g c =
    handle_is _ c.args.table.now c.requires.stands.0 c.requires.stands.1 c.args.index c.requires.within
    c.index.result.now c.index.ensures c.in-Some.handle c.in-Some.is

pub returns-clause-entry : goal.returns-clause-entry
returns-clause-entry g c A k =
    let e = c.in_ok-entry.ensures.entry A k in
    let k' = subst (λ (s : Option Tree). StandValid s c.args.table.now A) (sym c.in_ok-entry.ensures.same) k in
    let file : is_file (entry_at A c.args.index) ≡ true
    = sym (still_file (entry_at A c.args.index)) ∙ sym (ap is_file e) ∙ sym c.is_file.ensures ∙ c.if-not-is_file.false in
    c.filled.ensures
    ∙ ap (with_bytes c.in_ok-bytes.bytes.items) e
    ∙ file_whole _ c.args.table.now A k c.args.index c.requires.within file c.in_ok-bytes.bytes.items
    (c.in_ok-bytes.ensures.bytes A k' file)
