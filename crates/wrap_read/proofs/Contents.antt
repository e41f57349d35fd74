-- Which files a call finds.
use Rattle.std.proofs.Common.{◌≡◌, ℕ, true, false, Bool, List, length, Option, Some, None, Result, Ok, Err, sym, ap, ◌∙◌}
use Rattle.std.specs.Prelude.{if◌then◌else◌, is_none, unwrap_or}
use Rattle.std.specs.Option.{option_map}
use Rattle.nfs2_types.specs.declared.fattr.Kind.TheVariants as kinds
use Rattle.nfs2_types.specs.declared.Stat.{Stat}
use Rattle.nfs2_types.specs.declared.stat.TheConstants.{ACCES, ISDIR, STALE}
use Rattle.server_trait.specs.Tree.{Tree}
use Rattle.server_trait.specs.declared.server.NodeAttr.{NodeAttr}
use Rattle.server_trait.specs.declared.bench.ConfTable.{ConfTable}
use Rattle.abs_model.specs.declared.entry.Entry.{Entry}
use Rattle.abs_model.specs.Objects.{is_dir, is_link}
use Rattle.abs_model.specs.Array.{entry_at, live}
use Rattle.abs_model.specs.Machine.{first_of, file_tests}
use Rattle.conf_map.specs.declared.table.Located.{Located}
use Rattle.conf_map.specs.Stands.{StandValid}
use Rattle.conf_map.specs.Tables.{located}
use Rattle.conf_map.specs.Found.{is_file_kind, is_dir_kind, is_link_kind, Finds, IsSeen}
use Rattle.conf_map.specs.Shown.{IsTold}
use Rattle.conf_map.proofs.Finding.{finds_ok, finds_err}
use Rattle.conf_map.proofs.Seen.{live_agrees, located_live}
use Rattle.wrap_read.specs.Reads.{IsFileCall}
use Rattle.wrap_read.specs.declared.content.OpenFile.{OpenFile}

-- its first refusal, by what its handle names
abbrev refused : List Entry → Option ℕ → Option Stat
refused A l = if is_none l then Some STALE
    else (if is_dir (entry_at A (unwrap_or l (length A))) then Some ISDIR
    else (if is_link (entry_at A (unwrap_or l (length A))) then Some ACCES else None))

module _ (s : Option Tree) (table : ConfTable) (A : List Entry) (k : StandValid s table A) (file : List ℕ) where
  -- what the search comes to
  abbrev Search : Result OpenFile Stat → Type 0
  Search = Finds (file_tests A file) (IsFileCall A table.rows.items file)

  pub file_stale : None ≡ located table.rows.items file → Search (Err STALE)
  file_stale is = finds_err (ap (refused A)
      (live_agrees s table A k.stands file ∙ ap (option_map (λ (l : Located). l.index)) (sym is)))

  module _ (l : Located) (is : Some l ≡ located table.rows.items file) (a : NodeAttr)
      (seen : IsSeen (entry_at A l.index) a) where
    is_index : live A file ≡ Some l.index
    is_index = live_agrees s table A k.stands file ∙ ap (option_map (λ (l : Located). l.index)) (sym is)

    by_kind : (dir link : Bool) → is_dir_kind a.kind ≡ dir → is_link_kind a.kind ≡ link →
        first_of (file_tests A file) ≡ (if dir then Some ISDIR else (if link then Some ACCES else None))
    by_kind dir link is_dir' is_link' =
        ap (refused A) is_index
        ∙ ap (λ b. if b then Some ISDIR else (if is_link (entry_at A l.index) then Some ACCES else None))
        (sym seen.dir ∙ is_dir')
        ∙ ap (λ b. if dir then Some ISDIR else (if b then Some ACCES else None)) (sym seen.link ∙ is_link')

    pub file_dir : a.kind ≡ kinds.Dir → Search (Err ISDIR)
    file_dir kind = finds_err (by_kind true false (ap is_dir_kind kind) (ap is_link_kind kind))

    pub file_link : a.kind ≡ kinds.Link → Search (Err ACCES)
    file_link kind = finds_err (by_kind false true (ap is_dir_kind kind) (ap is_link_kind kind))

    pub file_found : a.kind ≡ kinds.File → IsTold A table.rows.items l.index a →
        Search (Ok (record { at = l; attr = a }))
    file_found kind told = finds_ok (by_kind false false (ap is_dir_kind kind) (ap is_link_kind kind)) (record {
      is_index = is_index;
      live = located_live table.rows.items file l (sym is);
      is_file = sym seen.file ∙ ap is_file_kind kind;
      told = told;
    })
