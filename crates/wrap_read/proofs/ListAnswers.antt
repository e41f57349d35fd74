-- What a directory's list is by its server and its table, and what the machine answers to READDIR.
use Rattle.std.proofs.Common.{◌≡◌, ℕ, ◌+◌, ◌<◌, ◌≤◌, ◌^◌, arith, true, false, List, length, get_or, Option, Some, None, refl, sym, ap, ◌∙◌}
use Rattle.std.specs.Prelude.{not, if◌then◌else◌, is_none, unwrap_or}
use Rattle.std.specs.Option.{option_map}
use Rattle.nfs2_types.specs.declared.Cred.{Cred}
use Rattle.nfs2_types.specs.declared.Limits.{Limits}
use Rattle.nfs2_types.specs.declared.ListEntry.{ListEntry}
use Rattle.nfs2_types.specs.declared.NfsResult.{NfsResult}
use Rattle.nfs2_types.specs.declared.NfsResult.TheVariants.{Refused}
use Rattle.nfs2_types.specs.declared.Stat.{Stat}
use Rattle.nfs2_types.specs.declared.Time.{Time}
use Rattle.nfs2_types.specs.declared.stat.TheConstants.{NOTDIR, STALE}
use Rattle.nfs2_types.specs.Call.{Call, read_dir}
use Rattle.server_trait.specs.Tree.{Tree}
use Rattle.server_trait.specs.declared.server.Listed.{Listed}
use Rattle.server_trait.specs.declared.bench.ConfEntry.{ConfEntry}
use Rattle.server_trait.specs.declared.bench.ConfTable.{ConfTable}
use Rattle.abs_model.specs.declared.entry.Entry.{Entry}
use Rattle.abs_model.specs.Objects.{is_dir, names_of}
use Rattle.abs_model.specs.Array.{entry_at, parent, live, at}
use Rattle.abs_model.specs.Listed.{page, listing, listed}
use Rattle.abs_model.specs.Machine.{result_of}
use Rattle.conf_map.specs.declared.table.Located.{Located}
use Rattle.conf_map.specs.Stands.{StandValid}
use Rattle.conf_map.specs.Tables.{located, index_in, IsLive}
use Rattle.conf_map.proofs.Answered.{refused, answered, answered_array}
use Rattle.conf_map.proofs.Fattrs.{parent_agrees}
use Rattle.conf_map.proofs.Frames.{entry_at-some}
use Rattle.conf_map.specs.Contents.{AreRows}
use Rattle.conf_map.proofs.Bounds.{names_few}
use Rattle.conf_map.proofs.ListedRows.{rows_length}
use Rattle.conf_map.proofs.LiveRows.{at_row, at_handle}
use Rattle.conf_map.proofs.Seen.{live_agrees}
use Rattle.conf_map.proofs.Shows.{live_within, row_read}
use Rattle.wrap_read.specs.Rows.{HasFileids}
use Rattle.wrap_read.proofs.StepLemmas.{parent_found}

-- WORDS

module _ (s : Option Tree) (table : ConfTable) (A : List Entry) (k : StandValid s table A) where
  -- the fileid of a live row is a word
  pub small : (l : Located) → IsLive table.rows.items l → l.index + 1 < 2 ^ 32
  small l is =
      let below = live_within table.rows.items l.index l.handle is in
      let size = k.stands.size in
      let n = k.valid.size in
      let most = k.within.1 in
      omega (arith, below, size, n, most)

  pub fileids_small : HasFileids table
  fileids_small l = by_row (index_in table l.handle) refl
    where
      by_row : (o : Option ℕ) → index_in table l.handle ≡ o → unwrap_or o 0 + 1 < 2 ^ 32
      by_row None is = omega arith
      by_row (Some i) is = small (record { index = i; handle = l.handle }) ((k.stands.placed.by_handle l.handle i).0 is)

  -- a live directory has few names
  pub listed_few : (d : Located) → IsLive table.rows.items d → (ls : List Listed) →
      AreRows table ls (names_of (entry_at A d.index)) → length ls ≤ 32768
  listed_few d is ls are =
      let e = at_handle s table A k.stands d.index d.handle is in
      let few = names_few k.limits s table A k.stands k.valid k.within d.index d.handle e.0 e.1 e.2 e.3 in
      let same = ap (λ (e : Entry). length (names_of e)) (entry_at-some A d.index e.2 e.3.is_entry) in
      let size = rows_length table ls (names_of (entry_at A d.index)) are in
      omega (arith, few, same, size)

  -- the row of a live directory has its parent
  module _ (d : Located) (is : IsLive table.rows.items d) (is_d : is_dir (entry_at A d.index) ≡ true)
      (r : ConfEntry) (read : r ≡ get_or table.rows.items d.index r) where
    pub parent_row : r.parent ≡ parent A d.index
    parent_row =
        let row = row_read table.rows.items d.index d.handle r is read in
        let e = at_row s table A k.stands d.index r d.handle row.is_row row.is_handle in
        let is_d' = ap is_dir (sym (entry_at-some A d.index e.1 e.2.is_entry)) ∙ is_d in
        parent_agrees k.limits s table A k.stands k.valid d.index d.handle r e.0 e.1 e.2 is_d'

    pub parent_small : r.parent + 1 < 2 ^ 32
    parent_small =
        let p = parent_found s table A k d is is_d in
        let below = small p.0 p.3 in
        let same = parent_row in
        omega (arith, below, same, p.2)

-- ANSWERS

module _ (A : List Entry) (limits : Limits) (cred : Cred) (t : Time) (s : Option Tree) (table : ConfTable)
    (k : StandValid s table A)
    (dir : List ℕ) (cookie count : ℕ) where
  abbrev call : Call
  call = read_dir dir cookie count

  -- the first refusal, by what the handle names
  abbrev refusal : Option ℕ → Option Stat
  refusal l = if is_none l then Some STALE else
      (if not (is_dir (entry_at A (unwrap_or l (length A)))) then Some NOTDIR else None)

  live_is : (o : Option Located) → o ≡ located table.rows.items dir →
      live A dir ≡ option_map (λ (l : Located). l.index) o
  live_is o is = live_agrees s table A k.stands dir ∙ ap (option_map (λ (l : Located). l.index)) (sym is)

  pub list_stale : None ≡ located table.rows.items dir → Refused STALE ≡ result_of A limits cred t call
  list_stale is = sym (refused A limits cred t call STALE (ap refusal (live_is None is)))

  module _ (d : Located) (is : Some d ≡ located table.rows.items dir) where
    pub list_other : is_dir (entry_at A d.index) ≡ false → Refused NOTDIR ≡ result_of A limits cred t call
    list_other other =
        sym (refused A limits cred t call NOTDIR
        (ap refusal (live_is (Some d) is) ∙ ap (λ b. if not b then Some NOTDIR else None) other))

    pub list_answer : is_dir (entry_at A d.index) ≡ true → (es : List ListEntry) (r : NfsResult) →
        es ≡ listing A d.index →
        r ≡ page es cookie count → r ≡ result_of A limits cred t call
    list_answer is_d es r is_es is_r =
        let none = ap refusal (live_is (Some d) is) ∙ ap (λ b. if not b then Some NOTDIR else None) is_d in
        is_r ∙ ap (λ es. page es cookie count) is_es
        ∙ ap (λ l. listed A (unwrap_or l (length A)) cookie count) (sym (live_is (Some d) is))
        ∙ ap (λ B. listed B (at A dir) cookie count) (sym (answered_array A limits cred t call none))
        ∙ sym (answered A limits cred t call none)
