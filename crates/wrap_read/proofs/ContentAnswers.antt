-- What the machine answers to READLINK, READ and STATFS.
use Rattle.std.proofs.Common.{◌≡◌, ℕ, ◌-◌, ◌/◌, Bool, true, false, List, take, drop, length, Option, Some, None, refl, sym, ap, ◌∙◌}
use Rattle.std.specs.Prelude.{if◌then◌else◌, not, min, is_none, unwrap_or}
use Rattle.std.specs.Option.{option_map}
use Rattle.nfs2_types.specs.declared.Fattr.{Fattr}
use Rattle.nfs2_types.specs.declared.Limits.{Limits}
use Rattle.nfs2_types.specs.declared.Cred.{Cred}
use Rattle.nfs2_types.specs.declared.Time.{Time}
use Rattle.nfs2_types.specs.declared.Stat.{Stat}
use Rattle.nfs2_types.specs.declared.NfsResult.TheVariants.{Refused, Path, Content, Space}
use Rattle.nfs2_types.specs.declared.stat.TheConstants.{NXIO, STALE}
use Rattle.nfs2_types.specs.Call.{read_link, read, stat_fs}
use Rattle.server_trait.specs.Tree.{Tree}
use Rattle.server_trait.specs.declared.bench.ConfEntry.{ConfEntry}
use Rattle.server_trait.specs.declared.bench.ConfTable.{ConfTable}
use Rattle.abs_model.specs.declared.entry.Entry.{Entry}
use Rattle.abs_model.specs.Objects.{is_link, bytes_of}
use Rattle.abs_model.specs.Array.{entry_at, fattr, live, at, used}
use Rattle.abs_model.specs.Machine.{first_of, file_tests, refusals, result_of}
use Rattle.conf_map.specs.declared.table.Located.{Located}
use Rattle.conf_map.specs.Stands.{Stands}
use Rattle.conf_map.specs.Tables.{located}
use Rattle.conf_map.proofs.Answered.{refused, answered}
use Rattle.conf_map.proofs.Seen.{live_agrees}
use Rattle.wrap_read.specs.declared.content.OpenFile.{OpenFile}
use Rattle.wrap_read.specs.Reads.{IsFileCall}
use Rattle.wrap_read.proofs.ReadAnswers.{reads}

module _ (A : List Entry) (limits : Limits) (cred : Cred) (t : Time) where
  module _ (s : Option Tree) (table : ConfTable) (k : Stands s table A) (h : List ℕ) where
    -- what the table finds for the handle is what the array has
    found : (o : Option Located) → o ≡ located table.rows.items h → live A h ≡ option_map (λ (l : Located). l.index) o
    found o is = live_agrees s table A k h ∙ ap (option_map (λ (l : Located). l.index)) (sym is)

    -- READLINK
    by_link : (o : Option ℕ) → live A h ≡ o → first_of (refusals A limits (read_link h)) ≡
        (if is_none o then Some STALE else
        (if not (is_link (entry_at A (unwrap_or o (length A)))) then Some NXIO else None))
    by_link o is = ap (λ l. if is_none l then Some STALE else
        (if not (is_link (entry_at A (unwrap_or l (length A)))) then Some NXIO else None)) is

    pub link_stale : None ≡ located table.rows.items h → Refused STALE ≡ result_of A limits cred t (read_link h)
    link_stale is = sym (refused A limits cred t (read_link h) STALE (by_link None (found None is)))

    module _ (l : Located) (is : Some l ≡ located table.rows.items h) where
      by_kind : (b : Bool) → is_link (entry_at A l.index) ≡ b →
          first_of (refusals A limits (read_link h)) ≡ (if not b then Some NXIO else None)
      by_kind b kind = by_link (Some l.index) (found (Some l) is) ∙ ap (λ b. if not b then Some NXIO else None) kind

      pub link_other : is_link (entry_at A l.index) ≡ false → Refused NXIO ≡ result_of A limits cred t (read_link h)
      link_other other = sym (refused A limits cred t (read_link h) NXIO (by_kind false other))

      pub link_answer : (v : List ℕ) → is_link (entry_at A l.index) ≡ true → v ≡ bytes_of (entry_at A l.index) →
          Path v ≡ result_of A limits cred t (read_link h)
      link_answer v kind is_v =
          ap Path is_v ∙ ap (λ o. Path (bytes_of (entry_at A (unwrap_or o (length A))))) (sym (found (Some l) is))
          ∙ sym (answered A limits cred t (read_link h) (by_kind true kind))

    -- STATFS
    by_space : (o : Option ℕ) → live A h ≡ o → first_of (refusals A limits (stat_fs h)) ≡
        (if is_none o then Some STALE else None)
    by_space o is = ap (λ l. if is_none l then Some STALE else None) is

    pub space_stale : None ≡ located table.rows.items h → Refused STALE ≡ result_of A limits cred t (stat_fs h)
    space_stale is = sym (refused A limits cred t (stat_fs h) STALE (by_space None (found None is)))

    pub space_answer : (l : Located) (left : ℕ) → Some l ≡ located table.rows.items h →
        left ≡ (limits.t - used A) / 512 → Space 8192 512 (limits.t / 512) left left ≡ result_of A limits cred t
        (stat_fs h)
    space_answer l left is is_left =
        ap (λ left. Space 8192 512 (limits.t / 512) left left) is_left
        ∙ sym (answered A limits cred t (stat_fs h) (by_space (Some l.index) (found (Some l) is)))

  -- READ
  module _ (file : List ℕ) (offset count : ℕ) where
    pub file_refused : (st : Stat) → first_of (file_tests A file) ≡ Some st →
        Refused st ≡ result_of A limits cred t (read file offset count)
    file_refused st is = sym (refused A limits cred t (read file offset count) st is)

    pub file_answer : (rows : List ConfEntry) (o : OpenFile) (f : Fattr) (v : List ℕ) →
        (first_of (file_tests A file) ≡ None) × IsFileCall A rows file o → f ≡ fattr A o.at.index →
        v ≡ take (min count 8192) (drop offset (bytes_of (entry_at A o.at.index))) →
        Content f v ≡ result_of A limits cred t (read file offset count)
    file_answer rows o f v (none, call) is_f is_v =
        let given = λ (i : ℕ). take (min count 8192) (drop offset (bytes_of (entry_at A i))) in
        (λ j. Content (is_f j) (is_v j))
        ∙ ap (λ o. Content (fattr A (unwrap_or o (length A))) (given (unwrap_or o (length A)))) (sym call.is_index)
        ∙ ap (λ B. Content (fattr B (at A file)) (given (at A file)))
        (sym (reads A limits cred t (read file offset count) none refl))
        ∙ sym (answered A limits cred t (read file offset count) none)
