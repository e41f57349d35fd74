-- What the machine answers to a call that only reads.
use Rattle.std.proofs.Common.{◌≡◌, ℕ, true, List, [], ◌∷◌, length, Option, Some, None, refl, sym, ap, ◌∙◌}
use Rattle.std.specs.Prelude.{if◌then◌else◌, is_none, unwrap_or, bytes_eq}
use Rattle.std.specs.Option.{option_map}
use Rattle.nfs2_types.specs.declared.Fattr.{Fattr}
use Rattle.nfs2_types.specs.declared.Limits.{Limits}
use Rattle.nfs2_types.specs.declared.Cred.{Cred}
use Rattle.nfs2_types.specs.declared.Time.{Time}
use Rattle.nfs2_types.specs.declared.Stat.{Stat}
use Rattle.nfs2_types.specs.declared.NfsResult.{NfsResult}
use Rattle.nfs2_types.specs.declared.NfsResult.TheVariants.{Refused, Attr}
use Rattle.nfs2_types.specs.declared.stat.TheConstants.{NOENT, STALE}
use Rattle.nfs2_types.specs.Call.{Call, get_attr, lookup}
use Rattle.nfs2_types.specs.Names.{name_dot, name_dots}
use Rattle.server_trait.specs.Tree.{Tree}
use Rattle.server_trait.specs.declared.bench.ConfEntry.{ConfEntry}
use Rattle.server_trait.specs.declared.bench.ConfTable.{ConfTable}
use Rattle.abs_model.specs.declared.entry.Entry.{Entry}
use Rattle.abs_model.specs.Array.{fattr, live, at, parent, target, changed}
use Rattle.abs_model.specs.Machine.{Refusal, first_of, refusals, changes, in_dir, result_of, array_after, node_at}
use Rattle.conf_map.specs.declared.table.Located.{Located}
use Rattle.conf_map.specs.Stands.{StandValid}
use Rattle.conf_map.specs.Tables.{located}
use Rattle.conf_map.specs.Found.{IsDirCall}
use Rattle.conf_map.proofs.Answered.{or_first, first_of-append, refused, answered, answered_array}
use Rattle.conf_map.proofs.Seen.{live_agrees}
use Rattle.wrap_read.specs.Reads.{is_missing, IsStep}

module _ (A : List Entry) (limits : Limits) (cred : Cred) (t : Time) where
  -- a call that changes nothing leaves the array
  pub reads : (call : Call) → first_of (refusals A limits call) ≡ None → changes A cred t call ≡ [] →
      array_after A limits cred t call ≡ A
  reads call none is = answered_array A limits cred t call none ∙ ap (λ cs. changed cs A) is

  module _ (s : Option Tree) (table : ConfTable) (k : StandValid s table A) (h : List ℕ) where
    pub attr_stale : None ≡ located table.rows.items h → Refused STALE ≡ result_of A limits cred t (get_attr h)
    attr_stale is = sym (refused A limits cred t (get_attr h) STALE
        (ap (λ l. if is_none l then Some STALE else None)
        (live_agrees s table A k.stands h ∙ ap (option_map (λ (l : Located). l.index)) (sym is))))

    pub attr_answer : (l : Located) (f : Fattr) → Some l ≡ located table.rows.items h → f ≡ fattr A l.index →
        Attr f ≡ result_of A limits cred t (get_attr h)
    attr_answer l f is is_f =
        let live : live A h ≡ Some l.index = live_agrees s table A k.stands h
        ∙ ap (option_map (λ (l : Located). l.index)) (sym is) in
        let none = ap (λ l. if is_none l then Some STALE else None) live in
        ap Attr (is_f ∙ ap (fattr A) (sym (ap (λ l. unwrap_or l (length A)) live))
        ∙ ap (λ B. fattr B (at A h)) (sym (reads (get_attr h) none refl)))
        ∙ sym (answered A limits cred t (get_attr h) none)

  abbrev missing : List ℕ → List ℕ → List Refusal
  missing dir name = record { holds = is_missing A (at A dir) name; stat = NOENT } ∷ []

  pub lookup_refused : (dir name : List ℕ) (st : Stat) → first_of (in_dir A dir name) ≡ Some st →
      Refused st ≡ result_of A limits cred t (lookup dir name)
  lookup_refused dir name st is = sym
      (refused A limits cred t (lookup dir name) st
      (first_of-append (in_dir A dir name) (missing dir name) ∙ ap (λ o. or_first o (first_of (missing dir name))) is))

  module _ (rows : List ConfEntry) (dir name : List ℕ) (d : Located)
      (none : first_of (in_dir A dir name) ≡ None) (k : IsDirCall A rows dir name d) where
    index_is : at A dir ≡ d.index
    index_is = ap (λ l. unwrap_or l (length A)) k.is_index

    by_name : first_of (refusals A limits (lookup dir name)) ≡ (if is_missing A d.index name then Some NOENT else None)
    by_name = first_of-append (in_dir A dir name) (missing dir name)
        ∙ ap (λ o. or_first o (first_of (missing dir name))) none
        ∙ ap (λ i. if is_missing A i name then Some NOENT else None) index_is

    pub lookup_missing : is_missing A d.index name ≡ true → Refused NOENT ≡ result_of A limits cred t (lookup dir name)
    lookup_missing is = sym
        (refused A limits cred t (lookup dir name) NOENT (by_name ∙ ap (λ b. if b then Some NOENT else None) is))

    pub lookup_answer : (l : Located) (r : NfsResult) → IsStep A rows d.index name l → r ≡ node_at A l.index →
        r ≡ result_of A limits cred t (lookup dir name)
    lookup_answer l r step is_r =
        let first = by_name ∙ ap (λ b. if b then Some NOENT else None) step.present in
        is_r ∙ ap (node_at A) (sym step.index)
        ∙ ap (λ i. node_at A (if bytes_eq name name_dot then i else if bytes_eq name name_dots then parent A i else target A i name)) (sym index_is)
        ∙ ap (λ B. node_at B (if bytes_eq name name_dot then at A dir else if bytes_eq name name_dots then parent A
        (at A dir) else target A (at A dir) name)) (sym (reads (lookup dir name) first refl))
        ∙ sym (answered A limits cred t (lookup dir name) first)
