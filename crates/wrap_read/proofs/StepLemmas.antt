-- Steps from a directory: to its parent, and by a name.
use Rattle.std.proofs.Common.{◌≡◌, inl, inr, ℕ, true, false, Bool, List, Option, Some, None, refl, sym, ap, ◌∙◌, subst}
use Rattle.std.specs.Prelude.{◌&&◌, ◌||◌, not, if◌then◌else◌, bytes_eq}
use Rattle.std.specs.Option.{option_and_then, option_map}
use Rattle.nfs2_types.specs.Names.{is_dot, name_dot, name_dots}
use Rattle.server_trait.specs.Tree.{Tree}
use Rattle.server_trait.proofs.TreeLaws.{some_none, one_or_not}
use Rattle.server_trait.specs.declared.bench.ConfEntry.{ConfEntry}
use Rattle.server_trait.specs.declared.bench.ConfTable.{ConfTable}
use Rattle.abs_model.specs.declared.entry.Object.{Object}
use Rattle.abs_model.specs.declared.entry.Object.TheVariants.{Null, File, Dir, Link}
use Rattle.abs_model.specs.declared.entry.Entry.{Entry}
use Rattle.abs_model.specs.Objects.{is_null, is_dir, names_of}
use Rattle.abs_model.specs.Array.{entry_at, parent, target, has_name}
use Rattle.abs_model.proofs.Facts.{dir_is}
use Rattle.conf_map.specs.declared.table.Located.{Located}
use Rattle.conf_map.specs.Stands.{handle_at, LeadTo, StandValid}
use Rattle.conf_map.specs.Tables.{IsLive}
use Rattle.conf_map.specs.Found.{NameFound}
use Rattle.conf_map.proofs.Frames.{entry_at-some, handle_of_row}
use Rattle.conf_map.proofs.LiveRows.{at_handle, at_live}
use Rattle.conf_map.proofs.Fattrs.{parent_agrees}
use Rattle.wrap_read.specs.Reads.{parent_in, StepFound}

-- an entry that has a name is live
named_live : (g : ℕ) (o : Object) (i : ℕ) → LeadTo (names_of (record { generation = g; object = o })) i →
    is_null (record { generation = g; object = o }) ≡ false
named_live g Null i l = absurd (some_none l.2 refl)
named_live g (File a b) i l = refl
named_live g (Link a b) i l = refl
named_live g (Dir a b) i l = refl

module _ (s : Option Tree) (table : ConfTable) (A : List Entry) (k : StandValid s table A) (d : Located)
    (is : IsLive table.rows.items d) (is_d : is_dir (entry_at A d.index) ≡ true) where
  -- the parent of a directory is live
  pub parent_found : (l : Located) × (parent_in table.rows.items d.index ≡ Some l) × (parent A d.index ≡ l.index)
      × IsLive table.rows.items l
  parent_found =
      let e = at_handle s table A k.stands d.index d.handle is in
      let dir = ap is_dir (sym (entry_at-some A d.index e.2 e.3.is_entry)) ∙ is_d in
      let p = parent_agrees k.limits s table A k.stands k.valid d.index d.handle e.0 e.1 e.2 e.3 dir in
      let lead = (k.stands.each d.index e.0 e.2 e.3.is_row e.3.is_entry).parent dir in
      let live : is_null (entry_at A e.0.parent) ≡ false = elim (one_or_not d.index 0) as
      (λ _. is_null (entry_at A e.0.parent) ≡ false) [
        | inl e' ↦ ap (λ p. is_null (entry_at A p)) (lead.0 e') ∙ (dir_is (entry_at A 0) k.valid.root).null
        | inr ne ↦ named_live (entry_at A e.0.parent).generation (entry_at A e.0.parent).object d.index (lead.1 ne)
      ] in
      let h = at_live s table A k.stands e.0.parent live in
      let at : handle_at table.rows.items e.0.parent ≡ Some h.0 =
      handle_of_row table.rows.items e.0.parent h.1 h.3.is_row ∙ h.3.is_handle in (
        record { index = e.0.parent; handle = h.0 },
        ap (option_and_then (λ (r : ConfEntry). option_map
            (λ (h : List ℕ). let l : Located = record { index = r.parent; handle = h } in l)
            (handle_at table.rows.items r.parent))) e.3.is_row
            ∙ ap (option_map (λ (h : List ℕ). let l : Located = record { index = e.0.parent; handle = h } in l)) at,
        sym p,
        at,
      )

  -- a step to the parent
  pub parent_step : (name : List ℕ) → bytes_eq name name_dot ≡ false → bytes_eq name name_dots ≡ true →
      StepFound A table.rows.items d.index name (parent_in table.rows.items d.index)
  parent_step name dot dots =
      let l = parent_found in
      subst (StepFound A table.rows.items d.index name) (sym l.1) (record {
        present = ap (λ b. not (b || bytes_eq name name_dots) && not (has_name A d.index name)) dot
            ∙ ap (λ b. not b && not (has_name A d.index name)) dots;
        index = ap (λ b. if b then d.index else if bytes_eq name name_dots then parent A d.index else target A d.index name) dot
            ∙ ap (λ b. if b then parent A d.index else target A d.index name) dots ∙ l.2;
        live = l.3;
      })

-- a step by another name
pub name_step : (A : List Entry) (rows : List ConfEntry) (d : ℕ) (name : List ℕ) (o : Option Located) →
    bytes_eq name name_dot ≡ false → bytes_eq name name_dots ≡ false → NameFound A rows d name o →
    StepFound A rows d name o
name_step A rows d name None dot dots lacks =
    ap (λ b. not (b || bytes_eq name name_dots) && not (has_name A d name)) dot
    ∙ ap (λ b. not b && not (has_name A d name)) dots ∙ ap not lacks
name_step A rows d name (Some at) dot dots led = record {
  present = ap (λ b. not (is_dot name) && not b) led.has ∙ last (not (is_dot name));
  index = ap (λ b. if b then d else if bytes_eq name name_dots then parent A d else target A d name) dot
      ∙ ap (λ b. if b then parent A d else target A d name) dots ∙ led.target;
  live = led.live;
}
  where
    last : (b : Bool) → (b && false) ≡ false
    last true = refl
    last false = refl
