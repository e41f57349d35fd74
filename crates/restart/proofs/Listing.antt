-- What a listing of a directory gives after a reboot, and that a walk through all directories finds every row.
use Rattle.std.proofs.Common.{◌≡◌, ℕ, zero, suc, true, false, List, Option, Some, None, IsSomeAnd, IsSome, is_some, length, slice_get, refl, sym, ap, ◌∙◌, subst}
use Rattle.std.specs.Option.{option_map}
use Rattle.std.specs.FinMap.{get}
use Rattle.std.proofs.lemmas.Option.{slice_get_within}
use Rattle.server_trait.specs.Tree.{Tree, Names, names_at}
use Rattle.server_trait.specs.Calls.{Lists}
use Rattle.server_trait.proofs.TreeLaws.{some_and, is_some_and, some_same}
use Rattle.server_trait.specs.declared.server.Listed.{Listed}
use Rattle.server_trait.specs.declared.bench.ConfEntry.{ConfEntry}
use Rattle.server_trait.specs.declared.bench.ConfTable.{ConfTable}
use Rattle.abs_model.specs.declared.entry.NameRow.{NameRow}
use Rattle.abs_model.specs.declared.entry.Entry.{Entry}
use Rattle.abs_model.specs.Objects.{is_dir, is_null, names_of, row_of}
use Rattle.abs_model.specs.Array.{entry_at}
use Rattle.abs_model.specs.Valid.{Walk}
use Rattle.abs_model.proofs.Climbs.{on_is_dir}
use Rattle.abs_model.proofs.Facts.{dir_is}
use Rattle.conf_map.specs.Stands.{handle_at, Leads, SameNames}
use Rattle.conf_map.proofs.ArrayFacts.{any_at, fits_at, within_at, live_within}
use Rattle.conf_map.proofs.Frames.{entry_at-some}
use Rattle.conf_map.proofs.LiveRows.{at_handle}
use Rattle.conf_map.proofs.RowFacts.{row_of-at}
use Rattle.conf_map.proofs.Targets.{dir_map}
use Rattle.restart.specs.Walk.{Restarts, is_found, IsGoing, AreFoundIn, AreLive, AreSeen}
use Rattle.restart.specs.declared.found.Found.{Found}
use Rattle.restart.proofs.Rebooted.{MovedNames, moved_names}

leads_from : (rows : List ConfEntry) (h : List ℕ) (o : Option NameRow) → Leads rows (Some h) o → (row : NameRow) × (o ≡ Some row) × (handle_at rows row.index ≡ Some h)
leads_from rows h None l = absurd l
leads_from rows h (Some row) l = (row, refl, l)

leads_some : (rows : List ConfEntry) (x : Option (List ℕ)) (row : NameRow) → Leads rows x (Some row) → (h : List ℕ) × (x ≡ Some h) × (handle_at rows row.index ≡ Some h)
leads_some rows None row l = absurd l
leads_some rows (Some h) row l = (h, refl, l)

of_map : (new : List ℕ → List ℕ) (o : Option (List ℕ)) (q : List ℕ) → option_map new o ≡ Some q → (x : List ℕ) × (o ≡ Some x) × (q ≡ new x)
of_map new None q is = absurd (let bad : None ≡ Some q = is in cc)
of_map new (Some x) q is = (x, refl, (let same : q ≡ new x = cc in same))

module _ (s : Option Tree) (table : ConfTable) (A : List Entry) (k : Restarts s table A) (d : ℕ) (h : List ℕ) (live : handle_at table.rows.items d ≡ Some h) (dir : is_dir (entry_at A d) ≡ true) where
  -- the names of before and of now
  pub record Names2 : Type 0 where
    pub old : Names
    pub same : SameNames table.rows.items (names_of (entry_at A d)) old
    pub new_names : MovedNames k.new old (names_at k.now (k.new h))

  pub names_of_dir : Names2
  names_of_dir =
      let r = at_handle k.before table A k.stands d h live in
      let e : entry_at A d ≡ r.2 = entry_at-some A d r.2 r.3.is_entry in
      let m = dir_map k.before table A k.stands d h r.0 r.1 r.2 r.3 (sym (ap is_dir e) ∙ dir) in
      record { old = m.0; same = subst (λ e. SameNames table.rows.items (names_of e) m.0) (sym e) m.2; new_names = moved_names k.new k.stands.tree k.now k.moved h m.0 m.1 }

  -- each handle of the listing is the new one of a live row
  pub listed_live : (rows : List Listed) (j : ℕ) (row : Listed) → IsSomeAnd (names_at k.now (k.new h)) (Lists rows) → slice_get rows j ≡ Some row →
      (i : ℕ) × (x : List ℕ) × (handle_at table.rows.items i ≡ Some x) × (row.handle ≡ k.new x)
  listed_live rows j row lists at =
      let n = names_of_dir in
      let l = some_and (names_at k.now (k.new h)) (Lists rows) lists in
      let is : get n.new_names.names row.name ≡ Some row.handle = ap (λ m. get m row.name) (some_same n.new_names.is l.1) ∙ l.2.sound j row at in
      let x = of_map k.new (get n.old row.name) row.handle (sym (n.new_names.leads row.name) ∙ is) in
      let r = leads_from table.rows.items x.0 (row_of row.name (names_of (entry_at A d))) (subst (λ o. Leads table.rows.items o (row_of row.name (names_of (entry_at A d)))) x.1 (n.same row.name)) in
      (r.0.index, x.0, r.2, x.2)

  -- and each name of the entry stands in the listing
  pub listed_all : (rows : List Listed) (name : List ℕ) (row : NameRow) → IsSomeAnd (names_at k.now (k.new h)) (Lists rows) → row_of name (names_of (entry_at A d)) ≡ Some row →
      (j : ℕ) × (r : Listed) × (x : List ℕ) × (slice_get rows j ≡ Some r) × (handle_at table.rows.items row.index ≡ Some x) × (r.handle ≡ k.new x)
  listed_all rows name row lists is =
      let n = names_of_dir in
      let l = some_and (names_at k.now (k.new h)) (Lists rows) lists in
      let x = leads_some table.rows.items (get n.old name) row (subst (Leads table.rows.items (get n.old name)) is (n.same name)) in
      let now : get l.0 name ≡ Some (k.new x.0) = ap (λ m. get m name) (some_same l.1 n.new_names.is) ∙ n.new_names.leads name ∙ ap (option_map k.new) x.1 in
      let c = l.2.complete name (k.new x.0) now in
      (c.0, record { name = name; handle = k.new x.0 }, x.0, c.1, x.2, refl)

  -- with every handle of the listing noted, the directory was gone through
  pub gone_through : (rows : List Listed) (f : Found) → IsSomeAnd (names_at k.now (k.new h)) (Lists rows) →
      ((j i : ℕ) (r : Listed) (x : List ℕ) → slice_get rows j ≡ Some r → handle_at table.rows.items i ≡ Some x → r.handle ≡ k.new x → is_found f i ≡ true) → AreFoundIn A f d
  gone_through rows f lists all name row is = let c = listed_all rows name row lists is in all c.0 row.index c.1 c.2 c.3 c.4 c.5

  -- there is a directory to list
  pub has_names : (q : List ℕ) → q ≡ k.new h → IsSomeAnd s (λ t. IsSome (names_at t q))
  has_names q is = is_some_and (λ t. IsSome (names_at t q)) k.has_tree (ap is_some (ap (names_at k.now) is ∙ names_of_dir.new_names.is))

  -- what the server lists
  lists_now : (q : List ℕ) (rows : List Listed) → q ≡ k.new h → ((t : Tree) → s ≡ Some t → IsSomeAnd (names_at t q) (Lists rows)) → IsSomeAnd (names_at k.now (k.new h)) (Lists rows)
  lists_now q rows is lists = subst (λ q. IsSomeAnd (names_at k.now q) (Lists rows)) is (lists k.now k.has_tree)

  pub all_live : (q : List ℕ) (rows : List Listed) → q ≡ k.new h → ((t : Tree) → s ≡ Some t → IsSomeAnd (names_at t q) (Lists rows)) → AreLive table k.new rows
  all_live q rows is lists j row at = listed_live rows j row (lists_now q rows is lists) at

  pub all_gone : (q : List ℕ) (rows : List Listed) (f : Found) → q ≡ k.new h → ((t : Tree) → s ≡ Some t → IsSomeAnd (names_at t q) (Lists rows)) → AreSeen table k.new rows (length rows) f → AreFoundIn A f d
  all_gone q rows f is lists seen = gone_through rows f (lists_now q rows is lists) (λ j i r x at live' e. seen j i r x (slice_get_within rows j r at) at live' e)

-- THE WHOLE WALK

module _ (s : Option Tree) (table : ConfTable) (A : List Entry) (k : Restarts s table A) (f : Found) (g : IsGoing table k.new A f)
    (all : (j d : ℕ) → slice_get f.dirs.items j ≡ Some d → AreFoundIn A f d) where
  goes : (n i j : ℕ) → Walk A n i j → is_found f i ≡ true → is_found f j ≡ true
  goes zero i j walk here = subst (λ x. is_found f x ≡ true) walk here
  goes (suc n) i j walk here =
      let dir = on_is_dir A i walk.0 walk.1 in
      let e = within_at A i (live_within A i (dir_is (entry_at A i) dir).null) in
      let r = any_at (names_of (entry_at A i)) walk.0 walk.1 in
      let found = row_of-at (names_of (entry_at A i)) r.0 r.1 (fits_at k.limits A k.valid i (entry_at A i) e).rising r.2 in
      let at = g.all_dirs i here dir in
      goes n walk.0 j walk.2 (subst (λ x. is_found f x ≡ true) r.3 (all at.0 i at.1 r.1.name r.1 found))

  pub every : is_found f 0 ≡ true → (i : ℕ) → is_null (entry_at A i) ≡ false → is_found f i ≡ true
  every first i live = let r = k.valid.reached i live in goes r.0 0 i r.2 first
