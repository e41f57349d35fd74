-- The turns of a walk: each directory that was found is gone through.
use Rattle.std.proofs.Common.{Err, ◌≡◌, inl, inr, ℕ, ◌+◌, ◌<◌, ◌≤◌, true, List, Option, Some, is_some, length, slice_get, get_or, refl, sym, ap, ◌∙◌, subst, arith}
use Rattle.std.proofs.lemmas.List.Sums.{count_by-le-length}
use Rattle.std.proofs.lemmas.Option.{slice_get_within, slice_get-get_or}
use Rattle.nfs2_types.specs.Counts.{Rose}
use Rattle.server_trait.specs.Tree.{Tree, Server}
use Rattle.server_trait.specs.declared.bench.WrapErr.{WrapErr}
use Rattle.server_trait.specs.declared.bench.WrapErr.TheVariants.{Down, NoMemory}
use Rattle.server_trait.proofs.TreeLaws.{some_same, one_or_not}
use Rattle.server_trait.specs.declared.server.Listed.{Listed}
use Rattle.server_trait.specs.declared.bench.ConfTable.{ConfTable}
use Rattle.abs_model.specs.declared.entry.Entry.{Entry}
use Rattle.abs_model.specs.Objects.{is_dir}
use Rattle.abs_model.specs.Array.{entry_at}
use Rattle.conf_map.specs.Notice.{Watched, Counted}
use Rattle.conf_map.specs.Stands.{handle_at}
use Rattle.restart.specs.Rows.{handle_of}
use Rattle.restart.specs.Walk.{Restarts, is_found, IsGoing, Grows, AreSeen, AreFoundIn, IsTurn}
use Rattle.restart.specs.declared.found.Found.{Found}

-- a server whose tree is the same restarts alike
abbrev pub still : (s s' : Option Tree) (table : ConfTable) (A : List Entry) → s' ≡ s → Restarts s table A → Restarts s' table A
still s s' table A e k = record { limits = k.limits; valid = k.valid; before = k.before; stands = k.stands; now = k.now; has_tree = e ∙ k.has_tree; new = k.new; moved = k.moved }

pub grows_not : (f : Found) → Grows f f
grows_not f = record { size = refl; found = λ i is. is; dirs = λ j i is. is }

pub grows_on : (f g h : Found) → Grows f g → Grows g h → Grows f h
grows_on f g h a b = record { size = b.size ∙ a.size; found = λ i is. b.found i (a.found i is); dirs = λ j i is. b.dirs j i (a.dirs j i is) }

-- one handle more is seen
pub seen_more : (table : ConfTable) (new : List ℕ → List ℕ) (listed : List Listed) (n i : ℕ) (h : List ℕ) (row : Listed) (f f' : Found) → slice_get listed n ≡ Some row → handle_at table.rows.items i ≡ Some h → row.handle ≡ new h →
    ((i : ℕ) (x : List ℕ) → handle_at table.rows.items i ≡ Some x → row.handle ≡ new x → is_found f' i ≡ true) → Grows f f' → AreSeen table new listed n f → AreSeen table new listed (n + 1) f'
seen_more table new listed n i h row f f' at live is here grows seen j i' r x below at_j live' is' = elim (one_or_not j n) as (λ _. is_found f' i' ≡ true) [
  | inl e ↦ here i' x live' (ap (λ (r : Listed). r.handle) (some_same at (ap (slice_get listed) (sym e) ∙ at_j)) ∙ is')
  | inr ne ↦ grows.found i' (seen j i' r x (omega (arith, below, ne)) at_j live' is')
]

-- a directory that was found, by its place and its new handle
pub record FoundDir (table : ConfTable) (new : List ℕ → List ℕ) (A : List Entry) (f : Found) (turn d : ℕ) (q : List ℕ) : Type 0 where
  pub at : slice_get f.dirs.items turn ≡ Some d
  pub handle : List ℕ
  pub live : handle_at table.rows.items d ≡ Some handle
  pub is_new : q ≡ new handle
  pub dir : is_dir (entry_at A d) ≡ true

pub found_dir : (table : ConfTable) (new : List ℕ → List ℕ) (A : List Entry) (f : Found) (turn d e : ℕ) (q : List ℕ) → IsGoing table new A f → turn < length f.dirs.items → d ≡ get_or f.dirs.items turn e → handle_of f.handles.items d ≡ Some q → FoundDir table new A f turn d q
found_dir table new A f turn d e q g below is found =
    let at : slice_get f.dirs.items turn ≡ Some d = slice_get-get_or f.dirs.items turn e below ∙ ap Some (sym is) in
    let r = g.right d q found in
    record { at = at; handle = r.0; live = r.1; is_new = r.2; dir = (g.dirs_found turn d at).1 }

-- ALL TURNS

-- the directories at the first places were gone through
abbrev pub AreDone : List Entry → Found → ℕ → Type 0
AreDone A f n = (j d : ℕ) → j < n → slice_get f.dirs.items j ≡ Some d → AreFoundIn A f d

still_found : (A : List Entry) (f f' : Found) (d : ℕ) → Grows f f' → AreFoundIn A f d → AreFoundIn A f' d
still_found A f f' d grows all name row is = grows.found row.index (all name row is)

-- one turn more
pub turn_more : (A : List Entry) (f f' : Found) (n : ℕ) → Grows f f' → IsTurn A f n true f' → AreDone A f n → AreDone A f' (n + 1)
turn_more A f f' n grows t done j d below at = elim (one_or_not j n) as (λ _. AreFoundIn A f' d) [
  | inl e ↦ subst (AreFoundIn A f') (some_same (grows.dirs n t.0 t.1) (ap (slice_get f'.dirs.items) (sym e) ∙ at)) t.2
  | inr ne ↦
      let within = slice_get_within f.dirs.items n t.0 t.1 in
      let old = slice_get-get_or f.dirs.items j d (omega (arith, below, ne, within)) in
      let same = some_same (grows.dirs j (get_or f.dirs.items j d) old) at in
      still_found A f f' d grows (done j d (omega (arith, below, ne)) (old ∙ ap Some same))
]

-- no turn is left
pub all_done : (A : List Entry) (f : Found) (n : ℕ) → length f.dirs.items ≤ n → AreDone A f n → (j d : ℕ) → slice_get f.dirs.items j ≡ Some d → AreFoundIn A f d
all_done A f n most done j d at = done j d (let b = slice_get_within f.dirs.items j d at in omega (arith, b, most)) at

-- there are no more directories than rows
pub few_dirs : (table : ConfTable) (new : List ℕ → List ℕ) (A : List Entry) (f : Found) → IsGoing table new A f → length f.dirs.items ≤ length table.rows.items
few_dirs table new A f g = let few = g.few in let most = count_by-le-length (λ (o : Option (List ℕ)). is_some o) f.handles.items in let size = g.size in omega (arith, few, most, size)

-- an error after calls that left limits and count as they were
pub watched_on : {T U : Type 0} (old mid new : Server) (e : WrapErr) → mid.limits ≡ old.limits → mid.faults ≡ old.faults → Watched {T = T} mid new (Err e) → Watched {T = U} old new (Err e)
watched_on {T} {U} old mid new e limits faults w = record { limits = w.limits ∙ limits; faults = counted e w.faults }
  where
    counted : (e : WrapErr) → Counted {T = T} mid.faults new.faults (Err e) → Counted {T = U} old.faults new.faults (Err e)
    counted Down k = subst (λ n. (n ≤ new.faults) × Rose n new.faults) faults k
    counted NoMemory k = k ∙ faults
